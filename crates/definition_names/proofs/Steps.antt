-- Walks from the last name to the first.
use Rattle.std.proofs.Common.{ℕ, ◌+◌, ◌<◌, ◌∙◌, [], ◌∷◌, ◌++◌, ◌≡◌, ◌&&◌, Bool, true, false, List, Option, Some, Result}
use Rattle.std.proofs.Common.{Ok, Err, OnOk, ap, cond, drop, get_or, length, map, refl, sym, take}
use Rattle.std.proofs.lemmas.List.{drop_more, take_more}
use Rattle.std.specs.List.{position_from}

-- the first place from a place on is that place where its item passes, and else one of the next ones
pub first_from : {X Y : Type 0} (test : Y → Bool) (f : X → Y) (xs : List X) (i n : ℕ) (x : X) → i + 1 ≡ n
    → i < length xs → x ≡ get_or xs i x
    → cond (test (f x)) (Some i) (position_from test n (map f (drop n xs))) ≡ position_from test i (map f (drop i xs))
first_from test f xs i n x next low at =
    sym
    (ap (λ l. position_from test i (map f l)) (drop_more xs i x low ∙ (λ p. sym at p ∷ drop (next p) xs))
    ∙ ap (λ m. cond (test (f x)) (Some i) (position_from test m (map f (drop n xs)))) next)

-- an index of the names from the next one on, with the name at a place, is one of those from that place on
pub put_at : {X Y : Type 0} (test : Y → Bool) (f : X → Y) (xs : List X) (i n : ℕ) (x : X) (old new : Option ℕ)
    → i + 1 ≡ n → i < length xs → x ≡ get_or xs i x → new ≡ cond (test (f x)) (Some i) old
    → old ≡ position_from test n (map f (drop n xs)) → new ≡ position_from test i (map f (drop i xs))
put_at test f xs i n x old new next low at put before =
    put ∙ (ap (cond (test (f x)) (Some i)) before ∙ first_from test f xs i n x next low at)

-- the same where the items themselves are tested
pub put_on : {X : Type 0} (test : X → Bool) (xs : List X) (i n : ℕ) (x : X) (old new : Option ℕ)
    → i + 1 ≡ n → i < length xs → x ≡ get_or xs i x → new ≡ cond (test x) (Some i) old
    → old ≡ position_from test n (drop n xs) → new ≡ position_from test i (drop i xs)
put_on test xs i n x old new next low at put before =
    put
    ∙ (ap (cond (test x) (Some i)) before
    ∙ sym
    (ap (λ l. position_from test i l) (drop_more xs i x low ∙ (λ p. sym at p ∷ drop (next p) xs))
    ∙ ap (λ m. cond (test x) (Some i) (position_from test m (drop n xs))) next))

-- an entry of another stream, and of the own one
pub other_entry : (b t : Bool) (place old new : Option ℕ) → b ≡ false → new ≡ cond (b && t) place old → new ≡ old
other_entry b t place old new apart put = put ∙ ap (λ c. cond (c && t) place old) apart

pub own_entry : (b t : Bool) (place old new : Option ℕ) → b ≡ true → new ≡ cond (b && t) place old
    → new ≡ cond t place old
own_entry b t place old new same put = put ∙ ap (λ c. cond (c && t) place old) same

-- what holds where a call succeeded
pub on_ok : {T E P Q : Type 0} (r : Result T E) → (P → Q) → OnOk r P → OnOk r Q
on_ok (Ok x) f h = f h
on_ok (Err e) f h = tt

-- what is seen of the names so far, with one more
map_push : {X Y : Type 0} (f : X → Y) (xs : List X) (x : X) → map f (xs ++ x ∷ []) ≡ map f xs ++ f x ∷ []
map_push f [] x = refl
map_push f (y ∷ ys) x = ap (λ l. f y ∷ l) (map_push f ys x)

pub keys_more : {K X A : Type 0} (see : K → A) (f : X → A) (xs : List X) (i : ℕ) (x : X) (old new : List K) (k : K)
    → i < length xs → x ≡ get_or xs i x → new ≡ old ++ k ∷ [] → map see old ≡ map f (take i xs) → see k ≡ f x
    → map see new ≡ map f (take (i + 1) xs)
keys_more see f xs i x old new k low at grown before is =
    ap (map see) grown
    ∙ (map_push see old k
    ∙ ((λ j. before j ++ (is ∙ ap f at) j ∷ [])
    ∙ (sym (map_push f (take i xs) (get_or xs i x)) ∙ ap (map f) (sym (take_more xs i x low)))))
