-- What holds of lists, of their fronts and of what is left of them.
use Rattle.std.proofs.Common.{Bool, List, None, Option, Some, [], add-one, ap, append_assoc, arith, cond, drop}
use Rattle.std.proofs.Common.{drop-cons, false, filter, filter_map, flat_map, get_or, length, map, refl, reverse}
use Rattle.std.proofs.Common.{slice_get, slice_index, subst, suc, sym, take, true, zero, ℕ, ◌++◌, ◌+◌, ◌-◌, ◌<◌, ◌||◌}
use Rattle.std.proofs.Common.{◌∙◌, ◌∷◌, ◌≡◌, ◌≤◌}
use Rattle.std.proofs.Math.Seq.{take-length}
use Rattle.std.proofs.lemmas.List.{drop_all, drop_more, map-append, reverse-append}
use Rattle.std.proofs.lemmas.List.Folds.{list_any-append}
use Rattle.std.proofs.lemmas.List.Sums.{length-filter}
use Rattle.std.proofs.lemmas.Option.{slice_get_read}
use Rattle.std.specs.List.{AllByRecursion, cons_option, list_any}
use Rattle.std.specs.Option.{option_to_list}
use Rattle.std.specs.Prelude.{count_by, ◌&&◌}
use Rattle.lemmas.proofs.Booleans.{or_false, or_regroup}
use Rattle.lemmas.proofs.Options.{cons_is, some_same}

-- the last item stands behind all before it
pub index_last : (xs : List ℕ) (y : ℕ) → slice_index (xs ++ y ∷ []) (length xs) ≡ y
index_last [] y = refl
index_last (z ∷ zs) y = index_last zs y

-- what stands behind the first byte is all the rest
pub behind_first : (c : ℕ) (cs : List ℕ) → take (length (c ∷ cs) - 1) (drop 1 (c ∷ cs)) ≡ cs
behind_first c cs = let e : length (c ∷ cs) - 1 ≡ length cs = omega arith in rw e (take-length cs)

-- what is left begins with the item at this place
pub drop_here : {X : Type 0} (xs : List X) (i : ℕ) (x : X) → i < length xs → x ≡ get_or xs i x
    → drop i xs ≡ x ∷ drop (i + 1) xs
drop_here xs i x low at = drop_more xs i x low ∙ ap (λ y. y ∷ drop (i + 1) xs) (sym at)

-- what is put down is no longer left
pub regroup : {Y : Type 0} (all now new own rest : List Y) → new ≡ now ++ own → all ≡ now ++ (own ++ rest) → all ≡ new ++ rest
regroup all now new own rest is before =
    before ∙ (sym (append_assoc now own rest) ∙ ap (λ l. l ++ rest) (sym is))

-- a list that is made item by item has one item more
pub mapped_more : {X Y : Type 0} (f : X → Y) (xs : List X) (i : ℕ) (x : X) (all now new : List Y)
    → i < length xs → x ≡ get_or xs i x → new ≡ now ++ f x ∷ []
    → all ≡ now ++ map f (drop i xs) → all ≡ new ++ map f (drop (i + 1) xs)
mapped_more f xs i x all now new low at is before =
    regroup all now new (f x ∷ []) (map f (drop (i + 1) xs)) is
    (before ∙ ap (λ l. now ++ l) (ap (map f) (drop_here xs i x low at)))

-- a list that is turned round and made is one that is made and turned round
pub map_turned : {X Y : Type 0} (f : X → Y) (xs : List X) → reverse (map f xs) ≡ map f (reverse xs)
map_turned f [] = refl
map_turned f (x ∷ xs) =
    reverse-append (f x ∷ []) (map f xs) ∙ ap (λ l. l ++ f x ∷ []) (map_turned f xs)
    ∙ sym (map-append f (reverse xs) (x ∷ [])) ∙ ap (map f) (sym (reverse-append (x ∷ []) xs))

-- a list of one item gives what this item gives
pub one_filtered : {A B : Type 0} (f : A → Option B) (a : A) → filter_map f (a ∷ []) ≡ option_to_list (f a)
one_filtered {A} {B} f a = go (f a) refl
  where
    go : (o : Option B) → f a ≡ o → filter_map f (a ∷ []) ≡ option_to_list o
    go None e = rw e refl
    go (Some b) e = rw e refl

-- a list of what items give has one gift more, if there is one
pub filtered_more : {X Y : Type 0} (f : X → Option Y) (xs : List X) (i : ℕ) (x : X) (all now new : List Y)
    → i < length xs → x ≡ get_or xs i x → new ≡ now ++ option_to_list (f x)
    → all ≡ now ++ filter_map f (drop i xs) → all ≡ new ++ filter_map f (drop (i + 1) xs)
filtered_more f xs i x all now new low at is before =
    regroup all now new (option_to_list (f x)) (filter_map f (drop (i + 1) xs)) is
    (before
    ∙ ap (λ l. now ++ l)
    (ap (filter_map f) (drop_here xs i x low at) ∙ cons_is (f x) (filter_map f (drop (i + 1) xs))))

-- items give no more than one each
pub filter_map_short : {X Y : Type 0} (f : X → Option Y) (xs : List X) → length (filter_map f xs) ≤ length xs
filter_map_short f [] = omega arith
filter_map_short {X} {Y} f (x ∷ xs) = go (f x) (filter_map_short f xs)
  where
    go : (o : Option Y) → length (filter_map f xs) ≤ length xs
        → length (cons_option o (filter_map f xs)) ≤ suc (length xs)
    go None h = omega arith
    go (Some y) h = omega arith

-- what holds of all that items give holds of the list that is made
pub all_map : {A B : Type 0} (P : B → Type 0) (f : A → B) (xs : List A)
    → AllByRecursion (λ a. P (f a)) xs → AllByRecursion P (map f xs)
all_map P f [] h = tt
all_map P f (x ∷ xs) h = (h.0, all_map P f xs h.1)

-- what holds of all items of two lists holds of both as one
pub all_append : {X : Type 0} (P : X → Type 0) (xs ys : List X) → AllByRecursion P xs → AllByRecursion P ys
    → AllByRecursion P (xs ++ ys)
all_append P [] ys h k = k
all_append P (x ∷ xs) ys h k = (h.0, all_append P xs ys h.1 k)

-- what holds of all lists that items give holds of these lists as one
pub flat_all : {A B : Type 0} (Q : B → Type 0) (f : A → List B) (xs : List A)
    → AllByRecursion (λ a. AllByRecursion Q (f a)) xs → AllByRecursion Q (flat_map f xs)
flat_all Q f [] h = tt
flat_all Q f (x ∷ xs) h = all_append Q (f x) (flat_map f xs) h.0 (flat_all Q f xs h.1)

-- it is one which of two conditions is asked first
pub either_first : {X : Type 0} (p q : X → Bool) (xs : List X) → filter p (filter q xs) ≡ filter q (filter p xs)
either_first p q [] = refl
either_first {X} p q (x ∷ xs) = go (p x) (q x) refl refl (either_first p q xs)
  where
    go : (a b : Bool) → p x ≡ a → q x ≡ b → filter p (filter q xs) ≡ filter q (filter p xs)
        → filter p (filter q (x ∷ xs)) ≡ filter q (filter p (x ∷ xs))
    go true true e f h = rw (e, f, e) (ap (λ (l : List X). x ∷ l) h)
    go true false e f h = rw (e, f) h
    go false true e f h = rw (e, f, e) h
    go false false e f h = rw (e, f) h

-- it is one which of two conditions is asked first, when it is counted
pub count_both : {X : Type 0} (p q : X → Bool) (xs : List X) → count_by p (filter q xs) ≡ count_by q (filter p xs)
count_both p q xs =
    sym (length-filter p (filter q xs)) ∙ ap length (either_first p q xs) ∙ length-filter q (filter p xs)

-- two conditions are asked as one
pub filter_filter : {X : Type 0} (p q : X → Bool) (xs : List X)
    → filter p (filter q xs) ≡ filter (λ (x : X). q x && p x) xs
filter_filter p q [] = refl
filter_filter {X} p q (x ∷ xs) = go (p x) (q x) (filter_filter p q xs) refl
  where
    go : (a b : Bool) → filter p (filter q xs) ≡ filter (λ (y : X). q y && p y) xs → p x ≡ a
        → filter p (cond b (x ∷ filter q xs) (filter q xs))
        ≡ cond (b && a) (x ∷ filter (λ (y : X). q y && p y) xs) (filter (λ (y : X). q y && p y) xs)
    go true true h e = rw (e, h) refl
    go false true h e = rw (e, h) refl
    go true false h e = h
    go false false h e = h

-- what follows from what holds of all items holds of all
pub all_such : {X : Type 0} (P Q : X → Type 0) (xs : List X) → ((x : X) → P x → Q x) → AllByRecursion P xs
    → AllByRecursion Q xs
all_such P Q [] f h = tt
all_such P Q (x ∷ xs) f h = (f x h.0, all_such P Q xs f h.1)

-- an empty list has no item in its middle
pub no_middle : {A : Type 0} (above below : List A) (a : A) → [] ≡ above ++ a ∷ below → ⊥
no_middle [] below a e = cc
no_middle (x ∷ above) below a e = cc

-- lists that differ at a place differ
pub not_alike : {X : Type 0} (a b : List X) (i : ℕ) (x y : X) → slice_get a i ≡ Some x → slice_get b i ≡ Some y
    → (x ≡ y → ⊥) → a ≡ b → ⊥
not_alike {X} a b i x y there here apart e =
    apart (some_same x y (sym there ∙ ap (λ (l : List X). slice_get l i) e ∙ here))

-- an item stands where it stood when more is put behind
pub get_in_front : {X : Type 0} (xs ys : List X) (k : ℕ) (x : X) → slice_get xs k ≡ Some x → slice_get (xs ++ ys) k ≡ Some x
get_in_front [] ys k x e = cc
get_in_front (z ∷ xs) ys zero x e = e
get_in_front (z ∷ xs) ys (suc k) x e = get_in_front xs ys k x e

-- of a front a shorter front is a front of the whole
pub take_less : {X : Type 0} (m n : ℕ) (xs : List X) → m ≤ n → take m (take n xs) ≡ take m xs
take_less zero n xs le = refl
take_less (suc m) zero xs le = absurd (omega (arith, le))
take_less (suc m) (suc n) [] le = refl
take_less (suc m) (suc n) (x ∷ xs) le = ap (λ l. x ∷ l) (take_less m n xs (omega (arith, le)))

-- one of two lists has such an item where both as one have
pub any_append : {X : Type 0} (P : X → Bool) (xs ys : List X) → list_any P (xs ++ ys) ≡ (list_any P xs || list_any P ys)
any_append P [] ys = refl
any_append P (x ∷ xs) ys = ap (λ b. P x || b) (any_append P xs ys) ∙ or_regroup (P x) (list_any P xs) (list_any P ys)

-- a list with one more item has such an item where it had one or this is one
pub any_with : {A : Type 0} (p : A → Bool) (xs : List A) (a : A) → list_any p (xs ++ a ∷ []) ≡ (list_any p xs || p a)
any_with p xs a = list_any-append p xs (a ∷ []) ∙ ap (λ b. list_any p xs || b) (or_false (p a))

-- a text that is written item by item has one item more
pub left_further : {X : Type 0} (f : X → List ℕ) (xs : List X) (i : ℕ) (x : X) (whole now new : List ℕ) → i < length xs
    → x ≡ get_or xs i x → whole ≡ now ++ flat_map f (drop i xs) → new ≡ now ++ f x
    → whole ≡ new ++ flat_map f (drop (i + 1) xs)
left_further f xs i x whole now new low is before put =
    let cut : drop i xs ≡ x ∷ drop (i + 1) xs =
    drop-cons xs i x low ∙ ap (λ y. y ∷ drop (suc i) xs) (sym is) ∙ ap (λ n. x ∷ drop n xs) (sym (add-one i)) in
    before ∙ ap (λ l. now ++ flat_map f l) cut ∙ sym (append_assoc now (f x) (flat_map f (drop (i + 1) xs)))
    ∙ ap (λ l. l ++ flat_map f (drop (i + 1) xs)) (sym put)

-- what holds of all items holds of one in the middle
pub all_middle : {X : Type 0} (P : X → Type 0) (front back : List X) (x : X) → AllByRecursion P (front ++ x ∷ back) → P x
all_middle P [] back x h = h.0
all_middle P (y ∷ front) back x h = all_middle P front back x h.1

-- what holds of all items holds of those in front
pub all_left : {A : Type 0} (P : A → Type 0) (xs ys : List A) → AllByRecursion P (xs ++ ys) → AllByRecursion P xs
all_left P [] ys h = tt
all_left P (x ∷ xs) ys h = (h.0, all_left P xs ys h.1)

-- what holds of all items holds of those behind
pub all_right : {X : Type 0} (P : X → Type 0) (xs ys : List X) → AllByRecursion P (xs ++ ys) → AllByRecursion P ys
all_right P [] ys h = h
all_right P (x ∷ xs) ys h = all_right P xs ys h.1

-- what holds of all items holds of the one at a place
pub all_get : {A : Type 0} (P : A → Type 0) (xs : List A) (w : ℕ) (a : A) → AllByRecursion P xs → slice_get xs w ≡ Some a → P a
all_get P [] w a all e = absurd (cc)
all_get P (x ∷ xs) zero a all e = let same : x ≡ a = cc in subst P same all.0
all_get P (x ∷ xs) (suc w) a all e = all_get P xs w a all.1 e

-- a front has the items of the whole
pub get_take : {X : Type 0} (xs : List X) (n i : ℕ) → i < n → slice_get (take n xs) i ≡ slice_get xs i
get_take [] zero i h = absurd (omega arith)
get_take [] (suc n) i h = refl
get_take (x ∷ xs) zero i h = absurd (omega arith)
get_take (x ∷ xs) (suc n) zero h = refl
get_take (x ∷ xs) (suc n) (suc i) h = get_take xs n i (omega arith)

-- an item that is put behind stands at the last place
pub get_last : {X : Type 0} (xs : List X) (x : X) → slice_get (xs ++ x ∷ []) (length xs) ≡ Some x
get_last [] x = refl
get_last (z ∷ zs) x = get_last zs x

-- the item at a place is found there
pub get_there : {X : Type 0} (xs : List X) (i : ℕ) (x : X) → i < length xs → x ≡ get_or xs i x → slice_get xs i ≡ Some x
get_there xs i x h is = slice_get_read xs (length xs) i x refl h is

-- what is left begins with the item that is found at this place
pub drop_some : {X : Type 0} (xs : List X) (n : ℕ) (x : X) → slice_get xs n ≡ Some x → drop n xs ≡ x ∷ drop (suc n) xs
drop_some [] zero x e = cc
drop_some [] (suc n) x e = cc
drop_some (y ∷ xs) zero x e = cc
drop_some (y ∷ xs) (suc n) x e = drop_some xs n x e

-- a front that is one longer ends with the item that is found at this place
pub take_suc : {X : Type 0} (xs : List X) (i : ℕ) (x : X) → slice_get xs i ≡ Some x
    → take (suc i) xs ≡ take i xs ++ x ∷ []
take_suc [] i x h = cc
take_suc (z ∷ zs) zero x h = cc
take_suc (z ∷ zs) (suc i) x h = ap (λ l. z ∷ l) (take_suc zs i x h)

-- a front that is one longer ends with the item that is found at this place
pub take_further : {X : Type 0} (xs : List X) (i : ℕ) (x : X) → slice_get xs i ≡ Some x
    → take (i + 1) xs ≡ take i xs ++ x ∷ []
take_further xs i x h = rw add-one (take_suc xs i x h)

-- where a place is inside, an item stands there, and what is left begins with it
pub first_left : {X : Type 0} (xs : List X) (i : ℕ) → i < length xs
    → (x : X) × ((drop i xs ≡ x ∷ drop (suc i) xs) × (slice_get xs i ≡ Some x))
first_left [] i h = absurd (omega arith)
first_left (x ∷ xs) zero h = (x, (refl, refl))
first_left (x ∷ xs) (suc i) h = first_left xs i (omega arith)

-- where a place is inside, an item stands there
pub got_below : {A : Type 0} (xs : List A) (w : ℕ) → w < length xs → (a : A) × (slice_get xs w ≡ Some a)
got_below [] w h = absurd (omega (arith, h))
got_below (x ∷ xs) zero h = (x, refl)
got_below (x ∷ xs) (suc w) h = got_below xs w (omega (arith, h))

-- where an item is found, the place is inside
pub found_within : {A : Type 0} (xs : List A) (k : ℕ) (a : A) → slice_get xs k ≡ Some a → k < length xs
found_within [] k a e = cc
found_within (x ∷ xs) zero a e = omega arith
found_within (x ∷ xs) (suc k) a e = omega (arith, found_within xs k a e)

-- at the end nothing is left
pub drop_at_end : {X : Type 0} (xs : List X) (i : ℕ) → length xs ≤ i → drop i xs ≡ []
drop_at_end xs i h = drop_all i xs h

-- a front that is long enough is the whole
pub take_whole : {X : Type 0} (xs : List X) (i : ℕ) → length xs ≤ i → take i xs ≡ xs
take_whole [] zero h = refl
take_whole [] (suc i) h = refl
take_whole (x ∷ xs) zero h = absurd (omega (arith, h))
take_whole (x ∷ xs) (suc i) h = ap (λ l. x ∷ l) (take_whole xs i (omega (arith, h)))

-- where no item is found, nothing is left
pub drop_none : {X : Type 0} (xs : List X) (n : ℕ) → slice_get xs n ≡ None → drop n xs ≡ []
drop_none [] zero e = refl
drop_none [] (suc n) e = refl
drop_none (x ∷ xs) zero e = cc
drop_none (x ∷ xs) (suc n) e = drop_none xs n e

-- behind a place where no item is found nothing is left
pub drop_past : {X : Type 0} (xs : List X) (n : ℕ) → slice_get xs n ≡ None → drop (suc n) xs ≡ []
drop_past [] n e = refl
drop_past (x ∷ xs) zero e = cc
drop_past (x ∷ xs) (suc n) e = drop_past xs n e

-- a list without a first item is empty
pub no_first : {A : Type 0} (xs : List A) → slice_get xs 0 ≡ None → xs ≡ []
no_first [] e = refl
no_first (x ∷ xs) e = cc

-- a front of no length is empty
pub take_none : {X : Type 0} (xs : List X) → take 0 xs ≡ []
take_none [] = refl
take_none (x ∷ xs) = refl

-- a front has at most the length that was asked for
pub take_length : {X : Type 0} (n : ℕ) (xs : List X) → length (take n xs) ≤ n
take_length zero [] = omega arith
take_length zero (x ∷ xs) = omega arith
take_length (suc n) [] = omega arith
take_length (suc n) (x ∷ xs) = let h = take_length n xs in omega (arith, h)

-- equal lists begin with one item
pub same_head : {A : Type 0} {x y : A} {xs ys : List A} → x ∷ xs ≡ y ∷ ys → x ≡ y
same_head e = cc

-- equal lists are equal behind their first items
pub same_tail : {A : Type 0} {x y : A} {xs ys : List A} → x ∷ xs ≡ y ∷ ys → xs ≡ ys
same_tail e = cc
