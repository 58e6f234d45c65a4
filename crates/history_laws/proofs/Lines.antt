-- Texts cut at line feeds, and lines at spaces.
use Rattle.std.proofs.Common.{◌≡◌, ◌+◌, ◌-◌, ℕ, suc, Bool, true, false, not, cond, eqb, List, [], ◌∷◌, ◌++◌}
use Rattle.std.proofs.Common.{length, take, get_or, refl, ap, sym, ◌∙◌, arith, append_assoc, append-nil, flat_map, map}
use Rattle.std.specs.List.{AllByRecursion, after_first, before_first, list_all, onto_first, position_or_len, prefix_len, slice_split}
use Rattle.std.proofs.Math.Seq.{drop-append-add, take-append_seam}
use Rattle.lemmas.proofs.Booleans.{and_parts}
use Rattle.lemmas.proofs.Numbers.{number_itself, suc_not_zero}
use Rattle.syntax.specs.Splits.{lines_of, without_last_feed}

-- The byte does not stand in these.
abbrev pub Lacks : ℕ → List ℕ → Type 0
Lacks c w = AllByRecursion (λ b. eqb b c ≡ false) w

pub lacks_append : (c : ℕ) (a b : List ℕ) → Lacks c a → Lacks c b → Lacks c (a ++ b)
lacks_append c [] b h g = g
lacks_append c (x ∷ a) b h g = (h.0, lacks_append c a b h.1 g)

pub lacks_by : (c : ℕ) (p : ℕ → Bool) → ((b : ℕ) → p b ≡ true → eqb b c ≡ false) → (w : List ℕ) → list_all p w ≡ true
    → Lacks c w
lacks_by c p each [] e = tt
lacks_by c p each (b ∷ w) e =
    let parts = and_parts (p b) (list_all p w) e in (each b parts.0, lacks_by c p each w parts.1)

-- Texts one behind the other.

pub left_four : (a b c d : List ℕ) → ((a ++ b) ++ c) ++ d ≡ a ++ (b ++ (c ++ d))
left_four a b c d = append_assoc (a ++ b) c d ∙ append_assoc a b (c ++ d)

pub left_five : (a b c d e : List ℕ) → (((a ++ b) ++ c) ++ d) ++ e ≡ a ++ (b ++ (c ++ (d ++ e)))
left_five a b c d e = append_assoc ((a ++ b) ++ c) d e ∙ left_four a b c (d ++ e)

pub left_six : (a b c d e f : List ℕ) → ((((a ++ b) ++ c) ++ d) ++ e) ++ f ≡ a ++ (b ++ (c ++ (d ++ (e ++ f))))
left_six a b c d e f = append_assoc (((a ++ b) ++ c) ++ d) e f ∙ left_five a b c d (e ++ f)

-- Cut at a byte.

pub split_here : (c : ℕ) (w rest : List ℕ) → Lacks c w
    → slice_split (λ b. eqb b c) (w ++ c ∷ rest) ≡ w ∷ slice_split (λ b. eqb b c) rest
split_here c [] rest h =
    ap (λ t. cond t ([] ∷ slice_split (λ b. eqb b c) rest) (onto_first c (slice_split (λ b. eqb b c) rest))) (number_itself c)
split_here c (x ∷ w) rest h =
    ap (λ t. cond t ([] ∷ slice_split (λ b. eqb b c) (w ++ c ∷ rest)) (onto_first x (slice_split (λ b. eqb b c) (w ++ c ∷ rest)))) h.0
    ∙ ap (onto_first x) (split_here c w rest h.1)

pub split_whole : (c : ℕ) (w : List ℕ) → Lacks c w → slice_split (λ b. eqb b c) w ≡ w ∷ []
split_whole c [] h = refl
split_whole c (x ∷ w) h =
    ap (λ t. cond t ([] ∷ slice_split (λ b. eqb b c) w) (onto_first x (slice_split (λ b. eqb b c) w))) h.0
    ∙ ap (onto_first x) (split_whole c w h.1)

place_here : (c : ℕ) (w rest : List ℕ) → Lacks c w → position_or_len (λ b. eqb b c) (w ++ c ∷ rest) ≡ length w
place_here c [] rest h = ap (λ t. cond (not t) (1 + prefix_len (λ b. not (eqb b c)) rest) 0) (number_itself c)
place_here c (x ∷ w) rest h =
    ap (λ t. cond (not t) (1 + prefix_len (λ b. not (eqb b c)) (w ++ c ∷ rest)) 0) h.0
    ∙ ap (λ k. 1 + k) (place_here c w rest h.1) ∙ omega arith

pub before_here : (c : ℕ) (w rest : List ℕ) → Lacks c w → before_first (λ b. eqb b c) (w ++ c ∷ rest) ≡ w
before_here c w rest h = ap (λ k. take k (w ++ c ∷ rest)) (place_here c w rest h) ∙ take-append_seam w (c ∷ rest)

pub after_here : (c : ℕ) (w rest : List ℕ) → Lacks c w → after_first (λ b. eqb b c) (w ++ c ∷ rest) ≡ rest
after_here c w rest h = rw (place_here c w rest h) (drop-append-add w (c ∷ rest) 1)

-- Cut into lines.

some_length : {A : Type 0} (xs rest : List A) (x : A) → eqb (length (xs ++ x ∷ rest)) 0 ≡ false
some_length [] rest x = suc_not_zero (length rest)
some_length (y ∷ xs) rest x = suc_not_zero (length (xs ++ x ∷ rest))

by_test : (t : Bool) (x : ℕ) (a b : List ℕ) → cond t (x ∷ a) (x ∷ b) ≡ x ∷ cond t a b
by_test true x a b = refl
by_test false x a b = refl

one_behind : (x y : ℕ) (ys : List ℕ) → without_last_feed (x ∷ y ∷ ys) ≡ x ∷ without_last_feed (y ∷ ys)
one_behind x y ys =
    let long : length (x ∷ y ∷ ys) - 1 ≡ suc (length ys) = omega arith in
    let less : length (y ∷ ys) - 1 ≡ length ys = omega arith in
    ap (λ k. cond (eqb (get_or (x ∷ y ∷ ys) k 0) 10) (take k (x ∷ y ∷ ys)) (x ∷ y ∷ ys)) long
    ∙ by_test (eqb (get_or (y ∷ ys) (length ys) 0) 10) x (take (length ys) (y ∷ ys)) (y ∷ ys)
    ∙ ap (λ k. x ∷ cond (eqb (get_or (y ∷ ys) k 0) 10) (take k (y ∷ ys)) (y ∷ ys)) (sym less)

next_behind : (x : ℕ) (a : List ℕ) (r : ℕ) (rs : List ℕ)
    → without_last_feed (x ∷ (a ++ r ∷ rs)) ≡ x ∷ without_last_feed (a ++ r ∷ rs)
next_behind x [] r rs = one_behind x r rs
next_behind x (y ∷ a) r rs = one_behind x y (a ++ r ∷ rs)

feed_behind : (a : List ℕ) (r : ℕ) (rs : List ℕ) → without_last_feed (a ++ r ∷ rs) ≡ a ++ without_last_feed (r ∷ rs)
feed_behind [] r rs = refl
feed_behind (x ∷ a) r rs = next_behind x a r rs ∙ ap (λ l. x ∷ l) (feed_behind a r rs)

-- the first line of a text
pub line_first : (line rest : List ℕ) → Lacks 10 line → lines_of (line ++ 10 ∷ rest) ≡ line ∷ lines_of rest
unfolding lines_of
line_first line [] h =
    ap (λ t. cond t [] (slice_split (λ b. eqb b 10) (without_last_feed (line ++ 10 ∷ [])))) (some_length line [] 10)
    ∙ ap (slice_split (λ b. eqb b 10)) (feed_behind line 10 [] ∙ append-nil line) ∙ split_whole 10 line h
line_first line (r ∷ rs) h =
    ap (λ t. cond t [] (slice_split (λ b. eqb b 10) (without_last_feed (line ++ 10 ∷ r ∷ rs)))) (some_length line (r ∷ rs) 10)
    ∙ ap (slice_split (λ b. eqb b 10)) (feed_behind line 10 (r ∷ rs) ∙ ap (λ l. line ++ l) (one_behind 10 r rs))
    ∙ split_here 10 line (without_last_feed (r ∷ rs)) h
    ∙ ap (λ l. line ∷ l)
    (sym (ap (λ t. cond t [] (slice_split (λ b. eqb b 10) (without_last_feed (r ∷ rs)))) (suc_not_zero (length rs))))

-- texts that are a line each
pub each_line : {A : Type 0} (P : A → Type 0) (f g : A → List ℕ) → ((x : A) → f x ≡ g x ++ 10 ∷ [])
    → ((x : A) → P x → Lacks 10 (g x)) → (xs : List A) → AllByRecursion P xs → (rest : List ℕ)
    → lines_of (flat_map f xs ++ rest) ≡ map g xs ++ lines_of rest
each_line P f g is free [] all rest = refl
each_line P f g is free (x ∷ xs) all rest =
    ap (λ l. lines_of ((l ++ flat_map f xs) ++ rest)) (is x)
    ∙ ap lines_of
    (append_assoc (g x ++ 10 ∷ []) (flat_map f xs) rest ∙ append_assoc (g x) (10 ∷ []) (flat_map f xs ++ rest))
    ∙ line_first (g x) (flat_map f xs ++ rest) (free x all.0)
    ∙ ap (λ l. g x ∷ l) (each_line P f g is free xs all.1 rest)
