-- The last of several, and what stands behind it.
use Rattle.std.proofs.Common.{[], ℕ, ◌+◌, ◌∙◌, ◌||◌, ◌∷◌, ◌≡◌, ◌≤◌, Bool, List, None, Option, Some, ap, arith, cond}
use Rattle.std.proofs.Common.{drop, false, filter, find, flat_map, inl, inr, length, map, refl, slice_get, suc}
use Rattle.std.proofs.Common.{sym}
use Rattle.std.proofs.Common.{true, zero}
use Rattle.std.specs.Bool.{then_some}
use Rattle.std.specs.Option.{option_map_or, option_or}
use Rattle.std.specs.Prelude.{◌==◌}
use Rattle.std.proofs.lemmas.Bool.Decides.{eqb_tells}
use Rattle.lemmas.proofs.Booleans.{neither_left, neither_right}
use Rattle.lemmas.proofs.Numbers.{eqb_turned}
use Rattle.model.specs.Types.{Events, StreamDoc}
use Rattle.model.specs.Words.{firsts, has}
use Rattle.model.specs.History.{View}
use Rattle.model.specs.Catalogue.{catalogue, docs_in, members, stream}
use Rattle.conman_orders.specs.Names.{is_called, last_member, last_that}

-- s passes itself
itself : (s : ℕ) → s == s ≡ true
itself s = elim (eqb_tells s s) [ inl e ↦ e.0 | inr e ↦ absurd (e.1 refl) ]

-- where s is not among the numbers, it makes no difference that it is looked for too
pub absent : (others : List ℕ) (s : ℕ) (ns : List ℕ) → has ns s ≡ false
    → last_that (has (s ∷ others)) ns ≡ last_that (has others) ns
absent others s [] h = refl
absent others s (x ∷ xs) h =
    let apart : s == x ≡ false = eqb_turned s x ∙ neither_left (x == s) (has xs s) h in
    let rest : last_that (has (s ∷ others)) xs ≡ last_that (has others) xs =
    absent others s xs (neither_right (x == s) (has xs s) h)
    in
    rw (rest, apart) refl

kept : {X : Type 0} (a : Option X) (x : X) (b : Option X) → option_or (option_or a (Some x)) b ≡ option_or a (Some x)
kept None x b = refl
kept (Some y) x b = refl

-- s stands at i, and not behind it
behind : (others : List ℕ) (s : ℕ) (ns : List ℕ) (i : ℕ) → slice_get ns i ≡ Some s
    → has (drop (suc i) ns) s ≡ false
    → last_that (has (s ∷ others)) ns ≡ option_or (last_that (has others) (drop (suc i) ns)) (Some s)
behind others s [] i e h = cc
behind others s (x ∷ xs) zero e h =
    let same : x ≡ s = cc in
    rw (same, absent others s xs h, itself s) refl
behind others s (x ∷ xs) (suc i) e h =
    rw (behind others s xs i e h)
    (kept (last_that (has others) (drop (suc i) xs)) s (then_some ((s == x) || has others x) x))

-- the same, looked at from an index on
from_on : (others : List ℕ) (s : ℕ) (ns : List ℕ) (from i : ℕ) → from ≤ i → slice_get ns i ≡ Some s
    → has (drop (suc i) ns) s ≡ false
    → last_that (has (s ∷ others)) (drop from ns) ≡ option_or (last_that (has others) (drop (suc i) ns)) (Some s)
from_on others s [] from i low e h = cc
from_on others s (x ∷ xs) zero i low e h = behind others s (x ∷ xs) i e h
from_on others s (x ∷ xs) (suc from) zero low e h = absurd (omega arith)
from_on others s (x ∷ xs) (suc from) (suc i) low e h = from_on others s xs from i (omega arith) e h

pub behind_from : (others : List ℕ) (s : ℕ) (ns : List ℕ) (from i : ℕ) → from ≤ i → slice_get ns i ≡ Some s
    → has (drop (i + 1) ns) s ≡ false
    → last_that (has (s ∷ others)) (drop from ns) ≡ option_or (last_that (has others) (drop (i + 1) ns)) (Some s)
behind_from others s ns from i low e h =
    let one : i + 1 ≡ suc i = omega arith in
    rw one (from_on others s ns from i low e (rw one at h))

-- one number further to the front
one_before : (s : ℕ) (ns : List ℕ) (i x : ℕ) → slice_get ns i ≡ Some x → x == s ≡ false
    → has (drop (suc i) ns) s ≡ false → has (drop i ns) s ≡ false
one_before s [] i x e f h = cc
one_before s (y ∷ ys) zero x e f h = let same : y ≡ x = cc in rw (same, f) h
one_before s (y ∷ ys) (suc i) x e f h = one_before s ys i x e f h

pub absent_before : (s : ℕ) (ns : List ℕ) (i x : ℕ) → slice_get ns i ≡ Some x → x == s ≡ false
    → has (drop (i + 1) ns) s ≡ false → has (drop i ns) s ≡ false
absent_before s ns i x e f h =
    let one : i + 1 ≡ suc i = omega arith in one_before s ns i x e f (rw one at h)

pub absent_past : (s : ℕ) (ns : List ℕ) (i : ℕ) → length ns ≤ i → has (drop i ns) s ≡ false
absent_past s [] zero h = refl
absent_past s [] (suc i) h = refl
absent_past s (x ∷ xs) zero h = absurd (omega arith)
absent_past s (x ∷ xs) (suc i) h = absent_past s xs i (omega arith)

pub never : (ns : List ℕ) → last_that (λ n. false) ns ≡ None
never [] = refl
never (x ∷ xs) = rw (never xs) refl

-- a known number is not among those that count
unknown : {X : Type 0} (number : X → ℕ) (test : X → Bool) (known : List ℕ) (xs : List X) (n : ℕ) → has known n ≡ true
    → has (map number (filter test (firsts number known xs))) n ≡ false
unknown number test known [] n h = refl
unknown {X} number test known (x ∷ xs) n h =
    go (has known (number x)) refl (unknown number test known xs n h)
    (unknown number test (number x ∷ known) xs n (later (number x == n)))
  where
    later : (b : Bool) → (b || has known n) ≡ true
    later true = refl
    later false = h

    apart : has known (number x) ≡ false → number x == n ≡ false
    apart k = elim (eqb_tells (number x) n) [ inl e ↦ (let f = ap (has known) e.1 in cc) | inr e ↦ e.0 ]

    put : (b : Bool) → number x == n ≡ false
        → has (map number (filter test (firsts number (number x ∷ known) xs))) n ≡ false
        → has
        (map number
        (cond b (x ∷ filter test (firsts number (number x ∷ known) xs))
        (filter test (firsts number (number x ∷ known) xs))))
        n
        ≡ false
    put true e k = rw e k
    put false e k = k

    go : (b : Bool) → has known (number x) ≡ b → has (map number (filter test (firsts number known xs))) n ≡ false
        → has (map number (filter test (firsts number (number x ∷ known) xs))) n ≡ false
        → has (map number (filter test (cond b (firsts number known xs) (x ∷ firsts number (number x ∷ known) xs)))) n
        ≡ false
    go true e k m = k
    go false e k m = put (test x) (apart e) m

-- of those that count, the one of this number passes where the number is among those of what passes
pub passes : {X : Type 0} (number : X → ℕ) (test : X → Bool) (known : List ℕ) (xs : List X) (n : ℕ)
    → option_map_or test (find (λ (x : X). number x == n) (firsts number known xs)) false
    ≡ has (map number (filter test (firsts number known xs))) n
passes number test known [] n = refl
passes {X} number test known (x ∷ xs) n =
    go (has known (number x)) (passes number test known xs n) (passes number test (number x ∷ known) xs n)
  where
    first_known : number x == n ≡ true → (number x == n || has known n) ≡ true
    first_known e = rw e refl

    here : (b t : Bool) → number x == n ≡ b → test x ≡ t
        → option_map_or test (find (λ (y : X). number y == n) (firsts number (number x ∷ known) xs)) false
        ≡ has (map number (filter test (firsts number (number x ∷ known) xs))) n
        → option_map_or test
        (cond b (Some x) (find (λ (y : X). number y == n) (firsts number (number x ∷ known) xs))) false
        ≡ has
        (map number
        (cond t (x ∷ filter test (firsts number (number x ∷ known) xs))
        (filter test (firsts number (number x ∷ known) xs))))
        n
    here true true e k h = rw (k, e) refl
    here true false e k h =
        k ∙ sym (unknown number test (number x ∷ known) xs n (first_known e))
    here false true e k h = rw e h
    here false false e k h = h

    go : (b : Bool)
        → option_map_or test (find (λ (y : X). number y == n) (firsts number known xs)) false
        ≡ has (map number (filter test (firsts number known xs))) n
        → option_map_or test (find (λ (y : X). number y == n) (firsts number (number x ∷ known) xs)) false
        ≡ has (map number (filter test (firsts number (number x ∷ known) xs))) n
        → option_map_or test
        (find (λ (y : X). number y == n) (cond b (firsts number known xs) (x ∷ firsts number (number x ∷ known) xs)))
        false
        ≡ has (map number (filter test (cond b (firsts number known xs) (x ∷ firsts number (number x ∷ known) xs)))) n
    go true h k = h
    go false h k = here (number x == n) (test x) refl refl k

or_none : {X : Type 0} (a : Option X) → a ≡ option_or a None
or_none None = refl
or_none (Some x) = refl

-- the last member of a name, by the documents of that name
pub last_all : (V : View) (w : ℕ) (name : List ℕ)
    → last_member V w name
    ≡ option_or
    (last_that (has (map (λ (d : StreamDoc). d.no) (filter (is_called w name) (catalogue V)))) (members V)) None
unfolding last_member stream catalogue
last_all V w name =
    (λ j.
    last_that (λ n. passes (λ (d : StreamDoc). d.no) (is_called w name) [] (flat_map docs_in (V (Events 0))) n j)
    (members V))
    ∙ or_none
    (last_that
    (has
    (map (λ (d : StreamDoc). d.no)
    (filter (is_called w name) (firsts (λ (d : StreamDoc). d.no) [] (flat_map docs_in (V (Events 0)))))))
    (members V))

-- where no document is left
pub last_end : (ns : List ℕ) (found : Option ℕ) → option_or (last_that (has []) ns) found ≡ found
last_end ns found = rw (never ns) refl

-- a document of the name is looked for too
pub met : (w : ℕ) (name : List ℕ) (all rest : List StreamDoc) (d : StreamDoc) → all ≡ d ∷ rest
    → is_called w name d ≡ true
    → map (λ (e : StreamDoc). e.no) (filter (is_called w name) all)
    ≡ d.no ∷ map (λ (e : StreamDoc). e.no) (filter (is_called w name) rest)
met w name all rest d e called = rw (e, called) refl

nothing_at : (s : ℕ) (ns : List ℕ) (i : ℕ) → slice_get ns i ≡ None → has (drop i ns) s ≡ false
nothing_at s [] zero e = refl
nothing_at s [] (suc i) e = refl
nothing_at s (x ∷ xs) zero e = cc
nothing_at s (x ∷ xs) (suc i) e = nothing_at s xs i e

stands_at : (s : ℕ) (o : Option ℕ) → option_map_or (λ (n : ℕ). n == s) o false ≡ true → o ≡ Some s
stands_at s None h = cc
stands_at s (Some n) h = elim (eqb_tells n s) [ inl e ↦ ap Some e.1 | inr e ↦ (let f = e.0 in cc) ]

-- where s stands at i, and not behind it
pub found_at : (others : List ℕ) (s : ℕ) (ns : List ℕ) (from i : ℕ) → from ≤ i
    → option_map_or (λ (n : ℕ). n == s) (slice_get ns i) false ≡ true → has (drop (i + 1) ns) s ≡ false
    → last_that (has (s ∷ others)) (drop from ns) ≡ option_or (last_that (has others) (drop (i + 1) ns)) (Some s)
found_at others s ns from i low at h = behind_from others s ns from i low (stands_at s (slice_get ns i) at) h

-- where s does not stand at i, nor behind it
pub not_found_at : (s : ℕ) (ns : List ℕ) (i : ℕ) → option_map_or (λ (n : ℕ). n == s) (slice_get ns i) false ≡ false
    → has (drop (i + 1) ns) s ≡ false → has (drop i ns) s ≡ false
not_found_at s ns i at h = go (slice_get ns i) refl at
  where
    go : (o : Option ℕ) → slice_get ns i ≡ o → option_map_or (λ (n : ℕ). n == s) o false ≡ false
        → has (drop i ns) s ≡ false
    go None e k = nothing_at s ns i e
    go (Some x) e k = absent_before s ns i x e k h
