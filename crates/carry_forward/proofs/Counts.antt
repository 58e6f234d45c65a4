-- Counts over lists, one item further.
use Rattle.std.proofs.Common.{[], if◌then◌else◌, ℕ, ◌+◌, ◌++◌, ◌<◌, ◌∙◌, ◌∷◌, ◌≡◌, ◌≢◌, ◌||◌, ◌⊎◌, Bool, List}
use Rattle.std.proofs.Common.{ap, drop, eqb, false, get_or, inl, inr, length}
use Rattle.std.proofs.Common.{None, Option, Some, filter_map, refl, sym, take, true}
use Rattle.std.proofs.lemmas.Bool.Decides.{eqb_tells}
use Rattle.std.specs.List.{cons_option, list_any}
use Rattle.std.proofs.lemmas.List.{append-nil, drop_more, take_more}
use Rattle.std.proofs.lemmas.List.Elements.{filter_map-append}
use Rattle.std.proofs.lemmas.List.Sums.{sum_by-cons}
use Rattle.model.specs.Types.{StreamDraft}
use Rattle.model.specs.Words.{has}
use Rattle.model.specs.NewPlan.{jobs_in_drafts}

-- the jobs of the drafts from a place on
pub drafts_more : (drafts : List StreamDraft) (i : ℕ) (draft : StreamDraft) → i < length drafts
    → draft ≡ get_or drafts i draft
    → jobs_in_drafts (drop i drafts) ≡ length draft.jobs + jobs_in_drafts (drop (i + 1) drafts)
drafts_more drafts i draft low at =
    ap jobs_in_drafts (drop_more drafts i draft low ∙ (λ p. sym at p ∷ drop (i + 1) drafts))
    ∙ sum_by-cons (λ (d : StreamDraft). length d.jobs) draft (drop (i + 1) drafts)

-- what is made of one more item
pub made_more : {X Y : Type 0} (make : X → Option Y) (xs : List X) (i : ℕ) (x : X) → i < length xs → x ≡ get_or xs i x
    → filter_map make (take (i + 1) xs) ≡ filter_map make (take i xs) ++ cons_option (make x) []
made_more make xs i x low at =
    ap (filter_map make) (take_more xs i x low ∙ (λ p. take i xs ++ sym at p ∷ []))
    ∙ filter_map-append make (take i xs) (x ∷ [])

-- and where that item makes one, or none
pub made_some : {X Y : Type 0} (make : X → Option Y) (xs : List X) (i : ℕ) (x : X) (o : Option Y) (y : Y)
    → i < length xs → x ≡ get_or xs i x → o ≡ make x → o ≡ Some y
    → filter_map make (take i xs) ++ y ∷ [] ≡ filter_map make (take (i + 1) xs)
made_some {X} {Y} make xs i x o y low at made is =
    sym
    (made_more make xs i x low at
    ∙ ap (λ (p : Option Y). filter_map make (take i xs) ++ cons_option p []) (sym made ∙ is))

pub made_none : {X Y : Type 0} (make : X → Option Y) (xs : List X) (i : ℕ) (x : X) (o : Option Y) → i < length xs
    → x ≡ get_or xs i x → o ≡ make x → o ≡ None
    → filter_map make (take i xs) ≡ filter_map make (take (i + 1) xs)
made_none {X} {Y} make xs i x o low at made is =
    sym
    (made_more make xs i x low at
    ∙ (ap (λ (p : Option Y). filter_map make (take i xs) ++ cons_option p []) (sym made ∙ is)
    ∙ append-nil (filter_map make (take i xs))))

any_more : (test : ℕ → Bool) (ks : List ℕ) (x : ℕ) → list_any test (ks ++ x ∷ []) ≡ (list_any test ks || test x)
any_more test [] x = or_false (test x)
  where
    or_false : (b : Bool) → (b || false) ≡ b
    or_false true = refl
    or_false false = refl
any_more test (k ∷ ks) x = ap (λ (b : Bool). test k || b) (any_more test ks x) ∙ regroup (test k) (list_any test ks)
  where
    regroup : (a b : Bool) → (a || (b || test x)) ≡ ((a || b) || test x)
    regroup true b = refl
    regroup false b = refl

has_more : (xs : List ℕ) (x n : ℕ) → has (xs ++ x ∷ []) n ≡ (has xs n || eqb x n)
has_more [] x n = or_false (eqb x n)
  where
    or_false : (b : Bool) → (b || false) ≡ b
    or_false true = refl
    or_false false = refl
has_more (y ∷ ys) x n = ap (λ (b : Bool). eqb y n || b) (has_more ys x n) ∙ regroup (eqb y n) (has ys n)
  where
    regroup : (a b : Bool) → (a || (b || eqb x n)) ≡ ((a || b) || eqb x n)
    regroup true b = refl
    regroup false b = refl

-- a set of the numbers has one more
pub set_more : (ks new xs : List ℕ) (i x : ℕ) → i < length xs → x ≡ get_or xs i x
    → new ≡ (if list_any (λ (k : ℕ). eqb x k) ks then ks else ks ++ x ∷ [])
    → ((n : ℕ) → list_any (λ (k : ℕ). eqb n k) ks ≡ has (take i xs) n)
    → (n : ℕ) → list_any (λ (k : ℕ). eqb n k) new ≡ has (take (i + 1) xs) n
set_more ks new xs i x low at grown h n =
    ap (list_any (λ (k : ℕ). eqb n k)) grown
    ∙ (go (list_any (λ (k : ℕ). eqb x k) ks) refl
    ∙ (ap (λ (b : Bool). b || eqb x n) (h n)
    ∙ sym
    (ap (λ (l : List ℕ). has l n) (take_more xs i x low ∙ (λ p. take i xs ++ sym at p ∷ [])) ∙ has_more (take i xs) x n)))
  where
    there : list_any (λ (k : ℕ). eqb x k) ks ≡ true
        → ((eqb x n ≡ true) × (x ≡ n)) ⊎ ((eqb x n ≡ false) × (x ≢ n))
        → list_any (λ (k : ℕ). eqb n k) ks ≡ (list_any (λ (k : ℕ). eqb n k) ks || eqb x n)
    there e (inl f) =
        let old : list_any (λ (k : ℕ). eqb n k) ks ≡ true =
        ap (λ (m : ℕ). list_any (λ (k : ℕ). eqb m k) ks) (sym f.1) ∙ e in
        old ∙ ap (λ (b : Bool). b || eqb x n) (sym old)
    there e (inr f) =
        or_false (list_any (λ (k : ℕ). eqb n k) ks) ∙ ap (λ (b : Bool). list_any (λ (k : ℕ). eqb n k) ks || b) (sym f.0)
      where
        or_false : (b : Bool) → b ≡ (b || false)
        or_false true = refl
        or_false false = refl

    flip : eqb n x ≡ eqb x n
    flip =
        elim (eqb_tells n x) [
          | inl e ↦ elim (eqb_tells x n) [ inl f ↦ e.0 ∙ sym f.0 | inr f ↦ absurd (f.1 (sym e.1)) ]
          | inr e ↦ elim (eqb_tells x n) [ inl f ↦ absurd (e.1 (sym f.1)) | inr f ↦ e.0 ∙ sym f.0 ]
        ]

    go : (b : Bool) → list_any (λ (k : ℕ). eqb x k) ks ≡ b
        → list_any (λ (k : ℕ). eqb n k) (if b then ks else ks ++ x ∷ [])
        ≡ (list_any (λ (k : ℕ). eqb n k) ks || eqb x n)
    go true e = there e (eqb_tells x n)
    go false e =
        any_more (λ (k : ℕ). eqb n k) ks x ∙ ap (λ (b : Bool). list_any (λ (k : ℕ). eqb n k) ks || b) flip
