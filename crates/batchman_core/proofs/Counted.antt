-- The counts of workstations, one further.
use Rattle.std.proofs.Common.{◌≡◌, ◌∙◌, ◌∷◌, ◌++◌, [], ℕ, Bool, List, ap, cond, length, subst, sym, true}
use Rattle.std.proofs.lemmas.List.{append_assoc}
use Rattle.std.specs.Prelude.{nat_lt}
use Rattle.model.specs.Types.{Events}
use Rattle.model.specs.History.{Seen, View}
use Rattle.model.specs.NewPlan.{seen_of}

one_counted : (V : View) (w n : ℕ) (left : List ℕ) → n ≡ length (V (Events w)) → nat_lt 0 n ≡ true
    → seen_of V (w ∷ left) ≡ (w, n) ∷ seen_of V left
unfolding seen_of
one_counted V w n left e h =
    let rest : Seen = seen_of V left in
    subst (λ (m : ℕ). cond (nat_lt 0 m) ((w, m) ∷ rest) rest ≡ (w, n) ∷ rest) e
    (ap (λ (b : Bool). cond b ((w, n) ∷ rest) rest) h)

-- a workstation with events
pub counted : (V : View) (w n : ℕ) (left : List ℕ) (before all : Seen) → n ≡ length (V (Events w)) → nat_lt 0 n ≡ true
    → before ++ seen_of V (w ∷ left) ≡ all → (before ++ (w, n) ∷ []) ++ seen_of V left ≡ all
counted V w n left before all e h k =
    append_assoc before ((w, n) ∷ []) (seen_of V left)
    ∙ ap (λ (l : Seen). before ++ l) (sym (one_counted V w n left e h))
    ∙ k
