-- What the tests of a new plan tell.
use Rattle.std.proofs.Common.{ℕ, ◌&&◌, ◌+◌, ◌≡◌, Bool, List, inl, inr, subst, sym, true}
use Rattle.std.proofs.lemmas.Bool.Decides.{eqb_tells}
use Rattle.std.specs.Bool.{Decides}
use Rattle.std.specs.Prelude.{◌==◌}
use Rattle.lemmas.proofs.Booleans.{and_left, and_made, and_right}
use Rattle.lemmas.proofs.Numbers.{eq_tells}
use Rattle.model_laws.proofs.Plans.{local_members}
use Rattle.model.specs.Types.{Carry, Entry, Events, StreamDoc}
use Rattle.model.specs.Words.{IsPartOf}
use Rattle.model.specs.History.{Seen, View, list_of, view_of}
use Rattle.model.specs.Catalogue.{members}
use Rattle.model.specs.NewPlan.{last_run}
use Rattle.model.specs.Sound.{IsCarried, seen_view}
use Rattle.event_audit.specs.Plans.{AreRightDocuments, AreTheTaken, CarriesExactly}
use Rattle.event_audit.proofs.Prefix.{are_counts, counts_others, counts_own, counts_told}

so_eq : (a b : ℕ) → a ≡ b → (a == b) ≡ true
so_eq a b e = elim (eqb_tells a b) [ inl t ↦ t.0 | inr t ↦ absurd (t.1 e) ]

-- its run is the next one, and its cut counts right
abbrev pub begins : List Entry → ℕ → Seen → Bool
begins before run cut = (run == 1 + last_run (list_of before (Events 0))) && are_counts before 0 cut

pub carried_begins : (option : Carry) (before : List Entry) (run : ℕ) (cut : Seen) (carried : List ℕ)
    (docs : List StreamDoc) → IsCarried option before run cut carried docs → begins before run cut ≡ true
carried_begins option before run cut carried docs h =
    and_made (run == 1 + last_run (list_of before (Events 0))) (are_counts before 0 cut)
    (so_eq run (1 + last_run (list_of before (Events 0))) h.run_is) (counts_told before 0 cut h.own h.others)

pub carried_documents : (option : Carry) (before : List Entry) (run : ℕ) (cut : Seen) (carried : List ℕ)
    (docs : List StreamDoc) → IsCarried option before run cut carried docs
    → AreRightDocuments (view_of before) carried docs
carried_documents option before run cut carried docs h = record { numbers = h.numbers; follows = h.follows }

plan_of_parts : (option : Carry) (before : List Entry) (run : ℕ) (cut : Seen) (carried : List ℕ)
    (docs : List StreamDoc) → begins before run cut ≡ true → AreRightDocuments (view_of before) carried docs
    → CarriesExactly option (seen_view before cut) carried → IsCarried option before run cut carried docs
plan_of_parts option before run cut carried docs b d e =
    let first : (run == 1 + last_run (list_of before (Events 0))) ≡ true =
    and_left (run == 1 + last_run (list_of before (Events 0))) (are_counts before 0 cut) b in
    let counts : are_counts before 0 cut ≡ true =
    and_right (run == 1 + last_run (list_of before (Events 0))) (are_counts before 0 cut) b in
    record {
      run_is = eq_tells run (1 + last_run (list_of before (Events 0))) first;
      own = counts_own before 0 cut counts;
      others = counts_others before 0 cut counts;
      in_order = e.in_order;
      exactly = e.exactly;
      numbers = d.numbers;
      follows = d.follows;
    }

pub plan_decided : (option : Carry) (before : List Entry) (run : ℕ) (cut : Seen) (carried : List ℕ)
    (docs : List StreamDoc) (r : Bool) → begins before run cut ≡ true → AreRightDocuments (view_of before) carried docs
    → Decides r (CarriesExactly option (seen_view before cut) carried)
    → Decides r (IsCarried option before run cut carried docs)
plan_decided option before run cut carried docs r b d h = (
  λ t. plan_of_parts option before run cut carried docs b d (h.0 t),
  λ (all : IsCarried option before run cut carried docs). h.1
      (record { in_order = all.in_order; exactly = all.exactly }),
)

-- the counts of a plan's cut are there
pub begins_counts : (before : List Entry) (run : ℕ) (cut : Seen) → begins before run cut ≡ true
    → are_counts before 0 cut ≡ true
begins_counts before run cut b =
    and_right (run == 1 + last_run (list_of before (Events 0))) (are_counts before 0 cut) b

-- what is carried, told by the members of all that was taken
pub carried_told : (option : Carry) (U V : View) (carried : List ℕ) (r : Bool) → U (Events 0) ≡ V (Events 0)
    → IsPartOf carried (members V) → Decides r (AreTheTaken option U carried (members V))
    → Decides r (CarriesExactly option U carried)
carried_told option U V carried r e part h = (
  λ t. record {
    in_order = subst (λ (l : List ℕ). IsPartOf carried l) (sym (local_members U V e)) part;
    exactly = subst (λ (l : List ℕ). AreTheTaken option U carried l) (sym (local_members U V e)) (h.0 t);
  },
  λ (all : CarriesExactly option U carried). h.1
      (subst (λ (l : List ℕ). AreTheTaken option U carried l) (local_members U V e) all.exactly),
)

pub not_in_order : (option : Carry) (U V : View) (carried : List ℕ) → U (Events 0) ≡ V (Events 0)
    → CarriesExactly option U carried → IsPartOf carried (members V)
not_in_order option U V carried e all =
    subst (λ (l : List ℕ). IsPartOf carried l) (local_members U V e) all.in_order

-- a plan of the master
pub masters_plan : (option : Carry) (before : List Entry) (w run : ℕ) (cut : Seen) (S carried : List ℕ)
    (D docs : List StreamDoc) (right : Bool) → w ≡ 0 → S ≡ carried → D ≡ docs
    → Decides right (IsCarried option before run cut S D)
    → Decides right ((w ≡ 0) × IsCarried option before run cut carried docs)
masters_plan option before w run cut S carried D docs right first s d h = (
  λ t. (
    first,
    subst (λ (x : List ℕ). IsCarried option before run cut x docs) s
        (subst (λ (y : List StreamDoc). IsCarried option before run cut S y) d (h.0 t)),
  ),
  λ (all : (w ≡ 0) × IsCarried option before run cut carried docs). h.1
      (subst (λ (x : List ℕ). IsCarried option before run cut x D) (sym s)
      (subst (λ (y : List StreamDoc). IsCarried option before run cut carried y) (sym d) all.1)),
)
