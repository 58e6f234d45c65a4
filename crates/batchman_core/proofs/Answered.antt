-- What becomes of an order, by the verdict on it.
use Rattle.std.proofs.Common.{[], ◌≡◌, ◌∙◌, ◌∷◌, ◌+◌, ◌||◌, ◌==◌, ℕ, Bool, None, Option, Some, ap, false, not, refl, sym, true}
use Rattle.std.specs.Option.{option_map_or}
use Rattle.model.specs.Types.{Body, Cmd, Declined, Events, Net, NotMaster, NotThere, OutOfRange, StreamDraft, Submit, Why}
use Rattle.model.specs.Words.{first_of_these}
use Rattle.model.specs.History.{View}
use Rattle.model.specs.Catalogue.{has_plan, members}
use Rattle.model.specs.Facts.{answered}
use Rattle.model.specs.NewPlan.{are_jobs_too_many, are_numbers_spent, are_streams_too_many}
use Rattle.model.specs.Turn.{answer, obeyed_as}
use Rattle.model.specs.Verdicts.{has_no_room, reasons, verdict}
use Rattle.carry_forward.specs.Faults.{submit_fault}
use Rattle.carry_forward.specs.declared.faults.CarryFault.TheVariants.{NumbersSpent, PlanFull}
use Rattle.conman_orders.specs.Said.{verdict_for}
use Rattle.conman_orders.specs.declared.verdicts.Verdict.TheVariants.{Decline, Obey}
use Rattle.batchman_core.specs.Told.{HasDocument}

by_reason : (f : Why → Body) (other : Body) (v : Option Why) (why : Why) → Decline why ≡ verdict_for v
    → option_map_or f v other ≡ f why
by_reason f other None why h = cc
by_reason f other (Some w) why h = cc

without_reason : (f : Why → Body) (other : Body) (v : Option Why) → Obey ≡ verdict_for v
    → option_map_or f v other ≡ other
without_reason f other None h = refl
without_reason f other (Some w) h = cc

-- it is declined
pub declined : (net : Net) (V : View) (me a : ℕ) (c : Cmd) (place : ℕ) (why : Why)
    → place ≡ 1 + answered a (V (Events me)) → Decline why ≡ verdict_for (verdict net V me c)
    → Declined a place why ≡ answer net V me a c
unfolding answer
declined net V me a c place why e h =
    ap (λ (k : ℕ). Declined a k why) e
    ∙ sym
    (by_reason (Declined a (1 + answered a (V (Events me))))
    (obeyed_as V a (1 + answered a (V (Events me))) c) (verdict net V me c) why h)

-- it is obeyed
pub obeyed : (net : Net) (V : View) (me a : ℕ) (c : Cmd) (place : ℕ) → place ≡ 1 + answered a (V (Events me))
    → Obey ≡ verdict_for (verdict net V me c) → (b : Body) → b ≡ obeyed_as V a place c → b ≡ answer net V me a c
unfolding answer
obeyed net V me a c place e h b f =
    f ∙ ap (λ (k : ℕ). obeyed_as V a k c) e
    ∙ sym
    (without_reason (Declined a (1 + answered a (V (Events me))))
    (obeyed_as V a (1 + answered a (V (Events me))) c) (verdict net V me c) h)

third_of : (a b c : Bool)
    → Obey ≡ verdict_for (first_of_these ((a, NotMaster) ∷ (b, NotThere) ∷ (c, OutOfRange) ∷ [])) → c ≡ false
third_of true b c h = cc
third_of false true c h = cc
third_of false false true h = cc
third_of false false false h = refl

no_fault : (a b c : Bool) → (a || (b || c)) ≡ false
    → first_of_these ((a, NumbersSpent) ∷ (b, PlanFull 4096) ∷ (c, PlanFull 16384) ∷ []) ≡ None
no_fault true b c h = cc
no_fault false true c h = cc
no_fault false false true h = cc
no_fault false false false h = refl

stream_fits : (net : Net) (V : View) (me : ℕ) (draft : StreamDraft) → Obey ≡ verdict_for (verdict net V me (Submit draft))
    → submit_fault V draft ≡ None
unfolding verdict reasons submit_fault
stream_fits net V me draft h =
    no_fault (are_numbers_spent V (draft ∷ [])) (are_streams_too_many (members V) (draft ∷ []))
    (are_jobs_too_many V (members V) (draft ∷ []))
    (third_of (not (me == 0)) (not (has_plan V)) (has_no_room V draft) h)

-- a stream that is submitted has then a document
pub document_there : (net : Net) (V : View) (me : ℕ) (c : Cmd) → Obey ≡ verdict_for (verdict net V me c)
    → HasDocument V c
document_there net V me (Submit draft) h = stream_fits net V me draft h
document_there net V me _ h = tt
