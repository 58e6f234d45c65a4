-- The limits that refuse steps.
use Rattle.std.proofs.Common.{◌≡◌, ℕ, Bool, [], ◌∷◌, Option, None, Some, ap, false, sym, true}
use Rattle.std.specs.Prelude.{Err, Ok, Result, nat_le}
use Rattle.lemmas.proofs.Options.{none_some, some_same}
use Rattle.model.specs.Types.{Crash, CrashDeliver, CrashTake, Deliver, Input, LimitName, Net, Take, WorldStep}
use Rattle.model.specs.Words.{first_of_these}
use Rattle.model.specs.StepFaults.{StepFault}
use Rattle.model.specs.Step.{Effect, node_step}
use Rattle.model.specs.World.{Origin, StepRefused, World, apply_effect, as_refusal, cut_short, delivery, mark_delivered}
use Rattle.model.specs.World.{node_effect, reached_limit, result_map, step, view_at, within_limits}
use Rattle.model_laws.proofs.Steps.{nothing}
use Rattle.refusal_laws.specs.Named.{is_counted}

counted_of : (a b c : Bool) (l : LimitName)
    → first_of_these ((a, LimitName.Steps) ∷ (b, LimitName.Packets) ∷ (c, LimitName.Bytes) ∷ []) ≡ Some l
    → is_counted l ≡ true
counted_of true b c l h = ap is_counted (sym (some_same LimitName.Steps l h))
counted_of false true c l h = ap is_counted (sym (some_same LimitName.Packets l h))
counted_of false false true l h = ap is_counted (sym (some_same LimitName.Bytes l h))
counted_of false false false l h = absurd (none_some h)

reached : (x : World) (l : LimitName) → reached_limit x ≡ Some l → is_counted l ≡ true
unfolding reached_limit
reached x l h = counted_of (nat_le 200000 x.taken) (nat_le 20000000 x.sent) (nat_le 268435456 x.kept) l h

limit_is : {A B : Type 0} (f : A → B) (o : Option LimitName) (r : Result A StepFault) (l : LimitName)
    → result_map f (within_limits o (as_refusal r)) ≡ Err (StepRefused.Limit l) → o ≡ Some l
limit_is f None (Ok d) l e = cc
limit_is f None (Err g) l e = cc
limit_is {A} {B} f (Some m) r l e = ap Some (same e)
  where
    same : ◌≡◌ {A = Result B StepRefused} (Err (StepRefused.Limit m)) (Err (StepRefused.Limit l)) → m ≡ l
    same e = cc

at_crash : (y : World) (o : Option LimitName) (l : LimitName) → within_limits o (Ok y) ≡ Err (StepRefused.Limit l)
    → o ≡ Some l
at_crash y None l e = cc
at_crash y (Some m) l e = ap Some (same e)
  where
    same : ◌≡◌ {A = Result World StepRefused} (Err (StepRefused.Limit m)) (Err (StepRefused.Limit l)) → m ≡ l
    same e = cc

at_input : (net : Net) (x : World) (w : ℕ) (f : Effect → World) (i : Option Input) (l : LimitName)
    → result_map f (node_effect net x w i) ≡ Err (StepRefused.Limit l) → is_counted l ≡ true
unfolding node_effect
at_input net x w f None l e = absurd (not_here e)
  where
    not_here : ◌≡◌ {A = Result World StepRefused} (Err StepRefused.NoPacket) (Err (StepRefused.Limit l)) → ⊥
    not_here k = cc
at_input net x w f (Some i) l e =
    reached x l (limit_is f (reached_limit x) (node_step net w (view_at x w) (x.sessions w) i) l e)

pub limit_counted : (net : Net) (x : World) (s : WorldStep) (l : LimitName) → step net x s ≡ Err (StepRefused.Limit l)
    → is_counted l ≡ true
unfolding step
limit_counted net x (Take w k) l e = at_input net x w (apply_effect x w Origin.Own) (Some (Input.Local k)) l e
limit_counted net x (Deliver a b k) l e =
    at_input net x b (λ d. mark_delivered (apply_effect x b Origin.Mailed d) a b k) (delivery x a b k) l e
limit_counted net x (Crash w) l e = reached x l (at_crash (apply_effect x w Origin.Own nothing) (reached_limit x) l e)
limit_counted net x (CrashTake w k kept) l e =
    at_input net x w (λ d. apply_effect x w Origin.Own (cut_short kept d)) (Some (Input.Local k)) l e
limit_counted net x (CrashDeliver a b k kept) l e =
    at_input net x b (λ d. mark_delivered (apply_effect x b Origin.Mailed (cut_short kept d)) a b k) (delivery x a b k) l e
