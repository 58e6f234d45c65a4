-- In each world of steps, entries name workstations of the network alone.
use Rattle.std.proofs.Common.{◌≡◌, ℕ, ◌<◌, Bool, true, List, [], ◌∷◌, ◌++◌, refl, subst}
use Rattle.std.proofs.Common.{arith, Option, Some, None}
use Rattle.std.specs.List.{list_all}
use Rattle.std.specs.Prelude.{Err, Ok, Result, nat_lt}
use Rattle.lemmas.proofs.Booleans.{and_left}
use Rattle.model.specs.Types.{Entry, Input, Local, Net, WorldStep}
use Rattle.model.specs.Network.{node_count}
use Rattle.model.specs.FreeSteps.{free_run, free_step, recounted}
use Rattle.model.specs.StepFaults.{step_fault}
use Rattle.model.specs.Workstations.{ws_in, ws_in_body, ws_in_feed}
use Rattle.model.specs.Step.{Effect}
use Rattle.model.specs.World.{Origin, StepRefused, World, apply_effect, empty_world, history_with, mark_delivered, or_as_before}
use Rattle.model.specs.World.{run, step, view_at}
use Rattle.model_laws.proofs.Each.{own_written}
use Rattle.model_laws.proofs.Inside.{all_in, are_in, writes_in}
use Rattle.model_laws.proofs.Steps.{MailDone, OwnDone, always, moves}
use Rattle.model_laws.proofs.Each.{not_own}
use Rattle.rest_laws.specs.Rest.{net_at}
use Rattle.rest_laws.specs.ToRest.{names_inside}
use Rattle.rest_laws.proofs.Phases.{all_pushed, view_named}
use Rattle.rest_laws.proofs.Gains.{are_inside, first_in}
use Rattle.rest_laws.proofs.Taken.{all_low, count_at}

abbrev IsNamed : Net → Entry → Bool
IsNamed net e = list_all (λ w. nat_lt w (node_count net)) (ws_in_feed e.feed ++ ws_in_body e.body)

kept_names : (net : Net) (G : List Entry) (o : Origin) (made : Option Entry) → list_all (IsNamed net) G ≡ true
    → ((e : Entry) → o ≡ Origin.Own → made ≡ Some e → IsNamed net e ≡ true)
    → list_all (IsNamed net) (history_with o G made) ≡ true
kept_names net G Origin.Own None h new = h
kept_names net G Origin.Mailed None h new = h
kept_names net G Origin.Mailed (Some e) h new = h
kept_names net G Origin.Own (Some e) h new = all_pushed (IsNamed net) G e h (new e refl refl)

named_after : (net : Net) (x : World) (w : ℕ) (d : Effect) → names_inside net x ≡ true → OwnDone net x w d
    → names_inside net (apply_effect x w Origin.Own d) ≡ true
unfolding names_inside apply_effect
named_after net x w d names own =
    kept_names net x.history Origin.Own d.made names
    (λ e mine same. own_written net x w d e (λ f. IsNamed net f ≡ true)
    (λ l f none wr. all_in net (ws_in_feed f.feed ++ ws_in_body f.body)
    (writes_in net (view_at x w) w (x.sessions w) l f (view_named net net x w refl names)
    (are_in net (w ∷ ws_in (Input.Local l))
    (subst (λ n. list_all (λ w. nat_lt w n) (w ∷ ws_in (Input.Local l)) ≡ true) (count_at net x w)
    (are_inside net x w (Input.Local l) none))) (zero_in l none) wr)) own same)
  where
    zero_in : (l : Local) → step_fault (net_at net x w) w (view_at x w) (x.sessions w) (Input.Local l) ≡ None
        → nat_lt 0 (node_count net) ≡ true
    zero_in l none =
        let low : w < node_count net = first_in net x w (ws_in (Input.Local l)) (are_inside net x w (Input.Local l) none) in
        and_left (nat_lt 0 (node_count net)) true (all_low (node_count net) (0 ∷ []) (omega (arith, low), tt))

named_mailed : (net : Net) (x : World) (a b k : ℕ) (d : Effect) → names_inside net x ≡ true → MailDone net x b d
    → names_inside net (mark_delivered (apply_effect x b Origin.Mailed d) a b k) ≡ true
unfolding names_inside apply_effect mark_delivered
named_mailed net x a b k d names mail =
    kept_names net x.history Origin.Mailed d.made names (λ e mine same. absurd (not_own mine))

named_step : (net : Net) (x : World) (s : WorldStep) → names_inside net x ≡ true
    → names_inside net (or_as_before x (step net x s)) ≡ true
named_step net x s h =
    moves net (λ (y : World). names_inside net y ≡ true) x h (λ w d own. named_after net x w d h own)
    (λ a b k d mail. named_mailed net x a b k d h mail) s

named_start : (net : Net) → names_inside net empty_world ≡ true
unfolding names_inside
named_start net = refl

pub named_run : (net : Net) (steps : List WorldStep) → names_inside net (run net steps empty_world) ≡ true
named_run net steps =
    always net (λ (y : World). names_inside net y ≡ true) (named_step net) steps empty_world (named_start net)

named_counted : (net : Net) (x : World) → names_inside net x ≡ true → names_inside net (recounted x) ≡ true
unfolding names_inside
named_counted net x h = h

named_stays : (net : Net) (x : World) (r : Result World StepRefused) → names_inside net x ≡ true
    → names_inside net (or_as_before (recounted x) r) ≡ true → names_inside net (or_as_before x r) ≡ true
named_stays net x (Ok y) h k = k
named_stays net x (Err f) h k = h

named_all : (net : Net) (steps : List WorldStep) (x : World) → names_inside net x ≡ true
    → names_inside net (free_run net steps x) ≡ true
unfolding free_run free_step
named_all net [] x h = h
named_all net (s ∷ steps) x h =
    named_all net steps (or_as_before x (step net (recounted x) s))
    (named_stays net x (step net (recounted x) s) h (named_step net (recounted x) s (named_counted net x h)))

pub named_free : (net : Net) (steps : List WorldStep) → names_inside net (free_run net steps empty_world) ≡ true
named_free net steps = named_all net steps empty_world (named_start net)
