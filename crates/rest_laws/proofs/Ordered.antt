-- A world has short answers where each order that was given in its steps has.
use Rattle.std.proofs.Common.{◌≡◌, ℕ, Bool, true, false, List, [], ◌∷◌, refl, Option, Some, None}
use Rattle.std.specs.List.{AllByRecursion, list_all}
use Rattle.std.specs.Prelude.{Err, Ok, Result}
use Rattle.lemmas.proofs.Booleans.{and_made}
use Rattle.model.specs.Types.{Entry, Input, Local, Net, WorldStep}
use Rattle.model.specs.Network.{node_count}
use Rattle.model.specs.History.{View}
use Rattle.model.specs.FreeSteps.{free_run, free_step, recounted}
use Rattle.model.specs.NewEntry.{makes}
use Rattle.model.specs.NewPlan.{plan_of}
use Rattle.model.specs.Sessions.{Session}
use Rattle.model.specs.Step.{effect}
use Rattle.model.specs.World.{Origin, StepRefused, World, apply_effect, cut_short, empty_world, history_with}
use Rattle.model.specs.World.{mark_delivered, or_as_before, run, step, view_at}
use Rattle.model_laws.proofs.Each.{written_here}
use Rattle.model_laws.proofs.Moves.{Moved, moved}
use Rattle.model_laws.proofs.Steps.{here}
use Rattle.model_laws.proofs.Turns.{Writes}
use Rattle.rest_laws.specs.Short.{are_answers_short, can_count, gives_short, has_short_answer, orders_short}
use Rattle.rest_laws.proofs.Phases.{all_pushed}
use Rattle.rest_laws.proofs.Shorts.{event_answered}

abbrev is_answered : Entry → Bool
is_answered e = has_short_answer e.body

AllAnswered : List Entry → Type 0
AllAnswered G = list_all is_answered G ≡ true

-- what a workstation writes by itself
writes_short : (net : Net) (V : View) (w : ℕ) (s : Session) (l : Local) (e : Entry) → gives_short l ≡ true
    → Writes net V w s l e → is_answered e ≡ true
unfolding plan_of
writes_short net V w s l e h (Writes.typed to c) = h
writes_short net V w s l e h (Writes.turned t b gives) = event_answered net V w s.live t b gives
writes_short net V w s l e h (Writes.started j live k) = refl
writes_short net V w s l e h (Writes.failed j live k) = refl
writes_short net V w s l e h (Writes.ended j rc live k) = refl
writes_short net V w s l e h (Writes.fulfilled o i) = refl
writes_short net V w s l e h (Writes.planned drafts) = refl

made_short : (net : Net) (x : World) (w : ℕ) (l : Local) (e : Entry) → gives_short l ≡ true
    → makes (here net x w) w (view_at x w) (x.sessions w) (Input.Local l) ≡ Some e → is_answered e ≡ true
unfolding makes
made_short net x w l e h same =
    writes_short net (view_at x w) w (x.sessions w) l e h (written_here net x w l e same)

own_short : (G : List Entry) (m : Option Entry) → AllAnswered G → ((e : Entry) → m ≡ Some e → is_answered e ≡ true)
    → AllAnswered (history_with Origin.Own G m)
unfolding AllAnswered
own_short G None h new = h
own_short G (Some e) h new = all_pushed is_answered G e h (new e refl)

mailed_short : (G : List Entry) (m : Option Entry) → AllAnswered G → AllAnswered (history_with Origin.Mailed G m)
mailed_short G None h = h
mailed_short G (Some e) h = h

moved_short : (net : Net) (x y : World) (s : WorldStep) → AllAnswered x.history → orders_short s ≡ true → Moved net x s y
    → AllAnswered y.history
unfolding apply_effect mark_delivered cut_short effect
moved_short net x y s h q (Moved.took w l limit none) =
    own_short x.history _ h (λ e same. made_short net x w l e q same)
moved_short net x y s h q (Moved.took_cut w l true limit none) =
    own_short x.history _ h (λ e same. made_short net x w l e q same)
moved_short net x y s h q (Moved.took_cut w l false limit none) = h
moved_short net x y s h q (Moved.stopped w limit) = h
moved_short net x y s h q (Moved.came a b k i opened limit none) = mailed_short x.history _ h
moved_short net x y s h q (Moved.came_cut a b k kept i opened limit none) = mailed_short x.history _ h

-- a step that is taken, or refused
one_short : (net : Net) (x : World) (s : WorldStep) (r : Result World StepRefused) → step net x s ≡ r
    → AllAnswered x.history → orders_short s ≡ true → AllAnswered (or_as_before x r).history
one_short net x s (Ok y) e h q = moved_short net x y s h q (moved net x s y e)
one_short net x s (Err f) e h q = h

free_short : (net : Net) (x : World) (s : WorldStep) (r : Result World StepRefused) → step net (recounted x) s ≡ r
    → AllAnswered x.history → orders_short s ≡ true → AllAnswered (or_as_before x r).history
free_short net x s (Ok y) e h q = moved_short net (recounted x) y s h q (moved net (recounted x) s y e)
free_short net x s (Err f) e h q = h

steps_run : (net : Net) (steps : List WorldStep) (x : World) → AllAnswered x.history
    → AllByRecursion (λ s. orders_short s ≡ true) steps → AllAnswered (run net steps x).history
unfolding run
steps_run net [] x h each = h
steps_run net (s ∷ steps) x h each =
    steps_run net steps (or_as_before x (step net x s)) (one_short net x s (step net x s) refl h each.0) each.1

steps_free : (net : Net) (steps : List WorldStep) (x : World) → AllAnswered x.history
    → AllByRecursion (λ s. orders_short s ≡ true) steps → AllAnswered (free_run net steps x).history
unfolding free_run free_step
steps_free net [] x h each = h
steps_free net (s ∷ steps) x h each =
    steps_free net steps (or_as_before x (step net (recounted x) s))
    (free_short net x s (step net (recounted x) s) refl h each.0) each.1

pub ordered_run : (net : Net) (steps : List WorldStep) → can_count (node_count net) ≡ true
    → AllByRecursion (λ s. orders_short s ≡ true) steps → are_answers_short net (run net steps empty_world) ≡ true
unfolding are_answers_short AllAnswered
ordered_run net steps few each = and_made _ _ few (steps_run net steps empty_world refl each)

pub ordered_free : (net : Net) (steps : List WorldStep) → can_count (node_count net) ≡ true
    → AllByRecursion (λ s. orders_short s ≡ true) steps → are_answers_short net (free_run net steps empty_world) ≡ true
unfolding are_answers_short AllAnswered
ordered_free net steps few each = and_made _ _ few (steps_free net steps empty_world refl each)
