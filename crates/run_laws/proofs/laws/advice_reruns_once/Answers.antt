use Rattle.std.proofs.Common.{◌++◌, ◌∙◌, ◌≡◌, ◌∷◌, ℕ, Option, Some, append_assoc, false, sym}
use Rattle.composer_parser.specs.declared.Defs.{Defs}
use Rattle.model.specs.Types.{Entry, Rerun}
use Rattle.agent_core.specs.Nodes.{NodeState}
use Rattle.recovery_watch.specs.Advice.{advice}
use Rattle.node_inputs.specs.Traces.{Event, Trace}
use Rattle.node_inputs.specs.declared.ends.NodeEnd.{NodeEnd}
use Rattle.run_laws.specs.Alone.{IsOwnOrder}
use Rattle.run_laws.specs.Held.{held_after}
use Rattle.node_loop.specs.Runs.{Run, Running, running}
use Rattle.run_laws.proofs.Advising.{rerun_is_due, run_advised}
use Rattle.run_laws.proofs.Answering.{never_obeyed}
use Rattle.run_laws.proofs.Holding.{run_keeps}
use Rattle.run_laws.proofs.Made.{HasNextPlace, IsNextAnswer, made_answer, made_place}
use Rattle.run_laws.proofs.laws.advice_reruns_once.Goals as goal

pub returns-clause-advised : goal.returns-clause-advised
returns-clause-advised c = λ defs turns node trace end new runs front back e split own alone.
    let it = (run_advised defs turns (running node) trace end new runs).each front (Event.Keeps e) back split false alone own in
    (it.command, it.its_body, it.due)

-- a rerun that nobody asked for is advised
due : (defs : Defs) (turns : ℕ) (node : NodeState) (trace : Trace) (end : Option NodeEnd) (new : Running)
    → Run defs turns (running node) trace end new → (front back : Trace) (e : Entry) (j : ℕ)
    → trace ≡ front ++ Event.Keeps e ∷ back → IsOwnOrder node.me front e (Rerun j)
    → advice (held_after node front) node.me ≡ Some (Rerun j)
due defs turns node trace end new runs front back e j split own =
    rerun_is_due node.me (held_after node front) e j
    ((run_advised defs turns (running node) trace end new runs).each front (Event.Keeps e) back split false own.alone own.its_feed)
    own.its_body

pub returns-clause-not_yet : goal.returns-clause-not_yet
returns-clause-not_yet c = λ defs turns node trace end new runs front back e j split own.
    c.reruns_are_advised_once.ensures (held_after node front) node.me j
    (due defs turns node trace end new runs front back e j split own)

pub returns-clause-once : goal.returns-clause-once
returns-clause-once c = λ defs turns node trace end new runs front middle back e d j split first second.
    let advised = due defs turns node trace end new runs (front ++ Event.Keeps e ∷ middle) back d j
    (split ∙ sym (append_assoc front (Event.Keeps e ∷ middle) (Event.Keeps d ∷ back))) second in
    never_obeyed node new.node trace end (run_keeps HasNextPlace made_place defs turns (running node) trace end new runs)
    (run_keeps IsNextAnswer made_answer defs turns (running node) trace end new runs) front middle back e d j split
    first.its_feed second.its_feed (Rerun j) advised
    (c.reruns_are_advised_once.ensures (held_after node (front ++ Event.Keeps e ∷ middle)) node.me j advised)
