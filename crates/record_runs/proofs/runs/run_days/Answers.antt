use Rattle.std.proofs.Common.{◌∙◌}
use Rattle.network_tree.proofs.Trees.{few}
use Rattle.record_runs.proofs.Coming.{stop_comes}
use Rattle.record_runs.proofs.Nights.{all_of_it, script_done, script_stopped, some_of_it}
use Rattle.record_runs.proofs.runs.run_days.Goals as goal

pub returns-in-None-clause-end : goal.returns-in-None-clause-end
returns-in-None-clause-end g c = λ day is.
    script_done day c.args.script c.in_ok-world.world c.take_lines.new.world c.in_ok-world.world.net c.new-left.result
    c.as_slice.result.now (c.in_ok-world.ensures.net ∙ c.into_parts-net.ensures.net)
    (c.new-left.ensures ∙ c.into_parts-net.ensures.plans) (c.as_slice.ensures ∙ c.into_parts-net.ensures.steps)
    c.in_ok-world.ensures.empty
    (all_of_it _ _ c.in-None.is (c.in_ok-take_lines.ensures.all day is))

pub returns-clause-end : goal.returns-clause-end
returns-clause-end g c = λ day is.
    script_stopped day c.args.script c.in_ok-world.world c.in_ok-world.world.net c.new-left.result
    c.as_slice.result.now (c.in-Some.line, c.in-Some.stop) (c.in_ok-world.ensures.net ∙ c.into_parts-net.ensures.net)
    (c.new-left.ensures ∙ c.into_parts-net.ensures.plans) (c.as_slice.ensures ∙ c.into_parts-net.ensures.steps)
    c.in_ok-world.ensures.empty
    (some_of_it _ _ _ c.in-Some.is (c.in_ok-take_lines.ensures.stopped day is))

pub returns-clause-otherwise : goal.returns-clause-otherwise
returns-clause-otherwise g c = λ day is plans.
    stop_comes day c.args.script c.in-Some.line c.in-Some.stop (few c.args.script.net c.requires.accepted).0
    c.requires.inside plans
    (script_stopped day c.args.script c.in_ok-world.world c.in_ok-world.world.net c.new-left.result
    c.as_slice.result.now (c.in-Some.line, c.in-Some.stop) (c.in_ok-world.ensures.net ∙ c.into_parts-net.ensures.net)
    (c.new-left.ensures ∙ c.into_parts-net.ensures.plans) (c.as_slice.ensures ∙ c.into_parts-net.ensures.steps)
    c.in_ok-world.ensures.empty
    (some_of_it _ _ _ c.in-Some.is (c.in_ok-take_lines.ensures.stopped day is)))
