use Rattle.network_runs.proofs.Carrying.{brings}
use Rattle.network_runs.proofs.Members.{in_of}
use Rattle.network_runs.proofs.Ordered.{in_order}
use Rattle.network_runs.proofs.Running.{runs_in}
use Rattle.network_runs.proofs.Whole.{night_is_world}
use Rattle.network_runs.proofs.laws.every_night_is_a_world.Goals as goal

pub returns : goal.returns
returns c = λ defs night n.
    let so_far = night_is_world defs night n in
    record {
      world = so_far.world;
      is = record {
        steps = so_far.reached.steps;
        by_them = so_far.reached.by_them;
        history_ = so_far.history_;
        kept_ = so_far.kept_;
        runs_ = λ w past running_. runs_in defs night n so_far w past running_;
        idle_ = so_far.idle_;
        sent_ = λ a b bytes ok sent.
            let it = so_far.sent_ a b bytes ok (in_of _ night sent) in brings so_far.world a b it.0 bytes it.1 it.2;
        starts_ = λ w. in_order
            (λ d turns node trace end new runs front back it split. c.launches_are_started_once.ensures.kept_first d turns node trace end new runs front back it split)
            defs night n so_far w;
      };
      sound = so_far.sound;
    }
