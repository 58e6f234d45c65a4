use Rattle.std.proofs.Common.{◌∙◌, ap, refl, subst}
use Rattle.std.specs.Int.{w32}
use Rattle.std.proofs.lemmas.Int.{to_z-of_z}
use Rattle.model.specs.Sessions.{without_job}
use Rattle.agent_core.specs.Steps.{IsDue, Keeps}
use Rattle.agent_core.proofs.OwnEntries.{end, end_step}
use Rattle.agent_core.proofs.agents.Agent.ended.Goals as goal

pub returns-in-Err : goal.returns-in-Err
returns-in-Err c = (
  subst (λ rc. IsDue c.args.self.now (end c.args.j rc) c.in-Err.fault) (to_z-of_z w32 c.args.rc c.ranges.rc)
      c.in-Err.ensures,
  refl,
)

pub keep-requires : goal.keep-requires
keep-requires c = c.in-Ok.ensures.next

pub returns : goal.returns
returns c =
    end_step c.args.self.now c.keep.new.self c.args.j c.args.rc c.in-Ok.entry c.in_ok-live.live c.keep.result
    (c.in_ok-live.ensures ∙ ap (without_job c.args.j) c.live.ensures)
    (subst (λ rc. Keeps c.args.self.now (end c.args.j rc) c.in-Ok.entry) (to_z-of_z w32 c.args.rc c.ranges.rc)
    c.in-Ok.ensures) c.keep.ensures
