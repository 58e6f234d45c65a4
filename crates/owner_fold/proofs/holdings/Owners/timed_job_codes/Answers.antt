use Rattle.std.proofs.Common.{List, refl, subst, ◌∙◌}
use Rattle.model.specs.Types.{Entry}
use Rattle.owner_fold.specs.Given.{has_time}
use Rattle.owner_fold.specs.Sets.{AreSetsOf}
use Rattle.owner_fold.proofs.Coded.{given_jobs_found}
use Rattle.owner_fold.proofs.holdings.Owners.timed_job_codes.Goals as goal

pub returns : goal.returns
returns c =
    given_jobs_found c.args.self.now c.self.inside.sets
    (subst (λ (l : List Entry). AreSetsOf l c.self.inside.sets) c.self.view_is c.self.invariant.sets) c.args.w
    c.from.result c.of.result.now c.self.inside.sets.timed.jobs (c.from.ensures ∙ c.w.view_is) c.of.ensures.codes
    c.of.ensures.rising has_time c.self.inside.sets.timed
    (subst (λ (l : List Entry). AreSetsOf l c.self.inside.sets) c.self.view_is c.self.invariant.sets).timed
    refl
