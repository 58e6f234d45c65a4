-- What the program's language orders has a short answer.
use Rattle.std.proofs.Common.{◌≡◌, ℕ, ◌*◌, ◌≤◌, List, [], ◌∷◌, length, ap, arith, Option, Some, None}
use Rattle.std.proofs.lemmas.List.Sums.{sum_by-cons}
use Rattle.std.proofs.lemmas.List.Elements.{recursion_from_All}
use Rattle.std.specs.List.{AllByRecursion}
use Rattle.std.specs.Prelude.{sum_by}
use Rattle.model.specs.Types.{AddDep, And, At, Cmd, Cmp, Command, CondOp, Deadline, Dep, FollowsJob, FollowsStream, Global}
use Rattle.model.specs.Types.{JobDraft, Needs, Not, Or, Outside, Own, Prompt, Script, Submit, Until, Work}
use Rattle.model.specs.Fit.{IsFitCmd, IsFitDep, IsFitJobDraft, IsFitWork}
use Rattle.model.specs.Sizes.{dep_size, draft_dep_size, job_draft_size, op_size, option_size, work_size}
use Rattle.rest_laws.specs.Short.{IsSmall, answer_size}

dep_fits : (d : Dep) → IsFitDep d → dep_size d ≤ 4099
dep_fits (FollowsJob j) fit = omega arith
dep_fits (FollowsStream s) fit = omega arith
dep_fits (Needs r n) fit = omega arith
dep_fits (Prompt (Global p)) fit = omega arith
dep_fits (Prompt (Own text)) fit = omega (arith, fit)
dep_fits (At t) fit = omega arith
dep_fits (Until t then_) fit = omega arith
dep_fits (Outside path) fit = omega (arith, fit)
dep_fits (Deadline t) fit = omega arith

work_fits : (w : Work) → IsFitWork w → work_size w ≤ 4099
work_fits (Command text) fit = omega (arith, fit)
work_fits (Script text) fit = omega (arith, fit)

op_fits : (o : CondOp) → op_size o ≤ 5
op_fits (Cmp r n) = omega arith
op_fits And = omega arith
op_fits Or = omega arith
op_fits Not = omega arith

ops_fit : (ops : List CondOp) → sum_by op_size ops ≤ 5 * length ops
ops_fit [] = omega arith
ops_fit (o ∷ ops) = omega (arith, sum_by-cons op_size o ops, op_fits o, ops_fit ops)

job_fits : (d : JobDraft) → IsFitJobDraft d → d.deps ≡ [] → job_draft_size d ≤ 20000
job_fits d fit none =
    omega (
      arith,
      fit.name_,
      work_fits d.work fit.work_,
      fit.logon_,
      ops_fit d.cond,
      fit.cond_,
      ap (sum_by draft_dep_size) none,
    )

jobs_fit : (ds : List JobDraft) → AllByRecursion IsFitJobDraft ds → AllByRecursion (λ (d : JobDraft). d.deps ≡ []) ds
    → length ds ≤ 1 → sum_by job_draft_size ds ≤ 20000
jobs_fit [] fit none one = omega arith
jobs_fit (d ∷ []) fit none one = omega (arith, job_fits d fit.0 none.0)
jobs_fit (d ∷ e ∷ ds) fit none one = absurd (omega (arith, one))

limit_fits : (o : Option ℕ) → option_size (λ (n : ℕ). 2) o ≤ 3
limit_fits None = omega arith
limit_fits (Some n) = omega arith

pub written_short : (c : Cmd) → IsFitCmd c → IsSmall c → answer_size c ≤ 4194304
unfolding answer_size
written_short (Submit draft) fit small =
    omega (
      arith,
      fit.name_,
      limit_fits draft.limit,
      ap (sum_by draft_dep_size) small.1,
      jobs_fit draft.jobs (recursion_from_All IsFitJobDraft draft.jobs fit.jobs_.1) small.2 small.0,
      small.0,
    )
written_short (AddDep o d) fit small = omega (arith, dep_fits d fit)
written_short c fit small = omega arith
