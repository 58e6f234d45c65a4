use Rattle.std.proofs.Common.{[], ◌++◌, ◌∙◌, ◌∷◌, List, ap, arith}
use Rattle.model.specs.Types.{Dep}
use Rattle.model.specs.NewPlan.{resolve_dep}
use Rattle.carry_forward.proofs.Counts.{made_none, made_some}
use Rattle.carry_forward.proofs.documents.dependencies.Goals as goal
use Rattle.carry_forward.proofs.documents.dependencies.Goals.{in-Some+in_ok-push, in_default}

pub loop-draft-preserved : goal.loop-draft-preserved
loop-draft-preserved c =
    elim c.match-branch-2.branch [
      | in-Some+in_ok-push w ↦ (
          w.deps-is
          ∙ (w.in_ok-push.ensures.ok
          ∙ (ap (λ (l : List Dep). l ++ w.in-Some.dep ∷ []) c.loop-draft.invariant
          ∙ made_some (resolve_dep c.args.names.now.fresh c.args.names.now.earlier) c.args.drafts.now
          c.loop-draft.draft-index c.draft-item.result c.in_ok-dep.field-0 w.in-Some.dep (omega arith) c.draft-item.is
          c.in_ok-dep.ensures w.in-Some.is)))
      | in_default w ↦ (
          w.deps-is
          ∙ (c.loop-draft.invariant
          ∙ made_none (resolve_dep c.args.names.now.fresh c.args.names.now.earlier) c.args.drafts.now
          c.loop-draft.draft-index c.draft-item.result c.in_ok-dep.field-0 (omega arith) c.draft-item.is
          c.in_ok-dep.ensures w.in_default.is))
    ]
