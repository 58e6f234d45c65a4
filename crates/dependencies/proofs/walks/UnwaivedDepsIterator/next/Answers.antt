use Rattle.std.proofs.Common.{◌≡◌, ◌∷◌, ◌+◌, ◌≤◌, ◌∙◌, [], ap, arith, length, rules, sym}
use Rattle.model.specs.History.{view_of}
use Rattle.model.specs.Dependencies.{deps}
use Rattle.dependencies.specs.Left.{deps_left, numbered}
use Rattle.dependencies.specs.declared.walks.UnwaivedDeps.{UnwaivedDeps}
use Rattle.dependencies.proofs.Behind.{all_behind, few, left_behind, next_left, next_waived, none_left}
use Rattle.dependencies.proofs.walks.UnwaivedDepsIterator.next.Goals as goal

pub returns-in-None-clause-steps : goal.returns-in-None-clause-steps
returns-in-None-clause-steps c =
    let V = view_of c.args.self.now.owners.now in
    let none : left_behind V c.loop-passed.self.obj c.loop-passed.passed ≡ [] =
    none_left V c.loop-passed.self.obj c.loop-passed.passed (sym c.in-None.ensures)
    in (
      ap deps_left (sym c.loop-passed.invariant.still) ∙ c.loop-passed.invariant.left ∙ none,
      c.loop-passed.invariant.left ∙ none,
    )

pub returns-then-not-is_waived-clause-steps : goal.returns-then-not-is_waived-clause-steps
returns-then-not-is_waived-clause-steps c =
    let V = view_of c.args.self.now.owners.now in
    ap deps_left (sym c.loop-passed.invariant.still) ∙ c.loop-passed.invariant.left
    ∙ next_left V c.loop-passed.self.obj c.loop-passed.passed c.in-Some.dep.now (sym c.in-Some.ensures)
    (sym c.is_waived.ensures ∙ c.if-not-is_waived.true)
    ∙ ap
    (λ (s : UnwaivedDeps).
    numbered (c.loop-passed.passed + 1) c.in-Some.dep.now
    ∷ left_behind (view_of s.owners.now) c.loop-passed.self.obj (c.loop-passed.passed + 1))
    (sym c.loop-passed.invariant.still)

pub returns-then-not-is_waived-clause-goes : goal.returns-then-not-is_waived-clause-goes
returns-then-not-is_waived-clause-goes c =
    let e = returns-then-not-is_waived-clause-steps c in
    search rules

pub loop-passed-preserved : goal.loop-passed-preserved
loop-passed-preserved c =
    record {
      still = c.loop-passed.invariant.still;
      left =
          c.loop-passed.invariant.left
          ∙ next_waived (view_of c.args.self.now.owners.now) c.loop-passed.self.obj c.loop-passed.passed
          c.in-Some.dep.now (sym c.in-Some.ensures) (sym c.is_waived.ensures ∙ c.if-not-is_waived.false);
    }

pub returns-clause-steps : goal.returns-clause-steps
returns-clause-steps c =
    let V = view_of c.args.self.now.owners.now in
    let all : length (deps V c.loop-passed.self.obj) ≤ c.loop-passed.passed =
    omega (arith, few V c.loop-passed.self.obj)
    in
    let none : left_behind V c.loop-passed.self.obj c.loop-passed.passed ≡ [] =
    all_behind V c.loop-passed.self.obj c.loop-passed.passed all
    in (
      ap deps_left (sym c.loop-passed.invariant.still) ∙ c.loop-passed.invariant.left ∙ none,
      c.loop-passed.invariant.left ∙ none,
    )
