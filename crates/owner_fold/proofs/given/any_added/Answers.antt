use Rattle.std.proofs.Common.{Bool, ap, arith, drop, flat_map, sym, ◌+◌, ◌∙◌}
use Rattle.std.specs.List.{list_any}
use Rattle.std.specs.Prelude.{◌||◌}
use Rattle.model.specs.Types.{Events}
use Rattle.model.specs.History.{list_of}
use Rattle.model.specs.Dependencies.{deps_added_by}
use Rattle.model.specs.Facts.{commands}
use Rattle.owner_fold.specs.Given.{is_of}
use Rattle.owner_fold.proofs.Additions.{added_such}
use Rattle.owner_fold.proofs.Giving.{any_behind, any_from}
use Rattle.owner_fold.proofs.given.any_added.Goals as goal

pub loop-i-init : goal.loop-i-init
loop-i-init c = sym (added_such (is_of c.args.kind) c.args.o.now (commands (list_of c.args.kept.now (Events c.args.w))))

pub returns-then-is_added : goal.returns-then-is_added
returns-then-is_added c =
    let added = flat_map (deps_added_by c.args.o.now) (commands (list_of c.args.kept.now (Events c.args.w))) in
    sym
    (c.loop-i.invariant ∙ any_from (is_of c.args.kind) added c.loop-i.i (omega (arith, c.loop-i-test.true, c.added_at-i-end.ensures))
    ∙ ap (λ (b : Bool). b || list_any (is_of c.args.kind) (drop (c.loop-i.i + 1) added))
    (sym c.is_added.ensures ∙ c.if-is_added.true))

pub loop-i-preserved : goal.loop-i-preserved
loop-i-preserved c =
    let added = flat_map (deps_added_by c.args.o.now) (commands (list_of c.args.kept.now (Events c.args.w))) in
    c.loop-i.invariant ∙ any_from (is_of c.args.kind) added c.loop-i.i (omega (arith, c.loop-i-test.true, c.added_at-i-end.ensures))
    ∙ ap (λ (b : Bool). b || list_any (is_of c.args.kind) (drop (c.loop-i.i + 1) added))
    (sym c.is_added.ensures ∙ c.if-is_added.false)

pub returns : goal.returns
returns c =
    let added = flat_map (deps_added_by c.args.o.now) (commands (list_of c.args.kept.now (Events c.args.w))) in
    sym
    (c.loop-i.invariant ∙ any_behind (is_of c.args.kind) added c.loop-i.i (omega (arith, c.loop-i-test.false, c.added_at-i-end.ensures)))
