use Rattle.std.proofs.Common.{◌-◌, arith, refl, sym, ◌∙◌}
use Rattle.calendars.specs.Nth.{is_of_kind, days_before, below}
use Rattle.calendars.proofs.Counting.{below-step, below-end, counted_last, counted_one, counted_none}
use Rattle.calendars.proofs.nth_days.nth_before.Goals as goal

pub returns-then-left-eq0 : goal.returns-then-left-eq0
returns-then-left-eq0 c =
    let x = c.loop-other.other in
    let pass = sym c.is_of_kind.ensures ∙ c.if-is_of_kind.true in
    counted_last (is_of_kind c.args.free.now c.args.kind) (days_before c.args.day) (below x) (below (x - 1)) c.args.passed
    c.loop-other.left (x - 1) c.loop-other.invariant (below-step x (omega arith)) pass c.if-left-eq0.true

pub loop-other-preserved-then-is_of_kind : goal.loop-other-preserved-then-is_of_kind
loop-other-preserved-then-is_of_kind c =
    let x = c.loop-other.other in
    let pass = sym c.is_of_kind.ensures ∙ c.if-is_of_kind.true in
    counted_one (is_of_kind c.args.free.now c.args.kind) (days_before c.args.day) (below x) (below (x - 1)) c.args.passed
    c.loop-other.left (x - 1) c.loop-other.invariant (below-step x (omega arith)) pass (omega (arith, c.if-left-eq0.false))

pub loop-other-preserved : goal.loop-other-preserved
loop-other-preserved c =
    let x = c.loop-other.other in
    let pass = sym c.is_of_kind.ensures ∙ c.if-is_of_kind.false in
    counted_none (is_of_kind c.args.free.now c.args.kind) (days_before c.args.day) (below x) (below (x - 1)) c.args.passed
    c.loop-other.left (x - 1) c.loop-other.invariant (below-step x (omega arith)) pass

pub returns : goal.returns
returns c =
    let none = below-end c.loop-other.other (omega (arith, c.loop-other-test.false)) in
    rw (c.loop-other.invariant, none) refl
