use Rattle.std.proofs.Common.{◌∙◌, ap, drop, false, arith}
use Rattle.rc_conditions.proofs.Newest.{without_newest}
use Rattle.rc_conditions.proofs.results.Results.pop.Goals as goal

pub returns-clause-others : goal.returns-clause-others
returns-clause-others c =
    without_newest c.self.inside.values c.self.inside.count false (omega (arith, c.if-self-eq0.false))
    (omega (arith, c.self.told, c.self.invariant))
    ∙ ap (λ xs. drop 1 xs) c.self.view_is
