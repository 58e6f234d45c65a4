use Rattle.std.proofs.Common.{refl}
use Rattle.owner_fold.proofs.Beside.{beside_changed, beside_prepared}
use Rattle.owner_fold.proofs.Further.{plan_without}
use Rattle.owner_fold.proofs.holdings.Owners.take_other.Goals as goal

pub put_brought-requires : goal.put_brought-requires
put_brought-requires c =
    plan_without c.self.inside.kept c.args.e c.self.inside.plan c.requires.other c.self.invariant.plan

pub invariant_of-self : goal.invariant_of-self
invariant_of-self c =
    beside_prepared c.self.inside.kept c.self.inside.kept c.self.inside.plan c.self.inside.sets c.prepare.new.self
    c.self.inside.pairs c.self.inside.pairs c.self.inside.works c.self.inside.ordered refl c.prepare.ensures.keeps (λ n h. h) c.self.invariant

pub invariant_of-self-in_err-put_brought : goal.invariant_of-self-in_err-put_brought
invariant_of-self-in_err-put_brought c =
    beside_prepared c.self.inside.kept c.self.inside.kept c.self.inside.plan c.self.inside.sets c.prepare.new.self
    c.self.inside.pairs c.put_brought.new.pairs c.self.inside.works c.self.inside.ordered refl c.prepare.ensures.keeps
    c.put_brought.ensures.keeps c.self.invariant

pub invariant_of-self-in_err-take_own : goal.invariant_of-self-in_err-take_own
invariant_of-self-in_err-take_own c =
    beside_prepared c.self.inside.kept c.take_own.new.self c.self.inside.plan c.self.inside.sets c.prepare.new.self
    c.self.inside.pairs c.put_brought.new.pairs c.self.inside.works c.self.inside.ordered c.in_err-take_own.ensures.err c.prepare.ensures.keeps
    c.put_brought.ensures.keeps c.self.invariant

pub invariant_of-self-2 : goal.invariant_of-self-2
invariant_of-self-2 c =
    beside_changed c.self.inside.kept c.take_own.new.self c.args.e c.self.inside.plan c.self.inside.sets
    c.prepare.new.self c.settle.new.self c.change_of-change.result c.self.inside.pairs c.put_brought.new.pairs
    c.self.inside.works c.self.inside.ordered c.is_ordered_with-ordered.result c.self.invariant c.requires.other c.change_of-change.ensures c.prepare.ensures.keeps
    c.in_ok-prepare.ensures.begins c.in_ok-take_own.ensures.ok c.settle.ensures c.put_brought.ensures.keeps
    c.in_ok-put_brought.ensures.there c.is_ordered_with-ordered.ensures
