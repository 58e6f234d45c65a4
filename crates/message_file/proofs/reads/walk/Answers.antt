use Rattle.std.proofs.Common.{◌≡◌, ◌+◌, ℕ, List, Some, None, subst, arith}
use Rattle.std.specs.declared.option.Option.{Option}
use Rattle.message_file.specs.Cursors.{IsPlaceOf}
use Rattle.message_file.proofs.Cursors.{none_told, stands_told}
use Rattle.message_file.proofs.reads.walk.Goals as goal

pub returns-in-None-clause-place : goal.returns-in-None-clause-place
returns-in-None-clause-place g c =
    let l = c.loop-i in
    let told = g.D.Disk.seen c.args.disk.now in
    let next = subst (λ (p : Option ℕ). IsPlaceOf (g.D.Disk.seen l.disk) (l.i + 1) p) c.in-None.is c.in_ok-next.ensures.place in
    none_told told (l.i + 1) c.args.number (subst (λ (t : Option (List ℕ)). IsPlaceOf t (l.i + 1) None) l.invariant.reads.same next)

pub returns-clause-place : goal.returns-clause-place
returns-clause-place g c =
    let done : c.loop-i.i ≡ c.args.number = omega (arith, c.loop-i-test.false, c.loop-i.auto.i-end c.requires.before) in
    subst (λ (n : ℕ). IsPlaceOf (g.D.Disk.seen c.args.disk.now) n (Some c.loop-i.place)) done (stands_told (g.D.Disk.seen c.args.disk.now) c.loop-i.i c.loop-i.place c.loop-i.invariant.at)
