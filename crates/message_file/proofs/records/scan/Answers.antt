use Rattle.std.proofs.Common.{arith, subst, rules}
use Rattle.message_file.specs.Attaching.{IsFound}
use Rattle.message_file.specs.Bounds.{IsBounded}
use Rattle.message_file.specs.declared.records.Found.{Found}
use Rattle.message_file.proofs.Scanning.{told_next, reads_then}
use Rattle.message_file.proofs.records.scan.Goals as goal

pub loop-place-preserved : goal.loop-place-preserved
loop-place-preserved g c =
    let l = c.loop-place in
    let v = l.invariant in
    let next = c.in-Next.next in
    let found = subst (λ (f : Found). IsFound f l.place (g.D.Disk.seen l.disk)) c.in-Next.is c.in_ok-find.ensures.found in
    let bounds = subst (λ (f : Found). IsBounded f l.place c.args.len) c.in-Next.is c.in_ok-find.ensures.bounds in
    record {
      within = bounds.1;
      short = bounds.2;
      counted = omega (arith, v.counted, bounds.0);
      before = told_next (g.D.Disk.seen c.args.disk.now) (g.D.Disk.seen l.disk) c.args.owner l.count l.place next v.reads.same v.before found bounds.2;
      reads = reads_then g.D.Disk.seen g.D.Disk.may_leave g.D.Disk.moment g.D.Disk.left_since c.args.disk.now l.disk c.find.new.disk v.reads c.find.ensures.reads;
      cause = search rules;
    }
