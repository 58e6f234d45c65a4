use Rattle.std.proofs.Common.{arith}
use Rattle.mail_frames.specs.declared.places.Scanned.TheVariants.{Open, Whole, Bad}
use Rattle.mail_frames.proofs.Reached.{one_further}
use Rattle.mail_frames.proofs.scans.scan.Goals as goal

pub loop-i-preserved : goal.loop-i-preserved
loop-i-preserved c =
    one_further c.args.start c.loop-i.place c.args.bytes.now c.loop-i.i 0 (Open c.in-Open.next) c.loop-i-test.true
    c.loop-i.invariant.1 c.in-Open.ensures

pub returns-in-Whole : goal.returns-in-Whole
returns-in-Whole c = (
  omega arith,
  omega (arith, c.loop-i-test.true),
  one_further c.args.start c.loop-i.place c.args.bytes.now c.loop-i.i 0 Whole c.loop-i-test.true
      c.loop-i.invariant.1 c.in-Whole.ensures,
)

pub returns-in-Bad : goal.returns-in-Bad
returns-in-Bad c = (
  c.loop-i-test.true,
  (c.loop-i.place, c.loop-i.invariant),
  one_further c.args.start c.loop-i.place c.args.bytes.now c.loop-i.i 0 Bad c.loop-i-test.true
      c.loop-i.invariant.1 c.in-Bad.ensures,
)
