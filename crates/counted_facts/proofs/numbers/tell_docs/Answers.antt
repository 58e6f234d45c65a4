use Rattle.std.proofs.Common.{take}
use Rattle.std.specs.Prelude.{◌||◌}
use Rattle.model.specs.Types.{StreamDoc}
use Rattle.counted_facts.proofs.Numbered.{first_half, last_half, next_tells, next_told}
use Rattle.counted_facts.specs.Subjects.{have_number}
use Rattle.counted_facts.proofs.numbers.tell_docs.Goals as goal

pub loop-doc-init : goal.loop-doc-init
loop-doc-init c =
    λ fact G e done at h. first_half (λ (d : StreamDoc). d.no) fact G e done c.args.timelines.now h

pub loop-doc-preserved : goal.loop-doc-preserved
loop-doc-preserved c =
    λ fact G e done at h. next_told (λ (d : StreamDoc). d.no) fact G e done c.tell_number.new.timelines c.args.docs.now
    c.loop-doc.doc-index c.doc-item.result c.doc-item.result c.number_of.result c.loop-doc-test.true c.doc-item.is c.number_of.ensures
    (c.in_ok-tell_number.ensures fact G e (λ m. done m || have_number (take c.loop-doc.doc-index c.args.docs.now) m)
    (next_tells (λ (d : StreamDoc). d.no) fact G e c.args.w c.args.place (have_number c.args.docs.now)
    c.args.docs.now c.loop-doc.doc-index c.doc-item.result c.doc-item.result c.number_of.result (λ m h. h) c.loop-doc-test.true
    c.doc-item.is c.number_of.ensures at)
    (c.loop-doc.invariant fact G e done at h))

pub returns : goal.returns
returns c =
    λ fact G e done at h. last_half (λ (d : StreamDoc). d.no) fact G e done c.loop-doc.timelines c.args.docs.now
    c.loop-doc.doc-index c.loop-doc-test.false (c.loop-doc.invariant fact G e done at h)
