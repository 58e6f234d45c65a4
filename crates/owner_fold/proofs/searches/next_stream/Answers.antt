use Rattle.std.proofs.Common.{◌∙◌, refl, sym}
use Rattle.owner_fold.specs.Searches.{stream_passes}
use Rattle.owner_fold.specs.Sets.{stream_coded}
use Rattle.owner_fold.proofs.Passing.{none_passes, passes_next}
use Rattle.owner_fold.proofs.searches.next_stream.Goals as goal

pub returns-then-stream_passes : goal.returns-then-stream_passes
returns-then-stream_passes c =
    c.loop-i.invariant
    ∙ passes_next (stream_coded c.args.owners.now c.args.w) (stream_passes c.args.test c.args.owners.now c.args.w)
    c.args.codes.now c.loop-i.i c.in-Some.doc.now c.loop-i-test.true (sym c.in-Some.ensures)
    (sym c.stream_passes.ensures ∙ c.if-stream_passes.true)

pub returns : goal.returns
returns c = (
  c.loop-i.invariant
      ∙ none_passes (stream_coded c.args.owners.now c.args.w) (stream_passes c.args.test c.args.owners.now c.args.w)
      c.args.codes.now c.loop-i.i c.loop-i-test.false,
  refl,
)
