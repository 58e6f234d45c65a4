use Rattle.std.proofs.Common.{ℕ, List, ◌++◌, ◌+◌, ◌∙◌, ◌∷◌, ap, refl, subst, length, take, []}
use Rattle.mail_frames.specs.Spelling.{FrameBytes}
use Rattle.mail_frames.specs.Streams.{told}
use Rattle.mail_frames.specs.Decoding.{Decoding}
use Rattle.mail_frames.specs.Pieces.{Reads, told_behind}
use Rattle.mail_frames.specs.declared.frames.Frame.{Frame}
use Rattle.mail_frames.proofs.Feeding.{feeds_whole, reads_at}
use Rattle.mail_frames.proofs.decoders.Decoder.finish.Goals as goal

pub invariant_of-self : goal.invariant_of-self
invariant_of-self c =
    let tail = c.in_ok-kept.field-0 in
    reads_at _ tail.kept.items _ c.read_on.new.frames tail.place tail.bad c.in_ok-kept.ensures

pub returns-clause-ok : goal.returns-clause-ok
returns-clause-ok c =
    let old = c.args.self.now in
    let piece = c.args.piece.now in
    let tail = c.in_ok-kept.field-0 in
    let f = c.in_ok-frame_of.field-0 in
    let rest = ap (λ (d : Decoding). d.rest) c.self.view_is in
    let whole : FrameBytes f (old.rest ++ take c.args.count piece) =
    subst (FrameBytes f) (λ i. (c.as_slice.ensures ∙ rest) i ++ c.split_at.ensures.front i) c.in_ok-frame_of.ensures in
    feeds_whole old _ piece c.args.count f c.push.new.self c.read_on.new.frames tail.place tail.kept.items tail.bad
    _ c.requires.within whole
    (c.in_ok-push.ensures.ok ∙ ap (λ (fs : List Frame). fs ++ f ∷ []) c.new-frames.ensures)
    (subst (λ (b : List ℕ). Reads b c.push.new.self c.read_on.new.frames tail.place tail.kept.items tail.bad)
    c.split_at.ensures.back c.in_ok-kept.ensures)
    refl refl
    (c.place_behind-behind.ensures ∙ ap (λ (d : Decoding). told_behind d.taken c.args.count tail.bad) c.self.view_is)
    (c.saturating_add-self-inside.ensures ∙ ap (λ (d : Decoding). told (d.taken + length piece)) c.self.view_is)
