use Rattle.std.proofs.Common.{◌+◌, ◌∙◌, ap, refl, length}
use Rattle.std.specs.Prelude.{Some}
use Rattle.mail_frames.specs.Streams.{told}
use Rattle.mail_frames.specs.Decoding.{Decoding}
use Rattle.mail_frames.proofs.Feeding.{feeds_broken}
use Rattle.mail_frames.proofs.decoders.Decoder.stop.Goals as goal

pub returns : goal.returns
returns c =
    let old = c.args.self.now in
    feeds_broken old _ c.args.piece.now c.args.count c.new-2.result _ c.new-2.ensures c.requires.broken refl
    (ap Some (c.saturating_add.ensures ∙ ap (λ (d : Decoding). told (d.taken + c.args.count)) c.self.view_is))
    (c.saturating_add-self-inside.ensures ∙ ap (λ (d : Decoding). told (d.taken + length c.args.piece.now))
    c.self.view_is)
