use Rattle.std.proofs.Common.{◌++◌, ◌+◌, ◌∙◌, ap, arith, length, length-append, refl}
use Rattle.mail_frames.specs.Streams.{told}
use Rattle.mail_frames.specs.Decoding.{Decoding}
use Rattle.mail_frames.proofs.Reached.{at_front, front_short}
use Rattle.mail_frames.proofs.Feeding.{feeds_open}
use Rattle.mail_frames.proofs.decoders.Decoder.go_on.Goals as goal

pub keep-requires : goal.keep-requires
keep-requires c =
    let all = c.args.self.now.rest ++ c.args.piece.now in
    omega (
      arith,
      front_short all (at_front c.args.place all c.requires.open),
      length-append c.args.self.now.rest
          c.args.piece.now,
    )

pub returns-clause-ok : goal.returns-clause-ok
returns-clause-ok c =
    let old = c.args.self.now in
    let piece = c.args.piece.now in
    feeds_open old _ piece c.new.result _ c.new.ensures refl
    (ap (λ (d : Decoding). d.bad) c.self.view_is
    ∙ c.requires.good) (c.in_ok-keep.ensures.ok ∙ ap (λ (d : Decoding). d.rest ++ piece) c.self.view_is)
    (at_front c.args.place (old.rest ++ piece) c.requires.open)
    (c.saturating_add-self-inside.ensures ∙ ap (λ (d : Decoding). told (d.taken + length piece)) c.self.view_is)
