use Rattle.std.proofs.Common.{◌==◌, ap, ◌∙◌}
use Rattle.std.specs.List.{position_or_len}
use Rattle.record_rows.proofs.FirstPlaces.{before_place, behind_place}
use Rattle.record_rows.proofs.spellings.cut_at.Goals as goal

pub range-requires-clause-end_boundary : goal.range-requires-clause-end_boundary
range-requires-clause-end_boundary c =
    before_place c.args.byte c.args.text.now _ c.requires
    (c.length_before-length.ensures ∙ ap (position_or_len (λ b. b == c.args.byte)) c.as_bytes.ensures.value)

pub range_from-requires : goal.range_from-requires
range_from-requires c _ =
    behind_place c.args.byte c.args.text.now _ c.requires c.utf8.text
    (c.length_before-length.ensures ∙ ap (position_or_len (λ b. b == c.args.byte)) c.as_bytes.ensures.value)
    c.if-length-text.false
