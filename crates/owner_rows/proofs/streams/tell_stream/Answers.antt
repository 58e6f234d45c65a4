use Rattle.std.proofs.Math.Dec.{eqb}
use Rattle.std.proofs.Common.{ap, sym, ◌∙◌}
use Rattle.lemmas.proofs.Numbers.{number_itself, number_tells}
use Rattle.owner_rows.specs.Streams.{IsStreamRow, stream_with}
use Rattle.owner_rows.specs.Subjects.{stream_in}
use Rattle.owner_rows.specs.Tables.{row_in}
use Rattle.owner_rows.proofs.StreamTelling.{stream_quiet, stream_told}
use Rattle.owner_rows.proofs.Rows.{rows_stay, rows_told}
use Rattle.owner_rows.proofs.streams.tell_stream.Goals as goal

pub returns-in-Some : goal.returns-in-Some
returns-in-Some c kept room h =
    rows_told eqb number_tells number_itself IsStreamRow stream_in stream_quiet kept c.args.e.now (row_in c.args.streams.now) h
    (c.in-Some.w, c.in-Some.s) c.after.result (row_in c.put.new.self) (sym c.stream_key.ensures ∙ c.in-Some.is) room
    (λ short subject. stream_told _ c.args.e.now.body c.in-Some.s _ c.after.result (h c.in-Some.w c.in-Some.s)
    (c.after.ensures ∙ ap (stream_with c.in-Some.s c.args.e.now.body) c.row-row.ensures)) c.put.ensures

pub returns-in_default : goal.returns-in_default
returns-in_default c kept room h =
    rows_stay eqb number_tells number_itself IsStreamRow stream_in stream_quiet kept c.args.e.now (row_in c.args.streams.now) h
    (sym c.stream_key.ensures ∙ c.in_default.is)
