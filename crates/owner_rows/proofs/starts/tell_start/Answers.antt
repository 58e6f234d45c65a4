use Rattle.std.proofs.Common.{sym, true, ◌∙◌}
use Rattle.owner_rows.specs.Starts.{IsStartRow}
use Rattle.owner_rows.specs.Subjects.{start_in}
use Rattle.owner_rows.specs.Tables.{pair_row_in, same_key}
use Rattle.owner_rows.proofs.Keys.{key_is_itself, key_tells}
use Rattle.owner_rows.proofs.Rows.{rows_stay, rows_told}
use Rattle.owner_rows.proofs.StartTelling.{start_quiet, start_told}
use Rattle.owner_rows.proofs.starts.tell_start.Goals as goal

pub returns-in-Some : goal.returns-in-Some
returns-in-Some c kept room h =
    rows_told same_key key_tells key_is_itself IsStartRow start_in start_quiet kept c.args.e.now
    (pair_row_in c.args.starts.now) h (c.in-Some.w, (c.in-Some.j, c.in-Some.number)) true
    (pair_row_in c.put.new.self) (sym c.start_key.ensures ∙ c.in-Some.is) room
    (λ short subject. start_told _ c.args.e.now.body (c.in-Some.j, c.in-Some.number) subject) c.put.ensures

pub returns-in_default : goal.returns-in_default
returns-in_default c kept room h =
    rows_stay same_key key_tells key_is_itself IsStartRow start_in start_quiet kept c.args.e.now
    (pair_row_in c.args.starts.now) h (sym c.start_key.ensures ∙ c.in_default.is)
