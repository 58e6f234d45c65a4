use Rattle.std.proofs.Common.{Some, ap, cond, refl, ◌-◌, ◌∙◌}
use Rattle.owner_rows.specs.Tables.{keys_meet, pair_row_in, same_key}
use Rattle.owner_rows.proofs.Standing.{entries_with}
use Rattle.owner_rows.proofs.places.tell_entry.Goals as goal

pub returns : goal.returns
returns c kept at_end next h =
    entries_with kept c.args.e.now c.args.end (c.args.e.now.place - 1) c.args.entries.now c.put.new.self at_end next refl h
    (λ q. c.put.ensures q
    ∙ ap (λ p. cond (keys_meet same_key p q) (Some c.args.end) (pair_row_in c.args.entries.now q)) c.place_key-w.ensures)
