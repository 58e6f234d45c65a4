use Rattle.owner_rows.proofs.Nothing.{work_of_none}
use Rattle.owner_rows.proofs.work_tables.WorkTables.new.Goals as goal

pub returns : goal.returns
returns c =
    work_of_none _ _ _ _ _ c.blank.ensures c.blank-2.ensures c.blank-3.ensures c.blank-4.ensures c.new.ensures
    c.new-2.ensures c.new-3.ensures c.new-4.ensures c.new-5.ensures
