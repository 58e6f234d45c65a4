use Rattle.composer_parser.proofs.batches.row.Goals as goal

pub returns : goal.returns
returns g c = rw c.new.ensures at c.gather.ensures
