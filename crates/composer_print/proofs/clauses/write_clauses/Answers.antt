use Rattle.composer_print.proofs.Joins.{all_is_printed}
use Rattle.composer_print.proofs.clauses.write_clauses.Goals as goal

pub returns : goal.returns
returns c =
    rw (all_is_printed c.args.jobs.now c.args.home.now c.args.own.now c.args.clauses.now) c.in_ok-write_all.ensures
