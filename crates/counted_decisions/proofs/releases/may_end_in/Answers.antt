use Rattle.counted_decisions.proofs.Sighted.{brought_there}
use Rattle.counted_decisions.proofs.releases.may_end_in.Goals as goal

pub jobs_let_end-requires-clause-brought : goal.jobs_let_end-requires-clause-brought
jobs_let_end-requires-clause-brought c =
    brought_there c.args.sight.now.owners.now c.args.sight.now.seen.now c.args.doc.now.no c.args.doc.now
    c.requires.planned.found
