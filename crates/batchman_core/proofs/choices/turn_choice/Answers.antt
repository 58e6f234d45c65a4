use Rattle.model.specs.History.{view_of}
use Rattle.batchman_core.proofs.Owned.{best_due, best_owned, lost_owned}
use Rattle.batchman_core.proofs.choices.turn_choice.Goals as goal

pub returns-in-Some-clause-owned : goal.returns-in-Some-clause-owned
returns-in-Some-clause-owned g c =
    lost_owned (view_of c.args.o.now) c.args.me c.args.live.now c.in-Some.j c.in-Some.ensures

pub returns-in-Some-best-clause-owned : goal.returns-in-Some-best-clause-owned
returns-in-Some-best-clause-owned g c =
    best_owned c.args.net.now (view_of c.args.o.now) c.args.me c.in-Some-best.j
    (c.in-Some-best.ensures c.requires.stands)

pub returns-in-Some-best-clause-due : goal.returns-in-Some-best-clause-due
returns-in-Some-best-clause-due g c =
    best_due c.args.net.now (view_of c.args.o.now) c.args.me c.in-Some-best.j
    (c.in-Some-best.ensures c.requires.stands)
