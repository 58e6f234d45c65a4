use Rattle.entry_checks.proofs.entries.body.Goals as goal

pub returns-in-Released : goal.returns-in-Released
returns-in-Released c = rw c.in-Released.is c.seen_behind.ensures

pub returns-in-StreamEnded : goal.returns-in-StreamEnded
returns-in-StreamEnded c = rw c.in-StreamEnded.is c.seen_behind-in-StreamEnded.ensures

pub returns-in-Launched : goal.returns-in-Launched
returns-in-Launched c = rw c.in-Launched.is c.seen_behind-in-Launched.ensures

pub returns-in-NewPlan : goal.returns-in-NewPlan
returns-in-NewPlan c = rw c.in-NewPlan.is c.plan.ensures
