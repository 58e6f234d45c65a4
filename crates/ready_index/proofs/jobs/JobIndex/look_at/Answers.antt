use Rattle.std.proofs.Common.{◌∙◌, sym, subst}
use Rattle.std.proofs.lemmas.Result.{on_ok_weaker}
use Rattle.model_laws.proofs.Decisions.{job_number}
use Rattle.model.specs.History.{view_of}
use Rattle.owner_fold.specs.DocPlaces.{stream_job}
use Rattle.dependencies.proofs.Found.{job_planned}
use Rattle.ready_index.specs.Standing.{IsLookedAt}
use Rattle.ready_index.proofs.Standings.{not_owned, not_there}
use Rattle.ready_index.proofs.jobs.JobIndex.look_at.Goals as goal

pub look-requires-clause-planned : goal.look-requires-clause-planned
look-requires-clause-planned c =
    job_planned (view_of c.args.o.now) c.args.number (stream_job c.in-Some.parent.now c.in-Some.doc.now)
    (sym c.in-Some.ensures)

pub returns-in-None : goal.returns-in-None
returns-in-None c = not_there (view_of c.args.o.now) c.args.w c.args.number c.args.self.now (sym c.in-None.ensures)

pub returns-then-eq : goal.returns-then-eq
returns-then-eq c =
    on_ok_weaker c.look.result
    (λ looked.
    subst (λ n. IsLookedAt (view_of c.args.o.now) c.args.w n c.args.self.now c.look.new.self)
    (job_number (view_of c.args.o.now) c.args.number (stream_job c.in-Some.parent.now c.in-Some.doc.now)
    (sym c.in-Some.ensures))
    looked)
    c.look.ensures

pub returns-else-eq : goal.returns-else-eq
returns-else-eq c =
    subst (λ n. IsLookedAt (view_of c.args.o.now) c.args.w n c.args.self.now c.args.self.now)
    (job_number (view_of c.args.o.now) c.args.number (stream_job c.in-Some.parent.now c.in-Some.doc.now)
    (sym c.in-Some.ensures))
    (not_owned (view_of c.args.o.now) c.args.w (stream_job c.in-Some.parent.now c.in-Some.doc.now) c.args.self.now
    (job_planned (view_of c.args.o.now) c.args.number (stream_job c.in-Some.parent.now c.in-Some.doc.now)
    (sym c.in-Some.ensures))
    (sym c.eq.ensures ∙ c.if-eq.false))
