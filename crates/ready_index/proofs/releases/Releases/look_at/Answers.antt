use Rattle.std.proofs.Common.{subst, sym}
use Rattle.std.proofs.lemmas.Result.{on_ok_weaker}
use Rattle.model_laws.proofs.Decisions.{stream_number}
use Rattle.model.specs.History.{view_of}
use Rattle.dependencies.proofs.Found.{stream_planned}
use Rattle.ready_index.specs.Releases.{IsStreamLookedAt}
use Rattle.ready_index.proofs.Releasing.{none_waits_here, not_waiting}
use Rattle.ready_index.proofs.releases.Releases.look_at.Goals as goal

pub look-requires : goal.look-requires
look-requires c = stream_planned (view_of c.args.o.now) c.args.number c.in-Some.doc.now (sym c.in-Some.ensures)

pub returns-in-None : goal.returns-in-None
returns-in-None c =
    not_waiting (view_of c.args.o.now) c.args.w c.args.number c.args.self.now
    (none_waits_here (view_of c.args.o.now) c.args.w c.args.number (sym c.in-None.ensures))

pub returns-in-Some : goal.returns-in-Some
returns-in-Some c =
    on_ok_weaker c.look.result
    (λ looked.
    subst (λ n. IsStreamLookedAt (view_of c.args.o.now) c.args.w n c.args.self.now c.look.new.self)
    (stream_number (view_of c.args.o.now) c.args.number c.in-Some.doc.now (sym c.in-Some.ensures)) looked)
    c.look.ensures
