use Rattle.std.proofs.Common.{List, subst, sym, ℕ}
use Rattle.std.proofs.lemmas.Result.{on_ok_weaker}
use Rattle.model.specs.History.{view_of}
use Rattle.ready_index.specs.Releases.{KnowsWaitingBut}
use Rattle.ready_index.proofs.Releasing.{streams_taken}
use Rattle.ready_index.proofs.releases.Releases.look_again.Goals as goal

pub returns-in-Some : goal.returns-in-Some
returns-in-Some c =
    on_ok_weaker c.look_at_all.result
    (λ looked knows.
    looked
    (subst
    (λ (l : List ℕ).
    KnowsWaitingBut (view_of c.args.o.now) c.args.w l
    (record { candidates = c.args.self.now.candidates; watches = c.take.new.self }))
    (sym c.as_slice.ensures)
    (streams_taken (view_of c.args.o.now) c.args.w c.args.target.now c.in-Some.waiting c.args.self.now
    c.take.new.self c.in-Some.ensures knows)))
    c.look_at_all.ensures
