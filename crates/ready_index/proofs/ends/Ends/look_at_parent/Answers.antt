use Rattle.std.proofs.Common.{subst, sym, ℕ}
use Rattle.std.proofs.lemmas.Result.{on_ok_weaker}
use Rattle.model.specs.History.{view_of}
use Rattle.owner_fold.specs.DocPlaces.{stream_job}
use Rattle.ready_index.specs.Ends.{KnowsEndsButOne}
use Rattle.ready_index.proofs.Ending.{none_of_job, one_of_job}
use Rattle.ready_index.proofs.ends.Ends.look_at_parent.Goals as goal

pub returns-in-None : goal.returns-in-None
returns-in-None c =
    λ others.
    none_of_job (view_of c.args.o.now) c.args.w c.args.job c.args.self.now.streams (sym c.in-None.ensures) others

pub returns-in-Some : goal.returns-in-Some
returns-in-Some c =
    on_ok_weaker c.look_at.result
    (λ looked others.
    looked
    (subst (λ (n : ℕ). KnowsEndsButOne (view_of c.args.o.now) c.args.w n c.args.self.now.streams)
    (sym (λ j. (c.parent.view_is j).no))
    (one_of_job (view_of c.args.o.now) c.args.w c.args.job
    (stream_job c.in-Some.parent.now c.in-Some._doc.now) c.args.self.now.streams (sym c.in-Some.ensures) others)))
    c.look_at.ensures
