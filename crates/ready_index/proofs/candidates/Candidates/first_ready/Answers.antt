use Rattle.std.proofs.Common.{◌∙◌, ◌<◌, List, ap, find, subst, sym, ℕ}
use Rattle.model.specs.History.{view_of}
use Rattle.model.specs.Readiness.{is_ready}
use Rattle.ready_index.specs.Lists.{InOrder}
use Rattle.ready_index.specs.Places.{number_at}
use Rattle.ready_index.proofs.Keys.{keys_ascend}
use Rattle.ready_index.proofs.candidates.Candidates.first_ready.Goals as goal

pub loop-place-init : goal.loop-place-init
loop-place-init c =
    record {
      first =
          ap (find (λ k. is_ready c.args.net.now (view_of c.args.o.now) c.args.w (number_at k)))
          (sym c.self.view_is ∙ sym c.into_iter-place-iterator.ensures.into_iter_gives.0);
      ordered =
          subst (λ (l : List ℕ). InOrder ◌<◌ l) c.self.view_is
          (keys_ascend c.self.inside.places.keys c.into_iter-place-iterator.ensures.into_iter_gives.4);
    }
