use Rattle.std.proofs.Common.{◌∙◌, ◌<◌, List, ap, find, subst, sym, ℕ}
use Rattle.model.specs.History.{view_of}
use Rattle.model.specs.OwnMembers.{may_release}
use Rattle.ready_index.specs.Lists.{InOrder}
use Rattle.ready_index.proofs.Keys.{keys_ascend}
use Rattle.ready_index.proofs.stream_sets.StreamSet.first_to_release.Goals as goal

pub loop-number-init : goal.loop-number-init
loop-number-init c =
    record {
      first =
          ap (find (may_release c.args.net.now (view_of c.args.o.now) c.args.w))
          (sym c.self.view_is ∙ sym c.into_iter-number-iterator.ensures.into_iter_gives.0);
      ordered =
          subst (λ (l : List ℕ). InOrder ◌<◌ l) c.self.view_is
          (keys_ascend c.self.inside.numbers.keys c.into_iter-number-iterator.ensures.into_iter_gives.4);
    }
