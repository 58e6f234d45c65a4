-- What a workstation has kept at rest is all that it wants.
use Rattle.std.proofs.Common.{◌≡◌, ◌∙◌, ◌<◌, ℕ, List, ap, subst, take, true}
use Rattle.std.proofs.Math.Seq.{take-length}
use Rattle.model.specs.Types.{Entry, Events, Feed, Net, Orders}
use Rattle.model.specs.Network.{IsTree, node_count}
use Rattle.model.specs.History.{View, list_of, view_of}
use Rattle.model.specs.PresentNet.{present_net}
use Rattle.model.specs.Forwarding.{wants}
use Rattle.model.specs.Invariant.{Invariant}
use Rattle.model.specs.Kept.{HasKept}
use Rattle.model.specs.World.{World, view_at}
use Rattle.rest_laws.specs.Rest.{HasDoneItsWork, HoldsAll, IsAtRest, IsKeptWhole}
use Rattle.rest_laws.proofs.Done.{done}

module _ (net : Net) (x : World) (kept : ℕ → List Entry)
    (all : (w : ℕ) → w < node_count net → HasKept net x w (kept w)) where
  as_kept : (w : ℕ) → w < node_count net → view_of (kept w) ≡ view_at x w
  as_kept w low = λ i f. (all w low).holds_them f i

  whole : (w : ℕ) (f : Feed) → w < node_count net → HoldsAll x w f → list_of (kept w) f ≡ list_of x.history f
  whole w f low held =
      (all w low).holds_them f
      ∙ ap (λ (n : ℕ). take n (list_of x.history f)) held ∙ take-length (list_of x.history f)

  pub kept_whole : (readings : ℕ → ℕ) → IsTree net → Invariant net x → IsAtRest net readings x → IsKeptWhole net x kept
  kept_whole readings tree inv rest =
      let work : HasDoneItsWork net readings x = done net readings x tree inv rest in
      record {
        events =
            λ v y v_in y_in want. whole v (Events y) v_in
            (work.events v y v_in y_in
            (subst (λ (V : View). wants (present_net net V) V v y ≡ true) (as_kept v v_in) want));
        orders = λ a w a_in w_in. whole w (Orders a w) w_in (work.orders a w a_in w_in);
      }
