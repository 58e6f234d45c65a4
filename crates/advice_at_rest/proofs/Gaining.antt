-- Where a workstation holds more of any feed of the network, more is gained.
use Rattle.std.proofs.Common.{ℕ, ◌+◌, ◌<◌, ◌≤◌, List, [], ◌∷◌, arith}
use Rattle.std.specs.List.{AllByRecursion}
use Rattle.lemmas.proofs.Lists.{all_such}
use Rattle.model.specs.Types.{Feed, Net}
use Rattle.model.specs.Words.{below}
use Rattle.model.specs.Network.{node_count}
use Rattle.model.specs.Forwarding.{feeds}
use Rattle.model.specs.World.{World}
use Rattle.rest_laws.specs.Gains.{gained, gained_at, sum_over}
use Rattle.rest_laws.proofs.Falls.{sum_over_falls}
use Rattle.rest_laws.proofs.Gains.{sum_over_low}
use Rattle.rest_laws.proofs.Quiets.{IsFeed, feeds_hold}
use Rattle.rest_laws.proofs.Rises.{Rises}

-- a sum is more where one of it is
more_somewhere : {X : Type 0} (f g : X → ℕ) (xs : List X) → ((a : X) → f a ≤ g a)
    → AllByRecursion (λ a. f a < g a → sum_over f xs < sum_over g xs) xs
more_somewhere f g [] low = tt
more_somewhere {X} f g (x ∷ xs) low = (
  λ h. omega (arith, h, sum_over_low f g xs low),
  all_such (λ (a : X). f a < g a → sum_over f xs < sum_over g xs) (λ (a : X). f a < g a → f x + sum_over f xs < g x + sum_over g xs) xs
      (λ a k h. omega (arith, k h, low x)) (more_somewhere f g xs low),
)

module _ (net : Net) (x z : World) (rises : Rises x z) where
  share : World → Feed → ℕ
  share y f = sum_over (gained_at net y f) (below (node_count net))

  at_low : (f : Feed) (v : ℕ) → gained_at net x f v ≤ gained_at net z f v
  at_low f v =
      omega (
        arith,
        rises.held v f,
        sum_over_low (λ m. (x.sessions v).acked m f) (λ m. (z.sessions v).acked m f) (below (node_count net))
            (λ m. rises.acked v m f),
      )

  share_low : (f : Feed) → share x f ≤ share z f
  unfolding share
  share_low f = sum_over_low (gained_at net x f) (gained_at net z f) (below (node_count net)) (at_low f)

  pub feed_gains : (w : ℕ) (f : Feed) → w < node_count net → IsFeed net f → x.holdings w f < z.holdings w f
      → gained net x < gained net z
  unfolding gained share
  feed_gains w f w_in f_in held =
      feeds_hold (λ f. share x f < share z f → sum_over (share x) (feeds net) < sum_over (share z) (feeds net)) net f
      (more_somewhere (share x) (share z) (feeds net) share_low) f_in
      (omega (
        arith,
        sum_over_falls (gained_at net x f) (gained_at net z f) 1 (node_count net) w (at_low f) w_in
            (omega (
              arith,
              held,
              sum_over_low (λ m. (x.sessions w).acked m f) (λ m. (z.sessions w).acked m f) (below (node_count net))
                  (λ m. rises.acked w m f),
            )),
      ))
