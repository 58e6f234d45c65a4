-- What one more entry of a workstation's own leaves of a sum over all workstations.
use Rattle.std.proofs.Common.{◌≡◌, ◌≢◌, ℕ, ◌+◌, ◌<◌, ◌≤◌, inl, inr}
use Rattle.std.proofs.Common.{List, [], ◌∷◌, ◌++◌, ap, sym, subst, ◌∙◌, arith}
use Rattle.std.proofs.lemmas.Bool.Decides.{eqb_tells}
use Rattle.model.specs.Types.{Body, Entry, Events, Net, Orders}
use Rattle.model.specs.Words.{below}
use Rattle.model.specs.Network.{node_count}
use Rattle.model.specs.History.{list_of}
use Rattle.rest_laws.specs.Gains.{sum_over}
use Rattle.rest_laws.proofs.Entered.{all_orders_same, events_here, events_same}
use Rattle.rest_laws.proofs.Falls.{sum_over_falls}

-- what is told of a workstation by the orders for it and its own events
abbrev pub Tally : Type 0
Tally = ℕ → (ℕ → List Body) → List Body → ℕ

abbrev pub tally_at : Tally → List Entry → ℕ → ℕ
tally_at F G v = F v (λ a. list_of G (Orders a v)) (list_of G (Events v))

-- after an entry of w's own
module _ (net : Net) (G : List Entry) (e : Entry) (w : ℕ) (here : e.feed ≡ Events w) where
  abbrev after : List Entry
  after = G ++ e ∷ []

  tally_by : (F : Tally) (v : ℕ) (l : List Body) → list_of after (Events v) ≡ l
      → tally_at F after v ≡ F v (λ a. list_of G (Orders a v)) l
  tally_by F v l same =
      ap (λ (o : ℕ → List Body). F v o (list_of after (Events v))) (all_orders_same net G e w here v)
      ∙ ap (F v (λ a. list_of G (Orders a v))) same

  pub tally_here : (F : Tally) → tally_at F after w ≡ F w (λ a. list_of G (Orders a w)) (list_of G (Events w) ++ e.body ∷ [])
  tally_here F = tally_by F w (list_of G (Events w) ++ e.body ∷ []) (events_here net G e w here)

  pub tally_there : (F : Tally) (v : ℕ) → v ≢ w → tally_at F after v ≡ tally_at F G v
  tally_there F v other = tally_by F v (list_of G (Events v)) (events_same net G e w here v other)

  -- it may lower the sum at w, and leaves that of the others
  pub tallies_fall : (F : Tally) (c : ℕ) → w < node_count net
      → F w (λ a. list_of G (Orders a w)) (list_of G (Events w) ++ e.body ∷ []) + c ≤ tally_at F G w
      → sum_over (tally_at F after) (below (node_count net)) + c ≤ sum_over (tally_at F G) (below (node_count net))
  tallies_fall F c w_in low =
      sum_over_falls (tally_at F after) (tally_at F G) c (node_count net) w none_rises w_in (omega (arith, low, tally_here F))
    where
      none_rises : (v : ℕ) → tally_at F after v ≤ tally_at F G v
      none_rises v =
          elim (eqb_tells v w) [
            | inl k ↦ subst (λ (v : ℕ). tally_at F after v ≤ tally_at F G v) (sym k.1) (omega (arith, low, tally_here F))
            | inr k ↦ omega (arith, tally_there F v k.1)
          ]
