-- Where each order has a short answer it stays so, whatever is told.
use Rattle.std.proofs.Common.{◌≡◌, ℕ, true, inl, inr, List, [], ◌∷◌, refl, subst}
use Rattle.std.specs.List.{AllByRecursion}
use Rattle.std.specs.Prelude.{Ok}
use Rattle.lemmas.proofs.Booleans.{or_cases}
use Rattle.model.specs.Types.{Body, Net, WorldStep}
use Rattle.model.specs.History.{View}
use Rattle.model.specs.FreeSteps.{free_step}
use Rattle.model.specs.World.{World, view_at}
use Rattle.rest_laws.specs.Left.{keeps_to}
use Rattle.rest_laws.specs.Rounds.{AreTaken}
use Rattle.rest_laws.specs.Short.{are_answers_short, has_short_answer}
use Rattle.rest_laws.proofs.Shorts.{short_behind, step_short}
use Rattle.model.specs.Types.{LiveJob}
use Rattle.launches_at_rest.specs.Told.{is_told, works_at}
use Rattle.launches_at_rest.proofs.Telling.{Tells, told_by}

tells_short : (V : View) (w : ℕ) (live : List LiveJob) (b : Body) → Tells V w live b → has_short_answer b ≡ true
tells_short V w live b (Tells.started j l e none) = refl
tells_short V w live b (Tells.failed j l e) = refl
tells_short V w live b (Tells.ended j l rc good e) = refl
tells_short V w live b (Tells.found o i d mine there none) = refl

module _ (net : Net) where
  module _ (x z : World) (short : are_answers_short net x ≡ true) where
    pub work_short : (readings : ℕ → List ℕ) (s : WorldStep) → works_at readings s ≡ true → free_step net x s ≡ Ok z
        → are_answers_short net z ≡ true
    work_short readings s h e =
        elim (or_cases (keeps_to readings s) (is_told s) h) [
          | inl k ↦ step_short net readings x z s short k e
          | inr k ↦ (let t = told_by net x z s k e in
              short_behind net x z t.ws t.told.body t.told.makes_.history
              (tells_short (view_at x t.ws) t.ws (x.sessions t.ws).live t.told.body t.told.tells) short)
        ]

  pub works_short : (readings : ℕ → List ℕ) (steps : List WorldStep) (x y : World) → are_answers_short net x ≡ true
      → AllByRecursion (λ s. works_at readings s ≡ true) steps → AreTaken net x steps y → are_answers_short net y ≡ true
  works_short readings [] x y short keep taken = subst (λ (y : World). are_answers_short net y ≡ true) taken short
  works_short readings (s ∷ steps) x y short keep taken =
      works_short readings steps taken.0 y (work_short x taken.0 short readings s keep.0 taken.1) keep.1 taken.2
