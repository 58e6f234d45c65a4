-- Counts of events, one workstation further.
use Rattle.std.proofs.Common.{[], ℕ, ◌+◌, ◌++◌, ◌∙◌, ◌∷◌, ◌≡◌, Bool, List}
use Rattle.std.proofs.Common.{ap, cond, false, filter, length, map, nat_lt, refl, true}
use Rattle.std.proofs.lemmas.List.{append-nil, map-append}
use Rattle.std.proofs.lemmas.List.Elements.{filter-append}
use Rattle.model_laws.proofs.Numbers.{below_more}
use Rattle.model.specs.Types.{Events}
use Rattle.model.specs.Words.{below}
use Rattle.model.specs.History.{View}
use Rattle.model.specs.NewPlan.{seen_of}

-- the counts of one more workstation
pub seen_more : (V : View) (w : ℕ)
    → seen_of V (below (w + 1))
    ≡ cond (nat_lt 0 (length (V (Events w)))) (seen_of V (below w) ++ (w, length (V (Events w))) ∷ [])
    (seen_of V (below w))
unfolding seen_of
seen_more V w =
    ap (λ (l : List ℕ). filter some (map counted l)) (below_more w)
    ∙ (ap (filter some) (map-append counted (below w) (w ∷ []))
    ∙ (filter-append some (map counted (below w)) (counted w ∷ []) ∙ go (some (counted w))))
  where
    some : ℕ × ℕ → Bool
    some p = nat_lt 0 p.1

    counted : ℕ → ℕ × ℕ
    counted v = (v, length (V (Events v)))

    go : (b : Bool) → filter some (map counted (below w)) ++ cond b (counted w ∷ []) []
        ≡ cond b (filter some (map counted (below w)) ++ counted w ∷ []) (filter some (map counted (below w)))
    go true = refl
    go false = append-nil (filter some (map counted (below w)))
