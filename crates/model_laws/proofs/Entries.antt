-- A history has no more entries than steps were taken, and no more starts than entries.
use Rattle.std.proofs.Common.{ℕ, ◌+◌, ◌≤◌, List, [], ◌∷◌, inl, inr, length, length-append, arith}
use Rattle.std.proofs.Common.{Option, Some, None}
use Rattle.lemmas.proofs.Lists.{filter_map_short}
use Rattle.model.specs.Types.{Entry, Net, WorldStep}
use Rattle.model.specs.Words.{IsPartOf}
use Rattle.model.specs.Step.{Effect}
use Rattle.model.specs.World.{World, empty_world, Origin, apply_effect, history_with, mark_delivered, step}
use Rattle.model.specs.World.{or_as_before, run}
use Rattle.model.specs.Invariant.{launch_in, launches_in_order}
use Rattle.model_laws.proofs.Keeps.{always_invariant}
use Rattle.model_laws.proofs.Limits.{always_few}
use Rattle.model_laws.proofs.Steps.{moves, always}

abbrev IsShort : World → Type 0
IsShort x = length x.history ≤ x.taken

-- a step makes one entry at most
one_more : (o : Origin) (G : List Entry) (made : Option Entry) (n : ℕ) → length G ≤ n
    → length (history_with o G made) ≤ 1 + n
one_more Origin.Own G None n h = omega arith
one_more Origin.Mailed G None n h = omega arith
one_more Origin.Mailed G (Some e) n h = omega arith
one_more Origin.Own G (Some e) n h = omega (arith, length-append G (e ∷ []))

short_after : (x : World) (w : ℕ) (o : Origin) (d : Effect) → IsShort x → IsShort (apply_effect x w o d)
unfolding apply_effect
short_after x w o d h = one_more o x.history d.made x.taken h

short_arrived : (x : World) (a b k : ℕ) → IsShort x → IsShort (mark_delivered x a b k)
unfolding mark_delivered
short_arrived x a b k h = h

short_step : (net : Net) (x : World) (s : WorldStep) → IsShort x → IsShort (or_as_before x (step net x s))
short_step net x s h =
    moves net IsShort x h (λ w d own. short_after x w Origin.Own d h)
    (λ a b k d mail. short_arrived (apply_effect x b Origin.Mailed d) a b k (short_after x b Origin.Mailed d h)) s

pub always_short : (net : Net) (steps : List WorldStep) → length (run net steps empty_world).history ≤ 200000
always_short net steps =
    let few = always_few net steps in
    let short : IsShort (run net steps empty_world) = always net IsShort (short_step net) steps empty_world (omega arith) in
    omega arith

-- what is a part is no longer
part_within : {X : Type 0} (xs ys : List X) → IsPartOf xs ys → length xs ≤ length ys
part_within [] ys h = omega arith
part_within (x ∷ xs) [] h = absurd h
part_within (x ∷ xs) (y ∷ ys) (inl h) = let rest = part_within xs ys h.1 in omega arith
part_within (x ∷ xs) (y ∷ ys) (inr h) = let rest = part_within (x ∷ xs) ys h in omega arith

pub few_starts : (net : Net) (steps : List WorldStep) → length (run net steps empty_world).starts ≤ 200000
few_starts net steps =
    let x : World = run net steps empty_world in
    let few = always_short net steps in
    let part = part_within x.starts (launches_in_order x.history) (always_invariant net steps).starts in
    let launches = filter_map_short (λ (e : Entry). launch_in e.feed e.body) x.history in
    omega arith
