-- Jobs that end one after the other.
use Rattle.std.proofs.Common.{◌≡◌, ◌∙◌, ◌∷◌, ◌+◌, ◌<◌, ℕ, ℤ, List, ap, arith, drop, drop-cons, get_or, length, map, suc, sym}
use Rattle.model.specs.Types.{WorldStep}
use Rattle.model.specs.World.{World}
use Rattle.network_world.specs.Stations.{WorldState}
use Rattle.record_runs.specs.Lines.{only}
use Rattle.record_runs.specs.Runs.{take_steps}
use Rattle.record_runs.specs.Taken.{HaltsFor, Leads}
use Rattle.record_runs.proofs.Tables.{ends}
use Rattle.record_runs.proofs.Ways.{IsOnTheWay, breaks_off, goes_on, same_way}
use Rattle.record_runs.specs.declared.stops.Halt.{Halt}

next_end : (w : ℕ) (rc : ℤ) (jobs : List ℕ) (i : ℕ) (st : WorldStep) → i < length jobs → st ≡ ends w rc (get_or jobs i 0)
    → map (ends w rc) (drop i jobs) ≡ st ∷ map (ends w rc) (drop (i + 1) jobs)
next_end w rc jobs i st h is =
    let one : suc i ≡ i + 1 = omega arith in
    ap (map (ends w rc)) (drop-cons jobs i 0 h)
    ∙ (ap (λ (k : ℕ). ends w rc (get_or jobs i 0) ∷ map (ends w rc) (drop k jobs)) one
    ∙ ap (λ (t : WorldStep). t ∷ map (ends w rc) (drop (i + 1) jobs)) (sym is))

-- one end further
pub end_goes : (old : WorldState) (whole : World → List WorldStep) (now next : WorldState) (w : ℕ) (rc : ℤ) (jobs : List ℕ)
    (i : ℕ) (st : WorldStep) → i < length jobs → st ≡ ends w rc (get_or jobs i 0)
    → IsOnTheWay old whole now (map (ends w rc) (drop i jobs)) → Leads now (λ x. take_steps now.net x (only st)) next
    → IsOnTheWay old whole next (map (ends w rc) (drop (i + 1) jobs))
end_goes old whole now next w rc jobs i st h is way taken =
    goes_on old whole now next st (map (ends w rc) (drop (i + 1) jobs))
    (same_way old whole now (map (ends w rc) (drop i jobs)) (st ∷ map (ends w rc) (drop (i + 1) jobs))
    (next_end w rc jobs i st h is) way) taken

-- an end that is refused
pub end_breaks : (old : WorldState) (whole : World → List WorldStep) (now : WorldState) (w : ℕ) (rc : ℤ) (jobs : List ℕ)
    (i : ℕ) (st : WorldStep) (t : Halt) → i < length jobs → st ≡ ends w rc (get_or jobs i 0)
    → IsOnTheWay old whole now (map (ends w rc) (drop i jobs)) → HaltsFor now (λ x. take_steps now.net x (only st)) t
    → HaltsFor old (λ x. take_steps old.net x (whole x)) t
end_breaks old whole now w rc jobs i st t h is way stops =
    breaks_off old whole now st (map (ends w rc) (drop (i + 1) jobs)) t
    (same_way old whole now (map (ends w rc) (drop i jobs)) (st ∷ map (ends w rc) (drop (i + 1) jobs))
    (next_end w rc jobs i st h is) way) stops
