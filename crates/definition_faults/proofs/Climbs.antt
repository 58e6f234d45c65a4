-- Steps up the domains, one behind the other.
use Rattle.std.proofs.Common.{◌≡◌, ℕ, zero, suc, ◌+◌, ◌*◌, ◌/◌, ◌%◌, ◌≤◌, List, [], ◌∷◌, map, length, Option}
use Rattle.std.proofs.Common.{refl, sym, ap, ◌∙◌, arith, inl, inr, option_and_then, unwrap_or}
use Rattle.std.proofs.Math.Nat.{add-mul, mul-add, suc-mul}
use Rattle.std.proofs.lemmas.Bool.{cases_lt}
use Rattle.std.proofs.lemmas.List.{get_or_past}
use Rattle.std.proofs.lemmas.Option.{slice_get_past}
use Rattle.composer_parser.specs.declared.Lined.{Lined}
use Rattle.composer_parser.specs.declared.Defs.{Defs}
use Rattle.composer_parser.specs.declared.DomainDef.{DomainDef}
use Rattle.model.specs.Words.{below}
use Rattle.definition_names.specs.Names.{domain_at}
use Rattle.definition_faults.specs.Chains.{climb, is_top, parent_of, place_in}
use Rattle.definition_faults.proofs.Belows.{map_below_at, length_map_below}

-- so many steps and so many more
pub climb-add : (d : Defs) (m n i : ℕ) → climb d (m + n) i ≡ climb d n (climb d m i)
climb-add d zero n i = let none : 0 + n ≡ n = omega arith in ap (λ k. climb d k i) none
climb-add d (suc m) n i =
    let next : suc m + n ≡ suc (m + n) = omega arith in
    ap (λ k. climb d k i) next ∙ climb-add d m n (parent_of d i)

-- where one stays once, one stays
pub climb-stays : (d : Defs) (n i : ℕ) → parent_of d i ≡ i → climb d n i ≡ i
climb-stays d zero i at = refl
climb-stays d (suc n) i at = ap (climb d n) at ∙ climb-stays d n i at

-- where no domain is, one stays
past_stays : (d : Defs) (i : ℕ) → length d.domains ≤ i → parent_of d i ≡ i
past_stays d i past =
    ap (λ (o : Option (Lined DomainDef)).
    unwrap_or (option_and_then (λ (x : Lined DomainDef). option_and_then (domain_at d) x.item.parent) o) i)
    (slice_get_past d.domains i past)

-- the table of so many steps leads so many steps further
pub climbed_at : (d : Defs) (k place : ℕ) → place_in (map (climb d k) (below (length d.domains))) place ≡ climb d k place
climbed_at d k place =
    elim (cases_lt place (length d.domains)) [
      | inl low ↦ map_below_at (climb d k) (length d.domains) place place low
      | inr past ↦
          get_or_past (map (climb d k) (below (length d.domains))) place place
          (let all = length_map_below (climb d k) (length d.domains) in omega (arith, all, past))
          ∙ sym (climb-stays d k place (past_stays d place past))
    ]

map_through : (d : Defs) (m n : ℕ) (table places : List ℕ) → table ≡ map (climb d n) (below (length d.domains))
    → map (place_in table) (map (climb d m) places) ≡ map (climb d (m + n)) places
map_through d m n table [] is = refl
map_through d m n table (p ∷ ps) is =
    ap (λ x. x ∷ map (place_in table) (map (climb d m) ps))
    (ap (λ (t : List ℕ). place_in t (climb d m p)) is ∙ (climbed_at d n (climb d m p) ∙ sym (climb-add d m n p)))
    ∙ ap (λ l. climb d (m + n) p ∷ l) (map_through d m n table ps is)

pub steps_through : (d : Defs) (m n : ℕ) (table places : List ℕ)
    → table ≡ map (climb d n) (below (length d.domains)) → places ≡ map (climb d m) (below (length d.domains))
    → map (place_in table) places ≡ map (climb d (m + n)) (below (length d.domains))
steps_through d m n table places is at =
    ap (map (place_in table)) at ∙ map_through d m n table (below (length d.domains)) is

pub no_steps : (d : Defs) (places : List ℕ) → map (climb d 0) places ≡ places
no_steps d [] = refl
no_steps d (p ∷ ps) = ap (λ l. p ∷ l) (no_steps d ps)

pub one_step : (d : Defs) (places : List ℕ) → map (parent_of d) places ≡ map (climb d 1) places
one_step d [] = refl
one_step d (p ∷ ps) = ap (λ l. parent_of d p ∷ l) (one_step d ps)

pub tops_climbed : (d : Defs) (n : ℕ) (places : List ℕ)
    → map (is_top d) (map (climb d n) places) ≡ map (λ i. is_top d (climb d n i)) places
tops_climbed d n [] = refl
tops_climbed d n (p ∷ ps) = ap (λ l. is_top d (climb d n p) ∷ l) (tops_climbed d n ps)

-- so many steps by the half of what is left, each twice as long
by_half : (h each : ℕ) → (2 * h) * each ≡ h * (each + each)
by_half h each =
    let twice : 2 * h ≡ h + h = omega arith in
    ap (λ n. n * each) twice ∙ (add-mul h h each ∙ sym (mul-add h each each))

pub even_half : (done left each n : ℕ) → ¬ (left % 2 ≡ 1) → done + left * each ≡ n → done + (left / 2) * (each + each) ≡ n
even_half done left each n even all =
    let halves : left ≡ 2 * (left / 2) = omega (arith, even) in
    ap (λ m. done + m) (sym (ap (λ m. m * each) halves ∙ by_half (left / 2) each)) ∙ all

pub odd_half : (done left each n : ℕ) → left % 2 ≡ 1 → done + left * each ≡ n
    → (done + each) + (left / 2) * (each + each) ≡ n
odd_half done left each n odd all =
    let halves : left ≡ suc (2 * (left / 2)) = omega (arith, odd) in
    let parts : left * each ≡ (left / 2) * (each + each) + each =
    ap (λ m. m * each) halves ∙ (suc-mul (2 * (left / 2)) each ∙ ap (λ m. m + each) (by_half (left / 2) each)) in
    let total = left * each in
    let half = (left / 2) * (each + each) in
    omega (arith, parts, all)
