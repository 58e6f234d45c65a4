-- Chains of domains, from each to its parent.
use Rattle.std.specs.Prelude.{ℕ, zero, suc, Bool, false, List, length, map, is_none, slice_get, slice_index_or, unwrap_or, option_and_then}
use Rattle.std.specs.Option.{option_map_or}
use Rattle.composer_parser.specs.declared.Lined.{Lined}
use Rattle.composer_parser.specs.declared.Defs.{Defs}
use Rattle.composer_parser.specs.declared.DomainDef.{DomainDef}
use Rattle.model.specs.Words.{below}
use Rattle.definition_names.specs.Names.{domain_at}

-- the place of the parent of the domain at a place; that place itself where it has none, or none that is defined
abbrev pub parent_of : Defs → ℕ → ℕ
parent_of d i =
    unwrap_or
    (option_and_then (λ (x : Lined DomainDef). option_and_then (domain_at d) x.item.parent) (slice_get d.domains i)) i

-- so many steps up
abbrev pub climb : Defs → ℕ → ℕ → ℕ
climb d zero i = i
climb d (suc n) i = climb d n (parent_of d i)

-- the domain at a place has no parent
abbrev pub is_top : Defs → ℕ → Bool
is_top d i = option_map_or (λ (x : Lined DomainDef). is_none x.item.parent) (slice_get d.domains i) false

-- the chain ends at a domain without a parent: one stands there after as many steps as there are domains
abbrev pub ends : Defs → ℕ → Bool
ends d i = is_top d (climb d (length d.domains) i)

-- whether the chain of each domain does
abbrev pub all_ends : Defs → List Bool
all_ends d = map (ends d) (below (length d.domains))

-- where the chain of each domain has come then
abbrev pub all_climbed : Defs → List ℕ
all_climbed d = map (climb d (length d.domains)) (below (length d.domains))

-- what these places have at a place, and the place itself past their end
abbrev pub place_in : List ℕ → ℕ → ℕ
place_in places place = slice_index_or places place place
