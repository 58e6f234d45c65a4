-- The circle in which dependencies have their turns.
use Rattle.std.specs.Prelude.{[], if◌then◌else◌, ℕ, ◌&&◌, ◌==◌, ◌||◌, ◌∷◌, Bool, List, None, Option, Some, false}
use Rattle.std.specs.Prelude.{nat_lt, not, true}
use Rattle.model.specs.Types.{Job, Obj, Stream}

-- a dependency, by its object and its number there
abbrev pub DepPlace : Type 0
DepPlace = Obj × ℕ

-- o comes before p, streams before jobs and then the lower number; where they are one, this decides
abbrev pub object_before : Obj → Obj → Bool → Bool
object_before (Stream s) (Stream t) tied = nat_lt s t || ((s == t) && tied)
object_before (Stream s) (Job k) tied = true
object_before (Job j) (Stream t) tied = false
object_before (Job j) (Job k) tied = nat_lt j k || ((j == k) && tied)

-- p comes before q: by their objects, then by the lower number
abbrev pub comes_before : DepPlace → DepPlace → Bool
comes_before p q = object_before p.0 q.0 (nat_lt p.1 q.1)

-- p comes behind the last one, before the circle begins anew; at first each does
abbrev pub is_behind : Option DepPlace → DepPlace → Bool
is_behind None p = true
is_behind (Some last) p = comes_before last p

-- going on from the last one, p comes sooner than q: what is behind it comes first, then the rest from the beginning
abbrev pub comes_sooner : Option DepPlace → DepPlace → DepPlace → Bool
comes_sooner last p q =
    if is_behind last p
    then not (is_behind last q) || comes_before p q
    else not (is_behind last q) && comes_before p q

-- the sooner of one and another that may be there
abbrev pub sooner : Option DepPlace → DepPlace → Option DepPlace → DepPlace
sooner last p None = p
sooner last p (Some q) = if comes_sooner last q p then q else p

-- the soonest, if there is one
abbrev pub soonest : Option DepPlace → List DepPlace → Option DepPlace
soonest last [] = None
soonest last (p ∷ ps) = Some (sooner last p (soonest last ps))

-- the sooner of two that may be there
abbrev pub sooner_of : Option DepPlace → Option DepPlace → Option DepPlace → Option DepPlace
sooner_of last None b = b
sooner_of last (Some a) b = Some (sooner last a b)
