-- The days of calendars in ascending order.
use Rattle.std.proofs.Common.{◌≡◌, ℕ, zero, suc, List, [], ◌∷◌, map, Option, Some, None, option_and_then, slice_get, refl}
use Rattle.std.specs.Option.{option_map_or}
use Rattle.composer_parser.specs.declared.CalendarDef.{CalendarDef}
use Rattle.composer_parser.specs.declared.Lined.{Lined}
use Rattle.model.specs.Words.{ascending}
use Rattle.workload_defs.specs.Days.{ascending_days, days_in}

-- those at a place
pub ordered_at : (calendars : List (Lined CalendarDef)) (i : ℕ)
    → days_in (slice_get (map ascending_days calendars) i)
    ≡ ascending (option_map_or (λ (c : Lined CalendarDef). c.item.days) (slice_get calendars i) [])
ordered_at [] i = refl
ordered_at (c ∷ cs) zero = refl
ordered_at (c ∷ cs) (suc i) = ordered_at cs i

pub ordered_where : (calendars : List (Lined CalendarDef)) (place : Option ℕ)
    → days_in (option_and_then (slice_get (map ascending_days calendars)) place)
    ≡ ascending (option_map_or (λ (c : Lined CalendarDef). c.item.days) (option_and_then (slice_get calendars) place) [])
ordered_where calendars None = refl
ordered_where calendars (Some i) = ordered_at calendars i
