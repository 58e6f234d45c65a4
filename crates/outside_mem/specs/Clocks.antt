-- What a clock in memory gives.
use Rattle.std.specs.Prelude.{◌-◌, ◌^◌, ◌==◌, min, ℕ, List, length, map, get_or, if◌then◌else◌, Some, None}
use Rattle.std.specs.List.{range_with_len}
use Rattle.std.specs.declared.option.Option.{Option}

-- the readings that it was given, and how many it gave
pub record ClockState : Type 0 where
  pub listed : List ℕ
  pub made : ℕ

-- the reading of this number, counted from 0: the last again where no more are listed, and 0 where none is
abbrev pub reading_at : List ℕ → ℕ → ℕ
reading_at listed i = get_or listed (min i (length listed - 1)) 0

-- those that it gave, as long as it can count them
abbrev pub told : ClockState → Option (List ℕ)
told clock = if clock.made == 2 ^ 64 - 1 then None else Some (map (reading_at clock.listed) (range_with_len 0 clock.made))
