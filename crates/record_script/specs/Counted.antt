-- Names that stand once each, and are not too many to be numbered.
use Rattle.std.specs.Prelude.{◌≤◌, ◌<◌, ◌≡◌, Bool, List, ◌∷◌, ◌++◌, false, length, filter_map}
use Rattle.std.specs.List.{list_any}
use Rattle.std.specs.Str.{bytes_eq}
use Rattle.record_rows.specs.declared.rows.Row.{Row}
use Rattle.record_faults.specs.Known.{key_eq, station_name, resource_of, prompt_of}

-- none stands among those before it, and there are at most 65,535
pub record AreNew {A : Type 0} (eq : A → A → Bool) (names : List A) : Type 0 where
  pub few : length names ≤ 65535
  pub once : (before behind : List A) → (a : A) → names ≡ before ++ a ∷ behind → list_any (eq a) before ≡ false

-- one that does not stand among these, where one more can be numbered
pub record IsNext {A : Type 0} (eq : A → A → Bool) (names : List A) (a : A) : Type 0 where
  pub few : length names < 65535
  pub other : list_any (eq a) names ≡ false

-- the workstations, resources and prompts that rows define
pub record AreNumbers (rows : List Row) : Type 0 where
  pub stations : AreNew bytes_eq (filter_map station_name rows)
  pub resources : AreNew key_eq (filter_map resource_of rows)
  pub prompts : AreNew bytes_eq (filter_map prompt_of rows)
