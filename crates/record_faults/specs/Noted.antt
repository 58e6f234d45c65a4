-- One row more: what stands above the next row.
use Rattle.std.specs.Prelude.{ℕ, ◌+◌, ◌≡◌, ◌&&◌, ◌||◌, not, Bool, false, List, Option, Some, None, if◌then◌else◌}
use Rattle.std.specs.Str.{bytes_eq}
use Rattle.record_rows.specs.declared.rows.Row.{Row}
use Rattle.record_faults.specs.Known.{Key, key_eq, has_key, has_name, Above, Named, is_ws, is_resource, is_prompt, is_carry}
use Rattle.record_faults.specs.Known.{is_plan, begins_stream, is_object, is_dep, is_next}
use Rattle.record_faults.specs.Known.{station_name, resource_of, prompt_of, stream_of, job_of, object_ws}

abbrev pub is_name : Option (List ℕ) → List ℕ → Bool
is_name None n = false
is_name (Some m) n = bytes_eq n m

abbrev pub is_key : Option Key → Key → Bool
is_key None k = false
is_key (Some l) k = key_eq k l

abbrev pub one_if : Bool → ℕ
one_if b = if b then 1 else 0

abbrev pub deps_behind : ℕ → Row → ℕ
deps_behind n r = if is_object r then 0 else (n + one_if (is_dep r))

abbrev pub ws_behind : Option (List ℕ) → Option (List ℕ) → Option (List ℕ)
ws_behind old None = old
ws_behind old (Some w) = Some w

-- the names are those before, and what the row adds
pub record IsNoted (old : Above) (r : Row) (new : Above) : Type 0 where
  pub rows : new.rows ≡ old.rows + 1
  pub stations : (n : List ℕ) → has_name new.stations n ≡ (has_name old.stations n || is_name (station_name r) n)
  pub resources : (k : Key) → has_key new.resources k ≡ (has_key old.resources k || is_key (resource_of r) k)
  pub prompts : (n : List ℕ) → has_name new.prompts n ≡ (has_name old.prompts n || is_name (prompt_of r) n)
  pub ws_lines : new.ws_lines ≡ old.ws_lines + one_if (is_ws r)
  pub resource_lines : new.resource_lines ≡ old.resource_lines + one_if (is_resource r)
  pub prompt_lines : new.prompt_lines ≡ old.prompt_lines + one_if (is_prompt r)
  pub carry : new.carry ≡ (old.carry || is_carry r)
  pub streams : (k : Key) →
      has_key new.streams k ≡ (not (is_plan r) && (has_key old.streams k || is_key (stream_of r) k))
  pub jobs : (n : List ℕ) →
      has_name new.jobs n ≡ (not (begins_stream r) && (has_name old.jobs n || is_name (job_of r) n))
  pub ws : new.ws ≡ ws_behind old.ws (object_ws r)
  pub deps : new.deps ≡ deps_behind old.deps r
  pub plans : new.plans ≡ old.plans + one_if (is_plan r)
  pub taken : new.taken ≡ old.taken + one_if (is_next r)

-- the same names and counts, whatever the order
pub record IsSame (a b : Above) : Type 0 where
  pub rows : a.rows ≡ b.rows
  pub stations : (n : List ℕ) → has_name a.stations n ≡ has_name b.stations n
  pub resources : (k : Key) → has_key a.resources k ≡ has_key b.resources k
  pub prompts : (n : List ℕ) → has_name a.prompts n ≡ has_name b.prompts n
  pub ws_lines : a.ws_lines ≡ b.ws_lines
  pub resource_lines : a.resource_lines ≡ b.resource_lines
  pub prompt_lines : a.prompt_lines ≡ b.prompt_lines
  pub carry : a.carry ≡ b.carry
  pub streams : (k : Key) → has_key a.streams k ≡ has_key b.streams k
  pub jobs : (n : List ℕ) → has_name a.jobs n ≡ has_name b.jobs n
  pub ws : a.ws ≡ b.ws
  pub deps : a.deps ≡ b.deps
  pub plans : a.plans ≡ b.plans
  pub taken : a.taken ≡ b.taken

-- the same workstations, resources and prompts
pub record IsSameNamed (a b : Named) : Type 0 where
  pub stations : a.stations ≡ b.stations
  pub resources : (k : Key) → has_key a.resources k ≡ has_key b.resources k
  pub prompts : (n : List ℕ) → has_name a.prompts n ≡ has_name b.prompts n
