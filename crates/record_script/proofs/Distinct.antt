-- A record without faults names each workstation, resource and prompt once, and not too many of them.
use Rattle.std.proofs.Common.{◌≡◌, ◌<◌, ◌≤◌, ℕ, Bool, false, List, [], ◌∷◌, ◌++◌, Option, Some, None, length}
use Rattle.std.proofs.Common.{refl, ap, sym, subst, ◌∙◌, arith, cond, bytes_eq}
use Rattle.std.specs.Prelude.{filter_map, count_by}
use Rattle.std.specs.List.{cons_option, list_any}
use Rattle.lemmas.proofs.Numbers.{le_false}
use Rattle.record_rows.specs.declared.rows.Row.{Row}
use Rattle.record_rows.specs.declared.rows.Row.TheVariants as row
use Rattle.record_faults.specs.declared.places.Place.TheVariants as place
use Rattle.record_faults.specs.Places.{placed_from}
use Rattle.record_faults.specs.Known.{Named, above_of, key_eq, station_name, resource_of, prompt_of, is_ws, is_resource, is_prompt, named_in}
use Rattle.record_faults.specs.Faults.{first_fault, is_duplicate, is_beyond}
use Rattle.record_script.specs.Counted.{AreNew, AreNumbers}
use Rattle.record_script.proofs.Picked.{Around, around, few_picked, picked_count}
use Rattle.record_script.proofs.Shapes.{above_master}
use Rattle.record_script.proofs.Walked.{Passes, each_passes}

pub ws_each : (r : Row) → cond (is_ws r) 1 0 ≡ length (cons_option (station_name r) [])
ws_each (row.Master n) = refl
ws_each (row.Station s) = refl
ws_each r = refl

pub resource_each : (r : Row) → cond (is_resource r) 1 0 ≡ length (cons_option (resource_of r) [])
resource_each (row.Resource w n t) = refl
resource_each r = refl

pub prompt_each : (r : Row) → cond (is_prompt r) 1 0 ≡ length (cons_option (prompt_of r) [])
prompt_each (row.Prompt n t) = refl
prompt_each r = refl

-- What is known of one that is picked: it does not stand above, and few do.

station_low : (n : Named) (raw above below : List Row) (here : Row) (a : List ℕ)
    → placed_from place.Nothing raw ≡ above ++ here ∷ below → station_name here ≡ Some a
    → Passes n (record { above = above; here = here; below = below })
    → (list_any (bytes_eq a) (filter_map station_name above) ≡ false) × (length (filter_map station_name above) < 256)
unfolding above_of is_duplicate is_beyond
station_low n raw above below (row.Master m) a e is p =
    let none = above_master raw above below m e in
    let few : length (filter_map station_name above) ≡ 0 = ap length none in
    (ap (list_any (bytes_eq a)) none, omega (arith, few))
station_low n raw above below (row.Station s) a e is p =
    let same : s.name ≡ a = cc in
    let few = le_false 256 (count_by is_ws above) p.count in (
      subst (λ x. list_any (bytes_eq x) (filter_map station_name above) ≡ false) same p.once,
      subst (λ k. k < 256) (picked_count is_ws station_name ws_each above) few,
    )
station_low n raw above below r a e is p = absurd (cc)

resource_low : (n : Named) (above below : List Row) (here : Row) (a : List ℕ × List ℕ)
    → resource_of here ≡ Some a → Passes n (record { above = above; here = here; below = below })
    → (list_any (key_eq a) (filter_map resource_of above) ≡ false) × (length (filter_map resource_of above) < 65535)
unfolding above_of is_duplicate is_beyond
resource_low n above below (row.Resource w name t) a is p =
    let same : (w, name) ≡ a = cc in
    let few = le_false 65535 (count_by is_resource above) p.count in (
      subst (λ x. list_any (key_eq x) (filter_map resource_of above) ≡ false) same p.once,
      subst (λ k. k < 65535) (picked_count is_resource resource_of resource_each above) few,
    )
resource_low n above below r a is p = absurd (cc)

prompt_low : (n : Named) (above below : List Row) (here : Row) (a : List ℕ)
    → prompt_of here ≡ Some a → Passes n (record { above = above; here = here; below = below })
    → (list_any (bytes_eq a) (filter_map prompt_of above) ≡ false) × (length (filter_map prompt_of above) < 65535)
unfolding above_of is_duplicate is_beyond
prompt_low n above below (row.Prompt name t) a is p =
    let same : name ≡ a = cc in
    let few = le_false 65535 (count_by is_prompt above) p.count in (
      subst (λ x. list_any (bytes_eq x) (filter_map prompt_of above) ≡ false) same p.once,
      subst (λ k. k < 65535) (picked_count is_prompt prompt_of prompt_each above) few,
    )
prompt_low n above below r a is p = absurd (cc)

-- So each is new.

new_by : {A : Type 0} (eq : A → A → Bool) (f : Row → Option A) (rows : List Row) (most : ℕ) → most ≤ 65535
    → ((before behind : List A) (a : A) → Around f rows before behind a
    → (list_any (eq a) before ≡ false) × (length before < most)) → AreNew eq (filter_map f rows)
new_by eq f rows most low each =
    let few = few_picked f rows most (λ before a s. (each before [] a s).1) in
    record {
      few = omega (arith, few, low);
      once = λ before behind a e. (each before behind a (around f rows before behind a e)).0;
    }

pub few_stations : (raw : List Row) → first_fault (named_in (placed_from place.Nothing raw)) (placed_from place.Nothing raw) ≡ None
    → length (filter_map station_name (placed_from place.Nothing raw)) ≤ 256
few_stations raw e =
    let rows = placed_from place.Nothing raw in
    few_picked station_name rows 256
    (λ before a s.
    let low = station_low (named_in rows) raw s.above s.below s.here a s.whole s.picked
    (each_passes (named_in rows) rows s.above s.below s.here e s.whole) in
    subst (λ l. length l < 256) s.front low.1)

pub numbers : (raw : List Row) → first_fault (named_in (placed_from place.Nothing raw)) (placed_from place.Nothing raw) ≡ None
    → AreNumbers (placed_from place.Nothing raw)
numbers raw e =
    let rows = placed_from place.Nothing raw in
    record {
      stations = new_by bytes_eq station_name rows 256 (omega arith)
          (λ before behind a s.
          let low = station_low (named_in rows) raw s.above s.below s.here a s.whole s.picked
          (each_passes (named_in rows) rows s.above s.below s.here e s.whole) in
          (ap (list_any (bytes_eq a)) (sym s.front) ∙ low.0, subst (λ l. length l < 256) s.front low.1));
      resources = new_by key_eq resource_of rows 65535 (omega arith)
          (λ before behind a s.
          let low = resource_low (named_in rows) s.above s.below s.here a s.picked
          (each_passes (named_in rows) rows s.above s.below s.here e s.whole) in
          (ap (list_any (key_eq a)) (sym s.front) ∙ low.0, subst (λ l. length l < 65535) s.front low.1));
      prompts = new_by bytes_eq prompt_of rows 65535 (omega arith)
          (λ before behind a s.
          let low = prompt_low (named_in rows) s.above s.below s.here a s.picked
          (each_passes (named_in rows) rows s.above s.below s.here e s.whole) in
          (ap (list_any (bytes_eq a)) (sym s.front) ∙ low.0, subst (λ l. length l < 65535) s.front low.1));
    }
