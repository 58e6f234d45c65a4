-- What a text is, by the first fault of its rows.
use Rattle.std.proofs.Common.{◌≡◌, ◌⊎◌, ◌<◌, ◌≤◌, inl, inr, subst, length, arith, ℕ, Bool, true, false, List, Option, Some, None, refl, ap, sym, ◌∙◌, if◌then◌else◌}
use Rattle.std.specs.Prelude.{Result, Ok, Err, nat_le}
use Rattle.std.specs.Option.{option_map_or}
use Rattle.record_rows.specs.declared.rows.Row.{Row}
use Rattle.record_rows.specs.Rows.{rows_of}
use Rattle.record_faults.specs.declared.kinds.ScriptKind.{ScriptKind}
use Rattle.record_faults.specs.declared.kinds.ScriptKind.TheVariants as kind
use Rattle.record_faults.specs.Known.{named_in}
use Rattle.record_faults.specs.Faults.{first_fault}
use Rattle.record_script.specs.Counted.{AreNumbers}
use Rattle.record_script.specs.Scripts.{definitions_line, with_definitions, fault_of, placed, read_of, script_of}
use Rattle.record_script.specs.declared.scripts.Script.{Script}
use Rattle.record_script.specs.declared.reading.ScriptFault.{ScriptFault}
use Rattle.record_script.specs.declared.reading.ScriptFault.TheVariants.{At}
use Rattle.record_faults.specs.declared.places.Place.TheVariants as place
use Rattle.record_script.proofs.Distinct.{numbers}
use Rattle.record_script.proofs.Lengths.{few_rows, placed_length, line_of_fault}

pub no_fault : (rows : List Row) → fault_of rows ≡ None
    → (definitions_line rows ≡ None) × (first_fault (named_in rows) rows ≡ None)
unfolding with_definitions
no_fault rows e = go (definitions_line rows) refl (first_fault (named_in rows) rows) refl
  where
    go : (d : Option ℕ) → definitions_line rows ≡ d → (f : Option (ℕ × ScriptKind)) → first_fault (named_in rows) rows ≡ f
        → (definitions_line rows ≡ None) × (first_fault (named_in rows) rows ≡ None)
    go None a f b = (a, sym (ap (λ o. with_definitions o (first_fault (named_in rows) rows)) a) ∙ e)
    go (Some d) a None b =
        absurd (let is : Some (d, kind.NotBuilt) ≡ None =
        sym (ap (λ o. with_definitions o (first_fault (named_in rows) rows)) a ∙ ap (with_definitions (Some d)) b) ∙ e in cc)
    go (Some d) a (Some f) b = on (nat_le f.0 d) refl
      where
        is : (if nat_le f.0 d then Some f else Some (d, kind.NotBuilt)) ≡ None
        is = sym (ap (λ o. with_definitions o (first_fault (named_in rows) rows)) a ∙ ap (with_definitions (Some d)) b) ∙ e

        on : (c : Bool) → nat_le f.0 d ≡ c → (definitions_line rows ≡ None) × (first_fault (named_in rows) rows ≡ None)
        on true h = absurd (let some : Some f ≡ None = sym (ap (λ c. if c then Some f else Some (d, kind.NotBuilt)) h) ∙ is in cc)
        on false h = absurd (let some : Some (d, kind.NotBuilt) ≡ None = sym (ap (λ c. if c then Some f else Some (d, kind.NotBuilt)) h) ∙ is in cc)

pub read_ok : (text : List ℕ) → fault_of (placed text) ≡ None → read_of text ≡ Ok (script_of (placed text))
unfolding read_of
read_ok text e = ap (λ o. option_map_or Err o (Ok (script_of (placed text)))) e

pub read_err : (text : List ℕ) (f : ℕ × ScriptKind) → fault_of (placed text) ≡ Some f → read_of text ≡ Err f
unfolding read_of
read_err text f e = ap (λ o. option_map_or Err o (Ok (script_of (placed text)))) e

pub numbers_of : (text : List ℕ) → fault_of (placed text) ≡ None → AreNumbers (placed text)
numbers_of text e = numbers (rows_of text) (no_fault (placed text) e).1

-- As the call has it.

pub few_placed : (text : List ℕ) (rows : List Row) → rows ≡ placed text → length text < 4294967296
    → length rows < 4294967296
few_placed text rows is low =
    let same : length rows ≡ length (placed text) = ap length is in
    let long = placed_length place.Nothing (rows_of text) in
    let few = few_rows text in
    omega (arith, same, long, few, low)

pub line_fits : (text : List ℕ) (rows : List Row) (l : ℕ) (k : ScriptKind) → rows ≡ placed text
    → length text < 4294967296 → fault_of rows ≡ Some (l, k) → l < 4294967296
line_fits text rows l k is low e = go (line_of_fault rows l k e)
  where
    go : (l ≡ 1) ⊎ (l ≤ length rows) → l < 4294967296
    go (inl one) = omega (arith, one)
    go (inr within_) = let few = few_placed text rows is low in omega (arith, within_, few)

pub read_err_at : (text : List ℕ) (rows : List Row) (l : ℕ) (k : ScriptKind) (n : ℕ) (j : ScriptKind)
    → rows ≡ placed text → fault_of rows ≡ Some (l, k)
    → ◌≡◌ {A = Result Script ScriptFault} (Err (At l k)) (Err (At n j)) → read_of text ≡ Err (n, j)
read_err_at text rows l k n j is e h =
    let line : l ≡ n = cc in
    let kind_ : k ≡ j = cc in
    read_err text (l, k) (ap fault_of (sym is) ∙ e) ∙ ap (λ x. Err (x, k)) line ∙ ap (λ x. Err (n, x)) kind_

pub numbers_at : (text : List ℕ) (rows same : List Row) → rows ≡ placed text → same ≡ placed text → fault_of rows ≡ None
    → AreNumbers same
numbers_at text rows same is also e =
    subst AreNumbers (sym also) (numbers_of text (ap fault_of (sym is) ∙ e))

pub read_ok_of : (text : List ℕ) (rows same : List Row) {s : Script} → rows ≡ placed text → same ≡ placed text
    → fault_of rows ≡ None → s ≡ script_of same → read_of text ≡ Ok s
read_ok_of text rows same is also e found =
    read_ok text (ap fault_of (sym is) ∙ e) ∙ ap (λ l. Ok (script_of l)) (sym also) ∙ ap Ok (sym found)
