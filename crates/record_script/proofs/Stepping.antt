-- The steps of a record without faults name workstations of its network, and take no more plans than there are.
use Rattle.std.proofs.Common.{◌≡◌, ◌<◌, ◌+◌, ℕ, Bool, true, false, ◌&&◌, ◌||◌, not, List, [], ◌∷◌, length, refl, sym}
use Rattle.std.proofs.Common.{subst}
use Rattle.std.specs.Prelude.{nat_lt}
use Rattle.std.specs.List.{list_any, list_all}
use Rattle.lemmas.proofs.Booleans.{and_made, neither, not_fails}
use Rattle.lemmas.proofs.Numbers.{lt_told}
use Rattle.record_rows.specs.declared.rows.Row.{Row}
use Rattle.record_rows.specs.declared.rows.Row.TheVariants as row
use Rattle.record_rows.specs.declared.rows.StepRow.{StepRow}
use Rattle.record_rows.specs.declared.rows.StepRow.TheVariants as step
use Rattle.record_rows.specs.declared.rows.OwnRow.{OwnRow}
use Rattle.record_rows.specs.declared.rows.OwnRow.TheVariants as own
use Rattle.record_rows.specs.declared.rows.CutRow.{CutRow}
use Rattle.record_rows.specs.declared.rows.CutRow.TheVariants as cut
use Rattle.record_faults.specs.Known.{Station, is_station, stations}
use Rattle.record_faults.specs.Faults.{lacks_station, step_is_unknown}
use Rattle.record_script.specs.Numbers.{Numbered, numbered, ws_no}
use Rattle.record_script.specs.Steps.{own_step, cut_step, step_form, steps_from}
use Rattle.record_script.specs.Inside.{ws_in_one, ws_in}
use Rattle.record_script.specs.declared.scripts.ScriptStep.{ScriptStep}
use Rattle.record_script.proofs.Defined.{named_there}

module _ (all : List Station) (n : Numbered) (count : ℕ) (there : (w : List ℕ) → is_station all w ≡ true → ws_no n w < count) where
  abbrev no : List ℕ → ℕ
  no w = ws_no n w

  abbrev low : ℕ → Bool
  low w = nat_lt w count

  known_low : (w : List ℕ) → not (is_station all w) ≡ false → low (no w) ≡ true
  known_low w e = lt_told (no w) count (there w (not_fails (is_station all w) e))

  one_low : (w : List ℕ) → not (is_station all w) ≡ false → list_all low (no w ∷ []) ≡ true
  one_low w e = and_made (low (no w)) true (known_low w e) refl

  two_low : (a b : List ℕ) → (not (is_station all a) || not (is_station all b)) ≡ false
      → list_all low (no a ∷ no b ∷ []) ≡ true
  two_low a b e =
      let parts = neither (not (is_station all a)) (not (is_station all b)) e in
      and_made (low (no a)) (low (no b) && true) (known_low a parts.0) (one_low b parts.1)

  own_low : (w : List ℕ) (o : OwnRow) → not (is_station all w) ≡ false
      → list_all low (ws_in_one (own_step (no w) o)) ≡ true
  unfolding own_step
  own_low w (own.Turn t) e = one_low w e
  own_low w (own.Started j) e = one_low w e
  own_low w (own.Failed j) e = one_low w e
  own_low w (own.Ended j rc) e = one_low w e
  own_low w (own.Typed l) e = one_low w e

  cut_low : (w : List ℕ) (k : Bool) (c : CutRow) → step_is_unknown all (step.CrashIn w k c) ≡ false
      → list_all low (no w ∷ ws_in_one (cut_step n (no w) c)) ≡ true
  unfolding step_is_unknown cut_step
  cut_low w k cut.Next e = one_low w e
  cut_low w k (cut.NextDay d) e = one_low w e
  cut_low w k (cut.Own o) e = and_made (low (no w)) _ (known_low w e) (own_low w o e)
  cut_low w k (cut.Deliver a d) e =
      and_made (low (no w)) _ (known_low w (neither (not (is_station all a)) (not (is_station all w)) e).1)
      (two_low a w e)

  step_low : (s : StepRow) → step_is_unknown all s ≡ false
      → list_all low (ws_in (step_form n s)) ≡ true
  unfolding step_is_unknown step_form
  step_low step.Next e = refl
  step_low (step.NextDay d) e = refl
  step_low (step.Own w o) e = own_low w o e
  step_low (step.Link a b) e = two_low a b e
  step_low (step.Unlink a b) e = two_low a b e
  step_low (step.Deliver a b k) e = two_low a b e
  step_low (step.Flow a b) e = two_low a b e
  step_low (step.Reap w rc) e = one_low w e
  step_low (step.Crash w) e = one_low w e
  step_low (step.CrashIn w k c) e = cut_low w k c e
  step_low (step.Fulfil w o i) e = one_low w e
  step_low (step.Recover w) e = one_low w e

  pub steps_at : (line : ℕ) (some : List Row) → list_any (lacks_station all) some ≡ false
      → list_all (λ (s : ScriptStep). list_all low (ws_in s.form)) (steps_from n line some) ≡ true
  unfolding lacks_station
  steps_at line [] e = refl
  steps_at line (row.Step s ∷ some) e =
      let parts = neither (step_is_unknown all s) (list_any (lacks_station all) some) e in
      and_made (list_all low (ws_in (step_form n s))) _ (step_low s parts.0) (steps_at (line + 1) some parts.1)
  steps_at line (r ∷ some) e =
      steps_at (line + 1) some (neither (lacks_station all r) (list_any (lacks_station all) some) e).1

-- The workstations of a record's own network.
pub steps_low : (rows : List Row) (count : ℕ) → count ≡ length (stations rows) → (line : ℕ) (some : List Row)
    → list_any (lacks_station (stations rows)) some ≡ false
    → list_all (λ (s : ScriptStep). list_all (λ w. nat_lt w count) (ws_in s.form)) (steps_from (numbered rows) line some) ≡ true
steps_low rows count many line some e =
    steps_at (stations rows) (numbered rows) count
    (λ w known. subst (λ c. ws_no (numbered rows) w < c) (sym many) (named_there rows w known).1) line some e
