-- The end of a listing with `$STEPS` and `next` has no fault.
use Rattle.std.proofs.Common.{◌≡◌, ◌≤◌, ◌+◌, ℕ, Bool, true, false, ◌||◌, not, List, [], ◌∷◌, ◌++◌, None, refl, ap, ◌∙◌}
use Rattle.std.proofs.Common.{arith, cond, append_assoc}
use Rattle.std.specs.Prelude.{count_by, nat_le}
use Rattle.std.specs.List.{list_all, list_any}
use Rattle.std.proofs.lemmas.List.Folds.{list_any-append}
use Rattle.std.proofs.lemmas.List.Sums.{sum_by-append}
use Rattle.lemmas.proofs.Booleans.{and_parts, not_holds, or_true}
use Rattle.lemmas.proofs.Lists.{any_with}
use Rattle.lemmas.proofs.Numbers.{le_refused}
use Rattle.history_laws.proofs.Walking.{clean, not_last}
use Rattle.record_faults.specs.Faults.{fault_from, is_bad_line, is_bad_tree, is_beyond, is_duplicate, lacks_condition, lacks_item, lacks_station}
use Rattle.record_faults.specs.Known.{Named, above_of, is_next, is_plan, is_steps}
use Rattle.record_faults.proofs.Walks.{row_without}
use Rattle.record_rows.specs.Ranges.{in_range, step_in_range}
use Rattle.record_rows.specs.declared.rows.Row.{Row}
use Rattle.record_rows.specs.declared.rows.Row.TheVariants as row
use Rattle.record_rows.specs.declared.rows.StepRow.TheVariants as step
use Rattle.record_faults.specs.Faults.{step_is_unknown}
use Rattle.record_script.proofs.Walked.{Passes}
use Rattle.listing_laws.proofs.Placed.{end_rows}
use Rattle.listing_laws.proofs.Walks.{Clear, clear_row}

-- rows that take no plan
abbrev pub is_no_next : Row → Bool
is_no_next r = not (is_next r)

not_counted : (r : Row) → is_next r ≡ false → count_by is_next (r ∷ []) ≡ 0
not_counted r is = rw is refl

none_counted : (rows : List Row) → list_all is_no_next rows ≡ true → count_by is_next rows ≡ 0
none_counted [] e = refl
none_counted (r ∷ rows) e =
    let parts = and_parts (is_no_next r) (list_all is_no_next rows) e in
    let both : count_by is_next (r ∷ rows) ≡ count_by is_next (r ∷ []) + count_by is_next rows =
    sum_by-append (λ x. cond (is_next x) 1 0) (r ∷ []) rows in
    let here : count_by is_next (r ∷ []) ≡ 0 = not_counted r (not_holds (is_next r) parts.0) in
    let more : count_by is_next rows ≡ 0 = none_counted rows parts.1 in
    omega (arith, both, here, more)

-- a section among rows
one_counted : (front behind : List Row) → 1 ≤ count_by is_plan (front ++ row.Plan ∷ behind)
one_counted front behind =
    let both : count_by is_plan (front ++ row.Plan ∷ behind) ≡ count_by is_plan front + count_by is_plan (row.Plan ∷ behind) =
    sum_by-append (λ r. cond (is_plan r) 1 0) front (row.Plan ∷ behind) in
    let more : count_by is_plan (row.Plan ∷ behind) ≡ count_by is_plan (row.Plan ∷ []) + count_by is_plan behind =
    sum_by-append (λ r. cond (is_plan r) 1 0) (row.Plan ∷ []) behind in
    let here : count_by is_plan (row.Plan ∷ []) ≡ 1 = refl in
    omega (arith, both, more, here)

left_plans : (plans taken : ℕ) → 1 ≤ plans → taken ≡ 0 → nat_le plans taken ≡ false
left_plans plans taken some none = le_refused plans taken (omega (arith, some, none))

module _ (n : Named) where
  steps_clear : (above : List Row) → Clear n above (row.Steps ∷ [])
  unfolding is_bad_line is_duplicate lacks_station lacks_item in_range lacks_condition is_beyond is_bad_tree
  steps_clear above =
      clear_row n above row.Steps
      (λ below some.
      record {
        whole = not_last above below row.Steps some;
        form = refl;
        once = refl;
        station = refl;
        item = refl;
        range = refl;
        condition = refl;
        count = refl;
        tree = refl;
        plan = refl;
      })

  has_steps : (above : List Row) → list_any is_steps ((above ++ row.Steps ∷ []) ++ row.Step step.Next ∷ []) ≡ true
  has_steps above =
      list_any-append is_steps (above ++ row.Steps ∷ []) (row.Step step.Next ∷ [])
      ∙ ap (λ b. b || false) (any_with is_steps above row.Steps ∙ or_true (list_any is_steps above))

  next_passes : (above : List Row) → nat_le (count_by is_plan (above ++ row.Steps ∷ [])) (count_by is_next (above ++ row.Steps ∷ [])) ≡ false
      → Passes n (record { above = above ++ row.Steps ∷ []; here = row.Step step.Next; below = [] })
  unfolding above_of is_bad_line is_duplicate lacks_station lacks_item in_range lacks_condition is_beyond is_bad_tree step_in_range step_is_unknown
  next_passes above left =
      record {
        whole = ap not (has_steps above);
        form = refl;
        once = refl;
        station = refl;
        item = refl;
        range = refl;
        condition = refl;
        count = refl;
        tree = refl;
        plan = left;
      }

  -- the end, behind a section that no step takes
  pub end_clear : (front behind : List Row) → list_all is_no_next ((front ++ row.Plan ∷ behind) ++ row.Steps ∷ []) ≡ true
      → fault_from n (front ++ row.Plan ∷ behind) end_rows ≡ None
  end_clear front behind quiet =
      let above : List Row = front ++ row.Plan ∷ behind in
      let more : List Row = above ++ row.Steps ∷ [] in
      let same : more ≡ front ++ row.Plan ∷ (behind ++ row.Steps ∷ []) =
      append_assoc front (row.Plan ∷ behind) (row.Steps ∷ []) in
      let some : 1 ≤ count_by is_plan (front ++ row.Plan ∷ (behind ++ row.Steps ∷ [])) =
      one_counted front (behind ++ row.Steps ∷ []) in
      let left : nat_le (count_by is_plan more) (count_by is_next more) ≡ false =
      ap (λ l. nat_le (count_by is_plan l) (count_by is_next more)) same
      ∙ left_plans (count_by is_plan (front ++ row.Plan ∷ (behind ++ row.Steps ∷ []))) (count_by is_next more) some
      (none_counted more quiet) in
      steps_clear above (row.Step step.Next ∷ []) refl
      ∙ row_without n more [] (row.Step step.Next)
      (clean n (record { above = more; here = row.Step step.Next; below = [] }) (next_passes above left))
