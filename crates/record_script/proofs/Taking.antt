-- The steps of a record without faults take no more plans than there are.
use Rattle.std.proofs.Common.{◌≡◌, ◌<◌, ◌≤◌, ◌+◌, ℕ, Bool, true, false, ◌&&◌, List, [], ◌∷◌, Option, Some, None, length, refl, ap, sym, ◌∙◌, arith, cond}
use Rattle.std.specs.Prelude.{count_by, nat_le}
use Rattle.std.specs.List.{cons_option}
use Rattle.std.proofs.lemmas.List.{length-map}
use Rattle.std.proofs.lemmas.List.Sums.{sum_by-append}
use Rattle.std.proofs.lemmas.Bool.Decides.{nat_tests}
use Rattle.record_rows.specs.declared.rows.Row.{Row}
use Rattle.record_rows.specs.declared.rows.Row.TheVariants as row
use Rattle.record_rows.specs.declared.rows.StepRow.{StepRow}
use Rattle.record_rows.specs.declared.rows.StepRow.TheVariants as step
use Rattle.record_rows.specs.declared.rows.CutRow.TheVariants as cut
use Rattle.record_rows.specs.declared.rows.OwnRow.{OwnRow}
use Rattle.record_rows.specs.declared.rows.OwnRow.TheVariants as own
use Rattle.record_script.specs.declared.scripts.StepForm.TheVariants as form
use Rattle.record_faults.specs.Known.{above_of, is_next, is_plan, named_in}
use Rattle.record_faults.specs.Faults.{first_fault}
use Rattle.record_script.specs.Numbers.{Numbered, numbered, ws_no}
use Rattle.record_script.specs.Plans.{each, section_in, plans_of}
use Rattle.record_script.specs.Steps.{own_step, cut_step, step_form, steps_from, steps_of}
use Rattle.record_script.specs.Inside.{takes_plan}
use Rattle.record_script.specs.Scripts.{fault_of, placed}
use Rattle.record_script.proofs.Picked.{Around, few_picked, picked_count}
use Rattle.record_script.proofs.Walked.{each_passes}
use Rattle.record_script.proofs.Readings.{no_fault}

one_more : {A : Type 0} (p : A → Bool) (a : A) (xs : List A) → count_by p (a ∷ xs) ≡ (0 + cond (p a) 1 0) + count_by p xs
one_more p a xs = sum_by-append (λ x. cond (p x) 1 0) (a ∷ []) xs

zero_more : (c : ℕ) → 0 + c ≡ c
zero_more c = omega arith

-- a step takes a plan where its row does

own_takes : (n line w : ℕ) (o : OwnRow) → (k : Bool)
    → (takes_plan (record { line = line; form = form.One (own_step w o) }) ≡ false)
    × (takes_plan (record { line = line; form = form.CrashIn w k (own_step w o) }) ≡ false)
unfolding own_step
own_takes n line w (own.Turn t) k = (refl, refl)
own_takes n line w (own.Started j) k = (refl, refl)
own_takes n line w (own.Failed j) k = (refl, refl)
own_takes n line w (own.Ended j rc) k = (refl, refl)
own_takes n line w (own.Typed l) k = (refl, refl)

takes_same : (n : Numbered) (line : ℕ) (s : StepRow)
    → takes_plan (record { line = line; form = step_form n s }) ≡ is_next (row.Step s)
unfolding step_form cut_step
takes_same n line (step.Own w o) = (own_takes 0 line (ws_no n w) o true).0
takes_same n line (step.CrashIn w k cut.Next) = refl
takes_same n line (step.CrashIn w k (cut.NextDay d)) = refl
takes_same n line (step.CrashIn w k (cut.Own o)) = (own_takes 0 line (ws_no n w) o k).1
takes_same n line (step.CrashIn w k (cut.Deliver a d)) = refl
takes_same n line s = refl

steps_taking : (n : Numbered) (line : ℕ) (rows : List Row)
    → count_by takes_plan (steps_from n line rows) ≡ count_by is_next rows
steps_taking n line [] = refl
steps_taking n line (row.Step s ∷ rows) =
    one_more takes_plan (record { line = line; form = step_form n s }) (steps_from n (line + 1) rows)
    ∙ ap (λ b. (0 + cond b 1 0) + count_by takes_plan (steps_from n (line + 1) rows)) (takes_same n line s)
    ∙ ap (λ k. (0 + cond (is_next (row.Step s)) 1 0) + k) (steps_taking n (line + 1) rows)
    ∙ sym (one_more is_next (row.Step s) rows)
steps_taking n line (r ∷ rows) =
    steps_taking n (line + 1) rows ∙ sym (one_more is_next r rows ∙ zero_more (count_by is_next rows))

-- a plan is read of each section
section_count : (rows : List Row) → length (each section_in rows) ≡ count_by is_plan rows
section_count [] = refl
section_count (row.Plan ∷ rows) =
    let more = section_count rows in
    let all = one_more is_plan row.Plan rows in
    omega (arith, more, all)
section_count (r ∷ rows) = section_count rows ∙ sym (one_more is_plan r rows ∙ zero_more (count_by is_plan rows))

-- who takes a plan finds one
abbrev next_by : Bool → Option (Unit {0})
next_by true = Some tt
next_by false = None

abbrev next_in : Row → Option (Unit {0})
next_in r = next_by (is_next r)

next_each : (r : Row) → cond (is_next r) 1 0 ≡ length (cons_option {X = Unit {0}} (next_in r) [])
next_each r = go (is_next r)
  where
    go : (b : Bool) → cond b 1 0 ≡ length (cons_option {X = Unit {0}} (next_by b) [])
    go true = refl
    go false = refl

is_picked : (b : Bool) (a : Unit {0}) → next_by b ≡ Some a → b ≡ true
is_picked true a e = refl
is_picked false a e = absurd (cc)

not_all_taken : (b : Bool) (m n : ℕ) → b ≡ true → (b && nat_le m n) ≡ false → n < m
not_all_taken b m n is e =
    let past : nat_le m n ≡ false = sym (ap (λ x. x && nat_le m n) is) ∙ e in
    grind (arith, nat_tests)

plan_left : (rows : List Row) → first_fault (named_in rows) rows ≡ None → (before : List (Unit {0})) (a : Unit {0})
    → Around next_in rows before [] a → length before < count_by is_plan rows
unfolding above_of
plan_left rows e before a s =
    let p = each_passes (named_in rows) rows s.above s.below s.here e s.whole in
    let low : count_by is_next s.above < count_by is_plan s.above =
    not_all_taken (is_next s.here) (count_by is_plan s.above) (count_by is_next s.above)
    (is_picked (is_next s.here) a s.picked) p.plan in
    let taken : count_by is_next s.above ≡ length before = picked_count is_next next_in next_each s.above ∙ ap length s.front in
    let all : count_by is_plan rows ≡ count_by is_plan s.above + count_by is_plan (s.here ∷ s.below) =
    ap (count_by is_plan) s.whole ∙ sum_by-append (λ x. cond (is_plan x) 1 0) s.above (s.here ∷ s.below) in
    omega (arith, low, taken, all)

pub enough : (text : List ℕ) → fault_of (placed text) ≡ None
    → count_by takes_plan (steps_of (placed text)) ≤ length (plans_of (placed text))
enough text e =
    let rows = placed text in
    let f = no_fault rows e in
    let taken = steps_taking (numbered rows) 1 rows in
    let few = few_picked next_in rows (count_by is_plan rows) (plan_left rows f.1) in
    let counted = picked_count is_next next_in next_each rows in
    let plans : length (plans_of rows) ≡ count_by is_plan rows = length-map (each section_in rows) _ ∙ section_count rows in
    omega (arith, taken, few, counted, plans)
