-- What holds of each record that is read, as the call has it.
use Rattle.std.proofs.Common.{◌≡◌, ◌≤◌, ℕ, List, None, ap, sym, subst, ◌∙◌, length, true, false}
use Rattle.std.specs.Prelude.{count_by}
use Rattle.std.specs.List.{list_all, list_any}
use Rattle.network_tree.specs.Faults.{net_fault}
use Rattle.record_rows.specs.declared.rows.Row.{Row}
use Rattle.record_script.specs.declared.scripts.Script.{Script}
use Rattle.record_script.specs.Inside.{is_inside, takes_day, takes_plan}
use Rattle.record_script.specs.Scripts.{fault_of, placed, script_of}
use Rattle.record_script.proofs.Whole.{accepted_of, inside_of}
use Rattle.record_script.proofs.Taking.{enough}
use Rattle.record_script.proofs.Days.{no_day}

the_script : (text : List ℕ) (same : List Row) (s : Script) → same ≡ placed text → s ≡ script_of same
    → script_of (placed text) ≡ s
the_script text same s also found = sym (found ∙ ap script_of also)

pub accepted_at : (text : List ℕ) (rows same : List Row) {s : Script} → rows ≡ placed text → same ≡ placed text
    → fault_of rows ≡ None → s ≡ script_of same → net_fault s.net ≡ None
accepted_at text rows same {s} is also e found =
    subst (λ (x : Script). net_fault x.net ≡ None) (the_script text same s also found) (accepted_of text (ap fault_of (sym is) ∙ e))

pub inside_at : (text : List ℕ) (rows same : List Row) {s : Script} → rows ≡ placed text → same ≡ placed text
    → fault_of rows ≡ None → s ≡ script_of same → list_all (is_inside s.net) s.steps ≡ true
inside_at text rows same {s} is also e found =
    subst (λ (x : Script). list_all (is_inside x.net) x.steps ≡ true) (the_script text same s also found)
    (inside_of text (ap fault_of (sym is) ∙ e))

pub enough_at : (text : List ℕ) (rows same : List Row) {s : Script} → rows ≡ placed text → same ≡ placed text
    → fault_of rows ≡ None → s ≡ script_of same → count_by takes_plan s.steps ≤ length s.plans
enough_at text rows same {s} is also e found =
    subst (λ (x : Script). count_by takes_plan x.steps ≤ length x.plans) (the_script text same s also found)
    (enough text (ap fault_of (sym is) ∙ e))

pub no_day_at : (text : List ℕ) (rows same : List Row) {s : Script} → rows ≡ placed text → same ≡ placed text
    → fault_of rows ≡ None → s ≡ script_of same → list_any takes_day s.steps ≡ false
no_day_at text rows same {s} is also e found =
    subst (λ (x : Script). list_any takes_day x.steps ≡ false) (the_script text same s also found)
    (no_day text (ap fault_of (sym is) ∙ e))
