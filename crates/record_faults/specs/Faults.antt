-- The table of faults: the kinds in their order, and the rows that have each.
use Rattle.std.specs.Prelude.{ℕ, ◌+◌, ◌==◌, ◌&&◌, ◌||◌, not, Bool, true, false, List, [], ◌∷◌, ◌++◌, Option, Some, None}
use Rattle.std.specs.Prelude.{length, nat_le, nat_lt, is_ok}
use Rattle.std.specs.List.{list_any}
use Rattle.std.specs.Option.{option_map_or}
use Rattle.model.specs.Words.{first_of_these}
use Rattle.rc_conditions.specs.Machine.{read_of}
use Rattle.record_rows.specs.declared.rows.Ranged.{Ranged}
use Rattle.record_rows.specs.declared.rows.Ranged.TheVariants.{Within, OutOfRange}
use Rattle.record_rows.specs.declared.rows.Row.{Row}
use Rattle.record_rows.specs.declared.rows.Row.TheVariants as row
use Rattle.record_rows.specs.declared.rows.PartRow.TheVariants as part
use Rattle.record_rows.specs.declared.rows.DepRow.TheVariants as dep
use Rattle.record_rows.specs.declared.rows.CutRow.{CutRow}
use Rattle.record_rows.specs.declared.rows.CutRow.TheVariants as cut
use Rattle.record_rows.specs.declared.rows.StepRow.{StepRow}
use Rattle.record_rows.specs.declared.rows.StepRow.TheVariants as step
use Rattle.record_rows.specs.Ranges.{in_range}
use Rattle.record_faults.specs.Known.{Station, is_station, is_manager, is_master, ends_at_master, Key, has_key, has_name}
use Rattle.record_faults.specs.Known.{Above, above_of, Named, jobs_around, is_steps, is_next}
use Rattle.record_faults.specs.declared.kinds.ScriptKind.{ScriptKind}
use Rattle.record_faults.specs.declared.kinds.ScriptKind.TheVariants as kind

-- BadLine: no form, or a crash in the master's `next` at another workstation.
abbrev pub cuts_next : CutRow → Bool
cuts_next cut.Next = true
cuts_next (cut.NextDay d) = true
cuts_next c = false

unfoldable pub is_bad_line : List Station → Row → Bool
is_bad_line all row.NoForm = true
is_bad_line all (row.Step (step.CrashIn w k c)) = cuts_next c && not (is_master all w)
is_bad_line all r = false

-- Duplicate: the name stands above.
unfoldable pub is_duplicate : Above → Row → Bool
is_duplicate a (row.Station s) = has_name a.stations s.name
is_duplicate a (row.Resource w n t) = has_key a.resources (w, n)
is_duplicate a (row.Prompt n t) = has_name a.prompts n
is_duplicate a (row.CarryForward c) = a.carry
is_duplicate a (row.Stream s) = has_key a.streams (s.ws, s.name)
is_duplicate a (row.Job j) = has_name a.jobs j.name
is_duplicate a r = false

-- UnknownName: the network lacks the workstation,
abbrev pub lacks : List Station → List ℕ → Bool
lacks all w = not (is_station all w)

abbrev pub cut_is_unknown : List Station → List ℕ → CutRow → Bool
cut_is_unknown all w (cut.Deliver a k) = lacks all a || lacks all w
cut_is_unknown all w c = lacks all w

unfoldable pub step_is_unknown : List Station → StepRow → Bool
step_is_unknown all step.Next = false
step_is_unknown all (step.NextDay d) = false
step_is_unknown all (step.Own w o) = lacks all w
step_is_unknown all (step.Link a b) = lacks all a || lacks all b
step_is_unknown all (step.Unlink a b) = lacks all a || lacks all b
step_is_unknown all (step.Deliver a b k) = lacks all a || lacks all b
step_is_unknown all (step.Flow a b) = lacks all a || lacks all b
step_is_unknown all (step.Reap w rc) = lacks all w
step_is_unknown all (step.Crash w) = lacks all w
step_is_unknown all (step.CrashIn w k c) = cut_is_unknown all w c
step_is_unknown all (step.Fulfil w o i) = lacks all w
step_is_unknown all (step.Recover w) = lacks all w

unfoldable pub lacks_station : List Station → Row → Bool
lacks_station all (row.Station s) = lacks all s.hop
lacks_station all (row.Resource w n t) = lacks all w
lacks_station all (row.Stream s) = lacks all s.ws
lacks_station all (row.Job j) = lacks all j.ws
lacks_station all (row.Dep (dep.FollowsStream w s)) = lacks all w
lacks_station all (row.Dep (dep.FollowsJob w s j)) = lacks all w
lacks_station all (row.Step s) = step_is_unknown all s
lacks_station all r = false

-- the stream its job, the network the resource of the object's workstation, or the network the prompt.
pub record Items : Type 0 where
  pub jobs : List (List ℕ)
  pub resources : List Key
  pub prompts : List (List ℕ)

abbrev pub lacks_resource : List Key → Option (List ℕ) → List ℕ → Bool
lacks_resource keys None r = true
lacks_resource keys (Some w) r = not (has_key keys (w, r))

unfoldable pub lacks_item : Items → Option (List ℕ) → Row → Bool
lacks_item i ws (row.Dep (dep.FollowsOwn j)) = not (has_name i.jobs j)
lacks_item i ws (row.Dep (dep.Needs n r)) = lacks_resource i.resources ws r
lacks_item i ws (row.Dep (dep.AskGlobal n)) = not (has_name i.prompts n)
lacks_item i ws r = false

-- OutOfRange: a number or a text of the line, a condition that is none, or a count of lines.
abbrev pub is_no_condition : Ranged (List ℕ) → Bool
is_no_condition (Within t) = nat_lt 4096 (length t) || not (is_ok (read_of t))
is_no_condition OutOfRange = false

unfoldable pub lacks_condition : Row → Bool
lacks_condition (row.Part (part.Cond t)) = is_no_condition t
lacks_condition r = false

-- the 257th workstation, the 65,536th resource or prompt, the 65th dependency of an object
unfoldable pub is_beyond : Above → Row → Bool
is_beyond a (row.Station s) = nat_le 256 a.ws_lines
is_beyond a (row.Resource w n t) = nat_le 65535 a.resource_lines
is_beyond a (row.Prompt n t) = nat_le 65535 a.prompt_lines
is_beyond a (row.Dep d) = nat_le 64 a.deps
is_beyond a r = false

-- BadTree: the hop is no manager, or the chain of hops does not end at the master.
unfoldable pub is_bad_tree : List Station → Row → Bool
is_bad_tree all (row.Station s) = not (is_manager all s.hop && ends_at_master all s.hop)
is_bad_tree all r = false

-- NoPlan: each section was taken above.
abbrev pub has_no_plan : Above → Row → Bool
has_no_plan a r = is_next r && nat_le a.plans a.taken

-- a row, with those above and those below it
pub record Placed : Type 0 where
  pub above : List Row
  pub here : Row
  pub below : List Row

-- A section is missing, which is a fault of the last row.
abbrev pub ends_too_soon : Placed → Bool
ends_too_soon p = length p.below == 0 && not (list_any is_steps (p.above ++ p.here ∷ []))

abbrev pub items_around : Named → Placed → Items
items_around n p =
    record { jobs = jobs_around p.above (p.here ∷ p.below); resources = n.resources; prompts = n.prompts }

-- The kinds in their order.
abbrev pub fault_by : List Station → Above → Bool → Bool → Bool → Row → Option ScriptKind
fault_by all a no_item no_condition ends r =
    first_of_these
    ((ends || is_bad_line all r, kind.BadLine)
    ∷ (is_duplicate a r, kind.Duplicate)
    ∷ (lacks_station all r || no_item, kind.UnknownName)
    ∷ (not (in_range r) || (no_condition || is_beyond a r), kind.OutOfRange)
    ∷ (is_bad_tree all r, kind.BadTree)
    ∷ (has_no_plan a r, kind.NoPlan) ∷ [])

unfoldable pub fault_of : Named → Placed → Option ScriptKind
fault_of n p =
    let a = above_of p.above in
    fault_by n.stations a (lacks_item (items_around n p) a.ws p.here) (lacks_condition p.here) (ends_too_soon p) p.here

-- the lowest faulty row among those below these, with its line and its first fault
abbrev pub fault_from : Named → List Row → List Row → Option (ℕ × ScriptKind)
fault_from n above [] = None
fault_from n above (r ∷ below) =
    option_map_or (λ k. Some (1 + length above, k)) (fault_of n (record { above = above; here = r; below = below }))
    (fault_from n (above ++ r ∷ []) below)

-- the fault of a text whose rows are these: in an empty one, line 1 lacks its section
unfoldable pub first_fault : Named → List Row → Option (ℕ × ScriptKind)
first_fault n [] = Some (1, kind.BadLine)
first_fault n (r ∷ rows) = fault_from n [] (r ∷ rows)
