-- The rows whose numbers and texts are all within their ranges.
use Rattle.std.specs.Prelude.{◌&&◌, Bool, true, false}
use Rattle.record_rows.specs.declared.rows.Ranged.{Ranged}
use Rattle.record_rows.specs.declared.rows.Ranged.TheVariants.{Within, OutOfRange}
use Rattle.record_rows.specs.declared.rows.PartRow.{PartRow}
use Rattle.record_rows.specs.declared.rows.PartRow.TheVariants as part
use Rattle.record_rows.specs.declared.rows.DepRow.{DepRow}
use Rattle.record_rows.specs.declared.rows.DepRow.TheVariants as dep
use Rattle.record_rows.specs.declared.rows.ObjRow.{ObjRow}
use Rattle.record_rows.specs.declared.rows.ObjRow.TheVariants as obj
use Rattle.record_rows.specs.declared.rows.OwnRow.{OwnRow}
use Rattle.record_rows.specs.declared.rows.OwnRow.TheVariants as own
use Rattle.record_rows.specs.declared.rows.CutRow.{CutRow}
use Rattle.record_rows.specs.declared.rows.CutRow.TheVariants as cut
use Rattle.record_rows.specs.declared.rows.StepRow.{StepRow}
use Rattle.record_rows.specs.declared.rows.StepRow.TheVariants as step
use Rattle.record_rows.specs.declared.rows.Row.{Row}
use Rattle.record_rows.specs.declared.rows.Row.TheVariants as row

abbrev pub is_within : {A : Type 0} → Ranged A → Bool
is_within (Within a) = true
is_within OutOfRange = false

unfoldable pub part_in_range : PartRow → Bool
part_in_range (part.Command t) = is_within t
part_in_range (part.Script t) = is_within t
part_in_range (part.Logon t) = is_within t
part_in_range (part.Cond t) = is_within t
part_in_range (part.Recovery r) = true

unfoldable pub dep_in_range : DepRow → Bool
dep_in_range (dep.At t) = is_within t
dep_in_range (dep.Until t o) = is_within t
dep_in_range (dep.Deadline t) = is_within t
dep_in_range (dep.FollowsStream w s) = true
dep_in_range (dep.FollowsJob w s j) = true
dep_in_range (dep.FollowsOwn j) = true
dep_in_range (dep.Needs n r) = is_within n
dep_in_range (dep.AskGlobal p) = true
dep_in_range (dep.AskOwn t) = is_within t
dep_in_range (dep.Opens t) = is_within t

unfoldable pub object_in_range : ObjRow → Bool
object_in_range (obj.Job n) = is_within n
object_in_range (obj.Stream n) = is_within n

unfoldable pub own_in_range : OwnRow → Bool
own_in_range (own.Turn t) = is_within t
own_in_range (own.Started j) = is_within j
own_in_range (own.Failed j) = is_within j
own_in_range (own.Ended j rc) = is_within j && is_within rc
own_in_range (own.Typed l) = true

unfoldable pub cut_in_range : CutRow → Bool
cut_in_range cut.Next = true
cut_in_range (cut.NextDay d) = true
cut_in_range (cut.Own o) = own_in_range o
cut_in_range (cut.Deliver a k) = is_within k

unfoldable pub step_in_range : StepRow → Bool
step_in_range step.Next = true
step_in_range (step.NextDay d) = true
step_in_range (step.Own w o) = own_in_range o
step_in_range (step.Link a b) = true
step_in_range (step.Unlink a b) = true
step_in_range (step.Deliver a b k) = is_within k
step_in_range (step.Flow a b) = true
step_in_range (step.Reap w rc) = is_within rc
step_in_range (step.Crash w) = true
step_in_range (step.CrashIn w k c) = cut_in_range c
step_in_range (step.Fulfil w o i) = object_in_range o && is_within i
step_in_range (step.Recover w) = true

unfoldable pub in_range : Row → Bool
in_range row.Skipped = true
in_range row.NoForm = true
in_range row.Network = true
in_range row.Definitions = true
in_range row.Plan = true
in_range row.Steps = true
in_range (row.Master n) = true
in_range (row.Station s) = true
in_range (row.Resource w n t) = is_within t
in_range (row.Prompt n t) = is_within t
in_range (row.CarryForward c) = true
in_range (row.Stream s) = is_within s.priority && is_within s.limit
in_range (row.Job j) = is_within j.priority
in_range (row.Part p) = part_in_range p
in_range (row.Dep d) = dep_in_range d
in_range (row.Step s) = step_in_range s
