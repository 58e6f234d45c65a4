-- The status of a run that stops, and that of success.
use Rattle.std.proofs.Common.{◌≡◌, arith, refl}
use Rattle.record_runs.specs.declared.stops.Stop.{Stop}
use Rattle.record_runs.specs.declared.stops.Stop.TheVariants as stop
use Rattle.replies.specs.declared.statuses.Status.{Status}
use Rattle.replies.specs.declared.statuses.Status.TheVariants.{Success, DefinitionsRefused, WordsRefused, RecordRefused}
use Rattle.replies.specs.declared.statuses.Status.TheVariants.{SourceFailed, SinkFailed, DiskFailed, OtherFile, TurnsSpent, NoMemory, LimitPassed, NotSound, NoAnswer}
use Rattle.input_commands.specs.Lines.{stop_status}
use Rattle.replies.specs.Statuses.{number_of}

pub stop_is_no_success : (s : Stop) → number_of (stop_status s) ≡ 0 → ⊥
stop_is_no_success stop.NoPacket e = omega arith
stop_is_no_success stop.NoProcess e = omega arith
stop_is_no_success stop.NoDep e = omega arith
stop_is_no_success stop.NotNeighbour e = omega arith
stop_is_no_success stop.UnknownName e = omega arith
stop_is_no_success stop.OutOfRange e = omega arith
stop_is_no_success stop.NotInNetwork e = omega arith
stop_is_no_success stop.NotMaster e = omega arith
stop_is_no_success (stop.Limit name number) e = omega arith

-- 0 is the status of success alone
pub success_is_0 : (s : Status) → number_of s ≡ 0 → s ≡ Success
success_is_0 Success e = refl
success_is_0 DefinitionsRefused e = absurd (let never : ⊥ = omega arith in never)
success_is_0 WordsRefused e = absurd (let never : ⊥ = omega arith in never)
success_is_0 RecordRefused e = absurd (let never : ⊥ = omega arith in never)
success_is_0 SourceFailed e = absurd (let never : ⊥ = omega arith in never)
success_is_0 SinkFailed e = absurd (let never : ⊥ = omega arith in never)
success_is_0 DiskFailed e = absurd (let never : ⊥ = omega arith in never)
success_is_0 OtherFile e = absurd (let never : ⊥ = omega arith in never)
success_is_0 TurnsSpent e = absurd (let never : ⊥ = omega arith in never)
success_is_0 NoMemory e = absurd (let never : ⊥ = omega arith in never)
success_is_0 LimitPassed e = absurd (let never : ⊥ = omega arith in never)
success_is_0 NotSound e = absurd (let never : ⊥ = omega arith in never)
success_is_0 NoAnswer e = absurd (let never : ⊥ = omega arith in never)
