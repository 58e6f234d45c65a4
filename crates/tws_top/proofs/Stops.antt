-- The statuses with which an input and a line are answered, by their numbers.
use Rattle.std.proofs.Common.{◌≡◌, arith, refl}
use Rattle.record_runs.specs.declared.stops.Stop.{Stop}
use Rattle.record_runs.specs.declared.stops.Stop.TheVariants as stop
use Rattle.replies.specs.declared.statuses.Status.{Status}
use Rattle.replies.specs.declared.statuses.Status.TheVariants.{LimitPassed, RecordRefused}
use Rattle.input_commands.specs.Lines.{stop_status}
use Rattle.replies.specs.Statuses.{number_of}
use Rattle.input_commands.proofs.Calling.{IsOfInput, success, definitions_, refused, limit_, wrong_}

-- a status that a step is answered with is one of two, by its number
pub record_or_limit : (status : Status) → IsOfInput status → (number_of status ≡ 3 → status ≡ RecordRefused)
    × (number_of status ≡ 10 → status ≡ LimitPassed)
record_or_limit status success =
    (λ e. absurd (let never : ⊥ = omega arith in never), λ e. absurd (let never : ⊥ = omega arith in never))
record_or_limit status definitions_ =
    (λ e. absurd (let never : ⊥ = omega arith in never), λ e. absurd (let never : ⊥ = omega arith in never))
record_or_limit status refused = (λ e. refl, λ e. absurd (let never : ⊥ = omega arith in never))
record_or_limit status limit_ = (λ e. absurd (let never : ⊥ = omega arith in never), λ e. refl)
record_or_limit status wrong_ =
    (λ e. absurd (let never : ⊥ = omega arith in never), λ e. absurd (let never : ⊥ = omega arith in never))

pub stop_not_1 : (s : Stop) → number_of (stop_status s) ≡ 1 → ⊥
stop_not_1 stop.NoPacket e = omega arith
stop_not_1 stop.NoProcess e = omega arith
stop_not_1 stop.NoDep e = omega arith
stop_not_1 stop.NotNeighbour e = omega arith
stop_not_1 stop.UnknownName e = omega arith
stop_not_1 stop.OutOfRange e = omega arith
stop_not_1 stop.NotInNetwork e = omega arith
stop_not_1 stop.NotMaster e = omega arith
stop_not_1 (stop.Limit name number) e = omega arith

pub stop_not_11 : (s : Stop) → number_of (stop_status s) ≡ 11 → ⊥
stop_not_11 stop.NoPacket e = omega arith
stop_not_11 stop.NoProcess e = omega arith
stop_not_11 stop.NoDep e = omega arith
stop_not_11 stop.NotNeighbour e = omega arith
stop_not_11 stop.UnknownName e = omega arith
stop_not_11 stop.OutOfRange e = omega arith
stop_not_11 stop.NotInNetwork e = omega arith
stop_not_11 stop.NotMaster e = omega arith
stop_not_11 (stop.Limit name number) e = omega arith
