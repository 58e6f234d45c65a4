-- What reading a text tells of the condition that it is.
use Rattle.std.proofs.Common.{◌≡◌, ◌≢◌, ℕ, List, refl, sym}
use Rattle.std.specs.Prelude.{Result, Ok, Err}
use Rattle.model.specs.Types.{CondOp}
use Rattle.rc_conditions.specs.Answers.{AnswersExactly, IsCondition, IsFirstFault, IsTooLong}
use Rattle.rc_conditions.specs.Machine.{read_of}
use Rattle.rc_conditions.specs.declared.CondFault.{CondFault}
use Rattle.rc_conditions.specs.declared.CondFault.TheVariants.{Bad, TooLong, NoMemory}
use Rattle.rc_conditions.proofs.Readings.{cause_is_read}

pub all_told : (text : List ℕ) (result : Result (List CondOp) CondFault)
    → ((ops : List CondOp) → AnswersExactly result (Ok ops) (IsCondition text ops))
    → ((place : ℕ) → AnswersExactly result (Err (Bad place)) (IsFirstFault text place))
    → AnswersExactly result (Err TooLong) (IsTooLong text)
    → result ≢ Err NoMemory → result ≡ read_of text
all_told text (Ok ops) read bad long other = sym (cause_is_read text (Ok ops) ((read ops).0 refl))
all_told text (Err (Bad place)) read bad long other = sym (cause_is_read text (Err (Bad place)) ((bad place).0 refl))
all_told text (Err TooLong) read bad long other = sym (cause_is_read text (Err TooLong) (long.0 refl))
all_told text (Err NoMemory) read bad long other = absurd (other refl)
