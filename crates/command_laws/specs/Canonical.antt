-- What the canonical text of definitions calls for.
use Rattle.std.specs.Prelude.{◌<◌, ◌≤◌, ℕ, List, None, Option, length}
use Rattle.std.specs.Io.KnownBytes.{Appends}
use Rattle.base_types.specs.declared.LimitName.TheVariants as limit
use Rattle.definition_texts.specs.Kinds.{word_of}
use Rattle.definition_texts.specs.declared.RefusalKind.TheVariants as kind
use Rattle.input_commands.specs.Dues.{LeftCallsFor}
use Rattle.input_commands.specs.declared.Wish.TheVariants.{CanonicalText, Plan}
use Rattle.input_commands.specs.declared.words.Wanted.TheVariants.{Definitions}
use Rattle.outside.specs.Streams.{Stream, TakesAll}
use Rattle.replies.specs.Texts.{definitions_line, limit_line, limit_word}
use Rattle.replies.specs.declared.statuses.Status.{Status}
use Rattle.replies.specs.declared.statuses.Status.TheVariants.{DefinitionsRefused, LimitPassed, Success}

-- what an input of these bytes calls for where `compile` is asked, and `plan` of a day
abbrev pub CompileCallsFor : List ℕ → Status → List ℕ → Type 0
CompileCallsFor bytes status text = LeftCallsFor (Definitions CanonicalText) bytes status text None

abbrev pub PlanCallsFor : ℕ → List ℕ → Status → List ℕ → Type 0
PlanCallsFor day bytes status text = LeftCallsFor (Definitions (Plan day)) bytes status text None

-- a text that is longer than an input may be
abbrev pub input_limit : List ℕ
input_limit = limit_line (limit_word limit.Input) 16777216

-- `compile` of the text calls for the text; where it is longer than an input may be, for that limit.
pub record CompilesToItself (text : List ℕ) : Type 0 where
  pub same : length text ≤ 16777216 → CompileCallsFor text Success text
  pub too_long : 16777216 < length text → CompileCallsFor text LimitPassed input_limit

-- `plan` of the day calls for one thing with both texts: a listing, a limit of the plan, or that a time of the day has no
-- moment, which each text has at a line of its own.
pub data PlansAlike (day : ℕ) (bytes text : List ℕ) : Type 0 where
  listed : (listing : List ℕ) → PlanCallsFor day bytes Success listing → PlanCallsFor day text Success listing
      → PlansAlike day bytes text
  full : (most : ℕ) → PlanCallsFor day bytes LimitPassed (limit_line (limit_word limit.Plan) most)
      → PlanCallsFor day text LimitPassed (limit_line (limit_word limit.Plan) most) → PlansAlike day bytes text
  timeless : (line own : ℕ)
      → PlanCallsFor day bytes DefinitionsRefused (definitions_line line (word_of kind.OutOfRange))
      → PlanCallsFor day text DefinitionsRefused (definitions_line own (word_of kind.OutOfRange))
      → PlansAlike day bytes text

-- So it is on each day; where the text is longer than an input may be, it calls for that limit.
pub record PlansAsBefore (bytes text : List ℕ) : Type 0 where
  pub days : length text ≤ 16777216 → (day : ℕ) → PlansAlike day bytes text
  pub too_long : 16777216 < length text → (day : ℕ) → PlanCallsFor day text LimitPassed input_limit

-- A text was written that compiles to itself,
pub record WritesCanonical (written written' : Option (List ℕ)) : Type 0 where
  pub text : List ℕ
  pub wrote : Appends written written' text
  pub itself : CompilesToItself text

-- and that has the plans of the input, which was read to its end.
pub record WritesSamePlans (old new : Option Stream) (written written' : Option (List ℕ)) : Type 0 where
  pub bytes : List ℕ
  pub text : List ℕ
  pub read : TakesAll old new bytes
  pub wrote : Appends written written' text
  pub plans : PlansAsBefore bytes text
