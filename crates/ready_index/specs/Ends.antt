-- Which own members may end, as far as an index knows.
use Rattle.std.specs.Prelude.{ℕ, ◌≡◌, ◌⊎◌, List, Some, true}
use Rattle.model.specs.History.{View}
use Rattle.model.specs.Catalogue.{StreamJob, job}
use Rattle.model.specs.OwnMembers.{may_end}
use Rattle.ready_index.specs.Lists.{Among}
use Rattle.ready_index.specs.declared.targets.Target.{Target}
use Rattle.ready_index.specs.declared.targets.Target.TheVariants.{EndOfJob, EndOfStream, ReleaseOf}

-- each stream that may end at w is among these
pub record KnowsEnds (V : View) (w : ℕ) (numbers : List ℕ) : Type 0 where
  pub known : (s : ℕ) → may_end V w s ≡ true → Among s numbers

-- it is the stream that is released or ends, or that of the job that ends
abbrev pub IsTouched : View → Target → ℕ → Type 0
IsTouched V (ReleaseOf n) s = s ≡ n
IsTouched V (EndOfStream n) s = s ≡ n
IsTouched V (EndOfJob j) s = (p : StreamJob) × (job V j ≡ Some p) × (s ≡ p.parent.no)

-- each stream that may end at w is among these, but for what this touches
pub record KnowsEndsBut (V : View) (w : ℕ) (target : Target) (numbers : List ℕ) : Type 0 where
  pub known : (s : ℕ) → may_end V w s ≡ true → IsTouched V target s ⊎ Among s numbers

-- so too, but for one stream
pub record KnowsEndsButOne (V : View) (w one : ℕ) (numbers : List ℕ) : Type 0 where
  pub known : (s : ℕ) → may_end V w s ≡ true → (s ≡ one) ⊎ Among s numbers
