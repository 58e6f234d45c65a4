-- A text that is said with its status is told.
use Rattle.std.proofs.Common.{◌≡◌, ℕ, ◌∙◌, List, Option, arith, sym, subst}
use Rattle.std.specs.Io.KnownBytes.{Keeps}
use Rattle.replies.specs.Sayings.{Says}
use Rattle.replies.specs.Statuses.{number_of}
use Rattle.replies.specs.declared.statuses.Status.{Status}
use Rattle.replies.specs.declared.statuses.Status.TheVariants as status
use Rattle.node_commands.specs.Ends.{IsSpoken, IsTold, TakesMemory}

not_nine : (s : Status) → IsSpoken s → number_of s ≡ 9 → ⊥
not_nine status.Success spoken e = omega arith
not_nine status.DefinitionsRefused spoken e = omega arith
not_nine status.WordsRefused spoken e = omega arith
not_nine status.RecordRefused spoken e = omega arith
not_nine status.SourceFailed spoken e = absurd spoken
not_nine status.SinkFailed spoken e = absurd spoken
not_nine status.DiskFailed spoken e = omega arith
not_nine status.OtherFile spoken e = omega arith
not_nine status.TurnsSpent spoken e = omega arith
not_nine status.NoMemory spoken e = absurd spoken
not_nine status.LimitPassed spoken e = omega arith
not_nine status.NotSound spoken e = omega arith
not_nine status.NoAnswer spoken e = omega arith

pub not_sink : (s : Status) → IsSpoken s → s ≡ status.SinkFailed → ⊥
not_sink s spoken e = subst IsSpoken e spoken

module _ (result : ℕ) (written written' : Option (List ℕ)) (faults faults' : ℕ) where
  -- what is said
  pub told_said : (s : Status) (text : List ℕ) → IsSpoken s → Says s text result written written' faults faults'
      → IsTold s text result written written' faults faults'
  told_said s text spoken says = record {
    said = λ other. says;
    silent = λ nine. absurd (never nine);
    want = λ nine. absurd (never nine);
  }
    where
      never : result ≡ 9 → ⊥
      never nine =
          let five : result ≡ 5 → ⊥ = λ e. omega (arith, nine, e) in
          not_nine s spoken (sym (says.all five).0 ∙ nine)

  -- the same of another name of the text
  pub told_same : (s : Status) (text due : List ℕ) → IsSpoken s → text ≡ due
      → Says s text result written written' faults faults' → IsTold s due result written written' faults faults'
  told_same s text due spoken same says =
      told_said s due spoken (subst (λ (t : List ℕ). Says s t result written written' faults faults') same says)

  -- what is not said for want of memory
  pub told_silent : (s : Status) (text : List ℕ) → TakesMemory s → result ≡ 9 → Keeps written written'
      → IsTold s text result written written' faults faults'
  told_silent s text takes nine keeps =
      record { said = λ other. absurd (other nine); silent = λ e. keeps; want = λ e. takes }
