-- The laws that hold of all events hold of each run.
use Rattle.std.proofs.Common.{ℕ, refl}
use Rattle.composer_parser.specs.declared.Defs.{Defs}
use Rattle.node_inputs.specs.Traces.{Event}
use Rattle.node_loop.specs.Runs.{Run}
use Rattle.run_laws.proofs.Rules.{Gives}
use Rattle.run_laws.proofs.Starting.{StartsItsLaunches, one_starts_none, starts_rule}
use Rattle.run_laws.proofs.Marks.{MarksAll, one_marked}
use Rattle.run_laws.proofs.Keeping.{Fact, IsMade, OfKept, keeping_rule}
use Rattle.run_laws.proofs.Refusing.{EndsThere, refusal_rule}
use Rattle.run_laws.proofs.Forcing.{IsForced, forced_rule, one_unforced}
use Rattle.run_laws.proofs.Limiting.{MeetsIt, goes_on, meets_rule}
use Rattle.run_laws.proofs.Ending.{HoldsWhatItKept, holds_rule, one_holds}
use Rattle.run_laws.proofs.Outgoing.{GoesOutHeld, out_rule}
use Rattle.run_laws.proofs.Turning.{HoldsOfAll, Lifted, every_run_gives}

starts_hold : HoldsOfAll (λ o t e n. StartsItsLaunches o t e n)
starts_hold = record {
  rule = starts_rule;
  reads = λ s t. one_starts_none s (Event.Reads t) refl refl;
  comes = λ s a. one_starts_none s (Event.Comes a) refl refl;
  reports = λ s answer. one_starts_none s (Event.Reports answer) refl refl;
  looks = λ s path answer. one_starts_none s (Event.Looks path answer) refl refl;
}

pub run_starts : (defs : Defs) (turns : ℕ) → Gives (Run defs turns) (Lifted (λ o t e n. StartsItsLaunches o t e n))
run_starts defs turns = every_run_gives (λ o t e n. StartsItsLaunches o t e n) starts_hold defs turns

ends_hold : HoldsOfAll (λ o t e n. HoldsWhatItKept o t e n)
ends_hold = record {
  rule = holds_rule;
  reads = λ s t. one_holds s (Event.Reads t) refl;
  comes = λ s a. one_holds s (Event.Comes a) refl;
  reports = λ s answer. one_holds s (Event.Reports answer) refl;
  looks = λ s path answer. one_holds s (Event.Looks path answer) refl;
}

pub run_holds : (defs : Defs) (turns : ℕ) → Gives (Run defs turns) (Lifted (λ o t e n. HoldsWhatItKept o t e n))
run_holds defs turns = every_run_gives (λ o t e n. HoldsWhatItKept o t e n) ends_hold defs turns

outs_hold : HoldsOfAll (MarksAll GoesOutHeld)
outs_hold = record {
  rule = out_rule;
  reads = λ s t. one_marked GoesOutHeld s (Event.Reads t) refl tt;
  comes = λ s a. one_marked GoesOutHeld s (Event.Comes a) refl tt;
  reports = λ s answer. one_marked GoesOutHeld s (Event.Reports answer) refl tt;
  looks = λ s path answer. one_marked GoesOutHeld s (Event.Looks path answer) refl tt;
}

pub run_gives_out : (defs : Defs) (turns : ℕ) → Gives (Run defs turns) (Lifted (MarksAll GoesOutHeld))
run_gives_out defs turns = every_run_gives (MarksAll GoesOutHeld) outs_hold defs turns

refusals_hold : HoldsOfAll (MarksAll EndsThere)
refusals_hold = record {
  rule = refusal_rule;
  reads = λ s t. one_marked EndsThere s (Event.Reads t) refl tt;
  comes = λ s a. one_marked EndsThere s (Event.Comes a) refl tt;
  reports = λ s answer. one_marked EndsThere s (Event.Reports answer) refl tt;
  looks = λ s path answer. one_marked EndsThere s (Event.Looks path answer) refl tt;
}

pub run_ends : (defs : Defs) (turns : ℕ) → Gives (Run defs turns) (Lifted (MarksAll EndsThere))
run_ends defs turns = every_run_gives (MarksAll EndsThere) refusals_hold defs turns

forced_hold : HoldsOfAll (λ o t e n. IsForced o t e n)
forced_hold = record {
  rule = forced_rule;
  reads = λ s t. one_unforced s (Event.Reads t) refl;
  comes = λ s a. one_unforced s (Event.Comes a) refl;
  reports = λ s answer. one_unforced s (Event.Reports answer) refl;
  looks = λ s path answer. one_unforced s (Event.Looks path answer) refl;
}

pub run_forced : (defs : Defs) (turns : ℕ) → Gives (Run defs turns) (Lifted (λ o t e n. IsForced o t e n))
run_forced defs turns = every_run_gives (λ o t e n. IsForced o t e n) forced_hold defs turns

meets_hold : HoldsOfAll MeetsIt
meets_hold = record {
  rule = meets_rule;
  reads = λ s t name is. goes_on is;
  comes = λ s a name is. goes_on is;
  reports = λ s answer name is. goes_on is;
  looks = λ s path answer name is. goes_on is;
}

pub run_meets : (defs : Defs) (turns : ℕ) → Gives (Run defs turns) (Lifted MeetsIt)
run_meets defs turns = every_run_gives MeetsIt meets_hold defs turns

-- what holds of each entry that is made
pub run_keeps : (F : Fact) → IsMade F (λ i. Unit {0}) → (defs : Defs) (turns : ℕ)
    → Gives (Run defs turns) (Lifted (MarksAll (OfKept F)))
run_keeps F made defs turns = every_run_gives (MarksAll (OfKept F)) all defs turns
  where
    all : HoldsOfAll (MarksAll (OfKept F))
    all = record {
      rule = keeping_rule F (λ i. Unit {0}) made (λ input t. tt);
      reads = λ s t. one_marked (OfKept F) s (Event.Reads t) refl tt;
      comes = λ s a. one_marked (OfKept F) s (Event.Comes a) refl tt;
      reports = λ s answer. one_marked (OfKept F) s (Event.Reports answer) refl tt;
      looks = λ s path answer. one_marked (OfKept F) s (Event.Looks path answer) refl tt;
    }
