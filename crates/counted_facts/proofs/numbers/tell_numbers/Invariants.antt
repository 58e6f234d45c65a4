use Rattle.std.proofs.Common.{ℕ, Bool, List, take}
use Rattle.std.specs.List.{list_any}
use Rattle.std.specs.Prelude.{◌==◌, ◌||◌}
use Rattle.model.specs.Types.{Body, Entry}
use Rattle.model.specs.Words.{has}
use Rattle.counted_facts.specs.Timelines.{AreHalfTold, TellsPlace}
use Rattle.counted_facts.proofs.numbers.tell_numbers.Given as goal

abbrev pub invariant-loop-number : goal.invariant-loop-number
invariant-loop-number l =
    (fact : ℕ → List Body → ℕ) (G : List Entry) (e : Entry) (done : ℕ → Bool)
    → TellsPlace fact G e l.fn.w l.fn.place (has l.numbers) → AreHalfTold fact G e done l.initial.timelines
    → AreHalfTold fact G e (λ m. done m || list_any (λ (n : ℕ). n == m) (take l.number-index l.numbers)) l.timelines
