use Rattle.std.proofs.Common.{ℕ, Bool, List, take}
use Rattle.std.specs.Prelude.{◌||◌}
use Rattle.model.specs.Types.{Body, Entry}
use Rattle.counted_facts.specs.Subjects.{have_number}
use Rattle.counted_facts.specs.Timelines.{AreHalfTold, TellsPlace}
use Rattle.counted_facts.proofs.numbers.tell_docs.Given as goal

abbrev pub invariant-loop-doc : goal.invariant-loop-doc
invariant-loop-doc l =
    (fact : ℕ → List Body → ℕ) (G : List Entry) (e : Entry) (done : ℕ → Bool)
    → TellsPlace fact G e l.fn.w l.fn.place (have_number l.docs) → AreHalfTold fact G e done l.initial.timelines
    → AreHalfTold fact G e (λ m. done m || have_number (take l.doc-index l.docs) m) l.timelines
