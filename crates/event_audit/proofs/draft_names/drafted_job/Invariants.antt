use Rattle.std.proofs.Common.{◌+◌, ◌≡◌, ℕ, drop, find, option_map}
use Rattle.std.specs.List.{enumerate_from}
use Rattle.model.specs.Types.{JobDraft}
use Rattle.model.specs.Equalities.{text_eq}
use Rattle.event_audit.proofs.draft_names.drafted_job.Given as goal

abbrev pub invariant-loop-i : goal.invariant-loop-i
invariant-loop-i l =
    option_map (λ (p : ℕ × JobDraft). p.0)
    (find (λ (p : ℕ × JobDraft). text_eq p.1.name l.name) (enumerate_from l.fn.first l.jobs))
    ≡ option_map (λ (p : ℕ × JobDraft). p.0)
    (find (λ (p : ℕ × JobDraft). text_eq p.1.name l.name) (enumerate_from (l.fn.first + l.i) (drop l.i l.jobs)))
