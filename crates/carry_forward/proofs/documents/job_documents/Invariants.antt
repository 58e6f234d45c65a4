use Rattle.std.proofs.Common.{◌≡◌, ◌+◌, ◌++◌, drop, length, map}
use Rattle.std.specs.List.{enumerate_from}
use Rattle.model.specs.NewPlan.{doc_of_job}
use Rattle.carry_forward.proofs.documents.job_documents.Given as goal

abbrev pub invariant-loop-draft : goal.invariant-loop-draft
invariant-loop-draft l =
    record {
      so_far : l.docs
          ++ map (doc_of_job l.names.fresh l.names.earlier)
          (enumerate_from l.number (drop l.draft-index l.drafts))
          ≡ map (doc_of_job l.names.fresh l.names.earlier) (enumerate_from l.fn.first l.drafts);
      numbers : l.number + length (drop l.draft-index l.drafts) ≡ l.fn.first + length l.drafts;
    }
