-- Whether all dependencies of documents, and of their jobs, pass a test, one document further.
use Rattle.std.proofs.Common.{ℕ, ◌&&◌, ◌+◌, ◌∙◌, ◌≡◌, Bool, List, Some, ap, drop, false, sym, true}
use Rattle.std.proofs.lemmas.Grind.{flat_map-append}
use Rattle.std.proofs.lemmas.List.Folds.{list_all-append}
use Rattle.std.specs.List.{list_all}
use Rattle.std.specs.Prelude.{flat_map, slice_get}
use Rattle.model.specs.Types.{Dep, JobDoc, StreamDoc}
use Rattle.model.specs.Sound.{jobs_in_docs}
use Rattle.event_audit.proofs.Behind.{left_some}
use Rattle.event_audit.proofs.Passing.{all_given}

-- all that an item has pass, or one does not
pub all_passed : {X : Type 0} (f : X → List Dep) (test : Dep → Bool) (xs : List X) (i : ℕ) (x : X) (all here : Bool)
    → all ≡ list_all test (flat_map f (drop i xs)) → slice_get xs i ≡ Some x → here ≡ list_all test (f x)
    → here ≡ true → all ≡ list_all test (flat_map f (drop (i + 1) xs))
all_passed {X} f test xs i x all here so_far there is yes_ =
    so_far ∙ all_given f test xs i x there
    ∙ ap (λ (b : Bool). b && list_all test (flat_map f (drop (i + 1) xs))) (sym is ∙ yes_)

pub one_fails : {X : Type 0} (f : X → List Dep) (test : Dep → Bool) (xs : List X) (i : ℕ) (x : X) (all here : Bool)
    → all ≡ list_all test (flat_map f (drop i xs)) → slice_get xs i ≡ Some x → here ≡ list_all test (f x)
    → here ≡ false → false ≡ all
one_fails {X} f test xs i x all here so_far there is not_ =
    sym (so_far ∙ all_given f test xs i x there
    ∙ ap (λ (b : Bool). b && list_all test (flat_map f (drop (i + 1) xs))) (sym is ∙ not_))

-- the dependencies of jobs
abbrev pub deps_of_jobs : List JobDoc → List Dep
deps_of_jobs jobs = flat_map (λ (j : JobDoc). j.deps) jobs

jobs_given : (test : Dep → Bool) (docs : List StreamDoc) (i : ℕ) (d : StreamDoc) → slice_get docs i ≡ Some d
    → list_all test (deps_of_jobs (jobs_in_docs (drop i docs)))
    ≡ (list_all test (deps_of_jobs d.jobs) && list_all test (deps_of_jobs (jobs_in_docs (drop (i + 1) docs))))
jobs_given test docs i d there =
    ap (λ (l : List StreamDoc). list_all test (deps_of_jobs (jobs_in_docs l))) (left_some docs i d there)
    ∙ ap (λ (l : List Dep). list_all test l)
    (flat_map-append (λ (j : JobDoc). j.deps) d.jobs (jobs_in_docs (drop (i + 1) docs)))
    ∙ list_all-append test (deps_of_jobs d.jobs) (deps_of_jobs (jobs_in_docs (drop (i + 1) docs)))

pub jobs_pass : (test : Dep → Bool) (docs : List StreamDoc) (i : ℕ) (d : StreamDoc) (all here : Bool)
    → all ≡ list_all test (deps_of_jobs (jobs_in_docs (drop i docs))) → slice_get docs i ≡ Some d
    → here ≡ list_all test (deps_of_jobs d.jobs) → here ≡ true
    → all ≡ list_all test (deps_of_jobs (jobs_in_docs (drop (i + 1) docs)))
jobs_pass test docs i d all here so_far there is yes_ =
    so_far ∙ jobs_given test docs i d there
    ∙ ap (λ (b : Bool). b && list_all test (deps_of_jobs (jobs_in_docs (drop (i + 1) docs)))) (sym is ∙ yes_)

pub a_job_fails : (test : Dep → Bool) (docs : List StreamDoc) (i : ℕ) (d : StreamDoc) (all here : Bool)
    → all ≡ list_all test (deps_of_jobs (jobs_in_docs (drop i docs))) → slice_get docs i ≡ Some d
    → here ≡ list_all test (deps_of_jobs d.jobs) → here ≡ false → false ≡ all
a_job_fails test docs i d all here so_far there is not_ =
    sym (so_far ∙ jobs_given test docs i d there
    ∙ ap (λ (b : Bool). b && list_all test (deps_of_jobs (jobs_in_docs (drop (i + 1) docs)))) (sym is ∙ not_))
