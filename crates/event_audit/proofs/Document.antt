-- The document of a submitted draft, put together from its parts.
use Rattle.std.proofs.Common.{ℕ, ◌+◌, ◌≡◌, Bool, List, Option, ap}
use Rattle.std.proofs.Common.{filter_map, map, refl}
use Rattle.std.specs.List.{enumerate_from}
use Rattle.model.specs.Types.{CondOp, Dep, JobDoc, JobDraft, Recovery, StreamDoc, StreamDraft, Work}
use Rattle.model.specs.History.{View}
use Rattle.model.specs.NewPlan.{last_job, numbered}
use Rattle.event_audit.specs.Drafts.{HasHead, HasWork, gives, job_given}

abbrev the_stream : ℕ → ℕ → List ℕ → ℕ → Option ℕ → Bool → List Dep → List JobDoc → StreamDoc
the_stream n w a p l c ds js =
    record { no = n; ws = w; name = a; priority = p; limit = l; carry = c; deps = ds; jobs = js }

abbrev the_job : ℕ → ℕ → List ℕ → ℕ → Work → List ℕ → List CondOp → Recovery → List Dep → JobDoc
the_job n w a p x g c r ds =
    record {
      no = n;
      ws = w;
      name = a;
      priority = p;
      work = x;
      logon = g;
      cond = c;
      recovery = r;
      deps = ds;
    }

-- two documents of the same parts are one
same_stream : {n m w v p q : ℕ} {a b : List ℕ} {l k : Option ℕ} {c d : Bool} {ds es : List Dep} {js is : List JobDoc}
    → n ≡ m → w ≡ v → a ≡ b → p ≡ q → l ≡ k → c ≡ d → ds ≡ es → js ≡ is
    → (the_stream n w a p l c ds js) ≡ (the_stream m v b q k d es is)
same_stream e1 e2 e3 e4 e5 e6 e7 e8 = rw (e1, e2, e3, e4, e5, e6, e7, e8) refl

-- and two jobs
same_job : {n m w v p q : ℕ} {a b g h : List ℕ} {x y : Work} {c d : List CondOp} {r s : Recovery} {ds es : List Dep}
    → n ≡ m → w ≡ v → a ≡ b → p ≡ q → x ≡ y → g ≡ h → c ≡ d → r ≡ s → ds ≡ es
    → (the_job n w a p x g c r ds) ≡ (the_job m v b q y h d s es)
same_job e1 e2 e3 e4 e5 e6 e7 e8 e9 = rw (e1, e2, e3, e4, e5, e6, e7, e8, e9) refl

pub document_so : (V : View) (draft : StreamDraft) (doc : StreamDoc) → HasHead V draft doc
    → filter_map (gives V draft) draft.deps ≡ doc.deps
    → map (job_given V draft) (enumerate_from (1 + last_job V) draft.jobs) ≡ doc.jobs → numbered V draft ≡ doc
unfolding numbered
document_so V draft doc h ds js = same_stream h.no_ h.ws_ h.name_ h.priority_ h.limit_ h.carry_ ds js

pub head_so : (V : View) (draft : StreamDraft) (doc : StreamDoc) → numbered V draft ≡ doc → HasHead V draft doc
unfolding numbered
head_so V draft doc e =
    record {
      no_ = ap (λ (d : StreamDoc). d.no) e;
      ws_ = ap (λ (d : StreamDoc). d.ws) e;
      name_ = ap (λ (d : StreamDoc). d.name) e;
      priority_ = ap (λ (d : StreamDoc). d.priority) e;
      limit_ = ap (λ (d : StreamDoc). d.limit) e;
      carry_ = ap (λ (d : StreamDoc). d.carry) e;
    }

pub deps_so : (V : View) (draft : StreamDraft) (doc : StreamDoc) → numbered V draft ≡ doc
    → filter_map (gives V draft) draft.deps ≡ doc.deps
unfolding numbered
deps_so V draft doc e = ap (λ (d : StreamDoc). d.deps) e

pub jobs_so : (V : View) (draft : StreamDraft) (doc : StreamDoc) → numbered V draft ≡ doc
    → map (job_given V draft) (enumerate_from (1 + last_job V) draft.jobs) ≡ doc.jobs
unfolding numbered
jobs_so V draft doc e = ap (λ (d : StreamDoc). d.jobs) e

pub job_so : (V : View) (draft : StreamDraft) (n : ℕ) (job_ : JobDraft) (doc : JobDoc) → n ≡ doc.no
    → HasWork job_ doc → filter_map (gives V draft) job_.deps ≡ doc.deps → job_given V draft (n, job_) ≡ doc
job_so V draft n job_ doc e h ds =
    same_job e h.ws_ h.name_ h.priority_ h.work_ h.logon_ h.cond_ h.recovery_ ds

pub job_no_so : (V : View) (draft : StreamDraft) (n : ℕ) (job_ : JobDraft) (doc : JobDoc)
    → job_given V draft (n, job_) ≡ doc → n ≡ doc.no
job_no_so V draft n job_ doc e = ap (λ (d : JobDoc). d.no) e

pub job_work_so : (V : View) (draft : StreamDraft) (n : ℕ) (job_ : JobDraft) (doc : JobDoc)
    → job_given V draft (n, job_) ≡ doc → HasWork job_ doc
job_work_so V draft n job_ doc e =
    record {
      ws_ = ap (λ (d : JobDoc). d.ws) e;
      name_ = ap (λ (d : JobDoc). d.name) e;
      priority_ = ap (λ (d : JobDoc). d.priority) e;
      work_ = ap (λ (d : JobDoc). d.work) e;
      logon_ = ap (λ (d : JobDoc). d.logon) e;
      cond_ = ap (λ (d : JobDoc). d.cond) e;
      recovery_ = ap (λ (d : JobDoc). d.recovery) e;
    }

pub job_deps_so : (V : View) (draft : StreamDraft) (n : ℕ) (job_ : JobDraft) (doc : JobDoc)
    → job_given V draft (n, job_) ≡ doc → filter_map (gives V draft) job_.deps ≡ doc.deps
job_deps_so V draft n job_ doc e = ap (λ (d : JobDoc). d.deps) e
