-- Documents and drafts that are read are those that stand there.
use Rattle.std.proofs.Common.{◌≡◌, ℕ, ◌≤◌, Bool, List, [], ◌∷◌, ◌++◌, length, Ok, refl, subst, append_assoc}
use Rattle.std.proofs.lemmas.List.Elements.{recursion_from_All, All-from_recursion}
use Rattle.std.specs.List.{All, AllByRecursion, list_any}
use Rattle.std.specs.Prelude.{IfSome}
use Rattle.model.specs.Types.{Dep, DraftDep, JobDoc, StreamDoc, JobDraft, StreamDraft}
use Rattle.model.specs.Fields.{u8_bytes, u16_bytes, u32_bytes, text_bytes, list_bytes, flag_bytes, option_bytes}
use Rattle.model.specs.Fit.{AreFit, IsFitDep, IsFitDraftDep, IsFitJob, IsFitStream, IsFitJobDraft, IsFitDraft}
use Rattle.model.specs.Ranges.{IsU8, IsU16, IsU32, DepInRange, DraftDepInRange, OpInRange, JobInRange, StreamInRange}
use Rattle.model.specs.Ranges.{JobDraftInRange, DraftInRange}
use Rattle.model.specs.Spelling.{dep_bytes, draft_dep_bytes, work_bytes, cond_bytes, recovery_code, job_doc_bytes}
use Rattle.model.specs.Spelling.{stream_doc_bytes, job_draft_bytes, stream_draft_bytes}
use Rattle.model.specs.Versions.{is_deadline, is_draft_deadline, doc_has_deadline, draft_has_deadline}
use Rattle.entry_codec.specs.declared.reading.documents.Task.{Task}
use Rattle.entry_codec.specs.Parts.{Named, Front, named_at, front_at, task_at, job_of, stream_of, job_draft_of}
use Rattle.entry_codec.specs.Parts.{stream_draft_of, job_at, stream_at, job_draft_at, stream_draft_at}
use Rattle.entry_codec.proofs.Readers.{IsBytes, Stands, IsReader, IsSteady, starts, split, step, on, same_value}
use Rattle.entry_codec.proofs.Steady.{gives_steady, then_steady}
use Rattle.entry_codec.proofs.Pairs.{pair_reader, made_reader}
use Rattle.entry_codec.proofs.Numbers.{u8_reader, u16_reader, u32_reader}
use Rattle.entry_codec.proofs.Texts.{TextFits, text_reader}
use Rattle.entry_codec.proofs.Choices.{Any, flag_reader, option_reader}
use Rattle.entry_codec.proofs.Lists.{AreListed, list_reader}
use Rattle.entry_codec.proofs.Allowed.{Allows, allows_either, allows_both, allows_any, allows_each}
use Rattle.entry_codec.proofs.Parts.{DepFits, WorkFits, work_reader, recovery_reader, dep_reader}
use Rattle.entry_codec.proofs.Conditions.{DraftDepFits, CondFits, draft_dep_reader, cond_reader}

-- each of three facts of all items, apart and together
each_of_three : {X : Type 0} (P Q R : X → Type 0) (xs : List X) → AllByRecursion (λ x. (P x × Q x) × R x) xs
    → (AllByRecursion P xs × AllByRecursion Q xs) × AllByRecursion R xs
each_of_three P Q R [] h = ((tt, tt), tt)
each_of_three P Q R (x ∷ xs) h =
    let rest = each_of_three P Q R xs h.1 in
    (((h.0.0.0, rest.0.0), (h.0.0.1, rest.0.1)), (h.0.1, rest.1))

-- items that are fit, in range and of the entry's version
abbrev AreAllowed : {X : Type 0} → Bool → (X → Type 0) → (X → Type 0) → (X → Bool) → List X → Type 0
AreAllowed second P Q is xs = AreListed (λ x. (P x × Q x) × Allows second (is x)) xs

pub apart : {X : Type 0} (second : Bool) (P Q : X → Type 0) (is : X → Bool) (xs : List X)
    → AreAllowed second P Q is xs → (AreFit P xs × All Q xs) × Allows second (list_any is xs)
apart {X} second P Q is xs h =
    let each = each_of_three P Q (λ (x : X). Allows second (is x)) xs h.1 in (
      ((h.0, All-from_recursion P xs each.0.0), All-from_recursion Q xs each.0.1),
      allows_any second is xs each.1,
    )

all_three : {X : Type 0} (P Q R : X → Type 0) (xs : List X) → AllByRecursion P xs → AllByRecursion Q xs
    → AllByRecursion R xs → AllByRecursion (λ x. (P x × Q x) × R x) xs
all_three P Q R [] f g h = tt
all_three P Q R (x ∷ xs) f g h = (((f.0, g.0), h.0), all_three P Q R xs f.1 g.1 h.1)

pub together : {X : Type 0} (second : Bool) (P Q : X → Type 0) (is : X → Bool) (xs : List X) → AreFit P xs → All Q xs
    → Allows second (list_any is xs) → AreAllowed second P Q is xs
together {X} second P Q is xs f g h = (
  f.0,
  all_three P Q (λ (x : X). Allows second (is x)) xs (recursion_from_All P xs f.1) (recursion_from_All Q xs g)
      (allows_each second is xs h),
)

-- a job with a DEADLINE
abbrev job_has_one : JobDoc → Bool
job_has_one j = list_any is_deadline j.deps

abbrev job_draft_has_one : JobDraft → Bool
job_draft_has_one j = list_any is_draft_deadline j.deps

-- a job's document that is fit and in range
abbrev pub JobFits : Bool → JobDoc → Type 0
JobFits second d = (IsFitJob d × JobInRange d) × Allows second (job_has_one d)

-- what documents and drafts begin with
abbrev NamedFits : Named → Type 0
NamedFits n = (IsU16 n.0.0 × TextFits n.0.1) × IsU8 n.1

abbrev named_bytes : Named → List ℕ
named_bytes n = u16_bytes n.0.0 ++ text_bytes n.0.1 ++ u8_bytes n.1

named_reader : IsReader NamedFits named_bytes named_at
named_reader = pair_reader (pair_reader u16_reader text_reader) u8_reader

-- and streams
abbrev FrontFits : Front → Type 0
FrontFits f = (NamedFits f.0.0 × IfSome f.0.1 IsU16) × Any f.1

abbrev front_bytes : Front → List ℕ
front_bytes f = named_bytes f.0.0 ++ option_bytes u16_bytes f.0.1 ++ flag_bytes f.1

front_reader : IsReader FrontFits front_bytes front_at
front_reader = pair_reader (pair_reader named_reader (option_reader u16_reader)) flag_reader

-- what a job runs, for whom, and what its end means
abbrev TaskFits : Task → Type 0
TaskFits t = ((WorkFits t.work × TextFits t.logon) × CondFits t.cond) × Any t.recovery

abbrev task_bytes : Task → List ℕ
task_bytes t = work_bytes t.work ++ text_bytes t.logon ++ cond_bytes t.cond ++ u8_bytes (recovery_code t.recovery)

task_found : (bytes : List ℕ) (p : ℕ) (t : Task) (q : ℕ) → IsBytes bytes → p ≤ length bytes
    → task_at bytes p ≡ Ok (t, q) → TaskFits t × Stands (task_bytes t) bytes p q
unfolding task_at
task_found bytes p t q is lt e =
    let run = step (pair_reader work_reader text_reader) is (starts bytes p lt) e in
    let ops = step cond_reader is run.stands run.rest in
    let recovery = step recovery_reader is ops.stands ops.rest in
    subst (λ (z : Task × ℕ). TaskFits z.0 × Stands (task_bytes z.0) bytes p z.1) (same_value recovery.rest)
    (((run.fits, ops.fits), recovery.fits), recovery.stands)

task_again : (bytes : List ℕ) (p : ℕ) (t : Task) (q : ℕ) → TaskFits t → Stands (task_bytes t) bytes p q
    → task_at bytes p ≡ Ok (t, q)
unfolding task_at
task_again bytes p t q fits s =
    let run_bytes = work_bytes t.work ++ text_bytes t.logon in
    let last = split (run_bytes ++ cond_bytes t.cond) (u8_bytes (recovery_code t.recovery)) s in
    let first = split run_bytes (cond_bytes t.cond) last.0 in
    on (pair_reader work_reader text_reader) _ (t.work, t.logon) fits.0.0 first.0
    (on cond_reader _ t.cond fits.0.1 first.1 (on recovery_reader _ t.recovery fits.1 last.1 refl))

task_steady : IsSteady task_at
unfolding task_at
task_steady =
    then_steady _ (pair_reader work_reader text_reader).steady (λ run.
    then_steady _ cond_reader.steady (λ ops. then_steady _ recovery_reader.steady (λ recovery. gives_steady _)))

task_reader : IsReader TaskFits task_bytes task_at
task_reader = record { found = task_found; again = task_again; steady = task_steady }

-- the parts of documents and drafts in the order of their fields
in_a_job : (a b c d e f g h i : List ℕ) → a ++ b ++ c ++ d ++ e ++ f ++ g ++ h ++ i
    ≡ a ++ (b ++ c ++ d) ++ (e ++ f ++ g ++ h) ++ i
in_a_job a b c d e f g h i = simp append_assoc

in_a_job_draft : (b c d e f g h i : List ℕ) → b ++ c ++ d ++ e ++ f ++ g ++ h ++ i
    ≡ (b ++ c ++ d) ++ (e ++ f ++ g ++ h) ++ i
in_a_job_draft b c d e f g h i = simp append_assoc

in_a_stream : (a b c d e f g h : List ℕ) → a ++ b ++ c ++ d ++ e ++ f ++ g ++ h ≡ a ++ (b ++ c ++ d ++ e ++ f) ++ g ++ h
in_a_stream a b c d e f g h = simp append_assoc

-- jobs
abbrev JobParts : Type 0
JobParts = ((ℕ × Named) × Task) × List Dep

abbrev job_parts : JobDoc → JobParts
job_parts d = (
  (
    (d.no, ((d.ws, d.name), d.priority)),
    record { work = d.work; logon = d.logon; cond = d.cond; recovery = d.recovery },
  ),
  d.deps,
)

abbrev job_made : JobParts → JobDoc
job_made x = job_of x.0.0.0 x.0.0.1 x.0.1 x.1

abbrev JobPartsFit : Bool → JobParts → Type 0
JobPartsFit second x = ((IsU32 x.0.0.0 × NamedFits x.0.0.1) × TaskFits x.0.1) × AreListed (DepFits second) x.1

job_fits : (second : Bool) (x : JobParts) → JobPartsFit second x → JobFits second (job_made x)
job_fits second x f =
    let named = f.0.0.1 in
    let task = f.0.1 in
    let both = apart second IsFitDep DepInRange is_deadline x.1 f.1 in (
      (
        record {
          name_ = named.0.1.0;
          work_ = task.0.0.0.0;
          logon_ = task.0.0.1.0;
          cond_ = task.0.1.0;
          deps_ = both.0.0;
        },
        record {
          no_ = f.0.0.0;
          ws_ = named.0.0;
          name_ = named.0.1.1;
          priority_ = named.1;
          work_ = task.0.0.0.1;
          logon_ = task.0.0.1.1;
          cond_ = All-from_recursion OpInRange x.0.1.cond task.0.1.1;
          deps_ = both.0.1;
        },
      ),
      both.1,
    )

job_parts_fit : (second : Bool) (d : JobDoc) → JobFits second d → JobPartsFit second (job_parts d)
job_parts_fit second d f = (
  (
    (f.0.1.no_, ((f.0.1.ws_, (f.0.0.name_, f.0.1.name_)), f.0.1.priority_)),
    (
      (
        ((f.0.0.work_, f.0.1.work_), (f.0.0.logon_, f.0.1.logon_)),
        (f.0.0.cond_, recursion_from_All OpInRange d.cond f.0.1.cond_),
      ),
      tt,
    ),
  ),
  together second IsFitDep DepInRange is_deadline d.deps f.0.0.deps_ f.0.1.deps_ f.1,
)

job_spelled : (x : JobParts) → job_doc_bytes (job_made x)
    ≡ u32_bytes x.0.0.0 ++ named_bytes x.0.0.1 ++ task_bytes x.0.1 ++ list_bytes dep_bytes x.1
unfolding job_doc_bytes
job_spelled x =
    in_a_job (u32_bytes x.0.0.0) (u16_bytes x.0.0.1.0.0) (text_bytes x.0.0.1.0.1) (u8_bytes x.0.0.1.1)
    (work_bytes x.0.1.work) (text_bytes x.0.1.logon) (cond_bytes x.0.1.cond) (u8_bytes (recovery_code x.0.1.recovery))
    (list_bytes dep_bytes x.1)

pub job_reader : (second : Bool) → IsReader (JobFits second) job_doc_bytes (job_at second)
unfolding job_at
job_reader second =
    made_reader
    (pair_reader (pair_reader (pair_reader u32_reader named_reader) task_reader) (list_reader (dep_reader second)))
    (JobFits second) job_doc_bytes job_made job_parts (λ d. refl) (job_fits second) (job_parts_fit second) job_spelled

-- streams
abbrev pub StreamFits : Bool → StreamDoc → Type 0
StreamFits second d = (IsFitStream d × StreamInRange d) × Allows second (doc_has_deadline d)

abbrev StreamParts : Type 0
StreamParts = ((ℕ × Front) × List Dep) × List JobDoc

abbrev stream_parts : StreamDoc → StreamParts
stream_parts d = (((d.no, ((((d.ws, d.name), d.priority), d.limit), d.carry)), d.deps), d.jobs)

abbrev stream_made : StreamParts → StreamDoc
stream_made x = stream_of x.0.0.0 x.0.0.1 x.0.1 x.1

abbrev StreamPartsFit : Bool → StreamParts → Type 0
StreamPartsFit second x =
    ((IsU32 x.0.0.0 × FrontFits x.0.0.1) × AreListed (DepFits second) x.0.1) × AreListed (JobFits second) x.1

stream_fits : (second : Bool) (x : StreamParts) → StreamPartsFit second x → StreamFits second (stream_made x)
stream_fits second x f =
    let front = f.0.0.1 in
    let named = front.0.0 in
    let both = apart second IsFitDep DepInRange is_deadline x.0.1 f.0.1 in
    let all_jobs = apart second IsFitJob JobInRange job_has_one x.1 f.1 in (
      (
        record { name_ = named.0.1.0; deps_ = both.0.0; jobs_ = all_jobs.0.0 },
        record {
          no_ = f.0.0.0;
          ws_ = named.0.0;
          name_ = named.0.1.1;
          priority_ = named.1;
          limit_ = front.0.1;
          deps_ = both.0.1;
          jobs_ = all_jobs.0.1;
        },
      ),
      allows_either second _ _ both.1 all_jobs.1,
    )

stream_parts_fit : (second : Bool) (d : StreamDoc) → StreamFits second d → StreamPartsFit second (stream_parts d)
stream_parts_fit second d f =
    let allowed = allows_both second (list_any is_deadline d.deps) (list_any job_has_one d.jobs) f.1 in (
      (
        (
          f.0.1.no_,
          ((((f.0.1.ws_, (f.0.0.name_, f.0.1.name_)), f.0.1.priority_), f.0.1.limit_), tt),
        ),
        together second IsFitDep DepInRange is_deadline d.deps f.0.0.deps_ f.0.1.deps_ allowed.0,
      ),
      together second IsFitJob JobInRange job_has_one d.jobs f.0.0.jobs_ f.0.1.jobs_ allowed.1,
    )

stream_spelled : (x : StreamParts) → stream_doc_bytes (stream_made x)
    ≡ u32_bytes x.0.0.0 ++ front_bytes x.0.0.1 ++ list_bytes dep_bytes x.0.1 ++ list_bytes job_doc_bytes x.1
unfolding stream_doc_bytes
stream_spelled x =
    in_a_stream (u32_bytes x.0.0.0) (u16_bytes x.0.0.1.0.0.0.0) (text_bytes x.0.0.1.0.0.0.1)
    (u8_bytes x.0.0.1.0.0.1) (option_bytes u16_bytes x.0.0.1.0.1) (flag_bytes x.0.0.1.1) (list_bytes dep_bytes x.0.1)
    (list_bytes job_doc_bytes x.1)

pub stream_reader : (second : Bool) → IsReader (StreamFits second) stream_doc_bytes (stream_at second)
unfolding stream_at
stream_reader second =
    made_reader
    (pair_reader (pair_reader (pair_reader u32_reader front_reader) (list_reader (dep_reader second)))
    (list_reader (job_reader second)))
    (StreamFits second) stream_doc_bytes stream_made stream_parts (λ d. refl) (stream_fits second)
    (stream_parts_fit second) stream_spelled

-- drafts of jobs
abbrev pub JobDraftFits : Bool → JobDraft → Type 0
JobDraftFits second d = (IsFitJobDraft d × JobDraftInRange d) × Allows second (job_draft_has_one d)

abbrev JobDraftParts : Type 0
JobDraftParts = (Named × Task) × List DraftDep

abbrev job_draft_parts : JobDraft → JobDraftParts
job_draft_parts d = (
  (
    ((d.ws, d.name), d.priority),
    record { work = d.work; logon = d.logon; cond = d.cond; recovery = d.recovery },
  ),
  d.deps,
)

abbrev job_draft_made : JobDraftParts → JobDraft
job_draft_made x = job_draft_of x.0.0 x.0.1 x.1

abbrev JobDraftPartsFit : Bool → JobDraftParts → Type 0
JobDraftPartsFit second x = (NamedFits x.0.0 × TaskFits x.0.1) × AreListed (DraftDepFits second) x.1

job_draft_fits : (second : Bool) (x : JobDraftParts) → JobDraftPartsFit second x
    → JobDraftFits second (job_draft_made x)
job_draft_fits second x f =
    let named = f.0.0 in
    let task = f.0.1 in
    let both = apart second IsFitDraftDep DraftDepInRange is_draft_deadline x.1 f.1 in (
      (
        record {
          name_ = named.0.1.0;
          work_ = task.0.0.0.0;
          logon_ = task.0.0.1.0;
          cond_ = task.0.1.0;
          deps_ = both.0.0;
        },
        record {
          ws_ = named.0.0;
          name_ = named.0.1.1;
          priority_ = named.1;
          work_ = task.0.0.0.1;
          logon_ = task.0.0.1.1;
          cond_ = All-from_recursion OpInRange x.0.1.cond task.0.1.1;
          deps_ = both.0.1;
        },
      ),
      both.1,
    )

job_draft_parts_fit : (second : Bool) (d : JobDraft) → JobDraftFits second d
    → JobDraftPartsFit second (job_draft_parts d)
job_draft_parts_fit second d f = (
  (
    ((f.0.1.ws_, (f.0.0.name_, f.0.1.name_)), f.0.1.priority_),
    (
      (
        ((f.0.0.work_, f.0.1.work_), (f.0.0.logon_, f.0.1.logon_)),
        (f.0.0.cond_, recursion_from_All OpInRange d.cond f.0.1.cond_),
      ),
      tt,
    ),
  ),
  together second IsFitDraftDep DraftDepInRange is_draft_deadline d.deps f.0.0.deps_ f.0.1.deps_ f.1,
)

job_draft_spelled : (x : JobDraftParts) → job_draft_bytes (job_draft_made x)
    ≡ named_bytes x.0.0 ++ task_bytes x.0.1 ++ list_bytes draft_dep_bytes x.1
unfolding job_draft_bytes
job_draft_spelled x =
    in_a_job_draft (u16_bytes x.0.0.0.0) (text_bytes x.0.0.0.1) (u8_bytes x.0.0.1) (work_bytes x.0.1.work)
    (text_bytes x.0.1.logon) (cond_bytes x.0.1.cond) (u8_bytes (recovery_code x.0.1.recovery))
    (list_bytes draft_dep_bytes x.1)

pub job_draft_reader : (second : Bool) → IsReader (JobDraftFits second) job_draft_bytes (job_draft_at second)
unfolding job_draft_at
job_draft_reader second =
    made_reader (pair_reader (pair_reader named_reader task_reader) (list_reader (draft_dep_reader second)))
    (JobDraftFits second) job_draft_bytes job_draft_made job_draft_parts (λ d. refl) (job_draft_fits second)
    (job_draft_parts_fit second) job_draft_spelled

-- drafts of streams
abbrev pub DraftFits : Bool → StreamDraft → Type 0
DraftFits second d = (IsFitDraft d × DraftInRange d) × Allows second (draft_has_deadline d)

abbrev DraftParts : Type 0
DraftParts = (Front × List DraftDep) × List JobDraft

abbrev draft_parts : StreamDraft → DraftParts
draft_parts d = ((((((d.ws, d.name), d.priority), d.limit), d.carry), d.deps), d.jobs)

abbrev draft_made : DraftParts → StreamDraft
draft_made x = stream_draft_of x.0.0 x.0.1 x.1

abbrev DraftPartsFit : Bool → DraftParts → Type 0
DraftPartsFit second x =
    (FrontFits x.0.0 × AreListed (DraftDepFits second) x.0.1) × AreListed (JobDraftFits second) x.1

draft_fits : (second : Bool) (x : DraftParts) → DraftPartsFit second x → DraftFits second (draft_made x)
draft_fits second x f =
    let front = f.0.0 in
    let named = front.0.0 in
    let both = apart second IsFitDraftDep DraftDepInRange is_draft_deadline x.0.1 f.0.1 in
    let all_jobs = apart second IsFitJobDraft JobDraftInRange job_draft_has_one x.1 f.1 in (
      (
        record { name_ = named.0.1.0; deps_ = both.0.0; jobs_ = all_jobs.0.0 },
        record {
          ws_ = named.0.0;
          name_ = named.0.1.1;
          priority_ = named.1;
          limit_ = front.0.1;
          deps_ = both.0.1;
          jobs_ = all_jobs.0.1;
        },
      ),
      allows_either second _ _ both.1 all_jobs.1,
    )

draft_parts_fit : (second : Bool) (d : StreamDraft) → DraftFits second d → DraftPartsFit second (draft_parts d)
draft_parts_fit second d f =
    let allowed = allows_both second (list_any is_draft_deadline d.deps) (list_any job_draft_has_one d.jobs) f.1 in (
      (
        ((((f.0.1.ws_, (f.0.0.name_, f.0.1.name_)), f.0.1.priority_), f.0.1.limit_), tt),
        together second IsFitDraftDep DraftDepInRange is_draft_deadline d.deps f.0.0.deps_ f.0.1.deps_ allowed.0,
      ),
      together second IsFitJobDraft JobDraftInRange job_draft_has_one d.jobs f.0.0.jobs_ f.0.1.jobs_ allowed.1,
    )

draft_spelled : (x : DraftParts) → stream_draft_bytes (draft_made x)
    ≡ front_bytes x.0.0 ++ list_bytes draft_dep_bytes x.0.1 ++ list_bytes job_draft_bytes x.1
unfolding stream_draft_bytes
draft_spelled x = refl

pub draft_reader : (second : Bool) → IsReader (DraftFits second) stream_draft_bytes (stream_draft_at second)
unfolding stream_draft_at
draft_reader second =
    made_reader
    (pair_reader (pair_reader front_reader (list_reader (draft_dep_reader second)))
    (list_reader (job_draft_reader second)))
    (DraftFits second) stream_draft_bytes draft_made draft_parts (λ d. refl) (draft_fits second)
    (draft_parts_fit second) draft_spelled
