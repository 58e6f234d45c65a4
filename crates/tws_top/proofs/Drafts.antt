-- A day has one list of drafts.
use Rattle.std.proofs.Common.{◌≡◌, ◌∙◌, ℕ, List, [], ◌∷◌, Option, Some, None, slice_get, inl, inr, sym, ap, refl}
use Rattle.model.specs.Types.{JobDraft, StreamDraft, CondOp}
use Rattle.rc_conditions.proofs.Readings.{one_reading}
use Rattle.composer_parser.specs.declared.Lined.{Lined}
use Rattle.composer_parser.specs.declared.Defs.{Defs}
use Rattle.composer_parser.specs.declared.WorkDef.{WorkDef}
use Rattle.composer_parser.specs.declared.EntryDef.{EntryDef}
use Rattle.composer_parser.specs.declared.ScheduleDef.{ScheduleDef}
use Rattle.plan_builder.specs.Drafts.{IsJobDraft, IsStreamDraft, AreJobDrafts, IsDraftAt, AreDraftsOf, AreDrafts, run_in}
use Rattle.plan_builder.specs.Limits.{running}
use Rattle.plan_builder.specs.Times.{plan_day}
use Rattle.plan_builder.specs.Works.{IsCondOf, IsRunOf, work_of}
use Rattle.plan_builder.specs.declared.times.PlanDay.{PlanDay}
use Rattle.plan_builder.specs.declared.works.Run.{Run}

one_cond : (text : Option (List ℕ)) (a b : List CondOp) → IsCondOf text a → IsCondOf text b → a ≡ b
one_cond None a b is also = is ∙ sym also
one_cond (Some text) a b (inl is) (inl also) = one_reading text a b is.0 also.0
one_cond (Some text) a b (inl is) (inr none) = absurd (none.0 a is)
one_cond (Some text) a b (inr none) (inl is) = absurd (none.0 b is)
one_cond (Some text) a b (inr none) (inr also) = none.1 ∙ sym also.1

-- runs, jobs and streams are one by their parts
same_run : (a b : Run) → a.work ≡ b.work → a.logon ≡ b.logon → a.cond ≡ b.cond → a.recovery ≡ b.recovery → a ≡ b
same_run a b work logon cond recovery =
    ap (λ x. record a { work = x }) work
    ∙ ap (λ x. record a { work = b.work; logon = x }) logon
    ∙ ap (λ x. record a { work = b.work; logon = b.logon; cond = x }) cond
    ∙ ap (λ x. record b { recovery = x }) recovery

one_run : (w : Option WorkDef) (a b : Run) → IsRunOf w a → IsRunOf w b → a ≡ b
one_run None a b is also = is ∙ sym also
one_run (Some w) a b is also =
    same_run a b (is.work_ ∙ sym also.work_) (is.logon_ ∙ sym also.logon_)
    (one_cond w.cond a.cond b.cond is.cond_ also.cond_) (is.recovery_ ∙ sym also.recovery_)

same_job : (a b : JobDraft) → a.ws ≡ b.ws → a.name ≡ b.name → a.priority ≡ b.priority → run_in a ≡ run_in b
    → a.deps ≡ b.deps → a ≡ b
same_job a b ws name priority run deps =
    ap (λ x. record a { ws = x }) ws
    ∙ ap (λ x. record a { ws = b.ws; name = x }) name
    ∙ ap (λ x. record a { ws = b.ws; name = b.name; priority = x }) priority
    ∙ ap
    (λ (r : Run). record a {
      ws = b.ws;
      name = b.name;
      priority = b.priority;
      work = r.work;
      logon = r.logon;
      cond = r.cond;
      recovery = r.recovery;
    })
    run
    ∙ ap (λ x. record b { deps = x }) deps

module _ (d : Defs) (plan : PlanDay) (n : ℕ) where
  one_job : (s : ScheduleDef) (e : EntryDef) (a b : JobDraft) → IsJobDraft d plan n s e a → IsJobDraft d plan n s e b
      → a ≡ b
  one_job s e a b is also =
      same_job a b (is.ws_ ∙ sym also.ws_) (is.name_ ∙ sym also.name_) (is.priority_ ∙ sym also.priority_)
      (one_run (work_of d s e) (run_in a) (run_in b) is.run_ also.run_) (is.deps_ ∙ sym also.deps_)

  one_jobs : (s : ScheduleDef) (es : List (Lined EntryDef)) (xs ys : List JobDraft) → AreJobDrafts d plan n s es xs
      → AreJobDrafts d plan n s es ys → xs ≡ ys
  one_jobs s [] [] [] are also = refl
  one_jobs s [] [] (b ∷ ys) are also = absurd also
  one_jobs s [] (a ∷ xs) ys are also = absurd are
  one_jobs s (e ∷ es) [] ys are also = absurd are
  one_jobs s (e ∷ es) (a ∷ xs) [] are also = absurd also
  one_jobs s (e ∷ es) (a ∷ xs) (b ∷ ys) are also =
      ap (λ x. x ∷ xs) (one_job s e.item a b are.0 also.0) ∙ ap (λ zs. b ∷ zs) (one_jobs s es xs ys are.1 also.1)

  one_stream : (s : ScheduleDef) (a b : StreamDraft) → IsStreamDraft d plan n s a → IsStreamDraft d plan n s b → a ≡ b
  one_stream s a b is also =
      ap (λ x. record a { ws = x }) (is.ws_ ∙ sym also.ws_)
      ∙ ap (λ x. record a { ws = b.ws; name = x }) (is.name_ ∙ sym also.name_)
      ∙ ap (λ x. record a { ws = b.ws; name = b.name; priority = x }) (is.priority_ ∙ sym also.priority_)
      ∙ ap (λ x. record b { limit = x; carry = a.carry; deps = a.deps; jobs = a.jobs }) (is.limit_ ∙ sym also.limit_)
      ∙ ap (λ x. record b { carry = x; deps = a.deps; jobs = a.jobs }) (is.carry_ ∙ sym also.carry_)
      ∙ ap (λ x. record b { deps = x; jobs = a.jobs }) (is.deps_ ∙ sym also.deps_)
      ∙ ap (λ x. record b { jobs = x }) (one_jobs s s.entries a.jobs b.jobs is.jobs_ also.jobs_)

  one_at : (s : Option (Lined ScheduleDef)) (a b : StreamDraft) → IsDraftAt d plan n s a → IsDraftAt d plan n s b → a ≡ b
  one_at None a b is also = absurd is
  one_at (Some s) a b is also = one_stream s.item a b is also

one_list : (d : Defs) (plan : PlanDay) (ns : List ℕ) (xs ys : List StreamDraft) → AreDraftsOf d plan ns xs
    → AreDraftsOf d plan ns ys → xs ≡ ys
one_list d plan [] [] [] are also = refl
one_list d plan [] [] (b ∷ ys) are also = absurd also
one_list d plan [] (a ∷ xs) ys are also = absurd are
one_list d plan (n ∷ ns) [] ys are also = absurd are
one_list d plan (n ∷ ns) (a ∷ xs) [] are also = absurd also
one_list d plan (n ∷ ns) (a ∷ xs) (b ∷ ys) are also =
    ap (λ x. x ∷ xs) (one_at d plan n (slice_get d.schedules n) a b are.0 also.0)
    ∙ ap (λ zs. b ∷ zs) (one_list d plan ns xs ys are.1 also.1)

pub one_drafts : (d : Defs) (day : ℕ) (xs ys : List StreamDraft) → AreDrafts d day xs → AreDrafts d day ys → xs ≡ ys
one_drafts d day xs ys are also = one_list d (plan_day d day) (running d day) xs ys are also
