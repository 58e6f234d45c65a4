-- Drafts, one draft further.
use Rattle.std.proofs.Common.{◌≡◌, ℕ, ◌+◌, ◌-◌, ◌<◌, ◌≤◌, List, [], ◌∷◌, ◌++◌, Some, All, filter, get_or, length, take}
use Rattle.std.proofs.Common.{ap, subst, sym, ◌∙◌}
use Rattle.std.proofs.Common.{arith, slice_get}
use Rattle.std.proofs.lemmas.List.{take_more}
use Rattle.std.proofs.lemmas.List.Elements.{All-filter}
use Rattle.std.proofs.lemmas.List.FromFn.{get_or-range_with_len, length-range_with_len}
use Rattle.std.specs.List.{range_with_len}
use Rattle.model.specs.Types.{JobDraft, StreamDraft}
use Rattle.composer_parser.specs.declared.Defs.{Defs}
use Rattle.composer_parser.specs.declared.EntryDef.{EntryDef}
use Rattle.composer_parser.specs.declared.Lined.{Lined}
use Rattle.composer_parser.specs.declared.ScheduleDef.{ScheduleDef}
use Rattle.run_cycles.specs.Runs.{runs}
use Rattle.run_cycles.proofs.Ranges.{no_more}
use Rattle.plan_builder.specs.Limits.{running}
use Rattle.plan_builder.specs.Drafts.{AreDraftsOf, AreJobDrafts, IsDraftAt, IsJobDraft, IsStreamDraft}
use Rattle.plan_builder.specs.declared.times.PlanDay.{PlanDay}

module _ (d : Defs) (plan : PlanDay) where
  one_job : (n : ℕ) (s : ScheduleDef) (es : List (Lined EntryDef)) (js : List JobDraft) (e : Lined EntryDef) (j : JobDraft)
      → AreJobDrafts d plan n s es js → IsJobDraft d plan n s e.item j → AreJobDrafts d plan n s (es ++ e ∷ []) (js ++ j ∷ [])
  one_job n s [] [] e j h own = (own, tt)
  one_job n s [] (x ∷ xs) e j h own = absurd h
  one_job n s (y ∷ ys) [] e j h own = absurd h
  one_job n s (y ∷ ys) (x ∷ xs) e j h own = (h.0, one_job n s ys xs e j h.1 own)

  pub job_more : (n : ℕ) (s : ScheduleDef) (es : List (Lined EntryDef)) (i : ℕ) (e : Lined EntryDef) (js new : List JobDraft) (j : JobDraft)
      → i < length es → e ≡ get_or es i e → new ≡ js ++ j ∷ []
      → AreJobDrafts d plan n s (take i es) js → IsJobDraft d plan n s e.item j
      → AreJobDrafts d plan n s (take (i + 1) es) new
  job_more n s es i e js new j low at is h own =
      subst (AreJobDrafts d plan n s (take (i + 1) es)) (sym is)
      (subst (λ (l : List (Lined EntryDef)). AreJobDrafts d plan n s l (js ++ j ∷ []))
      (sym (take_more es i e low ∙ ap (λ y. take i es ++ y ∷ []) (sym at)))
      (one_job n s (take i es) js e j h own))

  one_stream : (ns : List ℕ) (xs : List StreamDraft) (n : ℕ) (x : StreamDraft) → AreDraftsOf d plan ns xs
      → IsDraftAt d plan n (slice_get d.schedules n) x → AreDraftsOf d plan (ns ++ n ∷ []) (xs ++ x ∷ [])
  one_stream [] [] n x h own = (own, tt)
  one_stream [] (y ∷ ys) n x h own = absurd h
  one_stream (m ∷ ms) [] n x h own = absurd h
  one_stream (m ∷ ms) (y ∷ ys) n x h own = (h.0, one_stream ms ys n x h.1 own)

  pub stream_more : (ns : List ℕ) (i n : ℕ) (xs new : List StreamDraft) (s : Lined ScheduleDef) (x : StreamDraft)
      → i < length ns → n ≡ get_or ns i n → new ≡ xs ++ x ∷ [] → slice_get d.schedules n ≡ Some s
      → AreDraftsOf d plan (take i ns) xs → IsStreamDraft d plan n s.item x
      → AreDraftsOf d plan (take (i + 1) ns) new
  stream_more ns i n xs new s x low at is there h own =
      subst (AreDraftsOf d plan (take (i + 1) ns)) (sym is)
      (subst (λ (l : List ℕ). AreDraftsOf d plan l (xs ++ x ∷ []))
      (sym (take_more ns i n low ∙ ap (λ y. take i ns ++ y ∷ []) (sym at)))
      (one_stream (take i ns) xs n x h (subst (λ o. IsDraftAt d plan n o x) (sym there) own)))

-- the streams that run have places among the streams
places_low : (n : ℕ) → All (λ (k : ℕ). k < n) (range_with_len 0 n)
places_low n = λ i e low.
    let inside : i < n = omega (arith, low, length-range_with_len 0 n) in
    let here : get_or (range_with_len 0 n) i e ≡ 0 + i = get_or-range_with_len 0 n i e inside in
    omega (arith, here, inside)

pub running_low : (d : Defs) (day : ℕ) (streams : List ℕ) → streams ≡ running d day
    → All (λ (n : ℕ). n < length d.schedules) streams
unfolding running
running_low d day streams is =
    subst (All (λ (n : ℕ). n < length d.schedules)) (sym is)
    (All-filter (λ (n : ℕ). runs d n day) (λ (n : ℕ). n < length d.schedules) (range_with_len 0 (length d.schedules))
    (places_low (length d.schedules)))

-- a walk over the places of the streams, at its end
pub all_running : (d : Defs) (day n count : ℕ) (streams : List ℕ) → count ≤ n
    → filter (λ k. runs d k day) (range_with_len 0 count)
    ≡ streams ++ filter (λ k. runs d k day) (range_with_len n (count - n))
    → count ≡ length d.schedules → streams ≡ running d day
unfolding running
all_running d day n count streams past h same =
    no_more (λ k. runs d k day) (filter (λ k. runs d k day) (range_with_len 0 count)) n count streams past h
    ∙ ap (λ (m : ℕ). filter (λ k. runs d k day) (range_with_len 0 m)) same
