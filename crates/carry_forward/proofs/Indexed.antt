-- An index of names, one job or stream further.
use Rattle.std.proofs.Common.{[], ℕ, ◌&&◌, ◌+◌, ◌++◌, ◌<◌, ◌∙◌, ◌∷◌, ◌≡◌, Bool, Bor, List, None, Option, Some}
use Rattle.std.proofs.Common.{ap, arith, bytes_eq, cond, drop, eqb, false, filter_map, find, get_or, length}
use Rattle.std.proofs.Common.{map, option_and_then, option_map, refl, subst, sym, take, true}
use Rattle.std.proofs.lemmas.List.{drop_more, map-append, reverse-append}
use Rattle.std.specs.List.{enumerate_from}
use Rattle.std.specs.Prelude.{reverse}
use Rattle.std.specs.Map.{lookup}
use Rattle.std.specs.Option.{option_copied, option_or}
use Rattle.lemmas.proofs.Numbers.{eqb_turned}
use Rattle.indexmap.specs.IndexMap.{insert_entry}
use Rattle.lemmas.proofs.Inserted.{are_one_key, key_inserted, key_of, name_inserted}
use Rattle.model.specs.Types.{JobDoc, JobDraft, StreamDoc}
use Rattle.model.specs.Equalities.{text_eq}
use Rattle.model.specs.History.{View}
use Rattle.model.specs.Catalogue.{stream}
use Rattle.model.specs.NewPlan.{Fresh, Named, NamedJob, is_named, named_doc, named_fresh, resolve_job, resolve_stream}
use Rattle.carry_forward.specs.Known.{AreJobsOf, IsIndexOf, IsTarget, Told, job_at, named_job}
use Rattle.carry_forward.specs.Known.{named_jobs, numbered_jobs, told_at, told_named, told_target}
use Rattle.carry_forward.specs.declared.names.Target.{Target}
use Rattle.carry_forward.proofs.Counts.{made_none, made_some}

-- both say whether two texts are one
text_bytes : (a b : List ℕ) → text_eq a b ≡ bytes_eq b a
text_bytes [] [] = refl
text_bytes [] (y ∷ ys) = refl
text_bytes (x ∷ xs) [] = refl
text_bytes (x ∷ xs) (y ∷ ys) = λ j. eqb_turned x y j && text_bytes xs ys j

-- one more job, which comes before the others
pub jobs_more : (es new : List (Bor (List ℕ) × ℕ)) (k : Bor (List ℕ)) (number : ℕ)
    → new ≡ insert_entry (λ (p q : Bor (List ℕ)). bytes_eq p.now q.now) es k number
    → (jobs : List NamedJob) → AreJobsOf es jobs → AreJobsOf new (named_job k.now number ∷ jobs)
jobs_more es new k number grown jobs h name =
    ap (λ (l : List (Bor (List ℕ) × ℕ)). job_at l name) grown
    ∙ (name_inserted es k number name
    ∙ (ap (λ (b : Bool). cond b (Some number) (job_at es name)) (sym (text_bytes k.now name))
    ∙ go (text_eq k.now name) (h name)))
  where
    go : (b : Bool)
        → job_at es name ≡ option_map (λ (j : NamedJob). j.number) (find (λ (j : NamedJob). text_eq j.name name) jobs)
        → cond b (Some number) (job_at es name)
        ≡ option_map (λ (j : NamedJob). j.number)
        (cond b (Some (named_job k.now number)) (find (λ (j : NamedJob). text_eq j.name name) jobs))
    go true e = refl
    go false e = e

-- the jobs from a place on are that at the place and those from the next on
pub jobs_at : (es new : List (Bor (List ℕ) × ℕ)) (docs : List JobDoc) (i n : ℕ) (job : JobDoc) (j : NamedJob)
    → i + 1 ≡ n → i < length docs → job ≡ get_or docs i job → j ≡ named_job job.name job.no
    → ((jobs : List NamedJob) → AreJobsOf es jobs → AreJobsOf new (j ∷ jobs))
    → AreJobsOf es (named_jobs (drop n docs)) → AreJobsOf new (named_jobs (drop i docs))
jobs_at es new docs i n job j next low at is more h =
    subst (AreJobsOf new)
    ((λ p. is p ∷ named_jobs (drop n docs))
    ∙ ap named_jobs (sym (drop_more docs i job low ∙ (λ p. sym at p ∷ drop (next p) docs))))
    (more (named_jobs (drop n docs)) h)

-- and so of drafts with their numbers
pub drafts_at : (es new : List (Bor (List ℕ) × ℕ)) (drafts : List JobDraft) (first i n : ℕ) (job : JobDraft)
    (j : NamedJob) → i + 1 ≡ n → i < length drafts → job ≡ get_or drafts i job → j ≡ named_job job.name (first + i)
    → ((jobs : List NamedJob) → AreJobsOf es jobs → AreJobsOf new (j ∷ jobs))
    → AreJobsOf es (numbered_jobs (enumerate_from (first + n) (drop n drafts)))
    → AreJobsOf new (numbered_jobs (enumerate_from (first + i) (drop i drafts)))
drafts_at es new drafts first i n job j next low at is more h =
    let on : first + n ≡ first + i + 1 = omega (arith, next) in
    let rest : List NamedJob = numbered_jobs (enumerate_from (first + i + 1) (drop n drafts)) in
    subst (AreJobsOf new)
    ((λ p. is p ∷ rest)
    ∙ ap (λ (l : List JobDraft). numbered_jobs (enumerate_from (first + i) l))
    (sym (drop_more drafts i job low ∙ (λ p. sym at p ∷ drop (next p) drafts))))
    (more rest (subst (λ (m : ℕ). AreJobsOf es (numbered_jobs (enumerate_from m (drop n drafts)))) on h))

-- the index after one more stream at its key
module _ (es new : List ((ℕ × Bor (List ℕ)) × Target)) (k : ℕ × Bor (List ℕ)) (t : Target)
    (grown : new ≡ insert_entry (λ (p q : ℕ × Bor (List ℕ)). are_one_key (key_of p) (key_of q)) es k t) where
  put : (s : Named) → k.0 ≡ s.ws → k.1.now ≡ s.name → (w : ℕ) (name : List ℕ)
      → told_at new w name
      ≡ option_map told_target
      (cond (is_named w name s) (Some t) (lookup (λ (l : ℕ × Bor (List ℕ)). are_one_key (w, name) (key_of l)) es))
  put s ws named w name =
      ap (λ (l : List ((ℕ × Bor (List ℕ)) × Target)). told_at l w name) grown
      ∙ (ap (option_map told_target) (key_inserted es k t (w, name))
      ∙ ap (λ (b : Bool). option_map told_target
      (cond b (Some t) (lookup (λ (l : ℕ × Bor (List ℕ)). are_one_key (w, name) (key_of l)) es)))
      (λ j. (eqb_turned w k.0 ∙ ap (λ (v : ℕ). eqb v w) ws) j
      && (sym (text_bytes k.1.now name) ∙ ap (λ (n : List ℕ). text_eq n name) named) j))

  -- a fresh stream, which comes before the others
  pub fresh_more : (fresh earlier : List Named) (s : Named) → IsTarget t s → k.0 ≡ s.ws → k.1.now ≡ s.name
      → IsIndexOf es fresh earlier → IsIndexOf new (s ∷ fresh) earlier
  fresh_more fresh earlier s told ws named h w name = put s ws named w name ∙ go (is_named w name s) (h w name)
    where
      go : (b : Bool) → told_at es w name ≡ option_map told_named (resolve_stream fresh earlier w name)
          → option_map told_target
          (cond b (Some t) (lookup (λ (l : ℕ × Bor (List ℕ)). are_one_key (w, name) (key_of l)) es))
          ≡ option_map told_named
          (option_or (cond b (Some s) (find (is_named w name) fresh)) (find (is_named w name) (reverse earlier)))
      go true e = ap Some told
      go false e = e

  -- an earlier stream, which comes before those that are earlier still
  pub earlier_more : (earlier : List Named) (s : Named) → IsTarget t s → k.0 ≡ s.ws → k.1.now ≡ s.name
      → IsIndexOf es [] earlier → IsIndexOf new [] (earlier ++ s ∷ [])
  earlier_more earlier s told ws named h w name =
      put s ws named w name
      ∙ (go (is_named w name s) (h w name)
      ∙ ap (λ (l : List Named). option_map told_named (find (is_named w name) l))
      (sym (reverse-append earlier (s ∷ []))))
    where
      go : (b : Bool) → told_at es w name ≡ option_map told_named (resolve_stream [] earlier w name)
          → option_map told_target
          (cond b (Some t) (lookup (λ (l : ℕ × Bor (List ℕ)). are_one_key (w, name) (key_of l)) es))
          ≡ option_map told_named (cond b (Some s) (find (is_named w name) (reverse earlier)))
      go true e = ap Some told
      go false e = e

-- the earlier streams up to a place are those before it and that at the place
pub earlier_at : (es new : List ((ℕ × Bor (List ℕ)) × Target)) (V : View) (ss : List ℕ) (i s : ℕ)
    (o : Option StreamDoc) (d : StreamDoc) → i < length ss → s ≡ get_or ss i s → o ≡ stream V s → o ≡ Some d
    → ((earlier : List Named) → IsIndexOf es [] earlier → IsIndexOf new [] (earlier ++ named_doc d ∷ []))
    → IsIndexOf es [] (map named_doc (filter_map (stream V) (take i ss)))
    → IsIndexOf new [] (map named_doc (filter_map (stream V) (take (i + 1) ss)))
earlier_at es new V ss i s o d low at found is more h =
    subst (λ (l : List Named). IsIndexOf new [] l)
    (sym (map-append named_doc (filter_map (stream V) (take i ss)) (d ∷ []))
    ∙ ap (map named_doc) (made_some (stream V) ss i s o d low at found is))
    (more (map named_doc (filter_map (stream V) (take i ss))) h)

-- and only those before it where the catalogue lacks that at the place
pub earlier_past : (es : List ((ℕ × Bor (List ℕ)) × Target)) (V : View) (ss : List ℕ) (i s : ℕ)
    (o : Option StreamDoc) → i < length ss → s ≡ get_or ss i s → o ≡ stream V s → o ≡ None
    → IsIndexOf es [] (map named_doc (filter_map (stream V) (take i ss)))
    → IsIndexOf es [] (map named_doc (filter_map (stream V) (take (i + 1) ss)))
earlier_past es V ss i s o low at found is h =
    subst (λ (l : List StreamDoc). IsIndexOf es [] (map named_doc l))
    (made_none (stream V) ss i s o low at found is) h

-- the fresh streams from a place on are that at the place and those from the next on
pub fresh_at : (es new : List ((ℕ × Bor (List ℕ)) × Target)) (xs : List Fresh) (i n : ℕ) (x : Fresh)
    → i + 1 ≡ n → i < length xs → x ≡ get_or xs i x
    → ((fresh earlier : List Named) → IsIndexOf es fresh earlier → IsIndexOf new (named_fresh x ∷ fresh) earlier)
    → (earlier : List Named) → IsIndexOf es (map named_fresh (drop n xs)) earlier
    → IsIndexOf new (map named_fresh (drop i xs)) earlier
fresh_at es new xs i n x next low at more earlier h =
    subst (λ (l : List Named). IsIndexOf new l earlier)
    (ap (map named_fresh) (sym (drop_more xs i x low ∙ (λ p. sym at p ∷ drop (next p) xs))))
    (more (map named_fresh (drop n xs)) earlier h)

-- what a target tells of a job
pub told_job : (r : Option (Bor Target)) (o : Option Named) (name : List ℕ)
    → option_map (λ (t : Bor Target). told_target t.now) r ≡ option_map told_named o
    → option_and_then (λ (t : Bor Target). job_at t.now.jobs.entries name) r ≡ option_and_then (resolve_job name) o
told_job None None name h = refl
told_job None (Some s) name h = cc
told_job (Some t) None name h = cc
told_job (Some t) (Some s) name h = ap (option_and_then (λ (p : Told). p.1 name)) h

-- what a look-up tells
pub told_read : (r : Option (Bor Target)) (o : Option Target) → option_copied r ≡ o
    → option_map (λ (t : Bor Target). told_target t.now) r ≡ option_map told_target o
told_read None o h = ap (option_map told_target) h
told_read (Some t) o h = ap (option_map told_target) h

pub told_job_so : (r : Option (Bor Target)) (o : Option Named) (t : Bor Target) (name : List ℕ) (j : Option ℕ)
    → j ≡ job_at t.now.jobs.entries name → r ≡ Some t
    → option_map (λ (t : Bor Target). told_target t.now) r ≡ option_map told_named o
    → j ≡ option_and_then (resolve_job name) o
told_job_so r o t name j found is h =
    found
    ∙ (sym (ap (option_and_then (λ (t : Bor Target). job_at t.now.jobs.entries name)) is) ∙ told_job r o name h)
