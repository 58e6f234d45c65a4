-- Which streams may end, one stream and one entry further.
use Rattle.std.proofs.Common.{[], ℕ, ◌++◌, ◌<◌, ◌≤◌, ◌∙◌, ◌∷◌, ◌≡◌, ◌≢◌, ◌⊎◌, Bool, List, None, Option, Some, ap, arith, cond}
use Rattle.std.proofs.Common.{false, filter, find, inl, inr, map, refl, subst, sym, true}
use Rattle.std.proofs.lemmas.Bool.{eq-eqb, eqb-true}
use Rattle.std.proofs.lemmas.Bool.Decides.{eqb_tells, nat_tests}
use Rattle.std.proofs.lemmas.List.Folds.{list_any-append}
use Rattle.std.specs.List.{list_all, list_any}
use Rattle.std.specs.Option.{option_map_or}
use Rattle.std.specs.Prelude.{◌&&◌, ◌==◌, ◌||◌, IfSome, nat_lt, not}
use Rattle.lemmas.proofs.Booleans.{and_left, and_made, and_right, or_made_left, or_made_right}
use Rattle.model_laws.proofs.Decisions.{stream_number}
use Rattle.model.specs.Types.{Body, Entry, Events, Job, Stream, StreamDoc}
use Rattle.model.specs.Words.{insert_once, least, lesser}
use Rattle.model.specs.History.{View, list_of, view_of}
use Rattle.model.specs.Catalogue.{StreamJob, catalogue, is_member, job, jobs, jobs_of_stream, stream, streams_of}
use Rattle.model.specs.Facts.{is_cancelled, is_end_of, is_ended, is_good, is_released}
use Rattle.model.specs.OwnMembers.{lets_stream_end, may_end, may_end_in, own_numbers, own_streams}
use Rattle.owner_fold.specs.Holders.{is_under_way, streams_under_way}
use Rattle.dependencies.specs.Planned.{ArePlannedStreams, IsPlannedJob, IsPlannedStream}
use Rattle.dependencies.proofs.Found.{jobs_planned, stream_planned}
use Rattle.dependencies.proofs.Members.{endable, goes_on}
use Rattle.ready_index.specs.declared.changes.Change.{Change}
use Rattle.ready_index.specs.declared.changes.Change.TheVariants.{At as Comes, Everything}
use Rattle.ready_index.specs.declared.targets.Target.{Target}
use Rattle.ready_index.specs.declared.targets.Target.TheVariants.{EndOfJob, EndOfStream, ReleaseOf}
use Rattle.ready_index.specs.Changes.{change_by}
use Rattle.ready_index.specs.Ends.{IsTouched, KnowsEnds, KnowsEndsBut, KnowsEndsButOne}
use Rattle.ready_index.specs.Lists.{Among, InOrder, without}
use Rattle.ready_index.proofs.Bests.{held}
use Rattle.ready_index.proofs.Elements.{all_among, filter_has, filter_keeps, filter_none, found_among, found_true}
use Rattle.ready_index.proofs.Elements.{map_among, put_here, put_keeps, without_keeps}
use Rattle.ready_index.proofs.Further.{before, cancelled_stays, fact_before, fact_same, jobs_stay, member_stays}
use Rattle.ready_index.proofs.Further.{stream_stays, with_it}
use Rattle.ready_index.proofs.Lowests.{first_lowest, not_or_left, own_among}
use Rattle.ready_index.proofs.Quiet.{IsSmall, good_before, released_same}

-- a stream that may end, by its document
pub record EndsBy (V : View) (w s : ℕ) : Type 0 where
  pub doc : StreamDoc
  pub found : stream V s ≡ Some doc
  pub number : doc.no ≡ s
  pub ends : may_end_in V w doc ≡ true

pub ends_by : (V : View) (w s : ℕ) → may_end V w s ≡ true → EndsBy V w s
unfolding may_end
ends_by V w s h = go (stream V s) refl h
  where
    go : (o : Option StreamDoc) → stream V s ≡ o → option_map_or (may_end_in V w) o false ≡ true → EndsBy V w s
    go None e k = cc
    go (Some d) e k = record { doc = d; found = e; number = stream_number V s d e; ends = k }

-- it is an own member
own_found : (V : View) (w s : ℕ) → EndsBy V w s → Among s (own_numbers V w)
own_found V w s by =
    let conditions = (by.doc.ws == w)
    ∷ is_member V by.doc.no
    ∷ is_released by.doc.no (V (Events w))
    ∷ not (is_ended by.doc.no (V (Events w)))
    ∷ not (is_cancelled (Stream by.doc.no) (V (Events w)))
    ∷ list_all (lets_stream_end V) (jobs_of_stream V by.doc.no)
    ∷ [] in
    own_among V w s by.doc by.found
    (held conditions 0 (by.doc.ws == w) by.ends refl)
    (held conditions 1 (is_member V by.doc.no) by.ends refl)

-- and under way
under_way : (V : View) (w s : ℕ) (by : EndsBy V w s) → Among by.doc (streams_under_way V w)
unfolding stream
under_way V w s by =
    let planned : IsPlannedStream V by.doc = stream_planned V s by.doc by.found in
    filter_keeps (is_under_way w (V (Events w))) (catalogue V) by.doc (found_among (λ (d : StreamDoc). d.no == s) (catalogue V) by.doc by.found)
    (goes_on V w by.doc planned (endable V w by.doc planned ∙ by.ends))

-- each stream that may end is known, or is one of those that are left
pub record KnowsOthers (V : View) (w : ℕ) (left : List StreamDoc) (numbers : List ℕ) : Type 0 where
  pub planned : ArePlannedStreams V left
  pub knows : (s : ℕ) → may_end V w s ≡ true → Among s numbers ⊎ Among s (map (λ (d : StreamDoc). d.no) left)

pub before_walk : (V : View) (w : ℕ) (left : List StreamDoc) (numbers : List ℕ) → left ≡ streams_under_way V w
    → ArePlannedStreams V left → KnowsOthers V w left numbers
before_walk V w left numbers e planned =
    record {
      planned = planned;
      knows = λ s h.
          let by = ends_by V w s h in
          inr
          (subst (λ (n : ℕ). Among n (map (λ (d : StreamDoc). d.no) left)) by.number
          (map_among (λ (d : StreamDoc). d.no) left by.doc
          (subst (λ (l : List StreamDoc). Among by.doc l) (sym e) (under_way V w s by))));
    }

-- the next one may end, and is known then
pub end_known : (V : View) (w : ℕ) (d : StreamDoc) (left : List StreamDoc) (old new : List ℕ)
    → new ≡ insert_once d.no old → KnowsOthers V w (d ∷ left) old → KnowsOthers V w left new
end_known V w d left old new grown others =
    record {
      planned = others.planned.1;
      knows = λ s h.
          elim (others.knows s h) [
            | inl k ↦ inl (rw grown (put_keeps d.no s old k))
            | inr (inl e) ↦ inl (rw (grown, e) (put_here d.no old))
            | inr (inr k) ↦ inr k
          ];
    }

-- the next one may not end
pub no_end_known : (V : View) (w : ℕ) (d : StreamDoc) (left : List StreamDoc) (numbers : List ℕ)
    → may_end_in V w d ≡ false → KnowsOthers V w (d ∷ left) numbers → KnowsOthers V w left numbers
unfolding may_end
no_end_known V w d left numbers none others =
    record {
      planned = others.planned.1;
      knows = λ s h.
          elim (others.knows s h) [
            | inl k ↦ inl k
            | inr (inl e) ↦ absurd (clash s e h)
            | inr (inr k) ↦ inr k
          ];
    }
  where
    clash : (s : ℕ) → s ≡ d.no → may_end V w s ≡ true → ⊥
    clash s e h =
        let t : may_end V w d.no ≡ true = subst (λ (n : ℕ). may_end V w n ≡ true) e h in
        let f : may_end V w d.no ≡ false =
        ap (λ (o : Option StreamDoc). option_map_or (may_end_in V w) o false) others.planned.0.found ∙ none in cc

-- nothing is left
pub all_known : (V : View) (w : ℕ) (left : List StreamDoc) (numbers : List ℕ) → left ≡ []
    → KnowsOthers V w left numbers → KnowsEnds V w numbers
all_known V w left numbers e others =
    record {
      known = λ s h.
          elim (others.knows s h) [
            | inl k ↦ k
            | inr k ↦ absurd (subst (λ (l : List StreamDoc). Among s (map (λ (d : StreamDoc). d.no) l)) e k)
          ];
    }

-- no stream ends by no entries
pub none_ends : (w : ℕ) (numbers : List ℕ) → KnowsEnds (view_of []) w numbers
unfolding may_end stream catalogue list_of
none_ends w numbers = record { known = λ s h. cc }

-- one stream was looked at
pub one_added : (V : View) (w s : ℕ) (old new : List ℕ) → new ≡ insert_once s old → KnowsEndsButOne V w s old
    → KnowsEnds V w new
one_added V w s old new grown others =
    record {
      known = λ t h.
          elim (others.known t h) [
            | inl e ↦ rw (grown, e) (put_here s old)
            | inr k ↦ rw grown (put_keeps s t old k)
          ];
    }

pub one_removed : (V : View) (w s : ℕ) (old new : List ℕ) → new ≡ without s old → may_end V w s ≡ false
    → KnowsEndsButOne V w s old → KnowsEnds V w new
one_removed V w s old new less none others =
    record {
      known = λ t h.
          elim (others.known t h) [
            | inl e ↦ absurd (clash t h e)
            | inr k ↦ rw less (without_keeps s t old k (clash t h))
          ];
    }
  where
    clash : (t : ℕ) → may_end V w t ≡ true → t ≡ s → ⊥
    clash t h e = let k : may_end V w s ≡ true = subst (λ (n : ℕ). may_end V w n ≡ true) e h in cc

-- what a release or an end of a stream touches is that stream
pub one_of_release : (V : View) (w s : ℕ) (numbers : List ℕ) → KnowsEndsBut V w (ReleaseOf s) numbers
    → KnowsEndsButOne V w s numbers
one_of_release V w s numbers others = record { known = λ t h. others.known t h }

pub one_of_end : (V : View) (w s : ℕ) (numbers : List ℕ) → KnowsEndsBut V w (EndOfStream s) numbers
    → KnowsEndsButOne V w s numbers
one_of_end V w s numbers others = record { known = λ t h. others.known t h }

-- what the end of a job touches is its stream
pub one_of_job : (V : View) (w j : ℕ) (p : StreamJob) (numbers : List ℕ) → job V j ≡ Some p
    → KnowsEndsBut V w (EndOfJob j) numbers → KnowsEndsButOne V w p.parent.no numbers
one_of_job V w j p numbers found others =
    record {
      known = λ s h.
          elim (others.known s h) [
            | inl k ↦ inl (k.2 ∙ same k.0 k.1)
            | inr k ↦ inr k
          ];
    }
  where
    same : (q : StreamJob) → job V j ≡ Some q → q.parent.no ≡ p.parent.no
    same q e = let t : q ≡ p = cc in ap (λ (r : StreamJob). r.parent.no) t

pub none_of_job : (V : View) (w j : ℕ) (numbers : List ℕ) → job V j ≡ None
    → KnowsEndsBut V w (EndOfJob j) numbers → KnowsEnds V w numbers
none_of_job V w j numbers none others =
    record { known = λ s h. elim (others.known s h) [ inl k ↦ absurd (clash k.0 k.1) | inr k ↦ k ] }
  where
    clash : (q : StreamJob) → job V j ≡ Some q → ⊥
    clash q e = cc

-- the first that may end is the lowest own member that may
pub first_ends : (V : View) (w : ℕ) (numbers : List ℕ) → InOrder ◌<◌ numbers → KnowsEnds V w numbers
    → find (may_end V w) numbers ≡ least (filter (may_end V w) (own_numbers V w))
first_ends V w numbers ordered knows =
    first_lowest (may_end V w) numbers (own_numbers V w) ordered knows.known
    (λ s h. own_found V w s (ends_by V w s h))

-- a stream that is not ended was not
unended_before : (s : ℕ) (b : Body) (l : List Body) → not (is_ended s (l ++ b ∷ [])) ≡ true → not (is_ended s l) ≡ true
unfolding is_ended
unended_before s b l h =
    not_or_left (list_any (is_end_of s) l) (list_any (is_end_of s) (b ∷ []))
    (sym (ap not (list_any-append (is_end_of s) l (b ∷ []))) ∙ h)

module _ (kept : List Entry) (e : Entry) (small : IsSmall e.body) where
  -- a job lets its stream end only where it did, or where the entry ends it
  lets_before : (p : StreamJob) → change_by e.body ≢ Comes (EndOfJob p.doc.no)
      → lets_stream_end (with_it kept e) p ≡ true → lets_stream_end (before kept e) p ≡ true
  unfolding lets_stream_end
  lets_before p apart h = go (is_good p.doc.no (with_it kept e (Events p.doc.ws))) refl h
    where
      go : (b : Bool) → is_good p.doc.no (with_it kept e (Events p.doc.ws)) ≡ b
          → (b || is_cancelled (Job p.doc.no) (with_it kept e (Events p.doc.ws))) ≡ true
          → (is_good p.doc.no (before kept e (Events p.doc.ws))
          || is_cancelled (Job p.doc.no) (before kept e (Events p.doc.ws)))
          ≡ true
      go true t k =
          or_made_left _ _
          (fact_before kept e (is_good p.doc.no) (good_before p.doc.no e.body small apart) p.doc.ws t)
      go false t k =
          or_made_right _ _ (sym (cancelled_stays kept e small (Job p.doc.no) p.doc.ws) ∙ k)

  all_let_before : (ps : List StreamJob)
      → ((p : StreamJob) → Among p ps → change_by e.body ≢ Comes (EndOfJob p.doc.no))
      → list_all (lets_stream_end (with_it kept e)) ps ≡ true → list_all (lets_stream_end (before kept e)) ps ≡ true
  all_let_before [] apart h = refl
  all_let_before (p ∷ ps) apart h =
      and_made (lets_stream_end (before kept e) p) (list_all (lets_stream_end (before kept e)) ps)
      (lets_before p (apart p (inl refl))
      (and_left (lets_stream_end (with_it kept e) p) (list_all (lets_stream_end (with_it kept e)) ps) h))
      (all_let_before ps (λ q k. apart q (inr k))
      (and_right (lets_stream_end (with_it kept e) p) (list_all (lets_stream_end (with_it kept e)) ps) h))

  stream_jobs_stay : (s : ℕ) → jobs_of_stream (with_it kept e) s ≡ jobs_of_stream (before kept e) s
  unfolding jobs_of_stream
  stream_jobs_stay s = ap (filter (λ (p : StreamJob). p.parent.no == s)) (jobs_stay kept e small)

  -- a stream may end only where it might, or where the entry releases it or ends one of its jobs
  end_before : (w s : ℕ) → change_by e.body ≢ Comes (ReleaseOf s)
      → ((p : StreamJob) → Among p (jobs_of_stream (with_it kept e) s) → change_by e.body ≢ Comes (EndOfJob p.doc.no))
      → may_end (with_it kept e) w s ≡ true → may_end (before kept e) w s ≡ true
  unfolding may_end
  end_before w s held_ lasting h = by (ends_by (with_it kept e) w s h)
    where
      by : EndsBy (with_it kept e) w s → option_map_or (may_end_in (before kept e) w) (stream (before kept e) s) false ≡ true
      by k =
          let n = k.doc.no in
          let conditions = (k.doc.ws == w)
          ∷ is_member (with_it kept e) n
          ∷ is_released n (with_it kept e (Events w))
          ∷ not (is_ended n (with_it kept e (Events w)))
          ∷ not (is_cancelled (Stream n) (with_it kept e (Events w)))
          ∷ list_all (lets_stream_end (with_it kept e)) (jobs_of_stream (with_it kept e) n)
          ∷ [] in
          let owned : (k.doc.ws == w) ≡ true = held conditions 0 (k.doc.ws == w) k.ends refl in
          let member : is_member (before kept e) n ≡ true =
          sym (member_stays kept e small n) ∙ held conditions 1 (is_member (with_it kept e) n) k.ends refl in
          let released : is_released n (before kept e (Events w)) ≡ true =
          sym
          (fact_same kept e (is_released n)
          (released_same n e.body (subst (λ (i : ℕ). change_by e.body ≢ Comes (ReleaseOf i)) (sym k.number) held_)) w)
          ∙ held conditions 2 (is_released n (with_it kept e (Events w))) k.ends refl in
          let unended : not (is_ended n (before kept e (Events w))) ≡ true =
          fact_before kept e (λ (l : List Body). not (is_ended n l)) (unended_before n e.body) w
          (held conditions 3 (not (is_ended n (with_it kept e (Events w)))) k.ends refl) in
          let running : not (is_cancelled (Stream n) (before kept e (Events w))) ≡ true =
          sym (ap not (cancelled_stays kept e small (Stream n) w))
          ∙ held conditions 4 (not (is_cancelled (Stream n) (with_it kept e (Events w)))) k.ends refl in
          let all : list_all (lets_stream_end (before kept e)) (jobs_of_stream (with_it kept e) n) ≡ true =
          all_let_before (jobs_of_stream (with_it kept e) n)
          (subst
          (λ (i : ℕ).
          (p : StreamJob) → Among p (jobs_of_stream (with_it kept e) i) → change_by e.body ≢ Comes (EndOfJob p.doc.no))
          (sym k.number) lasting)
          (held conditions 5 (list_all (lets_stream_end (with_it kept e)) (jobs_of_stream (with_it kept e) n)) k.ends refl)
          in
          let done : list_all (lets_stream_end (before kept e)) (jobs_of_stream (before kept e) n) ≡ true =
          subst (λ (ps : List StreamJob). list_all (lets_stream_end (before kept e)) ps ≡ true) (stream_jobs_stay n) all in
          let found : stream (before kept e) s ≡ Some k.doc = sym (stream_stays kept e small s) ∙ k.found in
          rw (found, owned, member, released, unended, running, done) refl

  -- whether a job of this number is one of these
  search : (j : ℕ) (ps : List StreamJob)
      → ((p : StreamJob) × Among p ps × (p.doc.no ≡ j)) ⊎ ((p : StreamJob) → Among p ps → p.doc.no ≢ j)
  search j [] = inr (λ p k. absurd k)
  search j (p ∷ ps) =
      elim (eqb_tells p.doc.no j) [
        | inl e ↦ inl (p, inl refl, e.1)
        | inr e ↦ go e.1 (search j ps)
      ]
    where
      go : p.doc.no ≢ j
          → ((q : StreamJob) × Among q ps × (q.doc.no ≡ j)) ⊎ ((q : StreamJob) → Among q ps → q.doc.no ≢ j)
          → ((q : StreamJob) × Among q (p ∷ ps) × (q.doc.no ≡ j)) ⊎ ((q : StreamJob) → Among q (p ∷ ps) → q.doc.no ≢ j)
      go apart (inl k) = inl (k.0, inr k.1, k.2)
      go apart (inr none) =
          inr (λ q h. elim h [
            | inl s ↦ subst (λ (r : StreamJob). r.doc.no ≢ j) (sym s) apart
            | inr k ↦ none q k
          ])

  -- the job of this number, where it is one of a stream
  job_found : (j s : ℕ) (p : StreamJob) → Among p (jobs_of_stream (with_it kept e) s) → p.doc.no ≡ j
      → IsTouched (with_it kept e) (EndOfJob j) s
  unfolding jobs_of_stream
  job_found j s p here same =
      let h = filter_has (λ (q : StreamJob). q.parent.no == s) (jobs (with_it kept e)) p here in
      let planned : IsPlannedJob (with_it kept e) p =
      all_among (IsPlannedJob (with_it kept e)) (jobs (with_it kept e)) p (jobs_planned (with_it kept e)) h.0 in (
        p,
        subst (λ (i : ℕ). job (with_it kept e) i ≡ Some p) same planned.found,
        sym (eqb-true p.parent.no s h.1),
      )

  -- what the entry touches not is known then
  touched : (w : ℕ) (t : Target) (numbers : List ℕ) → Comes t ≡ change_by e.body
      → KnowsEnds (before kept e) w numbers → KnowsEndsBut (with_it kept e) w t numbers
  touched w (ReleaseOf n) numbers is knows =
      record {
        known = λ s h.
            elim (eqb_tells s n) [
              | inl k ↦ inl k.1
              | inr k ↦ inr (knows.known s
                  (end_before w s (λ f. k.1 (number s (is ∙ f))) (λ p here f. apart p.doc.no (is ∙ f)) h))
            ];
      }
    where
      number : (s : ℕ) → Comes (ReleaseOf n) ≡ Comes (ReleaseOf s) → s ≡ n
      number s f = cc

      apart : (i : ℕ) → Comes (ReleaseOf n) ≡ Comes (EndOfJob i) → ⊥
      apart i f = cc
  touched w (EndOfStream n) numbers is knows =
      record {
        known = λ s h.
            inr (knows.known s (end_before w s (λ f. other s (is ∙ f)) (λ p here f. apart p.doc.no (is ∙ f)) h));
      }
    where
      other : (s : ℕ) → Comes (EndOfStream n) ≡ Comes (ReleaseOf s) → ⊥
      other s f = cc

      apart : (i : ℕ) → Comes (EndOfStream n) ≡ Comes (EndOfJob i) → ⊥
      apart i f = cc
  touched w (EndOfJob j) numbers is knows =
      record { known = λ s h. go s h (search j (jobs_of_stream (with_it kept e) s)) }
    where
      other : (s : ℕ) → Comes (EndOfJob j) ≡ Comes (ReleaseOf s) → ⊥
      other s f = cc

      number : (i : ℕ) → Comes (EndOfJob j) ≡ Comes (EndOfJob i) → i ≡ j
      number i f = cc

      go : (s : ℕ) → may_end (with_it kept e) w s ≡ true
          → ((p : StreamJob) × Among p (jobs_of_stream (with_it kept e) s) × (p.doc.no ≡ j))
          ⊎ ((p : StreamJob) → Among p (jobs_of_stream (with_it kept e) s) → p.doc.no ≢ j)
          → IsTouched (with_it kept e) (EndOfJob j) s ⊎ Among s numbers
      go s h (inl k) = inl (job_found j s k.0 k.1 k.2)
      go s h (inr none) =
          inr (knows.known s (end_before w s (λ f. other s (is ∙ f)) (λ p here f. none p here (number p.doc.no (is ∙ f))) h))

-- after an entry that touches a stream or a job
pub ends_touched : (taken kept : List Entry) (e : Entry) (w : ℕ) (t : Target) (numbers : List ℕ)
    → Comes t ≡ change_by e.body → taken ≡ kept ++ e ∷ [] → KnowsEnds (view_of kept) w numbers
    → KnowsEndsBut (view_of taken) w t numbers
ends_touched taken kept e w t numbers is grown knows =
    subst (λ (l : List Entry). KnowsEndsBut (view_of l) w t numbers) (sym grown)
    (touched kept e (subst (λ (c : Change). c ≢ Everything) is (λ f. cc)) w t numbers is knows)

-- after one that touches none
pub ends_then : (taken kept : List Entry) (e : Entry) (w : ℕ) (change : Change) (numbers : List ℕ)
    → change ≡ change_by e.body → change ≢ Everything → ((t : Target) → change ≢ Comes t) → taken ≡ kept ++ e ∷ []
    → KnowsEnds (view_of kept) w numbers → KnowsEnds (view_of taken) w numbers
ends_then taken kept e w change numbers is small none grown knows =
    subst (λ (l : List Entry). KnowsEnds (view_of l) w numbers) (sym grown)
    (record {
      known = λ s h.
          knows.known s
          (end_before kept e (subst (λ (c : Change). c ≢ Everything) is small) w s (λ f. none (ReleaseOf s) (is ∙ f))
          (λ p here f. none (EndOfJob p.doc.no) (is ∙ f)) h);
    })
