-- Who holds units, and how many launches are open, as a decision sees it.
use Rattle.std.proofs.Common.{[], ℕ, ◌&&◌, ◌+◌, ◌∙◌, ◌∷◌, ◌≡◌, Bool, List, Some, ap, arith, cond, false, filter}
use Rattle.std.proofs.Common.{fold, map, not, refl, sym, true}
use Rattle.std.proofs.lemmas.List.Sums.{sum_by-append, sum_by-cons}
use Rattle.std.specs.Prelude.{◌==◌, count_by, sum_by}
use Rattle.lemmas.proofs.Lists.{all_such, count_both, either_first, filter_filter}
use Rattle.model.specs.Types.{Body, Events, Job, Stream, StreamDoc}
use Rattle.model.specs.History.{View}
use Rattle.model.specs.Catalogue.{StreamJob, catalogue, jobs_of, owner, streams_of}
use Rattle.model.specs.Facts.{is_cancelled, is_ended, is_open, is_released}
use Rattle.model.specs.Dependencies.{holders, units, used}
use Rattle.model.specs.Readiness.{open_launch_count}
use Rattle.model_laws.proofs.Firsts.{jobs_owned, streams_owned}
use Rattle.model_laws.proofs.Growth.{Grows}
use Rattle.model_laws.proofs.Lists.{all_filter, sum_same}
use Rattle.owner_fold.specs.Holders.{streams_under_way}
use Rattle.counted_decisions.specs.Units.{holding_jobs, holding_streams}
use Rattle.counted_decisions.proofs.Catalogues.{brought, jobs_of_seen, of_stream_brought, streams_of_seen}
use Rattle.counted_decisions.proofs.Owned.{units_seen}

-- sums
sum_filter : {X : Type 0} (f : X → ℕ) (q : X → Bool) (xs : List X)
    → sum_by f (filter q xs) ≡ sum_by (λ x. cond (q x) (f x) 0) xs
sum_filter f q [] = refl
sum_filter {X} f q (x ∷ xs) =
    go (q x) (sum_filter f q xs) ∙ sym (sum_by-cons (λ (y : X). cond (q y) (f y) 0) x xs)
  where
    go : (b : Bool) → sum_by f (filter q xs) ≡ sum_by (λ (y : X). cond (q y) (f y) 0) xs
        → sum_by f (cond b (x ∷ filter q xs) (filter q xs))
        ≡ cond b (f x) 0 + sum_by (λ (y : X). cond (q y) (f y) 0) xs
    go true e = sum_by-cons f x (filter q xs) ∙ ap (λ n. f x + n) e
    go false e = e ∙ (let k : sum_by (λ (y : X). cond (q y) (f y) 0) xs ≡ 0 + sum_by (λ (y : X). cond (q y) (f y) 0) xs = omega arith in k)

sum_map : {X Y : Type 0} (f : Y → ℕ) (g : X → Y) (n : ℕ) (xs : List X)
    → fold (λ a y. a + f y) n (map g xs) ≡ fold (λ a x. a + f (g x)) n xs
sum_map f g n [] = refl
sum_map f g n (x ∷ xs) = sum_map f g (n + f (g x)) xs

-- the units in use are those of both
pub used_split : (U : View) (w r : ℕ)
    → used U w r
    ≡ sum_by (λ (p : StreamJob). units U r (Job p.doc.no)) (holding_jobs U w)
    + sum_by (λ (d : StreamDoc). units U r (Stream d.no)) (holding_streams U w)
unfolding used holders
used_split U w r =
    sum_by-append (units U r) (map (λ (p : StreamJob). Job p.doc.no) (holding_jobs U w))
    (map (λ (d : StreamDoc). Stream d.no) (holding_streams U w))
    ∙ ap (λ n. n + sum_by (units U r) (map (λ (d : StreamDoc). Stream d.no) (holding_streams U w)))
    (sum_map (units U r) (λ (p : StreamJob). Job p.doc.no) 0 (holding_jobs U w))
    ∙ ap (λ n. sum_by (λ (p : StreamJob). units U r (Job p.doc.no)) (holding_jobs U w) + n)
    (sum_map (units U r) (λ (d : StreamDoc). Stream d.no) 0 (holding_streams U w))

module _ (U V : View) (grows : Grows U V) (w : ℕ) (own : U (Events w) ≡ V (Events w)) where
  abbrev open_at : List Body → StreamJob → Bool
  open_at events p = is_open p.doc.no events

  abbrev holds_at : List Body → StreamDoc → Bool
  holds_at events d =
      is_released d.no events && (not (is_ended d.no events) && not (is_cancelled (Stream d.no) events))

  jobs_here : holding_jobs U w ≡ filter (λ (p : StreamJob). brought U V grows p.parent.no) (holding_jobs V w)
  jobs_here =
      ap (filter (open_at (U (Events w)))) (jobs_of_seen U V grows w)
      ∙ ap (λ (l : List Body). filter (open_at l) (filter (λ (p : StreamJob). brought U V grows p.parent.no) (jobs_of V w))) own
      ∙ either_first (open_at (V (Events w))) (λ (p : StreamJob). brought U V grows p.parent.no) (jobs_of V w)

  streams_here : holding_streams U w ≡ filter (λ (d : StreamDoc). brought U V grows d.no) (streams_under_way V w)
  unfolding streams_of
  streams_here =
      ap (filter (holds_at (U (Events w)))) (streams_of_seen U V grows w)
      ∙ ap (λ (l : List Body). filter (holds_at l) (filter (λ (d : StreamDoc). brought U V grows d.no) (streams_of V w))) own
      ∙ either_first (holds_at (V (Events w))) (λ (d : StreamDoc). brought U V grows d.no) (streams_of V w)
      ∙ ap (filter (λ (d : StreamDoc). brought U V grows d.no))
      (filter_filter (holds_at (V (Events w))) (λ (d : StreamDoc). d.ws == w) (catalogue V))

  pub job_units_seen : (r : ℕ)
      → sum_by (λ (p : StreamJob). units U r (Job p.doc.no)) (holding_jobs U w)
      ≡ sum_by (λ (p : StreamJob). cond (brought U V grows p.parent.no) (units V r (Job p.doc.no)) 0) (holding_jobs V w)
  job_units_seen r =
      sum_same (λ (p : StreamJob). units U r (Job p.doc.no)) (λ (p : StreamJob). units V r (Job p.doc.no)) 0
      (holding_jobs U w)
      (all_such (λ (p : StreamJob). owner U (Job p.doc.no) ≡ Some w)
      (λ (p : StreamJob). units U r (Job p.doc.no) ≡ units V r (Job p.doc.no)) (holding_jobs U w)
      (λ p e. units_seen U V grows w own r (Job p.doc.no) e)
      (all_filter (λ (p : StreamJob). owner U (Job p.doc.no) ≡ Some w) (open_at (U (Events w))) (jobs_of U w)
      (jobs_owned U w)))
      ∙ ap (sum_by (λ (p : StreamJob). units V r (Job p.doc.no))) jobs_here
      ∙ sum_filter (λ (p : StreamJob). units V r (Job p.doc.no)) (λ (p : StreamJob). brought U V grows p.parent.no)
      (holding_jobs V w)

  pub stream_units_seen : (r : ℕ)
      → sum_by (λ (d : StreamDoc). units U r (Stream d.no)) (holding_streams U w)
      ≡ sum_by (λ (d : StreamDoc). cond (brought U V grows d.no) (units V r (Stream d.no)) 0) (streams_under_way V w)
  stream_units_seen r =
      sum_same (λ (d : StreamDoc). units U r (Stream d.no)) (λ (d : StreamDoc). units V r (Stream d.no)) 0
      (holding_streams U w)
      (all_such (λ (d : StreamDoc). owner U (Stream d.no) ≡ Some w)
      (λ (d : StreamDoc). units U r (Stream d.no) ≡ units V r (Stream d.no)) (holding_streams U w)
      (λ d e. units_seen U V grows w own r (Stream d.no) e)
      (all_filter (λ (d : StreamDoc). owner U (Stream d.no) ≡ Some w) (holds_at (U (Events w))) (streams_of U w)
      (streams_owned U w)))
      ∙ ap (sum_by (λ (d : StreamDoc). units V r (Stream d.no))) streams_here
      ∙ sum_filter (λ (d : StreamDoc). units V r (Stream d.no)) (λ (d : StreamDoc). brought U V grows d.no)
      (streams_under_way V w)

  -- open launches
  pub open_seen : open_launch_count U w (jobs_of U w)
      ≡ count_by (λ (p : StreamJob). brought U V grows p.parent.no) (holding_jobs V w)
  unfolding open_launch_count
  open_seen =
      ap (count_by (open_at (U (Events w)))) (jobs_of_seen U V grows w)
      ∙ ap (λ (l : List Body). count_by (open_at l) (filter (λ (p : StreamJob). brought U V grows p.parent.no) (jobs_of V w))) own
      ∙ count_both (open_at (V (Events w))) (λ (p : StreamJob). brought U V grows p.parent.no) (jobs_of V w)

  pub open_of_stream_seen : (s : ℕ) → brought U V grows s ≡ true
      → open_launch_count U w (filter (λ (p : StreamJob). p.parent.no == s) (jobs_of U w))
      ≡ count_by (λ (p : StreamJob). p.parent.no == s) (holding_jobs V w)
  unfolding open_launch_count
  open_of_stream_seen s h =
      ap (λ (l : List StreamJob). count_by (open_at (U (Events w))) (filter (λ (p : StreamJob). p.parent.no == s) l))
      (jobs_of_seen U V grows w)
      ∙ ap (count_by (open_at (U (Events w))))
      (either_first (λ (p : StreamJob). p.parent.no == s) (λ (p : StreamJob). brought U V grows p.parent.no) (jobs_of V w)
      ∙ of_stream_brought U V grows s (jobs_of V w) h)
      ∙ ap (λ (l : List Body). count_by (open_at l) (filter (λ (p : StreamJob). p.parent.no == s) (jobs_of V w))) own
      ∙ count_both (open_at (V (Events w))) (λ (p : StreamJob). p.parent.no == s) (jobs_of V w)
