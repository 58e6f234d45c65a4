-- What one more entry of a workstation's own leaves of what can still be told there.
use Rattle.std.proofs.Common.{◌≡◌, ℕ, ◌+◌, ◌-◌, ◌<◌, ◌≤◌, true, false, inl, inr}
use Rattle.std.proofs.Common.{List, [], ◌∷◌, ◌++◌, refl, sym, subst, arith, Some, None}
use Rattle.std.proofs.lemmas.Bool.{eq-eqb}
use Rattle.std.proofs.lemmas.Bool.Decides.{eqb_tells}
use Rattle.std.specs.List.{list_any}
use Rattle.std.specs.Prelude.{eqb}
use Rattle.model.specs.Types.{Body, Cmd, Job, Launched, Obeyed, Obj, Started, Stream}
use Rattle.model.specs.Words.{below}
use Rattle.model.specs.History.{Seen}
use Rattle.model.specs.Facts.{answered, end_of, is_fulfilled, is_fulfilment, is_last_started}
use Rattle.model.specs.Facts.{is_launch_of, launches, obeyed_command}
use Rattle.model.specs.Facts.{open_launch, reruns}
use Rattle.model.specs.Outcomes.{Outcome}
use Rattle.model_laws.proofs.Answered.{answered-append}
use Rattle.model_laws.proofs.Growth.{launches-append}
use Rattle.model_laws.proofs.Tidy.{launches_none}
use Rattle.model_laws.proofs.Starts.{launches_one}
use Rattle.rest_laws.specs.Gains.{sum_over}
use Rattle.rest_laws.specs.Left.{Caps, done, is_below, job_left, left_of, stream_left, undone}
use Rattle.rest_laws.proofs.Falls.{answered_one, clock_low, hits, job_low, orders_low, rerun_target, stream_low, sum_over_falls}
use Rattle.rest_laws.proofs.Falls.{any_more, any_now, at_most_one, records_low, reruns_more, reruns_none}
use Rattle.rest_laws.proofs.Falls.{reruns_one}
use Rattle.rest_laws.proofs.Gains.{sum_over_low}
use Rattle.rest_laws.proofs.Lefts.{sum_over_more}
use Rattle.launches_at_rest.specs.Tells.{awaits_start, files_left, starts_left, tells_of}
use Rattle.launches_at_rest.proofs.Launches.{awaited, awaits_low, end_told, opened, start_told}

-- of a list and one more entry
module _ (L : List Body) (b : Body) where
  abbrev pub L' : List Body
  L' = L ++ b ∷ []

  pub files_low : (n : ℕ) (o : Obj) → files_left n (L ++ b ∷ []) o ≤ files_left n L o
  unfolding files_left is_fulfilled
  files_low n o =
      sum_over_low (λ i. undone (list_any (is_fulfilment o i) (L ++ b ∷ []))) (λ i. undone (list_any (is_fulfilment o i) L))
      (below n) (λ i. any_more (is_fulfilment o i) L b)

  pub file_falls : (n : ℕ) (o : Obj) (i : ℕ) → i < n → is_fulfilled o i L ≡ false → is_fulfilment o i b ≡ true
      → files_left n (L ++ b ∷ []) o + 1 ≤ files_left n L o
  unfolding files_left is_fulfilled
  file_falls n o i low none this =
      sum_over_falls (λ i. undone (list_any (is_fulfilment o i) (L ++ b ∷ []))) (λ i. undone (list_any (is_fulfilment o i) L))
      1 n i (λ i. any_more (is_fulfilment o i) L b) low (any_now (is_fulfilment o i) L b none this)

  pub answered_more : (given : ℕ → ℕ) (a : ℕ) → given a - answered a (L ++ b ∷ []) ≤ given a - answered a L
  answered_more given a = omega (arith, answered-append a L (b ∷ []))

  pub starts_low : (caps : Caps) (j : ℕ) → is_launch_of j b ≡ false → obeyed_command b ≡ None
      → starts_left caps (L ++ b ∷ []) j ≤ starts_left caps L j
  unfolding starts_left
  starts_low caps j no_launch no_command =
      rw (launches-append, reruns_more j L b)
      (omega (
        arith,
        launches_none j b no_launch,
        reruns_none j b no_command,
        awaits_low j L b no_launch,
        files_low (caps.of_deps (Job j)) (Job j),
      ))

  -- where it shuts the open launch, less is left for turns
  pub end_lowers : (caps : Caps) (j n : ℕ) (out : Outcome) → open_launch j L ≡ Some n → is_launch_of j b ≡ false
      → obeyed_command b ≡ None → end_of j n b ≡ Some out → job_left caps (L ++ b ∷ []) j + 1 ≤ job_left caps L j
  unfolding job_left
  end_lowers caps j n out open_ no_launch no_command ends =
      rw (launches-append, reruns_more j L b, end_told j n L b out open_ no_launch ends, opened j n L open_)
      (omega (
        arith,
        launches_none j b no_launch,
        reruns_none j b no_command,
        records_low (caps.of_deps (Job j)) L b (Job j),
      ))

-- a start of an open launch
start_lowers : (caps : Caps) (L : List Body) (j n : ℕ) → open_launch j L ≡ Some n → is_last_started j L ≡ false
    → starts_left caps (L ++ Started j n ∷ []) j + 1 ≤ starts_left caps L j
unfolding starts_left
start_lowers caps L j n open_ none =
    rw (launches-append, reruns_more j L (Started j n), start_told j n L open_, awaited j n L open_ none)
    (omega (
      arith,
      launches_none j (Started j n) refl,
      reruns_none j (Started j n) refl,
      files_low L (Started j n) (caps.of_deps (Job j)) (Job j),
    ))

-- a file that is found
starts_by_file : (caps : Caps) (L : List Body) (b : Body) (j : ℕ) → is_launch_of j b ≡ false → obeyed_command b ≡ None
    → files_left (caps.of_deps (Job j)) (L ++ b ∷ []) (Job j) + 1 ≤ files_left (caps.of_deps (Job j)) L (Job j)
    → starts_left caps (L ++ b ∷ []) j + 1 ≤ starts_left caps L j
unfolding starts_left
starts_by_file caps L b j no_launch no_command falls =
    rw (launches-append, reruns_more j L b)
    (omega (
      arith,
      launches_none j b no_launch,
      reruns_none j b no_command,
      awaits_low j L b no_launch,
      falls,
    ))

-- a launch that is due
launch_lowers : (caps : Caps) (L : List Body) (j n : ℕ) (seen : Seen) → launches j L ≤ reruns j L
    → starts_left caps (L ++ Launched j n seen ∷ []) j ≤ starts_left caps L j
unfolding starts_left
launch_lowers caps L j n seen due =
    rw (launches-append, reruns_more j L (Launched j n seen))
    (omega (
      arith,
      due,
      launches_one j n seen,
      reruns_none j (Launched j n seen) refl,
      at_most_one (awaits_start j (L ++ Launched j n seen ∷ [])),
      files_low L (Launched j n seen) (caps.of_deps (Job j)) (Job j),
    ))

-- a command that is obeyed
starts_rise : (caps : Caps) (L : List Body) (a k : ℕ) (c : Cmd) (j : ℕ)
    → starts_left caps (L ++ Obeyed a k c ∷ []) j ≤ starts_left caps L j + done (eqb j (rerun_target c))
unfolding starts_left
starts_rise caps L a k c j =
    rw (launches-append, reruns_more j L (Obeyed a k c))
    (omega (
      arith,
      launches_none j (Obeyed a k c) refl,
      reruns_one j a k c,
      awaits_low j L (Obeyed a k c) refl,
      files_low L (Obeyed a k c) (caps.of_deps (Job j)) (Job j),
    ))

-- of one more entry that is no command: at most this is left to be told
module _ (caps : Caps) (n : ℕ) (given : ℕ → ℕ) (L : List Body) (b : Body) where
  abbrev StartsLow : Type 0
  StartsLow = (j : ℕ) → starts_left caps (L ++ b ∷ []) j ≤ starts_left caps L j

  files_sum : sum_over (λ s. files_left (caps.of_deps (Stream s)) (L ++ b ∷ []) (Stream s)) (below caps.of_streams)
      ≤ sum_over (λ s. files_left (caps.of_deps (Stream s)) L (Stream s)) (below caps.of_streams)
  files_sum =
      sum_over_low (λ s. files_left (caps.of_deps (Stream s)) (L ++ b ∷ []) (Stream s))
      (λ s. files_left (caps.of_deps (Stream s)) L (Stream s)) (below caps.of_streams)
      (λ s. files_low L b (caps.of_deps (Stream s)) (Stream s))

  orders_sum : sum_over (λ a. given a - answered a (L ++ b ∷ [])) (below n) ≤ sum_over (λ a. given a - answered a L) (below n)
  orders_sum =
      sum_over_low (λ a. given a - answered a (L ++ b ∷ [])) (λ a. given a - answered a L) (below n) (answered_more L b given)

  starts_sum : StartsLow
      → sum_over (starts_left caps (L ++ b ∷ [])) (below caps.of_jobs) ≤ sum_over (starts_left caps L) (below caps.of_jobs)
  starts_sum low = sum_over_low (starts_left caps (L ++ b ∷ [])) (starts_left caps L) (below caps.of_jobs) low

  pub tells_low : StartsLow → tells_of caps n given (L ++ b ∷ []) ≤ tells_of caps n given L
  unfolding tells_of
  tells_low low = omega (arith, files_sum, orders_sum, starts_sum low)

  pub tells_by_job : StartsLow → (j : ℕ) → j < caps.of_jobs → starts_left caps (L ++ b ∷ []) j + 1 ≤ starts_left caps L j
      → tells_of caps n given (L ++ b ∷ []) + 1 ≤ tells_of caps n given L
  unfolding tells_of
  tells_by_job low j below_ falls =
      omega (
        arith,
        files_sum,
        orders_sum,
        sum_over_falls (starts_left caps (L ++ b ∷ [])) (starts_left caps L) 1 caps.of_jobs j low below_ falls,
      )

  pub tells_by_stream : StartsLow → (s : ℕ) → s < caps.of_streams
      → files_left (caps.of_deps (Stream s)) (L ++ b ∷ []) (Stream s) + 1 ≤ files_left (caps.of_deps (Stream s)) L (Stream s)
      → tells_of caps n given (L ++ b ∷ []) + 1 ≤ tells_of caps n given L
  unfolding tells_of
  tells_by_stream low s below_ falls =
      omega (
        arith,
        sum_over_falls (λ s. files_left (caps.of_deps (Stream s)) (L ++ b ∷ []) (Stream s))
            (λ s. files_left (caps.of_deps (Stream s)) L (Stream s)) 1 caps.of_streams s
            (λ s. files_low L b (caps.of_deps (Stream s)) (Stream s)) below_ falls,
        orders_sum,
        starts_sum low,
      )

  pub left_stays : (ts : List ℕ) → ((j : ℕ) → is_launch_of j b ≡ false) → obeyed_command b ≡ None
      → left_of caps n ts given (L ++ b ∷ []) ≤ left_of caps n ts given L
  unfolding left_of
  left_stays ts no_launch no_command =
      omega (
        arith,
        clock_low L b ts,
        sum_over_low (stream_left caps (L ++ b ∷ [])) (stream_left caps L) (below caps.of_streams) (stream_low caps L b),
        sum_over_low (job_left caps (L ++ b ∷ [])) (job_left caps L) (below caps.of_jobs)
            (λ j. job_low caps L b j (no_launch j) no_command),
        orders_low n given L b,
      )

  pub left_by_end : (ts : List ℕ) (j m : ℕ) (out : Outcome) → j < caps.of_jobs → ((j : ℕ) → is_launch_of j b ≡ false)
      → obeyed_command b ≡ None → open_launch j L ≡ Some m → end_of j m b ≡ Some out
      → left_of caps n ts given (L ++ b ∷ []) + 1 ≤ left_of caps n ts given L
  unfolding left_of
  left_by_end ts j m out below_ no_launch no_command open_ ends =
      omega (
        arith,
        clock_low L b ts,
        sum_over_low (stream_left caps (L ++ b ∷ [])) (stream_left caps L) (below caps.of_streams) (stream_low caps L b),
        sum_over_falls (job_left caps (L ++ b ∷ [])) (job_left caps L) 1 caps.of_jobs j
            (λ j. job_low caps L b j (no_launch j) no_command) below_
            (end_lowers L b caps j m out open_ (no_launch j) no_command ends),
        orders_low n given L b,
      )

-- what turns make
module _ (caps : Caps) (n : ℕ) (given : ℕ → ℕ) (L : List Body) where
  pub tells_launch : (j m : ℕ) (seen : Seen) → launches j L ≤ reruns j L
      → tells_of caps n given (L ++ Launched j m seen ∷ []) ≤ tells_of caps n given L
  tells_launch j m seen due = tells_low caps n given L (Launched j m seen) low
    where
      low : (i : ℕ) → starts_left caps (L ++ Launched j m seen ∷ []) i ≤ starts_left caps L i
      low i =
          elim (eqb_tells i j) [
            | inl e ↦ subst (λ (i : ℕ). starts_left caps (L ++ Launched j m seen ∷ []) i ≤ starts_left caps L i) (sym e.1)
                (launch_lowers caps L j m seen due)
            | inr e ↦ starts_low L (Launched j m seen) caps i e.0 refl
          ]

  pub tells_obeyed : (a k : ℕ) (c : Cmd) → a < n → answered a L < given a
      → tells_of caps n given (L ++ Obeyed a k c ∷ []) ≤ tells_of caps n given L
  unfolding tells_of
  tells_obeyed a k c low here =
      omega (
        arith,
        files_sum caps n given L (Obeyed a k c),
        sum_over_more (starts_left caps (L ++ Obeyed a k c ∷ [])) (starts_left caps L) (λ j. done (eqb j (rerun_target c)))
            (below caps.of_jobs) (starts_rise caps L a k c),
        hits (rerun_target c) 0 caps.of_jobs,
        sum_over_falls (λ i. given i - answered i (L ++ Obeyed a k c ∷ [])) (λ i. given i - answered i L) 1 n a
            (answered_more L (Obeyed a k c) given) low
            (omega (arith, here, answered-append a L (Obeyed a k c ∷ []), answered_one a (Obeyed a k c) (eq-eqb a a refl))),
      )

  pub tells_still : (b : Body) → ((j : ℕ) → is_launch_of j b ≡ false) → obeyed_command b ≡ None
      → tells_of caps n given (L ++ b ∷ []) ≤ tells_of caps n given L
  tells_still b no_launch no_command =
      tells_low caps n given L b (λ j. starts_low L b caps j (no_launch j) no_command)

  pub tells_started : (j m : ℕ) → j < caps.of_jobs → open_launch j L ≡ Some m → is_last_started j L ≡ false
      → tells_of caps n given (L ++ Started j m ∷ []) + 1 ≤ tells_of caps n given L
  tells_started j m below_ open_ none =
      tells_by_job caps n given L (Started j m) (λ i. starts_low L (Started j m) caps i refl refl) j below_
      (start_lowers caps L j m open_ none)

  pub tells_found : (b : Body) (o : Obj) (i : ℕ) → ((j : ℕ) → is_launch_of j b ≡ false) → obeyed_command b ≡ None
      → is_below caps o → i < caps.of_deps o → is_fulfilled o i L ≡ false → is_fulfilment o i b ≡ true
      → tells_of caps n given (L ++ b ∷ []) + 1 ≤ tells_of caps n given L
  tells_found b (Stream s) i no_launch no_command below_ low none this =
      tells_by_stream caps n given L b (λ j. starts_low L b caps j (no_launch j) no_command) s below_
      (file_falls L b (caps.of_deps (Stream s)) (Stream s) i low none this)
  tells_found b (Job j) i no_launch no_command below_ low none this =
      tells_by_job caps n given L b (λ j. starts_low L b caps j (no_launch j) no_command) j below_
      (starts_by_file caps L b j (no_launch j) no_command (file_falls L b (caps.of_deps (Job j)) (Job j) i low none this))
