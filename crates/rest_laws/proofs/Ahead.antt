-- What can still come to the catalogue never grows by a turn, and what is there has numbers below it.
use Rattle.std.proofs.Common.{◌≡◌, ℕ, zero, suc, ◌+◌, ◌-◌, ◌<◌, ◌≤◌, true}
use Rattle.std.proofs.Common.{List, [], ◌∷◌, ◌++◌, length, map, drop, refl, ap, sym, subst, arith, Option, Some, None}
use Rattle.std.proofs.Common.{length-append}
use Rattle.std.proofs.lemmas.Bool.{eq-eqb, eqb-true}
use Rattle.std.proofs.lemmas.Grind.{flat_map-append}
use Rattle.std.specs.List.{AllByRecursion, enumerate_from}
use Rattle.std.specs.Prelude.{eqb, flat_map, option_map, slice_get}
use Rattle.lemmas.proofs.Lists.{all_such, flat_all, found_within}
use Rattle.model.specs.Types.{Added, Body, Events, Job, Obj, Order, Stream}
use Rattle.model.specs.Types.{StreamDoc, StreamDraft, Submit}
use Rattle.model.specs.Words.{below, numbers_from}
use Rattle.model.specs.History.{View}
use Rattle.model.specs.Catalogue.{StreamJob, catalogue, docs_in, job, jobs, jobs_in, owner, stream}
use Rattle.model.specs.Facts.{answered}
use Rattle.model.specs.NewPlan.{last_job, numbered}
use Rattle.model.specs.Invariant.{IsNumbered, docs_of, jobs_of_docs}
use Rattle.model_laws.proofs.Lists.{all_flat}
use Rattle.model_laws.proofs.Options.{find_passes, there_if}
use Rattle.model_laws.proofs.Answered.{answered-append}
use Rattle.model_laws.proofs.Inside.{find_all, firsts_all}
use Rattle.model_laws.proofs.Numbers.{map-length}
use Rattle.rest_laws.specs.Gains.{sum_over}
use Rattle.rest_laws.specs.Left.{Caps, drafted, is_below}
use Rattle.rest_laws.proofs.Gains.{sum_over_low}
use Rattle.rest_laws.proofs.Falls.{answered_one, sum_over_falls}
use Rattle.rest_laws.proofs.Quiets.{map_holds}

pub low_numbers : (a n : ℕ) → AllByRecursion (λ m. m < a + n) (numbers_from a n)
low_numbers a zero = tt
low_numbers a (suc n) = (
  omega arith,
  all_such (λ m. m < a + 1 + n) (λ m. m < a + suc n) (numbers_from (a + 1) n) (λ m h. omega (arith, h))
      (low_numbers (a + 1) n),
)

-- what is numbered from one on has numbers up to how many there are
numbered_low : {X : Type 0} (number : X → ℕ) (xs : List X) → map number xs ≡ numbers_from 1 (length xs)
    → AllByRecursion (λ x. number x < 1 + length xs) xs
numbered_low number xs e =
    map_holds (λ m. m < 1 + length xs) number xs
    (subst (AllByRecursion (λ m. m < 1 + length xs)) (sym e) (low_numbers 1 (length xs)))

-- the numbers of what a view has in its catalogue
module _ (V : View) (h : IsNumbered (V (Events 0))) where
  stream_below : (s : ℕ) (d : StreamDoc) → stream V s ≡ Some d → s < 1 + length (docs_of (V (Events 0)))
  unfolding stream catalogue
  stream_below s d e =
      let low : d.no < 1 + length (docs_of (V (Events 0))) =
      there_if (λ (d : StreamDoc). d.no < 1 + length (docs_of (V (Events 0)))) _ d
      (find_all (λ (d : StreamDoc). d.no < 1 + length (docs_of (V (Events 0)))) (λ (d : StreamDoc). eqb d.no s) _
      (firsts_all (λ (d : StreamDoc). d.no < 1 + length (docs_of (V (Events 0)))) (λ (d : StreamDoc). d.no) []
      (docs_of (V (Events 0))) (numbered_low (λ (d : StreamDoc). d.no) (docs_of (V (Events 0))) h.streams))) e in
      let same : d.no ≡ s =
      eqb-true d.no s (there_if (λ (d : StreamDoc). eqb d.no s ≡ true) _ d (find_passes _ (catalogue V)) e) in
      omega (arith, low, same)

  abbrev Low : StreamJob → Type 0
  Low p = p.doc.no < 1 + length (jobs_of_docs (V (Events 0)))

  job_below : (j : ℕ) (p : StreamJob) → job V j ≡ Some p → j < 1 + length (jobs_of_docs (V (Events 0)))
  unfolding job jobs catalogue
  job_below j p e =
      let low : p.doc.no < 1 + length (jobs_of_docs (V (Events 0))) =
      there_if Low _ p
      (find_all Low (λ (p : StreamJob). eqb p.doc.no j) _
      (firsts_all Low (λ (p : StreamJob). p.doc.no) [] (flat_map jobs_in (catalogue V))
      (flat_all Low jobs_in (catalogue V)
      (firsts_all (λ (d : StreamDoc). AllByRecursion Low (jobs_in d)) (λ (d : StreamDoc). d.no) [] (docs_of (V (Events 0)))
      (all_flat Low jobs_in (docs_of (V (Events 0)))
      (numbered_low (λ (p : StreamJob). p.doc.no) (jobs_of_docs (V (Events 0))) h.jobs_)))))) e in
      let same : p.doc.no ≡ j =
      eqb-true p.doc.no j (there_if (λ (p : StreamJob). eqb p.doc.no j ≡ true) _ p (find_passes _ (jobs V)) e) in
      omega (arith, low, same)

  pub owned_below : (caps : Caps) (o : Obj) (w : ℕ) → length (docs_of (V (Events 0))) < caps.of_streams
      → length (jobs_of_docs (V (Events 0))) < caps.of_jobs → owner V o ≡ Some w → is_below caps o
  unfolding owner
  owned_below caps (Stream s) w f g = go (stream V s) refl
    where
      go : (o : Option StreamDoc) → stream V s ≡ o → option_map (λ (d : StreamDoc). d.ws) o ≡ Some w → s < caps.of_streams
      go None e k = cc
      go (Some d) e k = omega (arith, f, stream_below s d e)
  owned_below caps (Job j) w f g = go (job V j) refl
    where
      go : (o : Option StreamJob) → job V j ≡ o → option_map (λ (p : StreamJob). p.doc.ws) o ≡ Some w → j < caps.of_jobs
      go None e k = cc
      go (Some p) e k = omega (arith, g, job_below j p e)

-- documents
docs_more : (L : List Body) (b : Body) → length (docs_of (L ++ b ∷ [])) ≡ length (docs_of L) + length (docs_in b)
docs_more L b = rw (flat_map-append, length-append, length-append) (omega arith)

jobs_more : (L : List Body) (b : Body)
    → length (jobs_of_docs (L ++ b ∷ [])) ≡ length (jobs_of_docs L) + length (flat_map jobs_in (docs_in b))
jobs_more L b =
    rw (flat_map-append, flat_map-append, length-append, flat_map-append, length-append) (omega arith)

numbers_many : {A : Type 0} (n : ℕ) (xs : List A) → length (enumerate_from n xs) ≡ length xs
numbers_many n [] = refl
numbers_many n (x ∷ xs) = ap (λ k. suc k) (numbers_many (n + 1) xs)

jobs_of_draft : (V : View) (draft : StreamDraft)
    → length (flat_map jobs_in (numbered V draft ∷ [])) ≡ length draft.jobs
unfolding numbered
jobs_of_draft V draft =
    rw (length-append, map-length, map-length)
    (omega (arith, numbers_many (1 + last_job V) draft.jobs))

-- what is behind in a list has no more
pub drop_low : (f : Body → ℕ) (m k : ℕ) (xs : List Body) → k ≤ m → sum_over f (drop m xs) ≤ sum_over f (drop k xs)
drop_low f zero zero xs low = omega arith
drop_low f zero (suc k) xs low = absurd (omega (arith, low))
drop_low f (suc m) zero [] low = omega arith
drop_low f (suc m) zero (x ∷ xs) low = omega (arith, drop_low f m zero xs (omega arith), whole xs)
  where
    whole : (xs : List Body) → sum_over f (drop zero xs) ≡ sum_over f xs
    whole [] = refl
    whole (x ∷ xs) = refl
drop_low f (suc m) (suc k) [] low = omega arith
drop_low f (suc m) (suc k) (x ∷ xs) low = drop_low f m k xs (omega (arith, low))

pub drop_next : (f : Body → ℕ) (k : ℕ) (xs : List Body) (b : Body) → slice_get xs k ≡ Some b
    → sum_over f (drop (1 + k) xs) + f b ≤ sum_over f (drop k xs)
drop_next f k xs b e = let same : 1 + k ≡ suc k = omega arith in rw same (go k xs e)
  where
    inside : (x b : Body) → Some x ≡ Some b → x ≡ b
    inside x b e = cc

    go : (k : ℕ) (xs : List Body) → slice_get xs k ≡ Some b → sum_over f (drop (suc k) xs) + f b ≤ sum_over f (drop k xs)
    go zero [] e = cc
    go zero (x ∷ xs) e = rw (sym (inside x b e)) (omega (arith, whole xs))
      where
        whole : (xs : List Body) → sum_over f (drop zero xs) ≡ sum_over f xs
        whole [] = refl
        whole (x ∷ xs) = refl
    go (suc k) [] e = cc
    go (suc k) (x ∷ xs) e = go k xs e

-- with the master's list, the orders that it was given, and how many of them there are
module _ (n : ℕ) (orders : ℕ → List Body) (L : List Body) (b : Body) where
  abbrev pub Streams : List Body → ℕ
  Streams M = length (docs_of M) + sum_over (λ a. length (orders a) - answered a M) (below n)

  abbrev pub Jobs : List Body → ℕ
  Jobs M = length (jobs_of_docs M) + sum_over (λ a. sum_over drafted (drop (answered a M) (orders a))) (below n)

  orders_less : (a : ℕ) → length (orders a) - answered a (L ++ b ∷ []) ≤ length (orders a) - answered a L
  orders_less a = omega (arith, answered-append a L (b ∷ []))

  drafts_less : (a : ℕ)
      → sum_over drafted (drop (answered a (L ++ b ∷ [])) (orders a)) ≤ sum_over drafted (drop (answered a L) (orders a))
  drafts_less a =
      drop_low drafted (answered a (L ++ b ∷ [])) (answered a L) (orders a) (omega (arith, answered-append a L (b ∷ [])))

  pub none_ahead : docs_in b ≡ [] → (Streams (L ++ b ∷ []) ≤ Streams L) × (Jobs (L ++ b ∷ []) ≤ Jobs L)
  none_ahead e = (
    omega (
      arith,
      docs_more L b,
      ap length e,
      sum_over_low (λ a. length (orders a) - answered a (L ++ b ∷ [])) (λ a. length (orders a) - answered a L)
          (below n) orders_less,
    ),
    omega (
      arith,
      jobs_more L b,
      ap (λ ds. length (flat_map jobs_in ds)) e,
      sum_over_low (λ a. sum_over drafted (drop (answered a (L ++ b ∷ [])) (orders a)))
          (λ a. sum_over drafted (drop (answered a L) (orders a))) (below n) drafts_less,
    ),
  )

-- a draft that is submitted
pub draft_ahead : (n : ℕ) (orders : ℕ → List Body) (L : List Body) (V : View) (a k : ℕ) (draft : StreamDraft) → a < n
    → slice_get (orders a) (answered a L) ≡ Some (Order (Submit draft))
    → (Streams n orders L (Added a k (numbered V draft)) (L ++ Added a k (numbered V draft) ∷ []) ≤ Streams n orders L (Added a k (numbered V draft)) L)
    × (Jobs n orders L (Added a k (numbered V draft)) (L ++ Added a k (numbered V draft) ∷ []) ≤ Jobs n orders L (Added a k (numbered V draft)) L)
draft_ahead n orders L V a k draft low e = (
  omega (
    arith,
    docs_more L b,
    sum_over_falls (λ a. length (orders a) - answered a (L ++ b ∷ [])) (λ a. length (orders a) - answered a L) 1 n a
        (orders_less n orders L b) low
        (omega (arith, found_within (orders a) (answered a L) (Order (Submit draft)) e, one)),
  ),
  omega (
    arith,
    jobs_more L b,
    jobs_of_draft V draft,
    sum_over_falls (λ a. sum_over drafted (drop (answered a (L ++ b ∷ [])) (orders a)))
        (λ a. sum_over drafted (drop (answered a L) (orders a))) (length draft.jobs) n a (drafts_less n orders L b) low
        (subst (λ (m : ℕ). sum_over drafted (drop m (orders a)) + length draft.jobs ≤ sum_over drafted (drop (answered a L) (orders a)))
        (sym one) (drop_next drafted (answered a L) (orders a) (Order (Submit draft)) e)),
  ),
)
  where
    b : Body
    b = Added a k (numbered V draft)

    one : answered a (L ++ Added a k (numbered V draft) ∷ []) ≡ 1 + answered a L
    one =
        omega (
          arith,
          answered-append a L (Added a k (numbered V draft) ∷ []),
          answered_one a (Added a k (numbered V draft)) (eq-eqb a a refl),
        )
