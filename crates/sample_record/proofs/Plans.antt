-- What streams are drawn.
use Rattle.std.proofs.Common.{◌≡◌, ◌==◌, ◌+◌, ◌-◌, ◌*◌, ◌<◌, ℕ, suc, zero, List, [], ◌∷◌, ◌++◌, length, map, false}
use Rattle.std.proofs.Common.{ap, sym, ◌∙◌, refl, append_assoc, zero-add, arith}
use Rattle.std.specs.List.{range_with_len}
use Rattle.std.proofs.lemmas.List.{map-append}
use Rattle.std.proofs.lemmas.List.FromFn.{length-map-range_with_len}
use Rattle.sample_record.specs.Draws.{number, after, draw}
use Rattle.sample_record.specs.Streams.{host_of, is_follower, head_draws, head_part, jobs_part, job_count, beginning}
use Rattle.sample_record.specs.Streams.{hosts_of, stream_part}
use Rattle.sample_record.proofs.Counting.{range_more}

pub first_follows : (n x : ℕ) → n ≡ 0 → is_follower n x ≡ false
first_follows n x e = ap (λ k. is_follower k x) e

pub later_follows : (n x : ℕ) → 0 < n → is_follower n x ≡ (draw x 2 2 == 0)
later_follows zero x some = absurd (let never : ⊥ = omega arith in never)
later_follows (suc n) x some = refl

-- draws behind draws
number_more : (x a b : ℕ) → number (number x a) b ≡ number x (a + b)
number_more x a zero = let e : a ≡ a + 0 = omega arith in ap (number x) e
number_more x a (suc b) =
    let e : suc (a + b) ≡ a + suc b = omega arith in ap after (number_more x a b) ∙ ap (number x) e

pub hosts_count : (jobs seed before : ℕ) → length (hosts_of jobs seed before) ≡ before
hosts_count jobs seed before =
    length-map-range_with_len (λ s. host_of (beginning jobs seed s)) 0 before

-- a stream with its jobs
module _ (jobs seed before x y z host first count : ℕ) (hosts : List ℕ)
    (begins : x ≡ beginning jobs seed before) (are : hosts ≡ hosts_of jobs seed before) (on : host ≡ host_of x)
    (head : y ≡ number x (head_draws (length hosts) x)) (drawn : z ≡ number y (count - 1))
    (number_is : first ≡ before * 10 + 1) (count_is : count ≡ job_count jobs before) where
  same_head : y ≡ number (beginning jobs seed before) (head_draws before (beginning jobs seed before))
  same_head =
      head ∙ ap (λ h. number x (head_draws (length h) x)) are
      ∙ ap (λ n. number x (head_draws n x)) (hosts_count jobs seed before)
      ∙ ap (λ b. number b (head_draws before b)) begins

  pub next_begins : z ≡ beginning jobs seed (before + 1)
  next_begins =
      let e : suc before ≡ before + 1 = omega arith in
      let b = beginning jobs seed before in
      drawn ∙ ap (λ n. number y (n - 1)) count_is ∙ ap (λ v. number v (job_count jobs before - 1)) same_head
      ∙ number_more b (head_draws before b) (job_count jobs before - 1) ∙ ap (beginning jobs seed) e

  pub next_hosts : hosts ++ host ∷ [] ≡ hosts_of jobs seed (before + 1)
  next_hosts =
      let f : ℕ → ℕ = λ s. host_of (beginning jobs seed s) in
      ap (λ h. h ++ host ∷ []) are ∙ ap (λ h. hosts_of jobs seed before ++ h ∷ []) (on ∙ ap host_of begins)
      ∙ sym (map-append f (range_with_len 0 before) (before ∷ []))
      ∙ ap (λ n. map f (range_with_len 0 before ++ n ∷ [])) (sym (zero-add before)) ∙ ap (map f) (sym (range_more 0 before))

  pub whole : (out middle new : List ℕ) → middle ≡ out ++ head_part hosts x
      → new ≡ middle ++ jobs_part host y first count → new ≡ out ++ stream_part jobs seed before
  unfolding stream_part
  whole out middle new wrote more =
      let b = beginning jobs seed before in
      let jobs_there = number b (head_draws before b) in
      more ∙ ap (λ m. m ++ jobs_part host y first count) wrote
      ∙ append_assoc out (head_part hosts x) (jobs_part host y first count)
      ∙ ap (λ p. out ++ p)
      (ap (λ h. head_part h x ++ jobs_part host y first count) are
      ∙ ap (λ v. head_part (hosts_of jobs seed before) v ++ jobs_part host y first count) begins
      ∙ ap (λ h. head_part (hosts_of jobs seed before) b ++ jobs_part h y first count) (on ∙ ap host_of begins)
      ∙ ap (λ v. head_part (hosts_of jobs seed before) b ++ jobs_part (host_of b) v first count) same_head
      ∙ ap (λ n. head_part (hosts_of jobs seed before) b ++ jobs_part (host_of b) jobs_there n count) number_is
      ∙ ap (λ n. head_part (hosts_of jobs seed before) b ++ jobs_part (host_of b) jobs_there (before * 10 + 1) n)
      count_is)
