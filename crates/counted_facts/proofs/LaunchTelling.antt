-- What one more entry tells of launches.
use Rattle.std.proofs.Common.{[], ℕ, ◌&&◌, ◌+◌, ◌++◌, ◌<◌, ◌∙◌, ◌∷◌, ◌≡◌, ◌^◌, ◌||◌, Bool, List, None, Option, Some, ap, arith}
use Rattle.std.proofs.Common.{cond, false, inl, inr, is_some, length, refl, subst, sym, true}
use Rattle.std.proofs.lemmas.List.Folds.{list_any-append}
use Rattle.std.proofs.lemmas.List.Sums.{count_by-le-length}
use Rattle.std.specs.Bool.{then_some}
use Rattle.std.specs.List.{list_any}
use Rattle.std.specs.Map.{lookup}
use Rattle.std.specs.Prelude.{◌==◌, count_by, nat_eq, unwrap_or}
use Rattle.indexmap.specs.IndexMap.{get}
use Rattle.indexmap.specs.IndexSet.{contains}
use Rattle.model.specs.Types.{Added, Body, Clock, Declined, Ended, Entry, Events, Failed, Feed, Fulfilled, Late, Launched}
use Rattle.model.specs.Types.{Lost, NewPlan, Obeyed, Order, Orders, Released, Started, StreamEnded, UntilPassed}
use Rattle.model.specs.Equalities.{feed_eq}
use Rattle.model.specs.History.{list_of}
use Rattle.model.specs.Words.{some_is}
use Rattle.model.specs.Facts.{is_launch_of}
use Rattle.model.specs.Sound.{is_numbered_launch}
use Rattle.std.proofs.Math.Nat.{add_comm}
use Rattle.lemmas.proofs.Booleans.{and_false, or_false, or_turned}
use Rattle.lemmas.proofs.Numbers.{eq_turned}
use Rattle.owner_rows.proofs.Further.{count_with}
use Rattle.owner_rows.proofs.Feeds.{feed_cases, list_with, list_without}
use Rattle.counted_facts.specs.Keys.{Key, end_in, ends_launch, job_in, key_at, launch_in, same_key}
use Rattle.counted_facts.specs.Marks.{CountsOne, MarksOne, is_key}
use Rattle.counted_facts.specs.Launches.{AreTold}
use Rattle.counted_facts.specs.declared.launch_rows.ToldLaunches.{ToldLaunches}

-- one more in the list of w, or none
pub any_further : (G : List Entry) (e : Entry) (w : ℕ) (test : Body → Bool)
    → list_any test (list_of (G ++ e ∷ []) (Events w))
    ≡ ((feed_eq (Events w) e.feed && test e.body) || list_any test (list_of G (Events w)))
any_further G e w test = elim (feed_cases (Events w) e.feed) [
  | inl c ↦ ap (λ (l : List Body). list_any test l) (list_with G e (Events w) c.0)
      ∙ list_any-append test (list_of G (Events w)) (e.body ∷ [])
      ∙ ap (λ (b : Bool). list_any test (list_of G (Events w)) || b) (or_false (test e.body))
      ∙ or_turned (list_any test (list_of G (Events w))) (test e.body)
      ∙ ap (λ (b : Bool). (b && test e.body) || list_any test (list_of G (Events w))) (sym c.0)
  | inr c ↦ ap (λ (l : List Body). list_any test l) (list_without G e (Events w) c)
      ∙ ap (λ (b : Bool). (b && test e.body) || list_any test (list_of G (Events w))) (sym c)
]

-- the launch of a body, in the list of w
here : (v w : ℕ) (q : Option (ℕ × ℕ)) (j n : ℕ) → Bool
here v w None j n = false
here v w (Some q) j n = same_key (v, q) (w, (j, n))

three_turned : (v w k j m n : ℕ) → ((w == v) && ((j == k) && (n == m))) ≡ ((v == w) && ((k == j) && (m == n)))
three_turned v w k j m n = rw (eq_turned w v, eq_turned j k, eq_turned n m) refl

launch_here : (f : Feed) (b : Body) (w j n : ℕ)
    → (feed_eq (Events w) f && is_numbered_launch j n b) ≡ is_key (key_at f (launch_in b)) (w, (j, n))
launch_here (Events v) (Launched k m seen) w j n = three_turned v w k j m n
launch_here (Events v) (NewPlan run cut carried docs) w j n = and_false (w == v)
launch_here (Events v) (Added a k doc) w j n = and_false (w == v)
launch_here (Events v) (Clock t) w j n = and_false (w == v)
launch_here (Events v) (Released s seen) w j n = and_false (w == v)
launch_here (Events v) (StreamEnded s seen) w j n = and_false (w == v)
launch_here (Events v) (UntilPassed o i what) w j n = and_false (w == v)
launch_here (Events v) (Started k m) w j n = and_false (w == v)
launch_here (Events v) (Failed k m) w j n = and_false (w == v)
launch_here (Events v) (Ended k m rc good) w j n = and_false (w == v)
launch_here (Events v) (Lost k m) w j n = and_false (w == v)
launch_here (Events v) (Fulfilled o i) w j n = and_false (w == v)
launch_here (Events v) (Obeyed a k c) w j n = and_false (w == v)
launch_here (Events v) (Declined a k why) w j n = and_false (w == v)
launch_here (Events v) (Order c) w j n = and_false (w == v)
launch_here (Events v) (Late o i) w j n = and_false (w == v)
launch_here (Orders a v) b w j n = refl

some_then : {X : Type 0} (b : Bool) (x : X) → is_some (then_some b x) ≡ b
some_then true x = refl
some_then false x = refl

end_here : (f : Feed) (b : Body) (w j n : ℕ)
    → (feed_eq (Events w) f && ends_launch j n b) ≡ is_key (key_at f (end_in b)) (w, (j, n))
end_here (Events v) (Failed k m) w j n =
    ap (λ (b : Bool). (w == v) && b) (some_then ((j == k) && (n == m)) _) ∙ three_turned v w k j m n
end_here (Events v) (Ended k m rc good) w j n =
    ap (λ (b : Bool). (w == v) && b) (some_then ((j == k) && (n == m)) _) ∙ three_turned v w k j m n
end_here (Events v) (Lost k m) w j n =
    ap (λ (b : Bool). (w == v) && b) (some_then ((j == k) && (n == m)) _) ∙ three_turned v w k j m n
end_here (Events v) (Launched k m seen) w j n = and_false (w == v)
end_here (Events v) (NewPlan run cut carried docs) w j n = and_false (w == v)
end_here (Events v) (Added a k doc) w j n = and_false (w == v)
end_here (Events v) (Clock t) w j n = and_false (w == v)
end_here (Events v) (Released s seen) w j n = and_false (w == v)
end_here (Events v) (StreamEnded s seen) w j n = and_false (w == v)
end_here (Events v) (UntilPassed o i what) w j n = and_false (w == v)
end_here (Events v) (Started k m) w j n = and_false (w == v)
end_here (Events v) (Fulfilled o i) w j n = and_false (w == v)
end_here (Events v) (Obeyed a k c) w j n = and_false (w == v)
end_here (Events v) (Declined a k why) w j n = and_false (w == v)
end_here (Events v) (Order c) w j n = and_false (w == v)
end_here (Events v) (Late o i) w j n = and_false (w == v)
end_here (Orders a v) b w j n = refl

-- one more of a job
count_further : (G : List Entry) (e : Entry) (test : Entry → Bool)
    → count_by test (G ++ e ∷ []) ≡ cond (test e) 1 0 + count_by test G
count_further G e test = count_with test G e ∙ add_comm (count_by test G) (cond (test e) 1 0)

job_here : (b : Body) (j : ℕ) → some_is (job_in b) j ≡ is_launch_of j b
job_here (Launched k m seen) j = eq_turned k j
job_here (NewPlan run cut carried docs) j = refl
job_here (Added a k doc) j = refl
job_here (Clock t) j = refl
job_here (Released s seen) j = refl
job_here (StreamEnded s seen) j = refl
job_here (UntilPassed o i what) j = refl
job_here (Started k m) j = refl
job_here (Failed k m) j = refl
job_here (Ended k m rc good) j = refl
job_here (Lost k m) j = refl
job_here (Fulfilled o i) j = refl
job_here (Obeyed a k c) j = refl
job_here (Declined a k why) j = refl
job_here (Order c) j = refl
job_here (Late o i) j = refl

-- all rows, one entry further
pub told_further : (old new : ToldLaunches) (e : Entry) (job : Option ℕ) (launch end_ : Option Key)
    → job ≡ job_in e.body → launch ≡ key_at e.feed (launch_in e.body) → end_ ≡ key_at e.feed (end_in e.body)
    → CountsOne job old.counts new.counts → MarksOne launch old.launched new.launched
    → MarksOne end_ old.ended new.ended → (G : List Entry) → length G + 1 < 2 ^ 32 → AreTold G old
    → AreTold (G ++ e ∷ []) new
told_further old new e job launch end_ is_job is_launch is_end counts launched ended G few h =
    record {
      counts = λ j.
          let all : unwrap_or (get nat_eq old.counts j) 0 ≡ count_by (λ (x : Entry). is_launch_of j x.body) G
          = h.counts j in
          let within = count_by-le-length (λ (x : Entry). is_launch_of j x.body) G in
          counts j (omega (arith, all, within, few))
          ∙ ap (λ (q : Option ℕ). cond (some_is q j) 1 0 + unwrap_or (get nat_eq old.counts j) 0) is_job
          ∙ ap (λ (b : Bool). cond b 1 0 + unwrap_or (get nat_eq old.counts j) 0) (job_here e.body j)
          ∙ ap (λ (m : ℕ). cond (is_launch_of j e.body) 1 0 + m) all
          ∙ sym (count_further G e (λ (x : Entry). is_launch_of j x.body));
      launched = λ w j n.
          launched (w, (j, n))
          ∙ ap (λ (q : Option Key). is_key q (w, (j, n)) || contains same_key old.launched (w, (j, n))) is_launch
          ∙ ap (λ (b : Bool). b || contains same_key old.launched (w, (j, n))) (sym (launch_here e.feed e.body w j n))
          ∙ ap (λ (b : Bool). (feed_eq (Events w) e.feed && is_numbered_launch j n e.body) || b) (h.launched w j n)
          ∙ sym (any_further G e w (is_numbered_launch j n));
      ended = λ w j n.
          ended (w, (j, n))
          ∙ ap (λ (q : Option Key). is_key q (w, (j, n)) || contains same_key old.ended (w, (j, n))) is_end
          ∙ ap (λ (b : Bool). b || contains same_key old.ended (w, (j, n))) (sym (end_here e.feed e.body w j n))
          ∙ ap (λ (b : Bool). (feed_eq (Events w) e.feed && ends_launch j n e.body) || b) (h.ended w j n)
          ∙ sym (any_further G e w (ends_launch j n));
    }

-- nothing is told
pub nothing_told : (t : ToldLaunches) → t.counts.entries ≡ [] → t.launched.keys ≡ [] → t.ended.keys ≡ []
    → AreTold [] t
unfolding list_of
nothing_told t no_count no_launch no_end =
    record {
      counts = λ j. ap (λ (l : List (ℕ × ℕ)). unwrap_or (lookup (nat_eq j) l) 0) no_count;
      launched = λ w j n. ap (λ (l : List Key). list_any (same_key (w, (j, n))) l) no_launch;
      ended = λ w j n. ap (λ (l : List Key). list_any (same_key (w, (j, n))) l) no_end;
    }

-- a launch that is asked by its numbers
pub launched_at : (t : ToldLaunches) (G : List Entry) (v w k j n : ℕ) (b : Bool) → v ≡ w → k ≡ j
    → b ≡ contains same_key t.launched (v, (k, n)) → AreTold G t
    → b ≡ list_any (is_numbered_launch j n) (list_of G (Events w))
launched_at t G v w k j n b e f is h = is ∙ rw (e, f) (h.launched w j n)
