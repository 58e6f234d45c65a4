-- Timelines after one more entry: what it speaks of is told, and all else stays.
use Rattle.std.proofs.Common.{[], ℕ, ◌&&◌, ◌+◌, ◌++◌, ◌<◌, ◌∙◌, ◌∷◌, ◌≡◌, ◌≢◌, ◌≤◌, ◌⊎◌, Bool, List, None, Option, Some, ap}
use Rattle.std.proofs.Common.{arith, cond, false, inl, inr, length, length-append, refl, subst, sym, take, true}
use Rattle.std.proofs.lemmas.Bool.Decides.{eqb_tells}
use Rattle.std.proofs.lemmas.List.{take-append-le}
use Rattle.std.specs.Prelude.{◌==◌}
use Rattle.lemmas.proofs.Numbers.{eq_refused, number_itself}
use Rattle.lemmas.proofs.Options.{some_same}
use Rattle.lemmas.proofs.Booleans.{contrary}
use Rattle.model.specs.Types.{Body, Entry, Events, Feed, Orders}
use Rattle.model.specs.Equalities.{feed_eq}
use Rattle.model.specs.History.{list_of}
use Rattle.owner_rows.specs.Subjects.{key_at, key_in}
use Rattle.owner_rows.specs.Tables.{keys_meet, same_key}
use Rattle.owner_rows.proofs.Feeds.{feed_cases, list_with, list_without}
use Rattle.owner_rows.proofs.Keys.{key_is_itself, key_tells}
use Rattle.counted_facts.specs.Timelines.{AreHalfTold, AreTimelines, HasOneMore, IsTimelineOf, change_in, count_in}
use Rattle.counted_facts.specs.declared.timelines.Timelines.{Timelines}
use Rattle.counted_facts.proofs.Lines.{alike, pushed, stays}

key_cases : (p q : ℕ × ℕ) → (p ≡ q) ⊎ (same_key p q ≡ false)
key_cases p q = go (same_key p q) refl
  where
    go : (b : Bool) → same_key p q ≡ b → (p ≡ q) ⊎ (same_key p q ≡ false)
    go true h = inl (key_tells p q h)
    go false h = inr h

three_false : (a b c : Bool) → (a && b) ≡ false → (a && (b && c)) ≡ false
three_false true true c h = cc
three_false true false c h = refl
three_false false b c h = refl

meet_at : (w n a b : ℕ) → keys_meet same_key (w, (n, a)) (w, (n, b)) ≡ (a == b)
meet_at w n a b = rw (number_itself w, number_itself n) refl

module _ {X : Type 0} (fact : ℕ → List Body → X) (G : List Entry) (e : Entry) where
  list_half : (a : Bool) (w : ℕ) → feed_eq (Events w) e.feed ≡ false
      → list_of (cond a (G ++ e ∷ []) G) (Events w) ≡ list_of G (Events w)
  list_half true w h = list_without G e (Events w) h
  list_half false w h = refl

  module _ (w : ℕ) (here : Events w ≡ e.feed) where
    same_feed : feed_eq (Events w) e.feed ≡ true
    same_feed = subst (λ (f : Feed). feed_eq (Events w) f ≡ true) here (number_itself w)

    pub grown : list_of (G ++ e ∷ []) (Events w) ≡ list_of G (Events w) ++ e.body ∷ []
    grown = list_with G e (Events w) same_feed

    pub one_longer : length (list_of (G ++ e ∷ []) (Events w)) ≡ length (list_of G (Events w)) + 1
    one_longer = ap length grown ∙ length-append (list_of G (Events w)) (e.body ∷ [])

    short : (a : Bool) → length (list_of (cond a (G ++ e ∷ []) G) (Events w)) ≤ length (list_of (G ++ e ∷ []) (Events w))
    short true = omega arith
    short false = let more = one_longer in omega (arith, more)

    front : (a : Bool) (n : ℕ) → n < length (list_of (G ++ e ∷ []) (Events w))
        → (n ≤ length (list_of (cond a (G ++ e ∷ []) G) (Events w)))
        × (take n (list_of (G ++ e ∷ []) (Events w)) ≡ take n (list_of (cond a (G ++ e ∷ []) G) (Events w)))
    front true n less = (omega (arith, less), refl)
    front false n less =
        let more = one_longer in
        let within : n ≤ length (list_of G (Events w)) = omega (arith, less, more) in (
          within,
          ap (λ (l : List Body). take n l) grown ∙ take-append-le n (list_of G (Events w)) (e.body ∷ []) within,
        )

  -- one more change
  module _ (done after : ℕ → Bool) (w0 n0 from : ℕ) (value : X) (old new : Timelines X)
      (h : AreHalfTold fact G e done old) (more : HasOneMore (w0, n0) from value old new) (here : Events w0 ≡ e.feed)
      (is_from : from ≡ length (list_of G (Events w0)) + 1)
      (is_value : value ≡ fact n0 (list_of (G ++ e ∷ []) (Events w0))) (now : after n0 ≡ true)
      (others : (n : ℕ) → (n ≡ n0 → ⊥) → after n ≡ done n) where
    counted : count_in new (w0, n0) ≡ count_in old (w0, n0) + 1
    counted =
        more.counts (w0, n0)
        ∙ ap (λ (b : Bool). cond b (count_in old (w0, n0) + 1) (count_in old (w0, n0))) (key_is_itself (w0, n0))

    changed : (i : ℕ)
        → change_in new (w0, (n0, i))
        ≡ cond ((count_in old (w0, n0) + 1) == i) (from, value) (change_in old (w0, (n0, i)))
    changed i =
        more.changes (w0, (n0, i))
        ∙ ap (λ (b : Bool). cond b (from, value) (change_in old (w0, (n0, i))))
        (meet_at w0 n0 (count_in old (w0, n0) + 1) i)

    before : (i : ℕ) → i ≤ count_in old (w0, n0) → change_in new (w0, (n0, i)) ≡ change_in old (w0, (n0, i))
    before i less =
        changed i
        ∙ ap (λ (b : Bool). cond b (from, value) (change_in old (w0, (n0, i))))
        (eq_refused (count_in old (w0, n0) + 1) i (λ f. omega (arith, f, less)))

    at_end : change_in new (w0, (n0, count_in old (w0, n0) + 1))
        ≡ (length (list_of (G ++ e ∷ []) (Events w0)), fact n0 (list_of (G ++ e ∷ []) (Events w0)))
    at_end =
        changed (count_in old (w0, n0) + 1)
        ∙ ap (λ (b : Bool). cond b (from, value) (change_in old (w0, (n0, count_in old (w0, n0) + 1))))
        (number_itself (count_in old (w0, n0) + 1))
        ∙ ap (λ (m : ℕ). (m, value)) (is_from ∙ sym (one_longer w0 here))
        ∙ ap (λ (x : X). (length (list_of (G ++ e ∷ []) (Events w0)), x)) is_value

    told_here : IsTimelineOf (fact n0) (count_in new (w0, n0)) (λ i. change_in new (w0, (n0, i)))
        (list_of (cond (after n0) (G ++ e ∷ []) G) (Events w0))
    told_here =
        subst (λ (a : Bool).
        IsTimelineOf (fact n0) (count_in new (w0, n0)) (λ i. change_in new (w0, (n0, i)))
        (list_of (cond a (G ++ e ∷ []) G) (Events w0))) (sym now)
        (pushed (fact n0) (count_in old (w0, n0)) (count_in new (w0, n0)) (λ i. change_in old (w0, (n0, i)))
        (λ i. change_in new (w0, (n0, i))) (list_of (cond (done n0) (G ++ e ∷ []) G) (Events w0))
        (list_of (G ++ e ∷ []) (Events w0)) (h w0 n0) (short w0 here (done n0)) (front w0 here (done n0)) counted
        before at_end)

    same_list : (w n : ℕ) → same_key (w0, n0) (w, n) ≡ false
        → list_of (cond (after n) (G ++ e ∷ []) G) (Events w) ≡ list_of (cond (done n) (G ++ e ∷ []) G) (Events w)
    same_list w n other = elim (eqb_tells n n0) [
      | inl t ↦ list_half (after n) w (elsewhere t.1) ∙ sym (list_half (done n) w (elsewhere t.1))
      | inr t ↦ ap (λ (a : Bool). list_of (cond a (G ++ e ∷ []) G) (Events w)) (others n t.1)
    ]
      where
        not_here : n ≡ n0 → (w ≡ w0 → ⊥)
        not_here f g =
            contrary (key_is_itself (w0, n0)) (subst (λ (v : ℕ). same_key (w0, n0) (v, n0) ≡ false) g
            (subst (λ (m : ℕ). same_key (w0, n0) (w, m) ≡ false) f other))

        elsewhere : n ≡ n0 → feed_eq (Events w) e.feed ≡ false
        elsewhere f = subst (λ (g : Feed). feed_eq (Events w) g ≡ false) here (eq_refused w w0 (not_here f))

    pub one_told : AreHalfTold fact G e after new
    one_told w n = elim (key_cases (w0, n0) (w, n)) [
      | inl c ↦ subst (λ (v : ℕ).
          IsTimelineOf (fact n) (count_in new (v, n)) (λ i. change_in new (v, (n, i)))
          (list_of (cond (after n) (G ++ e ∷ []) G) (Events v))) (ap (λ (q : ℕ × ℕ). q.0) c)
          (subst (λ (m : ℕ).
          IsTimelineOf (fact m) (count_in new (w0, m)) (λ i. change_in new (w0, (m, i)))
          (list_of (cond (after m) (G ++ e ∷ []) G) (Events w0))) (ap (λ (q : ℕ × ℕ). q.1) c) told_here)
      | inr c ↦ alike (fact n) (count_in old (w, n)) (count_in new (w, n)) (λ i. change_in old (w, (n, i)))
          (λ i. change_in new (w, (n, i))) (list_of (cond (done n) (G ++ e ∷ []) G) (Events w))
          (list_of (cond (after n) (G ++ e ∷ []) G) (Events w)) (h w n)
          (more.counts (w, n)
          ∙ ap (λ (b : Bool). cond b (count_in old (w0, n0) + 1) (count_in old (w, n))) c)
          (λ i. more.changes (w, (n, i))
          ∙ ap (λ (b : Bool). cond b (from, value) (change_in old (w, (n, i))))
          (three_false (w0 == w) (n0 == n) ((count_in old (w0, n0) + 1) == i) c))
          (same_list w n c)
    ]

  -- those of whom the entry does not speak stay
  pub all_told : (done : ℕ → Bool) (t : Timelines X) → AreHalfTold fact G e done t
      → ((w n : ℕ) → Events w ≡ e.feed → done n ≡ false
      → fact n (list_of G (Events w) ++ e.body ∷ []) ≡ fact n (list_of G (Events w)))
      → AreTimelines fact (G ++ e ∷ []) t
  all_told done t h quiet w n = go (done n) refl (h w n)
    where
      go : (a : Bool) → done n ≡ a
          → IsTimelineOf (fact n) (count_in t (w, n)) (λ i. change_in t (w, (n, i)))
          (list_of (cond a (G ++ e ∷ []) G) (Events w))
          → IsTimelineOf (fact n) (count_in t (w, n)) (λ i. change_in t (w, (n, i)))
          (list_of (G ++ e ∷ []) (Events w))
      go true f k = k
      go false f k = elim (feed_cases (Events w) e.feed) [
        | inl c ↦ subst (λ (l : List Body).
            IsTimelineOf (fact n) (count_in t (w, n)) (λ i. change_in t (w, (n, i))) l)
            (sym (list_with G e (Events w) c.0))
            (stays (fact n) (count_in t (w, n)) (λ i. change_in t (w, (n, i))) (list_of G (Events w)) e.body k
            (quiet w n c.1 f))
        | inr c ↦ subst (λ (l : List Body).
            IsTimelineOf (fact n) (count_in t (w, n)) (λ i. change_in t (w, (n, i))) l)
            (sym (list_without G e (Events w) c)) k
      ]

  -- told of the same numbers
  pub half_same : (done after : ℕ → Bool) (t : Timelines X) → ((n : ℕ) → after n ≡ done n)
      → AreHalfTold fact G e done t → AreHalfTold fact G e after t
  half_same done after t same h w n =
      subst (λ (a : Bool).
      IsTimelineOf (fact n) (count_in t (w, n)) (λ i. change_in t (w, (n, i)))
      (list_of (cond a (G ++ e ∷ []) G) (Events w))) (sym (same n)) (h w n)

-- what a body does not speak of stays
abbrev pub Quiet : {X : Type 0} → (ℕ → List Body → X) → (Body → Option ℕ) → Type 0
Quiet fact subject =
    (events : List Body) (b : Body) (n : ℕ) → subject b ≢ Some n → fact n (events ++ b ∷ []) ≡ fact n events

key_feed : (o : Option ℕ) (f : Feed) (w n : ℕ) → key_at o f ≡ Some (w, n) → Events w ≡ f
key_feed None (Events v) w n h = cc
key_feed (Some m) (Events v) w n h =
    let e : (v, m) ≡ (w, n) = cc in sym (ap (λ (q : ℕ × ℕ). Events q.0) e)
key_feed o (Orders a v) w n h = cc

key_number : (o : Option ℕ) (f : Feed) (w n : ℕ) → key_at o f ≡ Some (w, n) → o ≡ Some n
key_number None (Events v) w n h = cc
key_number (Some m) (Events v) w n h =
    let e : (v, m) ≡ (w, n) = cc in ap (λ (q : ℕ × ℕ). Some q.1) e
key_number o (Orders a v) w n h = cc

no_key : (o : Option ℕ) (f : Feed) (w n : ℕ) → key_at o f ≡ None → Events w ≡ f → o ≡ Some n → ⊥
no_key None (Events v) w n h f g = cc
no_key (Some m) (Events v) w n h f g = cc
no_key o (Orders a v) w n h f g = cc

module _ {X : Type 0} (fact : ℕ → List Body → X) (subject : Body → Option ℕ) (quiet : Quiet fact subject)
    (G : List Entry) (e : Entry) where
  -- the entry speaks of nobody
  pub none_told : (t : Timelines X) → key_in subject e ≡ None → AreTimelines fact G t → AreTimelines fact (G ++ e ∷ []) t
  none_told t none h =
      all_told fact G e (λ n. false) t h
      (λ w n here f. quiet (list_of G (Events w)) e.body n (no_key (subject e.body) e.feed w n none here))

  -- it speaks of one, and that one is told
  pub told_one : (w0 n0 from : ℕ) (value : X) (old new : Timelines X) → key_in subject e ≡ Some (w0, n0)
      → HasOneMore (w0, n0) from value old new → from ≡ length (list_of G e.feed) + 1
      → value ≡ fact n0 (list_of (G ++ e ∷ []) (Events w0)) → AreTimelines fact G old
      → AreTimelines fact (G ++ e ∷ []) new
  told_one w0 n0 from value old new key more is_from is_value h =
      let here : Events w0 ≡ e.feed = key_feed (subject e.body) e.feed w0 n0 key in
      let number : subject e.body ≡ Some n0 = key_number (subject e.body) e.feed w0 n0 key in
      all_told fact G e (λ n. n0 == n) new
      (one_told fact G e (λ n. false) (λ n. n0 == n) w0 n0 from value old new h more here
      (is_from ∙ sym (ap (λ (f : Feed). length (list_of G f) + 1) here)) is_value (number_itself n0)
      (λ n other. eq_refused n0 n (λ f. other (sym f))))
      (λ w n there f. quiet (list_of G (Events w)) e.body n
      (λ s. contrary (number_itself n) (subst (λ (m : ℕ). (m == n) ≡ false) (some_same n0 n (sym number ∙ s)) f)))
