-- The rows of a table, one entry further: the row of whom the entry speaks is told the body, and all others stay.
use Rattle.std.proofs.Common.{[], ℕ, ◌+◌, ◌++◌, ◌<◌, ◌^◌, ◌∙◌, ◌∷◌, ◌≡◌, ◌≢◌, Bool, List, None, Option, Some, ap}
use Rattle.std.proofs.Common.{cond, false}
use Rattle.std.proofs.Common.{inl, inr, length, option_map, refl, subst, sym, true}
use Rattle.lemmas.proofs.Numbers.{number_itself}
use Rattle.model.specs.Types.{Body, Entry, Events, Feed, Orders}
use Rattle.model.specs.Equalities.{feed_eq}
use Rattle.model.specs.History.{list_of}
use Rattle.owner_rows.specs.Subjects.{key_at, key_in}
use Rattle.owner_rows.specs.Tables.{keys_meet}
use Rattle.owner_rows.proofs.Feeds.{feed_cases, list_with, list_without}
use Rattle.owner_rows.proofs.Keys.{keys_alike, keys_tell}

-- whom a body does not speak of keeps its row
abbrev pub Quiet : {N R : Type 0} → (List Body → N → R → Type 0) → (Body → Option N) → Type 0
Quiet {N} {R} Is subject =
    (events : List Body) (b : Body) (n : N) (r : R) → subject b ≢ Some n → Is events n r → Is (events ++ b ∷ []) n r

module _ {N R : Type 0} (one : N → N → Bool) (tells : (a b : N) → one a b ≡ true → a ≡ b)
    (alike : (a : N) → one a a ≡ true) (Is : List Body → N → R → Type 0) (subject : Body → Option N)
    (quiet : Quiet Is subject) (kept : List Entry) (e : Entry) (old : ℕ × N → R)
    (before : (w : ℕ) (n : N) → Is (list_of kept (Events w)) n (old (w, n))) where
  key_here : (w : ℕ) (n : N) → Events w ≡ e.feed → subject e.body ≡ Some n → key_in subject e ≡ Some (w, n)
  key_here w n h k =
      ap (key_at (subject e.body)) (sym h) ∙ ap (λ (o : Option N). option_map (λ n. (w, n)) o) k

  -- a row that the entry does not speak of
  pub row_stays : (w : ℕ) (n : N) → key_in subject e ≢ Some (w, n)
      → Is (list_of (kept ++ e ∷ []) (Events w)) n (old (w, n))
  row_stays w n h =
      elim (feed_cases (Events w) e.feed) [
        | inl c ↦ subst (λ (l : List Body). Is l n (old (w, n))) (sym (list_with kept e (Events w) c.0))
            (quiet (list_of kept (Events w)) e.body n (old (w, n)) (λ k. h (key_here w n c.1 k)) (before w n))
        | inr c ↦ subst (λ (l : List Body). Is l n (old (w, n))) (sym (list_without kept e (Events w) c)) (before w n)
      ]

  feed_is : (o : Option N) (f : Feed) (k : ℕ × N) → key_at o f ≡ Some k → f ≡ Events k.0
  feed_is None (Events w) k h = cc
  feed_is (Some n) (Events w) k h = let e : (w, n) ≡ k = cc in ap (λ (q : ℕ × N). Events q.0) e
  feed_is o (Orders a w) k h = cc

  subject_at : (o : Option N) (f : Feed) (k : ℕ × N) → key_at o f ≡ Some k → o ≡ Some k.1
  subject_at None (Events w) k h = cc
  subject_at (Some n) (Events w) k h = let e : (w, n) ≡ k = cc in ap (λ (q : ℕ × N). Some q.1) e
  subject_at o (Orders a w) k h = cc

  -- all rows, where the entry speaks of nobody
  pub rows_stay : key_in subject e ≡ None → (w : ℕ) (n : N) → Is (list_of (kept ++ e ∷ []) (Events w)) n (old (w, n))
  rows_stay h w n = row_stays w n (λ k. cc)

  -- all rows, where it speaks of one and that one is told
  pub rows_told : (k : ℕ × N) (r : R) (new : ℕ × N → R) → key_in subject e ≡ Some k
      → length (list_of kept e.feed) + 1 < 2 ^ 32
      → (length (list_of kept (Events k.0)) + 1 < 2 ^ 32 → subject e.body ≡ Some k.1
      → Is (list_of kept (Events k.0) ++ e.body ∷ []) k.1 r)
      → ((q : ℕ × N) → new q ≡ cond (keys_meet one k q) r (old q))
      → (w : ℕ) (n : N) → Is (list_of (kept ++ e ∷ []) (Events w)) n (new (w, n))
  rows_told k r new h room here put w n =
      subst (Is (list_of (kept ++ e ∷ []) (Events w)) n) (sym (put (w, n))) (go (keys_meet one k (w, n)) refl)
    where
      feed : e.feed ≡ Events k.0
      feed = feed_is (subject e.body) e.feed k h

      told : Is (list_of kept (Events k.0) ++ e.body ∷ []) k.1 r
      told =
          here (subst (λ (f : Feed). length (list_of kept f) + 1 < 2 ^ 32) feed room)
          (subject_at (subject e.body) e.feed k h)

      same : feed_eq (Events k.0) e.feed ≡ true
      same = subst (λ (f : Feed). feed_eq (Events k.0) f ≡ true) (sym feed) (number_itself k.0)

      is_one : key_in subject e ≡ Some (w, n) → k ≡ (w, n)
      is_one s = let t : Some k ≡ Some (w, n) = sym h ∙ s in cc

      go : (b : Bool) → keys_meet one k (w, n) ≡ b → Is (list_of (kept ++ e ∷ []) (Events w)) n (cond b r (old (w, n)))
      go true c =
          subst (λ (q : ℕ × N). Is (list_of (kept ++ e ∷ []) (Events q.0)) q.1 r) (keys_tell one tells k (w, n) c)
          (subst (λ (l : List Body). Is l k.1 r) (sym (list_with kept e (Events k.0) same)) told)
      go false c =
          row_stays w n (λ s. absurd (let t : true ≡ false = sym (keys_alike one alike k) ∙ ap (keys_meet one k) (is_one s) ∙ c in cc))

-- rows that are read as before
pub rows_same : {N R : Type 0} (Is : List Body → N → R → Type 0) (kept : List Entry) (old new : ℕ × N → R)
    → ((q : ℕ × N) → new q ≡ old q) → ((w : ℕ) (n : N) → Is (list_of kept (Events w)) n (old (w, n)))
    → (w : ℕ) (n : N) → Is (list_of kept (Events w)) n (new (w, n))
rows_same {N} {R} Is kept old new same h w n =
    subst (λ (r : R). Is (list_of kept (Events w)) n r) (sym (same (w, n))) (h w n)
