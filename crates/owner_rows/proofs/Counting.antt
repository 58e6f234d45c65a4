-- Counts of feeds, one entry further.
use Rattle.std.proofs.Common.{[], ℕ, ◌+◌, ◌++◌, ◌<◌, ◌^◌, ◌∙◌, ◌∷◌, ◌≡◌, Bool, List, ap, arith, cond, false, inl, inr}
use Rattle.std.proofs.Common.{length, length-append, refl, sym, true}
use Rattle.model.specs.Types.{Entry, Events, Feed, Orders}
use Rattle.model.specs.Equalities.{feed_eq}
use Rattle.model.specs.History.{list_of}
use Rattle.owner_rows.specs.Counts.{AreCounts, feed_key}
use Rattle.owner_rows.specs.Tables.{row_in, same_key}
use Rattle.owner_rows.specs.declared.tables.Table.{Table}
use Rattle.owner_rows.proofs.Feeds.{feed_cases, list_with, list_without}
use Rattle.owner_rows.proofs.Keys.{key_is_itself, key_tells}

-- feeds with one key are one
pub one_feed : (f g : Feed) → feed_key f ≡ feed_key g → f ≡ g
one_feed (Events w) (Events v) h = ap (λ (q : ℕ × ℕ). Events q.0) h
one_feed (Orders a w) (Orders b v) h =
    let e : w ≡ v = ap (λ (q : ℕ × ℕ). q.0) h in
    let f : a + 1 ≡ b + 1 = ap (λ (q : ℕ × ℕ). q.1) h in
    let g : a ≡ b = omega (arith, f) in
    λ j. Orders (g j) (e j)
one_feed (Events w) (Orders b v) h = let f : 0 ≡ b + 1 = ap (λ (q : ℕ × ℕ). q.1) h in absurd (omega (arith, f))
one_feed (Orders a w) (Events v) h = let f : a + 1 ≡ 0 = ap (λ (q : ℕ × ℕ). q.1) h in absurd (omega (arith, f))

pub itself : (f : Feed) → feed_eq f f ≡ true
itself f = elim (feed_cases f f) [ inl c ↦ c.0 | inr c ↦ always f c ]
  where
    always : (f : Feed) → feed_eq f f ≡ false → feed_eq f f ≡ true
    always (Events w) c = grind (arith, c)
    always (Orders a w) c = grind (arith, c)

pub counts_with : (kept : List Entry) (e : Entry) (old new : Table ℕ) (row : ℕ)
    → length (list_of kept e.feed) + 1 < 2 ^ 32 → AreCounts kept old
    → (row_in old (feed_key e.feed) + 1 < 2 ^ 32 → row ≡ row_in old (feed_key e.feed) + 1)
    → ((q : ℕ × ℕ) → row_in new q ≡ cond (same_key (feed_key e.feed) q) row (row_in old q))
    → AreCounts (kept ++ e ∷ []) new
counts_with kept e old new row room h more put f = put (feed_key f) ∙ go (same_key (feed_key e.feed) (feed_key f)) refl
  where
    count : row_in old (feed_key e.feed) ≡ length (list_of kept e.feed)
    count = h e.feed

    grown : row ≡ length (list_of kept e.feed) + 1
    grown = more (omega (arith, count, room)) ∙ ap (λ n. n + 1) count

    go : (b : Bool) → same_key (feed_key e.feed) (feed_key f) ≡ b
        → cond b row (row_in old (feed_key f)) ≡ length (list_of (kept ++ e ∷ []) f)
    go true c =
        let s : e.feed ≡ f = one_feed e.feed f (key_tells (feed_key e.feed) (feed_key f) c) in
        grown ∙ sym (length-append (list_of kept e.feed) (e.body ∷ []))
        ∙ ap length (sym (list_with kept e e.feed (itself e.feed)))
        ∙ ap (λ (g : Feed). length (list_of (kept ++ e ∷ []) g)) s
    go false c =
        elim (feed_cases f e.feed) [
          | inl d ↦ (
              let t : same_key (feed_key e.feed) (feed_key f) ≡ true =
              ap (λ (g : Feed). same_key (feed_key e.feed) (feed_key g)) d.1 ∙ key_is_itself (feed_key e.feed) in
              absurd (cc))
          | inr d ↦ h f ∙ ap length (sym (list_without kept e f d))
        ]

pub counts_of_none : (t : Table ℕ) → ((q : ℕ × ℕ) → row_in t q ≡ 0) → AreCounts [] t
unfolding list_of
counts_of_none t h f = h (feed_key f)

-- rows that are read as before
pub counts_same : (kept : List Entry) (old new : Table ℕ) → ((q : ℕ × ℕ) → row_in new q ≡ row_in old q)
    → AreCounts kept old → AreCounts kept new
counts_same kept old new same h f = same (feed_key f) ∙ h f
