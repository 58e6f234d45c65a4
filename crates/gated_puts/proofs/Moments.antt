-- How a stretch of time goes on, call by call.
use Rattle.std.proofs.Common.{inl, inr, ⊎_elim, ℕ, arith}
use Rattle.outside.specs.Stops.{Elapses, LeavesOnly}

module _ {S X : Type 0} (moment : S → ℕ) (left_since : S → ℕ → X → Type 0) where
  -- before the first call
  pub started : (old : S) (P : X → Type 0) → ((x : X) → left_since old (moment old) x → P x) → LeavesOnly moment left_since old old P
  started old P here = record { later = omega arith; each = here; before = λ t x le left. inl left }

  -- one call more, after which a stop leaves what has P
  pub goes_on : (old mid new : S) (P may_leave : X → Type 0) → LeavesOnly moment left_since old mid P
      → Elapses (moment mid) (moment new) (left_since mid) (left_since new) may_leave
      → ((x : X) → may_leave x → P x) → LeavesOnly moment left_since old new P
  goes_on old mid new P may_leave so_far time here = record {
    later = omega (arith, so_far.later, time.later);
    each = λ x left. ⊎_elim (so_far.each x) (here x) (time.nothing_else (moment old) x so_far.later left);
    before = λ t x le left. ⊎_elim (so_far.before t x le) (λ now. inr (here x now)) (time.nothing_else t x (omega (arith, le, so_far.later)) left);
  }

  -- one stretch, and then another
  pub then_goes : (old mid new : S) (P Q : X → Type 0) → LeavesOnly moment left_since old mid P → LeavesOnly moment left_since mid new Q
      → ((x : X) → Q x → P x) → LeavesOnly moment left_since old new P
  then_goes old mid new P Q first second within = record {
    later = omega (arith, first.later, second.later);
    each = λ x left. ⊎_elim (first.each x) (within x) (second.before (moment old) x first.later left);
    before = λ t x le left. ⊎_elim (first.before t x le) (λ q. inr (within x q)) (second.before t x (omega (arith, le, first.later)) left);
  }

  -- what has P has Q
  pub widened : (old new : S) (P Q : X → Type 0) → LeavesOnly moment left_since old new P → ((x : X) → P x → Q x) → LeavesOnly moment left_since old new Q
  widened old new P Q so within = record {
    later = so.later;
    each = λ x left. within x (so.each x left);
    before = λ t x le left. ⊎_elim (λ was. inl was) (λ p. inr (within x p)) (so.before t x le left);
  }
