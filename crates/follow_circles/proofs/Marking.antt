-- Places that are marked, one and several.
use Rattle.std.proofs.Common.{◌≡◌, ◌≢◌, ◌⊎◌, inl, inr, ◌↔◌, ℕ, zero, suc, ◌+◌, ◌<◌, ◌≤◌, Bool, true, false, List, [], ◌∷◌, ◌++◌}
use Rattle.std.proofs.Common.{length, cond, take, get_or, set, count_by, refl, ap, sym, ◌∙◌, subst, arith, append_assoc, append-nil}
use Rattle.std.proofs.lemmas.Bool.Decides.{eqb_tells}
use Rattle.std.proofs.lemmas.List.Sums.{sum_by-cons}
use Rattle.std.proofs.lemmas.List.{length-set, get_or-set_same, get_or-set_other, take_more, length_push}
use Rattle.std.proofs.lemmas.List.Elements.{Contains-append_left, Contains-append_right, Contains-append_cases, Contains-push_cases}
use Rattle.std.specs.Prelude.{Contains}
use Rattle.follow_circles.specs.Reached.{IsMarked, IsWhole, MarksThese}
use Rattle.follow_circles.specs.declared.asking.Reached.{Reached}

-- one mark more is one more marked
count_cons : (b : Bool) (bs : List Bool) → count_by (λ c. c) (b ∷ bs) ≡ cond b 1 0 + count_by (λ c. c) bs
count_cons b bs = sum_by-cons (λ (c : Bool). cond c 1 0) b bs

count_one : (bs : List Bool) (i : ℕ) → i < length bs → get_or bs i false ≡ false
    → count_by (λ b. b) (set bs i true) ≡ count_by (λ b. b) bs + 1
count_one [] i low h = absurd (omega (arith, low))
count_one (true ∷ bs) zero low h = absurd (let never : ⊥ = cc in never)
count_one (false ∷ bs) zero low h =
    let one : count_by (λ b. b) (true ∷ bs) ≡ 1 + count_by (λ b. b) bs = count_cons true bs in
    let none : count_by (λ b. b) (false ∷ bs) ≡ 0 + count_by (λ b. b) bs = count_cons false bs in
    let both : count_by (λ b. b) (true ∷ bs) ≡ count_by (λ b. b) (false ∷ bs) + 1 = omega (arith, one, none) in both
count_one (b ∷ bs) (suc i) low h =
    let further : i < length bs = omega (arith, low) in
    let more : count_by (λ b. b) (set bs i true) ≡ count_by (λ b. b) bs + 1 = count_one bs i further h in
    let here : count_by (λ b. b) (b ∷ set bs i true) ≡ cond b 1 0 + count_by (λ b. b) (set bs i true) =
    count_cons b (set bs i true) in
    let there : count_by (λ b. b) (b ∷ bs) ≡ cond b 1 0 + count_by (λ b. b) bs = count_cons b bs in
    let both : count_by (λ b. b) (b ∷ set bs i true) ≡ count_by (λ b. b) (b ∷ bs) + 1 =
    omega (arith, more, here, there) in both

-- a mark stands within the list
pub within : (bs : List Bool) (v : ℕ) → get_or bs v false ≡ true → v < length bs
within [] v h = cc
within (b ∷ bs) zero h = omega arith
within (b ∷ bs) (suc v) h =
    let further : v < length bs = within bs v h in
    omega (arith, further)

-- what one of several contains
only_one : (y x : ℕ) → Contains (y ∷ []) x → y ≡ x
only_one y x c = elim (Contains-push_cases [] y x c) [ inl n ↦ absurd (omega (arith, n.1)) | inr e ↦ e ]

the_one : (y x : ℕ) → x ≡ y → Contains (y ∷ []) x
the_one y x e = (0, omega arith, sym e)

-- a place without a mark gets one
module _ (old new : Reached) (place : ℕ) (low : place < length old.marks.items)
    (free : get_or old.marks.items place false ≡ false)
    (marks : new.marks.items ≡ set old.marks.items place true)
    (places : new.places.items ≡ old.places.items ++ place ∷ []) where
  here : (v : ℕ) → v ≡ place → IsMarked new v
  here v e =
      subst (λ (n : ℕ). get_or new.marks.items n false ≡ true) (sym e)
      (ap (λ (l : List Bool). get_or l place false) marks ∙ get_or-set_same old.marks.items place true false low)

  same_there : (v : ℕ) → v ≢ place → get_or new.marks.items v false ≡ get_or old.marks.items v false
  same_there v other =
      ap (λ (l : List Bool). get_or l v false) marks ∙ get_or-set_other old.marks.items place v true false other

  stays_marked : (v : ℕ) → IsMarked old v → IsMarked new v
  stays_marked v m =
      elim (eqb_tells v place) [ inl e ↦ here v e.1 | inr other ↦ same_there v other.1 ∙ m ]

  was_marked : (v : ℕ) → IsMarked new v → IsMarked old v ⊎ (v ≡ place)
  was_marked v m =
      elim (eqb_tells v place) [ inl e ↦ inr e.1 | inr other ↦ inl (sym (same_there v other.1) ∙ m) ]

  marked_one : (v : ℕ) → IsMarked new v ↔ (IsMarked old v ⊎ Contains (place ∷ []) v)
  marked_one v = (
    λ m. elim (was_marked v m) [ inl o ↦ inl o | inr e ↦ inr (the_one place v e) ],
    λ s. elim s [ inl o ↦ stays_marked v o | inr c ↦ here v (sym (only_one place v c)) ],
  )

  whole_one : IsWhole old → IsWhole new
  whole_one w = record {
    same = λ v. (
      λ m. subst (λ (l : List ℕ). Contains l v) (sym places)
          (elim (was_marked v m) [
            | inl o ↦ Contains-append_left old.places.items (place ∷ []) v ((w.same v).0 o)
            | inr e ↦ Contains-append_right old.places.items (place ∷ []) v (the_one place v e)
          ]),
      λ c. elim (Contains-push_cases old.places.items place v (subst (λ (l : List ℕ). Contains l v) places c))
          [ inl k ↦ stays_marked v ((w.same v).1 k) | inr e ↦ here v (sym e) ],
    );
    counted =
        let more : length new.places.items ≡ length old.places.items + 1 =
        ap (λ (l : List ℕ). length l) places ∙ length_push old.places.items place in
        let one : count_by (λ b. b) new.marks.items ≡ count_by (λ b. b) old.marks.items + 1 =
        ap (λ (l : List Bool). count_by (λ b. b) l) marks ∙ count_one old.marks.items place low free in
        let before : length old.places.items ≡ count_by (λ b. b) old.marks.items = w.counted in
        omega (arith, more, one, before);
  }

  pub put_one : MarksThese old new (place ∷ [])
  put_one = record {
    room = ap (λ (l : List Bool). length l) marks ∙ length-set old.marks.items place true;
    behind = (place ∷ [], places);
    marked = λ v below. marked_one v;
    whole = whole_one;
  }

-- a place with a mark, or past the end, changes nothing
pub put_none : (r : Reached) (place : ℕ) → ((v : ℕ) → v < length r.marks.items → v ≡ place → IsMarked r v)
    → MarksThese r r (place ∷ [])
put_none r place there = record {
  room = refl;
  behind = ([], sym (append-nil r.places.items));
  marked = λ v low. (λ m. inl m, λ s. elim s [ inl m ↦ m | inr c ↦ there v low (sym (only_one place v c)) ]);
  whole = λ w. w;
}

-- no places
pub put_nothing : (r : Reached) (places : List ℕ) → places ≡ [] → MarksThese r r places
put_nothing r places e = record {
  room = refl;
  behind = ([], sym (append-nil r.places.items));
  marked = λ v low. (
    λ m. inl m,
    λ s. elim s [
      | inl m ↦ m
      | inr c ↦ absurd (let few : c.0 < 0 = subst (λ (l : List ℕ). c.0 < length l) e c.1 in omega (arith, few))
    ],
  );
  whole = λ w. w;
}

-- places, and then others
pub then_these : (a b c : Reached) (xs ys : List ℕ) → MarksThese a b xs → MarksThese b c ys → MarksThese a c (xs ++ ys)
then_these a b c xs ys p q = record {
  room = q.room ∙ p.room;
  behind = (
    p.behind.0 ++ q.behind.0,
    q.behind.1 ∙ (ap (λ (l : List ℕ). l ++ q.behind.0) p.behind.1 ∙ append_assoc a.places.items p.behind.0 q.behind.0),
  );
  marked = λ v low.
      let further : v < length b.marks.items = subst (λ (n : ℕ). v < n) (sym p.room) low in (
        λ m. elim ((q.marked v further).0 m) [
          | inl o ↦ elim ((p.marked v low).0 o) [ inl k ↦ inl k | inr x ↦ inr (Contains-append_left xs ys v x) ]
          | inr y ↦ inr (Contains-append_right xs ys v y)
        ],
        λ s. elim s [
          | inl k ↦ (q.marked v further).1 (inl ((p.marked v low).1 (inl k)))
          | inr z ↦ elim (Contains-append_cases xs ys v z) [
            | inl x ↦ (q.marked v further).1 (inl ((p.marked v low).1 (inr x)))
            | inr y ↦ (q.marked v further).1 (inr y)
          ]
        ],
      );
  whole = λ w. q.whole (p.whole w);
}

-- those up to a place of a list, and the next
pub one_more : (a b c : Reached) (xs : List ℕ) (i d : ℕ) → i < length xs → MarksThese a b (take i xs)
    → MarksThese b c (get_or xs i d ∷ []) → MarksThese a c (take (i + 1) xs)
one_more a b c xs i d low p q =
    subst (λ (l : List ℕ). MarksThese a c l) (sym (take_more xs i d low))
    (then_these a b c (take i xs) (get_or xs i d ∷ []) p q)
