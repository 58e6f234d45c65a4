-- How far the asking has come, and what is known at its end.
use Rattle.std.proofs.Common.{◌≡◌, ◌≢◌, ◌⊎◌, inl, inr, ◌↔◌, ℕ, ◌+◌, ◌<◌, ◌≤◌, Bool, true, false, List, [], ◌∷◌, ◌++◌, Some, None}
use Rattle.std.proofs.Common.{Option, option_copied, nat_lt, cond, replicate, Bor, IsTrue}
use Rattle.std.proofs.Common.{length, get_or, count_by, Contains, slice_get, refl, ap, sym, ◌∙◌, subst, arith}
use Rattle.std.proofs.lemmas.Bool.Decides.{eqb_tells, nat_tests}
use Rattle.std.proofs.lemmas.List.{get_or_append_left, get_or-replicate, length-replicate}
use Rattle.std.proofs.Math.ListN.{get_or-eq_default}
use Rattle.std.proofs.lemmas.List.Folds.{sum_by-replicate}
use Rattle.std.proofs.lemmas.List.Elements.{Contains-get_or}
use Rattle.std.proofs.lemmas.List.Sums.{count_by-le-length}
use Rattle.std.proofs.lemmas.Option.{slice_get_within, slice_get_past, slice_get-get_or, get_or_from_slice_get, slice_get_read}
use Rattle.std.specs.Option.{option_map_or}
use Rattle.std.specs.Slice.{IsItemAt}
use Rattle.lemmas.proofs.Options.{some_same}
use Rattle.follow_circles.specs.Circles.{follows_of, IsWay, IsOnCircle}
use Rattle.follow_circles.specs.Reached.{IsMarked, IsWhole, MarksThese}
use Rattle.follow_circles.specs.declared.asking.Reached.{Reached}
use Rattle.follow_circles.specs.declared.circles.Follower.{Follower}
use Rattle.follow_circles.proofs.Marking.{within}
use Rattle.follow_circles.proofs.Reaching.{on_circle}

-- what the object at v follows is marked, and what the first places follow, and nothing but what v leads to
pub record IsReaching (objects : List Follower) (v at_ : ℕ) (r : Reached) : Type 0 where
  pub room : length r.marks.items ≡ length objects
  pub whole : IsWhole r
  pub begun : (w : ℕ) → w < length objects → Contains (follows_of objects v) w → IsMarked r w
  pub done : (k place w : ℕ) → k < at_ → slice_get r.places.items k ≡ Some place → w < length objects
      → Contains (follows_of objects place) w → IsMarked r w
  pub led : (w : ℕ) → IsMarked r w
      → (x : ℕ) × (more : List ℕ) × Contains (follows_of objects v) x × IsWay objects x more w

-- what an object of the list follows
pub follows_at : (objects : List Follower) (v : ℕ) (f : Follower) → v < length objects → f ≡ get_or objects v f
    → follows_of objects v ≡ f.follows
follows_at objects v f low is =
    ap (λ o. option_map_or (λ (g : Follower). g.follows) o []) (slice_get_read objects (length objects) v f refl low is)

pub follows_got : (objects : List Follower) (v : ℕ) (f : Follower) → slice_get objects v ≡ Some f
    → follows_of objects v ≡ f.follows
follows_got objects v f is = ap (λ o. option_map_or (λ (g : Follower). g.follows) o []) is

pub follows_none : (objects : List Follower) (v : ℕ) → slice_get objects v ≡ None → follows_of objects v ≡ []
follows_none objects v is = ap (λ o. option_map_or (λ (g : Follower). g.follows) o []) is

-- nothing is reached at first
pub whole_empty : (r : Reached) → ((v : ℕ) → get_or r.marks.items v false ≡ false) → count_by (λ b. b) r.marks.items ≡ 0
    → r.places.items ≡ [] → IsWhole r
whole_empty r free count none = record {
  same = λ v. (
    λ m. absurd (let both : true ≡ false = sym m ∙ free v in cc),
    λ c. absurd (let few : c.0 < 0 = subst (λ (l : List ℕ). c.0 < length l) none c.1 in omega (arith, few)),
  );
  counted =
      let few : length r.places.items ≡ 0 = ap (λ (l : List ℕ). length l) none in
      omega (arith, few, count);
}

pub begins : (objects : List Follower) (v : ℕ) (old new : Reached) (places : List ℕ)
    → length old.marks.items ≡ length objects → ((u : ℕ) → get_or old.marks.items u false ≡ false) → IsWhole old
    → follows_of objects v ≡ places → MarksThese old new places → IsReaching objects v 0 new
begins objects v old new places room free whole is m = record {
  room = m.room ∙ room;
  whole = m.whole whole;
  begun = λ w low c.
      let inside : w < length old.marks.items = subst (λ (n : ℕ). w < n) (sym room) low in
      (m.marked w inside).1 (inr (subst (λ (l : List ℕ). Contains l w) is c));
  done = λ k place w below. absurd (omega (arith, below));
  led = λ w h.
      let inside : w < length old.marks.items = subst (λ (n : ℕ). w < n) m.room (within new.marks.items w h) in
      elim ((m.marked w inside).0 h) [
        | inl o ↦ absurd (let both : true ≡ false = sym o ∙ free w in cc)
        | inr c ↦ (w, [], subst (λ (l : List ℕ). Contains l w) (sym is) c, refl)
      ];
}

-- a way goes on
way_on : (objects : List Follower) (v : ℕ) (more : List ℕ) (u w : ℕ) → IsWay objects v more u
    → Contains (follows_of objects u) w → IsWay objects v (more ++ w ∷ []) w
way_on objects v [] u w way c = (subst (λ (n : ℕ). Contains (follows_of objects n) w) (sym way) c, refl)
way_on objects v (x ∷ more) u w way c = (way.0, way_on objects x more u w way.1 c)

-- a place that stands in front still stands where others are put behind
still_there : (xs more ys : List ℕ) (k place : ℕ) → ys ≡ xs ++ more → k < length xs → slice_get ys k ≡ Some place
    → slice_get xs k ≡ Some place
still_there xs more ys k place is low got =
    slice_get-get_or xs k place low
    ∙ ap (λ (n : ℕ). Some n)
    (sym (get_or_append_left xs more place k low)
    ∙ (ap (λ (l : List ℕ). get_or l k place) (sym is) ∙ get_or_from_slice_get ys k place place got))

-- the next place, with what it follows
module _ (objects : List Follower) (v at_ place : ℕ) (old new : Reached) (i : IsReaching objects v at_ old)
    (got : slice_get old.places.items at_ ≡ Some place) (m : MarksThese old new (follows_of objects place)) where
  inside : (w : ℕ) → w < length objects → w < length old.marks.items
  inside w low = subst (λ (n : ℕ). w < n) (sym i.room) low

  still : (w : ℕ) → w < length objects → IsMarked old w → IsMarked new w
  still w low o = (m.marked w (inside w low)).1 (inl o)

  new_done : (k p w : ℕ) → k < at_ + 1 → slice_get new.places.items k ≡ Some p → w < length objects
      → Contains (follows_of objects p) w → IsMarked new w
  new_done k p w below is low c =
      let end_ : at_ < length old.places.items = slice_get_within old.places.items at_ place got in
      let front : k < length old.places.items = omega (arith, below, end_) in
      let was : slice_get old.places.items k ≡ Some p =
      still_there old.places.items m.behind.0 new.places.items k p m.behind.1 front is in
      elim (eqb_tells k at_) [
        | inl e ↦
            let one : Some p ≡ Some place =
            sym was ∙ (ap (λ (n : ℕ). slice_get old.places.items n) e.1 ∙ got) in
            let same : p ≡ place = some_same p place one in
            (m.marked w (inside w low)).1 (inr (subst (λ (n : ℕ). Contains (follows_of objects n) w) same c))
        | inr other ↦
            let before : k < at_ = omega (arith, below, other.1) in
            still w low (i.done k p w before was low c)
      ]

  new_led : (w : ℕ) → IsMarked new w
      → (x : ℕ) × (more : List ℕ) × Contains (follows_of objects v) x × IsWay objects x more w
  new_led w h =
      let low : w < length old.marks.items = subst (λ (n : ℕ). w < n) m.room (within new.marks.items w h) in
      elim ((m.marked w low).0 h) [
        | inl o ↦ i.led w o
        | inr c ↦
            let end_ : at_ < length old.places.items = slice_get_within old.places.items at_ place got in
            let has : Contains old.places.items place =
            (at_, end_, get_or_from_slice_get old.places.items at_ place place got) in
            let way : (x : ℕ) × (more : List ℕ) × Contains (follows_of objects v) x × IsWay objects x more place =
            i.led place ((i.whole.same place).1 has) in
            (way.0, way.1 ++ w ∷ [], way.2, way_on objects way.0 way.1 place w way.3 c)
      ]

  pub goes_on : IsReaching objects v (at_ + 1) new
  goes_on = record {
    room = m.room ∙ i.room;
    whole = m.whole i.whole;
    begun = λ w low c. still w low (i.begun w low c);
    done = new_done;
    led = new_led;
  }

-- at the end exactly what v leads to is marked
module _ (objects : List Follower) (v at_ : ℕ) (r : Reached) (i : IsReaching objects v at_ r)
    (all : length r.places.items ≤ at_) (low : v < length objects) where
  closed : (u w : ℕ) → IsMarked r u → w < length objects → Contains (follows_of objects u) w → IsMarked r w
  closed u w m below c =
      let has : Contains r.places.items u = (i.whole.same u).0 m in
      let front : has.0 < at_ = let end_ : has.0 < length r.places.items = has.1 in omega (arith, end_, all) in
      let got : slice_get r.places.items has.0 ≡ Some u =
      slice_get-get_or r.places.items has.0 u has.1 ∙ ap (λ (n : ℕ). Some n) has.2 in
      i.done has.0 u w front got below c

  pub ends : IsMarked r v ↔ IsOnCircle objects v
  ends = (λ m. i.led v m, λ on. on_circle objects r closed v low i.begun on)

-- not more places than objects
pub all_done : (objects : List Follower) (v at_ : ℕ) (r : Reached) → IsReaching objects v at_ r
    → length objects ≤ at_ → length r.places.items ≤ at_
all_done objects v at_ r i far =
    let most : count_by (λ b. b) r.marks.items ≤ length r.marks.items = count_by-le-length (λ b. b) r.marks.items in
    let counted : length r.places.items ≡ count_by (λ b. b) r.marks.items = i.whole.counted in
    let room : length r.marks.items ≡ length objects = i.room in
    omega (arith, most, counted, room, far)

-- what a look-up gave is the element at that place
pub got_at : {X : Type 0} (xs : List X) (i : ℕ) (r : Option (Bor X)) → IsItemAt xs i r → option_copied r ≡ slice_get xs i
got_at xs i None h = sym (slice_get_past xs i h.3)
got_at xs i (Some x) h = sym (slice_get_read xs (length xs) i x.now refl h.3.0 h.1)

-- no mark among as many falses
pub no_marks : (n : ℕ) (marks : List Bool) → marks ≡ replicate n false → (v : ℕ) → get_or marks v false ≡ false
no_marks n marks is v = ap (λ (l : List Bool). get_or l v false) is ∙ go (nat_lt v n) refl
  where
    go : (b : Bool) → nat_lt v n ≡ b → get_or (replicate n false) v false ≡ false
    go true h = let low : v < n = grind (arith, nat_tests) in get_or-replicate n v false false low
    go false h =
        let far : length (replicate n false) ≤ v =
        let same : length (replicate n false) ≡ n = length-replicate n false in
        grind (arith, nat_tests) in
        get_or-eq_default (replicate n false) false far

pub no_count : (n : ℕ) (marks : List Bool) → marks ≡ replicate n false → count_by (λ b. b) marks ≡ 0
no_count n marks is =
    ap (λ (l : List Bool). count_by (λ b. b) l) is
    ∙ (sum_by-replicate (λ (b : Bool). cond b 1 0) n false ∙ (omega arith))

-- a look-up that gave nothing was past the end
pub past_the_end : (xs : List ℕ) (i : ℕ) → slice_get xs i ≡ None → length xs ≤ i
past_the_end xs i none = go (nat_lt i (length xs)) refl
  where
    go : (b : Bool) → nat_lt i (length xs) ≡ b → length xs ≤ i
    go false h = grind (arith, nat_tests)
    go true h =
        let low : i < length xs = grind (arith, nat_tests) in
        absurd (let both : Some (get_or xs i 0) ≡ None = sym (slice_get-get_or xs i 0 low) ∙ none in cc)

-- what is read of the marks at the end
pub ends_as : (objects : List Follower) (v at_ : ℕ) (r : Reached) → IsReaching objects v at_ r
    → length r.places.items ≤ at_ → v < length objects → (b : Bool) → b ≡ get_or r.marks.items v b
    → IsTrue b ↔ IsOnCircle objects v
ends_as objects v at_ r i all low b is =
    let inside : v < length r.marks.items = subst (λ (n : ℕ). v < n) (sym i.room) low in
    let same : get_or r.marks.items v false ≡ b =
    get_or_from_slice_get r.marks.items v b false (slice_get_read r.marks.items (length r.marks.items) v b refl inside is) in
    subst (λ (c : Bool). (c ≡ true) ↔ IsOnCircle objects v) same (ends objects v at_ r i all low)
