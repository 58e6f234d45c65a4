-- Sets by places: one item further, one place less, and what an entry changes.
use Rattle.std.proofs.Common.{[], ℕ, ◌+◌, ◌<◌, ◌^◌, ◌∙◌, ◌∷◌, ◌≡◌, ◌≤◌, ◌≢◌, ◌⊎◌, Bool, List, None, Option}
use Rattle.std.proofs.Common.{Some, ap, arith, cond, eqb, false, filter, get_or, inl, inr, length, map, not}
use Rattle.std.proofs.Common.{option_and_then, refl, slice_get, suc, sym, true, zero}
use Rattle.std.proofs.lemmas.Bool.Decides.{eqb_tells}
use borrow.Author.Tests.{ltb-false, ltb-true}
use Rattle.std.specs.Prelude.{◌||◌, nat_lt, option_map}
use Rattle.grouped_places.specs.Codes.{code}
use Rattle.grouped_places.proofs.Finding.{has_filter, inserted_keeps, inserted_there}
use Rattle.model.specs.Words.{firsts, has, insert_once}
use Rattle.owner_fold.specs.Numbers.{place_of}
use Rattle.owner_fold.specs.Sets.{Covers, CoversBelow, Further}

-- what stands at a place of the places stands there among the items
pub item_placed : {S X : Type 0} (f : S → Option X) (doc_places : List S) (items : List X) → map f doc_places ≡ map Some items
    → (i : ℕ) → slice_get items i ≡ option_and_then f (slice_get doc_places i)
item_placed f [] [] h i = refl
item_placed f [] (x ∷ xs) h i = cc
item_placed f (s ∷ ss) [] h i = cc
item_placed {S} {X} f (s ∷ ss) (x ∷ xs) h zero = let here : f s ≡ Some x = cc in sym here
item_placed {S} {X} f (s ∷ ss) (x ∷ xs) h (suc i) =
    let there : map f ss ≡ map Some xs = cc in item_placed f ss xs there i

found_there : {S X : Type 0} (f : S → Option X) (doc_places : List S) (i : ℕ) (d : S) → i < length doc_places
    → option_and_then f (slice_get doc_places i) ≡ f (get_or doc_places i d)
found_there f [] i d h = absurd (omega (arith, h))
found_there f (s ∷ ss) zero d h = refl
found_there f (s ∷ ss) (suc i) d h = found_there f ss i d (omega (arith, h))

-- what a walk over the places meets
pub item_met : {S X : Type 0} (f : S → Option X) (doc_places walked : List S) (items : List X) (i : ℕ) (d : S)
    → map f doc_places ≡ map Some items → walked ≡ doc_places → i < length walked → slice_get items i ≡ f (get_or walked i d)
item_met {S} f doc_places walked items i d e same h =
    item_placed f doc_places items e i ∙ ap (λ (l : List S). option_and_then f (slice_get l i)) (sym same)
    ∙ found_there f walked i d h

-- as many places as items
within : {S X : Type 0} (f : S → Option X) (doc_places : List S) (items : List X) → map f doc_places ≡ map Some items → (i : ℕ)
    (x : X) → slice_get items i ≡ Some x → i < length doc_places
within f [] [] e i x s = cc
within f [] (y ∷ ys) e i x s = cc
within f (p ∷ ps) [] e i x s = cc
within f (p ∷ ps) (y ∷ ys) e zero x s = omega arith
within {S} {X} f (p ∷ ps) (y ∷ ys) e (suc i) x s =
    let there : map f ps ≡ map Some ys = cc in
    let k : i < length ps = within f ps ys there i x s in omega (arith, k)

small_or_large : (n m : ℕ) → (n < m) ⊎ (m ≤ n)
small_or_large n m = go (nat_lt n m) refl
  where
    go : (b : Bool) → nat_lt n m ≡ b → (n < m) ⊎ (m ≤ n)
    go true e = inl (ltb-true n m e)
    go false e = inr (ltb-false n m e)

module _ {X : Type 0} (group : X → ℕ) (counts : X → Bool) where
  -- no items
  pub covers_none : (items : List X) (codes : List ℕ) → CoversBelow 0 group counts items codes
  covers_none items codes i x h s t = absurd (omega (arith, h))

  -- one item further
  pub covers_further : (items : List X) (n : ℕ) (item : Option X) (old new : List ℕ) → slice_get items n ≡ item
      → CoversBelow n group counts items old → Further group counts n item old new
      → CoversBelow (n + 1) group counts items new
  covers_further items n item old new e h f i x k s t =
      elim (eqb_tells i n) [
        | inl d ↦ (
            let g : (n < 2 ^ 32) × (has new (code (group x) n) ≡ true) =
            f.counted x (sym e ∙ ap (slice_get items) (sym d.1) ∙ s) t in
            (omega (arith, d.1, g.0), ap (λ (m : ℕ). has new (code (group x) m)) d.1 ∙ g.1))
        | inr d ↦ (
            let b : i < n = (let q = d.1 in omega (arith, k, q)) in
            let g : (i < 2 ^ 32) × (has old (code (group x) i) ≡ true) = h i x b s t in
            (g.0, f.keeps (code (group x) i) g.1))
      ]

  -- all items
  pub covers_all : {S : Type 0} (f : S → Option X) (doc_places : List S) (items : List X) (n : ℕ) (codes : List ℕ)
      → map f doc_places ≡ map Some items → length doc_places ≤ n → CoversBelow n group counts items codes
      → Covers group counts items codes
  covers_all {S} f doc_places items n codes e l h i x s t = h i x (omega (arith, l, within f doc_places items e i x s)) s t

  -- an item that is not there, one that does not count, and one that is put in
  pub further_none : (n : ℕ) (item : Option X) (old : List ℕ) → item ≡ None → Further group counts n item old old
  further_none n item old e = record { keeps = λ c h. h; counted = λ x h t. absurd (let q : None ≡ Some x = sym e ∙ h in cc) }

  pub further_not : (n : ℕ) (item : Option X) (x : X) (old : List ℕ) → item ≡ Some x → counts x ≡ false
      → Further group counts n item old old
  further_not n item x old e f = record {
    keeps = λ c h. h;
    counted =
        λ y h t.
        let q : Some x ≡ Some y = sym e ∙ h in
        let r : x ≡ y = cc in
        absurd (let u : false ≡ true = sym f ∙ ap counts r ∙ t in cc);
  }

  pub further_added : (n : ℕ) (item : Option X) (x : X) (old new : List ℕ) → item ≡ Some x → n < 2 ^ 32
      → new ≡ insert_once (code (group x) n) old → Further group counts n item old new
  further_added n item x old new e l p = record {
    keeps = λ c h. ap (λ (m : List ℕ). has m c) p ∙ inserted_keeps (code (group x) n) old c h;
    counted =
        λ y h t.
        let q : Some x ≡ Some y = sym e ∙ h in
        let r : x ≡ y = cc in
        (l, (λ j. has (p j) (code (group (sym r j)) n)) ∙ inserted_there (code (group x) n) old);
  }

  -- more places
  pub covers_more : (items : List X) (old new : List ℕ) → ((c : ℕ) → has old c ≡ true → has new c ≡ true)
      → Covers group counts items old → Covers group counts items new
  covers_more items old new keeps h i x s t = ((h i x s t).0, keeps (code (group x) i) (h i x s t).1)

  -- one place less, whose item does not count
  pub covers_less : (items : List X) (old new : List ℕ) (g place : ℕ)
      → ((x : X) → slice_get items place ≡ Some x → group x ≡ g → counts x ≡ false)
      → (place < 2 ^ 32 → new ≡ filter (λ c. not (eqb c (code g place))) old) → (2 ^ 32 ≤ place → new ≡ old)
      → Covers group counts items old → Covers group counts items new
  covers_less items old new g place ended less same h i x s t = (k.0, go (eqb_tells (code (group x) i) (code g place)))
    where
      k : (i < 2 ^ 32) × (has old (code (group x) i) ≡ true)
      k = h i x s t

      small : (b : Bool) → eqb (code (group x) i) (code g place) ≡ b → b ≡ false → place < 2 ^ 32
          → has new (code (group x) i) ≡ true
      small b e f l =
          ap (λ (m : List ℕ). has m (code (group x) i)) (less l)
          ∙ has_filter (λ c. not (eqb c (code g place))) old (code (group x) i) k.1 (ap not (e ∙ f))

      go : ((eqb (code (group x) i) (code g place) ≡ true) × (code (group x) i ≡ code g place))
          ⊎ ((eqb (code (group x) i) (code g place) ≡ false) × (code (group x) i ≢ code g place))
          → has new (code (group x) i) ≡ true
      go (inl d) =
          elim (small_or_large place (2 ^ 32)) [
            | inl l ↦ (
                let a : group x ≡ g = omega (arith, k.0, l, d.1) in
                let b : i ≡ place = omega (arith, k.0, l, d.1, a) in
                absurd (let q : true ≡ false = sym t ∙ ended x (ap (slice_get items) (sym b) ∙ s) a in cc))
            | inr l ↦ ap (λ (m : List ℕ). has m (code (group x) i)) (same l) ∙ k.1
          ]
      go (inr d) =
          elim (small_or_large place (2 ^ 32)) [
            | inl l ↦ small false d.0 refl l
            | inr l ↦ ap (λ (m : List ℕ). has m (code (group x) i)) (same l) ∙ k.1
          ]

-- another test, where what counts by it counted before or has its place
pub covers_still : {X : Type 0} (group : X → ℕ) (before now : X → Bool) (items : List X) (codes : List ℕ)
    → ((i : ℕ) (x : X) → slice_get items i ≡ Some x → now x ≡ true
    → (before x ≡ true) ⊎ ((i < 2 ^ 32) × (has codes (code (group x) i) ≡ true)))
    → Covers group before items codes → Covers group now items codes
covers_still group before now items codes other h i x s t =
    elim (other i x s t) [ inl e ↦ h i x s e | inr e ↦ e ]

-- the place of a number, where numbers stand once
placed_later : (o : Option ℕ) (x : ℕ) (xs : List ℕ) (n i : ℕ) → option_map (λ j. j + 1) o ≡ Some i
    → ((j : ℕ) → o ≡ Some j → slice_get xs j ≡ Some n) → slice_get (x ∷ xs) i ≡ Some n
placed_later None x xs n i k ih = cc
placed_later (Some j) x xs n i k ih =
    let a : j + 1 ≡ i = cc in
    let b : i ≡ suc j = omega (arith, a) in
    ap (slice_get (x ∷ xs)) b ∙ ih j refl

placed_first : (x : ℕ) (xs : List ℕ) (n i : ℕ) → x ≡ n → Some 0 ≡ Some i → slice_get (x ∷ xs) i ≡ Some n
placed_first x xs n i e k = let a : 0 ≡ i = cc in ap (slice_get (x ∷ xs)) (sym a) ∙ ap Some e

place_there : (xs : List ℕ) (n i : ℕ) → place_of xs n ≡ Some i → slice_get xs i ≡ Some n
place_there [] n i h = cc
place_there (x ∷ xs) n i h =
    elim (eqb_tells x n) [
      | inl d ↦ placed_first x xs n i d.1
          (sym (ap (λ (b : Bool). cond b (Some 0) (option_map (λ j. j + 1) (place_of xs n))) d.0) ∙ h)
      | inr d ↦ placed_later (place_of xs n) x xs n i
          (sym (ap (λ (b : Bool). cond b (Some 0) (option_map (λ j. j + 1) (place_of xs n))) d.0) ∙ h)
          (λ j e. place_there xs n j e)
    ]

number_there : {X : Type 0} (number : X → ℕ) (items : List X) (i : ℕ) (x : X) → slice_get items i ≡ Some x
    → slice_get (map number items) i ≡ Some (number x)
number_there number [] i x h = cc
number_there {X} number (y ∷ ys) zero x h = let e : y ≡ x = cc in ap (λ (z : X). Some (number z)) e
number_there number (y ∷ ys) (suc i) x h = number_there number ys i x h

pub item_number : {X : Type 0} (number : X → ℕ) (items : List X) (n i : ℕ) (x : X)
    → place_of (map number items) n ≡ Some i → slice_get items i ≡ Some x → number x ≡ n
item_number number items n i x h s =
    let e : Some n ≡ Some (number x) = sym (place_there (map number items) n i h) ∙ number_there number items i x s in
    let k : n ≡ number x = cc in sym k

-- of one number the first counts, so it stands once
pub first_place : {X : Type 0} (number : X → ℕ) (known : List ℕ) (xs : List X) (i : ℕ) (x : X)
    → slice_get (firsts number known xs) i ≡ Some x
    → (has known (number x) ≡ false) × (place_of (map number (firsts number known xs)) (number x) ≡ Some i)
first_place number known [] i x h = cc
first_place {X} number known (y ∷ ys) i x h =
    go (has known (number y)) refl h (first_place number known ys i x) (first_place number (number y ∷ known) ys)
  where
    apart : (a b : Bool) → (a || b) ≡ false → (a ≡ false) × (b ≡ false)
    apart true b e = cc
    apart false b e = (refl, e)

    here : (i : ℕ) → has known (number y) ≡ false → slice_get (y ∷ firsts number (number y ∷ known) ys) i ≡ Some x
        → ((i : ℕ) (x : X) → slice_get (firsts number (number y ∷ known) ys) i ≡ Some x
        → (has (number y ∷ known) (number x) ≡ false)
        × (place_of (map number (firsts number (number y ∷ known) ys)) (number x) ≡ Some i))
        → (has known (number x) ≡ false)
        × (place_of (map number (y ∷ firsts number (number y ∷ known) ys)) (number x) ≡ Some i)
    here zero f s later =
        let e : y ≡ x = cc in (
          ap (λ (z : X). has known (number z)) (sym e) ∙ f,
          elim (eqb_tells (number y) (number x)) [
            | inl d ↦ (rw d.0 refl)
            | inr d ↦ absurd (d.1 (ap number e))
          ],
        )
    here (suc i) f s later =
        let g : (has (number y ∷ known) (number x) ≡ false)
        × (place_of (map number (firsts number (number y ∷ known) ys)) (number x) ≡ Some i) = later i x s in
        let k : (eqb (number y) (number x) ≡ false) × (has known (number x) ≡ false) =
        apart (eqb (number y) (number x)) (has known (number x)) g.0 in
        (k.1, rw (k.0, g.1) (ap Some (let m : i + 1 ≡ suc i = omega arith in m)))

    go : (b : Bool) → has known (number y) ≡ b
        → slice_get (cond b (firsts number known ys) (y ∷ firsts number (number y ∷ known) ys)) i ≡ Some x
        → (slice_get (firsts number known ys) i ≡ Some x
        → (has known (number x) ≡ false) × (place_of (map number (firsts number known ys)) (number x) ≡ Some i))
        → ((i : ℕ) (x : X) → slice_get (firsts number (number y ∷ known) ys) i ≡ Some x
        → (has (number y ∷ known) (number x) ≡ false)
        × (place_of (map number (firsts number (number y ∷ known) ys)) (number x) ≡ Some i))
        → (has known (number x) ≡ false)
        × (place_of (map number (cond b (firsts number known ys) (y ∷ firsts number (number y ∷ known) ys)))
        (number x) ≡ Some i)
    go true e s same later = same s
    go false e s same later = here i e s later

-- more places, one of which is put in
pub added_keeps : (x : ℕ) (old new : List ℕ) → new ≡ insert_once x old → (c : ℕ) → has old c ≡ true → has new c ≡ true
added_keeps x old new p c h = ap (λ (m : List ℕ). has m c) p ∙ inserted_keeps x old c h

pub added_there : (w g n : ℕ) (old new : List ℕ) → g ≡ w → new ≡ insert_once (code g n) old → n < 2 ^ 32 → (i : ℕ)
    → Some n ≡ Some i → (i < 2 ^ 32) × (has new (code w i) ≡ true)
added_there w g n old new e p l i q =
    let r : n ≡ i = cc in (
      omega (arith, r, l),
      (λ j. has (p j) (code (sym e j) (sym r j))) ∙ inserted_there (code g n) old,
    )
