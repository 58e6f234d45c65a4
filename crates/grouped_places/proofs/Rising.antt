-- Codes that ascend: where one stands, and the list with one more and with one less.
use Rattle.std.proofs.Common.{[], ℕ, ◌&&◌, ◌*◌, ◌+◌, ◌-◌, ◌<◌, ◌^◌, ◌||◌, ◌∙◌, ◌∷◌, ◌≡◌, ◌≤◌, Bool, List, ap, arith, cond}
use Rattle.std.proofs.Common.{drop, eqb, false, filter, get_or, inl, inr, length, not, refl, suc, sym, take, true, zero}
use Rattle.std.proofs.lemmas.Bool.Decides.{eqb_tells}
use borrow.Author.Tests.{le-leb, le-ltb, leb-false, leb-true, lt-leb, lt-ltb, ltb-false, ltb-true}
use Rattle.std.specs.List.{insert, remove}
use Rattle.std.specs.List.Sorted.{IsNonDecreasingBy, IsPartitionPoint}
use Rattle.std.specs.Prelude.{nat_le, nat_lt, slice_range}
use Rattle.lemmas.proofs.Booleans.{and_false, or_true}
use Rattle.model.specs.Words.{has, insert_once}
use Rattle.grouped_places.specs.Codes.{RisesFrom, is_in_group}
use Rattle.grouped_places.proofs.Finding.{below_none}

-- tests
apart : (a b : ℕ) → (a ≡ b → ⊥) → eqb a b ≡ false
apart a b h = elim (eqb_tells a b) [ inl e ↦ absurd (h e.1) | inr e ↦ e.0 ]

alike : (a b : ℕ) → a ≡ b → eqb a b ≡ true
alike a b h = elim (eqb_tells a b) [ inl e ↦ e.0 | inr e ↦ absurd (e.1 h) ]

under : (group c : ℕ) → c < group * 2 ^ 32 → is_in_group group c ≡ false
under group c h =
    ap (λ (b : Bool). b && nat_lt c (group * 2 ^ 32 + 2 ^ 32)) (lt-leb (group * 2 ^ 32) c h)

over : (group c : ℕ) → group * 2 ^ 32 + 2 ^ 32 ≤ c → is_in_group group c ≡ false
over group c h =
    ap (λ (b : Bool). nat_le (group * 2 ^ 32) c && b) (le-ltb c (group * 2 ^ 32 + 2 ^ 32) h)
    ∙ and_false (nat_le (group * 2 ^ 32) c)

inside : (group c : ℕ) → group * 2 ^ 32 ≤ c → c < group * 2 ^ 32 + 2 ^ 32 → is_in_group group c ≡ true
inside group c h k =
    λ j. le-leb (group * 2 ^ 32) c h j && lt-ltb c (group * 2 ^ 32 + 2 ^ 32) k j

-- each is at least the bound
pub at_least : (l : ℕ) (cs : List ℕ) (i d : ℕ) → RisesFrom l cs → i < length cs → l ≤ get_or cs i d
at_least l [] i d r h = absurd (omega (arith, h))
at_least l (c ∷ cs) zero d r h = r.0
at_least l (c ∷ cs) (suc i) d r h =
    let k : c + 1 ≤ get_or cs i d = at_least (c + 1) cs i d r.1 (omega (arith, h)) in omega (arith, k, r.0)

pub never_falls : (l : ℕ) (cs : List ℕ) → RisesFrom l cs → IsNonDecreasingBy (λ c. c) cs
never_falls l [] r i j d h k = absurd (omega (arith, k))
never_falls l (c ∷ cs) r zero zero d h k = omega arith
never_falls l (c ∷ cs) r zero (suc j) d h k =
    let m : c + 1 ≤ get_or cs j d = at_least (c + 1) cs j d r.1 (omega (arith, k)) in omega (arith, m)
never_falls l (c ∷ cs) r (suc i) zero d h k = absurd (omega (arith, h))
never_falls l (c ∷ cs) r (suc i) (suc j) d h k = never_falls (c + 1) cs r.1 i j d (omega (arith, h)) (omega (arith, k))

-- one more
pub inserted_at : (cs : List ℕ) (i x d : ℕ) → i ≤ length cs → ((k : ℕ) → k < i → get_or cs k d < x)
    → (i < length cs → x < get_or cs i d) → insert cs i x ≡ insert_once x cs
inserted_at [] zero x d h low high = refl
inserted_at [] (suc i) x d h low high = absurd (omega (arith, h))
inserted_at (c ∷ cs) zero x d h low high =
    let k : x < c = high (omega arith) in
    let a : eqb x c ≡ false = apart x c (λ e. omega (arith, e, k)) in
    let b : nat_lt x c ≡ true = lt-ltb x c k in
    rw (a, b) refl
inserted_at (c ∷ cs) (suc i) x d h low high =
    let k : c < x = low 0 (omega arith) in
    let a : eqb x c ≡ false = apart x c (λ e. omega (arith, e, k)) in
    let b : nat_lt x c ≡ false = le-ltb x c (omega (arith, k)) in
    rw (a, b)
    (ap (λ (l : List ℕ). c ∷ l)
    (inserted_at cs i x d (omega (arith, h)) (λ k l. low (suc k) (omega (arith, l))) (λ l. high (omega (arith, l)))))

-- one that is there already
pub inserted_again : (cs : List ℕ) (i x d : ℕ) → i < length cs → ((k : ℕ) → k < i → get_or cs k d < x)
    → get_or cs i d ≡ x → insert_once x cs ≡ cs
inserted_again [] i x d h low same = absurd (omega (arith, h))
inserted_again (c ∷ cs) zero x d h low same =
    let a : eqb x c ≡ true = alike x c (sym same) in rw a refl
inserted_again (c ∷ cs) (suc i) x d h low same =
    let k : c < x = low 0 (omega arith) in
    let a : eqb x c ≡ false = apart x c (λ e. omega (arith, e, k)) in
    let b : nat_lt x c ≡ false = le-ltb x c (omega (arith, k)) in
    rw (a, b)
    (ap (λ (l : List ℕ). c ∷ l) (inserted_again cs i x d (omega (arith, h)) (λ k l. low (suc k) (omega (arith, l))) same))

pub there_at : (cs : List ℕ) (i x d : ℕ) → i < length cs → get_or cs i d ≡ x → has cs x ≡ true
there_at [] i x d h same = absurd (omega (arith, h))
there_at (c ∷ cs) zero x d h same = ap (λ (b : Bool). b || has cs x) (alike c x same)
there_at (c ∷ cs) (suc i) x d h same =
    ap (λ (b : Bool). eqb c x || b) (there_at cs i x d (omega (arith, h)) same) ∙ or_true (eqb c x)

pub there_not : (l : ℕ) (cs : List ℕ) (i x d : ℕ) → RisesFrom l cs → i ≤ length cs
    → ((k : ℕ) → k < i → get_or cs k d < x) → (i < length cs → x < get_or cs i d) → has cs x ≡ false
there_not l [] i x d r h low high = refl
there_not l (c ∷ cs) zero x d r h low high =
    let k : x < c = high (omega arith) in below_none c x (c ∷ cs) (omega arith, r.1) k
there_not l (c ∷ cs) (suc i) x d r h low high =
    let k : c < x = low 0 (omega arith) in
    let a : eqb c x ≡ false = apart c x (λ e. omega (arith, e, k)) in
    ap (λ (b : Bool). b || has cs x) a
    ∙ there_not (c + 1) cs i x d r.1 (omega (arith, h)) (λ k l. low (suc k) (omega (arith, l)))
    (λ l. high (omega (arith, l)))

inserted_here : (b : Bool) (l x c : ℕ) (cs : List ℕ) → nat_lt x c ≡ b → (x ≡ c → ⊥) → RisesFrom l (c ∷ cs) → l ≤ x
    → (c < x → RisesFrom (c + 1) (insert_once x cs)) → RisesFrom l (cond b (x ∷ c ∷ cs) (c ∷ insert_once x cs))
inserted_here true l x c cs e other r h ih = let k : x < c = ltb-true x c e in (h, (omega (arith, k), r.1))
inserted_here false l x c cs e other r h ih =
    let k : c ≤ x = ltb-false x c e in (r.0, ih (omega (arith, k, other)))

pub rises_inserted : (l x : ℕ) (cs : List ℕ) → RisesFrom l cs → l ≤ x → RisesFrom l (insert_once x cs)
rises_inserted l x [] r h = (h, tt)
rises_inserted l x (c ∷ cs) r h =
    elim (eqb_tells x c) [
      | inl e ↦ (rw e.0 r)
      | inr e ↦ (rw e.0
          (inserted_here (nat_lt x c) l x c cs refl e.1 r h (λ k. rises_inserted (c + 1) x cs r.1 (omega (arith, k)))))
    ]

-- one less
nothing_less : (l x : ℕ) (cs : List ℕ) → RisesFrom l cs → x < l → filter (λ c. not (eqb c x)) cs ≡ cs
nothing_less l x [] r h = refl
nothing_less l x (c ∷ cs) r h =
    let k : x < c = omega (arith, r.0, h) in
    let a : eqb c x ≡ false = apart c x (λ e. omega (arith, e, k)) in
    rw (a, nothing_less (c + 1) x cs r.1 (omega (arith, k))) refl

pub removed_at : (l : ℕ) (cs : List ℕ) (i x d : ℕ) → RisesFrom l cs → i < length cs → get_or cs i d ≡ x
    → remove cs i ≡ filter (λ c. not (eqb c x)) cs
removed_at l [] i x d r h same = absurd (omega (arith, h))
removed_at l (c ∷ cs) zero x d r h same =
    let a : eqb c x ≡ true = alike c x same in
    rw (a, nothing_less (c + 1) x cs r.1 (omega (arith, same))) refl
removed_at l (c ∷ cs) (suc i) x d r h same =
    let m : c + 1 ≤ get_or cs i d = at_least (c + 1) cs i d r.1 (omega (arith, h)) in
    let a : eqb c x ≡ false = apart c x (λ e. omega (arith, e, m, same)) in
    rw a (ap (λ (t : List ℕ). c ∷ t) (removed_at (c + 1) cs i x d r.1 (omega (arith, h)) same))

pub removed_not : (l : ℕ) (cs : List ℕ) (i x d : ℕ) → RisesFrom l cs → ((k : ℕ) → k < i → get_or cs k d < x)
    → (i < length cs → x < get_or cs i d) → filter (λ c. not (eqb c x)) cs ≡ cs
removed_not l [] i x d r low high = refl
removed_not l (c ∷ cs) zero x d r low high =
    let k : x < c = high (omega arith) in
    let a : eqb c x ≡ false = apart c x (λ e. omega (arith, e, k)) in
    rw (a, nothing_less (c + 1) x cs r.1 (omega (arith, k))) refl
removed_not l (c ∷ cs) (suc i) x d r low high =
    let k : c < x = low 0 (omega arith) in
    let a : eqb c x ≡ false = apart c x (λ e. omega (arith, e, k)) in
    rw a (ap (λ (t : List ℕ). c ∷ t)
    (removed_not (c + 1) cs i x d r.1 (λ k l. low (suc k) (omega (arith, l))) (λ l. high (omega (arith, l)))))

-- those of a group stand beside each other
group_starts : (group : ℕ) (cs : List ℕ) (s e d : ℕ) → s ≤ e → e ≤ length cs
    → ((k : ℕ) → k < s → get_or cs k d < group * 2 ^ 32)
    → ((k : ℕ) → s ≤ k → k < e → (group * 2 ^ 32 ≤ get_or cs k d) × (get_or cs k d < group * 2 ^ 32 + 2 ^ 32))
    → ((k : ℕ) → e ≤ k → k < length cs → group * 2 ^ 32 + 2 ^ 32 ≤ get_or cs k d)
    → take (e - s) (drop s cs) ≡ filter (is_in_group group) cs
group_starts group [] zero zero d h m low mid high = refl
group_starts group [] zero (suc e) d h m low mid high = absurd (omega (arith, m))
group_starts group [] (suc s) e d h m low mid high = absurd (omega (arith, h, m))
group_starts group (c ∷ cs) zero zero d h m low mid high =
    let k : group * 2 ^ 32 + 2 ^ 32 ≤ c = high 0 (omega arith) (omega arith) in
    let a : is_in_group group c ≡ false = over group c k in
    rw a
    (group_starts group cs zero zero d (omega arith) (omega arith) (λ k l. absurd (omega (arith, l)))
    (λ k l n. absurd (omega (arith, n))) (λ k l n. high (suc k) (omega arith) (omega (arith, n))))
group_starts group (c ∷ cs) zero (suc e) d h m low mid high =
    let k : (group * 2 ^ 32 ≤ c) × (c < group * 2 ^ 32 + 2 ^ 32) = mid 0 (omega arith) (omega arith) in
    let a : is_in_group group c ≡ true = inside group c k.0 k.1 in
    let z : suc e - 0 ≡ suc (e - 0) = omega arith in
    rw (a, z) (ap (λ (t : List ℕ). c ∷ t)
    (group_starts group cs zero e d (omega arith) (omega (arith, m)) (λ k l. absurd (omega (arith, l)))
    (λ k l n. mid (suc k) (omega arith) (omega (arith, n))) (λ k l n. high (suc k) (omega (arith, l)) (omega (arith, n)))))
group_starts group (c ∷ cs) (suc s) zero d h m low mid high = absurd (omega (arith, h))
group_starts group (c ∷ cs) (suc s) (suc e) d h m low mid high =
    let k : c < group * 2 ^ 32 = low 0 (omega arith) in
    let a : is_in_group group c ≡ false = under group c k in
    let z : suc e - suc s ≡ e - s = omega arith in
    rw (a, z)
    (group_starts group cs s e d (omega (arith, h)) (omega (arith, m)) (λ k l. low (suc k) (omega (arith, l)))
    (λ k l n. mid (suc k) (omega (arith, l)) (omega (arith, n)))
    (λ k l n. high (suc k) (omega (arith, l)) (omega (arith, n))))

-- the points of two searches
pub in_order : (cs : List ℕ) (first_ last_ s e : ℕ) → first_ ≤ last_ → s ≤ length cs
    → IsPartitionPoint (λ c. c < first_) (λ c. first_ ≤ c) cs s
    → IsPartitionPoint (λ c. c ≤ last_) (λ c. last_ < c) cs e → s ≤ e
in_order cs first_ last_ s e h n p q = go (nat_le s e) refl
  where
    go : (b : Bool) → nat_le s e ≡ b → s ≤ e
    go true t = leb-true s e t
    go false t =
        let l : e < s = leb-false s e t in
        let a : get_or cs e 0 < first_ = p.0 e 0 (omega arith) l in
        let b : last_ < get_or cs e 0 = q.1 e 0 (omega arith) (omega (arith, l, n)) in
        absurd (omega (arith, a, b, h))

pub group_between : (group : ℕ) (cs : List ℕ) (s e first_ last_ : ℕ) → first_ ≡ group * 2 ^ 32
    → last_ ≡ group * 2 ^ 32 + 4294967295 → s ≤ length cs → e ≤ length cs
    → IsPartitionPoint (λ c. c < first_) (λ c. first_ ≤ c) cs s
    → IsPartitionPoint (λ c. c ≤ last_) (λ c. last_ < c) cs e
    → slice_range cs s e ≡ filter (is_in_group group) cs
group_between group cs s e first_ last_ f l n m p q =
    group_starts group cs s e 0 (in_order cs first_ last_ s e (omega (arith, f, l)) n p q) m
    (λ k h. let a = p.0 k 0 (omega arith) h in omega (arith, a, f))
    (λ k h i.
    let a = p.1 k 0 h (omega (arith, i, m)) in
    let b = q.0 k 0 (omega arith) i in
    (omega (arith, a, f), omega (arith, b, l)))
    (λ k h i. let b = q.1 k 0 h i in omega (arith, b, l))
