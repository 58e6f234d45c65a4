-- The faults of clauses as counts: of unknown names, of numbers out of range, of foreign resources and of dependencies.
use Rattle.std.proofs.Common.{◌≡◌, ◌≤◌, ℕ, zero, suc, ◌+◌, ◌&&◌, ◌||◌, Bool, true, false, eqb, List, [], ◌∷◌, ◌++◌}
use Rattle.std.proofs.Common.{length, take, flat_map}
use Rattle.std.proofs.Common.{Option, Some, refl, ap, sym, subst, ◌∙◌, add-one, arith, slice_get}
use Rattle.std.proofs.lemmas.Bool.Decides.{nat_tests}
use Rattle.std.proofs.lemmas.List.Sums.{sum_by-cons, sum_by-take-le}
use Rattle.std.specs.List.{enumerate_from, list_any}
use Rattle.std.specs.Prelude.{nat_le, nat_lt}
use Rattle.lemmas.proofs.Booleans.{neither}
use Rattle.lemmas.proofs.Lists.{got_below, take_whole}
use Rattle.composer_parser.specs.declared.Lined.{Lined}
use Rattle.composer_parser.specs.declared.Defs.{Defs}
use Rattle.composer_parser.specs.declared.Clause.{Clause}
use Rattle.composer_parser.specs.declared.Clause.TheVariants.{Follows, Needs, Prompt, Opens}
use Rattle.composer_print.specs.Streams.{items}
use Rattle.definition_faults.specs.Clauses.{is_foreign, has_foreign, clause_rows, dependencies, passes, clause_faults}
use Rattle.definition_faults.specs.Orders.{faults_at}
use Rattle.definition_faults.specs.Ranges.{needs_too_many, is_out_of_range, dependency_count}
use Rattle.definition_faults.specs.Unknown.{is_unknown_pred, is_unknown_need, is_unknown_prompt, has_unknown}
use Rattle.definition_faults.specs.declared.Kind.{Kind}
use Rattle.workload_defs.proofs.Clean.{NoneHolds, rows_none}
use Rattle.canonical_laws.proofs.Lists.{Both}
use Rattle.canonical_laws.proofs.Weights.{Weights, weight, total, total_mapped}

abbrev pub bit : Bool → ℕ
bit true = 1
bit false = 0

abbrev pub unknown_weights : Defs → ℕ → Bool → Option (List ℕ) → Weights
unknown_weights d n inside own = record {
  single = λ c. 0;
  pred = λ p. bit (is_unknown_pred d n inside p);
  need = λ x. bit (is_unknown_need d own x);
  prompt = λ p. bit (is_unknown_prompt d p);
  file = λ f. 0;
}

abbrev pub range_weights : Weights
range_weights = record {
  single = λ c. bit (is_out_of_range c);
  pred = λ p. 0;
  need = λ x. bit (needs_too_many x);
  prompt = λ p. 0;
  file = λ f. bit (eqb (length f) 0);
}

abbrev pub foreign_weights : Option (List ℕ) → Weights
foreign_weights own = record {
  single = λ c. 0;
  pred = λ p. 0;
  need = λ x. bit (is_foreign own x);
  prompt = λ p. 0;
  file = λ f. 0;
}

abbrev pub all_weights : Weights
all_weights = record {
  single = λ c. dependency_count c;
  pred = λ p. 1;
  need = λ x. 1;
  prompt = λ p. 1;
  file = λ f. 1;
}

-- tests as counts
pub bit_zero : (b : Bool) → Both (b ≡ false) (bit b ≡ 0)
bit_zero true = (λ e. cc, λ e. absurd (omega (arith, e)))
bit_zero false = (λ e. refl, λ e. refl)

any_zero : {X : Type 0} (t : X → Bool) (xs : List X) → Both (list_any t xs ≡ false) (total (λ x. bit (t x)) xs ≡ 0)
any_zero t [] = (λ e. refl, λ e. refl)
any_zero {X = X} t (x ∷ xs) = go (t x) (any_zero t xs)
  where
    go : (b : Bool) → Both (list_any t xs ≡ false) (total (λ y. bit (t y)) xs ≡ 0)
        → Both ((b || list_any t xs) ≡ false) (bit b + total (λ y. bit (t y)) xs ≡ 0)
    go true more = (λ e. cc, λ e. absurd (omega (arith, e)))
    go false more = (λ e. let none = more.0 e in omega (arith, none), λ e. more.1 (omega (arith, e)))

no_total : {X : Type 0} (xs : List X) → total (λ x. 0) xs ≡ 0
no_total [] = refl
no_total (x ∷ xs) = omega (arith, no_total xs)

ones : {X : Type 0} (xs : List X) → length xs ≡ total (λ x. 1) xs
ones [] = refl
ones (x ∷ xs) = omega (arith, ones xs)

pub neither_way : {A : Type 0} (xs : List A) → Both (false ≡ false) (total (λ x. 0) xs ≡ 0)
neither_way xs = (λ e. no_total xs, λ e. refl)

nothing_told : (n : ℕ) → Both (false ≡ false) (n ≡ n)
nothing_told n = (λ e. refl, λ e. refl)

unknown_zero : (d : Defs) (n : ℕ) (inside : Bool) (own : Option (List ℕ)) (c : Clause)
    → Both (has_unknown d n inside own c ≡ false) (weight (unknown_weights d n inside own) c ≡ 0)
unknown_zero d n inside own (Follows ps) = any_zero (is_unknown_pred d n inside) ps
unknown_zero d n inside own (Needs ns) = any_zero (is_unknown_need d own) ns
unknown_zero d n inside own (Prompt ps) = any_zero (is_unknown_prompt d) ps
unknown_zero d n inside own (Opens fs) = neither_way fs
unknown_zero d n inside own c = nothing_told 0

range_zero : (c : Clause) → Both (is_out_of_range c ≡ false) (weight range_weights c ≡ 0)
range_zero (Follows ps) = neither_way ps
range_zero (Needs ns) = any_zero needs_too_many ns
range_zero (Prompt ps) = neither_way ps
range_zero (Opens fs) = any_zero (λ f. eqb (length f) 0) fs
range_zero c = bit_zero (is_out_of_range c)

foreign_zero : (own : Option (List ℕ)) (c : Clause)
    → Both (has_foreign own c ≡ false) (weight (foreign_weights own) c ≡ 0)
foreign_zero own (Follows ps) = neither_way ps
foreign_zero own (Needs ns) = any_zero (is_foreign own) ns
foreign_zero own (Prompt ps) = neither_way ps
foreign_zero own (Opens fs) = neither_way fs
foreign_zero own c = nothing_told 0

all_is : (c : Clause) → dependency_count c ≡ weight all_weights c
all_is (Follows ps) = ones ps
all_is (Needs ns) = ones ns
all_is (Prompt ps) = ones ps
all_is (Opens fs) = ones fs
all_is c = refl

dependencies_are : (cs : List (Lined Clause)) → dependencies cs ≡ total (weight all_weights) (items cs)
dependencies_are [] = refl
dependencies_are (c ∷ cs) =
    sum_by-cons (λ (x : Lined Clause). dependency_count x.item) c cs
    ∙ (λ i. all_is c.item i + dependencies_are cs i)

-- at each place, and all together
none_in_all : {X : Type 0} (g : X → ℕ) (xs : List X) → ((k : ℕ) (x : X) → slice_get xs k ≡ Some x → g x ≡ 0)
    → total g xs ≡ 0
none_in_all g [] h = refl
none_in_all g (x ∷ xs) h =
    let first = h 0 x refl in
    let rest = none_in_all g xs (λ k y e. h (suc k) y e) in
    omega (arith, first, rest)

none_at : {X : Type 0} (g : X → ℕ) (xs : List X) → total g xs ≡ 0 → (k : ℕ) (x : X) → slice_get xs k ≡ Some x → g x ≡ 0
none_at g [] e k x at = cc
none_at g (y ∷ ys) e zero x at =
    let same : y ≡ x = cc in
    subst (λ z. g z ≡ 0) same (omega (arith, e))
none_at g (y ∷ ys) e (suc k) x at = none_at g ys (omega (arith, e)) k x at

none_in_items : (w : Weights) (cs : List (Lined Clause))
    → ((k : ℕ) (c : Lined Clause) → slice_get cs k ≡ Some c → weight w c.item ≡ 0) → total (weight w) (items cs) ≡ 0
none_in_items w cs h =
    total_mapped (weight w) (λ (c : Lined Clause). weight w c.item) (λ c. c.item) (λ c. refl) cs
    ∙ none_in_all (λ (c : Lined Clause). weight w c.item) cs h

none_at_item : (w : Weights) (cs : List (Lined Clause)) → total (weight w) (items cs) ≡ 0
    → (k : ℕ) (c : Lined Clause) → slice_get cs k ≡ Some c → weight w c.item ≡ 0
none_at_item w cs e k c at =
    none_at (λ (x : Lined Clause). weight w x.item) cs
    (sym (total_mapped (weight w) (λ (x : Lined Clause). weight w x.item) (λ x. x.item) (λ x. refl) cs) ∙ e) k c at

-- no clause passes 64 dependencies where all together do not
few_more : (a b : ℕ) → a ≤ 64 → (nat_le a 64 && nat_lt 64 b) ≡ false → b ≤ 64
few_more a b h e = grind (arith, nat_tests)

none_passes : (a b : ℕ) → b ≤ 64 → (nat_le a 64 && nat_lt 64 b) ≡ false
none_passes a b h = grind (arith, nat_tests)

few_before : (cs : List (Lined Clause)) → ((k : ℕ) (c : Lined Clause) → slice_get cs k ≡ Some c → passes cs k ≡ false)
    → (k : ℕ) → k ≤ length cs → dependencies (take k cs) ≤ 64
few_before cs h zero low = omega arith
few_before cs h (suc k) low =
    let there_ = got_below cs k (omega (arith, low)) in
    let before = few_before cs h k (omega (arith, low)) in
    subst (λ m. dependencies (take m cs) ≤ 64) (add-one k)
    (few_more (dependencies (take k cs)) (dependencies (take (k + 1) cs)) before (h k there_.0 there_.1))

few_all : (cs : List (Lined Clause)) → ((k : ℕ) (c : Lined Clause) → slice_get cs k ≡ Some c → passes cs k ≡ false)
    → total (weight all_weights) (items cs) ≤ 64
few_all cs h =
    let few = few_before cs h (length cs) (omega arith) in
    let whole : dependencies (take (length cs) cs) ≡ total (weight all_weights) (items cs) =
    ap (λ (xs : List (Lined Clause)). dependencies xs) (take_whole cs (length cs) (omega arith))
    ∙ dependencies_are cs in
    omega (arith, few, whole)

passes_none : (cs : List (Lined Clause)) → total (weight all_weights) (items cs) ≤ 64 → (k : ℕ) → passes cs k ≡ false
passes_none cs few k =
    let short = sum_by-take-le (λ (c : Lined Clause). dependency_count c.item) cs (k + 1) in
    let whole = dependencies_are cs in
    none_passes (dependencies (take k cs)) (dependencies (take (k + 1) cs)) (omega (arith, short, whole, few))

-- the clauses have no fault
pub record AreGood (d : Defs) (n : ℕ) (inside : Bool) (own : Option (List ℕ)) (cs : List Clause) : Type 0 where
  pub unknown : total (weight (unknown_weights d n inside own)) cs ≡ 0
  pub range : total (weight range_weights) cs ≡ 0
  pub foreign : total (weight (foreign_weights own)) cs ≡ 0
  pub few : total (weight all_weights) cs ≤ 64

abbrev rows_at : Defs → ℕ → Bool → Option (List ℕ) → List (Lined Clause) → ℕ × Lined Clause → List (Bool × Kind)
rows_at d n inside own cs p = clause_rows d n inside own (passes cs p.0) p.1.item

pub good_of : (d : Defs) (n : ℕ) (inside : Bool) (own : Option (List ℕ)) (cs : List (Lined Clause))
    → clause_faults d n inside own cs ≡ [] → AreGood d n inside own (items cs)
unfolding clause_faults
good_of d n inside own cs e =
    let at_each : (k : ℕ) (c : Lined Clause) → slice_get cs k ≡ Some c → NoneHolds (rows_at d n inside own cs (k, c)) =
    λ k c at. rows_none (rows_at d n inside own cs) (λ (p : ℕ × Lined Clause). p.1.line) 0 cs e k k c
    (omega arith) at in
    record {
      unknown =
          none_in_items (unknown_weights d n inside own) cs
          (λ k c at. (unknown_zero d n inside own c.item).0 (at_each k c at).0);
      range =
          none_in_items range_weights cs
          (λ k c at. (range_zero c.item).0 (neither (passes cs k) (is_out_of_range c.item) (at_each k c at).1.0).1);
      foreign =
          none_in_items (foreign_weights own) cs (λ k c at. (foreign_zero own c.item).0 (at_each k c at).1.1.0);
      few =
          few_all cs (λ k c at. (neither (passes cs k) (is_out_of_range c.item) (at_each k c at).1.0).0);
    }

-- a table of which no test holds tells nothing
untold : (line : ℕ) (rows : List (Bool × Kind)) → NoneHolds rows → faults_at line rows ≡ []
untold line [] h = refl
untold line ((true, k) ∷ rows) h = let no_ : true ≡ false = h.0 in cc
untold line ((false, k) ∷ rows) h = untold line rows h.1

none_told : {X : Type 0} (rows : ℕ × X → List (Bool × Kind)) (line : ℕ × X → ℕ) (from : ℕ) (xs : List X)
    → ((k : ℕ) (x : X) → slice_get xs k ≡ Some x → NoneHolds (rows (from + k, x)))
    → flat_map (λ p. faults_at (line p) (rows p)) (enumerate_from from xs) ≡ []
none_told rows line from [] h = refl
none_told {X = X} rows line from (x ∷ xs) h =
    let here : from + 0 ≡ from = omega arith in
    let first = untold (line (from, x)) (rows (from, x)) (subst (λ m. NoneHolds (rows (m, x))) here (h 0 x refl)) in
    let rest =
    none_told rows line (from + 1) xs
    (λ k y at.
    let there_ : from + suc k ≡ from + 1 + k = omega arith in
    subst (λ m. NoneHolds (rows (m, y))) there_ (h (suc k) y at)) in
    λ i. first i ++ rest i

pub faults_of : (d : Defs) (n : ℕ) (inside : Bool) (own : Option (List ℕ)) (cs : List (Lined Clause))
    → AreGood d n inside own (items cs) → clause_faults d n inside own cs ≡ []
unfolding clause_faults
faults_of d n inside own cs good =
    none_told (rows_at d n inside own cs) (λ (p : ℕ × Lined Clause). p.1.line) 0 cs
    (λ k c at.
    let here : k ≡ 0 + k = omega arith in
    subst (λ m. NoneHolds (rows_at d n inside own cs (m, c))) here (
      (unknown_zero d n inside own c.item).1 (none_at_item (unknown_weights d n inside own) cs good.unknown k c at),
      (
        λ i. passes_none cs good.few k i || (range_zero c.item).1 (none_at_item range_weights cs good.range k c at) i,
        ((foreign_zero own c.item).1 (none_at_item (foreign_weights own) cs good.foreign k c at), tt),
      ),
    ))
