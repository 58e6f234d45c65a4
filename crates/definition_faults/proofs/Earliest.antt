-- The first of several faults, and the first of a table.
use Rattle.std.proofs.Common.{◌≡◌, ℕ, Bool, true, false, ◌&&◌, ◌||◌, cond, eqb, List, [], ◌∷◌, ◌++◌, Option, Some, None}
use Rattle.std.proofs.Common.{refl, sym, ap, ◌∙◌, arith}
use Rattle.std.proofs.lemmas.Bool.Decides.{nat_tests}
use Rattle.std.specs.Prelude.{nat_lt, nat_le}
use Rattle.std.specs.List.{list_all}
use Rattle.lemmas.proofs.Booleans.{and_parts}
use Rattle.model.specs.Words.{first_of_these}
use Rattle.definition_faults.specs.Orders.{rank, fault, faults_at, comes_first, earlier_of, earliest, at_line}
use Rattle.definition_faults.specs.declared.kinds.Kind.{Kind}
use Rattle.definition_faults.specs.declared.kinds.Fault.{Fault}

-- lines and ranks by their numbers
abbrev first_by : ℕ → ℕ → ℕ → ℕ → Bool
first_by l k m n = nat_lt l m || (eqb l m && nat_le k n)

through : (l k m n o p : ℕ) → first_by l k m n ≡ true → first_by m n o p ≡ true → first_by l k o p ≡ true
through l k m n o p a b = grind (arith, nat_tests)

apart : (l k m n o p : ℕ) → first_by l k m n ≡ false → first_by m n o p ≡ false → first_by l k o p ≡ false
apart l k m n o p a b = grind (arith, nat_tests)

pub first_through : (a b c : Fault) → comes_first a b ≡ true → comes_first b c ≡ true → comes_first a c ≡ true
first_through a b c = through a.line (rank a.kind) b.line (rank b.kind) c.line (rank c.kind)

pub first_apart : (a b c : Fault) → comes_first a b ≡ false → comes_first b c ≡ false → comes_first a c ≡ false
first_apart a b c = apart a.line (rank a.kind) b.line (rank b.kind) c.line (rank c.kind)

pub earlier-none : (a : Option Fault) → earlier_of a None ≡ a
earlier-none None = refl
earlier-none (Some a) = refl

-- of three faults the first is the same, whichever two are compared first
three : (a b c : Fault) (p q : Bool) → comes_first a b ≡ p → comes_first b c ≡ q
    → earlier_of (cond p (Some a) (Some b)) (Some c) ≡ earlier_of (Some a) (cond q (Some b) (Some c))
three a b c true true h k = let far : comes_first a c ≡ true = first_through a b c h k in rw (h, far) refl
three a b c true false h k = refl
three a b c false true h k = rw (h, k) refl
three a b c false false h k = let far : comes_first a c ≡ false = first_apart a b c h k in rw (k, far) refl

pub earlier_assoc : (a b c : Option Fault) → earlier_of (earlier_of a b) c ≡ earlier_of a (earlier_of b c)
earlier_assoc None b c = refl
earlier_assoc (Some a) None c = refl
earlier_assoc (Some a) (Some b) None = earlier-none (earlier_of (Some a) (Some b))
earlier_assoc (Some a) (Some b) (Some c) = three a b c (comes_first a b) (comes_first b c) refl refl

pub earliest-append : (xs ys : List Fault) → earliest (xs ++ ys) ≡ earlier_of (earliest xs) (earliest ys)
earliest-append [] ys = refl
earliest-append (x ∷ xs) ys =
    ap (earlier_of (Some x)) (earliest-append xs ys) ∙ sym (earlier_assoc (Some x) (earliest xs) (earliest ys))

-- the rows of a table stand in the order of the kinds
abbrev pub is_no_earlier : Kind → Bool × Kind → Bool
is_no_earlier k row = nat_le (rank k) (rank row.1)

abbrev pub ascends : List (Bool × Kind) → Bool
ascends [] = true
ascends (row ∷ rows) = list_all (is_no_earlier row.1) rows && ascends rows

on_line : (l k n : ℕ) → nat_le k n ≡ true → first_by l k l n ≡ true
on_line l k n h = grind (arith, nat_tests)

-- a kind comes before all of the later rows
stays : (line : ℕ) (k : Kind) (rows : List (Bool × Kind)) → list_all (is_no_earlier k) rows ≡ true
    → earlier_of (Some (fault line k)) (earliest (faults_at line rows)) ≡ Some (fault line k)
stays line k [] h = refl
stays line k ((false, j) ∷ rows) h =
    stays line k rows (and_parts (nat_le (rank k) (rank j)) (list_all (is_no_earlier k) rows) h).1
stays line k ((true, j) ∷ rows) h =
    let parts = and_parts (nat_le (rank k) (rank j)) (list_all (is_no_earlier k) rows) h in
    let first : comes_first (fault line k) (fault line j) ≡ true = on_line line (rank k) (rank j) parts.0 in
    sym (earlier_assoc (Some (fault line k)) (Some (fault line j)) (earliest (faults_at line rows)))
    ∙ rw first (stays line k rows parts.1)

-- the first fault of a table is that of its first row whose test holds
pub first_told : (line : ℕ) (rows : List (Bool × Kind)) → ascends rows ≡ true
    → earliest (faults_at line rows) ≡ at_line line (first_of_these rows)
first_told line [] h = refl
first_told line ((false, k) ∷ rows) h =
    first_told line rows (and_parts (list_all (is_no_earlier k) rows) (ascends rows) h).1
first_told line ((true, k) ∷ rows) h =
    stays line k rows (and_parts (list_all (is_no_earlier k) rows) (ascends rows) h).0
