-- Texts whose lines are rows, and rows that stand where they are.
use Rattle.std.proofs.Common.{◌≡◌, ℕ, List, [], ◌∷◌, ◌++◌, refl, ap, sym, subst, ◌∙◌, flat_map, map, append_assoc}
use Rattle.std.specs.List.{AllByRecursion}
use Rattle.history_laws.proofs.Lines.{Lacks, line_first}
use Rattle.record_faults.specs.Places.{below_row, placed_from, row_at}
use Rattle.record_faults.specs.declared.places.Place.{Place}
use Rattle.record_rows.specs.Rows.{row_of, rows_of}
use Rattle.record_rows.specs.declared.rows.Row.{Row}

-- The lines of the text are these rows, whatever stands behind it.
abbrev pub Spells : List ℕ → List Row → Type 0
Spells text rows = (rest : List ℕ) → rows_of (text ++ rest) ≡ rows ++ rows_of rest

pub spells_none : Spells [] []
spells_none = λ rest. refl

pub spells_line : (line : List ℕ) (r : Row) → Lacks 10 line → row_of line ≡ r → Spells (line ++ 10 ∷ []) (r ∷ [])
spells_line line r free is = λ rest.
    ap (λ l. rows_of l) (append_assoc line (10 ∷ []) rest)
    ∙ ap (map row_of) (line_first line rest free)
    ∙ ap (λ x. x ∷ rows_of rest) is

pub spells_both : (a b : List ℕ) (xs ys : List Row) → Spells a xs → Spells b ys → Spells (a ++ b) (xs ++ ys)
spells_both a b xs ys h k = λ rest.
    ap (λ l. rows_of l) (append_assoc a b rest)
    ∙ h (b ++ rest) ∙ ap (λ l. xs ++ l) (k rest) ∙ sym (append_assoc xs ys (rows_of rest))

pub spells_each : {A : Type 0} (P : A → Type 0) (f : A → List ℕ) (g : A → List Row) → ((x : A) → P x → Spells (f x) (g x))
    → (xs : List A) → AllByRecursion P xs → Spells (flat_map f xs) (flat_map g xs)
spells_each P f g is [] all = spells_none
spells_each P f g is (x ∷ xs) all =
    spells_both (f x) (flat_map f xs) (g x) (flat_map g xs) (is x all.0) (spells_each P f g is xs all.1)

pub spells_map : {A : Type 0} (P : A → Type 0) (f : A → List ℕ) (g : A → Row) → ((x : A) → P x → Spells (f x) (g x ∷ []))
    → (xs : List A) → AllByRecursion P xs → Spells (flat_map f xs) (map g xs)
spells_map P f g is [] all = spells_none
spells_map P f g is (x ∷ xs) all =
    spells_both (f x) (flat_map f xs) (g x ∷ []) (map g xs) (is x all.0) (spells_map P f g is xs all.1)

pub spells_as : (text other : List ℕ) (rows : List Row) → text ≡ other → Spells other rows → Spells text rows
spells_as text other rows same h = subst (λ t. Spells t rows) (sym same) h

-- The rows stand below a place, and what follows them stands below another.
abbrev pub Stands : Place → List Row → Place → Type 0
Stands a rows b = (rest : List Row) → placed_from a (rows ++ rest) ≡ rows ++ placed_from b rest

pub stands_none : (a : Place) → Stands a [] a
stands_none a = λ rest. refl

pub stands_row : (a b : Place) (r : Row) → row_at a r ≡ r → below_row a r ≡ b → Stands a (r ∷ []) b
unfolding placed_from
stands_row a b r here below = λ rest.
    ap (λ x. x ∷ placed_from (below_row a x) rest) here ∙ ap (λ p. r ∷ placed_from p rest) below

pub stands_both : (a b c : Place) (xs ys : List Row) → Stands a xs b → Stands b ys c → Stands a (xs ++ ys) c
stands_both a b c xs ys h k = λ rest.
    ap (placed_from a) (append_assoc xs ys rest)
    ∙ h (ys ++ rest) ∙ ap (λ l. xs ++ l) (k rest) ∙ sym (append_assoc xs ys (placed_from c rest))

pub stands_map : {A : Type 0} (a : Place) (g : A → Row) → ((x : A) → Stands a (g x ∷ []) a) → (xs : List A)
    → Stands a (map g xs) a
stands_map a g each [] = stands_none a
stands_map a g each (x ∷ xs) = stands_both a a a (g x ∷ []) (map g xs) (each x) (stands_map a g each xs)

-- The same below each place of a kind, to a place of that kind.
abbrev pub Keeps : (Place → Type 0) → List Row → Type 0
Keeps Q rows = (a : Place) → Q a → (b : Place) × Q b × Stands a rows b

pub keeps_map : {A : Type 0} (Q : Place → Type 0) (g : A → Row) → ((x : A) → Keeps Q (g x ∷ [])) → (xs : List A)
    → Keeps Q (map g xs)
keeps_map Q g each [] = λ a q. (a, q, stands_none a)
keeps_map Q g each (x ∷ xs) = λ a q.
    let first = each x a q in
    let rest = keeps_map Q g each xs first.0 first.1 in (
      rest.0,
      rest.1,
      stands_both a first.0 rest.0 (g x ∷ []) (map g xs) first.2 rest.2,
    )

pub keeps_each : {A : Type 0} (Q : Place → Type 0) (g : A → List Row) → ((x : A) → Keeps Q (g x)) → (xs : List A)
    → Keeps Q (flat_map g xs)
keeps_each Q g each [] = λ a q. (a, q, stands_none a)
keeps_each Q g each (x ∷ xs) = λ a q.
    let first = each x a q in
    let rest = keeps_each Q g each xs first.0 first.1 in (
      rest.0,
      rest.1,
      stands_both a first.0 rest.0 (g x) (flat_map g xs) first.2 rest.2,
    )
