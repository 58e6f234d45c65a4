-- What fails of rows, added to a list row by row.
use Rattle.std.proofs.Common.{◌≡◌, ◌∙◌, ◌∷◌, ◌++◌, [], ap, append_assoc, Bool, List, cond, false, map, refl, sym, true}
use Rattle.waiting.specs.Rows.{all_noted, failing, noted}
use Rattle.std.proofs.lemmas.List.{append-nil}

-- what fails of several parts is that of each
pub failing_append : {X : Type 0} (rows more : List (Bool × X)) → failing (rows ++ more) ≡ failing rows ++ failing more
failing_append [] more = refl
failing_append {X} (row ∷ rows) more = go row.0 (failing_append rows more)
  where
    go : (b : Bool) → failing (rows ++ more) ≡ failing rows ++ failing more
        → cond b (failing (rows ++ more)) (row.1 ∷ failing (rows ++ more))
        ≡ cond b (failing rows) (row.1 ∷ failing rows) ++ failing more
    go true e = e
    go false e = ap (λ (l : List X). row.1 ∷ l) e

-- noting rows adds what fails of them
pub noted_failing : {X : Type 0} (rows : List (Bool × X)) (before : List X)
    → all_noted before rows ≡ before ++ failing rows
noted_failing [] before = sym (append-nil before)
noted_failing {X} (row ∷ rows) before = go row.0 (noted_failing rows)
  where
    go : (b : Bool) → ((first : List X) → all_noted first rows ≡ first ++ failing rows)
        → all_noted (cond b before (before ++ row.1 ∷ [])) rows
        ≡ before ++ cond b (failing rows) (row.1 ∷ failing rows)
    go true k = k before
    go false k = k (before ++ row.1 ∷ []) ∙ append_assoc before (row.1 ∷ []) (failing rows)

-- one part behind another
pub parts : {X : Type 0} (first second : List (Bool × X)) (before : List X)
    → (before ++ failing first) ++ failing second ≡ before ++ failing (first ++ second)
parts {X} first second before =
    append_assoc before (failing first) (failing second)
    ∙ ap (λ (l : List X). before ++ l) (sym (failing_append first second))

-- rows that are noted, and then what fails of others
pub noted_then : {X : Type 0} (first second : List (Bool × X)) (before middle after : List X)
    → middle ≡ all_noted before first → after ≡ middle ++ failing second → after ≡ before ++ failing (first ++ second)
noted_then {X} first second before middle after e f =
    f ∙ ap (λ (l : List X). l ++ failing second) (e ∙ noted_failing first before) ∙ parts first second before

-- and rows that are noted behind
pub then_noted : {X : Type 0} (first second : List (Bool × X)) (before middle after : List X)
    → middle ≡ before ++ failing first → after ≡ all_noted middle second → after ≡ before ++ failing (first ++ second)
then_noted {X} first second before middle after e f =
    f ∙ noted_failing second middle ∙ ap (λ (l : List X). l ++ failing second) e ∙ parts first second before

-- one more row behind what was noted of those before it
pub one_noted : {X : Type 0} (row : Bool × X) (left : List (Bool × X)) (all so_far after : List X)
    → all ≡ so_far ++ failing (row ∷ left) → after ≡ noted so_far row → all ≡ after ++ failing left
one_noted {X} row left all so_far after e f = go row.0 refl
  where
    go : (b : Bool) → row.0 ≡ b → all ≡ after ++ failing left
    go true g = e ∙ ap (λ (c : Bool). so_far ++ cond c (failing left) (row.1 ∷ failing left)) g
        ∙ ap (λ (l : List X). l ++ failing left) (sym (f ∙ ap (λ (c : Bool). cond c so_far (so_far ++ row.1 ∷ [])) g))
    go false g = e ∙ ap (λ (c : Bool). so_far ++ cond c (failing left) (row.1 ∷ failing left)) g
        ∙ sym (append_assoc so_far (row.1 ∷ []) (failing left))
        ∙ ap (λ (l : List X). l ++ failing left) (sym (f ∙ ap (λ (c : Bool). cond c so_far (so_far ++ row.1 ∷ [])) g))

-- a walk that notes a row for each, one further
pub one_further : {X Y : Type 0} (f : X → Bool × Y) (x : X) (left behind : List X) (all so_far after : List Y)
    → left ≡ x ∷ behind → all ≡ so_far ++ failing (map f left) → after ≡ noted so_far (f x)
    → all ≡ after ++ failing (map f behind)
one_further {X} {Y} f x left behind all so_far after e h g =
    one_noted (f x) (map f behind) all so_far after (h ∙ ap (λ (l : List X). so_far ++ failing (map f l)) e) g

-- and at its end
pub at_end : {X Y : Type 0} (f : X → Bool × Y) (left : List X) (all so_far : List Y) → left ≡ []
    → all ≡ so_far ++ failing (map f left) → so_far ≡ all
at_end {X} {Y} f left all so_far e h =
    sym (h ∙ ap (λ (l : List X). so_far ++ failing (map f l)) e ∙ append-nil so_far)

-- two parts noted row by row, one in a walk, and one row by row
pub four_parts : {X : Type 0} (first second third fourth : List (Bool × X)) (l0 l1 l2 l3 l4 : List X)
    → l1 ≡ all_noted l0 first → l2 ≡ all_noted l1 second → l3 ≡ l2 ++ failing third → l4 ≡ all_noted l3 fourth
    → l4 ≡ l0 ++ failing (first ++ second ++ third ++ fourth)
four_parts {X} first second third fourth l0 l1 l2 l3 l4 e1 e2 e3 e4 =
    then_noted (first ++ second ++ third) fourth l0 l3 l4 upto_third e4
  where
    upto_second : l2 ≡ l0 ++ failing (first ++ second)
    upto_second = then_noted first second l0 l1 l2 (e1 ∙ noted_failing first l0) e2

    upto_third : l3 ≡ l0 ++ failing (first ++ second ++ third)
    upto_third = e3 ∙ ap (λ (l : List X). l ++ failing third) upto_second ∙ parts (first ++ second) third l0
