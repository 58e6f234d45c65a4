-- One item further in a walk that keeps the first fault so far.
use Rattle.std.proofs.Common.{◌≡◌, ℕ, ◌+◌, ◌<◌, Bool, true, List, ◌∷◌, drop, get_or, length, flat_map, filter_map, Option, Some, None}
use Rattle.std.proofs.Common.{ap, sym, refl, ◌∙◌}
use Rattle.std.proofs.lemmas.List.{drop_more}
use Rattle.std.specs.List.{cons_option, enumerate_from}
use Rattle.composer_parser.specs.declared.Lined.{Lined}
use Rattle.model.specs.Words.{first_of_these}
use Rattle.definition_faults.specs.Orders.{at_line, earlier_of, earliest, faults_at}
use Rattle.definition_faults.specs.declared.kinds.Kind.{Kind}
use Rattle.definition_faults.specs.declared.kinds.Fault.{Fault}
use Rattle.definition_faults.proofs.Earliest.{ascends, earlier_assoc, earliest-append, first_told}

-- of items with their places
pub placed_more : {X : Type 0} (f : ℕ × X → List Fault) (xs : List X) (i : ℕ) (x : X) (all first new own : Option Fault)
    → i < length xs → x ≡ get_or xs i x → own ≡ earliest (f (i, x)) → new ≡ earlier_of first own
    → all ≡ earlier_of first (earliest (flat_map f (enumerate_from i (drop i xs))))
    → all ≡ earlier_of new (earliest (flat_map f (enumerate_from (i + 1) (drop (i + 1) xs))))
placed_more f xs i x all first new own low at told put before =
    let rest = flat_map f (enumerate_from (i + 1) (drop (i + 1) xs)) in
    before
    ∙ (ap (λ l. earlier_of first (earliest (flat_map f (enumerate_from i l))))
    (drop_more xs i x low ∙ ap (λ y. y ∷ drop (i + 1) xs) (sym at))
    ∙ (ap (earlier_of first) (earliest-append (f (i, x)) rest ∙ ap (λ o. earlier_of o (earliest rest)) (sym told))
    ∙ (sym (earlier_assoc first own (earliest rest)) ∙ ap (λ o. earlier_of o (earliest rest)) (sym put))))

-- of items alone
pub listed_more : {X : Type 0} (f : X → List Fault) (xs : List X) (i : ℕ) (x : X) (all first new own : Option Fault)
    → i < length xs → x ≡ get_or xs i x → own ≡ earliest (f x) → new ≡ earlier_of first own
    → all ≡ earlier_of first (earliest (flat_map f (drop i xs)))
    → all ≡ earlier_of new (earliest (flat_map f (drop (i + 1) xs)))
listed_more f xs i x all first new own low at told put before =
    let rest = flat_map f (drop (i + 1) xs) in
    before
    ∙ (ap (λ l. earlier_of first (earliest (flat_map f l))) (drop_more xs i x low ∙ ap (λ y. y ∷ drop (i + 1) xs) (sym at))
    ∙ (ap (earlier_of first) (earliest-append (f x) rest ∙ ap (λ o. earlier_of o (earliest rest)) (sym told))
    ∙ (sym (earlier_assoc first own (earliest rest)) ∙ ap (λ o. earlier_of o (earliest rest)) (sym put))))

-- of items with lines, each with a table
pub table_more : {X : Type 0} (rows : ℕ → X → List (Bool × Kind)) (xs : List (Lined X)) (i : ℕ) (x : Lined X)
    (all first new : Option Fault) (kind : Option Kind)
    → i < length xs → x ≡ get_or xs i x → ascends (rows i x.item) ≡ true → kind ≡ first_of_these (rows i x.item)
    → new ≡ earlier_of first (at_line x.line kind)
    → all
    ≡ earlier_of first
    (earliest (flat_map (λ (p : ℕ × Lined X). faults_at p.1.line (rows p.0 p.1.item)) (enumerate_from i (drop i xs))))
    → all
    ≡ earlier_of new
    (earliest (flat_map (λ (p : ℕ × Lined X). faults_at p.1.line (rows p.0 p.1.item)) (enumerate_from (i + 1) (drop (i + 1) xs))))
table_more {X} rows xs i x all first new kind low at ordered told put before =
    placed_more (λ (p : ℕ × Lined X). faults_at p.1.line (rows p.0 p.1.item)) xs i x all first new (at_line x.line kind) low at
    (ap (at_line x.line) told ∙ sym (first_told x.line (rows i x.item) ordered)) put before

pub list_table_more : {X : Type 0} (rows : X → List (Bool × Kind)) (xs : List (Lined X)) (i : ℕ) (x : Lined X)
    (all first new : Option Fault) (kind : Option Kind)
    → i < length xs → x ≡ get_or xs i x → ascends (rows x.item) ≡ true → kind ≡ first_of_these (rows x.item)
    → new ≡ earlier_of first (at_line x.line kind)
    → all ≡ earlier_of first (earliest (flat_map (λ (o : Lined X). faults_at o.line (rows o.item)) (drop i xs)))
    → all ≡ earlier_of new (earliest (flat_map (λ (o : Lined X). faults_at o.line (rows o.item)) (drop (i + 1) xs)))
list_table_more {X} rows xs i x all first new kind low at ordered told put before =
    listed_more (λ (o : Lined X). faults_at o.line (rows o.item)) xs i x all first new (at_line x.line kind) low at
    (ap (at_line x.line) told ∙ sym (first_told x.line (rows x.item) ordered)) put before

-- of at most one each
pub found_more : {X : Type 0} (f : X → Option Fault) (xs : List X) (i : ℕ) (x : X) (all first new own : Option Fault)
    → i < length xs → x ≡ get_or xs i x → own ≡ f x → new ≡ earlier_of first own
    → all ≡ earlier_of first (earliest (filter_map f (drop i xs)))
    → all ≡ earlier_of new (earliest (filter_map f (drop (i + 1) xs)))
found_more f xs i x all first new own low at told put before =
    let rest = filter_map f (drop (i + 1) xs) in
    before
    ∙ (ap (λ l. earlier_of first (earliest (filter_map f l))) (drop_more xs i x low ∙ ap (λ y. y ∷ drop (i + 1) xs) (sym at))
    ∙ (ap (earlier_of first) (first_one (f x) rest)
    ∙ (sym (earlier_assoc first (f x) (earliest rest))
    ∙ ap (λ o. earlier_of o (earliest rest)) (ap (earlier_of first) (sym told) ∙ sym put))))
  where
    first_one : (o : Option Fault) (fs : List Fault) → earliest (cons_option o fs) ≡ earlier_of o (earliest fs)
    first_one None fs = refl
    first_one (Some f) fs = refl

-- one table
pub told_at : (line : ℕ) (rows : List (Bool × Kind)) (kind : Option Kind) (found : Option Fault) → ascends rows ≡ true
    → kind ≡ first_of_these rows → found ≡ earlier_of None (at_line line kind) → found ≡ earliest (faults_at line rows)
told_at line rows kind found ordered told put =
    put ∙ (ap (at_line line) told ∙ sym (first_told line rows ordered))
