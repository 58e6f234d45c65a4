-- The priority, the limit and the mark of CARRYFORWARD of an object are those of its normal form.
use Rattle.std.proofs.Common.{◌≡◌, ◌||◌, ℕ, not, Bool, true, false, cond, eqb, List, [], ◌∷◌, ◌++◌, filter, filter_map}
use Rattle.std.proofs.Common.{flat_map, Option, refl, ap, sym, ◌∙◌}
use Rattle.std.proofs.Common.{append-nil, option_map, slice_get, unwrap_or}
use Rattle.std.specs.List.{list_any}
use Rattle.std.specs.Option.{option_to_list}
use Rattle.std.specs.Prelude.{min}
use Rattle.lemmas.proofs.Booleans.{contrary, or_true}
use Rattle.lemmas.proofs.Lists.{any_with}
use Rattle.lemmas.proofs.Numbers.{number_tells}
use Rattle.lemmas.proofs.Options.{cons_is}
use Rattle.composer_parser.specs.Clauses.{is_priority}
use Rattle.composer_parser.specs.declared.Clause.{Clause}
use Rattle.composer_parser.specs.declared.Clause.TheVariants.{Priority, Limit, CarryForward}
use Rattle.composer_parser.specs.declared.Lined.{Lined}
use Rattle.composer_laws.specs.Written.{AreClauses}
use Rattle.composer_print.specs.Normal.{all_unlined}
use Rattle.composer_print.specs.Scopes.{is_own_priority, normal_clauses}
use Rattle.composer_print.specs.Streams.{items}
use Rattle.composer_print.proofs.Joins.{items_unlined}
use Rattle.plan_builder.specs.Clauses.{priority_in, limit_in, is_carry, priority_of, limit_of, is_carried}
use Rattle.canonical_laws.proofs.Chosen.{IsOnly, of_kind, of_priority}
use Rattle.canonical_laws.proofs.Dependencies.{items_flat, flat_kept}

first_flat : (number_in : Clause → Option ℕ) (cs : List (Lined Clause))
    → filter_map (λ (c : Lined Clause). number_in c.item) cs ≡ flat_map
    (λ (c : Lined Clause). option_to_list (number_in c.item)) cs
first_flat number_in [] = refl
first_flat number_in (c ∷ cs) =
    cons_is (number_in c.item) (filter_map (λ (x : Lined Clause). number_in x.item) cs)
    ∙ ap (λ l. option_to_list (number_in c.item) ++ l) (first_flat number_in cs)

-- LIMIT
abbrev limits : Clause → List ℕ
limits c = option_to_list (limit_in c)

limit_only : IsOnly limits 4
limit_only (Limit n) h = cc
limit_only c h = refl

pub limit_kept : (names : List (List ℕ)) (home own : Option (List ℕ)) (cs : List (Lined Clause))
    → limit_of (all_unlined (normal_clauses names home own (items cs))) ≡ limit_of cs
limit_kept names home own cs =
    ap (λ (l : List ℕ). option_map (λ n. min n 1024) (slice_get l 0))
    (first_flat limit_in (all_unlined (normal_clauses names home own (items cs)))
    ∙ flat_kept limits names home own cs
    (of_kind limits 4 limit_only refl refl refl refl refl names home own (items cs)
    ∙ append-nil (flat_map limits (items cs)))
    ∙ sym (first_flat limit_in cs))

-- CARRYFORWARD
abbrev marks : Clause → List ℕ
marks c = cond (is_carry c) (0 ∷ []) []

mark_only : IsOnly marks 5
mark_only CarryForward h = cc
mark_only c h = refl

abbrev has_some : List ℕ → Bool
has_some [] = false
has_some (x ∷ xs) = true

marked : (cs : List (Lined Clause)) → is_carried cs ≡ has_some (flat_map (λ (c : Lined Clause). marks c.item) cs)
marked [] = refl
marked (c ∷ cs) = go (is_carry c.item) (marked cs)
  where
    go : (b : Bool) → is_carried cs ≡ has_some (flat_map (λ (x : Lined Clause). marks x.item) cs)
        → (b || is_carried cs) ≡ has_some (cond b (0 ∷ []) [] ++ flat_map (λ (x : Lined Clause). marks x.item) cs)
    go true more = refl
    go false more = more

pub carry_kept : (names : List (List ℕ)) (home own : Option (List ℕ)) (cs : List (Lined Clause))
    → is_carried (all_unlined (normal_clauses names home own (items cs))) ≡ is_carried cs
carry_kept names home own cs =
    marked (all_unlined (normal_clauses names home own (items cs)))
    ∙ ap has_some
    (flat_kept marks names home own cs
    (of_kind marks 5 mark_only refl refl refl refl refl names home own (items cs)
    ∙ append-nil (flat_map marks (items cs))))
    ∙ sym (marked cs)

-- PRIORITY, which stands at most once
abbrev ranks : Clause → List ℕ
ranks c = option_to_list (priority_in c)

rank_only : IsOnly ranks 3
rank_only (Priority n) h = cc
rank_only c h = refl

abbrev best : List ℕ → ℕ
best l = unwrap_or (option_map (λ n. min n 101) (slice_get l 0)) 10

no_more : (stream : Bool) (done cs : List Clause) → AreClauses stream done cs → list_any is_priority done ≡ true
    → (flat_map ranks cs ≡ []) × (flat_map ranks (filter is_own_priority cs) ≡ [])
no_more stream done [] h has = (refl, refl)
no_more stream done (Priority n ∷ cs) h has = absurd (contrary has h.1)
no_more stream done (c ∷ cs) h has =
    no_more stream (done ++ c ∷ []) cs h.2 (any_with is_priority done c ∙ ap (λ b. b || is_priority c) has)

best_test : (n : ℕ) (own : List Clause) (rest : List ℕ) (b : Bool) → eqb n 10 ≡ b → flat_map ranks own ≡ []
    → best (flat_map ranks (cond (not b) (Priority n ∷ own) own)) ≡ best (n ∷ rest)
best_test n own rest true e none = ap best none ∙ sym (ap (λ k. min k 101) (number_tells n 10 e))
best_test n own rest false e none = refl

one_best : (stream : Bool) (done cs : List Clause) → AreClauses stream done cs
    → best (flat_map ranks (filter is_own_priority cs)) ≡ best (flat_map ranks cs)
one_best stream done [] h = refl
one_best stream done (Priority n ∷ cs) h =
    let none =
    no_more stream (done ++ Priority n ∷ []) cs h.2
    (any_with is_priority done (Priority n) ∙ or_true (list_any is_priority done)) in
    best_test n (filter is_own_priority cs) (flat_map ranks cs) (eqb n 10) refl none.1
one_best stream done (c ∷ cs) h = one_best stream (done ++ c ∷ []) cs h.2

pub priority_kept : (stream : Bool) (names : List (List ℕ)) (home own : Option (List ℕ)) (cs : List (Lined Clause))
    → AreClauses stream [] (items cs)
    → priority_of (all_unlined (normal_clauses names home own (items cs))) ≡ priority_of cs
priority_kept stream names home own cs h =
    let forms : List Clause = normal_clauses names home own (items cs) in
    ap best
    (first_flat priority_in (all_unlined forms) ∙ items_flat ranks (all_unlined forms)
    ∙ ap (flat_map ranks) (items_unlined forms)
    ∙ of_priority ranks 3 rank_only refl refl refl refl refl refl refl refl refl names home own (items cs))
    ∙ one_best stream [] (items cs) h ∙ sym (ap best (first_flat priority_in cs ∙ items_flat ranks cs))
