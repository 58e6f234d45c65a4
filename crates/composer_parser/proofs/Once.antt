-- Clauses that stand once, one clause after the other.
use Rattle.std.proofs.Common.{◌≡◌, ◌∙◌, ◌&&◌, ◌||◌, not, Bool, true, false, List, [], ◌∷◌, refl, ap}
use Rattle.std.specs.Prelude.{codes}
use Rattle.std.specs.List.{list_any}
use Rattle.composer_parser.specs.Kinds.{Spelled, keyword, is}
use Rattle.lemmas.proofs.Booleans.{and_made, neither}
use Rattle.composer_parser.specs.Clauses.{may_clause, is_single, has_clause, is_at, is_until, is_deadline, is_priority, is_limit, is_carry}
use Rattle.composer_parser.specs.declared.definitions.Lined.{Lined}
use Rattle.composer_parser.specs.declared.clauses.Clause.{Clause}

-- a test that is two tests
record Splits (a p q : Bool) : Type 0 where
  pub parts : a ≡ p && q

-- what neither a first clause nor the others have, at a keyword or not
once_split : (x y i : Bool) → Splits (not ((x || y) && i)) (not ((x || false) && i)) (not (y && i))
once_split false y i = record { parts = refl }
once_split true y true = record { parts = refl }
once_split true true false = record { parts = refl }
once_split true false false = record { parts = refl }

-- the same of what stands on streams alone
stream_split : (n x y i : Bool)
    → Splits (not ((n || (x || y)) && i)) (not ((x || false) && i)) (not ((n || y) && i))
stream_split false x y i = once_split x y i
stream_split true false y i = record { parts = refl }
stream_split true true y true = record { parts = refl }
stream_split true true y false = record { parts = refl }

both_split : {a p q b r s : Bool} → Splits a p q → Splits b r s → Splits (a && b) (p && r) (q && s)
both_split {p = p} {q = q} {r = r} {s = s} one two = record { parts = rw (one.parts, two.parts) (mixed p q r s) }
  where
    mixed : (p q r s : Bool) → (p && q) && (r && s) ≡ (p && r) && (q && s)
    mixed false q r s = refl
    mixed true true r s = refl
    mixed true false true s = refl
    mixed true false false s = refl

first_split : (stream : Bool) (c : Lined Clause) (cs : List (Lined Clause)) (t : Spelled)
    → Splits (may_clause stream (c ∷ cs) t) (may_clause true (c ∷ []) t) (may_clause stream cs t)
first_split stream c cs t =
    both_split (once_split (is_at c.item) (has_clause is_at cs) (is (keyword (codes "AT")) t))
    (both_split (once_split (is_until c.item) (has_clause is_until cs) (is (keyword (codes "UNTIL")) t))
    (both_split (once_split (is_deadline c.item) (has_clause is_deadline cs) (is (keyword (codes "DEADLINE")) t))
    (both_split (once_split (is_priority c.item) (has_clause is_priority cs) (is (keyword (codes "PRIORITY")) t))
    (both_split (stream_split (not stream) (is_limit c.item) (has_clause is_limit cs) (is (keyword (codes "LIMIT")) t))
    (stream_split (not stream) (is_carry c.item) (has_clause is_carry cs) (is (keyword (codes "CARRYFORWARD")) t))))))

-- a clause may follow others where the stream has it at all, and none of them is the same
pub once_each : (stream : Bool) (cs : List (Lined Clause)) (t : Spelled)
    → may_clause stream cs t
    ≡ (stream || may_clause false [] t) && not (list_any (λ c. not (may_clause true (c ∷ []) t)) cs)
once_each true [] t = refl
once_each false [] t = by_case (may_clause false [] t)
  where
    by_case : (b : Bool) → b ≡ b && true
    by_case true = refl
    by_case false = refl
once_each stream (c ∷ cs) t =
    (first_split stream c cs t).parts ∙ ap (λ b. may_clause true (c ∷ []) t && b) (once_each stream cs t)
    ∙ by_case (may_clause true (c ∷ []) t) (stream || may_clause false [] t) (list_any (λ d. not (may_clause true (d ∷ []) t)) cs)
  where
    by_case : (m s o : Bool) → m && (s && not o) ≡ s && not (not m || o)
    by_case true s o = refl
    by_case false true o = refl
    by_case false false o = refl

-- the same of what the stream has
pub once_among : (stream : Bool) (cs : List (Lined Clause)) (t : Spelled) → (stream || may_clause false [] t) ≡ true
    → may_clause stream cs t ≡ not (list_any (λ c. not (may_clause true (c ∷ []) t)) cs)
once_among stream cs t had =
    once_each stream cs t ∙ ap (λ b. b && not (list_any (λ c. not (may_clause true (c ∷ []) t)) cs)) had

-- what does not begin a clause that stands once may follow any clauses
unforbidden : (b i : Bool) → i ≡ false → not (b && i) ≡ true
unforbidden true i is = ap not is
unforbidden false i is = refl

pub never_again : (stream : Bool) (cs : List (Lined Clause)) (t : Spelled) → is_single t ≡ false → may_clause stream cs t ≡ true
never_again stream cs t h =
    let at_ = neither (is (keyword (codes "AT")) t) _ h in
    let until_ = neither (is (keyword (codes "UNTIL")) t) _ at_.1 in
    let deadline_ = neither (is (keyword (codes "DEADLINE")) t) _ until_.1 in
    let priority_ = neither (is (keyword (codes "PRIORITY")) t) _ deadline_.1 in
    let limit_ = neither (is (keyword (codes "LIMIT")) t) _ priority_.1 in
    let carry_ = neither (is (keyword (codes "CARRYFORWARD")) t) false limit_.1 in
    and_made _ _ (unforbidden (has_clause is_at cs) (is (keyword (codes "AT")) t) at_.0)
    (and_made _ _ (unforbidden (has_clause is_until cs) (is (keyword (codes "UNTIL")) t) until_.0)
    (and_made _ _ (unforbidden (has_clause is_deadline cs) (is (keyword (codes "DEADLINE")) t) deadline_.0)
    (and_made _ _ (unforbidden (has_clause is_priority cs) (is (keyword (codes "PRIORITY")) t) priority_.0)
    (and_made _ _ (unforbidden (not stream || has_clause is_limit cs) (is (keyword (codes "LIMIT")) t) limit_.0)
    (unforbidden (not stream || has_clause is_carry cs) (is (keyword (codes "CARRYFORWARD")) t) carry_.0)))))
