-- The only manager, where one may have been found before.
use Rattle.std.proofs.Common.{◌≡◌, ℕ, ◌+◌, ◌<◌, ◌∙◌, Bool, true, false, List, [], ◌∷◌, Option, Some, None, ap, cond, drop, filter, get_or, is_none, length, refl, sym}
use Rattle.std.proofs.lemmas.List.{drop_more}
use Rattle.composer_parser.specs.declared.Lined.{Lined}
use Rattle.composer_parser.specs.declared.DomainDef.{DomainDef}
use Rattle.definition_names.specs.Stations.{only_manager, top_domains}

abbrev pub with_found : Option (List ℕ) → List (Lined DomainDef) → Option (List ℕ)
with_found None domains = only_manager domains
with_found (Some manager) [] = Some manager
with_found (Some manager) (x ∷ xs) = None

-- one domain more is looked at
abbrev pub top_one : Lined DomainDef → List (Lined DomainDef) → List (Lined DomainDef)
top_one x xs = cond (is_none x.item.parent) (x ∷ top_domains xs) (top_domains xs)

pub top_next : (xs : List (Lined DomainDef)) (i : ℕ) (x : Lined DomainDef) → i < length xs → x ≡ get_or xs i x
    → top_domains (drop i xs) ≡ top_one x (drop (i + 1) xs)
top_next xs i x low at = ap top_domains (drop_more xs i x low ∙ ap (λ y. y ∷ drop (i + 1) xs) (sym at))

-- it has a parent
pub passed : (found all : Option (List ℕ)) (xs : List (Lined DomainDef)) (i : ℕ) (x : Lined DomainDef)
    → i < length xs → x ≡ get_or xs i x → is_none x.item.parent ≡ false
    → all ≡ with_found found (top_domains (drop i xs)) → all ≡ with_found found (top_domains (drop (i + 1) xs))
passed found all xs i x low at below h =
    h
    ∙ (ap (with_found found) (top_next xs i x low at)
    ∙ ap (λ b. with_found found (cond b (x ∷ top_domains (drop (i + 1) xs)) (top_domains (drop (i + 1) xs)))) below)

-- it is the first without one
pub taken : (all : Option (List ℕ)) (xs : List (Lined DomainDef)) (i : ℕ) (x : Lined DomainDef)
    → i < length xs → x ≡ get_or xs i x → is_none x.item.parent ≡ true
    → all ≡ with_found None (top_domains (drop i xs))
    → all ≡ with_found (Some x.item.manager) (top_domains (drop (i + 1) xs))
taken all xs i x low at top h =
    h
    ∙ (ap (with_found None) (top_next xs i x low at)
    ∙ (ap (λ b. with_found None (cond b (x ∷ top_domains (drop (i + 1) xs)) (top_domains (drop (i + 1) xs)))) top
    ∙ first_is (top_domains (drop (i + 1) xs))))
  where
    first_is : (rest : List (Lined DomainDef)) → only_manager (x ∷ rest) ≡ with_found (Some x.item.manager) rest
    first_is [] = refl
    first_is (y ∷ ys) = refl

-- it is a second one
pub several : (manager : List ℕ) (all : Option (List ℕ)) (xs : List (Lined DomainDef)) (i : ℕ) (x : Lined DomainDef)
    → i < length xs → x ≡ get_or xs i x → is_none x.item.parent ≡ true
    → all ≡ with_found (Some manager) (top_domains (drop i xs)) → all ≡ None
several manager all xs i x low at top h =
    h
    ∙ (ap (with_found (Some manager)) (top_next xs i x low at)
    ∙ ap (λ b. with_found (Some manager) (cond b (x ∷ top_domains (drop (i + 1) xs)) (top_domains (drop (i + 1) xs)))) top)

-- all were looked at
pub at_last : (found : Option (List ℕ)) → with_found found [] ≡ found
at_last None = refl
at_last (Some manager) = refl
