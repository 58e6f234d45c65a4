-- The faults of domains without a parent, where the line of one may have been found before.
use Rattle.std.proofs.Common.{◌≡◌, ℕ, ◌+◌, ◌<◌, Bool, true, false, cond, List, [], ◌∷◌, drop, get_or, length, is_none, Option, Some, None}
use Rattle.std.proofs.Common.{refl, sym, ap, ◌∙◌}
use Rattle.std.proofs.lemmas.List.{drop_more}
use Rattle.composer_parser.specs.declared.Lined.{Lined}
use Rattle.composer_parser.specs.declared.DomainDef.{DomainDef}
use Rattle.definition_names.specs.Stations.{top_domains}
use Rattle.definition_faults.specs.Masters.{top_faults, tree_at}
use Rattle.definition_faults.specs.declared.kinds.Fault.{Fault}

abbrev pub with_line : ℕ → Option ℕ → List (Lined DomainDef) → List Fault
with_line last None domains = top_faults last domains
with_line last (Some line) [] = []
with_line last (Some line) (x ∷ xs) = tree_at line ∷ []

-- the domains without a parent, one domain further
abbrev is_top : Lined DomainDef → Bool
is_top x = is_none x.item.parent

tops_more : (xs : List (Lined DomainDef)) (i : ℕ) (x : Lined DomainDef) → i < length xs → x ≡ get_or xs i x
    → top_domains (drop i xs) ≡ cond (is_top x) (x ∷ top_domains (drop (i + 1) xs)) (top_domains (drop (i + 1) xs))
tops_more xs i x low at = ap top_domains (drop_more xs i x low ∙ ap (λ y. y ∷ drop (i + 1) xs) (sym at))

pub not_top : (last : ℕ) (found : Option ℕ) (xs : List (Lined DomainDef)) (i : ℕ) (x : Lined DomainDef) (all : List Fault)
    → i < length xs → x ≡ get_or xs i x → is_none x.item.parent ≡ false
    → all ≡ with_line last found (top_domains (drop i xs)) → all ≡ with_line last found (top_domains (drop (i + 1) xs))
not_top last found xs i x all low at no_top before =
    before
    ∙ ap (with_line last found)
    (tops_more xs i x low at ∙ ap (λ b. cond b (x ∷ top_domains (drop (i + 1) xs)) (top_domains (drop (i + 1) xs))) no_top)

found_first : (last : ℕ) (x : Lined DomainDef) (tops : List (Lined DomainDef))
    → top_faults last (x ∷ tops) ≡ with_line last (Some x.line) tops
found_first last x [] = refl
found_first last x (y ∷ ys) = refl

pub first_top : (last : ℕ) (xs : List (Lined DomainDef)) (i : ℕ) (x : Lined DomainDef) (all : List Fault)
    → i < length xs → x ≡ get_or xs i x → is_none x.item.parent ≡ true
    → all ≡ with_line last None (top_domains (drop i xs)) → all ≡ with_line last (Some x.line) (top_domains (drop (i + 1) xs))
first_top last xs i x all low at top before =
    before
    ∙ (ap (with_line last None)
    (tops_more xs i x low at ∙ ap (λ b. cond b (x ∷ top_domains (drop (i + 1) xs)) (top_domains (drop (i + 1) xs))) top)
    ∙ found_first last x (top_domains (drop (i + 1) xs)))

pub second_top : (last line : ℕ) (xs : List (Lined DomainDef)) (i : ℕ) (x : Lined DomainDef) (all : List Fault)
    → i < length xs → x ≡ get_or xs i x → is_none x.item.parent ≡ true
    → all ≡ with_line last (Some line) (top_domains (drop i xs)) → all ≡ tree_at line ∷ []
second_top last line xs i x all low at top before =
    before
    ∙ ap (with_line last (Some line))
    (tops_more xs i x low at ∙ ap (λ b. cond b (x ∷ top_domains (drop (i + 1) xs)) (top_domains (drop (i + 1) xs))) top)
