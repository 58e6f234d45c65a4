-- The names of a set.
use Rattle.std.proofs.Common.{◌≡◌, ℕ, Bool, true, false, cond, ◌||◌, Bor, bytes_eq, List, [], ◌∷◌, ◌++◌, length, get_or, take, ◌<◌, ◌+◌, refl, ap, sym, ◌∙◌}
use Rattle.std.specs.List.{list_any}
use Rattle.std.proofs.lemmas.List.{take_more, map-append}
use Rattle.std.proofs.lemmas.List.Folds.{list_any-append}
use Rattle.lemmas.proofs.Texts.{text_tells}
use Rattle.lemmas.proofs.Booleans.{or_false, or_true}
use Rattle.indexmap.specs.IndexSet.{insert_key}
use Rattle.composer_parser.specs.declared.definitions.Lined.{Lined}
use Rattle.composer_parser.specs.declared.schedules.EntryDef.{EntryDef}
use Rattle.composer_print.specs.Normal.{entry_names}
use Rattle.composer_print.specs.Scopes.{has_name}
use Rattle.composer_print.specs.Steps.{has_key}

-- a name that equals one of the set is in the set
among : (ks : List (Bor (List ℕ))) (k n : List ℕ) → list_any (λ x. bytes_eq k x.now) ks ≡ true → bytes_eq n k ≡ true
    → has_key ks n ≡ true
among [] k n h e = cc
among (x ∷ ks) k n h e = by_test (bytes_eq k x.now) refl (λ g. among ks k n g e)
  where
    by_test : (b : Bool) → bytes_eq k x.now ≡ b → (list_any (λ y. bytes_eq k y.now) ks ≡ true → has_key ks n ≡ true)
        → has_key (x ∷ ks) n ≡ true
    by_test true p rec =
        ap (λ t. t || has_key ks n) (ap (λ w. bytes_eq n w) (sym (text_tells k x.now p)) ∙ e)
    by_test false p rec =
        ap (λ t. bytes_eq n x.now || t) (rec (ap (λ t. t || list_any (λ y. bytes_eq k y.now) ks) (sym p) ∙ h))
        ∙ or_true (bytes_eq n x.now)

-- one name more
pub key_more : (ks new : List (Bor (List ℕ))) (k : Bor (List ℕ))
    → new ≡ insert_key (λ (p q : Bor (List ℕ)). bytes_eq p.now q.now) ks k
    → (n : List ℕ) → has_key new n ≡ (has_key ks n || bytes_eq n k.now)
key_more ks new k grown n =
    ap (λ (l : List (Bor (List ℕ))). has_key l n) grown ∙ by_test (list_any (λ (x : Bor (List ℕ)). bytes_eq k.now x.now) ks) refl
  where
    by_name : list_any (λ (x : Bor (List ℕ)). bytes_eq k.now x.now) ks ≡ true → (b : Bool) → bytes_eq n k.now ≡ b
        → has_key ks n ≡ (has_key ks n || b)
    by_name there true e = among ks k.now n there e ∙ sym (or_true (has_key ks n))
    by_name there false e = sym (or_false (has_key ks n))

    by_test : (t : Bool) → list_any (λ (x : Bor (List ℕ)). bytes_eq k.now x.now) ks ≡ t
        → has_key (cond t ks (ks ++ k ∷ [])) n ≡ (has_key ks n || bytes_eq n k.now)
    by_test true h = by_name h (bytes_eq n k.now) refl
    by_test false h =
        list_any-append (λ (x : Bor (List ℕ)). bytes_eq n x.now) ks (k ∷ [])
        ∙ ap (λ t. has_key ks n || t) (or_false (bytes_eq n k.now))

-- the names of the entries up to a place, and of one more
pub entry_more : (es : List (Lined EntryDef)) (i : ℕ) (e : Lined EntryDef) (n : List ℕ) → i < length es → e ≡ get_or es i e
    → has_name (entry_names (take (i + 1) es)) n ≡ (has_name (entry_names (take i es)) n || bytes_eq n e.item.name)
entry_more es i e n low at =
    ap (λ xs. has_name (entry_names xs) n) (take_more es i e low ∙ ap (λ x. take i es ++ x ∷ []) (sym at))
    ∙ ap (λ ns. has_name ns n) (map-append (λ (x : Lined EntryDef). x.item.name) (take i es) (e ∷ []))
    ∙ list_any-append (λ k. bytes_eq n k) (entry_names (take i es)) (e.item.name ∷ [])
    ∙ ap (λ t. has_name (entry_names (take i es)) n || t) (or_false (bytes_eq n e.item.name))
