-- An index of names, one name further.
use Rattle.std.proofs.Common.{ℕ, ◌&&◌, ◌∙◌, ◌≡◌, Bor, List, Some, ap, bytes_eq, cond, eqb}
use Rattle.indexmap.specs.IndexMap.{insert_entry}
use Rattle.lemmas.proofs.Inserted.{are_one_key, are_one_pair, key_inserted, key_of, name_inserted, pair_inserted, pair_of}
use Rattle.definition_names.specs.Indexes.{name_in, pair_in, entry_in}

-- names
pub name_put : (es new : List (Bor (List ℕ) × ℕ)) (k : Bor (List ℕ)) (place : ℕ)
    → new ≡ insert_entry (λ (p q : Bor (List ℕ)). bytes_eq p.now q.now) es k place
    → (name : List ℕ) → name_in new name ≡ cond (bytes_eq name k.now) (Some place) (name_in es name)
name_put es new k place grown name =
    ap (λ (l : List (Bor (List ℕ) × ℕ)). name_in l name) grown ∙ name_inserted es k place name

-- names on workstations
pub pair_put : (es new : List ((Bor (List ℕ) × Bor (List ℕ)) × ℕ)) (k : Bor (List ℕ) × Bor (List ℕ)) (place : ℕ)
    → new
    ≡ insert_entry (λ (p q : Bor (List ℕ) × Bor (List ℕ)). are_one_pair (pair_of p) (pair_of q)) es k place
    → (ws name : List ℕ)
    → pair_in new ws name ≡ cond (bytes_eq ws k.0.now && bytes_eq name k.1.now) (Some place) (pair_in es ws name)
pair_put es new k place grown ws name =
    ap (λ (l : List ((Bor (List ℕ) × Bor (List ℕ)) × ℕ)). pair_in l ws name) grown
    ∙ pair_inserted es k place (ws, name)

-- entries by the place of their stream and their name
pub entry_put : (es new : List ((ℕ × Bor (List ℕ)) × ℕ)) (k : ℕ × Bor (List ℕ)) (place : ℕ)
    → new ≡ insert_entry (λ (p q : ℕ × Bor (List ℕ)). are_one_key (key_of p) (key_of q)) es k place
    → (n : ℕ) (name : List ℕ)
    → entry_in new n name ≡ cond (eqb n k.0 && bytes_eq name k.1.now) (Some place) (entry_in es n name)
entry_put es new k place grown n name =
    ap (λ (l : List ((ℕ × Bor (List ℕ)) × ℕ)). entry_in l n name) grown ∙ key_inserted es k place (n, name)
