-- One row further: what all rows define is what was noted, and what those that are left define.
use Rattle.std.proofs.Common.{◌≡◌, ◌≤◌, ◌||◌, ℕ, Bool, List, [], ◌∷◌, ◌++◌, Option, Some, None, length, refl, ap, sym, ◌∙◌, append_assoc, drop}
use Rattle.std.specs.Prelude.{filter_map}
use Rattle.std.specs.List.{cons_option}
use Rattle.std.proofs.lemmas.List.{append-nil, drop_all}
use Rattle.lemmas.proofs.Booleans.{or_false, or_regroup}
use Rattle.record_rows.specs.declared.rows.Row.{Row}
use Rattle.record_faults.specs.Known.{Key, resource_of, prompt_of, resources, prompts, has_key, has_name}
use Rattle.record_faults.specs.Noted.{is_key, is_name}

put_behind : {A : Type 0} (xs : List A) (o : Option A) (ys : List A) → xs ++ cons_option o ys ≡ (xs ++ cons_option o []) ++ ys
put_behind xs None ys = ap (λ l. l ++ ys) (sym (append-nil xs))
put_behind xs (Some a) ys = sym (append_assoc xs (a ∷ []) ys)

-- of what is picked of rows
pub picked_on : {A : Type 0} (f : Row → Option A) (whole old new : List A) (rows left : List Row) (r : Row)
    → rows ≡ r ∷ left → whole ≡ old ++ filter_map f rows → new ≡ old ++ cons_option (f r) []
    → whole ≡ new ++ filter_map f left
picked_on f whole old new rows left r e is more =
    is
    ∙ ap (λ l. old ++ filter_map f l) e
    ∙ put_behind old (f r) (filter_map f left)
    ∙ ap (λ l. l ++ filter_map f left) (sym more)

cons_key : (k : Key) (o : Option Key) (keys : List Key) → has_key (cons_option o keys) k ≡ (is_key o k || has_key keys k)
cons_key k None keys = refl
cons_key k (Some a) keys = refl

pub resources_on : (k : Key) (whole : Bool) (old new : List Key) (rows left : List Row) (r : Row) → rows ≡ r ∷ left
    → whole ≡ (has_key old k || has_key (resources rows) k)
    → has_key new k ≡ (has_key old k || is_key (resource_of r) k)
    → whole ≡ (has_key new k || has_key (resources left) k)
resources_on k whole old new rows left r e is more =
    is
    ∙ ap (λ l. has_key old k || has_key (resources l) k) e
    ∙ ap (λ b. has_key old k || b) (cons_key k (resource_of r) (resources left))
    ∙ or_regroup (has_key old k) (is_key (resource_of r) k) (has_key (resources left) k)
    ∙ ap (λ b. b || has_key (resources left) k) (sym more)

cons_name : (n : List ℕ) (o : Option (List ℕ)) (names : List (List ℕ))
    → has_name (cons_option o names) n ≡ (is_name o n || has_name names n)
cons_name n None names = refl
cons_name n (Some a) names = refl

pub prompts_on : (n : List ℕ) (whole : Bool) (old new : List (List ℕ)) (rows left : List Row) (r : Row) → rows ≡ r ∷ left
    → whole ≡ (has_name old n || has_name (prompts rows) n)
    → has_name new n ≡ (has_name old n || is_name (prompt_of r) n)
    → whole ≡ (has_name new n || has_name (prompts left) n)
prompts_on n whole old new rows left r e is more =
    is
    ∙ ap (λ l. has_name old n || has_name (prompts l) n) e
    ∙ ap (λ b. has_name old n || b) (cons_name n (prompt_of r) (prompts left))
    ∙ or_regroup (has_name old n) (is_name (prompt_of r) n) (has_name (prompts left) n)
    ∙ ap (λ b. b || has_name (prompts left) n) (sym more)

-- where no row is left, what was noted is what all rows define
pub picked_all : {A : Type 0} (f : Row → Option A) (whole old : List A) (rows : List Row) (i : ℕ) → length rows ≤ i
    → whole ≡ old ++ filter_map f (drop i rows) → old ≡ whole
picked_all f whole old rows i end is =
    sym (is ∙ ap (λ l. old ++ filter_map f l) (drop_all i rows end) ∙ append-nil old)

pub resources_all : (k : Key) (whole : Bool) (old : List Key) (rows : List Row) (i : ℕ) → length rows ≤ i
    → whole ≡ (has_key old k || has_key (resources (drop i rows)) k) → has_key old k ≡ whole
resources_all k whole old rows i end is =
    sym (is ∙ ap (λ l. has_key old k || has_key (resources l) k) (drop_all i rows end) ∙ or_false (has_key old k))

pub prompts_all : (n : List ℕ) (whole : Bool) (old : List (List ℕ)) (rows : List Row) (i : ℕ) → length rows ≤ i
    → whole ≡ (has_name old n || has_name (prompts (drop i rows)) n) → has_name old n ≡ whole
prompts_all n whole old rows i end is =
    sym (is ∙ ap (λ l. has_name old n || has_name (prompts l) n) (drop_all i rows end) ∙ or_false (has_name old n))
