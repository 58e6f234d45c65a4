-- Names that are kept as references to them, each once.
use Rattle.std.proofs.Common.{◌≡◌, ℕ, Bor, Bool, true, false, ◌||◌, List, [], ◌∷◌, ◌++◌, map, bytes_eq, refl, ap, sym}
use Rattle.std.proofs.Common.{subst, ◌∙◌, if◌then◌else◌}
use Rattle.std.proofs.lemmas.List.{map-append}
use Rattle.std.specs.List.{list_any}
use Rattle.lemmas.proofs.Booleans.{and_parts, or_false}
use Rattle.lemmas.proofs.Texts.{text_tells}
use Rattle.lemmas.proofs.Lists.{any_with}
use Rattle.record_faults.specs.Known.{Key, key_eq, has_key, has_name}

-- a test of a view
pub any_viewed : {A B : Type 0} (p : A → Bool) (view : B → A) (ks : List B)
    → list_any (λ (k : B). p (view k)) ks ≡ list_any p (map view ks)
any_viewed p view [] = refl
any_viewed p view (k ∷ ks) = ap (λ b. p (view k) || b) (any_viewed p view ks)

-- an element that is there already adds nothing
adds_nothing : {A : Type 0} (eq : A → A → Bool) (n m : A) (xs : List A) → (eq n m ≡ true → n ≡ m)
    → list_any (eq m) xs ≡ true → (b : Bool) → eq n m ≡ b → list_any (eq n) xs ≡ (list_any (eq n) xs || b)
adds_nothing eq n m xs sound there false is = sym (or_false (list_any (eq n) xs))
adds_nothing eq n m xs sound there true is =
    let same : n ≡ m = sound is in
    let has : list_any (eq n) xs ≡ true = subst (λ a. list_any (eq a) xs ≡ true) (sym same) there in
    rw has refl

put_by : {A B : Type 0} (eq : A → A → Bool) (view : B → A) (m : B) (ks new : List B) (n : A)
    → (eq n (view m) ≡ true → n ≡ view m) → (b : Bool) → list_any (λ (k : B). eq (view m) (view k)) ks ≡ b
    → new ≡ (if b then ks else ks ++ m ∷ [])
    → list_any (eq n) (map view new) ≡ (list_any (eq n) (map view ks) || eq n (view m))
put_by eq view m ks new n sound true there is =
    ap (λ l. list_any (eq n) (map view l)) is
    ∙ adds_nothing eq n (view m) (map view ks) sound (sym (any_viewed (eq (view m)) view ks) ∙ there)
    (eq n (view m)) refl
put_by eq view m ks new n sound false there is =
    ap (λ l. list_any (eq n) (map view l)) is
    ∙ ap (list_any (eq n)) (map-append view ks (m ∷ []))
    ∙ any_with (eq n) (map view ks) (view m)

-- one element is put
pub put_any : {A B : Type 0} (eq : A → A → Bool) (view : B → A) (m : B) (ks new : List B)
    → ((n : A) → eq n (view m) ≡ true → n ≡ view m)
    → new ≡ (if list_any (λ (k : B). eq (view m) (view k)) ks then ks else ks ++ m ∷ [])
    → (n : A) → list_any (eq n) (map view new) ≡ (list_any (eq n) (map view ks) || eq n (view m))
put_any {B = B} eq view m ks new sound is n =
    put_by eq view m ks new n (sound n) (list_any (λ (k : B). eq (view m) (view k)) ks) refl is

abbrev pub text : Bor (List ℕ) → List ℕ
text k = k.now

abbrev pub pair : Bor (List ℕ) × Bor (List ℕ) → Key
pair k = (k.0.now, k.1.now)

pub same_key : (a b : Key) → key_eq a b ≡ true → a ≡ b
same_key a b is =
    let parts = and_parts (bytes_eq a.0 b.0) (bytes_eq a.1 b.1) is in
    let first : a.0 ≡ b.0 = text_tells a.0 b.0 parts.0 in
    let second : a.1 ≡ b.1 = text_tells a.1 b.1 parts.1 in
    ap (λ x. (x, a.1)) first ∙ ap (λ y. (b.0, y)) second

pub put_name : (m : Bor (List ℕ)) (ks new : List (Bor (List ℕ)))
    → new ≡ (if list_any (λ (k : Bor (List ℕ)). bytes_eq m.now k.now) ks then ks else ks ++ m ∷ [])
    → (n : List ℕ) → has_name (map text new) n ≡ (has_name (map text ks) n || bytes_eq n m.now)
put_name m ks new is n = put_any bytes_eq text m ks new (λ a. text_tells a m.now) is n

pub put_key : (m : Bor (List ℕ) × Bor (List ℕ)) (ks new : List (Bor (List ℕ) × Bor (List ℕ)))
    → new ≡ (if list_any (λ (l : Bor (List ℕ) × Bor (List ℕ)). key_eq (pair m) (pair l)) ks then ks else ks ++ m ∷ [])
    → (k : Key) → has_key (map pair new) k ≡ (has_key (map pair ks) k || key_eq k (pair m))
put_key m ks new is k = put_any key_eq pair m ks new (λ a. same_key a (pair m)) is k
