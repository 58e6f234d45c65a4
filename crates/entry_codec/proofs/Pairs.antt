-- Two parts that stand one behind the other, and values that are made of what is read.
use Rattle.std.proofs.Common.{◌≡◌, ℕ, ◌≤◌, List, ◌++◌, length, Ok, refl, sym, ap, subst, ◌∙◌}
use Rattle.entry_codec.specs.Read.{Reader, pair, one}
use Rattle.entry_codec.proofs.Readers.{IsBytes, Stands, IsReader, starts, split, step, on, same_value}
use Rattle.entry_codec.proofs.Steady.{pair_steady, one_steady}

pair_found : {A B : Type 0} {Q : A → Type 0} {s : A → List ℕ} {a : Reader A} {R : B → Type 0} {t : B → List ℕ}
    {b : Reader B} → IsReader Q s a → IsReader R t b → (bytes : List ℕ) (p : ℕ) (x : A × B) (q : ℕ) → IsBytes bytes
    → p ≤ length bytes → pair a b bytes p ≡ Ok (x, q) → (Q x.0 × R x.1) × Stands (s x.0 ++ t x.1) bytes p q
unfolding pair
pair_found {A} {B} {Q} {s} {a} {R} {t} {b} ra rb bytes p x q is lt e =
    let u = step ra is (starts bytes p lt) e in
    let v = step rb is u.stands u.rest in
    subst (λ (z : (A × B) × ℕ). (Q z.0.0 × R z.0.1) × Stands (s z.0.0 ++ t z.0.1) bytes p z.1) (same_value v.rest)
    ((u.fits, v.fits), v.stands)

pair_again : {A B : Type 0} {Q : A → Type 0} {s : A → List ℕ} {a : Reader A} {R : B → Type 0} {t : B → List ℕ}
    {b : Reader B} → IsReader Q s a → IsReader R t b → (bytes : List ℕ) (p : ℕ) (x : A × B) (q : ℕ)
    → Q x.0 × R x.1 → Stands (s x.0 ++ t x.1) bytes p q → pair a b bytes p ≡ Ok (x, q)
unfolding pair
pair_again {A} {B} {Q} {s} {a} {R} {t} {b} ra rb bytes p x q fits stands =
    let parts = split (s x.0) (t x.1) stands in
    on ra _ x.0 fits.0 parts.0 (on rb _ x.1 fits.1 parts.1 refl)

pub pair_reader : {A B : Type 0} {Q : A → Type 0} {s : A → List ℕ} {a : Reader A} {R : B → Type 0} {t : B → List ℕ}
    {b : Reader B} → IsReader Q s a → IsReader R t b
    → IsReader (λ (x : A × B). Q x.0 × R x.1) (λ (x : A × B). s x.0 ++ t x.1) (pair a b)
pair_reader ra rb =
    record { found = pair_found ra rb; again = pair_again ra rb; steady = pair_steady ra.steady rb.steady }

-- values that are made of parts, and each of its own
pub made_reader : {A X : Type 0} {Q : A → Type 0} {s : A → List ℕ} {a : Reader A} → IsReader Q s a → (P : X → Type 0)
    (spell : X → List ℕ) (make : A → X) (parts : X → A) → ((x : X) → make (parts x) ≡ x)
    → ((y : A) → Q y → P (make y)) → ((x : X) → P x → Q (parts x)) → ((y : A) → spell (make y) ≡ s y)
    → IsReader P spell (one a make)
made_reader {A} {X} {Q} {s} {a} ra P spell make parts its fits back spelled =
    record { found = found; again = again; steady = one_steady make ra.steady }
  where
    found : (bytes : List ℕ) (p : ℕ) (x : X) (q : ℕ) → IsBytes bytes → p ≤ length bytes → one a make bytes p ≡ Ok (x, q)
        → P x × Stands (spell x) bytes p q
    found bytes p x q is lt e =
        let u = step ra is (starts bytes p lt) e in
        subst (λ (z : X × ℕ). P z.0 × Stands (spell z.0) bytes p z.1) (same_value u.rest)
        (fits u.value u.fits, subst (λ (l : List ℕ). Stands l bytes p u.place) (sym (spelled u.value)) u.stands)

    again : (bytes : List ℕ) (p : ℕ) (x : X) (q : ℕ) → P x → Stands (spell x) bytes p q
        → one a make bytes p ≡ Ok (x, q)
    again bytes p x q f stands =
        let same : spell x ≡ s (parts x) = ap spell (sym (its x)) ∙ spelled (parts x) in
        let here : Stands (s (parts x)) bytes p q = subst (λ (l : List ℕ). Stands l bytes p q) same stands in
        on ra _ (parts x) (back x f) here (ap (λ (y : X). Ok (y, q)) (its x))
