-- Lists that are read are those that stand there, item by item.
use Rattle.std.proofs.Common.{◌≡◌, ℕ, zero, suc, ◌+◌, ◌≤◌, List, [], ◌∷◌, length, Ok, refl}
use Rattle.std.proofs.Common.{sym, ap, subst, arith}
use Rattle.std.specs.List.{AllByRecursion}
use Rattle.std.specs.Prelude.{flat_map}
use Rattle.model.specs.Fields.{u32_bytes, list_bytes}
use Rattle.entry_codec.specs.Read.{Reader}
use Rattle.entry_codec.specs.Fields.{items_at, list_at}
use Rattle.entry_codec.proofs.Readers.{IsBytes, Stands, IsReader, within, starts, nothing, joined, split, step, on}
use Rattle.entry_codec.proofs.Readers.{same_value}
use Rattle.entry_codec.proofs.Numbers.{u32_reader}
use Rattle.entry_codec.proofs.Steady.{items_steady, list_steady}

-- so many items, each fit
abbrev pub AreSoMany : {X : Type 0} → (X → Type 0) → ℕ → List X → Type 0
AreSoMany P n xs = (length xs ≡ n) × AllByRecursion P xs

none_found : {X : Type 0} (P : X → Type 0) (spell : X → List ℕ) (item : Reader X) (bytes : List ℕ) (p : ℕ)
    (xs : List X) (q : ℕ) → p ≤ length bytes → items_at item 0 bytes p ≡ Ok (xs, q)
    → AreSoMany P 0 xs × Stands (flat_map spell xs) bytes p q
unfolding items_at
none_found {X} P spell item bytes p xs q lt e =
    subst (λ (z : List X × ℕ). AreSoMany P 0 z.0 × Stands (flat_map spell z.0) bytes p z.1) (same_value e)
    ((refl, tt), starts bytes p lt)

none_again : {X : Type 0} (P : X → Type 0) (spell : X → List ℕ) (item : Reader X) (bytes : List ℕ) (p : ℕ)
    (xs : List X) (q : ℕ) → AreSoMany P 0 xs → Stands (flat_map spell xs) bytes p q
    → items_at item 0 bytes p ≡ Ok (xs, q)
unfolding items_at
none_again {X} P spell item bytes p [] q fits s = ap (λ (m : ℕ). Ok ([], m)) (sym (nothing s))
none_again P spell item bytes p (x ∷ xs) q fits s = absurd (omega (arith, fits.0))

more_found : {X : Type 0} {P : X → Type 0} {spell : X → List ℕ} {item : Reader X} → IsReader P spell item → (n : ℕ)
    → IsReader (AreSoMany P n) (flat_map spell) (items_at item n) → (bytes : List ℕ) (p : ℕ) (xs : List X) (q : ℕ)
    → IsBytes bytes → p ≤ length bytes → items_at item (suc n) bytes p ≡ Ok (xs, q)
    → AreSoMany P (suc n) xs × Stands (flat_map spell xs) bytes p q
unfolding items_at
more_found {X} {P} {spell} {item} reader n fewer bytes p xs q is lt e =
    let first = step reader is (starts bytes p lt) e in
    let others = step fewer is first.stands first.rest in
    subst (λ (z : List X × ℕ). AreSoMany P (suc n) z.0 × Stands (flat_map spell z.0) bytes p z.1)
    (same_value others.rest)
    ((ap suc others.fits.0, (first.fits, others.fits.1)), others.stands)

more_again : {X : Type 0} {P : X → Type 0} {spell : X → List ℕ} {item : Reader X} → IsReader P spell item → (n : ℕ)
    → IsReader (AreSoMany P n) (flat_map spell) (items_at item n) → (bytes : List ℕ) (p : ℕ) (xs : List X) (q : ℕ)
    → AreSoMany P (suc n) xs → Stands (flat_map spell xs) bytes p q → items_at item (suc n) bytes p ≡ Ok (xs, q)
unfolding items_at
more_again reader n fewer bytes p [] q fits s = absurd (omega (arith, fits.0))
more_again {X} {P} {spell} reader n fewer bytes p (x ∷ xs) q fits s =
    let parts = split (spell x) (flat_map spell xs) s in
    on reader _ x fits.1.0 parts.0 (on fewer _ xs (omega (arith, fits.0), fits.1.1) parts.1 refl)

pub items_reader : {X : Type 0} {P : X → Type 0} {spell : X → List ℕ} {item : Reader X} → IsReader P spell item
    → (n : ℕ) → IsReader (AreSoMany P n) (flat_map spell) (items_at item n)
items_reader {X} {P} {spell} {item} reader zero =
    record {
      found = λ bytes p xs q is lt e. none_found P spell item bytes p xs q lt e;
      again = none_again P spell item;
      steady = items_steady reader.steady 0;
    }
items_reader reader (suc n) =
    let fewer = items_reader reader n in
    record {
      found = more_found reader n fewer;
      again = more_again reader n fewer;
      steady = items_steady
          reader.steady (suc n);
    }

-- a list whose items are fit, and as many as four bytes can count
abbrev pub AreListed : {X : Type 0} → (X → Type 0) → List X → Type 0
AreListed P xs = (length xs ≤ 4294967295) × AllByRecursion P xs

list_found : {X : Type 0} {P : X → Type 0} {spell : X → List ℕ} {item : Reader X} → IsReader P spell item
    → (bytes : List ℕ) (p : ℕ) (xs : List X) (q : ℕ) → IsBytes bytes → p ≤ length bytes
    → list_at item bytes p ≡ Ok (xs, q) → AreListed P xs × Stands (list_bytes spell xs) bytes p q
unfolding list_at
list_found {X} {P} {spell} {item} reader bytes p xs q is lt e =
    let count = step u32_reader is (starts bytes p lt) e in
    let items = (items_reader reader count.value).found bytes count.place xs q is (within count.stands) count.rest in
    let counted : count.value ≡ length xs = sym items.0.0 in (
      (omega (arith, count.fits, items.0.0), items.0.1),
      joined (subst (λ (n : ℕ). Stands (u32_bytes n) bytes p count.place) counted count.stands) items.1,
    )

list_again : {X : Type 0} {P : X → Type 0} {spell : X → List ℕ} {item : Reader X} → IsReader P spell item
    → (bytes : List ℕ) (p : ℕ) (xs : List X) (q : ℕ) → AreListed P xs → Stands (list_bytes spell xs) bytes p q
    → list_at item bytes p ≡ Ok (xs, q)
unfolding list_at
list_again {X} {P} {spell} {item} reader bytes p xs q fits s =
    let parts = split (u32_bytes (length xs)) (flat_map spell xs) s in
    on u32_reader _ (length xs) (omega (arith, fits.0)) parts.0
    ((items_reader reader (length xs)).again bytes (p + length (u32_bytes (length xs))) xs q (refl, fits.1) parts.1)

pub list_reader : {X : Type 0} {P : X → Type 0} {spell : X → List ℕ} {item : Reader X} → IsReader P spell item
    → IsReader (AreListed P) (list_bytes spell) (list_at item)
list_reader reader =
    record { found = list_found reader; again = list_again reader; steady = list_steady reader.steady }
