-- Numbers that are read are those that stand there.
use Rattle.std.proofs.Common.{◌≡◌, ℕ, ◌+◌, ◌^◌, ◌<◌, ◌≤◌, Bool, true, false, cond, ltb, List, [], ◌∷◌}
use Rattle.std.proofs.Common.{◌++◌, length, take, drop, Ok, Err, refl, sym, ap, subst, ◌∙◌, arith}
use Rattle.std.proofs.Common.{inl, inr}
use Rattle.std.proofs.lemmas.Bool.{cases_lt, ltb-false, le-ltb}
use Rattle.std.proofs.lemmas.List.{take_at, drop-drop, take-append-drop, length-take, length-drop, get_or-drop}
use Rattle.std.proofs.lemmas.List.{get_or-take, get_or_past}
use Rattle.std.proofs.lemmas.Nat.{be_bytes_2, be_bytes_4, be_bytes_8, from_be_bytes-to_be_bytes_2}
use Rattle.std.proofs.lemmas.Nat.{from_be_bytes-to_be_bytes_4, from_be_bytes-to_be_bytes_8}
use Rattle.std.specs.Int.{Width, w8, w16, w32, w64, byte_len, from_be_bytes}
use Rattle.byte_fields.specs.Places.{StandsAt}
use Rattle.model.specs.Fields.{u8_bytes, u16_bytes, u32_bytes, u64_bytes}
use Rattle.model.specs.Ranges.{IsU8, IsU16, IsU32, IsU64}
use Rattle.entry_codec.specs.declared.EntryFault.{EntryFault}
use Rattle.entry_codec.specs.declared.EntryFault.TheVariants.{Short, BadField}
use Rattle.entry_codec.specs.Fields.{number_at, number_with}
use Rattle.entry_codec.proofs.Readers.{IsBytes, Stands, IsReader, came}
use Rattle.entry_codec.proofs.Steady.{number_steady, number_with_steady}

IsBytes-drop : (n : ℕ) (bytes : List ℕ) → IsBytes bytes → IsBytes (drop n bytes)
IsBytes-drop n bytes h i = rw get_or-drop (h (n + i))

IsBytes-take : (n : ℕ) (bytes : List ℕ) → IsBytes bytes → IsBytes (take n bytes)
IsBytes-take n bytes h i =
    elim (cases_lt i n) [
      | inl lt ↦ rw (get_or-take n bytes i 0 lt) (h i)
      | inr le ↦ rw (get_or_past (take n bytes) i 0 (omega (arith, length-take n bytes))) (omega arith)
    ]

-- the spelling of the numbers below a limit in so many bytes
pub record IsWide (w : Width) (limit : ℕ) (spell : ℕ → List ℕ) : Type 0 where
  pub len : (n : ℕ) → length (spell n) ≡ byte_len w
  pub back : (bytes : List ℕ) → length bytes ≡ byte_len w → IsBytes bytes → spell (from_be_bytes w bytes) ≡ bytes
  pub again : (n : ℕ) → n < limit → from_be_bytes w (spell n) ≡ n
  pub below : (bytes : List ℕ) → IsBytes bytes → from_be_bytes w bytes < limit

one_byte : (bytes : List ℕ) → length bytes ≡ 1 → from_be_bytes w8 bytes ∷ [] ≡ bytes
one_byte [] e = absurd (omega (arith, e))
one_byte (b ∷ []) e = ap (λ (n : ℕ). n ∷ []) (omega arith)
one_byte (b ∷ c ∷ bytes) e = absurd (omega (arith, e))

wide_8 : IsWide w8 (2 ^ 8) u8_bytes
wide_8 =
    record {
      len = λ n. refl;
      back = λ bytes len fits. one_byte bytes len;
      again = λ n lt. omega arith;
      below = λ bytes fits. omega (arith, fits 0);
    }

wide_16 : IsWide w16 (2 ^ 16) u16_bytes
wide_16 =
    record {
      len = λ n. refl;
      back = λ bytes len fits. be_bytes_2 bytes _ len fits refl;
      again = λ n lt. from_be_bytes-to_be_bytes_2 n lt;
      below = λ bytes fits. omega (arith, fits 0, fits 1);
    }

wide_32 : IsWide w32 (2 ^ 32) u32_bytes
wide_32 =
    record {
      len = λ n. refl;
      back = λ bytes len fits. be_bytes_4 bytes _ len fits refl;
      again = λ n lt. from_be_bytes-to_be_bytes_4 n lt;
      below = λ bytes fits. omega (arith, fits 0, fits 1, fits 2, fits 3);
    }

wide_64 : IsWide w64 (2 ^ 64) u64_bytes
wide_64 =
    record {
      len = λ n. refl;
      back = λ bytes len fits. be_bytes_8 bytes _ len fits refl;
      again = λ n lt. from_be_bytes-to_be_bytes_8 n lt;
      below = λ bytes fits. omega (arith, fits 0, fits 1, fits 2, fits 3, fits 4, fits 5, fits 6, fits 7);
    }

-- a test that did not fail
guard_ok : {A : Type 0} (b : Bool) (d : EntryFault) (x y : A) → cond b (Err d) (Ok x) ≡ Ok y → (b ≡ false) × (x ≡ y)
guard_ok true d x y e = absurd cc
guard_ok false d x y e = (refl, cc)

number_found : (w : Width) (limit : ℕ) (spell : ℕ → List ℕ) → IsWide w limit spell → (bytes : List ℕ) (p n q : ℕ)
    → IsBytes bytes → number_at w bytes p ≡ Ok (n, q) → (n < limit) × Stands (spell n) bytes p q
unfolding number_at
number_found w limit spell wide bytes p n q is e =
    let k = byte_len w in
    let left = drop p bytes in
    let g = guard_ok (ltb (length bytes) (p + k)) (Short p) (from_be_bytes w (take k left), p + k) (n, q) e in
    let long : p + k ≤ length bytes = ltb-false _ _ g.0 in
    let n-is : from_be_bytes w (take k left) ≡ n = ap (λ (r : ℕ × ℕ). r.0) g.1 in
    let q-is : p + k ≡ q = ap (λ (r : ℕ × ℕ). r.1) g.1 in
    let front_is : IsBytes (take k left) = IsBytes-take k left (IsBytes-drop p bytes is) in
    let front : spell n ≡ take k left = rw (← n-is) (wide.back (take k left)
    (omega (arith, length-take k left, length-drop p bytes)) front_is) in
    let whole : left ≡ take k left ++ drop k left = sym (take-append-drop k left) in
    let later : drop k left ≡ drop q bytes = drop-drop k p bytes ∙ ap (λ (m : ℕ). drop m bytes) q-is in
    let here : left ≡ spell n ++ drop q bytes = rw (front, ← later) whole in
    let len : length (spell n) ≡ k = wide.len n in (
      rw (← n-is) (wide.below (take k left) front_is),
      record { it = (here, omega (arith, len, q-is), omega (arith, q-is, long)) },
    )

number_again : (w : Width) (limit : ℕ) (spell : ℕ → List ℕ) → IsWide w limit spell → (bytes : List ℕ) (p n q : ℕ)
    → n < limit → StandsAt (spell n) bytes p q → number_at w bytes p ≡ Ok (n, q)
unfolding number_at
number_again w limit spell wide bytes p n q lt s =
    let k = byte_len w in
    let len : length (spell n) ≡ k = wide.len n in
    let long : ltb (length bytes) (p + k) ≡ false = le-ltb _ _ (omega (arith, len, s.1, s.2)) in
    let front : take k (drop p bytes) ≡ spell n = ap (take k) s.0 ∙ take_at (spell n) (drop q bytes) k len in
    let next : p + k ≡ q = omega (arith, len, s.1) in
    rw (long, front, wide.again n lt, next) refl

number_reader : (w : Width) (limit : ℕ) (spell : ℕ → List ℕ) → IsWide w limit spell
    → IsReader (λ (n : ℕ). n < limit) spell (number_at w)
number_reader w limit spell wide =
    record {
      found = λ bytes p n q is lt e. number_found w limit spell wide bytes p n q is e;
      again = λ bytes p n q lt s. number_again w limit spell wide bytes p n q lt s.it;
      steady = number_steady w;
    }

pub u8_reader : IsReader IsU8 u8_bytes (number_at w8)
u8_reader = number_reader w8 (2 ^ 8) u8_bytes wide_8

pub u16_reader : IsReader IsU16 u16_bytes (number_at w16)
u16_reader = number_reader w16 (2 ^ 16) u16_bytes wide_16

pub u32_reader : IsReader IsU32 u32_bytes (number_at w32)
u32_reader = number_reader w32 (2 ^ 32) u32_bytes wide_32

pub u64_reader : IsReader IsU64 u64_bytes (number_at w64)
u64_reader = number_reader w64 (2 ^ 64) u64_bytes wide_64

-- the same, as the code's numbers stand
pub stands_8 : (bytes : List ℕ) (p n q : ℕ) → n < 2 ^ 8 → StandsAt (u8_bytes n) bytes p q → number_at w8 bytes p ≡ Ok
    (n, q)
stands_8 = number_again w8 (2 ^ 8) u8_bytes wide_8

pub stands_16 : (bytes : List ℕ) (p n q : ℕ) → n < 2 ^ 16 → StandsAt (u16_bytes n) bytes p q
    → number_at w16 bytes p ≡ Ok (n, q)
stands_16 = number_again w16 (2 ^ 16) u16_bytes wide_16

pub stands_32 : (bytes : List ℕ) (p n q : ℕ) → n < 2 ^ 32 → StandsAt (u32_bytes n) bytes p q
    → number_at w32 bytes p ≡ Ok (n, q)
stands_32 = number_again w32 (2 ^ 32) u32_bytes wide_32

pub stands_64 : (bytes : List ℕ) (p n q : ℕ) → n < 2 ^ 64 → StandsAt (u64_bytes n) bytes p q
    → number_at w64 bytes p ≡ Ok (n, q)
stands_64 = number_again w64 (2 ^ 64) u64_bytes wide_64

-- a number for which a test holds
number_with_found : (w : Width) (P : ℕ → Type 0) (spell : ℕ → List ℕ) (test : ℕ → Bool)
    → IsReader P spell (number_at w) → (bytes : List ℕ) (p n q : ℕ) → IsBytes bytes → p ≤ length bytes
    → number_with w test bytes p ≡ Ok (n, q) → (P n × (test n ≡ true)) × Stands (spell n) bytes p q
unfolding number_with
number_with_found w P spell test reader bytes p n q is lt e =
    let c = came (number_at w bytes p) (λ (r : ℕ × ℕ). cond (test r.0) (Ok r) (Err (BadField p))) (n, q) e in
    let g = passed (test c.value.0) (BadField p) c.value (n, q) c.then_ in
    let f = reader.found bytes p c.value.0 c.value.1 is lt c.first in
    subst (λ (r : ℕ × ℕ). (P r.0 × (test r.0 ≡ true)) × Stands (spell r.0) bytes p r.1) g.1 ((f.0, g.0), f.1)
  where
    passed : {A : Type 0} (b : Bool) (d : EntryFault) (x y : A) → cond b (Ok x) (Err d) ≡ Ok y
        → (b ≡ true) × (x ≡ y)
    passed true d x y e = (refl, cc)
    passed false d x y e = absurd cc

number_with_again : (w : Width) (P : ℕ → Type 0) (spell : ℕ → List ℕ) (test : ℕ → Bool)
    → IsReader P spell (number_at w) → (bytes : List ℕ) (p n q : ℕ) → P n × (test n ≡ true)
    → Stands (spell n) bytes p q → number_with w test bytes p ≡ Ok (n, q)
unfolding number_with
number_with_again w P spell test reader bytes p n q fits s =
    rw (reader.again bytes p n q fits.0 s, fits.1) refl

pub tested : (w : Width) (P : ℕ → Type 0) (spell : ℕ → List ℕ) (test : ℕ → Bool) → IsReader P spell (number_at w)
    → IsReader (λ (n : ℕ). P n × (test n ≡ true)) spell (number_with w test)
tested w P spell test reader =
    record {
      found = number_with_found w P spell test reader;
      again = number_with_again w P spell test reader;
      steady = number_with_steady w test;
    }
