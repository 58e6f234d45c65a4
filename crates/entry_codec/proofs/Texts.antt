-- Texts and signed numbers that are read are those that stand there.
use Rattle.std.proofs.Common.{◌≡◌, ℕ, ℤ, ◌+◌, ◌≤◌, Bool, true, false, cond, ltb, List, ◌++◌}
use Rattle.std.proofs.Common.{length, take, drop, Ok, Err, refl, sym, ap, subst, ◌∙◌, arith}
use Rattle.std.proofs.lemmas.Bool.{ltb-false, le-ltb, leb-true, le-leb}
use Rattle.std.proofs.lemmas.List.{take_at, drop-drop, take-append-drop, length-take, length-drop}
use Rattle.std.proofs.lemmas.Str.{IsUtf8-from_is_utf8, is_utf8-from_IsUtf8}
use Rattle.std.proofs.lemmas.Int.{to_z-of_z, of_z-to_z}
use Rattle.std.proofs.Math.Facts.{Fits-of_z, Fits-lt-pow, sfits_to_z}
use mir.Val.{Fits}
use Rattle.std.specs.Prelude.{nat_le, IsUtf8}
use Rattle.std.specs.Str.{is_utf8}
use Rattle.std.specs.Int.{w16, w32, cast_signed, cast_unsigned}
use Rattle.byte_fields.specs.Places.{StandsAt}
use Rattle.model.specs.Fields.{u16_bytes, u32_bytes, i32_bytes, text_bytes}
use Rattle.model.specs.Ranges.{IsU16, IsI32}
use Rattle.entry_codec.specs.declared.EntryFault.{EntryFault}
use Rattle.entry_codec.specs.declared.EntryFault.TheVariants.{Short, BadField}
use Rattle.entry_codec.specs.Fields.{number_with, text_at, i32_at}
use Rattle.entry_codec.proofs.Readers.{IsBytes, Stands, IsReader, starts, joined, split, came, step, on}
use Rattle.entry_codec.proofs.Readers.{same_value}
use Rattle.entry_codec.proofs.Numbers.{u16_reader, u32_reader, tested}
use Rattle.entry_codec.proofs.Steady.{number_steady, text_steady, one_steady}

-- a text that has a field
abbrev pub TextFits : List ℕ → Type 0
TextFits text = (length text ≤ 4096) × IsUtf8 text

length_reader : IsReader (λ (n : ℕ). IsU16 n × (nat_le n 4096 ≡ true)) u16_bytes
    (number_with w16 (λ n. nat_le n 4096))
length_reader = tested w16 IsU16 u16_bytes (λ n. nat_le n 4096) u16_reader

-- a value behind two tests that did not fail
pub record Passed {A : Type 0} (short good : Bool) (x y : A) : Type 0 where
  pub long : short ≡ false
  pub right : good ≡ true
  pub same : x ≡ y

passed : {A : Type 0} (short good : Bool) (d f : EntryFault) (x y : A)
    → cond short (Err d) (cond good (Ok x) (Err f)) ≡ Ok y → Passed short good x y
passed true good d f x y e = absurd cc
passed false false d f x y e = absurd cc
passed false true d f x y e = record { long = refl; right = refl; same = cc }

text_found : (bytes : List ℕ) (p : ℕ) (text : List ℕ) (q : ℕ) → IsBytes bytes → p ≤ length bytes
    → text_at bytes p ≡ Ok (text, q) → TextFits text × Stands (text_bytes text) bytes p q
unfolding text_at
text_found bytes p text q is lt e =
    let c = came (number_with w16 (λ n. nat_le n 4096) bytes p) (λ (n : ℕ × ℕ).
    cond (ltb (length bytes) (n.1 + n.0)) (Err (Short p))
    (cond (is_utf8 (take n.0 (drop n.1 bytes))) (Ok (take n.0 (drop n.1 bytes), n.1 + n.0)) (Err (BadField p))))
    (text, q) e in
    let n = c.value.0 in
    let m = c.value.1 in
    let body = take n (drop m bytes) in
    let g = passed (ltb (length bytes) (m + n)) (is_utf8 body) (Short p) (BadField p) (body, m + n) (text, q) c.then_
    in
    let f = length_reader.found bytes p n m is lt c.first in
    let long : m + n ≤ length bytes = ltb-false _ _ g.long in
    let len : length body ≡ n = omega (arith, length-take n (drop m bytes), length-drop m bytes) in
    let short : n ≤ 4096 = leb-true n 4096 f.0.1 in
    let whole : drop m bytes ≡ body ++ drop n (drop m bytes) = sym (take-append-drop n (drop m bytes)) in
    let later : drop n (drop m bytes) ≡ drop (m + n) bytes = drop-drop n m bytes in
    let stands : Stands body bytes m (m + n) =
    record { it = (whole ∙ ap (λ (l : List ℕ). body ++ l) later, omega (arith, len), long) } in
    let head : Stands (u16_bytes (length body)) bytes p m =
    subst (λ (k : ℕ). Stands (u16_bytes k) bytes p m) (sym len) f.1 in
    subst (λ (z : List ℕ × ℕ). TextFits z.0 × Stands (text_bytes z.0) bytes p z.1) g.same
    ((omega (arith, len, short), IsUtf8-from_is_utf8 body g.right), joined head stands)

text_again : (bytes : List ℕ) (p : ℕ) (text : List ℕ) (q : ℕ) → TextFits text → Stands (text_bytes text) bytes p q
    → text_at bytes p ≡ Ok (text, q)
unfolding text_at
text_again bytes p text q fits s =
    let parts = split (u16_bytes (length text)) text s in
    let n = length text in
    let m = p + length (u16_bytes n) in
    let small : n ≤ 4096 = fits.0 in
    let first : number_with w16 (λ n. nat_le n 4096) bytes p ≡ Ok (n, m) =
    length_reader.again bytes p n m (omega (arith, small), le-leb n 4096 small) parts.0 in
    let body : take n (drop m bytes) ≡ text = ap (take n) parts.1.it.0 ∙ take_at text (drop q bytes) n refl in
    let long : ltb (length bytes) (m + n) ≡ false = le-ltb _ _ (omega (arith, parts.1.it.1, parts.1.it.2)) in
    let right : is_utf8 text ≡ true = is_utf8-from_IsUtf8 text fits.1 in
    let next : m + n ≡ q = omega (arith, parts.1.it.1) in
    rw (first, long, body, right, next) refl

pub text_reader : IsReader TextFits text_bytes text_at
text_reader = record { found = text_found; again = text_again; steady = text_steady }

-- a signed number of four bytes
i32_found : (bytes : List ℕ) (p : ℕ) (z : ℤ) (q : ℕ) → IsBytes bytes → p ≤ length bytes
    → i32_at bytes p ≡ Ok (z, q) → IsI32 z × Stands (i32_bytes z) bytes p q
i32_found bytes p z q is lt e =
    let u = step u32_reader is (starts bytes p lt) e in
    let bits : Fits w32 u.value = record { fits = u.fits } in
    let back : cast_unsigned w32 (cast_signed w32 u.value) ≡ u.value = of_z-to_z w32 u.value u.fits in
    subst (λ (r : ℤ × ℕ). IsI32 r.0 × Stands (i32_bytes r.0) bytes p r.1) (same_value u.rest)
    (sfits_to_z bits, subst (λ (n : ℕ). Stands (u32_bytes n) bytes p u.place) (sym back) u.stands)

i32_again : (bytes : List ℕ) (p : ℕ) (z : ℤ) (q : ℕ) → IsI32 z → Stands (i32_bytes z) bytes p q
    → i32_at bytes p ≡ Ok (z, q)
i32_again bytes p z q fits s =
    on u32_reader _ (cast_unsigned w32 z) (Fits-lt-pow (Fits-of_z fits)) s
    (ap (λ (y : ℤ). Ok (y, q)) (to_z-of_z w32 z fits))

pub i32_reader : IsReader IsI32 i32_bytes i32_at
i32_reader =
    record { found = i32_found; again = i32_again; steady = one_steady (cast_signed w32) (number_steady w32) }

-- the same, as the code's values stand
pub stands_text : (bytes : List ℕ) (p : ℕ) (text : List ℕ) (q : ℕ) → IsUtf8 text → length text ≤ 4096
    → StandsAt (text_bytes text) bytes p q → text_at bytes p ≡ Ok (text, q)
stands_text bytes p text q utf8 short s = text_again bytes p text q (short, utf8) (record { it = s })
