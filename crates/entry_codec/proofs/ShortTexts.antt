-- Where a text's field has a fault, and which.
use Rattle.std.proofs.Common.{◌≡◌, ℕ, ◌+◌, ◌<◌, ◌≤◌, true, false, ltb, List, length, take, drop}
use Rattle.std.proofs.Common.{Ok, Err, refl, arith, inl, inr}
use Rattle.std.proofs.lemmas.Bool.{cases_lt, lt-ltb, le-ltb, le-leb, lt-leb, false_from_ne_true}
use Rattle.std.proofs.lemmas.List.{drop-drop, length-drop}
use Rattle.std.proofs.lemmas.Str.{IsUtf8-from_is_utf8}
use Rattle.std.specs.Str.{IsUtf8, is_utf8}
use Rattle.std.specs.Prelude.{nat_le}
use Rattle.std.specs.Int.{w16}
use Rattle.byte_fields.specs.Texts.{told_length, IsShortText, IsBadText}
use Rattle.entry_codec.specs.declared.EntryFault.TheVariants.{Short, BadField}
use Rattle.entry_codec.specs.Fields.{number_at, number_with, text_at}
use Rattle.entry_codec.proofs.Texts.{stands_text}

-- the length cannot be read
no_length : (bytes : List ℕ) (p : ℕ) → p ≤ length bytes → length (drop p bytes) < 2 → text_at bytes p ≡ Err (Short p)
unfolding text_at number_with number_at
no_length bytes p lt few =
    let short : ltb (length bytes) (p + 2) ≡ true = lt-ltb _ _ (omega (arith, length-drop p bytes)) in
    rw short refl

-- the length is read
has_length : (bytes : List ℕ) (p : ℕ) → 2 ≤ length (drop p bytes)
    → number_at w16 bytes p ≡ Ok (told_length (drop p bytes), p + 2)
unfolding number_at
has_length bytes p enough =
    let long : ltb (length bytes) (p + 2) ≡ false = le-ltb _ _ (omega (arith, length-drop p bytes)) in
    rw long refl

too_long : (bytes : List ℕ) (p : ℕ) → 2 ≤ length (drop p bytes) → 4096 < told_length (drop p bytes)
    → text_at bytes p ≡ Err (BadField p)
unfolding text_at number_with
too_long bytes p enough long =
    let read = has_length bytes p enough in
    let above : nat_le (told_length (drop p bytes)) 4096 ≡ false = lt-leb _ _ long in
    rw (read, above) refl

cut : (bytes : List ℕ) (p : ℕ) → 2 ≤ length (drop p bytes) → told_length (drop p bytes) ≤ 4096
    → length (drop p bytes) < 2 + told_length (drop p bytes) → text_at bytes p ≡ Err (Short p)
unfolding text_at number_with
cut bytes p enough small few =
    let n = told_length (drop p bytes) in
    let read = has_length bytes p enough in
    let below : nat_le n 4096 ≡ true = le-leb _ _ small in
    let short : ltb (length bytes) (p + 2 + n) ≡ true = lt-ltb _ _ (omega (arith, length-drop p bytes)) in
    rw (read, below, short) refl

no_text : (bytes : List ℕ) (p : ℕ) → told_length (drop p bytes) ≤ 4096
    → 2 + told_length (drop p bytes) ≤ length (drop p bytes)
    → ¬ (IsUtf8 (take (told_length (drop p bytes)) (drop 2 (drop p bytes)))) → text_at bytes p ≡ Err (BadField p)
unfolding text_at number_with
no_text bytes p small enough other =
    let n = told_length (drop p bytes) in
    let two : 2 ≤ length (drop p bytes) = omega arith in
    let read = has_length bytes p two in
    let below : nat_le n 4096 ≡ true = le-leb _ _ small in
    let long : ltb (length bytes) (p + 2 + n) ≡ false = le-ltb _ _ (omega (arith, length-drop p bytes)) in
    let later : drop 2 (drop p bytes) ≡ drop (p + 2) bytes = drop-drop 2 p bytes in
    let wrong : is_utf8 (take n (drop (p + 2) bytes)) ≡ false =
    false_from_ne_true _ (λ e. other (rw later (IsUtf8-from_is_utf8 (take n (drop (p + 2) bytes)) e))) in
    rw (read, below, long, wrong) refl

pub text_is_short : (bytes : List ℕ) (p : ℕ) → p ≤ length bytes → IsShortText (drop p bytes)
    → text_at bytes p ≡ Err (Short p)
text_is_short bytes p lt (inl few) = no_length bytes p lt few
text_is_short bytes p lt (inr h) =
    elim (cases_lt (length (drop p bytes)) 2) [
      | inl few ↦ no_length bytes p lt few
      | inr enough ↦ cut bytes p enough h.0 h.1
    ]

pub text_is_bad : (bytes : List ℕ) (p : ℕ) → IsBadText (drop p bytes) → text_at bytes p ≡ Err (BadField p)
text_is_bad bytes p (enough, inl long) = too_long bytes p enough long
text_is_bad bytes p (enough, inr h) =
    elim (cases_lt 4096 (told_length (drop p bytes))) [
      | inl long ↦ too_long bytes p enough long
      | inr small ↦ no_text bytes p small h.0 h.1
    ]

-- what taking a text tells
pub ruleset text_fields = (stands_text, text_is_short, text_is_bad)
