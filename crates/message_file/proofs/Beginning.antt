-- What a stop leaves while an empty file gets its header.
use Rattle.std.proofs.Common.{◌≡◌, ◌≤◌, ◌∙◌, ◌∷◌, [], zero, suc, ℕ, IfSome, List, None, Option, Some, ap, arith, drop, length, refl}
use Rattle.std.proofs.lemmas.List.{length-drop}
use Rattle.outside.specs.Files.{Only, Torn}
use Rattle.message_file.specs.Attaching.{LeftBeginning}
use Rattle.message_file.specs.Files.{first_bodies, first_record, kept_of}

-- four bytes are no record
short_none : (bytes : List ℕ) → length bytes ≤ 4 → first_record bytes ≡ None
short_none [] short = refl
short_none (a ∷ []) short = refl
short_none (a ∷ b ∷ []) short = refl
short_none (a ∷ b ∷ c ∷ []) short = refl
short_none (a ∷ b ∷ c ∷ d ∷ []) short = refl
short_none (a ∷ b ∷ c ∷ d ∷ e ∷ rest) short = absurd (omega (arith, short))

no_bodies : (n : ℕ) (bytes : List ℕ) → first_record bytes ≡ None → first_bodies n bytes ≡ []
no_bodies zero bytes none = refl
no_bodies (suc n) bytes none = rw none refl

-- so nothing is kept of nine bytes, whichever they are
pub few_keep_nothing : (file : List ℕ) → length file ≤ 9 → kept_of file ≡ []
unfolding kept_of
few_keep_nothing file few = no_bodies (length file) (drop 8 file) (short_none (drop 8 file) (omega (arith, few, length-drop 8 file)))

-- an empty file in which so many bytes were written
pub torn_few : (was file : List ℕ) → was ≡ [] → Torn 0 9 was file → length file ≤ 9
torn_few was file none torn =
    omega (arith, length-drop 9 file, ap length torn.after, length-drop 9 was, ap length none)

pub begin_start : (told : Option (List ℕ)) (left : List ℕ → Type 0) → IfSome told (λ file. file ≡ [])
    → IfSome told (λ file. Only file left) → (file : List ℕ) → left file → LeftBeginning told file
begin_start None left none only file from = tt
begin_start (Some old) left none only file from = omega (arith, ap length (only file from), ap length none)

pub begin_left : (told : Option (List ℕ)) (left : List ℕ → Type 0) → IfSome told (λ file. file ≡ [])
    → IfSome told (λ file. Only file left) → (file was : List ℕ) → left was → Torn 0 9 was file → LeftBeginning told file
begin_left None left none only file was from torn = tt
begin_left (Some old) left none only file was from torn = torn_few was file (only was from ∙ none) torn
