-- What may come of a content: how many bytes at least, and that there are such.
use Rattle.std.proofs.Common.{◌≡◌, ℕ, zero, suc, ◌+◌, ◌-◌, ◌≤◌, List, [], ◌∷◌, ◌++◌, length, replicate}
use Rattle.std.proofs.Common.{refl, arith, length-append}
use Rattle.std.proofs.lemmas.List.{length-replicate}
use Rattle.std.proofs.lemmas.Str.{IsUtf8-from_ascii}
use Rattle.std.specs.Prelude.{Some}
use Rattle.std.specs.List.{AllByRecursion}
use Rattle.std.specs.Str.{IsUtf8, IsAscii}
use Rattle.model.specs.Ranges.{IsU8}
use Rattle.mail_frames.specs.Nexts.{Continues, GoesOn, BeginsWith, Follows, due, IsOpen, NextAfter}
use Rattle.mail_frames.specs.declared.nexts.Next.{Next}
use Rattle.mail_frames.specs.declared.nexts.Next.TheVariants.{Any, Exactly, Lead, Within}

-- ---- at least so many bytes

continues_long : (n : ℕ) (bytes : List ℕ) → Continues n bytes → n ≤ length bytes
continues_long zero bytes h = omega arith
continues_long (suc n) [] h = absurd h
continues_long (suc n) (b ∷ bytes) h = let l = continues_long n bytes h.2 in omega arith

goes_on_long : (low high more : ℕ) (bytes : List ℕ) → GoesOn low high more bytes → more + 1 ≤ length bytes
goes_on_long low high more [] h = absurd h
goes_on_long low high more (b ∷ bytes) h = let l = continues_long more bytes h.2 in omega arith

begins_long : (tag : ℕ) (bytes : List ℕ) → BeginsWith tag bytes → 1 ≤ length bytes
begins_long tag [] h = absurd h
begins_long tag (b ∷ bytes) h = omega arith

pub follows_long : (next : Next) (bytes : List ℕ) → Follows next bytes → due next ≤ length bytes
follows_long Any bytes h = omega arith
follows_long (Exactly tag) bytes h = begins_long tag bytes h
follows_long Lead bytes h = omega arith
follows_long (Within low high more) bytes h = goes_on_long low high more bytes h

-- ---- bytes that may come

pub zeros : (n : ℕ) → AllByRecursion IsU8 (replicate n 0)
zeros zero = tt
zeros (suc n) = (omega arith, zeros n)

zeros_ascii : (n : ℕ) → IsAscii (replicate n 0)
zeros_ascii zero i = omega arith
zeros_ascii (suc n) zero = omega arith
zeros_ascii (suc n) (suc i) = zeros_ascii n i

zeros_text : (n : ℕ) → IsUtf8 (replicate n 0)
zeros_text n = IsUtf8-from_ascii (replicate n 0) (zeros_ascii n)

going_on : (n : ℕ) (bytes : List ℕ) → IsUtf8 bytes → Continues n (replicate n 128 ++ bytes)
going_on zero bytes u = u
going_on (suc n) bytes u = (omega arith, omega arith, going_on n bytes u)

pub can_come : (next : Next) (left : ℕ) → IsOpen next → due next ≤ left
    → (bytes : List ℕ) × (length bytes ≡ left) × Follows next bytes
can_come Any left o h = (replicate left 0, length-replicate left 0, zeros left)
can_come (Exactly tag) left o h =
    (tag ∷ replicate (left - 1) 0, omega (arith, length-replicate {A = ℕ} (left - 1) 0), (refl, zeros (left - 1)))
can_come Lead left o h = (replicate left 0, length-replicate left 0, zeros_text left)
can_come (Within low high more) left o h =
    let others = replicate (left - (more + 1)) 0 in (
      low ∷ replicate more 128 ++ others,
      omega (
        arith,
        length-append (replicate more 128) others,
        length-replicate {A = ℕ} more 128,
        length-replicate {A =
            ℕ} (left - (more + 1)) 0,
      ),
      (omega arith, o.0, going_on more others (zeros_text (left - (more + 1)))),
    )

-- ---- the byte that is next

goes_to : (n : ℕ) (bytes : List ℕ) → Continues (suc n) bytes → GoesOn 128 191 n bytes
goes_to n [] h = h
goes_to n (b ∷ bytes) h = h

goes_from : (n : ℕ) (bytes : List ℕ) → GoesOn 128 191 n bytes → Continues (suc n) bytes
goes_from n [] h = h
goes_from n (b ∷ bytes) h = h

later : (low high n b : ℕ) → suc n ≤ 2 → low ≤ b → b ≤ high
    → NextAfter (λ bytes. Follows (Within low high (suc n)) (b ∷ bytes)) (Some (Within 128 191 n))
later low high n b o l m = ((omega arith, omega arith), λ s. (λ h. goes_to n s h.2, λ h. (l, m, goes_from n s h)))
