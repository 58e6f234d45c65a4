-- Eight bytes that were read as a number are the bytes of that number.
use Rattle.std.proofs.Common.{◌≡◌, ◌+◌, ◌≤◌, ◌<◌, ℕ, List, [], ◌∷◌, ◌++◌, length, take, drop, get_or, refl, sym, ap, ◌∙◌, ◌-◌, arith, inl, inr}
use Rattle.std.proofs.lemmas.Bool.{cases_lt}
use Rattle.std.proofs.lemmas.List.{get_or-drop, get_or-take, get_or_past, length-take, length-drop, drop-drop, take_all}
use Rattle.std.proofs.lemmas.Nat.{be_bytes_8}
use Rattle.std.specs.Int.{w64, to_be_bytes, from_be_bytes}

-- each item is a byte
abbrev IsBytes : List ℕ → Type 0
IsBytes bytes = (i : ℕ) → get_or bytes i 0 < 256

IsBytes-drop : (n : ℕ) (bytes : List ℕ) → IsBytes bytes → IsBytes (drop n bytes)
IsBytes-drop n bytes fits i = rw get_or-drop (fits (n + i))

IsBytes-take : (n : ℕ) (bytes : List ℕ) → IsBytes bytes → IsBytes (take n bytes)
IsBytes-take n bytes fits i =
    elim (cases_lt i n) [
      | inl lt ↦ rw (get_or-take n bytes i 0 lt) (fits i)
      | inr le ↦ rw (get_or_past (take n bytes) i 0 (omega (arith, length-take n bytes))) (omega arith)
    ]

first_eight : (left : List ℕ) (n : ℕ) → 8 ≤ length left → IsBytes left → n ≡ from_be_bytes w64 left → left ≡ to_be_bytes w64 n ++ drop 8 left
first_eight (a ∷ b ∷ c ∷ d ∷ e ∷ f ∷ g ∷ h ∷ rest) n long fits is =
    let left = a ∷ b ∷ c ∷ d ∷ e ∷ f ∷ g ∷ h ∷ rest in
    let front = a ∷ b ∷ c ∷ d ∷ e ∷ f ∷ g ∷ h ∷ [] in
    ap (λ (xs : List ℕ). xs ++ rest) (sym (be_bytes_8 front n refl (IsBytes-take 8 left fits) is))
first_eight ([]) n long fits is = absurd (omega (arith, long))
first_eight (a ∷ []) n long fits is = absurd (omega (arith, long))
first_eight (a ∷ b ∷ []) n long fits is = absurd (omega (arith, long))
first_eight (a ∷ b ∷ c ∷ []) n long fits is = absurd (omega (arith, long))
first_eight (a ∷ b ∷ c ∷ d ∷ []) n long fits is = absurd (omega (arith, long))
first_eight (a ∷ b ∷ c ∷ d ∷ e ∷ []) n long fits is = absurd (omega (arith, long))
first_eight (a ∷ b ∷ c ∷ d ∷ e ∷ f ∷ []) n long fits is = absurd (omega (arith, long))
first_eight (a ∷ b ∷ c ∷ d ∷ e ∷ f ∷ g ∷ []) n long fits is = absurd (omega (arith, long))

-- the bytes from a place on, read as a number
pub eight_bytes : (from : List ℕ) (here n : ℕ) → 8 ≤ length (take (length from - here) (drop here from)) → IsBytes from → n ≡ from_be_bytes w64 (take (length from - here) (drop here from)) → drop here from ≡ to_be_bytes w64 n ++ drop (here + 8) from
eight_bytes from here n long fits is =
    let left = drop here from in
    let whole : take (length from - here) left ≡ left = take_all (length from - here) left (omega (arith, length-drop here from)) in
    let enough : 8 ≤ length left = rw (← whole) long in
    let is-left : n ≡ from_be_bytes w64 left = is ∙ ap (λ (xs : List ℕ). from_be_bytes w64 xs) whole in
    rw (← drop-drop 8 here from) (first_eight left n enough (IsBytes-drop here from fits) is-left)
