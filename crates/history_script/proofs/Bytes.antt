-- Digits, two at a time.
use Rattle.std.proofs.Common.{◌≡◌, ◌≤◌, ◌-◌, ℕ, List, [], ◌∷◌, ◌++◌, length, take, drop, get_or, Some, None, option_map, ◌∙◌, refl, arith}
use Rattle.std.proofs.Math.Seq.{take-length}
use Rattle.syntax.proofs.Escapes.{joined}
use Rattle.history_script.specs.Digits.{byte_of, bytes_of}

behind : (a b : ℕ) (rest : List ℕ) → take (length (a ∷ b ∷ rest) - 2) (drop 2 (a ∷ b ∷ rest)) ≡ rest
behind a b rest = let e : length (a ∷ b ∷ rest) - 2 ≡ length rest = omega arith in rw e (take-length rest)

more : (front : List ℕ) (a b byte : ℕ) (rest : List ℕ) → byte_of a b ≡ Some byte
    → option_map (λ more. front ++ more) (bytes_of (a ∷ b ∷ rest)) ≡ option_map (λ more. (front ++ byte ∷ []) ++ more) (bytes_of rest)
unfolding bytes_of
more front a b byte rest is = rw is (joined front byte (bytes_of rest))

none : (front : List ℕ) (a b : ℕ) (rest : List ℕ) → byte_of a b ≡ None
    → option_map (λ more. front ++ more) (bytes_of (a ∷ b ∷ rest)) ≡ None
unfolding bytes_of
none front a b rest is = rw is refl

-- in the words of the loop
pub read_more : (digits front rest after value : List ℕ) (byte : ℕ) → 2 ≤ length rest
    → byte_of (get_or rest 0 0) (get_or rest 1 0) ≡ Some byte
    → after ≡ take (length rest - 2) (drop 2 rest) → value ≡ front ++ byte ∷ []
    → bytes_of digits ≡ option_map (λ more. front ++ more) (bytes_of rest)
    → bytes_of digits ≡ option_map (λ more. value ++ more) (bytes_of after)
read_more digits front [] after value byte l is ae ve inv = absurd (omega (arith, l))
read_more digits front (a ∷ []) after value byte l is ae ve inv = absurd (omega (arith, l))
read_more digits front (a ∷ b ∷ rest) after value byte l is ae ve inv =
    let t = behind a b rest in rw (ve, ae, t) (inv ∙ more front a b byte rest is)

pub read_none : (digits front rest : List ℕ) → 2 ≤ length rest
    → byte_of (get_or rest 0 0) (get_or rest 1 0) ≡ None
    → bytes_of digits ≡ option_map (λ more. front ++ more) (bytes_of rest) → bytes_of digits ≡ None
read_none digits front [] l is inv = absurd (omega (arith, l))
read_none digits front (a ∷ []) l is inv = absurd (omega (arith, l))
read_none digits front (a ∷ b ∷ rest) l is inv = inv ∙ none front a b rest is
