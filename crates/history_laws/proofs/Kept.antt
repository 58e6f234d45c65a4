-- A name that is read is kept as it is.
use Rattle.std.proofs.Common.{◌≡◌, ◌≤◌, ℕ, Bool, true, false, ◌&&◌, leb, List, [], ◌∷◌, length, map, Option, Some, None}
use Rattle.std.proofs.Common.{refl, ap, subst, ◌∙◌, arith, if◌then◌else◌}
use Rattle.std.specs.Char.{to_ascii_uppercase}
use Rattle.std.specs.List.{list_all}
use Rattle.std.proofs.lemmas.Bool.Decides.{nat_tests}
use Rattle.std.proofs.lemmas.Str.Ascii.{uppercase-uppercase}
use Rattle.std.proofs.lemmas.List.{length-map}
use Rattle.lemmas.proofs.Booleans.{and_parts, three_true}
use Rattle.syntax.proofs.Digits.{name_byte_upper}
use Rattle.base_types.specs.Name.{is_name_byte, is_name_of, starts_with_letter}
use Rattle.syntax.specs.Names.{name_of}
use Rattle.history_laws.specs.Printables.{IsKeptName}

abbrev upper : List ℕ → List ℕ
upper w = map to_ascii_uppercase w

upper_upper : (w : List ℕ) → upper (upper w) ≡ upper w
upper_upper [] = refl
upper_upper (b ∷ w) = λ i. uppercase-uppercase b i ∷ upper_upper w i

upper_letter : (w : List ℕ) → starts_with_letter w ≡ true → starts_with_letter (upper w) ≡ true
upper_letter [] h = h
upper_letter (b ∷ w) h = grind (arith, nat_tests)

upper_bytes : (w : List ℕ) → list_all is_name_byte w ≡ true → list_all is_name_byte (upper w) ≡ true
upper_bytes [] e = refl
upper_bytes (b ∷ w) e =
    let parts = and_parts (is_name_byte b) (list_all is_name_byte w) e in
    ap (λ t. t && list_all is_name_byte (upper w)) (name_byte_upper b parts.0) ∙ upper_bytes w parts.1

upper_name : (w : List ℕ) → is_name_of w ≡ true → is_name_of (upper w) ≡ true
upper_name w h =
    let front = and_parts (starts_with_letter w && leb (length w) 40) (list_all is_name_byte w) h in
    let parts = and_parts (starts_with_letter w) (leb (length w) 40) front.0 in
    let same : length (upper w) ≡ length w = length-map w to_ascii_uppercase in
    three_true (starts_with_letter (upper w)) (leb (length (upper w)) 40) (list_all is_name_byte (upper w)) (upper_letter w parts.0)
    (ap (λ k. leb k 40) same ∙ parts.1) (upper_bytes w front.1)

pub name_kept : (w n : List ℕ) → name_of w ≡ Some n → IsKeptName n
unfolding name_of
name_kept w n e = go (is_name_of w) refl e
  where
    go : (b : Bool) → is_name_of w ≡ b → (if b then Some (upper w) else None) ≡ Some n → name_of n ≡ Some n
    go true is f =
        let same : upper w ≡ n = cc in
        subst (λ x. name_of x ≡ Some x) same
        (ap (λ b. if b then Some (upper (upper w)) else None) (upper_name w is) ∙ ap Some (upper_upper w))
    go false is f = absurd (cc)
