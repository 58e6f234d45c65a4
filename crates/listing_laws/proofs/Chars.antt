-- Bytes that are characters: names, numbers, fixed words, and texts in quotes.
use Rattle.std.proofs.Common.{◌≡◌, ℕ, true, ltb, List, [], ◌∷◌, ◌++◌, IsUtf8, refl, flat_map}
use Rattle.std.specs.List.{list_all}
use Rattle.std.proofs.lemmas.Str.{IsUtf8-append, IsUtf8-from_is_utf8}
use Rattle.history_laws.specs.Printables.{IsLineText}
use Rattle.history_laws.proofs.Texts.{word_utf8}
use Rattle.syntax.specs.Quotes.{escaped, quoted_text}
use Rattle.syntax.proofs.Escapes.{escaped_utf8}

pub quoted_utf8 : (text : List ℕ) → IsLineText text → IsUtf8 (quoted_text text)
unfolding quoted_text
quoted_utf8 text h =
    IsUtf8-append (34 ∷ flat_map escaped text) (34 ∷ [])
    (IsUtf8-append (34 ∷ []) (flat_map escaped text) (word_utf8 (34 ∷ []) refl)
    (escaped_utf8 [] text (IsUtf8-from_is_utf8 text h.utf8))) (word_utf8 (34 ∷ []) refl)

-- a fixed word in front
pub led_utf8 : (word rest : List ℕ) → list_all (λ b. ltb b 128) word ≡ true → IsUtf8 rest → IsUtf8 (word ++ rest)
led_utf8 word rest low u = IsUtf8-append word rest (word_utf8 word low) u
