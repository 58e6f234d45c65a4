-- Where tokens and faults stand in their text.
use Rattle.std.specs.Prelude.{◌≡◌, ◌≤◌, ◌<◌, ◌+◌, ◌-◌, ℕ, Bool, true, ◌||◌, ◌==◌, List, [], ◌∷◌, length, take, drop, slice_index, IsSome}
use Rattle.std.specs.List.{list_all, count_by}
use Rattle.syntax.specs.Quotes.{quoted_of}
use Rattle.base_types.specs.declared.reports.Token.{Token}
use Rattle.base_types.specs.declared.reports.TokenKind.{TokenKind}
use Rattle.base_types.specs.declared.reports.TokenKind.TheVariants as kind
use Rattle.composer_lexer.specs.declared.fronts.Trouble.{Trouble}
use Rattle.composer_lexer.specs.declared.fronts.Front.TheVariants.{Piece, Bad}
use Rattle.composer_lexer.specs.Tokens.{front, is_mark, is_word_byte}

-- The place is the first of its line.
abbrev pub begins_line : List ℕ → ℕ → Bool
begins_line text place = place == 0 || slice_index text (place - 1) == 10

-- The line of a place, counted from 1: a line feed ends its line.
abbrev pub line_of : List ℕ → ℕ → ℕ
line_of text place = 1 + count_by (λ b. b == 10) (take place text)

-- The bytes are a word of at most 4,096 bytes, a text in quotes whose value has at most 4,096, or a mark.
abbrev pub HasForm : TokenKind → List ℕ → Type 0
HasForm kind.Word bytes = (1 ≤ length bytes) × (length bytes ≤ 4096) × (list_all is_word_byte bytes ≡ true)
HasForm kind.Quoted bytes = IsSome (quoted_of bytes)
HasForm kind.Mark bytes = (c : ℕ) × (bytes ≡ c ∷ []) × (is_mark c ≡ true)

-- The token is the slice at its span, which has the form of its kind and is all that stands there of it, and its line
-- is that of its place.
pub record IsToken (text : List ℕ) (t : Token) : Type 0 where
  pub some : t.start < t.end
  pub within : t.end ≤ length text
  pub slice : HasForm t.kind (take (t.end - t.start) (drop t.start text))
  pub whole : front (begins_line text t.start) (drop t.start text) ≡ Piece t.kind (t.end - t.start)
  pub line : t.line ≡ line_of text t.start

-- The tokens are tokens of the text from a place on, one behind the other.
abbrev pub AreTokens : List ℕ → ℕ → List Token → Type 0
AreTokens text place [] = Unit {0}
AreTokens text place (t ∷ more) = (place ≤ t.start) × IsToken text t × AreTokens text t.end more

-- The trouble begins at a place of this line.
abbrev pub Begins : Trouble → List ℕ → ℕ → Type 0
Begins trouble text line =
    (place : ℕ) × (place < length text) × (front (begins_line text place) (drop place text) ≡ Bad trouble)
    × (line ≡ line_of text place)
