-- The tokens of a text as the grammar sees them, and what a reader answers.
use Rattle.std.specs.Prelude.{◌≡◌, ℕ, ◌&&◌, nat_le, List, [], map, length, slice_index, slice_range, if◌then◌else◌, Ok, Err}
use Rattle.std.specs.declared.result.Result.{Result}
use Rattle.std.specs.Str.{is_utf8}
use Rattle.std.specs.Option.{option_map_or}
use Rattle.base_types.specs.declared.reports.Token.{Token}
use Rattle.base_types.specs.declared.reports.TokenKind.{TokenKind}
use Rattle.base_types.specs.declared.reports.TokenKind.TheVariants as token
use Rattle.syntax.specs.Quotes.{quoted_of}
use Rattle.composer_parser.specs.declared.stops.Why.{Why}
use Rattle.composer_parser.specs.declared.stops.Stop.{Stop}
use Rattle.composer_parser.specs.declared.stops.Stop.TheVariants.{Here, NoMemory}
use Rattle.composer_parser.specs.Kinds.{Shape, mark, quoted, word, Spelled}
use Rattle.composer_parser.specs.Reading.{Outcome, done, stuck}

-- the bytes, where they are characters
unfoldable pub as_text : List ℕ → List ℕ
as_text bytes = if is_utf8 bytes then bytes else []

-- the characters of a text from one place up to another
unfoldable pub piece : List ℕ → ℕ → ℕ → List ℕ
piece text start end =
    if nat_le start end && nat_le end (length text) then as_text (slice_range text start end) else []

abbrev pub shape_of : TokenKind → List ℕ → Shape
shape_of token.Word bytes = word bytes
shape_of token.Quoted bytes = quoted (option_map_or (λ v. v) (quoted_of bytes) [])
shape_of token.Mark bytes = mark (slice_index bytes 0)

-- a token by its kind and its bytes
abbrev pub spelled : List ℕ → Token → Spelled
spelled text t = record { line = t.line; shape = shape_of t.kind (piece text t.start t.end) }

abbrev pub all_spelled : List ℕ → List Token → List Spelled
all_spelled text ts = map (spelled text) ts

-- a word on a line
abbrev pub on_line : ℕ → List ℕ → Spelled
on_line line w = record { line = line; shape = word w }

-- Reading stopped where so many tokens are left.
abbrev pub StopsWith : {C : Type 0} → Why → ℕ → Outcome C → Type 0
StopsWith w n (stuck v rest) = (w ≡ v) × (n ≡ length rest)
StopsWith w n (done c rest) = ⊥

-- The answer is what reading gives, unless memory ran out.
abbrev pub Gives : {X C : Type 0} → (X → C) → (X → List Token) → List ℕ → Result X Stop → Outcome C → Type 0
Gives value behind text (Ok x) o = o ≡ done (value x) (all_spelled text (behind x))
Gives value behind text (Err (Here w n)) o = StopsWith w n o
Gives value behind text (Err NoMemory) o = Unit {0}
