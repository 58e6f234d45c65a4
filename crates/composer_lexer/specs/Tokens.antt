-- The tokens of a text, from the left.
use Rattle.std.specs.Prelude.{ℕ, zero, suc, ◌+◌, ◌-◌, Bool, true, false, ◌&&◌, ◌||◌, not, ◌==◌, ◌≤◌, nat_le, List, [], ◌∷◌}
use Rattle.std.specs.Prelude.{if◌then◌else◌, Option, Some, None, Ok, Err}
use Rattle.std.specs.declared.result.Result.{Result}
use Rattle.std.specs.List.{prefix_len}
use Rattle.syntax.specs.Quotes.{is_escaped}
use Rattle.base_types.specs.declared.reports.Token.{Token}
use Rattle.base_types.specs.declared.reports.TokenKind.{TokenKind}
use Rattle.base_types.specs.declared.reports.TokenKind.TheVariants as kind
use Rattle.composer_lexer.specs.declared.fronts.Front.{Front}
use Rattle.composer_lexer.specs.declared.fronts.Front.TheVariants.{LineEnd, Space, Piece, Bad}
use Rattle.composer_lexer.specs.declared.fronts.Trouble.{Trouble}
use Rattle.composer_lexer.specs.declared.fronts.Trouble.TheVariants as trouble
use Rattle.composer_lexer.specs.declared.faults.LexFault.{LexFault}
use Rattle.composer_lexer.specs.declared.faults.LexFault.TheVariants.{BadChar, OpenText, TooLong}

-- blank, tab and carriage return
abbrev pub is_blank : ℕ → Bool
is_blank b = b == 32 || b == 9 || b == 13

-- `(` `)` `,` `:` `;` `=`
abbrev pub is_mark : ℕ → Bool
is_mark b = b == 40 || b == 41 || b == 44 || b == 58 || b == 59 || b == 61

-- a printable ASCII character other than a blank, a mark and a quote
abbrev pub is_word_byte : ℕ → Bool
is_word_byte b = nat_le 33 b && (nat_le b 126 && (not (is_mark b) && not (b == 34)))

-- How many bytes stand behind the opening quote, up to the closing one and with it, and how many bytes their value has.
-- None where the line or the text ends first.
abbrev pub with_bytes : ℕ → ℕ → Option (ℕ × ℕ) → Option (ℕ × ℕ)
with_bytes n m None = None
with_bytes n m (Some (w, v)) = Some (w + n, v + m)

-- how many bytes stand for the first byte of a value: two for an escape
abbrev pub char_width : List ℕ → ℕ
char_width [] = 1
char_width (c ∷ []) = 1
char_width (c ∷ d ∷ cs) = if c == 92 && is_escaped d then 2 else 1

unfoldable pub text_width : List ℕ → Option (ℕ × ℕ)
text_width [] = None
text_width (c ∷ []) = if c == 34 then Some (1, 0) else None
text_width (c ∷ d ∷ cs) =
    if c == 34 then Some (1, 0) else
    if c == 10 then None else
    if c == 92 && is_escaped d then with_bytes 2 1 (text_width cs) else with_bytes 1 1 (text_width (d ∷ cs))

-- a text whose value has at most 4,096 bytes
abbrev pub text_front : Option (ℕ × ℕ) → Front
text_front None = Bad trouble.Open
text_front (Some (w, v)) = if nat_le v 4096 then Piece kind.Quoted (w + 1) else Bad trouble.Long

-- a word of at most 4,096 bytes
abbrev pub word_front : ℕ → Front
word_front w = if nat_le w 4096 then Piece kind.Word w else Bad trouble.Long

-- What stands at the front of a text: the end of a line, white space or a comment of so many bytes, a token of so many
-- bytes, or what is none of these. Whether it is the first byte of its line decides whether a `#` begins a comment.
unfoldable pub front : Bool → List ℕ → Front
front first [] = Space 1
front first (b ∷ bs) =
    if b == 10 then LineEnd else
    if first && b == 35 then Space (prefix_len (λ c. not (c == 10)) (b ∷ bs)) else
    if is_blank b then Space 1 else
    if is_mark b then Piece kind.Mark 1 else
    if b == 34 then text_front (text_width bs) else
    if is_word_byte b then word_front (prefix_len is_word_byte (b ∷ bs)) else Bad trouble.Char

abbrev pub fault_at : Trouble → ℕ → LexFault
fault_at trouble.Char line = BadChar line
fault_at trouble.Open line = OpenText line
fault_at trouble.Long line = TooLong line

abbrev pub before : Token → Result (List Token) LexFault → Result (List Token) LexFault
before t (Ok ts) = Ok (t ∷ ts)
before t (Err e) = Err e

abbrev pub token : TokenKind → ℕ → ℕ → ℕ → Token
token k line start width = record { kind = k; line = line; start = start; end = start + width }

-- What stands at the front of a text, and the tokens of the next line, or those behind so many bytes more.
abbrev pub by_front : Front → ℕ → ℕ → Result (List Token) LexFault → (ℕ → Result (List Token) LexFault)
    → Result (List Token) LexFault
by_front LineEnd line place next_line behind = next_line
by_front (Space w) line place next_line behind = behind (w - 1)
by_front (Piece k w) line place next_line behind = before (token k line place w) (behind (w - 1))
by_front (Bad t) line place next_line behind = Err (fault_at t line)

-- The tokens of a text that stands at a place of a line, of which so many bytes belong to what stands before them.
abbrev pub tokens_from : ℕ → ℕ → Bool → ℕ → List ℕ → Result (List Token) LexFault
tokens_from taken line first place [] = Ok []
tokens_from (suc taken) line first place (b ∷ bs) = tokens_from taken line first (place + 1) bs
tokens_from zero line first place (b ∷ bs) =
    by_front (front first (b ∷ bs)) line place (tokens_from 0 (line + 1) true (place + 1) bs)
    (λ more. tokens_from more line false (place + 1) bs)

-- the tokens of a text
unfoldable pub tokens_of : List ℕ → Result (List Token) LexFault
tokens_of text = tokens_from 0 1 true 0 text

-- At least one byte and at most so many belong to it.
abbrev pub IsWithin : ℕ → Front → Type 0
IsWithin n LineEnd = 1 ≤ n
IsWithin n (Space w) = (1 ≤ w) × (w ≤ n)
IsWithin n (Piece k w) = (1 ≤ w) × (w ≤ n)
IsWithin n (Bad t) = Unit {0}
