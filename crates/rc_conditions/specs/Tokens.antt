-- The tokens of a text, each with the place of its first byte.
use Rattle.std.specs.Prelude.{ℕ, zero, suc, ◌+◌, ◌-◌, Bool, ◌&&◌, ◌||◌, ◌==◌, if◌then◌else◌, List, [], ◌∷◌, take}
use Rattle.std.specs.Prelude.{drop, slice_index, codes, map}
use Rattle.std.specs.Char.{is_ascii_alphabetic, is_ascii_digit}
use Rattle.std.specs.List.{prefix_len}
use Rattle.std.specs.Option.{option_map_or}
use Rattle.std.specs.Str.{bytes_eq, str_eq_ignore_ascii_case}
use Rattle.model.specs.Types.{Eq, Ne, Lt, Le, Gt, Ge}
use Rattle.syntax.specs.Numbers.{signed_of}
use Rattle.rc_conditions.specs.declared.tokens.Token.{Token}
use Rattle.rc_conditions.specs.declared.tokens.Token.TheVariants as token

-- blank, tab, line feed and carriage return
abbrev pub is_blank : ℕ → Bool
is_blank b = b == 32 || b == 9 || b == 10 || b == 13

-- the marks of a comparison that take two bytes: `!=`, `<>`, `<=`, `>=`
abbrev pub is_pair : ℕ → ℕ → Bool
is_pair a b = (a == 33 && b == 61) || (a == 60 && b == 62) || (a == 60 && b == 61) || (a == 62 && b == 61)

-- How many bytes the token at the front of a text takes: all letters or all digits that follow each other, a minus
-- with the digits directly behind it, a mark of two bytes, or one byte.
unfoldable pub width : List ℕ → ℕ
width bs =
    if is_ascii_alphabetic (slice_index bs 0) then prefix_len is_ascii_alphabetic bs else
    if is_ascii_digit (slice_index bs 0) then prefix_len is_ascii_digit bs else
    if slice_index bs 0 == 45 && is_ascii_digit (slice_index bs 1) then 1 + prefix_len is_ascii_digit (drop 1 bs) else
    if is_pair (slice_index bs 0) (slice_index bs 1) then 2 else 1

-- a parenthesis, a mark that compares, or a number of 32 bits; other bytes have no place in a condition
unfoldable pub mark_or_number : List ℕ → Token
mark_or_number w =
    if bytes_eq w (codes "(") then token.Open else
    if bytes_eq w (codes ")") then token.Close else
    if bytes_eq w (codes "=") then token.Compare Eq else
    if bytes_eq w (codes "!=") then token.Compare Ne else
    if bytes_eq w (codes "<>") then token.Compare Ne else
    if bytes_eq w (codes "<") then token.Compare Lt else
    if bytes_eq w (codes "<=") then token.Compare Le else
    if bytes_eq w (codes ">") then token.Compare Gt else
    if bytes_eq w (codes ">=") then token.Compare Ge else
    option_map_or token.Number (signed_of w) token.Other

-- the token that these bytes are: a word in any case, a mark or a number
unfoldable pub token_of : List ℕ → Token
token_of w =
    if str_eq_ignore_ascii_case w (codes "RC") then token.Rc else
    if str_eq_ignore_ascii_case w (codes "NOT") then token.Not else
    if str_eq_ignore_ascii_case w (codes "AND") then token.And else
    if str_eq_ignore_ascii_case w (codes "OR") then token.Or else
    mark_or_number w

-- a token, and the place of its first byte in the text, counted from 0
pub record Placed : Type 0 where
  pub kind : Token
  pub place : ℕ

-- the tokens without their places
abbrev pub tokens_in : List Placed → List Token
tokens_in placed = map (λ (p : Placed). p.kind) placed

-- The tokens of a text that stands at a place and whose first bytes, so many, belong to the token before them. At a
-- byte that belongs to none and is no blank a token begins.
abbrev pub tokens_behind : ℕ → ℕ → List ℕ → List Placed
tokens_behind taken place [] = []
tokens_behind (suc taken) place (b ∷ bs) = tokens_behind taken (place + 1) bs
tokens_behind zero place (b ∷ bs) =
    if is_blank b then tokens_behind 0 (place + 1) bs else
    record { kind = token_of (take (width (b ∷ bs)) (b ∷ bs)); place = place }
    ∷ tokens_behind (width (b ∷ bs) - 1) (place + 1) bs

-- the tokens of a text, from the left
unfoldable pub placed_tokens : List ℕ → List Placed
placed_tokens text = tokens_behind 0 0 text
