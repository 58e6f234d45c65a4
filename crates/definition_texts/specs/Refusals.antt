-- What bytes are: checked definitions, or refused at a line, for the first of the causes.
use Rattle.std.specs.Prelude.{◌≡◌, ◌≢◌, ℕ, List, length, Result, Ok, Err}
use Rattle.std.specs.Str.Lossy.{utf8_valid_len}
use Rattle.base_types.specs.declared.Token.{Token}
use Rattle.composer_lexer.specs.Places.{line_of}
use Rattle.composer_lexer.specs.Tokens.{tokens_of}
use Rattle.composer_lexer.specs.declared.LexFault.{LexFault}
use Rattle.composer_parser.specs.Composer.{defs}
use Rattle.composer_parser.specs.Faults.{last_line_of, HasUnexpected, HasLeftOut}
use Rattle.composer_parser.specs.Grammars.{Spells}
use Rattle.composer_parser.specs.Tokens.{all_spelled}
use Rattle.composer_parser.specs.declared.Defs.{Defs}
use Rattle.definition_faults.specs.Faults.{IsFaultless, IsFirstFault}
use Rattle.definition_faults.specs.declared.Fault.{Fault}
use Rattle.definition_texts.specs.Told.{refusal, kind_of, lexed}
use Rattle.definition_texts.specs.declared.kinds.RefusalKind.TheVariants as kind
use Rattle.definition_texts.specs.declared.refusals.Refusal.{Refusal}
use Rattle.definition_texts.specs.declared.refusals.NotRead.{NotRead}
use Rattle.definition_texts.specs.declared.refusals.NotRead.TheVariants.{Refused, NoMemory}

-- all bytes are UTF-8
abbrev pub IsText : List ℕ → Type 0
IsText bytes = utf8_valid_len bytes ≡ length bytes

-- the line of the first byte that is no part of UTF-8
abbrev pub bad_byte_line : List ℕ → ℕ
bad_byte_line bytes = line_of bytes (utf8_valid_len bytes)

-- the bytes are a text with these tokens
pub record HasTokens (bytes : List ℕ) (tokens : List Token) : Type 0 where
  pub text : IsText bytes
  pub are : tokens_of bytes ≡ Ok tokens

-- and the tokens are these definitions
pub record AreDefinitions (bytes : List ℕ) (d : Defs) : Type 0 where
  pub tokens : List Token
  pub has : HasTokens bytes tokens
  pub spelled : Spells (defs (last_line_of bytes)) (all_spelled bytes tokens) d

-- which have no fault
pub record AreChecked (bytes : List ℕ) (d : Defs) : Type 0 where
  pub are : AreDefinitions bytes d
  pub faultless : IsFaultless d

-- The tokens are no definitions: something else is expected at a line, or what stands there is left out.
pub data AreNoDefinitions (bytes : List ℕ) (tokens : List Token) : Refusal → Type 0 where
  unexpected : (line : ℕ)
      → HasUnexpected (defs (last_line_of bytes)) (last_line_of bytes) (all_spelled bytes tokens) line
      → AreNoDefinitions bytes tokens (refusal line kind.Expected)
  left_out : (line : ℕ) → HasLeftOut (defs (last_line_of bytes)) (all_spelled bytes tokens) line
      → AreNoDefinitions bytes tokens (refusal line kind.LeftOut)

-- The bytes are refused: they are no text, or have no tokens, or these are no definitions, or these have a fault.
pub data IsRefused (bytes : List ℕ) : Refusal → Type 0 where
  no_text : utf8_valid_len bytes ≢ length bytes → IsRefused bytes (refusal (bad_byte_line bytes) kind.BadChar)
  no_tokens : (fault : LexFault) (r : Refusal) → IsText bytes → tokens_of bytes ≡ Err fault
      → lexed fault ≡ Refused r → IsRefused bytes r
  no_definitions : (tokens : List Token) (r : Refusal) → HasTokens bytes tokens → AreNoDefinitions bytes tokens r
      → IsRefused bytes r
  faulty : (d : Defs) (f : Fault) → AreDefinitions bytes d → IsFirstFault d f
      → IsRefused bytes (refusal f.line (kind_of f.kind))

-- what reading bytes answers, unless memory ran out
abbrev pub IsReading : List ℕ → Result Defs NotRead → Type 0
IsReading bytes (Ok d) = AreChecked bytes d
IsReading bytes (Err (Refused r)) = IsRefused bytes r
IsReading bytes (Err NoMemory) = Unit {0}

-- what checking definitions answers, unless memory ran out
abbrev pub IsChecking : Defs → Result Defs NotRead → Type 0
IsChecking d (Ok e) = (e ≡ d) × IsFaultless d
IsChecking d (Err (Refused r)) = (f : Fault) × IsFirstFault d f × (r ≡ refusal f.line (kind_of f.kind))
IsChecking d (Err NoMemory) = Unit {0}
