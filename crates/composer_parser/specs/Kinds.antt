-- The tokens of a text as a grammar sees them, and the kinds of token that it asks for.
use Rattle.std.specs.Prelude.{ℕ, Bool, true, false, ◌&&◌, ◌||◌, not, ◌==◌, ◌+◌, ◌*◌, List, [], ◌∷◌, if◌then◌else◌}
use Rattle.std.specs.Prelude.{slice_index, codes, drop, length, nat_lt, ◌-◌}
use Rattle.std.specs.Char.{is_ascii_digit}
use Rattle.std.specs.Prelude.{is_some}
use Rattle.std.specs.List.{list_all}
use Rattle.std.specs.Str.{bytes_eq}
use Rattle.base_types.specs.Name.{is_name_of}
use Rattle.syntax.specs.Numbers.{is_number}
use Rattle.calendars.specs.Written.{date_of}
use Rattle.composer_parser.specs.Rules.{is_rule, is_foreign_rule}
use Rattle.composer_parser.specs.Words.{lower, is_one_of, holds, before, behind}

-- a mark, a text with the value that its quotes hold, or a word
pub data Shape : Type 0 where
  mark : ℕ → Shape
  quoted : List ℕ → Shape
  word : List ℕ → Shape

-- a token and its line, counted from 1
pub record Spelled : Type 0 where
  pub line : ℕ
  pub shape : Shape

-- What a grammar asks for.
pub data Kind : Type 0 where
  -- this word, in any case
  keyword : List ℕ → Kind
  a_mark : ℕ → Kind
  a_text : Kind
  -- any word, any word but these, and any word or text, reserved or not
  a_word : Kind
  a_word_but : List (List ℕ) → Kind
  a_value : Kind
  a_name : Kind
  -- `WS#NAME`, and the same with or without the workstation
  a_placed : Kind
  a_scoped : Kind
  -- `NAME`, `WS#NAME`, and both with `.@` or `.NAME` behind
  a_pred : Kind
  a_number : Kind
  -- four digits, 0000 to 2359
  a_time : Kind
  -- `mm/dd/yyyy`, a day that exists
  a_date : Kind
  -- `+n`, and `+n` or `-n`
  a_plus : Kind
  an_offset : Kind
  -- a text that is a rule, and one that is a rule of a form that is left out
  a_rule : Kind
  a_foreign_rule : Kind

-- the words that are no names
unfoldable pub reserved_words : List (List ℕ)
reserved_words =
    codes "$OPTIONS" ∷ codes "STARTOFDAY" ∷ codes "TIMEZONE" ∷ codes "ENCARRYFORWARD" ∷ codes "YES"
    ∷ codes "NO" ∷ codes "ALL" ∷ codes "$CALENDAR" ∷ codes "$PROMPT" ∷ codes "$RESOURCE" ∷ codes "$JOBS"
    ∷ codes "CPUNAME" ∷ codes "DESCRIPTION" ∷ codes "OS" ∷ codes "NODE" ∷ codes "TCPADDR" ∷ codes "DOMAIN"
    ∷ codes "FOR" ∷ codes "MAESTRO" ∷ codes "TYPE" ∷ codes "MANAGER" ∷ codes "FTA" ∷ codes "END"
    ∷ codes "AUTOLINK" ∷ codes "ON" ∷ codes "OFF" ∷ codes "BEHINDFIREWALL" ∷ codes "RESOLVEDEP"
    ∷ codes "FULLSTATUS" ∷ codes "PARENT" ∷ codes "ISMASTER" ∷ codes "SCRIPTNAME" ∷ codes "DOCOMMAND"
    ∷ codes "STREAMLOGON" ∷ codes "TASKTYPE" ∷ codes "RCCONDSUCC" ∷ codes "RECOVERY" ∷ codes "STOP"
    ∷ codes "CONTINUE" ∷ codes "RERUN" ∷ codes "SCHEDULE" ∷ codes "FREEDAYS" ∷ codes "EXCEPT"
    ∷ codes "RUNCYCLE" ∷ codes "VALIDFROM" ∷ codes "VALIDTO" ∷ codes "FDIGNORE" ∷ codes "FDNEXT"
    ∷ codes "FDPREV" ∷ codes "MO" ∷ codes "TU" ∷ codes "WE" ∷ codes "TH" ∷ codes "FR" ∷ codes "SA" ∷ codes "SU"
    ∷ codes "EVERYDAY" ∷ codes "WEEKDAYS" ∷ codes "WORKDAYS" ∷ codes "REQUEST" ∷ codes "DAYS" ∷ codes "AT"
    ∷ codes "UNTIL" ∷ codes "ONUNTIL" ∷ codes "SUPPR" ∷ codes "CONT" ∷ codes "CANC" ∷ codes "DEADLINE"
    ∷ codes "PRIORITY" ∷ codes "HI" ∷ codes "GO" ∷ codes "LIMIT" ∷ codes "CARRYFORWARD" ∷ codes "FOLLOWS"
    ∷ codes "NEEDS" ∷ codes "PROMPT" ∷ codes "OPENS" ∷ codes "ACCESS" ∷ codes "CONFIRMED" ∷ codes "CPUCLASS"
    ∷ codes "EVERY" ∷ codes "HOST" ∷ codes "INTERACTIVE" ∷ codes "KEYJOB" ∷ codes "KEYSCHED" ∷ codes "MATCHING"
    ∷ codes "PARMS" ∷ codes "$PARM" ∷ codes "AFTER" ∷ codes "ABENDPROMPT" ∷ codes "SECUREADDR"
    ∷ codes "SECURITYLEVEL" ∷ codes "SERVER" ∷ codes "TZ" ∷ codes "VARTABLE" ∷ []

unfoldable pub is_reserved : List ℕ → Bool
is_reserved w = is_one_of reserved_words w

-- a name that is not reserved
abbrev pub is_free_name : List ℕ → Bool
is_free_name w = is_name_of w && not (is_reserved w)

unfoldable pub is_placed : List ℕ → Bool
is_placed w = holds 35 w && (is_free_name (before 35 w) && is_free_name (behind 35 w))

unfoldable pub is_scoped : List ℕ → Bool
is_scoped w = is_free_name w || is_placed w

-- `.@`, or a dot and a name
unfoldable pub is_pred : List ℕ → Bool
is_pred w =
    is_scoped w || (holds 46 w && (is_scoped (before 46 w)
    && (bytes_eq (behind 46 w) (codes "@") || is_free_name (behind 46 w))))

abbrev pub two_digits : ℕ → ℕ → ℕ
two_digits a b = 10 * (a - 48) + (b - 48)

unfoldable pub is_time : List ℕ → Bool
is_time w =
    length w == 4 && (list_all is_ascii_digit w && (nat_lt (two_digits (slice_index w 0) (slice_index w 1)) 24
    && nat_lt (two_digits (slice_index w 2) (slice_index w 3)) 60))

unfoldable pub is_plus : List ℕ → Bool
is_plus w = if slice_index w 0 == 43 then is_number (drop 1 w) else false

unfoldable pub is_minus : List ℕ → Bool
is_minus w = if slice_index w 0 == 45 then is_number (drop 1 w) else false

unfoldable pub is_offset : List ℕ → Bool
is_offset w = if slice_index w 0 == 43 then is_number (drop 1 w) else is_minus w

unfoldable pub is_date : List ℕ → Bool
is_date w = is_some (date_of w)

-- the word is of the kind
abbrev pub word_is : Kind → List ℕ → Bool
word_is (keyword k) w = bytes_eq (lower w) (lower k)
word_is (a_mark c) w = false
word_is a_text w = false
word_is a_word w = true
word_is (a_word_but ks) w = not (is_one_of ks w)
word_is a_value w = true
word_is a_name w = is_free_name w
word_is a_placed w = is_placed w
word_is a_scoped w = is_scoped w
word_is a_pred w = is_pred w
word_is a_number w = is_number w
word_is a_time w = is_time w
word_is a_date w = is_date w
word_is a_plus w = is_plus w
word_is an_offset w = is_offset w
word_is a_rule w = false
word_is a_foreign_rule w = false

abbrev pub shape_is : Kind → Shape → Bool
shape_is (a_mark c) (mark d) = d == c
shape_is a_text (quoted v) = true
shape_is a_value (quoted v) = true
shape_is a_rule (quoted v) = is_rule v
shape_is a_foreign_rule (quoted v) = is_foreign_rule v
shape_is k (word w) = word_is k w
shape_is k s = false

-- the token is of the kind
abbrev pub is : Kind → Spelled → Bool
is k t = shape_is k t.shape
