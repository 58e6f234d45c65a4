-- Parts of productions, and what a token is worth.
use Rattle.std.specs.Prelude.{ℕ, Bool, true, ◌&&◌, not, ◌==◌, ◌+◌, ◌*◌, ◌-◌, ◌^◌, nat_lt, List, [], ◌∷◌, ◌++◌, map, drop, slice_index, codes}
use Rattle.std.specs.Prelude.{Option, Some, None, if◌then◌else◌}
use Rattle.std.specs.Char.{to_ascii_uppercase}
use Rattle.std.specs.Str.Parse.{digits_value}
use Rattle.std.specs.Option.{option_map_or}
use Rattle.calendars.specs.Written.{date_of}
use Rattle.composer_parser.specs.Words.{holds, before, behind}
use Rattle.composer_parser.specs.Kinds.{keyword, a_mark, a_text, a_word, a_value, a_name, a_pred}
use Rattle.composer_parser.specs.Kinds.{a_number, a_time, a_date, a_plus, an_offset}
use Rattle.composer_parser.specs.Kinds.{Shape, mark, quoted, word, Spelled, is, two_digits}
use Rattle.composer_parser.specs.Grammars.{Grammar, nothing, one, both, either, many}
use Rattle.composer_parser.specs.declared.definitions.Lined.{Lined}
use Rattle.composer_parser.specs.declared.clauses.Pred.{Pred}
use Rattle.composer_parser.specs.declared.clauses.PredPart.{PredPart}
use Rattle.composer_parser.specs.declared.clauses.PredPart.TheVariants as part

-- parts of productions: what has a value is put behind what takes it, and what has none is only there
infixl 5 ◌⊛◌
abbrev pub ◌⊛◌ : {A B : Type 0} → Grammar (A → B) → Grammar A → Grammar B
g ⊛ h = both (λ f a. f a) g h

infixl 5 ◌⊲◌
abbrev pub ◌⊲◌ : {A B : Type 0} → Grammar A → Grammar B → Grammar A
g ⊲ h = both (λ a b. a) g h

-- the value of what has no token
abbrev pub made : {A : Type 0} → A → Grammar A
made a = nothing a

infixr 4 ◌or◌
abbrev pub ◌or◌ : {A : Type 0} → Grammar A → Grammar A → Grammar A
g or h = either g h

abbrev pub maybe : {A : Type 0} → Grammar A → Grammar (Option A)
maybe g = (made Some ⊛ g) or made None

-- what a token is worth
abbrev pub bytes_of : Shape → List ℕ
bytes_of (mark c) = []
bytes_of (quoted v) = v
bytes_of (word w) = w

abbrev pub upper : List ℕ → List ℕ
upper w = map to_ascii_uppercase w

-- a number above 32 bits is the greatest of 32 bits
abbrev pub capped : List ℕ → ℕ
capped w = if nat_lt (digits_value 10 w) (2 ^ 32) then digits_value 10 w else 2 ^ 32 - 1

-- the parts
abbrev pub key : List ℕ → Grammar ℕ
key k = one (keyword k) (λ t. t.line)

abbrev pub name : Grammar (List ℕ)
name = one a_name (λ t. upper (bytes_of t.shape))

abbrev pub upper_word : Grammar (List ℕ)
upper_word = one a_word (λ t. upper (bytes_of t.shape))

abbrev pub value : Grammar (List ℕ)
value = one a_value (λ t. bytes_of t.shape)

abbrev pub text : Grammar (List ℕ)
text = one a_text (λ t. bytes_of t.shape)

abbrev pub number : Grammar ℕ
number = one a_number (λ t. capped (bytes_of t.shape))

-- a text and a word that are dropped
abbrev pub skipped_text : Grammar (Unit {0})
skipped_text = one a_text (λ t. tt)

abbrev pub skipped_word : Grammar (Unit {0})
skipped_word = one a_word (λ t. tt)

-- `[DESCRIPTION text]`, which is dropped
unfoldable pub description : Grammar (Unit {0})
description = (made (λ x y. tt) ⊛ key (codes "DESCRIPTION") ⊛ skipped_text) or made tt

-- a time is its minutes after 0000, and a date the number of its day
abbrev pub minutes : List ℕ → ℕ
minutes w = 60 * two_digits (slice_index w 0) (slice_index w 1) + two_digits (slice_index w 2) (slice_index w 3)

abbrev pub time : Grammar ℕ
time = one a_time (λ t. minutes (bytes_of t.shape))

unfoldable pub day_of : List ℕ → ℕ
day_of w = option_map_or (λ d. d) (date_of w) 0

abbrev pub date : Grammar ℕ
date = one a_date (λ t. day_of (bytes_of t.shape))

-- `+n`, and `+n` or `-n` with whether it is `+n`
abbrev pub plus : Grammar ℕ
plus = one a_plus (λ t. capped (drop 1 (bytes_of t.shape)))

abbrev pub signed : Grammar (Bool × ℕ)
signed = one an_offset (λ t. (slice_index (bytes_of t.shape) 0 == 43, capped (drop 1 (bytes_of t.shape))))

-- `WS#NAME` has a workstation, and `NAME` has none
unfoldable pub ws_of : List ℕ → Option (List ℕ)
ws_of w = if holds 35 w then Some (upper (before 35 w)) else None

unfoldable pub own_of : List ℕ → List ℕ
own_of w = if holds 35 w then upper (behind 35 w) else upper w

-- `STREAM.@` is the whole stream, and `STREAM.JOB` a job of it
abbrev pub part_of : List ℕ → PredPart
part_of w = if slice_index w 0 == 64 then part.All else part.Job (upper w)

unfoldable pub pred_of : List ℕ → Pred
pred_of w =
    if holds 46 w
    then record {
      ws = ws_of (before 46 w);
      name = own_of (before 46 w);
      part = part_of (behind 46 w);
    }
    else record { ws = ws_of w; name = own_of w; part = part.Plain }

abbrev pub pred : Grammar Pred
pred = one a_pred (λ t. pred_of (bytes_of t.shape))

abbrev pub lined : {A : Type 0} → ℕ → A → Lined A
lined line a = record { line = line; item = a }

-- the keyword is none that stands already
abbrev pub once : Bool → List ℕ → Spelled → Bool
once stands k t = not (stands && is (keyword k) t)

-- pieces one behind the other, of which each is put behind those before it
abbrev pub put : {A : Type 0} → List A → A → List A
put xs a = xs ++ a ∷ []

abbrev pub always : {S : Type 0} → S → Spelled → Bool
always s t = true

abbrev pub any_number : {A : Type 0} → Grammar A → Grammar (List A)
any_number g = many [] put always g (λ xs. xs)

-- a mark, which has no value
abbrev pub dropped_mark : ℕ → Grammar (Unit {0})
dropped_mark c = one (a_mark c) (λ t. tt)

-- g [, g]...
abbrev pub comma : Grammar (Unit {0})
comma = dropped_mark 44

abbrev pub after_comma : {A : Type 0} → Grammar A → Grammar A
after_comma g = made (λ x a. a) ⊛ comma ⊛ g

abbrev pub with_commas : {A : Type 0} → Grammar A → Grammar A → Grammar (List A)
with_commas g further = made (λ a more. a ∷ more) ⊛ g ⊛ any_number further
