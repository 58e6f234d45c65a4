-- Which fault the tokens of a text have where they are no definitions.
use Rattle.std.specs.Prelude.{◌≡◌, ◌⊎◌, ℕ, ◌+◌, ◌-◌, Bool, true, false, ◌&&◌, ◌||◌, not, ◌==◌, List, [], ◌∷◌, ◌++◌, Ok, Err, codes, length, take, if◌then◌else◌}
use Rattle.std.specs.declared.result.Result.{Result}
use Rattle.std.specs.List.{list_any, count_by}
use Rattle.composer_parser.specs.declared.stops.Why.{Why}
use Rattle.composer_parser.specs.declared.stops.Why.TheVariants.{NotExpected, IsLeftOut}
use Rattle.composer_parser.specs.declared.faults.SyntaxFault.{SyntaxFault}
use Rattle.composer_parser.specs.declared.faults.SyntaxFault.TheVariants.{Expected, LeftOut}
use Rattle.composer_parser.specs.declared.definitions.Defs.{Defs}
use Rattle.composer_parser.specs.Kinds.{keyword, Spelled, is}
use Rattle.composer_parser.specs.Grammars.{Grammar, LeavesOut}
use Rattle.composer_parser.specs.Answers.{StopsAt}
use Rattle.composer_parser.specs.Reading.{Outcome, done, stuck}

-- the line that has the last byte, and 1 for the empty text
unfoldable pub last_line_of : List ℕ → ℕ
last_line_of text = 1 + count_by (λ b. b == 10) (take (length text - 1) text)

-- the token is one of these words
abbrev pub is_word_of : List (List ℕ) → Spelled → Bool
is_word_of ks t = list_any (λ k. is (keyword k) t) ks

-- the words of the full language that are left out wherever they have no place
unfoldable pub left_words : List (List ℕ)
left_words =
    codes "ACCESS" ∷ codes "CONFIRMED" ∷ codes "CPUCLASS" ∷ codes "EVERY" ∷ codes "HOST" ∷ codes "INTERACTIVE"
    ∷ codes "KEYJOB" ∷ codes "KEYSCHED" ∷ codes "MATCHING" ∷ codes "PARMS" ∷ codes "$PARM" ∷ codes "SECUREADDR"
    ∷ codes "SECURITYLEVEL" ∷ codes "SERVER" ∷ codes "VARTABLE" ∷ []

-- the words of time zones, which are left out everywhere but among the options
unfoldable pub zone_words : List (List ℕ)
zone_words = codes "TIMEZONE" ∷ codes "TZ" ∷ []

unfoldable pub first_words : List (List ℕ)
first_words =
    codes "CPUNAME" ∷ codes "DOMAIN" ∷ codes "$CALENDAR" ∷ codes "$PROMPT" ∷ codes "$RESOURCE" ∷ codes "$JOBS"
    ∷ codes "SCHEDULE" ∷ []

-- `$OPTIONS` stands first, and no statement has begun
abbrev pub in_options : List Spelled → Bool
in_options [] = false
in_options (t ∷ ts) = is (keyword (codes "$OPTIONS")) t && not (list_any (is_word_of first_words) ts)

-- the word is left out wherever it has no place behind these tokens
unfoldable pub is_left_word : List Spelled → Spelled → Bool
is_left_word before t = is_word_of left_words t || (is_word_of zone_words t && not (in_options before))

-- The token is left out behind these: by its word alone, or since the grammar has it so at that place.
abbrev pub IsLeft : {C : Type 0} → Grammar C → List Spelled → Spelled → Type 0
IsLeft g before t = (is_left_word before t ≡ true) ⊎ LeavesOut g before t

-- the line of the first of these tokens, or the last line where there is none
abbrev pub line_at : ℕ → List Spelled → ℕ
line_at last [] = last
line_at last (t ∷ rest) = t.line

abbrev pub NoneLeft : {C : Type 0} → Grammar C → List Spelled → List Spelled → Type 0
NoneLeft g before [] = Unit {0}
NoneLeft g before (t ∷ rest) = IsLeft g before t → ⊥

-- On this line stands the first token that nothing in the grammar has behind those before it, or the text ends too early
-- on it, and nothing is left out there.
abbrev pub HasUnexpected : {C : Type 0} → Grammar C → ℕ → List Spelled → ℕ → Type 0
HasUnexpected g last ts line =
    (before : List Spelled) × (rest : List Spelled) × (ts ≡ before ++ rest) × StopsAt g before rest
    × NoneLeft g before rest × (line ≡ line_at last rest)

-- On this line stands the first token that nothing in the grammar has behind those before it, and it is left out.
abbrev pub HasLeftOut : {C : Type 0} → Grammar C → List Spelled → ℕ → Type 0
HasLeftOut g ts line =
    (before : List Spelled) × (t : Spelled) × (rest : List Spelled) × (ts ≡ before ++ t ∷ rest)
    × StopsAt g before (t ∷ rest) × IsLeft g before t × (line ≡ t.line)

-- the fault where reading stops behind these tokens
abbrev pub is_left : Why → Bool
is_left NotExpected = false
is_left IsLeftOut = true

abbrev pub fault_of : Why → ℕ → List Spelled → List Spelled → SyntaxFault
fault_of why last before [] = Expected last
fault_of why last before (t ∷ rest) = if is_left why || is_left_word before t then LeftOut t.line else Expected t.line

abbrev pub before_rest : List Spelled → List Spelled → List Spelled
before_rest ts rest = take (length ts - length rest) ts

-- what reading all tokens answers
abbrev pub answer : ℕ → List Spelled → Outcome Defs → Result Defs SyntaxFault
answer last ts (done d []) = Ok d
answer last ts (done d (t ∷ rest)) = Err (fault_of NotExpected last (before_rest ts (t ∷ rest)) (t ∷ rest))
answer last ts (stuck why rest) = Err (fault_of why last (before_rest ts rest) rest)
