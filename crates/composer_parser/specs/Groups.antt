-- Groups of tokens, by which kinds are told apart.
use Rattle.std.specs.Prelude.{ℕ, Bool, true, false, ◌&&◌, ◌||◌, not, ◌==◌, List, [], ◌∷◌, if◌then◌else◌, codes}
use Rattle.std.specs.Char.{is_ascii_alphabetic, is_ascii_digit}
use Rattle.std.specs.List.{list_all}
use Rattle.std.specs.Str.{bytes_eq}
use Rattle.composer_parser.specs.Words.{lower, is_one_of}
use Rattle.composer_parser.specs.Rules.{is_rule, is_foreign_rule}
use Rattle.composer_parser.specs.Kinds.{Shape, mark, quoted, word, Spelled, is_reserved, is}
use Rattle.composer_parser.specs.Kinds.{Kind, keyword, a_mark, a_text, a_word, a_value, a_name, a_placed, a_scoped, a_pred}
use Rattle.composer_parser.specs.Kinds.{a_word_but, a_number, a_time, a_date, a_plus, an_offset, a_rule, a_foreign_rule}

-- with what a word begins
pub data Lead : Type 0 where
  letter : Lead
  digit : Lead
  sign : Lead
  other : Lead

abbrev pub lead_of : ℕ → Lead
lead_of c =
    if is_ascii_alphabetic c then letter else
    if is_ascii_digit c then digit else
    if c == 43 || c == 45 then sign else other

abbrev pub lead : List ℕ → Lead
lead [] = other
lead (c ∷ w) = lead_of c

abbrev pub same_lead : Lead → Lead → Bool
same_lead letter letter = true
same_lead digit digit = true
same_lead sign sign = true
same_lead other other = true
same_lead l m = false

-- one mark, the texts, those of them that are rules and those that are foreign ones, one word in any case, the other words
-- than these, the words that are not reserved and begin with a letter, the words that begin alike, or all tokens
pub data Group : Type 0 where
  marks : ℕ → Group
  texts : Group
  rules : Group
  foreign_rules : Group
  words : List ℕ → Group
  others : List (List ℕ) → Group
  names : Group
  led : Lead → Group
  anything : Group

abbrev pub word_in : Group → List ℕ → Bool
word_in (marks c) w = false
word_in texts w = false
word_in rules w = false
word_in foreign_rules w = false
word_in (words k) w = bytes_eq (lower w) k
word_in (others ks) w = not (is_one_of ks w)
word_in names w = not (is_reserved w) && same_lead letter (lead (lower w))
word_in (led l) w = same_lead l (lead (lower w))
word_in anything w = true

abbrev pub shape_in : Group → Shape → Bool
shape_in anything s = true
shape_in (marks c) (mark d) = d == c
shape_in texts (quoted v) = true
shape_in rules (quoted v) = is_rule v
shape_in foreign_rules (quoted v) = is_foreign_rule v
shape_in g (word w) = word_in g w
shape_in g s = false

abbrev pub group_of : Kind → Group
group_of (keyword k) = words (lower k)
group_of (a_mark c) = marks c
group_of a_text = texts
group_of a_word = anything
group_of (a_word_but ks) = others ks
group_of a_value = anything
group_of a_name = names
group_of a_placed = names
group_of a_scoped = names
group_of a_pred = names
group_of a_number = led digit
group_of a_time = led digit
group_of a_date = led digit
group_of a_plus = led sign
group_of an_offset = led sign
group_of a_rule = rules
group_of a_foreign_rule = foreign_rules

-- no token is in both groups
abbrev pub apart : Group → Group → Bool
apart anything h = false
apart g anything = false
apart (marks c) (marks d) = not (c == d)
apart texts texts = false
apart texts rules = false
apart texts foreign_rules = false
apart rules texts = false
apart rules rules = false
apart foreign_rules texts = false
apart foreign_rules foreign_rules = false
apart (words a) (words b) = not (bytes_eq a b)
apart (words a) names = is_reserved a || not (same_lead letter (lead a))
apart names (words a) = is_reserved a || not (same_lead letter (lead a))
apart (words a) (led l) = not (same_lead l (lead a))
apart (led l) (words a) = not (same_lead l (lead a))
apart (words a) (others ks) = is_one_of ks a
apart (others ks) (words a) = is_one_of ks a
apart (others ks) (others ls) = false
apart (others ks) names = false
apart names (others ks) = false
apart (others ks) (led l) = false
apart (led l) (others ks) = false
apart names names = false
apart names (led l) = not (same_lead letter l)
apart (led l) names = not (same_lead letter l)
apart (led l) (led m) = not (same_lead l m)
apart g h = true

abbrev pub kinds_apart : List Kind → List Kind → Bool
kinds_apart ks ls = list_all (λ k. list_all (λ l. apart (group_of k) (group_of l)) ls) ks

-- a token of each kind, where there is one
abbrev pub example : Kind → Spelled
example (keyword k) = record { line = 1; shape = word k }
example (a_mark c) = record { line = 1; shape = mark c }
example a_text = record { line = 1; shape = quoted [] }
example a_word = record { line = 1; shape = word (codes "A") }
example (a_word_but ks) = record { line = 1; shape = word (codes "*") }
example a_value = record { line = 1; shape = word (codes "A") }
example a_name = record { line = 1; shape = word (codes "A") }
example a_placed = record { line = 1; shape = word (codes "A#A") }
example a_scoped = record { line = 1; shape = word (codes "A") }
example a_pred = record { line = 1; shape = word (codes "A") }
example a_number = record { line = 1; shape = word (codes "1") }
example a_time = record { line = 1; shape = word (codes "0000") }
example a_date = record { line = 1; shape = word (codes "01/01/1970") }
example a_plus = record { line = 1; shape = word (codes "+1") }
example an_offset = record { line = 1; shape = word (codes "+1") }
example a_rule = record { line = 1; shape = quoted (codes "FREQ=DAILY") }
example a_foreign_rule = record { line = 1; shape = quoted (codes "FREQ=HOURLY") }

abbrev pub has_token : Kind → Bool
has_token k = is k (example k)
