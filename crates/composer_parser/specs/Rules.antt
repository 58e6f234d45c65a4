-- The rules of ON and EXCEPT, as texts in any case.
use Rattle.std.specs.Prelude.{ℕ, Bool, true, false, ◌&&◌, ◌||◌, not, ◌==◌, ◌-◌, nat_lt, List, [], ◌∷◌, length, take, drop, slice_index, codes, if◌then◌else◌}
use Rattle.std.specs.List.{list_all, slice_split}
use Rattle.syntax.specs.Numbers.{is_number}
use Rattle.composer_lexer.specs.Tokens.{is_word_byte}
use Rattle.composer_parser.specs.Words.{is_one_of, holds, before, behind}

-- the parts between semicolons, of which one may stand at the end
abbrev pub without_last : List ℕ → List ℕ
without_last v = if slice_index v (length v - 1) == 59 then take (length v - 1) v else v

unfoldable pub parts_of : List ℕ → List (List ℕ)
parts_of v = slice_split (λ b. b == 59) (without_last v)

abbrev pub is_word : List ℕ → Bool
is_word w = nat_lt 0 (length w) && list_all is_word_byte w

-- a word, and behind it perhaps `=` and a value
unfoldable pub is_part : List ℕ → Bool
is_part p = is_word (before 61 p) && (not (holds 61 p) || nat_lt 0 (length (behind 61 p)))

-- the part has this name
unfoldable pub is_named : List ℕ → List ℕ → Bool
is_named k p = is_one_of (k ∷ []) (before 61 p)

unfoldable pub has_value : List ℕ → List ℕ → Bool
has_value v p = is_one_of (v ∷ []) (behind 61 p)

-- `FREQ=` and a word, and parts behind it
abbrev pub are_like_rule : List (List ℕ) → Bool
are_like_rule [] = false
are_like_rule (p ∷ ps) = is_named (codes "FREQ") p && (is_word (behind 61 p) && list_all is_part ps)

-- The frequency is one of the three, and each part has a name that its rules may have.
unfoldable pub is_known : List ℕ → List ℕ → Bool
is_known freq p =
    is_named (codes "FREQ") p || (is_named (codes "INTERVAL") p
    || ((has_value (codes "WEEKLY") freq && is_named (codes "BYDAY") p)
    || (has_value (codes "MONTHLY") freq && is_named (codes "BYMONTHDAY") p)))

unfoldable pub is_frequency : List ℕ → Bool
is_frequency p = has_value (codes "DAILY") p || (has_value (codes "WEEKLY") p || has_value (codes "MONTHLY") p)

abbrev pub are_known : List (List ℕ) → Bool
are_known [] = false
are_known (p ∷ ps) = is_frequency p && list_all (is_known p) ps

-- `INTERVAL=n`, `BYDAY=d,d` and `BYMONTHDAY=k,k`
unfoldable pub is_interval : List ℕ → Bool
is_interval p = is_named (codes "INTERVAL") p && is_number (behind 61 p)

unfoldable pub is_weekday : List ℕ → Bool
is_weekday w =
    is_one_of (codes "MO" ∷ codes "TU" ∷ codes "WE" ∷ codes "TH" ∷ codes "FR" ∷ codes "SA" ∷ codes "SU" ∷ []) w

unfoldable pub is_days : List ℕ → Bool
is_days p = is_named (codes "BYDAY") p && list_all is_weekday (slice_split (λ b. b == 44) (behind 61 p))

unfoldable pub is_month_day : List ℕ → Bool
is_month_day w = if slice_index w 0 == 45 then is_number (drop 1 w) else is_number w

unfoldable pub is_month_days : List ℕ → Bool
is_month_days p = is_named (codes "BYMONTHDAY") p && list_all is_month_day (slice_split (λ b. b == 44) (behind 61 p))

-- the parts behind the frequency: an interval where one is wanted, and what the frequency wants
abbrev pub is_daily : List (List ℕ) → Bool
is_daily [] = true
is_daily (p ∷ []) = is_interval p
is_daily (p ∷ q ∷ ps) = false

abbrev pub ends_with : (List ℕ → Bool) → List (List ℕ) → Bool
ends_with last [] = false
ends_with last (p ∷ []) = last p
ends_with last (p ∷ q ∷ []) = is_interval p && last q
ends_with last (p ∷ q ∷ r ∷ ps) = false

abbrev pub are_formed : List (List ℕ) → Bool
are_formed [] = false
are_formed (p ∷ ps) =
    if has_value (codes "DAILY") p then is_daily ps else
    if has_value (codes "WEEKLY") p then ends_with is_days ps else ends_with is_month_days ps

-- `FREQ=DAILY[;INTERVAL=n]`, `FREQ=WEEKLY[;INTERVAL=n];BYDAY=d,d` or `FREQ=MONTHLY[;INTERVAL=n];BYMONTHDAY=k,k`
unfoldable pub is_rule : List ℕ → Bool
is_rule v = are_like_rule (parts_of v) && (are_known (parts_of v) && are_formed (parts_of v))

-- another frequency, or a part that the rules of the frequency do not have
unfoldable pub is_foreign_rule : List ℕ → Bool
is_foreign_rule v = are_like_rule (parts_of v) && not (are_known (parts_of v))
