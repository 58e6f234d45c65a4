-- The fields of a format. Missing bytes are Short, and a value that a field may not have is BadField, each with the
-- place where the field begins.
use Rattle.std.specs.Prelude.{◌+◌, ◌==◌, ℕ, ℤ, Bool, true, false, cond, zero, suc, List, [], ◌∷◌, length, take, drop}
use Rattle.std.specs.Prelude.{Option, Some, None, Ok, Err, nat_lt, nat_le, if◌then◌else◌}
use Rattle.std.specs.Int.{Width, w8, w16, w32, w64, byte_len, from_be_bytes, cast_signed}
use Rattle.std.specs.Str.{is_utf8}
use Rattle.model.specs.History.{Seen}
use Rattle.entry_codec.specs.declared.EntryFault.TheVariants.{Short, BadField}
use Rattle.entry_codec.specs.Read.{Reader, ◌>>=◌, and_then, gives, pair, one}

-- a number, the highest byte first
unfoldable pub number_at : Width → Reader ℕ
number_at w bytes p =
    if nat_lt (length bytes) (p + byte_len w)
    then Err (Short p)
    else Ok (from_be_bytes w (take (byte_len w) (drop p bytes)), p + byte_len w)

-- a number of one, two, four and eight bytes
abbrev pub u8_at : Reader ℕ
u8_at = number_at w8

abbrev pub u16_at : Reader ℕ
u16_at = number_at w16

abbrev pub u32_at : Reader ℕ
u32_at = number_at w32

abbrev pub u64_at : Reader ℕ
u64_at = number_at w64

-- a signed number of four bytes
abbrev pub i32_at : Reader ℤ
i32_at = one u32_at (cast_signed w32)

-- a number for which a test holds
unfoldable pub number_with : Width → (ℕ → Bool) → Reader ℕ
number_with w test bytes p =
    and_then (number_at w bytes p) (λ n. if test n.0 then Ok n else Err (BadField p))

-- a length of at most 4,096 in two bytes, and so many bytes of UTF-8
unfoldable pub text_at : Reader (List ℕ)
text_at bytes p =
    and_then (number_with w16 (λ n. nat_le n 4096) bytes p) (λ n.
    if nat_lt (length bytes) (n.1 + n.0) then Err (Short p)
    else if is_utf8 (take n.0 (drop n.1 bytes)) then Ok (take n.0 (drop n.1 bytes), n.1 + n.0)
    else Err (BadField p))

-- the row of a choice
abbrev pub row_of : {X : Type 0} → ℕ → List (ℕ × Reader X) → Option (Reader X)
row_of n [] = None
row_of n (row ∷ rows) = cond (row.0 == n) (Some row.1) (row_of n rows)

-- rows that version 2 alone has
abbrev pub since_second : {X : Type 0} → Bool → List (ℕ × Reader X) → List (ℕ × Reader X)
since_second true rows = rows
since_second false rows = []

-- what stands behind a choice that was made in the field at `here`
abbrev pub behind : {X : Type 0} → Option (Reader X) → ℕ → Reader X
behind None here bytes p = Err (BadField here)
behind (Some row) here bytes p = row bytes p

-- a choice in one byte, which is one of the rows, and what stands behind it
unfoldable pub choice_at : {X : Type 0} → List (ℕ × Reader X) → Reader X
choice_at rows bytes p = and_then (u8_at bytes p) (λ n. behind (row_of n.0 rows) p bytes n.1)

-- a flag is 0 or 1
abbrev pub flag_rows : List (ℕ × Reader Bool)
flag_rows = (0, gives false) ∷ (1, gives true) ∷ []

abbrev pub flag_at : Reader Bool
flag_at = choice_at flag_rows

-- a flag, and after 1 the value
abbrev pub option_rows : {X : Type 0} → Reader X → List (ℕ × Reader (Option X))
option_rows value = (0, gives None) ∷ (1, one value Some) ∷ []

abbrev pub option_at : {X : Type 0} → Reader X → Reader (Option X)
option_at value = choice_at (option_rows value)

-- so many items
unfoldable pub items_at : {X : Type 0} → Reader X → ℕ → Reader (List X)
items_at item zero = gives []
items_at item (suc n) = do
  x ← item
  xs ← items_at item n
  gives (x ∷ xs)

-- a count in four bytes, and the items
unfoldable pub list_at : {X : Type 0} → Reader X → Reader (List X)
list_at item = do
  n ← u32_at
  items_at item n

-- a workstation that is at least so great, and its count, which is not 0
unfoldable pub count_at : ℕ → Reader (ℕ × ℕ)
count_at least = pair (number_with w16 (nat_le least)) (number_with w32 (nat_lt 0))

-- so many of them in ascending order, the first from a least workstation on
unfoldable pub counts_at : ℕ → ℕ → Reader Seen
counts_at least zero = gives []
counts_at least (suc n) = do
  first ← count_at least
  others ← counts_at (first.0 + 1) n
  gives (first ∷ others)

-- a count in four bytes, and the workstations with theirs
unfoldable pub seen_at : Reader Seen
seen_at = do
  n ← u32_at
  counts_at 0 n
