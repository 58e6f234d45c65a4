-- The text of a history.
use Rattle.std.specs.Prelude.{ℕ, List, ◌++◌, codes, flat_map}
use Rattle.std.specs.Fmt.{decimal}
use Rattle.model.specs.Ranges.{IsU32}
use Rattle.model.specs.Spelling.{entry_bytes}
use Rattle.model.specs.Types.{Entry, Net, Start}
use Rattle.plan_listing.specs.Networks.{network_text}
use Rattle.report_text.specs.Names.{name_of}
use Rattle.history_script.specs.Digits.{digits_of}

-- `entry HEX`
unfoldable pub entry_line : Entry → List ℕ
entry_line e = codes "entry " ++ digits_of (entry_bytes e) ++ codes "\n"

-- `start W JOB NUMBER`
unfoldable pub start_line : Net → Start → List ℕ
start_line net s =
    codes "start " ++ name_of net s.ws ++ codes " " ++ decimal s.job ++ codes " " ++ decimal s.number ++ codes "\n"

-- the job and the number of a start have four bytes
abbrev pub IsStartInRange : Start → Type 0
IsStartInRange s = IsU32 s.job × IsU32 s.number

-- the network as a listing prints it, and `$HISTORY`
unfoldable pub head_text : Net → List ℕ
head_text net = network_text net ++ codes "$HISTORY\n"

-- the network, and a line for each entry and for each start
unfoldable pub history_text : Net → List Entry → List Start → List ℕ
history_text net entries starts =
    head_text net ++ flat_map entry_line entries ++ flat_map (start_line net) starts
