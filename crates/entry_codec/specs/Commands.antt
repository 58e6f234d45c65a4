-- Commands as they are read. The number of a row is the choice that leads to it.
use Rattle.std.specs.Prelude.{ℕ, Bool, List, [], ◌∷◌}
use Rattle.model.specs.Types.{Cmd, AddDep, DelDep, Release, AltPri, Cancel, Confirm, Kill, Rerun, Fence, Limit}
use Rattle.model.specs.Types.{StreamLimit, Total, ReplyGlobal, ReplyOwn, Stop, Submit, SwitchMgr}
use Rattle.entry_codec.specs.Read.{Reader, gives, one, two, three}
use Rattle.entry_codec.specs.Fields.{u8_at, u16_at, u32_at, choice_at, flag_at}
use Rattle.entry_codec.specs.Parts.{obj_at, dep_at, stream_draft_at}

-- a command
abbrev pub cmd_rows : Bool → List (ℕ × Reader Cmd)
cmd_rows second =
    (1, two obj_at (dep_at second) AddDep)
    ∷ (2, two obj_at u16_at DelDep)
    ∷ (3, one obj_at Release)
    ∷ (4, two obj_at u8_at AltPri)
    ∷ (5, one obj_at Cancel)
    ∷ (6, one u32_at Confirm)
    ∷ (7, one u32_at Kill)
    ∷ (8, one u32_at Rerun)
    ∷ (9, one u8_at Fence)
    ∷ (10, one u16_at Limit)
    ∷ (11, two u32_at u16_at StreamLimit)
    ∷ (12, two u16_at u16_at Total)
    ∷ (13, two u16_at flag_at ReplyGlobal)
    ∷ (14, three obj_at u16_at flag_at ReplyOwn)
    ∷ (15, gives Cmd.Start)
    ∷ (16, gives Stop)
    ∷ (17, one (stream_draft_at second) Submit)
    ∷ (18, one u16_at SwitchMgr)
    ∷ []

unfoldable pub cmd_at : Bool → Reader Cmd
cmd_at second = choice_at (cmd_rows second)
