-- Commands that are read are those that stand there.
use Rattle.std.proofs.Common.{◌≡◌, ℕ, Bool, false, List, Ok, refl, arith}
use Rattle.model.specs.Types.{Cmd, AddDep, DelDep, Release, AltPri, Cancel, Confirm, Kill, Rerun, Fence, Limit}
use Rattle.model.specs.Types.{StreamLimit, Total, ReplyGlobal, ReplyOwn, Stop, Submit, SwitchMgr}
use Rattle.model.specs.Fit.{IsFitCmd}
use Rattle.model.specs.Ranges.{CmdInRange}
use Rattle.model.specs.Spelling.{cmd_bytes}
use Rattle.model.specs.Versions.{cmd_has_deadline}
use Rattle.entry_codec.specs.Commands.{cmd_at, cmd_rows}
use Rattle.entry_codec.proofs.Readers.{◌&◌, Stands, IsReader}
use Rattle.entry_codec.proofs.Numbers.{u8_reader, u16_reader, u32_reader}
use Rattle.entry_codec.proofs.Choices.{row_0, row_1, row_2, row_3, choice_reader, again_0, again_1, again_2, again_3}
use Rattle.entry_codec.proofs.Choices.{flag_reader}
use Rattle.entry_codec.proofs.Parts.{obj_reader, dep_reader}
use Rattle.entry_codec.proofs.Documents.{draft_reader}
use Rattle.entry_codec.proofs.Allowed.{Allows, allows_none}

-- a command that is fit, in range and of the entry's version
abbrev pub CmdFits : Bool → Cmd → Type 0
CmdFits second c = (IsFitCmd c × CmdInRange c) × Allows second (cmd_has_deadline c)

cmd_again : (second : Bool) (bytes : List ℕ) (p : ℕ) (c : Cmd) (q : ℕ) → CmdFits second c
    → Stands (cmd_bytes c) bytes p q
    → cmd_at second bytes p ≡ Ok (c, q)
unfolding cmd_at cmd_bytes
cmd_again second bytes p (AddDep x y) q fits s =
    again_2 obj_reader (dep_reader second) (cmd_rows second) 1 AddDep x y refl (omega arith) fits.0.1.0
    ((fits.0.0, fits.0.1.1), fits.1) s
cmd_again second bytes p (DelDep x y) q fits s =
    again_2 obj_reader u16_reader (cmd_rows second) 2 DelDep x y refl (omega arith) fits.0.1.0 fits.0.1.1 s
cmd_again second bytes p (Release x) q fits s =
    again_1 obj_reader (cmd_rows second) 3 Release x refl (omega arith) fits.0.1 s
cmd_again second bytes p (AltPri x y) q fits s =
    again_2 obj_reader u8_reader (cmd_rows second) 4 AltPri x y refl (omega arith) fits.0.1.0 fits.0.1.1 s
cmd_again second bytes p (Cancel x) q fits s =
    again_1 obj_reader (cmd_rows second) 5 Cancel x refl (omega arith) fits.0.1 s
cmd_again second bytes p (Confirm x) q fits s =
    again_1 u32_reader (cmd_rows second) 6 Confirm x refl (omega arith) fits.0.1 s
cmd_again second bytes p (Kill x) q fits s =
    again_1 u32_reader (cmd_rows second) 7 Kill x refl (omega arith) fits.0.1 s
cmd_again second bytes p (Rerun x) q fits s =
    again_1 u32_reader (cmd_rows second) 8 Rerun x refl (omega arith) fits.0.1 s
cmd_again second bytes p (Fence x) q fits s =
    again_1 u8_reader (cmd_rows second) 9 Fence x refl (omega arith) fits.0.1 s
cmd_again second bytes p (Limit x) q fits s =
    again_1 u16_reader (cmd_rows second) 10 Limit x refl (omega arith) fits.0.1 s
cmd_again second bytes p (StreamLimit x y) q fits s =
    again_2 u32_reader u16_reader (cmd_rows second) 11 StreamLimit x y refl (omega arith) fits.0.1.0 fits.0.1.1 s
cmd_again second bytes p (Total x y) q fits s =
    again_2 u16_reader u16_reader (cmd_rows second) 12 Total x y refl (omega arith) fits.0.1.0 fits.0.1.1 s
cmd_again second bytes p (ReplyGlobal x y) q fits s =
    again_2 u16_reader flag_reader (cmd_rows second) 13 ReplyGlobal x y refl (omega arith) fits.0.1 tt s
cmd_again second bytes p (ReplyOwn x y z) q fits s =
    again_3 obj_reader u16_reader flag_reader (cmd_rows second) 14 ReplyOwn x y z refl (omega arith) fits.0.1.0
    fits.0.1.1 tt s
cmd_again second bytes p Cmd.Start q fits s = again_0 (cmd_rows second) 15 Cmd.Start refl (omega arith) s
cmd_again second bytes p Stop q fits s = again_0 (cmd_rows second) 16 Stop refl (omega arith) s
cmd_again second bytes p (Submit x) q fits s =
    again_1 (draft_reader second) (cmd_rows second) 17 Submit x refl (omega arith) fits s
cmd_again second bytes p (SwitchMgr x) q fits s =
    again_1 u16_reader (cmd_rows second) 18 SwitchMgr x refl (omega arith) fits.0.1 s

pub cmd_reader : (second : Bool) → IsReader (CmdFits second) cmd_bytes (cmd_at second)
unfolding cmd_at cmd_bytes
cmd_reader second =
    let none : Allows second false = allows_none second in
    choice_reader (CmdFits second) cmd_bytes (cmd_rows second) (
    row_2 obj_reader (dep_reader second) 1 AddDep (λ x y f g. ((g.0.0, (f, g.0.1)), g.1)) (λ x y. refl)
    & row_2 obj_reader u16_reader 2 DelDep (λ x y f g. ((tt, (f, g)), none)) (λ x y. refl)
    & row_1 obj_reader 3 Release (λ x f. ((tt, f), none)) (λ x. refl)
    & row_2 obj_reader u8_reader 4 AltPri (λ x y f g. ((tt, (f, g)), none)) (λ x y. refl)
    & row_1 obj_reader 5 Cancel (λ x f. ((tt, f), none)) (λ x. refl)
    & row_1 u32_reader 6 Confirm (λ x f. ((tt, f), none)) (λ x. refl)
    & row_1 u32_reader 7 Kill (λ x f. ((tt, f), none)) (λ x. refl)
    & row_1 u32_reader 8 Rerun (λ x f. ((tt, f), none)) (λ x. refl)
    & row_1 u8_reader 9 Fence (λ x f. ((tt, f), none)) (λ x. refl)
    & row_1 u16_reader 10 Limit (λ x f. ((tt, f), none)) (λ x. refl)
    & row_2 u32_reader u16_reader 11 StreamLimit (λ x y f g. ((tt, (f, g)), none)) (λ x y. refl)
    & row_2 u16_reader u16_reader 12 Total (λ x y f g. ((tt, (f, g)), none)) (λ x y. refl)
    & row_2 u16_reader flag_reader 13 ReplyGlobal (λ x y f g. ((tt, f), none)) (λ x y. refl)
    & row_3 obj_reader u16_reader flag_reader 14 ReplyOwn (λ x y z f g h. ((tt, (f, g)), none)) (λ x y z. refl)
    & row_0 15 Cmd.Start ((tt, tt), none) refl
    & row_0 16 Stop ((tt, tt), none) refl
    & row_1 (draft_reader second) 17 Submit (λ x f. f) (λ x. refl)
    & row_1 u16_reader 18 SwitchMgr (λ x f. ((tt, f), none)) (λ x. refl)
    & tt) (cmd_again second)
