use Rattle.std.proofs.Common.{◌≡◌, List, OnOk, codes, subst, ℕ}
use Rattle.std.specs.Fmt.{decimal}
use Rattle.waiting_lines.specs.Lines.{time_line}
use Rattle.waiting_lines.proofs.Pieces.{one_behind_numbers}
use Rattle.waiting_lines.proofs.needs.write_time.Goals as goal

pub returns : goal.returns
unfolding time_line
returns c =
    subst (λ (text : List ℕ). OnOk c.write-2.result (c.write-2.new.self.items ≡ text))
    (one_behind_numbers c.args.out.now.items (codes "  ") (decimal c.args.i) (codes " at ") (decimal c.args.due)
    (codes ": its clock is ") (decimal c.args.now) (codes "\n") c.write.new.self.items c.in_ok-write.ensures.bytes)
    c.write-2.ensures.bytes
