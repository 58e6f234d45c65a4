use Rattle.std.proofs.Common.{◌≡◌, List, OnOk, codes, subst, ℕ}
use Rattle.std.specs.Fmt.{decimal}
use Rattle.model.specs.History.{view_of}
use Rattle.waiting_lines.specs.Lines.{follows_stream_line}
use Rattle.waiting_lines.specs.Names.{stream_name}
use Rattle.waiting_lines.proofs.Pieces.{two_behind_number}
use Rattle.waiting_lines.proofs.needs.write_follows_stream.Goals as goal

pub returns : goal.returns
unfolding follows_stream_line
returns c =
    let name = stream_name c.args.net.now (view_of c.args.o.now) c.args.s.now in
    subst (λ (text : List ℕ). OnOk c.write-2.result (c.write-2.new.self.items ≡ text))
    (two_behind_number c.args.out.now.items (codes "  ") (decimal c.args.i) (codes " follows stream ") name
    (codes ", not ended\n") c.write.new.self.items c.write_stream_name.new.out.items c.in_ok-write.ensures.bytes
    c.in_ok-write_stream_name.ensures)
    c.write-2.ensures.bytes
