use Rattle.std.proofs.Common.{◌≡◌, List, OnOk, codes, subst, ℕ}
use Rattle.model.specs.History.{view_of}
use Rattle.waiting_lines.specs.Answers.{behind_line}
use Rattle.waiting_lines.specs.Names.{job_name}
use Rattle.waiting_lines.proofs.Pieces.{two_behind}
use Rattle.waiting_lines.proofs.answers.write_behind.Goals as goal

pub returns : goal.returns
unfolding behind_line
returns c =
    let name = job_name c.args.net.now (view_of c.args.o.now) c.args.first.now in
    subst (λ (text : List ℕ). OnOk c.write-2.result (c.write-2.new.self.items ≡ text))
    (two_behind c.args.out.now.items (codes "  lacks nothing, behind ") name (codes "\n") c.write.new.self.items
    c.write_job_name.new.out.items c.in_ok-write.ensures.bytes c.in_ok-write_job_name.ensures)
    c.write-2.ensures.bytes
