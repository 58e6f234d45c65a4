use Rattle.std.proofs.Common.{List, ℕ, ap, ◌∙◌, ◌||◌, bytes_eq}
use Rattle.record_faults.specs.Known.{has_name}
use Rattle.record_faults.proofs.Kept.{put_name}
use Rattle.record_faults.proofs.names.Names.put.Goals.{in-Ok, in-Err}
use Rattle.record_faults.proofs.names.Names.put.Goals as goal

pub returns : goal.returns
returns c =
    elim c.match-insert.branch [
      | in-Ok w ↦ rw (w.result-is) (λ n.
          put_name c.args.name c.self.inside.set.keys c.insert.new.self.keys w.in-Ok.ensures.keys n
          ∙ ap (λ (l : List (List ℕ)). has_name l n || bytes_eq n c.args.name.now) c.self.view_is)
      | in-Err w ↦ rw (w.result-is) tt
    ]
