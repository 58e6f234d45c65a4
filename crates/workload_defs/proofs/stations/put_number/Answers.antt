use Rattle.workload_defs.proofs.Puts.{name_put}
use Rattle.workload_defs.proofs.stations.put_number.Goals as goal
use Rattle.workload_defs.proofs.stations.put_number.Goals.{in-Ok, in-Err}

pub returns : goal.returns
returns c =
    elim c.match-insert.branch [
      | in-Ok w ↦
          rw w.result-is
          (name_put c.args.table.now.entries c.insert.new.self.entries c.args.name c.args.number w.in-Ok.ensures.entries)
      | in-Err w ↦ rw w.result-is tt
    ]
