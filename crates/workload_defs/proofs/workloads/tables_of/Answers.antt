use Rattle.workload_defs.proofs.workloads.tables_of.Goals as goal

pub returns : goal.returns
returns c =
    record {
      faultless = c.requires.faultless;
      few = c.requires.few;
      hosts_ = c.in_ok-hosts.ensures;
      days_ = c.in_ok-days.ensures;
    }
