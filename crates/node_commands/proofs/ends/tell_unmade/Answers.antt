use Rattle.std.proofs.Common.{subst, sym}
use Rattle.node_restart.specs.declared.faults.RestartFault.{RestartFault}
use Rattle.node_commands.specs.Ends as spec
use Rattle.node_commands.specs.Ends.{IsTold}
use Rattle.node_commands.proofs.ends.tell_unmade.Goals as goal

pub returns-in-NotThisFile-clause-told : goal.returns-in-NotThisFile-clause-told
returns-in-NotThisFile-clause-told g c =
    let O = g.O.Sink in
    subst (λ (f : RestartFault). IsTold (spec.unmade_status f) (spec.unmade_text f) c.tell.result (O.written c.args.out.now) (O.written c.tell.new.out) (O.faults c.args.out.now) (O.faults c.tell.new.out))
    (sym c.in-NotThisFile.is) (c.tell.ensures.told (spec.other_file_line c.in-NotThisFile.place) c.other_file.ensures)
