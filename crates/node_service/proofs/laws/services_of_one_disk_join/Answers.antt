use Rattle.std.proofs.Common.{length, take}
use Rattle.message_file.specs.Files.{kept_of}
use Rattle.node_inputs.specs.Traces.{kept}
use Rattle.workload_defs.specs.Nets.{net_of}
use Rattle.std.proofs.Common.{◌++◌}
use Rattle.node_service.proofs.Joining.{end_held, first_held, goes_just, goes_on, just_held, left_held, some_held, tried_front}
use Rattle.node_service.proofs.laws.services_of_one_disk_join.Goals as goal

pub returns-clause-at_end : goal.returns-clause-at_end
returns-clause-at_end g c = λ defs me turns why old new told now run before file entries is may again.
    let D = g.D.Disk in
    goes_on (net_of defs) me (length (kept run.trace)) run.start.kept entries run.trace before file
    (first_held (net_of defs) me run.start.kept (D.seen old) before is run.made.holds) run.written
    (end_held run.trace run.start.kept (D.seen old) before (kept_of file) is (run.at_end file may)) again

pub returns-clause-unfailed : goal.returns-clause-unfailed
returns-clause-unfailed g c = λ defs me turns why old new told now run before file entries is may again other.
    let D = g.D.Disk in
    goes_just (net_of defs) me run.start.kept entries run.trace before file
    (first_held (net_of defs) me run.start.kept (D.seen old) before is run.made.holds) run.written
    (just_held (run.start.kept ++ kept run.trace) (D.seen old) before (kept_of file) is (run.unfailed other file may)) again

pub returns-clause-behind : goal.returns-clause-behind
returns-clause-behind g c = λ defs me turns why old new told now run before file entries is was again.
    let D = g.D.Disk in
    goes_on (net_of defs) me 0 run.start.kept entries run.trace before file
    (first_held (net_of defs) me run.start.kept (D.seen old) before is run.made.holds) run.written
    (some_held run.trace run.start.kept (D.seen old) before (kept_of file) is (run.behind file was)) again

pub returns-clause-later : goal.returns-clause-later
returns-clause-later g c = λ defs me turns why old new told now run before file entries k is was again.
    let D = g.D.Disk in
    goes_on (net_of defs) me (length (kept (take k run.trace))) run.start.kept entries run.trace before file
    (first_held (net_of defs) me run.start.kept (D.seen old) before is run.made.holds) run.written
    (left_held (length (kept (take k run.trace))) run.trace run.start.kept (D.seen old) before (kept_of file) is
    (run.stands.later k file was)) again

pub returns-clause-between : goal.returns-clause-between
returns-clause-between g c = λ defs me turns why old new told now run before file entries j k is le was again.
    let D = g.D.Disk in
    goes_on (net_of defs) me (length (kept (take j run.trace))) run.start.kept entries (take k run.trace) before file
    (first_held (net_of defs) me run.start.kept (D.seen old) before is run.made.holds) (tried_front k run.trace run.written)
    (left_held (length (kept (take j run.trace))) (take k run.trace) run.start.kept (D.seen old) before (kept_of file) is
    (run.stands.between j k file le was)) again
