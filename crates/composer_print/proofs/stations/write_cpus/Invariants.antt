use Rattle.std.proofs.Common.{◌≡◌, ◌++◌, drop, flat_map, map}
use Rattle.composer_print.specs.Stations.{cpu_line}
use Rattle.composer_print.specs.Normal.{bare_cpu}
use Rattle.composer_print.proofs.stations.write_cpus.Given as goal

abbrev pub invariant-loop-cpu : goal.invariant-loop-cpu
invariant-loop-cpu l =
    l.initial.out.items ++ flat_map (λ x. cpu_line x.item) (map bare_cpu l.cpus)
    ≡ l.out.items ++ flat_map (λ x. cpu_line x.item) (map bare_cpu (drop l.cpu-index l.cpus))
