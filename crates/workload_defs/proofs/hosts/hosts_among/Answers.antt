use Rattle.std.proofs.Common.{◌∙◌, List, ap, subst}
use Rattle.composer_parser.specs.declared.CpuDef.{CpuDef}
use Rattle.workload_defs.specs.Nets.{peers_among}
use Rattle.workload_defs.specs.Tables.{IsStationTable}
use Rattle.workload_defs.proofs.Fits.{few_listed, listed_ports_fit}
use Rattle.workload_defs.proofs.hosts.hosts_among.Goals as goal

pub peers_of-requires : goal.peers_of-requires
peers_of-requires c = few_listed c.args.names.now c.requires.faultless c.args.list.now c.requires.stations

pub station_table-requires : goal.station_table-requires
station_table-requires c = few_listed c.args.names.now c.requires.faultless c.args.list.now c.requires.stations

pub net_of-requires : goal.net_of-requires
net_of-requires c = record {
  faultless = c.requires.faultless;
  stations = c.requires.stations;
  table =
      subst (λ (l : List CpuDef). IsStationTable c.in_ok-numbers.numbers.entries l) c.requires.stations
      c.in_ok-numbers.ensures;
}

pub returns : goal.returns
returns c = record {
  net_ = c.in_ok-net.ensures;
  peers_ =
      c.in_ok-peers.ensures (listed_ports_fit c.args.names.now c.requires.faultless c.args.list.now c.requires.stations)
      ∙ ap peers_among c.requires.stations;
  numbers_ =
      subst (λ (l : List CpuDef). IsStationTable c.in_ok-numbers.numbers.entries l) c.requires.stations
      c.in_ok-numbers.ensures;
}
