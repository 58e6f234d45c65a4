use Rattle.std.proofs.Common.{◌≡◌, ◌∙◌, ap, List, option_copied}
use Rattle.composer_parser.specs.declared.Lined.{Lined}
use Rattle.composer_parser.specs.declared.ScheduleDef.{ScheduleDef}
use Rattle.definition_names.specs.Stations.{master_among, master_of}
use Rattle.definition_names.specs.Streams.{stream_among, entry_among}
use Rattle.definition_names.proofs.name_tables.Names.of.Goals as goal

pub invariant_of-result : goal.invariant_of-result
invariant_of-result c =
    let master : option_copied c.master_of-master.result ≡ master_of c.args.defs.now =
    c.master_of-master.ensures ∙ ap master_among c.as_slice.ensures in
    record {
      master_ = master;
      alone_ = c.in_ok-alone.ensures;
      placed_ = c.in_ok-placed.ensures;
      streams_ = λ ws name.
          c.in_ok-streams.ensures ws name ∙ (λ j. stream_among (c.as_slice-2.ensures j) (master j) ws name);
      entries_ = λ n name.
          c.in_ok-entries.ensures n name
          ∙ ap (λ (l : List (Lined ScheduleDef)). entry_among l n name) c.as_slice-3.ensures;
    }
