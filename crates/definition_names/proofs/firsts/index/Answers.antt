use Rattle.std.proofs.Common.{◌-◌, arith, bytes_eq}
use Rattle.definition_names.specs.Keys.{seen}
use Rattle.definition_names.specs.Indexes.{name_in}
use Rattle.definition_names.proofs.Steps.{put_at}
use Rattle.definition_names.proofs.firsts.index.Goals as goal

pub loop-i-preserved : goal.loop-i-preserved
loop-i-preserved c =
    λ name.
    put_at (bytes_eq name) seen c.args.names.now (c.loop-i.i - 1) c.loop-i.i c.index-names-i.result
    (name_in c.loop-i.index.entries name) (name_in c.put_name.new.index.entries name) (omega arith) (omega arith)
    c.index-names-i.is (c.in_ok-put_name.ensures name) (c.loop-i.invariant name)
