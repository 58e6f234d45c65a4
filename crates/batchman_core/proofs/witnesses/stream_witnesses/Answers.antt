use Rattle.std.proofs.Common.{◌∙◌}
use Rattle.model.specs.History.{view_of}
use Rattle.batchman_core.proofs.Cited.{nobody_gathered}
use Rattle.batchman_core.proofs.witnesses.stream_witnesses.Goals as goal

pub returns-in-None : goal.returns-in-None
returns-in-None c = c.new.ensures ∙ nobody_gathered (view_of c.args.o.now) c.args.obj.now c.in-None.ensures
