use Rattle.std.proofs.Common.{◌∙◌, sym}
use Rattle.std.proofs.lemmas.Result.{on_ok_weaker}
use Rattle.model.specs.History.{view_of}
use Rattle.ready_index.proofs.Ending.{one_added, one_removed}
use Rattle.ready_index.proofs.ends.Ends.look_at.Goals as goal

pub returns-then-may_end : goal.returns-then-may_end
returns-then-may_end c =
    on_ok_weaker c.add.result
    (λ grown others.
    one_added (view_of c.args.o.now) c.args.w c.args.number c.args.self.now.streams c.add.new.self grown others)
    c.add.ensures

pub returns-else-may_end : goal.returns-else-may_end
returns-else-may_end c =
    λ others.
    one_removed (view_of c.args.o.now) c.args.w c.args.number c.args.self.now.streams c.remove.new.self
    c.remove.ensures (sym c.may_end.ensures ∙ c.if-may_end.false) others
