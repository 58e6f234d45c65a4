use Rattle.std.proofs.Common.{◌∙◌, ◌+◌, ◌≤◌, ap, arith, subst, sym}
use Rattle.base_types.specs.Grown.{Grown}
use Rattle.model.specs.Types.{Entry}
use Rattle.model.specs.World.{Origin, history_with}
use Rattle.network_world.proofs.Noting.{own_noted}
use Rattle.network_world.proofs.journals.Journal.note_own.Goals as goal

pub note_outs-requires : goal.note_outs-requires
note_outs-requires c =
    record { starts = c.requires.starts_; taken = c.requires.taken_; sent = c.requires.sent_ }

pub weight-requires : goal.weight-requires
weight-requires c = c.requires.size_

pub put_entry-requires : goal.put_entry-requires
put_entry-requires c = subst (λ (g : Grown Entry). 1 ≤ g.spare) (sym c.note_outs.ensures.history_) c.requires.history_

pub returns : goal.returns
returns c =
    own_noted c.args.w c.args.outs.now c.args.made c.args.self.now c.note_outs.new.self c.put_entry.new.history.items
    (c.note_outs.new.self.kept + c.weight.result) c.note_outs.ensures
    (c.put_entry.ensures ∙ ap (λ (g : Grown Entry). history_with Origin.Own g.items c.args.made) c.note_outs.ensures.history_)
    (omega (arith, c.weight.ensures, c.note_outs.ensures.kept_))
