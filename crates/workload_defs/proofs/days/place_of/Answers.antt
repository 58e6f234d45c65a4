use Rattle.std.proofs.Common.{◌∙◌, ap, sym}
use Rattle.definition_names.proofs.Steps.{on_ok}
use Rattle.workload_defs.specs.Days.{free_of_kind}
use Rattle.workload_defs.specs.Tables.{number_at}
use Rattle.workload_defs.proofs.Frees.{if_ok, made_added, on_both, stays_added, there_added}
use Rattle.workload_defs.proofs.days.place_of.Goals as goal

pub returns-in-Some-clause-place : goal.returns-in-Some-clause-place
returns-in-Some-clause-place c =
    c.requires c.args.kind.now c.in-Some.place
    (ap (number_at c.args.made.now.entries) (sym c.in_ok-key.ensures) ∙ (sym c.place_at.ensures ∙ c.in-Some.is))

pub returns-in-None-clause-stay : goal.returns-in-None-clause-stay
returns-in-None-clause-stay c =
    on_ok c.add.result
    (stays_added c.args.kinds.now.items c.add.new.kinds.items (free_of_kind c.args.defs.now c.args.kind.now))
    c.add.ensures.kinds

pub returns-in-None-clause-place : goal.returns-in-None-clause-place
returns-in-None-clause-place c =
    if_ok c.add.result c.add.ensures.kinds c.add.ensures.place
    (λ place grown at_.
    there_added c.args.kinds.now.items c.add.new.kinds.items (free_of_kind c.args.defs.now c.args.kind.now) place grown at_)

pub returns-in-None-clause-made : goal.returns-in-None-clause-made
returns-in-None-clause-made c =
    on_both c.add.result c.add.ensures.kinds c.add.ensures.place c.add.ensures.made
    (λ place grown at_ put.
    made_added c.args.defs.now c.args.kinds.now.items c.add.new.kinds.items c.args.made.now.entries c.add.new.made.entries
    c.args.kind.now c.in_ok-key.key place c.requires grown at_ c.in_ok-key.ensures put)
