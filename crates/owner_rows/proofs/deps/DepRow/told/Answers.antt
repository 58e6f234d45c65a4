use Rattle.std.proofs.Common.{Bor, ap, option_map, sym, ◌∙◌, ℕ}
use Rattle.model.specs.Types.{Obj}
use Rattle.owner_rows.proofs.DepTelling.{dep_row_of, no_dep}
use Rattle.owner_rows.proofs.deps.DepRow.told.Goals as goal

pub returns-in-None : goal.returns-in-None
returns-in-None c events n h row =
    no_dep events c.args.body.now n _
    (sym c.dep_in.ensures ∙ ap (option_map (λ (p : Bor Obj × ℕ). (p.0.now, p.1))) c.in-None.is) h

pub returns-in-Some : goal.returns-in-Some
returns-in-Some c events n h row =
    dep_row_of events c.args.body.now n c.in-Some.o.now c.in-Some.i c.args.self.now _
    (sym c.dep_in.ensures ∙ ap (option_map (λ (p : Bor Obj × ℕ). (p.0.now, p.1))) c.in-Some.is) h row
    (c.after.ensures events)
