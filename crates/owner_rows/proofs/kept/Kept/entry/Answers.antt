use Rattle.std.proofs.Common.{ap, arith, option_and_then, sym, ◌-◌, ◌∙◌}
use Rattle.owner_rows.specs.Standing.{body_in, found_at}
use Rattle.owner_rows.proofs.Standing.{nth_found}
use Rattle.owner_rows.proofs.kept.Kept.entry.Goals as goal

pub returns-in-None : goal.returns-in-None
returns-in-None c =
    ap (option_and_then (found_at body_in c.args.self.now)) (sym c.in-None.is)
    ∙ sym (nth_found c.self.inside.entries.items c.args.self.now c.args.f.now c.args.place _ c.entry.result c.self.view_is
    (omega arith) (c.self.invariant.places.entries c.args.f.now (c.args.place - 1)) c.entry.ensures)

pub returns-in-Some : goal.returns-in-Some
returns-in-Some c =
    c.body_at.ensures ∙ ap (option_and_then (found_at body_in c.args.self.now)) (sym c.in-Some.is)
    ∙ sym (nth_found c.self.inside.entries.items c.args.self.now c.args.f.now c.args.place _ c.entry.result c.self.view_is
    (omega arith) (c.self.invariant.places.entries c.args.f.now (c.args.place - 1)) c.entry.ensures)
