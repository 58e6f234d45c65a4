use Rattle.std.proofs.Common.{ap, arith, option_and_then, sym, ◌<◌, ◌^◌, ◌∙◌, length}
use Rattle.std.proofs.lemmas.Option.{slice_get_past}
use Rattle.model.specs.Types.{Events}
use Rattle.model.specs.History.{list_of}
use Rattle.owner_rows.specs.Standing.{additions, dep_in, found_at}
use Rattle.owner_rows.proofs.ObjectTelling.{few_additions}
use Rattle.owner_rows.proofs.Standing.{addition_found}
use Rattle.owner_rows.proofs.kept.Kept.added_dep_at.Goals as goal

pub returns-then-place-ge4294967296 : goal.returns-then-place-ge4294967296
returns-then-place-ge4294967296 c =
    let short : length (list_of c.args.self.now (Events c.args.w)) < 2 ^ 32 =
    c.entries-entries.ensures.short (Events c.args.w) in
    sym (slice_get_past (additions c.args.self.now c.args.w c.args.o.now) c.args.place
    (omega (arith, few_additions c.args.o.now (list_of c.args.self.now (Events c.args.w)), short)))

pub returns-in-None : goal.returns-in-None
returns-in-None c =
    ap (option_and_then (found_at dep_in c.args.self.now)) (sym c.in-None.is)
    ∙ sym (addition_found c.self.inside.entries.items c.args.self.now c.args.w c.args.o.now c.args.place _ c.addition.result
    c.self.view_is (c.self.invariant.places.added c.args.w c.args.o.now c.args.place) c.addition.ensures)

pub returns-in-Some : goal.returns-in-Some
returns-in-Some c =
    c.dep_added_at.ensures ∙ ap (option_and_then (found_at dep_in c.args.self.now)) (sym c.in-Some.is)
    ∙ sym (addition_found c.self.inside.entries.items c.args.self.now c.args.w c.args.o.now c.args.place _ c.addition.result
    c.self.view_is (c.self.invariant.places.added c.args.w c.args.o.now c.args.place) c.addition.ensures)
