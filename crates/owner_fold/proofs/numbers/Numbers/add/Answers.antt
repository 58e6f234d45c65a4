use Rattle.std.proofs.Common.{sym, ◌∙◌}
use Rattle.owner_fold.proofs.Finding.{known_stays, new_grows}
use Rattle.owner_fold.proofs.numbers.Numbers.add.Goals as goal

pub returns-then-contains_key : goal.returns-then-contains_key
returns-then-contains_key c numbers e h =
    known_stays numbers c.args.number c.args.self.now h (sym c.if-contains_key.true ∙ c.contains_key.ensures)

pub returns-in-Ok : goal.returns-in-Ok
returns-in-Ok c numbers e h =
    new_grows numbers c.args.number c.args.place c.args.self.now (record { places = c.insert.new.self }) e h
    (sym c.if-contains_key.false ∙ c.contains_key.ensures) c.in-Ok.ensures.updates.0
