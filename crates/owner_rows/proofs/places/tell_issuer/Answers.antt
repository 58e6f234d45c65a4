use Rattle.std.proofs.Common.{sym, ◌∙◌}
use Rattle.owner_rows.proofs.Standing.{issuers_with, issuers_without}
use Rattle.owner_rows.proofs.places.tell_issuer.Goals as goal

pub returns-in-Some : goal.returns-in-Some
returns-in-Some c kept h =
    issuers_with kept c.args.e.now c.args.issuers.now c.put.new.self (c.in-Some.a, c.in-Some.n)
    (sym c.issuer_of.ensures ∙ c.in-Some.is) h c.put.ensures

pub returns-in_default : goal.returns-in_default
returns-in_default c kept h =
    issuers_without kept c.args.e.now c.args.issuers.now (sym c.issuer_of.ensures ∙ c.in_default.is) h
