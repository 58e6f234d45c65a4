use Rattle.std.proofs.Common.{◌≡◌, ◌++◌, ◌∙◌, ℕ, List, OnOk, subst, sym}
use Rattle.definition_faults.proofs.Places.{followed_is}
use Rattle.definition_faults.proofs.graphs.put_pred.Goals as goal

pub returns-in_ok-place_of-in-Some : goal.returns-in_ok-place_of-in-Some
returns-in_ok-place_of-in-Some c =
    subst (λ (l : List ℕ). OnOk c.push.result (c.push.new.self ≡ c.args.places.now ++ l))
    (followed_is c.args.names.now c.args.n c.args.inside c.args.pred.now c.in-Some.target c.args.begins.now
    c.in_ok-place_of-in-Some.field-0 c.requires (sym c.target.ensures ∙ c.in-Some.is) c.in_ok-place_of-in-Some.ensures)
    c.push.ensures.ok
