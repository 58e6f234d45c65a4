use Rattle.std.proofs.Common.{◌≡◌, ◌∙◌, ap, sym}
use Rattle.composer_parser.specs.Parts.{after_comma}
use Rattle.composer_parser.specs.Reading.{done}
use Rattle.composer_parser.specs.Tokens.{all_spelled}
use Rattle.composer_parser.proofs.Loops.{list_behind, list_stops}
use Rattle.composer_parser.proofs.lists.list.Goals as goal

pub returns : goal.returns
returns g c =
    let same : c.of_vec.result ≡ c.in_ok-all.all = c.of_vec.ensures ∙ c.all.view_is in
    list_behind g.T.Piece.grammar (after_comma g.T.Piece.grammar) (all_spelled c.args.text.now c.args.rest.now)
    c.in_ok-first.first (all_spelled c.args.text.now c.in_ok-first.rest.now) c.in_ok-of.field-0 c.in_ok-first.ensures c.in_ok-of.ensures
    ∙ c.in_ok-all.ensures ∙ ap (λ xs. done xs (all_spelled c.args.text.now c.in_ok-all.rest.now)) (sym same)

pub returns-in_err-all : goal.returns-in_err-all
returns-in_err-all g c =
    list_stops c.args.text.now c.in_err-all.field-0.0 c.from_residual-in_err-all.result g.T.Piece.grammar
    (after_comma g.T.Piece.grammar) (all_spelled c.args.text.now c.args.rest.now) c.in_ok-first.first
    (all_spelled c.args.text.now c.in_ok-first.rest.now) c.in_ok-of.field-0 c.in_ok-first.ensures c.in_ok-of.ensures
    c.in_err-all.ensures c.from_residual-in_err-all.ensures.1
