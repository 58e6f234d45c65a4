use Rattle.std.proofs.Common.{sym, ◌∙◌}
use Rattle.composer_parser.specs.Tokens.{all_spelled}
use Rattle.composer_parser.proofs.Loops.{turns_further, loop_stops, loop_done, piece_shortens, tokens_shorter}
use Rattle.composer_parser.proofs.gathering.gather.Goals as goal

pub pieces-preserved : goal.pieces-preserved
pieces-preserved g c =
    rw c.in_ok-take.ensures
    (turns_further g.S.Gathers.next_state g.S.Gathers.may_begin g.S.Gathers.part_grammar c.requires.decided c.requires.some
    c.args.start c.pieces.state (all_spelled c.args.text.now c.args.rest.now) (all_spelled c.args.text.now c.pieces.left.now)
    c.in_ok-part.part (all_spelled c.args.text.now c.in_ok-part.behind.now) c.pieces.invariant
    (sym c.goes_on.ensures ∙ c.pieces-test.true) c.in_ok-part.ensures)

pub pieces-smaller : goal.pieces-smaller
pieces-smaller g c =
    tokens_shorter c.args.text.now c.in_ok-part.behind.now c.pieces.left.now
    (piece_shortens g.S.Gathers.part_grammar (all_spelled c.args.text.now c.pieces.left.now) c.in_ok-part.part
    (all_spelled c.args.text.now c.in_ok-part.behind.now) c.requires.decided c.requires.some c.in_ok-part.ensures)

pub returns-in_err-part : goal.returns-in_err-part
returns-in_err-part g c =
    loop_stops c.args.text.now c.in_err-part.field-0.0 c.from_residual.result g.S.Gathers.next_state g.S.Gathers.may_begin
    g.S.Gathers.part_grammar (λ s. s) c.args.start c.pieces.state (all_spelled c.args.text.now c.args.rest.now)
    (all_spelled c.args.text.now c.pieces.left.now) c.pieces.invariant
    (sym c.goes_on.ensures ∙ c.pieces-test.true) c.in_err-part.ensures c.from_residual.ensures.1

pub returns : goal.returns
returns g c =
    loop_done g.S.Gathers.next_state g.S.Gathers.may_begin g.S.Gathers.part_grammar (λ s. s) c.args.start c.pieces.state
    (all_spelled c.args.text.now c.args.rest.now) (all_spelled c.args.text.now c.pieces.left.now) c.pieces.invariant
    (sym c.goes_on.ensures ∙ c.pieces-test.false)
