use Rattle.std.proofs.Common.{◌≡◌, length}
use Rattle.composer_parser.specs.Reading.{turns}
use Rattle.composer_parser.specs.Tokens.{all_spelled}
use Rattle.composer_parser.proofs.gathering.gather.Given as goal

abbrev pub invariant-pieces : goal.invariant-pieces
invariant-pieces g l =
    turns g.S.Gathers.next_state g.S.Gathers.may_begin g.S.Gathers.part_grammar l.state (all_spelled l.text l.left)
    ≡ turns g.S.Gathers.next_state g.S.Gathers.may_begin g.S.Gathers.part_grammar l.fn.start (all_spelled l.text l.initial.left)

abbrev pub decreases-pieces : goal.decreases-pieces
decreases-pieces g l = length l.left
