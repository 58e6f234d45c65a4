use Rattle.nights_at_rest.proofs.Standing.{begun_stands, rests}
use Rattle.nights_at_rest.proofs.still.still_nodes_are_at_rest.Goals as goal

pub returns-clause-rest : goal.returns-clause-rest
returns-clause-rest c = λ defs night x reads nodes tree is short stands still. rests defs night x reads nodes tree is short stands still

pub returns-clause-begun : goal.returns-clause-begun
returns-clause-begun c = λ defs night x w node is w_in idle begun. begun_stands defs night x w node is w_in idle begun
