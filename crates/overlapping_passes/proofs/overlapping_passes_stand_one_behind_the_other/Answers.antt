use Rattle.overlapping_passes.proofs.Placing.{one_behind_the_other}
use Rattle.overlapping_passes.proofs.overlapping_passes_stand_one_behind_the_other.Goals as goal

pub returns : goal.returns
returns c = λ defs before k old end_ moments between. one_behind_the_other defs before k old end_ moments between
