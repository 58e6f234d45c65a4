use Rattle.launches_at_rest.proofs.Keeping.{steps_work, told_spends}
use Rattle.launches_at_rest.proofs.what_is_told_leaves_less.Goals as goal

pub returns-clause-told : goal.returns-clause-told
returns-clause-told c = λ net caps readings x y s inv covers told e. told_spends net caps readings x y s inv covers told e

pub returns-clause-bound : goal.returns-clause-bound
returns-clause-bound c = λ net caps readings steps x y inv covers each taken.
    (steps_work net caps readings steps x y inv covers each taken).bound

pub returns-clause-covers : goal.returns-clause-covers
returns-clause-covers c = λ net caps readings steps x y inv covers each taken.
    (steps_work net caps readings steps x y inv covers each taken).covers
