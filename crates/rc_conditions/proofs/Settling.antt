-- Operations that a joint lets go first, one at a time.
use Rattle.std.proofs.Common.{◌≡◌, List, [], ◌∷◌, None, option_and_then, refl}
use Rattle.std.specs.List.{slice_get}
use Rattle.model.specs.Types.{CondOp}
use Rattle.rc_conditions.specs.declared.readers.Joint.{Joint}
use Rattle.rc_conditions.specs.declared.readers.Joint.TheVariants as joint
use Rattle.rc_conditions.specs.declared.readers.Pending.{Pending}
use Rattle.rc_conditions.specs.declared.readers.Pending.TheVariants as pending
use Rattle.rc_conditions.specs.Machine.{parts, settled, due_before}

pub settled_all : (j : Joint) (ps : List Pending) (ops : List CondOp)
    → None ≡ option_and_then (due_before j) (slice_get ps 0) → settled j ps ops ≡ parts ps ops
settled_all j [] ops h = refl
settled_all j (pending.Open ∷ ps) ops h = refl
settled_all j (pending.Not ∷ ps) ops h = cc
settled_all j (pending.And ∷ ps) ops h = cc
settled_all joint.And (pending.Or ∷ ps) ops h = refl
settled_all joint.Or (pending.Or ∷ ps) ops h = cc
