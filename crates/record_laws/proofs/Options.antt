-- What holds of a value that may be found.
use Rattle.std.proofs.Common.{IfSome, None, option_and_then, option_map, Option, Some}

pub always : {A B : Type 0} (Q : B → Type 0) (o : Option A) (f : A → B) → ((a : A) → Q (f a)) → IfSome (option_map f o) Q
always Q None f h = tt
always Q (Some a) f h = h a

pub chained : {A B : Type 0} (Q : B → Type 0) (o : Option A) (f : A → Option B) → ((a : A) → IfSome (f a) Q)
    → IfSome (option_and_then f o) Q
chained Q None f h = tt
chained Q (Some a) f h = h a
