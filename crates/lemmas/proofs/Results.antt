-- What holds of results.
use Rattle.std.proofs.Common.{Err, Ok, OnErr, OnOk, Result}
use Rattle.std.specs.Prelude.{IfErr, IfOk}

-- what follows from what stands behind a success stands behind it too
pub after_ok : {X E P Q : Type 0} (r : Result X E) → OnOk r P → (P → Q) → OnOk r Q
after_ok (Ok x) h f = f h
after_ok (Err e) h f = h

-- what holds anyhow stands behind a failure
pub on_err : {X Y P : Type 0} (r : Result X Y) → P → OnErr r P
on_err (Ok x) p = tt
on_err (Err y) p = p

-- what holds anyhow stands behind a success
pub on_ok : {X Y P : Type 0} (r : Result X Y) → P → OnOk r P
on_ok (Ok x) p = p
on_ok (Err y) p = tt

-- what follows from what a success has holds of it too
pub if_ok : {A E : Type 0} (P Q : A → Type 0) (r : Result A E) → ((a : A) → P a → Q a) → IfOk r P → IfOk r Q
if_ok P Q (Ok a) f p = f a p
if_ok P Q (Err e) f p = p

-- what follows from what a failure has holds of it too
pub if_err : {T E : Type 0} (P Q : E → Type 0) (r : Result T E) → ((e : E) → P e → Q e) → IfErr r P → IfErr r Q
if_err P Q (Ok t) f h = tt
if_err P Q (Err e) f h = f e h
