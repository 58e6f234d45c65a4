-- What is owed where a call's error is handed on.
use Rattle.std.proofs.Common.{◌≡◌, Result, subst, sym}
use Rattle.std.proofs.lemmas.Result.{err_from_is_err_and}
use Rattle.std.specs.Prelude.{IfErr}
use Rattle.std.specs.Result.{IsErrAnd}

-- the error is the one that was handed on
pub if_err : {T E : Type 0} (P : E → Type 0) (r : Result T E) (e : E) → IsErrAnd r (λ y. y ≡ e) → P e → IfErr r P
if_err {T} {E} P r e is p =
    let q = err_from_is_err_and {Q = λ (y : E). y ≡ e} r is in
    subst (λ (s : Result T E). IfErr s P) (sym q.1) (subst P (sym q.2) p)
