-- What a node advises itself has a short answer.
use Rattle.std.proofs.Common.{◌≡◌, ℕ, Bool, None, Option, Some, false, subst, true}
use Rattle.std.specs.Prelude.{filter, if◌then◌else◌, option_and_then}
use Rattle.base_types.specs.declared.Recovery.{Recovery}
use Rattle.base_types.specs.declared.Recovery.TheVariants as recovery
use Rattle.model.specs.Types.{Cmd, Confirm, Order, Rerun}
use Rattle.model.specs.Words.{least}
use Rattle.model.specs.History.{View}
use Rattle.model.specs.Catalogue.{StreamJob, job}
use Rattle.model.specs.OwnMembers.{own_job_numbers}
use Rattle.recovery_watch.specs.Advice.{advice, advised, advised_at, advised_by, is_waiting, needs_advice}
use Rattle.rest_laws.specs.Short.{has_short_answer}
use Rattle.order_laws.proofs.Told.{told_short}

by_recovery : (r : Recovery) (j : ℕ) (c : Cmd) → advised_by r j ≡ Some c → has_short_answer (Order c) ≡ true
by_recovery recovery.Stop j c e = cc
by_recovery recovery.Continue j c e =
    let is : Confirm j ≡ c = cc in
    subst (λ (d : Cmd). has_short_answer (Order d) ≡ true) is (told_short (Confirm j) tt tt)
by_recovery recovery.Rerun j c e =
    let is : Rerun j ≡ c = cc in
    subst (λ (d : Cmd). has_short_answer (Order d) ≡ true) is (told_short (Rerun j) tt tt)

by_job : (o : Option StreamJob) (c : Cmd) → option_and_then (λ (p : StreamJob). advised p.doc) o ≡ Some c
    → has_short_answer (Order c) ≡ true
by_job None c e = cc
by_job (Some p) c e = by_recovery p.doc.recovery p.doc.no c e

by_lowest : (V : View) (o : Option ℕ) (c : Cmd) → option_and_then (advised_at V) o ≡ Some c
    → has_short_answer (Order c) ≡ true
by_lowest V None c e = cc
by_lowest V (Some n) c e = by_job (job V n) c e

pub advice_short : (V : View) (w : ℕ) (c : Cmd) → advice V w ≡ Some c → has_short_answer (Order c) ≡ true
unfolding advice
advice_short V w c e = go (is_waiting V w) e
  where
    go : (b : Bool)
        → (if b then None
        else option_and_then (advised_at V) (least (filter (needs_advice V w) (own_job_numbers V w))))
        ≡ Some c
        → has_short_answer (Order c) ≡ true
    go true h = cc
    go false h = by_lowest V (least (filter (needs_advice V w) (own_job_numbers V w))) c h
