-- What an answer to definitions says of their faults.
use Rattle.std.proofs.Common.{◌≡◌, ◌⊎◌, ◌∙◌, Result, Ok, Err, IfOk, IsOk, ap, inl, inr, refl, subst, sym}
use Rattle.composer_parser.specs.declared.Defs.{Defs}
use Rattle.definition_faults.specs.Faults.{IsFaultless, IsFirstFault}
use Rattle.definition_faults.specs.Orders.{told}
use Rattle.definition_faults.specs.declared.DefFault.{DefFault}
use Rattle.definition_faults.specs.declared.DefFault.TheVariants.{NoMemory}
use Rattle.definition_faults.specs.declared.Fault.{Fault}
use Rattle.workload_defs.specs.Answers.{IsAnswer}
use Rattle.workload_defs.proofs.Told.{one_first, told_no_room, told_tells}

pub is_checked : (d : Defs) (r : Result Defs DefFault) → IsAnswer d r → IfOk r (λ w. w ≡ d)
is_checked d (Ok w) h = h.0
is_checked d (Err fault) h = tt

pub is_sound : (d : Defs) (r : Result Defs DefFault) → IsAnswer d r → IsOk r → IsFaultless d
is_sound d (Ok w) h there = h.1
is_sound d (Err fault) h there = cc

pub is_accepted : (d : Defs) (r : Result Defs DefFault) → IsAnswer d r → IsFaultless d → IsOk r ⊎ (r ≡ Err NoMemory)
is_accepted d (Ok w) h sound = inl refl
is_accepted d (Err fault) (inl spent) sound = inr (ap Err spent)
is_accepted d (Err fault) (inr t) sound = absurd (sound t.0 t.2.0)

pub is_refused : (d : Defs) (r : Result Defs DefFault) → IsAnswer d r → (f : Fault) → IsFirstFault d f
    → (r ≡ Err (told f)) ⊎ (r ≡ Err NoMemory)
is_refused d (Ok w) h f first = absurd (h.1 f first.0)
is_refused d (Err fault) (inl spent) f first = inr (ap Err spent)
is_refused d (Err fault) (inr t) f first = inl (ap Err (t.1 ∙ ap told (one_first d t.0 f t.2 first)))

pub has_cause : (d : Defs) (r : Result Defs DefFault) → IsAnswer d r → (f : Fault) → r ≡ Err (told f) → IsFirstFault d f
has_cause d (Ok w) h f is = cc
has_cause d (Err fault) (inl spent) f is =
    let same : fault ≡ told f = cc in
    absurd (told_no_room f (sym same ∙ spent))
has_cause d (Err fault) (inr t) f is =
    let same : fault ≡ told f = cc in
    subst (IsFirstFault d) (told_tells t.0 f (sym t.1 ∙ same)) t.2
