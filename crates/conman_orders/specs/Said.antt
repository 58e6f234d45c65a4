-- How the answers that the code gives stand for those of the model.
use Rattle.std.specs.List.{list_any}
use Rattle.std.specs.Prelude.{[], ℕ, ◌||◌, ◌∷◌, List, None, Option, Some, length, nat_le}
use Rattle.model.specs.Types.{AlreadyThere, Dep, Net, NotMine, NotThere, Obj, OutOfRange, Own, Prompt, Why}
use Rattle.model.specs.Equalities.{dep_eq}
use Rattle.model.specs.History.{View}
use Rattle.model.specs.Dependencies.{NumberedDep, deps, unwaived_deps}
use Rattle.model.specs.Verdicts.{Reasons, asks_too_much, names_foreign, names_nothing}
use Rattle.conman_orders.specs.declared.verdicts.Verdict.{Verdict}
use Rattle.conman_orders.specs.declared.verdicts.Verdict.TheVariants.{Decline, Obey}

-- a verdict by the reason to decline, if there is one
abbrev pub verdict_for : Option Why → Verdict
verdict_for None = Obey
verdict_for (Some why) = Decline why

-- the text of an own prompt
abbrev pub own_text : Dep → Option (List ℕ)
own_text (Prompt (Own text)) = Some text
own_text _ = None

-- the reasons that lie in a dependency that is added
abbrev pub added_reasons : Net → View → ℕ → Obj → Dep → Reasons
added_reasons net V me o d =
    (names_nothing net V d, NotThere)
    ∷ (names_foreign net me d, NotMine)
    ∷ (nat_le 64 (length (deps V o)) || asks_too_much d, OutOfRange)
    ∷ (list_any (λ (p : NumberedDep). dep_eq d p.dep) (unwaived_deps V o), AlreadyThere)
    ∷ []
