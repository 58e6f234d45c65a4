-- Of the dependencies that commands added to an object, one passes a test where one of these commands adds such a one.
use Rattle.std.proofs.Common.{[], ◌∙◌, ◌∷◌, ◌≡◌, Bool, List, cond, false, flat_map, refl, true}
use Rattle.std.specs.List.{list_any}
use Rattle.std.specs.Prelude.{◌&&◌, ◌||◌}
use Rattle.lemmas.proofs.Booleans.{or_false}
use Rattle.lemmas.proofs.Lists.{any_append}
use Rattle.model.specs.Types.{AddDep, Cmd, Dep, Obj}
use Rattle.model.specs.Equalities.{obj_eq}
use Rattle.model.specs.Dependencies.{deps_added_by}
use Rattle.owner_fold.specs.Given.{adds}

-- the dependencies that were added are those of the commands
added_by_one : (test : Dep → Bool) (o : Obj) (c : Cmd) → list_any test (deps_added_by o c) ≡ adds test o c
added_by_one test o (AddDep p d) = go (obj_eq o p)
  where
    go : (b : Bool) → list_any test (cond b (d ∷ []) []) ≡ (b && test d)
    go true = or_false (test d)
    go false = refl
added_by_one test o c = refl

pub added_such : (test : Dep → Bool) (o : Obj) (cs : List Cmd)
    → list_any test (flat_map (deps_added_by o) cs) ≡ list_any (adds test o) cs
added_such test o [] = refl
added_such test o (c ∷ cs) =
    any_append test (deps_added_by o c) (flat_map (deps_added_by o) cs)
    ∙ (λ j. added_by_one test o c j || added_such test o cs j)
