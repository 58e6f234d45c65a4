-- The reasons against an added dependency: first those against a release of its object.
use Rattle.std.proofs.Common.{[], ℕ, ◌++◌, ◌∙◌, ◌∷◌, ◌||◌, ◌≡◌, Bool, None, Some, ap, cond, false, refl}
use Rattle.std.proofs.Common.{sym, true}
use Rattle.std.specs.Option.{option_or}
use Rattle.model.specs.Types.{AddDep, Dep, Events, Net, Obj, Release, Running, Why}
use Rattle.model.specs.Words.{first_of_these}
use Rattle.model.specs.History.{View}
use Rattle.model.specs.Facts.{is_cancelled}
use Rattle.model.specs.Verdicts.{Reasons, begun, object_reasons, over, reasons}
use Rattle.conman_orders.specs.Said.{added_reasons}

first_append : (xs ys : Reasons) → first_of_these (xs ++ ys) ≡ option_or (first_of_these xs) (first_of_these ys)
first_append [] ys = refl
first_append ((b, why) ∷ xs) ys = go b (first_append xs ys)
  where
    go : (c : Bool) → first_of_these (xs ++ ys) ≡ option_or (first_of_these xs) (first_of_these ys)
        → cond c (Some why) (first_of_these (xs ++ ys))
        ≡ option_or (cond c (Some why) (first_of_these xs)) (first_of_these ys)
    go true h = refl
    go false h = h

in_two : (net : Net) (V : View) (me : ℕ) (o : Obj) (d : Dep)
    → first_of_these (reasons net V me (AddDep o d))
    ≡ option_or (first_of_these (reasons net V me (Release o))) (first_of_these (added_reasons net V me o d))
unfolding reasons
in_two net V me o d =
    first_append
    (object_reasons V me o
    ++ ((begun (V (Events me)) o, Running)
    ∷ (over (V (Events me)) o || is_cancelled o (V (Events me)), Why.Ended)
    ∷ []))
    (added_reasons net V me o d)

pub by_object : (net : Net) (V : View) (me : ℕ) (o : Obj) (d : Dep) (why : Why)
    → Some why ≡ first_of_these (reasons net V me (Release o))
    → Some why ≡ first_of_these (reasons net V me (AddDep o d))
by_object net V me o d why e =
    ap (λ r. option_or r (first_of_these (added_reasons net V me o d))) e ∙ sym (in_two net V me o d)

pub by_dep : (net : Net) (V : View) (me : ℕ) (o : Obj) (d : Dep)
    → None ≡ first_of_these (reasons net V me (Release o))
    → first_of_these (added_reasons net V me o d) ≡ first_of_these (reasons net V me (AddDep o d))
by_dep net V me o d e =
    ap (λ r. option_or r (first_of_these (added_reasons net V me o d))) e ∙ sym (in_two net V me o d)
