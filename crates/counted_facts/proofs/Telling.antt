-- What is told of an entry by its key.
use Rattle.std.proofs.Common.{[], ℕ, ◌+◌, ◌++◌, ◌∙◌, ◌∷◌, ◌≡◌, List, None, Option, Some, ap, length, subst, sym}
use Rattle.std.specs.Prelude.{OnOk, Result}
use Rattle.lemmas.proofs.Results.{after_ok}
use Rattle.model.specs.Types.{Body, Entry, Events}
use Rattle.model.specs.History.{list_of}
use Rattle.owner_rows.specs.Subjects.{key_in}
use Rattle.counted_facts.specs.Timelines.{AreTimelines, HasOneMore}
use Rattle.counted_facts.specs.declared.timelines.Timelines.{Timelines}
use Rattle.counted_facts.proofs.Steps.{Quiet, none_told, told_one}

module _ {X : Type 0} (fact : ℕ → List Body → X) (subject : Body → Option ℕ) (quiet : Quiet fact subject)
    (kept : List Entry) (e : Entry) (key : Option (ℕ × ℕ)) (is : key ≡ key_in subject e) where
  -- it speaks of nobody
  pub keyed_none : (t : Timelines X) → key ≡ None → (before : List Entry) → kept ≡ before ++ e ∷ []
      → e.place ≡ length (list_of before e.feed) + 1 → AreTimelines fact before t → AreTimelines fact kept t
  keyed_none t none before all next h =
      subst (λ (G : List Entry). AreTimelines fact G t) (sym all)
      (none_told fact subject quiet before e t (sym is ∙ none) h)

  -- it speaks of one
  pub keyed_told : {U E : Type 0} (r : Result U E) (w n m : ℕ) (value : X) (old new : Timelines X)
      → key ≡ Some (w, n) → m ≡ n → value ≡ fact n (list_of kept (Events w))
      → OnOk r (HasOneMore (w, m) e.place value old new)
      → OnOk r ((before : List Entry) → kept ≡ before ++ e ∷ [] → e.place ≡ length (list_of before e.feed) + 1
      → AreTimelines fact before old → AreTimelines fact kept new)
  keyed_told r w n m value old new here same now told =
      after_ok r told
      (λ more before all next h.
      subst (λ (G : List Entry). AreTimelines fact G new) (sym all)
      (told_one fact subject quiet before e w n e.place value old new (sym is ∙ here)
      (subst (λ (k : ℕ). HasOneMore (w, k) e.place value old new) same more) next
      (now ∙ ap (λ (G : List Entry). fact n (list_of G (Events w))) all) h))
