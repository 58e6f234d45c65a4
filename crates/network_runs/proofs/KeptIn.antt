-- Where a night keeps an entry of its history.
use Rattle.std.proofs.Common.{[], ◌++◌, ◌≡◌, ◌∙◌, ◌∷◌, ℕ, Bool, None, Option, Some, ap, false, inl, inr, refl, subst, true}
use Rattle.std.proofs.lemmas.List.Elements.{filter_map-append}
use Rattle.std.specs.List.{cons_option}
use Rattle.std.specs.Prelude.{◌==◌, filter_map, if◌then◌else◌}
use Rattle.model.specs.Types.{Entry}
use Rattle.model.specs.History.{maker}
use Rattle.network_runs.specs.Happenings.{Happening, Night, kept_in, made, of_its_maker}
use Rattle.network_runs.proofs.Members.{IsIn, in_either}

-- at a happening between what was before and what came behind
pub record IsKeptIn (night : Night) (e : Entry) : Type 0 where
  pub front : Night
  pub back : Night
  pub h : Happening
  pub v : ℕ
  pub split : night ≡ front ++ h ∷ back
  pub its : kept_in h ≡ Some (v, e)

pub found_in : (before : Night) (e : Entry) → IsIn e (made before) → IsKeptIn before e
found_in [] e k = absurd k
found_in (h ∷ before) e k = elim (in_either e (made (h ∷ [])) (made before) (subst (IsIn e) (first h before) k)) [
  | inl new ↦ here h before new
  | inr old ↦ later h before (found_in before e old)
]
  where
    first : (h : Happening) (before : Night) → made (h ∷ before) ≡ made (h ∷ []) ++ made before
    first h before =
        ap (filter_map of_its_maker)
        (filter_map-append kept_in (h ∷ []) before)
        ∙ filter_map-append of_its_maker
        (filter_map kept_in (h ∷ [])) (filter_map kept_in before)

    of_its : (h : Happening) (before : Night) (o : Option (ℕ × Entry)) → kept_in h ≡ o
        → IsIn e (filter_map of_its_maker (cons_option o []))
        → IsKeptIn (h ∷ before) e
    of_its h before None is k = absurd k
    of_its h before (Some kept) is k = go (maker kept.1.feed == kept.0) k
      where
        go : (b : Bool) → IsIn e (cons_option (if b then Some kept.1 else None) []) → IsKeptIn (h ∷ before) e
        go true (inl same) = record {
          front = [];
          back = before;
          h = h;
          v = kept.0;
          split = refl;
          its = is ∙ ap (λ (d : Entry). Some (kept.0, d)) same;
        }
        go true (inr none) = absurd none
        go false none = absurd none

    here : (h : Happening) (before : Night) → IsIn e (made (h ∷ [])) → IsKeptIn (h ∷ before) e
    here h before k = of_its h before (kept_in h) refl k

    later : (h : Happening) (before : Night) → IsKeptIn before e → IsKeptIn (h ∷ before) e
    later h before k = record {
      front = h ∷ k.front;
      back = k.back;
      h = k.h;
      v = k.v;
      split = ap (λ (l : Night). h ∷ l) k.split;
      its = k.its;
    }
