-- Calls that look at files, one behind the other.
use Rattle.std.proofs.Common.{◌≤◌, ℕ, List, None, Option, Some, arith}
use Rattle.outside.specs.Files.{Told}
use Rattle.kept_files.specs.Growth.{KeepsMore, OnlyKeepsMore}
use Rattle.kept_files.specs.Looking.{OnlyLooks}
use Rattle.kept_files.proofs.Growing.{more_again, still_kept}

-- what is told went one step, and so another that follows from it
told_so : {X : Type 0} (step other : X → X → Type 0) (old new : Option X) → ((a b : X) → step a b → other a b)
    → Told step old new → Told other old new
told_so step other None None so told = tt
told_so step other (Some a) (Some b) so told = so a b told
told_so step other None (Some b) so told = absurd told
told_so step other (Some a) None so told = absurd told

told_still : (owner : ℕ) (told : Option (List ℕ)) → Told (KeepsMore owner) told told
told_still owner None = tt
told_still owner (Some file) = still_kept owner file

told_again : (owner : ℕ) (a b c : Option (List ℕ)) → Told (KeepsMore owner) a b → Told (KeepsMore owner) b c
    → Told (KeepsMore owner) a c
told_again owner None None None first second = tt
told_again owner (Some a) (Some b) (Some c) first second = more_again owner a b c first second
told_again owner None None (Some c) first second = absurd second
told_again owner None (Some b) c first second = absurd first
told_again owner (Some a) None c first second = absurd first
told_again owner (Some a) (Some b) None first second = absurd second

module _ {F : Type 0} (seen : F → List ℕ → Option (List ℕ)) (becomes : F → List ℕ → List ℕ → List ℕ → Type 0)
    (faults : F → ℕ) where
  -- no call
  pub no_looks : (old : F) → OnlyLooks seen becomes faults old old
  no_looks old =
      record {
        grows = λ owner name only. told_still owner (seen old name);
        others = λ name before after may. may;
        later = omega arith;
      }

  -- one call
  pub one_look : (old new : F) → ((name : List ℕ) → Told (becomes old name) (seen old name) (seen new name))
      → ((name before after : List ℕ) → becomes new name before after → becomes old name before after)
      → faults old ≤ faults new → OnlyLooks seen becomes faults old new
  one_look old new meanwhile others later =
      record {
        grows = λ owner name only.
            told_so (becomes old name) (KeepsMore owner) (seen old name) (seen new name) only (meanwhile name);
        others = others;
        later = later;
      }

  -- some calls and then some more
  pub more_looks : (old mid new : F) → OnlyLooks seen becomes faults old mid → OnlyLooks seen becomes faults mid new
      → OnlyLooks seen becomes faults old new
  more_looks old mid new first second =
      record {
        grows = λ owner name only.
            told_again owner (seen old name) (seen mid name) (seen new name) (first.grows owner name only)
            (second.grows owner name (λ before after may. only before after (first.others name before after may)));
        others = λ name before after may. first.others name before after (second.others name before after may);
        later = omega (arith, first.later, second.later);
      }
