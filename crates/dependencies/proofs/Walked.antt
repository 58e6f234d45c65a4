-- What a walk over a list has told, one item further.
use Rattle.std.proofs.Common.{◌≡◌, ◌∙◌, ◌∷◌, ◌&&◌, Bool, List, Option, Some, ap, cond, false, slice_get, true}
use Rattle.std.specs.List.{list_all}
use Rattle.std.specs.Prelude.{filter, option_map}

-- all pass where the one at hand passes and all behind it do
pub all_further : {X : Type 0} (p : X → Bool) (x : X) (all left : List X) (b : Bool) → all ≡ x ∷ left → p x ≡ true
    → b ≡ list_all p all → b ≡ list_all p left
all_further p x all left b e f h = h ∙ (ap (list_all p) e ∙ ap (λ (t : Bool). t && list_all p left) f)

-- and not where it does not
pub all_fail : {X : Type 0} (p : X → Bool) (x : X) (all left : List X) (b : Bool) → all ≡ x ∷ left → p x ≡ false
    → b ≡ list_all p all → b ≡ false
all_fail p x all left b e f h = h ∙ (ap (list_all p) e ∙ ap (λ (t : Bool). t && list_all p left) f)

-- the first that passes is the one at hand
pub first_here : {X Y : Type 0} (p : X → Bool) (make : X → Y) (x : X) (all left : List X) (o : Option Y)
    → all ≡ x ∷ left → p x ≡ true → o ≡ option_map make (slice_get (filter p all) 0) → o ≡ Some (make x)
first_here {X} p make x all left o e f h =
    h
    ∙ (ap (λ (l : List X). option_map make (slice_get (filter p l) 0)) e
    ∙ ap (λ (t : Bool). option_map make (slice_get (cond t (x ∷ filter p left) (filter p left)) 0)) f)

-- or it lies behind it
pub first_behind : {X Y : Type 0} (p : X → Bool) (make : X → Y) (x : X) (all left : List X) (o : Option Y)
    → all ≡ x ∷ left → p x ≡ false → o ≡ option_map make (slice_get (filter p all) 0)
    → o ≡ option_map make (slice_get (filter p left) 0)
first_behind {X} p make x all left o e f h =
    h
    ∙ (ap (λ (l : List X). option_map make (slice_get (filter p l) 0)) e
    ∙ ap (λ (t : Bool). option_map make (slice_get (cond t (x ∷ filter p left) (filter p left)) 0)) f)
