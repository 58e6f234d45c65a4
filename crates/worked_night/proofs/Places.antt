-- What is asked of each member of a list, by those before it and those behind it.
use Rattle.std.proofs.Common.{[], ◌++◌, ◌≡◌, ◌∙◌, ◌∷◌, List, ap, append-nil, append_assoc, subst, sym}
use Rattle.lemmas.proofs.Lists.{no_middle, same_head, same_tail}

module _ {X : Type 0} (Meets : List X → X → List X → Type 0) where
  abbrev pub AllMeet : List X → List X → Type 0
  AllMeet before [] = Unit {0}
  AllMeet before (one ∷ behind) = Meets before one behind × AllMeet (before ++ one ∷ []) behind

  pub meets_at : (before rest front back : List X) (one : X) → AllMeet before rest → rest ≡ front ++ one ∷ back
      → Meets (before ++ front) one back
  meets_at before [] front back one all is = absurd (no_middle front back one is)
  meets_at before (first ∷ rest) [] back one all is =
      subst (λ (x : X). Meets (before ++ []) x back) (same_head is)
      (subst (λ (l : List X). Meets (before ++ []) first l) (same_tail is)
      (subst (λ (l : List X). Meets l first rest) (sym (append-nil before)) all.0))
  meets_at before (first ∷ rest) (another ∷ front) back one all is =
      subst (λ (l : List X). Meets l one back)
      (append_assoc before (first ∷ []) front ∙ ap (λ (x : X). before ++ x ∷ front) (same_head is))
      (meets_at (before ++ first ∷ []) rest front back one all.1 (same_tail is))
