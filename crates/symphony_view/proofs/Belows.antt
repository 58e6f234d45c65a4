-- One number more below a bound.
use Rattle.std.proofs.Common.{◌≡◌, ◌+◌, ◌++◌, ◌∷◌, ◌∙◌, [], ℕ, List, ap, flat_map, sym}
use Rattle.std.proofs.lemmas.Grind.{flat_map-append}
use Rattle.std.proofs.lemmas.List.{append-nil, append_assoc}
use Rattle.model_laws.proofs.Numbers.{below_more}
use Rattle.model.specs.Words.{below}

flat_below_more : {A : Type 0} (f : ℕ → List A) (n : ℕ)
    → flat_map f (below (n + 1)) ≡ flat_map f (below n) ++ f n
flat_below_more f n =
    ap (flat_map f) (below_more n) ∙ (flat_map-append f (below n) (n ∷ []) ∙ ap (λ l. flat_map f (below n) ++ l) (append-nil (f n)))

pub one_more : {A : Type 0} (f : ℕ → List A) (w : ℕ) (start before after : List A)
    → before ≡ start ++ flat_map f (below w) → after ≡ before ++ f w
    → after ≡ start ++ flat_map f (below (w + 1))
one_more f w start before after h k =
    k ∙ (ap (λ l. l ++ f w) h ∙ (append_assoc start (flat_map f (below w)) (f w)
    ∙ ap (λ l. start ++ l) (sym (flat_below_more f w))))
