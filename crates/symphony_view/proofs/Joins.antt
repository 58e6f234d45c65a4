-- Two pieces put one after the other.
use Rattle.std.proofs.Common.{◌≡◌, ◌++◌, ◌∙◌, List, ap}
use Rattle.std.proofs.lemmas.List.{append_assoc}

pub joined : {A : Type 0} (start a b between after : List A) → between ≡ start ++ a → after ≡ between ++ b
    → after ≡ start ++ (a ++ b)
joined start a b between after h k = k ∙ (ap (λ l. l ++ b) h ∙ append_assoc start a b)
