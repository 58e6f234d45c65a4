-- Numbers that are put one by one among ascending ones.
use Rattle.std.specs.Prelude.{[], ℕ, ◌∷◌, List}
use Rattle.model.specs.Words.{insert_once}

-- ascending numbers with these put among them, where they do not stand there already
abbrev pub with_all : List ℕ → List ℕ → List ℕ
with_all [] among = among
with_all (x ∷ xs) among = insert_once x (with_all xs among)
