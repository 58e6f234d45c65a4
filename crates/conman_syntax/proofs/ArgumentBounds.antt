-- How far a command word and an argument go, and that the line may be cut there.
use Rattle.std.proofs.Common.{◌≡◌, ◌≢◌, ◌≤◌, ◌<◌, ◌+◌, suc, ℕ, Bool, true, false, cond, eqb, List, [], ◌∷◌}
use Rattle.std.proofs.Common.{length, get_or, refl, arith, ap}
use Rattle.std.specs.List.{position_or_len}
use Rattle.std.specs.Str.{IsCharBoundary}
use Rattle.std.proofs.lemmas.List.Sums.{passes_at_first, prefix_len-le-length}
use Rattle.std.proofs.lemmas.Bool.Decides.{nat_tests}
use Rattle.conman_syntax.specs.Arguments.{argument_length, ends_argument, ends_word, past, argument_behind, left_behind}
use Rattle.conman_syntax.specs.declared.arguments.Quoting.{Quoting}
use Rattle.conman_syntax.specs.declared.arguments.Quoting.TheVariants.{Outside, Inside, Guarded}

step_le : (t : Bool) (n m : ℕ) → n ≤ m → cond t 0 (1 + n) ≤ suc m
step_le true n m h = omega arith
step_le false n m h = omega arith

-- an argument ends within its text
argument_length_le : (q : Quoting) (text : List ℕ) → argument_length q text ≤ length text
argument_length_le q [] = omega arith
argument_length_le q (b ∷ bs) =
    step_le (ends_argument q b) (argument_length (past q b) bs) (length bs) (argument_length_le (past q b) bs)

ends_at_mark : (q : Quoting) (b : ℕ) → ends_argument q b ≡ true → b ≡ 59
ends_at_mark Outside b h = grind (arith, nat_tests)
ends_at_mark Inside b h = cc
ends_at_mark Guarded b h = cc

step_at : (t : Bool) (b n : ℕ) (bs : List ℕ) → (t ≡ true → b ≡ 59) → (n < length bs → get_or bs n 0 ≡ 59)
    → cond t 0 (1 + n) < suc (length bs) → get_or (b ∷ bs) (cond t 0 (1 + n)) 0 ≡ 59
step_at true b n bs e r h = e refl
step_at false b n bs e r h = let one : 1 + n ≡ suc n = omega arith in rw one (r (omega (arith, h)))

-- before the text's end it is a `;` that ends it
argument_ends_at : (q : Quoting) (text : List ℕ) → argument_length q text < length text
    → get_or text (argument_length q text) 0 ≡ 59
argument_ends_at q [] h = absurd (omega (arith, h))
argument_ends_at q (b ∷ bs) h =
    step_at (ends_argument q b) b (argument_length (past q b) bs) bs (ends_at_mark q b)
    (argument_ends_at (past q b) bs) h

pub argument_boundary : (text : List ℕ) (n : ℕ) → n ≡ argument_length Outside text → IsCharBoundary text n
argument_boundary text n e =
    let le = argument_length_le Outside text in
    let ends = argument_ends_at Outside text in
    rw e (le, λ lt big. absurd (omega (arith, ends lt, big)))

word_ends_at : (b : ℕ) → ends_word b ≡ true → b < 128
word_ends_at b h = grind (arith, nat_tests)

pub word_boundary : (line : List ℕ) (n : ℕ) → n ≡ position_or_len ends_word line → IsCharBoundary line n
word_boundary line n e =
    let le : position_or_len ends_word line ≤ length line = prefix_len-le-length _ line in
    let ends : position_or_len ends_word line < length line → get_or line (position_or_len ends_word line) 0 < 128 =
    λ lt. word_ends_at _ (passes_at_first ends_word line 0 lt) in
    rw e (le, λ lt big. absurd (omega (arith, ends lt, big)))

-- a text that does not begin with the mark
pub no_mark : (mark : ℕ) (left : List ℕ) → 0 < mark → ((rest : List ℕ) → left ≢ mark ∷ rest)
    → eqb (get_or left 0 0) mark ≡ false
no_mark mark [] pos h = grind (arith, nat_tests)
no_mark mark (b ∷ bs) pos h =
    let other : b ≢ mark = λ e. h bs (ap (λ x. x ∷ bs) e) in grind (arith, nat_tests)

pub no_argument : (mark : ℕ) (left : List ℕ) → eqb (get_or left 0 0) mark ≡ false → [] ≡ argument_behind mark left
unfolding argument_behind
no_argument mark left h = rw h refl

pub all_left : (mark : ℕ) (left : List ℕ) → eqb (get_or left 0 0) mark ≡ false → left ≡ left_behind mark left
unfolding left_behind
all_left mark left h = rw h refl
