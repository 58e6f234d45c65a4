-- A job that is due was rerun as often as it was launched. So it has fewer launches than a count of four bytes can tell.
use Rattle.std.proofs.Common.{◌≡◌, ◌∷◌, ◌+◌, ◌<◌, ◌≤◌, ◌^◌, [], ℕ, Bool, List, None, Option, Some, arith, cond, length}
use Rattle.std.proofs.Common.{subst, sym, true}
use Rattle.std.proofs.lemmas.Bool.{ltb-true}
use Rattle.std.proofs.lemmas.List.Sums.{count_by-le-length, sum_by-cons}
use Rattle.std.specs.List.{cons_option}
use Rattle.std.specs.Prelude.{count_by, filter_map}
use Rattle.model.specs.Types.{Body, Cmd, Launched, Obeyed}
use Rattle.model.specs.Facts.{commands, is_due, is_launch_of, is_rerun_of, launches, obeyed_command, reruns}

small : (b : Bool) → cond b 1 0 ≤ 1
small true = omega arith
small _ = omega arith

-- an entry that is a launch obeys no command
one_entry : (j : ℕ) (b : Body) (cs : List Cmd)
    → cond (is_launch_of j b) 1 0 + count_by (is_rerun_of j) (cons_option (obeyed_command b) cs)
    ≤ 1 + count_by (is_rerun_of j) cs
one_entry j (Launched k n seen) cs = let a = small (is_launch_of j (Launched k n seen)) in omega arith
one_entry j (Obeyed a k c) cs =
    let first = small (is_rerun_of j c) in
    omega (arith, sum_by-cons (λ (d : Cmd). cond (is_rerun_of j d) 1 0) c cs)
one_entry j _ cs = omega arith

-- launches and reruns are entries apart from each other
both_held : (j : ℕ) (events : List Body) → launches j events + reruns j events ≤ length events
unfolding launches reruns commands
both_held j [] = omega arith
both_held j (b ∷ bs) =
    let here = one_entry j b (filter_map obeyed_command bs) in
    let rest : count_by (is_launch_of j) bs + count_by (is_rerun_of j) (filter_map obeyed_command bs) ≤ length bs =
    both_held j bs
    in
    omega (arith, sum_by-cons (λ (c : Body). cond (is_launch_of j c) 1 0) b bs)

due_reruns : (j : ℕ) (events : List Body) → is_due j events ≡ true → launches j events < 1 + reruns j events
unfolding is_due
due_reruns j events h = ltb-true (launches j events) (1 + reruns j events) h

-- the next launch of a job that is due has a number of four bytes
pub next_has_number : (j : ℕ) (events : List Body) → is_due j events ≡ true → length events < 2 ^ 32
    → 1 + launches j events < 2 ^ 32
next_has_number j events h few =
    let most = both_held j events in let due = due_reruns j events h in omega arith
