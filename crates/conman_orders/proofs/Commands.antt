-- The rows that a text or a stream may be too long for do not say that a line gives no command.
use Rattle.std.proofs.Common.{◌≡◌, ℕ, Err, List, None, Ok, Option, Some, option_and_then}
use Rattle.conman_syntax.specs.declared.lines.DepRef.{DepRef}
use Rattle.conman_syntax.specs.declared.lines.ObjRef.{ObjRef}
use Rattle.model.specs.Types.{AddDep, DelDep, Net, Obj, Submit}
use Rattle.model.specs.History.{View}
use Rattle.conman_orders.specs.Equals.{first_equal}
use Rattle.conman_orders.specs.Names.{dep_named, workstation}
use Rattle.conman_orders.specs.Orders.{Answer, add_dep, del_dep, known, owned_object, submit, submitted}
use Rattle.conman_orders.specs.declared.orders.ResolveFault.TheVariants.{NotACommand}

known_gives : {A : Type 0} (n : ℕ) (o : Option A) (then_ : A → Answer) → ((a : A) → then_ a ≡ Err NotACommand → ⊥)
    → known n o then_ ≡ Err NotACommand → ⊥
known_gives n None then_ h e = cc
known_gives n (Some a) then_ h e = h a e

pub add_dep_gives : (net : Net) (V : View) (me : ℕ) (r : ObjRef) (dep : DepRef)
    → add_dep net V me r dep ≡ Err NotACommand → ⊥
unfolding add_dep
add_dep_gives net V me r dep =
    known_gives 1 (owned_object net V me r)
    (λ (q : ℕ × Obj). known 2 (dep_named net V me dep) (λ d. Ok (q.0, AddDep q.1 d)))
    (λ q. known_gives 2 (dep_named net V me dep) (λ d. Ok (q.0, AddDep q.1 d)) (λ d e. cc))

pub del_dep_gives : (net : Net) (V : View) (me : ℕ) (r : ObjRef) (dep : DepRef)
    → del_dep net V me r dep ≡ Err NotACommand → ⊥
unfolding del_dep
del_dep_gives net V me r dep =
    known_gives 1 (owned_object net V me r)
    (λ (q : ℕ × Obj).
    known 2 (option_and_then (first_equal V q.1) (dep_named net V me dep)) (λ i. Ok (q.0, DelDep q.1 i)))
    (λ q.
    known_gives 2 (option_and_then (first_equal V q.1) (dep_named net V me dep)) (λ i. Ok (q.0, DelDep q.1 i))
    (λ i e. cc))

pub submit_gives : (net : Net) (ws text : List ℕ) (alias : Option (List ℕ)) (priority : Option ℕ)
    → submit net ws text alias priority ≡ Err NotACommand → ⊥
unfolding submit
submit_gives net ws text alias priority =
    known_gives 1 (workstation net ws) (λ w. Ok (0, Submit (submitted w text alias priority))) (λ w e. cc)

-- of all of them
pub ruleset rows_give = (add_dep_gives, del_dep_gives, submit_gives)
