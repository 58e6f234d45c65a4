-- The units that an object asks for, one dependency further.
use Rattle.std.proofs.Common.{ℕ, ◌+◌, ◌<◌, ◌∷◌, ◌≡◌, Bool, List, Some, arith, cond, drop, false}
use Rattle.std.proofs.Common.{filter, length, not, refl, slice_get, suc, sum_by, true}
use Rattle.std.specs.Prelude.{if◌then◌else◌}
use Rattle.std.proofs.lemmas.List.Sums.{sum_by-cons}
use Rattle.lemmas.proofs.Lists.{first_left}
use Rattle.model.specs.Types.{Dep, Obj}
use Rattle.model.specs.Words.{nth}
use Rattle.model.specs.History.{View}
use Rattle.model.specs.Dependencies.{NumberedDep, deps, is_waived, numbered_deps, units, units_in, unwaived_deps}
use Rattle.owner_fold.specs.Holders.{units_at}

-- the units of these dependencies, which are numbered from n
abbrev pub units_from : View → ℕ → Obj → ℕ → List Dep → ℕ
units_from V r o n ds =
    sum_by (λ (p : NumberedDep). units_in r p.dep)
    (filter (λ (p : NumberedDep). not (is_waived V o p.number)) (numbered_deps n ds))

pub units_all : (V : View) (r : ℕ) (o : Obj) → units V r o ≡ units_from V r o 1 (deps V o)
unfolding units unwaived_deps
units_all V r o = refl

one_more : (V : View) (r : ℕ) (o : Obj) (n : ℕ) (d : Dep) (ds : List Dep) → nth (deps V o) n ≡ Some d
    → units_from V r o n (d ∷ ds) ≡ units_at V r o n + units_from V r o (n + 1) ds
one_more V r o n d ds h = rw h (go (is_waived V o n))
  where
    go : (b : Bool)
        → sum_by (λ (p : NumberedDep). units_in r p.dep)
        (cond (not b)
        (record { number = n; dep = d } ∷ filter (λ (p : NumberedDep). not (is_waived V o p.number))
        (numbered_deps (n + 1) ds))
        (filter (λ (p : NumberedDep). not (is_waived V o p.number)) (numbered_deps (n + 1) ds)))
        ≡ (if b then 0 else units_in r d) + units_from V r o (n + 1) ds
    go true = omega arith
    go false =
        sum_by-cons (λ (p : NumberedDep). units_in r p.dep) (record { number = n; dep = d })
        (filter (λ (p : NumberedDep). not (is_waived V o p.number)) (numbered_deps (n + 1) ds))

pub units_step : (V : View) (r : ℕ) (o : Obj) (i : ℕ) → i < length (deps V o)
    → units_from V r o (i + 1) (drop i (deps V o))
    ≡ units_at V r o (i + 1) + units_from V r o (i + 1 + 1) (drop (i + 1) (deps V o))
units_step V r o i h =
    let e : i + 1 ≡ suc i = omega arith in
    let f : (x : Dep) × ((drop i (deps V o) ≡ x ∷ drop (suc i) (deps V o)) × (slice_get (deps V o) i ≡ Some x)) =
    first_left (deps V o) i h
    in
    rw (e, f.1.0) (one_more V r o (suc i) f.0 (drop (suc i) (deps V o)) f.1.1)
