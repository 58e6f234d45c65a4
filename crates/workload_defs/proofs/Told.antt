-- One fault is the first, and each is told in its own way.
use Rattle.std.proofs.Common.{◌≡◌, ℕ, ap, arith, inl, inr, refl}
use Rattle.composer_parser.specs.declared.Defs.{Defs}
use Rattle.definition_faults.specs.Faults.{IsFirstFault}
use Rattle.definition_faults.specs.Orders.{IsNoLater, fault, rank, told, told_kind}
use Rattle.definition_faults.specs.declared.DefFault.TheVariants as told_as
use Rattle.definition_faults.specs.declared.Fault.{Fault}
use Rattle.definition_faults.specs.declared.Kind.{Kind}
use Rattle.definition_faults.specs.declared.Kind.TheVariants.{Duplicate, UnknownName, OutOfRange, ForeignResource, FollowsCycle, Tree}

pub rank_tells : (k j : Kind) → rank k ≡ rank j → k ≡ j
rank_tells Duplicate Duplicate h = refl
rank_tells UnknownName UnknownName h = refl
rank_tells OutOfRange OutOfRange h = refl
rank_tells ForeignResource ForeignResource h = refl
rank_tells FollowsCycle FollowsCycle h = refl
rank_tells Tree Tree h = refl
rank_tells _ _ h = cc

one_order : (f g : Fault) → IsNoLater f g → IsNoLater g f → f ≡ g
one_order f g (inl h) (inl k) = absurd (omega (arith, h, k))
one_order f g (inl h) (inr k) = absurd (omega (arith, h, k.0))
one_order f g (inr h) (inl k) = absurd (omega (arith, h.0, k))
one_order f g (inr h) (inr k) =
    let lines : f.line ≡ g.line = h.0 in
    let kinds : f.kind ≡ g.kind = rank_tells f.kind g.kind (omega (arith, h.1, k.1)) in
    λ j. record { line = lines j; kind = kinds j }

pub one_first : (d : Defs) (f g : Fault) → IsFirstFault d f → IsFirstFault d g → f ≡ g
one_first d f g h k = one_order f g (h.1 g k.0) (k.1 f h.0)

kind_tells : (l m : ℕ) (k j : Kind) → told_kind l k ≡ told_kind m j → fault l k ≡ fault m j
kind_tells l m Duplicate Duplicate h = let e : l ≡ m = cc in ap (λ n. fault n Duplicate) e
kind_tells l m UnknownName UnknownName h = let e : l ≡ m = cc in ap (λ n. fault n UnknownName) e
kind_tells l m OutOfRange OutOfRange h = let e : l ≡ m = cc in ap (λ n. fault n OutOfRange) e
kind_tells l m ForeignResource ForeignResource h = let e : l ≡ m = cc in ap (λ n. fault n ForeignResource) e
kind_tells l m FollowsCycle FollowsCycle h = let e : l ≡ m = cc in ap (λ n. fault n FollowsCycle) e
kind_tells l m Tree Tree h = let e : l ≡ m = cc in ap (λ n. fault n Tree) e
kind_tells l m _ _ h = cc

-- what is told tells the fault
pub told_tells : (f g : Fault) → told f ≡ told g → f ≡ g
told_tells f g h = kind_tells f.line g.line f.kind g.kind h

kind_no_room : (l : ℕ) (k : Kind) → told_kind l k ≡ told_as.NoMemory → ⊥
kind_no_room l Duplicate h = cc
kind_no_room l UnknownName h = cc
kind_no_room l OutOfRange h = cc
kind_no_room l ForeignResource h = cc
kind_no_room l FollowsCycle h = cc
kind_no_room l Tree h = cc

-- and is never that there is no memory
pub told_no_room : (f : Fault) → told f ≡ told_as.NoMemory → ⊥
told_no_room f h = kind_no_room f.line f.kind h
