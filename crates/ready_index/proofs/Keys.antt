-- The keys of a set of numbers.
use Rattle.std.proofs.Common.{[], ℕ, ◌∷◌, ◌≡◌, ◌<◌, Less, List, arith, refl}
use Rattle.std.proofs.lemmas.Bool.Decides.{nat_tests}
use Rattle.std.proofs.lemmas.Map.Keys.{sorted_head, sorted_tail}
use Rattle.std.specs.List.Sorted.{IsStrictlySortedBy}
use Rattle.std.specs.Ordering.{nat_cmp}
use Rattle.std.specs.Prelude.{◌==◌}
use Rattle.std.specs.Set.{remove_key}
use Rattle.std.specs.BTreeMap.{is_at}
use Rattle.ready_index.specs.Lists.{InOrder, without}
use Rattle.ready_index.proofs.Elements.{all_among}

same_key : (k x : ℕ) → is_at (nat_cmp k) x ≡ (k == x)
same_key k x = grind (arith, nat_tests)

-- and takes one out as they do
pub key_taken : (ks : List ℕ) (k : ℕ) → remove_key (is_at (nat_cmp k)) ks ≡ without k ks
key_taken [] k = refl
key_taken (x ∷ xs) k = rw (same_key k x, key_taken xs k) refl

below_each : (x y : ℕ) → nat_cmp x y ≡ Less → x < y
below_each x y h = grind (arith, nat_tests)

-- its keys ascend
pub keys_ascend : (ks : List ℕ) → IsStrictlySortedBy nat_cmp ks → InOrder ◌<◌ ks
keys_ascend [] h = tt
keys_ascend (x ∷ xs) h = (
  λ y k. below_each x y (all_among (λ y. nat_cmp x y ≡ Less) xs y (sorted_head nat_cmp x xs h) k),
  keys_ascend xs (sorted_tail nat_cmp x xs h),
)
