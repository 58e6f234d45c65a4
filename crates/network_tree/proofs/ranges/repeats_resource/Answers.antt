use Rattle.std.proofs.Common.{◌≡◌, ℕ, Bor, List, arith, false, subst, sym, true}
use Rattle.std.specs.List.{list_any}
use Rattle.network_tree.proofs.Keys.{are_one_key, Seen, seen_all, seen_more, seen_none, seen_twice}
use Rattle.network_tree.proofs.Keys.{key_of, resource_key, was_absent, was_there}
use Rattle.network_tree.proofs.ranges.repeats_resource.Goals as goal

pub loop-resource-init : goal.loop-resource-init
loop-resource-init c =
    subst (λ (ks : List (ℕ × Bor (List ℕ))). Seen key_of resource_key are_one_key ks c.args.resources.now 0)
    (sym c.new-seen.ensures.empty) (seen_none key_of resource_key are_one_key c.args.resources.now)

pub returns-in-Ok-false : goal.returns-in-Ok-false
returns-in-Ok-false c =
    let ks = c.loop-resource.seen.keys in
    let key : key_of c.key.result ≡ resource_key c.resource-item.result =
    λ j. (c.key.ensures.ws j, c.key.ensures.name j) in
    let there : list_any (λ (l : ℕ × Bor (List ℕ)). are_one_key (key_of c.key.result) (key_of l)) ks ≡ true =
    was_there _ c.in-Ok-false.field-0 c.in-Ok-false.ensures.added c.in-Ok-false.field-0-test in
    sym (seen_twice key_of resource_key are_one_key ks c.args.resources.now c.loop-resource.resource-index
    c.key.result c.resource-item.result c.loop-resource.invariant (omega arith) c.resource-item.is key there)

pub loop-resource-preserved : goal.loop-resource-preserved
loop-resource-preserved c =
    let ks = c.loop-resource.seen.keys in
    let key : key_of c.key.result ≡ resource_key c.resource-item.result =
    λ j. (c.key.ensures.ws j, c.key.ensures.name j) in
    let absent : list_any (λ (l : ℕ × Bor (List ℕ)). are_one_key (key_of c.key.result) (key_of l)) ks ≡ false =
    was_absent _ c.in-Ok-true.field-0 c.in-Ok-true.ensures.added c.in-Ok-true.field-0-test in
    seen_more key_of resource_key are_one_key ks c.insert.new.self.keys c.args.resources.now
    c.loop-resource.resource-index c.key.result c.resource-item.result c.loop-resource.invariant (omega arith)
    c.resource-item.is key absent c.in-Ok-true.ensures.keys

pub returns : goal.returns
returns c =
    sym (seen_all key_of resource_key are_one_key c.loop-resource.seen.keys c.args.resources.now
    c.loop-resource.resource-index c.loop-resource.invariant (omega arith))
