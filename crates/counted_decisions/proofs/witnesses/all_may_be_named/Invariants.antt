use Rattle.std.proofs.Common.{ℕ, ◌≡◌, drop}
use Rattle.std.specs.List.{list_all}
use Rattle.counted_decisions.specs.Named.{may_name}
use Rattle.counted_decisions.proofs.witnesses.all_may_be_named.Given as goal

abbrev pub invariant-loop-v : goal.invariant-loop-v
invariant-loop-v l =
    list_all (λ (p : ℕ × ℕ). may_name l.named l.fn.w p.0) l.seen
    ≡ list_all (λ (p : ℕ × ℕ). may_name l.named l.fn.w p.0) (drop l.v-index l.v-items)
