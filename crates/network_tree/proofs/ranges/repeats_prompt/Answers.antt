use Rattle.std.proofs.Common.{◌≡◌, ℕ, Bor, List, arith, bytes_eq, false, subst, sym, true}
use Rattle.std.specs.List.{list_any}
use Rattle.network_tree.proofs.Keys.{Seen, seen_all, seen_more, seen_none, seen_twice}
use Rattle.network_tree.proofs.Keys.{prompt_name, text_of, was_absent, was_there}
use Rattle.network_tree.proofs.ranges.repeats_prompt.Goals as goal

pub loop-prompt-init : goal.loop-prompt-init
loop-prompt-init c =
    subst (λ (ks : List (Bor (List ℕ))). Seen text_of prompt_name bytes_eq ks c.args.prompts.now 0)
    (sym c.new-seen.ensures.empty) (seen_none text_of prompt_name bytes_eq c.args.prompts.now)

pub returns-in-Ok-false : goal.returns-in-Ok-false
returns-in-Ok-false c =
    let ks = c.loop-prompt.seen.keys in
    let there : list_any (λ (l : (Bor (List ℕ))). bytes_eq (text_of c.name.result) (text_of l)) ks ≡ true =
    was_there _ c.in-Ok-false.field-0 c.in-Ok-false.ensures.added c.in-Ok-false.field-0-test in
    sym (seen_twice text_of prompt_name bytes_eq ks c.args.prompts.now c.loop-prompt.prompt-index c.name.result
    c.prompt-item.result c.loop-prompt.invariant (omega arith) c.prompt-item.is c.name.ensures there)

pub loop-prompt-preserved : goal.loop-prompt-preserved
loop-prompt-preserved c =
    let ks = c.loop-prompt.seen.keys in
    let absent : list_any (λ (l : (Bor (List ℕ))). bytes_eq (text_of c.name.result) (text_of l)) ks ≡ false =
    was_absent _ c.in-Ok-true.field-0 c.in-Ok-true.ensures.added c.in-Ok-true.field-0-test in
    seen_more text_of prompt_name bytes_eq ks c.insert.new.self.keys c.args.prompts.now c.loop-prompt.prompt-index
    c.name.result c.prompt-item.result c.loop-prompt.invariant (omega arith) c.prompt-item.is c.name.ensures absent
    c.in-Ok-true.ensures.keys

pub returns : goal.returns
returns c =
    sym (seen_all text_of prompt_name bytes_eq c.loop-prompt.seen.keys c.args.prompts.now c.loop-prompt.prompt-index
    c.loop-prompt.invariant (omega arith))
