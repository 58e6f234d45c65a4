use Rattle.std.proofs.Common.{ap, arith, sym, ◌∙◌, ◌||◌, List, Bor, ℕ}
use Rattle.std.specs.Str.{bytes_eq}
use Rattle.composer_print.specs.Steps.{has_key}
use Rattle.composer_print.proofs.Named.{entry_more}
use Rattle.composer_print.proofs.jobs.names_of.Goals as goal

pub loop-entry-init : goal.loop-entry-init
loop-entry-init c = λ n. ap (λ (ks : List (Bor (List ℕ))). has_key ks n) c.new-names.ensures.empty

pub loop-entry-preserved : goal.loop-entry-preserved
loop-entry-preserved c =
    λ n.
    c.in_ok-put_name.ensures n
    ∙ ap (λ t. t || bytes_eq n c.entry-item.result.item.name) (c.loop-entry.invariant n)
    ∙ sym (entry_more c.args.entries.now c.loop-entry.entry-index c.entry-item.result n (omega arith) c.entry-item.is)
