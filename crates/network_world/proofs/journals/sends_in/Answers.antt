use Rattle.std.proofs.Common.{◌≡◌, ◌∷◌, ◌+◌, ◌<◌, ◌∙◌, [], ℕ, List, ap, arith, cond, get_or, length, refl, sym, take}
use Rattle.std.proofs.lemmas.List.Sums.{sum_by-append}
use Rattle.std.specs.Prelude.{count_by}
use Rattle.model.specs.Types.{Out}
use Rattle.model.specs.World.{is_send}
use Rattle.network_world.proofs.Lists.{take_more}
use Rattle.network_world.proofs.Noting.{sends_end}
use Rattle.network_world.proofs.journals.sends_in.Goals as goal

sends_next : (outs : List Out) (i count more : ℕ) (out : Out) → i < length outs → out ≡ get_or outs i out
    → more ≡ count_by is_send (out ∷ []) → count ≡ count_by is_send (take i outs)
    → count + more ≡ count_by is_send (take (i + 1) outs)
sends_next outs i count more out h is one before =
    ap (λ (n : ℕ). n + more) before
    ∙ ap (λ (n : ℕ). count_by is_send (take i outs) + n) one
    ∙ sym (sum_by-append (λ (o : Out). cond (is_send o) 1 0) (take i outs) (out ∷ []))
    ∙ ap (count_by is_send) (sym (take_more outs i out h is))

pub loop-out-init : goal.loop-out-init
loop-out-init c = record { told = refl; few = omega arith }

pub loop-out-preserved : goal.loop-out-preserved
loop-out-preserved c =
    record {
      told =
          sends_next c.args.outs.now c.loop-out.out-index c.loop-out.count c.sends_by-count.result c.out-item.result
          (omega arith) c.out-item.is c.sends_by-count.ensures.value c.loop-out.invariant.told;
      few = omega (arith, c.loop-out.invariant.few, c.sends_by-count.ensures.few);
    }

pub returns : goal.returns
returns c =
    sends_end c.args.outs.now c.loop-out.out-index c.loop-out.count (omega arith) c.loop-out.invariant.told
