use Rattle.std.proofs.Common.{◌<◌, ◌∙◌, ℕ, List, Bor, ap, arith, length, sym}
use Rattle.std.specs.Prelude.{Ok}
use Rattle.history_script.proofs.Walks.{size_on, step_on}
use Rattle.history_script.proofs.found.read_rows.Goals as goal

pub loop-i-preserved : goal.loop-i-preserved
loop-i-preserved c =
    let here : c.loop-i.i < length c.args.texts.now = omega arith in
    record {
      read =
          step_on (λ (x : Bor (List ℕ)). x.now) c.args.net.now c.args.texts.now c.loop-i.i _ c.loop-i.found
          c.take_line.new.found here c.loop-i.invariant.read (sym c.in_ok-kind.ensures.fault ∙ c.in-None.is)
          (c.in_ok-kind.ensures.taken (ap (λ o. Ok o) c.in-None.is));
      fit = c.in_ok-kind.ensures.fit c.loop-i.invariant.fit;
      short = size_on (λ (x : Bor (List ℕ)). x.now) c.args.texts.now c.loop-i.i c.loop-i.invariant.short;
    }
