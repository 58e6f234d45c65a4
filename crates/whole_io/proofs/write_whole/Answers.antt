use Rattle.std.proofs.Common.{take, drop, sym, arith, rules}
use Rattle.std.proofs.KnownBytes.{Appends-trans, Appends-kept}
use Rattle.std.proofs.Math.Seq.{take-add}
use Rattle.std.proofs.lemmas.List.{take-append-drop, take_rest}
use Rattle.std.proofs.lemmas.Result.{err_from_is_err_and}
use Rattle.whole_io.proofs.write_whole.Goals as goal

pub returns-in_err-at-clause-front : goal.returns-in_err-at-clause-front
returns-in_err-at-clause-front g c =
    let failed = err_from_is_err_and c.from_residual.result c.from_residual.ensures.1 in
    let text = c.args.text.now in
    let at = c.loop-at.at in
    let kept = Appends-kept _ _ _ _ c.loop-at.invariant.written c.in_err-at.ensures.taken in
    rw failed.1 (take at text, drop at text, sym (take-append-drop at text), kept)

pub loop-at-preserved : goal.loop-at-preserved
loop-at-preserved g c = record {
  written =
      let taken = rw take_rest at c.in_ok-at.ensures.taken in
      rw (take-add c.loop-at.at c.in_ok-at.field-0 c.args.text.now)
      (Appends-trans _ _ _ _ _ c.loop-at.invariant.written taken);
  within = grind arith;
  quiet = search rules;
}
