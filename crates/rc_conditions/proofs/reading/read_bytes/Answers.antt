use Rattle.std.proofs.Common.{◌≡◌, ◌-◌, ap, length, take, drop, arith}
use Rattle.std.proofs.lemmas.List.{take_all, length-drop}
use Rattle.rc_conditions.specs.Machine.{read, read_of}
use Rattle.rc_conditions.specs.Tokens.{tokens_behind, placed_tokens}
use Rattle.rc_conditions.proofs.Walks.{read_more}
use Rattle.rc_conditions.proofs.reading.read_bytes.Goals as goal

pub loop-at-init : goal.loop-at-init
unfolding placed_tokens
loop-at-init c =
    record {
      answer = ap (λ r. read r (tokens_behind 0 0 c.args.text.now) (length c.args.text.now)) c.new-reader.ensures;
      within = omega arith;
    }

pub loop-at-preserved : goal.loop-at-preserved
loop-at-preserved c =
    let text = c.args.text.now in
    let at = c.loop-at.at in
    let w = c.width-end.ensures in
    let long = length-drop at text in
    let whole : take (length text - at) (drop at text) ≡ drop at text =
    take_all (length text - at) (drop at text) (omega (arith, long)) in
    let same = ap length whole in
    record {
      answer =
          read_more c.loop-at.reader c.in-Some.next c.in_ok-next.field-0 text (take (length text - at) (drop at text))
          c.token_of.result at c.width-end.result (length text) (read_of text) whole
          (omega (arith, same, long, c.loop-at-test.true)) c.if-is_blank.ensures w.value w.some w.within
          c.token_of.ensures c.in_ok-next.ensures c.in-Some.is c.loop-at.invariant.answer;
      within = omega (arith, same, long, w.within);
    }
