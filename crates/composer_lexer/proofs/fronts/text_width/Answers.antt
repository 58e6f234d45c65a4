use Rattle.std.proofs.Common.{arith, ap, sym, ◌∙◌, get_or, List, ℕ}
use Rattle.composer_lexer.specs.Tokens.{char_width}
use Rattle.composer_lexer.proofs.Widths.{at_quote, at_feed, at_end, at_more}
use Rattle.composer_lexer.proofs.fronts.text_width.Goals as goal

pub returns-then-rest-eq34-clause-value : goal.returns-then-rest-eq34-clause-value
returns-then-rest-eq34-clause-value c =
    at_quote c.args.bytes.now c.loop-at.at c.loop-at.value c.loop-at-test.true
    (ap (λ (zs : List ℕ). get_or zs 0 0) (sym c.from-rest.ensures.value) ∙ c.if-rest-eq34.true) c.loop-at.invariant.same

pub returns-then-rest-eq10-clause-value : goal.returns-then-rest-eq10-clause-value
returns-then-rest-eq10-clause-value c =
    at_feed c.args.bytes.now c.loop-at.at c.loop-at.value c.loop-at-test.true
    (ap (λ (zs : List ℕ). get_or zs 0 0) (sym c.from-rest.ensures.value) ∙ c.if-rest-eq10.true) c.loop-at.invariant.same

pub loop-at-preserved : goal.loop-at-preserved
loop-at-preserved c = record {
  same =
      at_more c.args.bytes.now c.loop-at.at c.loop-at.value c.char_width-at.result c.loop-at-test.true
      (c.char_width-at.ensures.value ∙ ap (λ (zs : List ℕ). char_width zs) c.from-rest.ensures.value)
      (λ e. c.if-rest-eq34.false (ap (λ (zs : List ℕ). get_or zs 0 0) c.from-rest.ensures.value ∙ e))
      (λ e. c.if-rest-eq10.false (ap (λ (zs : List ℕ). get_or zs 0 0) c.from-rest.ensures.value ∙ e))
      c.loop-at.invariant.same;
  room = omega (arith, c.char_width-at.ensures.within, c.from-rest.ensures.count);
  few = omega (arith, c.char_width-at.ensures.some);
}

pub returns-clause-value : goal.returns-clause-value
returns-clause-value c =
    at_end c.args.bytes.now c.loop-at.at c.loop-at.value c.loop-at-test.false c.loop-at.invariant.same
