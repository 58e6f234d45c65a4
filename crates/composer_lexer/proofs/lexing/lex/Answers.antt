use Rattle.std.proofs.Common.{arith, inl, sym, ap, ◌∙◌, Err}
use Rattle.composer_lexer.specs.Tokens.{tokens_of}
use Rattle.composer_lexer.proofs.Walks.{line_further, space_further, piece_further, bad_here, none_found}
use Rattle.composer_lexer.proofs.lexing.lex.Goals as goal

pub loop-at-init : goal.loop-at-init
loop-at-init c = record {
  same = none_found c.new-found.result c.args.bytes.now c.new-found.ensures;
  room = omega arith;
  lines = omega arith;
}

pub loop-at-preserved-in-LineEnd : goal.loop-at-preserved-in-LineEnd
loop-at-preserved-in-LineEnd c = record {
  same =
      line_further c.loop-at.found c.loop-at.line c.loop-at.first c.loop-at.at c.args.bytes.now c.from-rest.result.now
      (tokens_of c.args.bytes.now) c.from-rest.ensures.value (omega (arith, c.from-rest.ensures.count))
      (sym c.in-LineEnd.ensures.value) c.loop-at.invariant.same;
  room = omega (arith, c.from-rest.ensures.count);
  lines = omega arith;
}

pub loop-at-preserved-in-Space : goal.loop-at-preserved-in-Space
loop-at-preserved-in-Space c = record {
  same =
      space_further c.loop-at.found c.loop-at.line c.loop-at.first c.loop-at.at c.in-Space.width c.args.bytes.now
      c.from-rest.result.now (tokens_of c.args.bytes.now) c.from-rest.ensures.value c.in-Space.ensures.within.0
      c.in-Space.ensures.within.1 (sym c.in-Space.ensures.value) c.loop-at.invariant.same;
  room = omega (arith, c.from-rest.ensures.count, c.in-Space.ensures.within.1);
  lines = omega arith;
}

pub loop-at-preserved : goal.loop-at-preserved
loop-at-preserved c = record {
  same =
      piece_further c.loop-at.found c.push.new.self c.loop-at.line c.loop-at.first c.loop-at.at c.in-Piece.width
      c.in-Piece.kind c.args.bytes.now c.from-rest.result.now (tokens_of c.args.bytes.now) c.from-rest.ensures.value
      c.in-Piece.ensures.within.0 c.in-Piece.ensures.within.1 (sym c.in-Piece.ensures.value)
      c.in_ok-push-in-Piece.ensures.ok c.loop-at.invariant.same;
  room = omega (arith, c.from-rest.ensures.count, c.in-Piece.ensures.within.1);
  lines = omega arith;
}

pub returns-in-Bad : goal.returns-in-Bad
returns-in-Bad c =
    inl (ap (λ e. Err e) c.fault_at.ensures
    ∙ bad_here c.loop-at.found c.loop-at.line c.loop-at.first c.loop-at.at c.in-Bad.trouble c.args.bytes.now
    c.from-rest.result.now (tokens_of c.args.bytes.now) c.from-rest.ensures.value
    (omega (arith, c.from-rest.ensures.count)) (sym c.in-Bad.ensures.value) c.loop-at.invariant.same)
