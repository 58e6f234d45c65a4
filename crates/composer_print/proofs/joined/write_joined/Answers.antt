use Rattle.std.proofs.Common.{arith, codes}
use Rattle.composer_print.specs.Steps.{joined_text, keyword_of, texts_of}
use Rattle.composer_print.proofs.Lists.{joined_all, joined_more}
use Rattle.composer_print.proofs.joined.write_joined.Goals as goal

pub loop-clause-preserved : goal.loop-clause-preserved
loop-clause-preserved c =
    joined_more (texts_of c.args.kind c.args.jobs.now c.args.home.now c.args.own.now) (codes ", ") (keyword_of c.args.kind) _ _ _
    c.loop-clause.begun c.in_ok-begun.begun c.args.clauses.now c.loop-clause.clause-index c.clause-item.result (omega arith)
    c.clause-item.is c.in_ok-begun.ensures.text c.in_ok-begun.ensures.begun c.loop-clause.invariant

pub returns : goal.returns
unfolding joined_text
returns c =
    joined_all (texts_of c.args.kind c.args.jobs.now c.args.home.now c.args.own.now) (codes ", ") (keyword_of c.args.kind) _ _
    c.loop-clause.begun c.args.clauses.now c.loop-clause.clause-index c.loop-clause-test.false c.loop-clause.invariant
