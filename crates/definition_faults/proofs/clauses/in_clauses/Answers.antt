use Rattle.std.proofs.Common.{◌∙◌, ap, arith, refl}
use Rattle.std.specs.Option.{option_copied}
use Rattle.model.specs.Words.{first_of_these}
use Rattle.definition_faults.specs.Clauses.{clause_rows, passes}
use Rattle.definition_faults.proofs.Counts.{count_more, passes_is}
use Rattle.definition_faults.proofs.Loops.{table_more}
use Rattle.definition_faults.proofs.clauses.in_clauses.Goals as goal

pub loop-clause-preserved : goal.loop-clause-preserved
loop-clause-preserved c =
    let d = c.args.names.now in
    let cs = c.args.clauses.now in
    let i = c.loop-clause.clause-index in
    let x = c.clause-item.result in
    let own = option_copied c.args.ws in
    let counted =
    count_more cs i x c.loop-clause.before c.dependency_count.result c.with_more-count.result (omega arith)
    c.clause-item.is c.loop-clause.invariant.counted c.dependency_count.ensures c.with_more-count.ensures in
    let passed =
    passes_is cs i c.loop-clause.before c.with_more-count.result c.passes_most-passes.result
    c.passes_most-passes.ensures c.loop-clause.invariant.counted counted in
    record {
      counted = counted;
      found =
          table_more (λ n y. clause_rows d c.args.stream c.args.inside own (passes cs n) y) cs i x _ c.loop-clause.first
          c.noted-first.result c.of_clause.result (omega arith) c.clause-item.is refl
          (c.of_clause.ensures
          ∙ ap (λ b. first_of_these (clause_rows d c.args.stream c.args.inside own b x.item)) passed)
          c.noted-first.ensures c.loop-clause.invariant.found;
    }
