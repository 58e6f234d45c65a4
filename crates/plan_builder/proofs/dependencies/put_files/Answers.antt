use Rattle.std.proofs.Common.{◌++◌, ◌∙◌, ap, map}
use Rattle.plan_builder.specs.Dependencies.{file_of, files_in}
use Rattle.plan_builder.proofs.Walks.{lists_more}
use Rattle.plan_builder.proofs.dependencies.put_files.Goals as goal

pub loop-clause-preserved : goal.loop-clause-preserved
loop-clause-preserved c =
    lists_more files_in c.args.clauses.now c.loop-clause.clause-index c.clause-item.result _
    c.loop-clause.deps c.put_paths.new.deps c.loop-clause-test.true c.clause-item.is
    (c.in_ok-put_paths.ensures ∙ ap (λ l. c.loop-clause.deps ++ map file_of l) c.paths_of.ensures)
    c.loop-clause.invariant
