use Rattle.std.proofs.Common.{◌≡◌, ◌++◌, codes, drop, flat_map, false}
use Rattle.composer_print.specs.Texts.{texts_from}
use Rattle.composer_print.specs.Steps.{keyword_of, texts_of}
use Rattle.composer_print.proofs.joined.write_joined.Given as goal

abbrev pub invariant-loop-clause : goal.invariant-loop-clause
invariant-loop-clause l =
    l.initial.out.items
    ++ texts_from (codes ", ") (keyword_of l.kind) false (flat_map (texts_of l.kind l.jobs l.home l.own) l.clauses)
    ≡ l.out.items
    ++ texts_from (codes ", ") (keyword_of l.kind) l.begun (flat_map (texts_of l.kind l.jobs l.home l.own) (drop l.clause-index l.clauses))
