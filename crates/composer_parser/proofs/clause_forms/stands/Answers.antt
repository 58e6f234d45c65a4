use Rattle.std.proofs.Common.{rules, tests, not, true, Bool, [], ◌∷◌}
use Rattle.std.proofs.lemmas.Iterator.{YieldsList-from_slice}
use Rattle.std.proofs.lemmas.Iterator.Search.{any_from_yields_List}
use Rattle.composer_parser.specs.Clauses.{may_clause}
use Rattle.composer_parser.specs.Tokens.{spelled}
use Rattle.composer_parser.specs.declared.clauses.Clause.{Clause}
use Rattle.composer_parser.specs.declared.definitions.Lined.{Lined}
use Rattle.composer_parser.proofs.clause_forms.stands.Goals as goal

pub returns : goal.returns
returns c =
    let test : Lined Clause → Bool = λ d. not (may_clause true (d ∷ []) (spelled c.args.text.now c.args.token.now)) in
    any_from_yields_List test _ _ c.any.result c.any.ensures.ran (YieldsList-from_slice c.args.all.now cc)
    (λ x b q k. search (rules, tests))
