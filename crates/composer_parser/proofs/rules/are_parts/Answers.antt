use Rattle.std.proofs.Common.{rules, tests, sym, ◌∙◌, ℕ, Bool, List, Bor}
use Rattle.std.proofs.lemmas.Iterator.{YieldsList-from_slice}
use Rattle.std.proofs.lemmas.Iterator.Search.{all_from_yields_List}
use Rattle.std.proofs.lemmas.List.Folds.{list_all-map}
use Rattle.composer_parser.specs.Rules as spec
use Rattle.composer_parser.proofs.rules.are_parts.Goals as goal

pub returns : goal.returns
returns c =
    let now : Bor (List ℕ) → List ℕ = λ p. p.now in
    let test : Bor (List ℕ) → Bool = λ p. spec.is_part (now p) in
    all_from_yields_List test _ _ c.all.result c.all.ensures.ran (YieldsList-from_slice c.args.parts.now cc)
    (λ x b q k. search (rules, tests))
    ∙ sym (list_all-map (spec.is_part) now c.args.parts.now)
