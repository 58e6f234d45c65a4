use Rattle.std.proofs.Common.{◌≡◌, ◌<◌, ◌==◌, ℕ, false, length, refl, sym, ◌∙◌, arith}
use Rattle.std.proofs.lemmas.Bool.Decides.{nat_tests}
use Rattle.composer_parser.proofs.Parsings.{some_left}
use Rattle.composer_parser.proofs.parsing.finish.Goals as goal

some_there : (n : ℕ) → (n == 0) ≡ false → 0 < n
some_there n h = grind (arith, nat_tests)

pub returns : goal.returns
returns c =
    some_left c.args.last_line c.args.text.now c.args.tokens.now c.args.found c.args.rest.now (length c.args.rest.now) c.fault.result
    c.requires (some_there _ (sym c.is_empty.ensures ∙ c.if-is_empty.false)) refl c.fault.ensures
