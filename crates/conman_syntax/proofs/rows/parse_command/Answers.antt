use Rattle.std.proofs.Common.{◌∙◌, sym}
use Rattle.conman_syntax.proofs.Fits.{answer_fits}
use Rattle.conman_syntax.proofs.rows.parse_command.Goals as goal

pub returns-clause-line : goal.returns-clause-line
returns-clause-line c =
    λ m l. (λ p. sym (c.read.ensures.answer m) ∙ p, λ q. c.read.ensures.answer m ∙ q)

pub returns-clause-bad_argument : goal.returns-clause-bad_argument
returns-clause-bad_argument c =
    λ m n. (λ p. sym (c.read.ensures.answer m) ∙ p, λ q. c.read.ensures.answer m ∙ q)

pub returns-clause-too_many : goal.returns-clause-too_many
returns-clause-too_many c = λ m. (λ p. sym (c.read.ensures.answer m) ∙ p, λ q. c.read.ensures.answer m ∙ q)

pub returns-clause-fit : goal.returns-clause-fit
returns-clause-fit c = answer_fits c.args.text.now c.read.result c.read.ensures.answer
