use Rattle.std.proofs.Common.{◌∙◌, sym}
use Rattle.model.specs.History.{view_of}
use Rattle.conman_orders.proofs.Fits.{answer_fits}
use Rattle.conman_orders.proofs.orders.resolve.Goals as goal

pub returns-clause-order : goal.returns-clause-order
returns-clause-order c =
    λ m to cmd. (λ p. sym (c.row.ensures.answer m) ∙ p, λ q. c.row.ensures.answer m ∙ q)

pub returns-clause-unknown_name : goal.returns-clause-unknown_name
returns-clause-unknown_name c =
    λ m n. (λ p. sym (c.row.ensures.answer m) ∙ p, λ q. c.row.ensures.answer m ∙ q)

pub returns-clause-not_a_command : goal.returns-clause-not_a_command
returns-clause-not_a_command c =
    (λ p. sym (c.row.ensures.answer (λ e. cc)) ∙ p, λ q. c.row.ensures.not_a_command q)

pub returns-clause-fit : goal.returns-clause-fit
returns-clause-fit c =
    λ most h.
    answer_fits c.args.network.now (view_of c.args.o.now) c.args.me c.args.line.now most c.row.result
    c.row.ensures.answer h
