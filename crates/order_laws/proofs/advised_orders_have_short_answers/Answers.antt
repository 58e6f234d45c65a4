use Rattle.order_laws.proofs.Advised.{advice_short}
use Rattle.order_laws.proofs.advised_orders_have_short_answers.Goals as goal

pub returns : goal.returns
returns c = λ V w c e. advice_short V w c e
