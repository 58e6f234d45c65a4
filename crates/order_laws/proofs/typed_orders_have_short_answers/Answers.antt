use Rattle.order_laws.proofs.Lines.{line_short}
use Rattle.order_laws.proofs.typed_orders_have_short_answers.Goals as goal

pub returns : goal.returns
returns c = λ net V me most typed to c fit is. line_short net V me most typed to c fit is
