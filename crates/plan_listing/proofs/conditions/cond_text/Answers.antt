use Rattle.plan_listing.proofs.Texts.{told}
use Rattle.plan_listing.proofs.conditions.cond_text.Goals as goal

pub returns : goal.returns
returns c =
    told c.print_cond.result c.args.cond.now c.print_cond.ensures.default c.print_cond.ensures.canonical
    c.print_cond.ensures.no_expression c.print_cond.ensures.too_long
