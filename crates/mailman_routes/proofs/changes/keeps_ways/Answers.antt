use Rattle.std.proofs.Common.{◌∙◌, sym}
use Rattle.mailman_routes.proofs.Ways.{ways_same}
use Rattle.mailman_routes.proofs.changes.keeps_ways.Goals as goal

pub returns : goal.returns
returns c = λ h net kept. ways_same kept c.args.e.now (sym c.is_quiet.ensures ∙ h) net
