use Rattle.std.proofs.Common.{ℕ, ◌&&◌, ◌∙◌, Bor, List, bytes_eq, eqb, option_map}
use Rattle.std.specs.Map.{lookup}
use Rattle.model.specs.NewPlan.{resolve_stream}
use Rattle.carry_forward.specs.Known.{told_named}
use Rattle.carry_forward.proofs.Indexed.{told_read}
use Rattle.carry_forward.proofs.names.Names.target.Goals as goal

pub returns : goal.returns
returns c =
    told_read c.get.result
    (lookup (λ (k : ℕ × Bor (List ℕ)). eqb c.ws.inside.0 k.0 && bytes_eq c.args.name.now k.1.now)
    c.self.inside.streams.entries)
    c.get.ensures.value
    ∙ (c.self.invariant c.ws.inside.0 c.args.name.now
    ∙ (λ j. option_map told_named
    (resolve_stream (c.self.view_is j).fresh (c.self.view_is j).earlier (c.ws.view_is j) c.args.name.now)))
