use Rattle.std.proofs.Common.{List, ap, ◌∙◌}
use Rattle.record_faults.specs.Known.{Key, key_eq, has_key}
use Rattle.record_faults.proofs.Kept.{any_viewed, pair}
use Rattle.record_faults.proofs.keys.Keys.has.Goals as goal

pub returns : goal.returns
returns c =
    c.contains.ensures
    ∙ (any_viewed (key_eq (c.args.ws.now, c.args.name.now)) pair c.self.inside.set.keys
    ∙ ap (λ (l : List Key). has_key l (c.args.ws.now, c.args.name.now)) c.self.view_is)
