use Rattle.std.proofs.Common.{List, ℕ, ap, ◌∙◌, bytes_eq}
use Rattle.record_faults.specs.Known.{has_name}
use Rattle.record_faults.proofs.Kept.{any_viewed, text}
use Rattle.record_faults.proofs.names.Names.has.Goals as goal

pub returns : goal.returns
returns c =
    c.contains.ensures
    ∙ (any_viewed (bytes_eq c.args.name.now) text c.self.inside.set.keys
    ∙ ap (λ (l : List (List ℕ)). has_name l c.args.name.now) c.self.view_is)
