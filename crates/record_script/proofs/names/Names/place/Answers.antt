use Rattle.std.proofs.Common.{List, ℕ, Option, ap, sym, ◌∙◌, bytes_eq, unwrap_or}
use Rattle.std.specs.List.{position}
use Rattle.record_faults.proofs.Kept.{text}
use Rattle.record_script.proofs.Viewed.{position_viewed}
use Rattle.record_script.proofs.names.Names.place.Goals as goal

pub returns-in-Some-clause-value : goal.returns-in-Some-clause-value
returns-in-Some-clause-value c =
    let is = c.get_index_of.ensures.index
    ∙ (position_viewed (bytes_eq c.args.name.now) text c.self.inside.set.keys
    ∙ ap (λ (l : List (List ℕ)). position (bytes_eq c.args.name.now) l) c.self.view_is) in
    sym (ap (λ (o : Option ℕ). unwrap_or o 0) (sym is ∙ c.in-Some.is))

pub returns-in-None-clause-value : goal.returns-in-None-clause-value
returns-in-None-clause-value c =
    let is = c.get_index_of.ensures.index
    ∙ (position_viewed (bytes_eq c.args.name.now) text c.self.inside.set.keys
    ∙ ap (λ (l : List (List ℕ)). position (bytes_eq c.args.name.now) l) c.self.view_is) in
    sym (ap (λ (o : Option ℕ). unwrap_or o 0) (sym is ∙ c.in-None.is))
