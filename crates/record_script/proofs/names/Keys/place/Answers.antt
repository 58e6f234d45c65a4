use Rattle.std.proofs.Common.{List, ℕ, Option, ap, sym, ◌∙◌, unwrap_or}
use Rattle.std.specs.List.{position}
use Rattle.record_faults.specs.Known.{Key, key_eq}
use Rattle.record_faults.proofs.Kept.{pair}
use Rattle.record_script.proofs.Viewed.{position_viewed}
use Rattle.record_script.proofs.names.Keys.place.Goals as goal

pub returns-in-Some-clause-value : goal.returns-in-Some-clause-value
returns-in-Some-clause-value c =
    let is = c.get_index_of.ensures.index
    ∙ (position_viewed (key_eq (c.args.ws.now, c.args.name.now)) pair c.self.inside.set.keys
    ∙ ap (λ (l : List Key). position (key_eq (c.args.ws.now, c.args.name.now)) l) c.self.view_is) in
    sym (ap (λ (o : Option ℕ). unwrap_or o 0) (sym is ∙ c.in-Some.is))

pub returns-in-None-clause-value : goal.returns-in-None-clause-value
returns-in-None-clause-value c =
    let is = c.get_index_of.ensures.index
    ∙ (position_viewed (key_eq (c.args.ws.now, c.args.name.now)) pair c.self.inside.set.keys
    ∙ ap (λ (l : List Key). position (key_eq (c.args.ws.now, c.args.name.now)) l) c.self.view_is) in
    sym (ap (λ (o : Option ℕ). unwrap_or o 0) (sym is ∙ c.in-None.is))
