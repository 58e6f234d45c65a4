use Rattle.std.proofs.Common.{◌≡◌, ◌<◌, List, length, slice_get, get_or, option_map, Some, ◌∙◌, ap, subst, rules}
use Rattle.outside_mem.specs.Begun.{BegunLog}
use Rattle.outside_mem.specs.declared.begun.BegunBy.{BegunBy}
use Rattle.outside_mem.specs.declared.rooms.Row.{Row}
use Rattle.outside_mem.proofs.Cuts.{one_tag}
use Rattle.outside_mem.proofs.begun.Begun.get.Goals as goal

pub returns-clause-call : goal.returns-clause-call
returns-clause-call c =
    let s = c.self.inside in
    let i = c.args.i in
    let row = c.in-Some.row.now in
    let h = c.in-Some.ensures.lookup in
    let low : i < length c.deref.result.now = search rules in
    let same = c.deref.ensures.value in
    subst (λ (m : BegunLog). option_map (λ row. row.0) (slice_get m.calls i) ≡ Some row.tag) c.self.view_is
    (one_tag s.calls.items s.peers.rows i row
    (subst (λ (l : List (Row BegunBy)). i < length l) same low)
    (h.1 ∙ ap (λ (l : List (Row BegunBy)). get_or l i row) same))
