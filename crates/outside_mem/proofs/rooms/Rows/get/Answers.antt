use Rattle.std.proofs.Common.{◌≡◌, ◌≤◌, ◌<◌, ◌-◌, ℕ, List, length, take, drop, slice_get, get_or, Some, sym, ◌∙◌, ap, subst, rules}
use Rattle.outside_mem.specs.Rooms.{Stored, start_of}
use Rattle.outside_mem.specs.declared.rooms.Row.{Row}
use Rattle.outside_mem.proofs.Cuts.{in_order, in_bytes, one_piece}
use Rattle.outside_mem.proofs.rooms.Rows.get.Goals as goal

pub part-requires-clause-order : goal.part-requires-clause-order
part-requires-clause-order g c =
    let s = c.self.inside in
    let i = c.args.i in
    let row = c.in-Some.row.now in
    let h = c.in-Some.ensures.lookup in
    let low : i < length c.deref.result.now = search rules in
    let same = c.deref.ensures.value in
    in_order s.rows.items s.bytes.items i c.start_at-start.result row c.self.invariant.0
    (subst (λ (l : List (Row g.row.T.Denot)). i < length l) same low)
    (h.1 ∙ ap (λ (l : List (Row g.row.T.Denot)). get_or l i row) same)
    (c.start_at-start.ensures ∙ ap (λ (l : List (Row g.row.T.Denot)). start_of 0 l i) c.deref-2.ensures.value)

pub part-requires-clause-inside : goal.part-requires-clause-inside
part-requires-clause-inside g c =
    let s = c.self.inside in
    let i = c.args.i in
    let row = c.in-Some.row.now in
    let h = c.in-Some.ensures.lookup in
    let low : i < length c.deref.result.now = search rules in
    let same = c.deref.ensures.value in
    subst (λ (l : List ℕ). row.end ≤ length l) (sym c.deref-3.ensures.value)
    (in_bytes s.rows.items s.bytes.items i c.start_at-start.result row c.self.invariant.0
    (subst (λ (l : List (Row g.row.T.Denot)). i < length l) same low)
    (h.1 ∙ ap (λ (l : List (Row g.row.T.Denot)). get_or l i row) same)
    (c.start_at-start.ensures ∙ ap (λ (l : List (Row g.row.T.Denot)). start_of 0 l i) c.deref-2.ensures.value))

pub returns-clause-row : goal.returns-clause-row
returns-clause-row g c =
    let s = c.self.inside in
    let i = c.args.i in
    let row = c.in-Some.row.now in
    let h = c.in-Some.ensures.lookup in
    let low : i < length c.deref.result.now = search rules in
    let same = c.deref.ensures.value in
    let start = c.start_at-start.result in
    subst (λ (m : Stored g.row.T.Denot). slice_get m.rows i ≡ Some (row.tag, c.part.result.now)) c.self.view_is
    (one_piece s.rows.items s.bytes.items i start row c.self.invariant.0
    (subst (λ (l : List (Row g.row.T.Denot)). i < length l) same low)
    (h.1 ∙ ap (λ (l : List (Row g.row.T.Denot)). get_or l i row) same)
    (c.start_at-start.ensures ∙ ap (λ (l : List (Row g.row.T.Denot)). start_of 0 l i) c.deref-2.ensures.value)
    ∙ ap (λ (p : List ℕ). Some (row.tag, p)) (ap (λ (l : List ℕ). take (row.end - start) (drop start l)) (sym c.deref-3.ensures.value) ∙ sym c.part.ensures))
