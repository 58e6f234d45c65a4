use Rattle.std.proofs.Common.{◌≡◌, ◌+◌, ◌≤◌, length, sym, ◌∙◌, ap, subst, arith, rules, length-append}
use Rattle.outside_mem.specs.Rooms.{Stored, with_row, cut}
use Rattle.outside_mem.proofs.Cuts.{cut_size, are_added, stored_more}
use Rattle.outside_mem.proofs.rooms.Rows.add.Goals as goal

pub invariant_of-self : goal.invariant_of-self
invariant_of-self g c =
    let s = c.self.inside in
    let v = c.self.invariant in
    let rows = c.push_reserved.new.self.items in
    let bytes = c.extend.new.bytes.items in
    let here : c.len.result + length c.args.piece.now ≡ length s.bytes.items + length c.args.piece.now = search rules in
    let count : length rows ≤ s.room = search rules in
    let fits : length s.bytes.items + length c.args.piece.now ≤ s.room = subst (λ (m : Stored g.row.T.Denot). m.used + length c.args.piece.now ≤ m.room) (sym c.self.view_is) c.requires.bytes in
    let longer : length bytes ≡ length s.bytes.items + length c.args.piece.now = ap length c.extend.ensures.items ∙ length-append s.bytes.items c.args.piece.now in
    let size : length bytes ≤ s.room = omega (arith, fits, longer) in
    (are_added s.rows.items rows s.bytes.items bytes c.args.piece.now c.args.tag _ v.0 here c.push_reserved.ensures.items c.extend.ensures.items, cut_size 0 rows bytes, count, size, search rules, search rules, search rules)

pub returns : goal.returns
returns g c =
    let s = c.self.inside in
    let rows = c.push_reserved.new.self.items in
    let bytes = c.extend.new.bytes.items in
    let here : c.len.result + length c.args.piece.now ≡ length s.bytes.items + length c.args.piece.now = search rules in
    subst (λ (m : Stored g.row.T.Denot). record { rows = cut 0 rows bytes; used = length bytes; room = s.room; whole = s.whole } ≡ with_row c.args.tag c.args.piece.now m) c.self.view_is
    (stored_more s.rows.items rows s.bytes.items bytes c.args.piece.now c.args.tag _ c.self.invariant.0 here c.push_reserved.ensures.items c.extend.ensures.items s.room s.whole)
