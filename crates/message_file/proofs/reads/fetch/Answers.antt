use Rattle.std.proofs.Common.{◌≡◌, ◌-◌, ◌+◌, ℕ, List, Some, take, drop, sym, subst, ◌∙◌, IfSome, refl}
use Rattle.std.specs.declared.option.Option.{Option}
use Rattle.message_file.specs.Cursors.{IsPlaceOf, IsBodyOf}
use Rattle.message_file.proofs.Cursors.{body_told}
use Rattle.message_file.proofs.reads.fetch.Goals as goal

pub returns-clause-body : goal.returns-clause-body
returns-clause-body g c =
    let told = g.D.Disk.seen c.args.disk.now in
    let extent = c.args.extent.now in
    let walked : g.D.Disk.seen c.walk.new.disk ≡ told = c.in_ok-place.ensures.reads.same in
    let same : g.D.Disk.seen c.behind.new.disk ≡ told = c.in_ok-next.ensures.reads.same ∙ walked in
    let here = subst (λ (p : Option ℕ). IsPlaceOf told c.args.number p) c.in-Some.is c.in_ok-place.ensures.place in
    let there = subst (λ (p : Option ℕ). IsPlaceOf (g.D.Disk.seen c.walk.new.disk) (c.args.number + 1) p) c.in-Some-2.is c.in_ok-next.ensures.place in
    let read = subst (λ (t : Option (List ℕ)). IfSome t (λ file. c.in_ok-body.body.items ≡ take (c.in-Some-2.next - c.in-Some.place - 5) (drop (c.in-Some.place + 5) file))) same c.in_ok-body.ensures.bytes in
    let is : c.of_vec.result ≡ c.in_ok-body.body.items = c.of_vec.ensures in
    subst (λ (b : List ℕ). IsBodyOf told c.args.number b) (sym is)
    (body_told told extent.owner extent.count extent.gate c.args.number c.in-Some.place c.in-Some-2.next (c.in-Some-2.next - c.in-Some.place - 5) c.in_ok-body.body.items
    c.requires.held here c.requires.there (subst (λ (t : Option (List ℕ)). IsPlaceOf t (c.args.number + 1) (Some c.in-Some-2.next)) walked there) refl read)
