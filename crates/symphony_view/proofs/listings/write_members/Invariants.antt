use Rattle.std.proofs.Common.{◌≡◌, ◌++◌, drop, flat_map}
use Rattle.model.specs.History.{view_of}
use Rattle.model.specs.Catalogue.{members}
use Rattle.symphony_view.specs.Listings.{member_lines}
use Rattle.symphony_view.proofs.listings.write_members.Given as goal

abbrev pub invariant-loop-s : goal.invariant-loop-s
invariant-loop-s l =
    l.initial.out.items ++ flat_map (member_lines l.net (view_of l.o)) (members (view_of l.o))
    ≡ l.out.items ++ flat_map (member_lines l.net (view_of l.o)) (drop l.s-index (members (view_of l.o)))
