use Rattle.std.proofs.Common.{◌≡◌, ◌++◌, length, take}
use Rattle.std.specs.Prelude.{flat_map}
use Rattle.model.specs.Fields.{u32_bytes}
use Rattle.model.specs.History.{view_of}
use Rattle.model.specs.Catalogue.{members}
use Rattle.symphony_view.specs.Symphonies.{member_bytes}
use Rattle.symphony_view.proofs.symphonies.put_members.Given as goal

abbrev pub invariant-loop-s : goal.invariant-loop-s
invariant-loop-s l =
    l.out ≡ l.fn.out ++ (u32_bytes (length (members (view_of l.o)))
    ++ flat_map (member_bytes l.second l.net (view_of l.o)) (take l.s-index (members (view_of l.o))))
