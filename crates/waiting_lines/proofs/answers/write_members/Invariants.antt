use Rattle.std.proofs.Common.{◌≡◌, ◌++◌, drop, flat_map}
use Rattle.std.specs.Option.{option_copied}
use Rattle.model.specs.History.{view_of}
use Rattle.model.specs.Catalogue.{members}
use Rattle.waiting_lines.specs.Answers.{member_answers}
use Rattle.waiting_lines.proofs.answers.write_members.Given as goal

abbrev pub invariant-loop-s : goal.invariant-loop-s
invariant-loop-s l =
    l.initial.out.items
    ++ flat_map (member_answers l.net (view_of l.o) l.w l.next (option_copied l.pattern)) (members (view_of l.o))
    ≡ l.out.items
    ++ flat_map (member_answers l.net (view_of l.o) l.w l.next (option_copied l.pattern))
    (drop l.s-index (members (view_of l.o)))
