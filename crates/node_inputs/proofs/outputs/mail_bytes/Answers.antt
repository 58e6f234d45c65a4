use Rattle.std.proofs.Common.{◌≡◌, ◌≤◌, Some, length, rules, subst}
use Rattle.model.specs.History.{list_of}
use Rattle.model.specs.Words.{nth}
use Rattle.node_inputs.proofs.Keepable.{placed_keepable}
use Rattle.node_inputs.proofs.outputs.mail_bytes.Goals as goal

pub write_entry-requires : goal.write_entry-requires
write_entry-requires c =
    let there : nth (list_of c.args.agent.now.kept c.args.feed.now) c.args.place ≡ Some c.in_ok-copy-in-Some.field-0 = search rules in
    (placed_keepable c.args.agent.now.kept c.args.feed.now c.args.place c.in_ok-copy-in-Some.field-0 c.requires.keepable there).fit

pub write_frame-requires : goal.write_frame-requires
write_frame-requires c =
    let there : nth (list_of c.args.agent.now.kept c.args.feed.now) c.args.place ≡ Some c.in_ok-copy-in-Some.field-0 = search rules in
    subst (λ b. length b ≤ 4194304) (search rules)
    (placed_keepable c.args.agent.now.kept c.args.feed.now c.args.place c.in_ok-copy-in-Some.field-0 c.requires.keepable there).short
