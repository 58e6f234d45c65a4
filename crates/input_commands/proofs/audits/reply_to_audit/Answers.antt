use Rattle.std.proofs.Common.{◌∙◌}
use Rattle.input_commands.proofs.Histories.{found_result}
use Rattle.input_commands.proofs.audits.reply_to_audit.Goals as goal

pub returns : goal.returns
returns c =
    found_result c.args.history _ _ _ c.in_ok-found.found _ _ c.said.result
    (c.in_ok-network.ensures ∙ c.into_parts-net.ensures.net) c.into_parts-net.ensures.entries
    c.into_parts-net.ensures.starts c.in_ok-found.ensures.sound.0 c.in_ok-found.ensures.not c.len.ensures
    c.len-2.ensures c.said.ensures.status c.said.ensures.text c.said.ensures.world
