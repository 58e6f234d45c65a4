use Rattle.input_commands.proofs.Calling.{comes_result}
use Rattle.input_commands.proofs.definitions.reply_to_definitions.Goals as goal

pub returns : goal.returns
returns c =
    comes_result c.args.wish c.args.bytes.now _ c.said.result c.in_ok-reply.ensures c.said.ensures.status
    c.said.ensures.text c.said.ensures.world
