-- What a line asks of a link: the call, and what is then said.
use Rattle.std.specs.Prelude.{ℕ, List}
use Rattle.agent_core.specs.Nodes.{NodeState}
use Rattle.outside.specs.Calls.{Asked}
use Rattle.node_lines.specs.Lines.{link_text, unlink_text}
use Rattle.node_lines.specs.declared.lines.LinkAsk.{LinkAsk}
use Rattle.node_lines.specs.declared.lines.LinkAsk.TheVariants.{Close, Raise}

abbrev pub call_of : LinkAsk → ℕ → Asked
call_of Raise = Asked.Raise
call_of Close = Asked.Close

abbrev pub asked_text : LinkAsk → NodeState → ℕ → List ℕ
asked_text Raise = link_text
asked_text Close = unlink_text
