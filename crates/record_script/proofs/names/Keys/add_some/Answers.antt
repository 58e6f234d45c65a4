use Rattle.std.proofs.Common.{rules}
use Rattle.record_script.proofs.names.Keys.add_some.Goals as goal

pub add-requires-clause-few : goal.add-requires-clause-few
add-requires-clause-few c = (c.requires (c.in-Some.ws.now, c.in-Some.name.now) (search rules)).few
