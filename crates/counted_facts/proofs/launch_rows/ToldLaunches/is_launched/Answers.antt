use Rattle.counted_facts.proofs.LaunchTelling.{launched_at}
use Rattle.counted_facts.proofs.launch_rows.ToldLaunches.is_launched.Goals as goal

pub returns : goal.returns
returns c =
    λ G told. launched_at c.args.self.now G c.w.inside.0 c.args.w c.j.inside.0 c.args.j c.args.n c.contains.result
    c.w.view_is c.j.view_is c.contains.ensures told
