use Rattle.entry_files.proofs.Fronts.{front_result, kept_result}
use Rattle.entry_files.proofs.reads.read_entries.Goals as goal

pub returns-clause-kept : goal.returns-clause-kept
returns-clause-kept g c =
    λ only.
    kept_result c.args.net.now c.args.owner c.in_ok-bodies.bodies c.as_slice.result.now
    (g.F.Folder.seen c.read_bodies.new.folder c.args.name.now) c.take_entries.result c.as_slice.ensures
    c.take_entries.ensures.read c.take_entries.ensures.restores (c.in_ok-bodies.ensures.kept only)

pub returns-clause-front : goal.returns-clause-front
returns-clause-front g c =
    λ only.
    front_result c.args.net.now c.args.owner c.in_ok-bodies.bodies c.as_slice.result.now
    (g.F.Folder.seen c.args.folder.now c.args.name.now) c.take_entries.result c.as_slice.ensures
    c.take_entries.ensures.read (c.in_ok-bodies.ensures.front only)
