use Rattle.std.proofs.Common.{[], ◌++◌, ◌∷◌}
use Rattle.owner_fold.proofs.Owning.{stations_read}
use Rattle.owner_fold.proofs.stations.Stations.with.Goals as goal

pub returns : goal.returns
returns c = λ docs placed.
    stations_read (c.args.entries.now ++ c.args.e.now ∷ []) c.args.doc_places.now c.in_ok-streams.streams
    c.in_ok-jobs.jobs docs placed c.in_ok-streams.ensures c.in_ok-jobs.ensures
