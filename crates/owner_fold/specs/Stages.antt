-- What the iterators of waiting streams and of streams under way have still to give.
use Rattle.std.specs.Prelude.{List, filter, filter_map}
use Rattle.model.specs.Types.{Events, StreamDoc}
use Rattle.model.specs.History.{list_of}
use Rattle.owner_fold.specs.Holders.{is_under_way}
use Rattle.owner_fold.specs.Sets.{is_waiting_here, stream_coded}
use Rattle.owner_fold.specs.declared.stages.BegunStreams.{BegunStreams}
use Rattle.owner_fold.specs.declared.stages.WaitingStreams.{WaitingStreams}

-- the streams that wait
unfoldable pub waiting_left : WaitingStreams → List StreamDoc
waiting_left it =
    filter (is_waiting_here it.ws (list_of it.owners.now (Events it.ws)))
    (filter_map (stream_coded it.owners.now it.ws) it.codes.now)

-- those under way
unfoldable pub begun_left : BegunStreams → List StreamDoc
begun_left it =
    filter (is_under_way it.ws (list_of it.owners.now (Events it.ws)))
    (filter_map (stream_coded it.owners.now it.ws) it.codes.now)
