-- A network and drafts as the text of a record.
use Rattle.std.specs.Prelude.{ℕ, List, ◌++◌, codes, flat_map}
use Rattle.model.specs.Types.{Net, StreamDraft}
use Rattle.plan_listing.specs.Networks.{network_text}
use Rattle.plan_listing.specs.Streams.{stream_text}

-- `$NETWORK` with its lines, and `$PLAN` with those of each stream
unfoldable pub listing_of : Net → List StreamDraft → List ℕ
listing_of net drafts = network_text net ++ codes "$PLAN\n" ++ flat_map (stream_text net) drafts
