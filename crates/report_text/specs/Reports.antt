-- The report of a run: its entries, the launches that were started, the packets that were sent, and what each
-- workstation holds and has planned. Each list is printed in the order in which it stands in the parts.
use Rattle.std.specs.Prelude.{ℕ, List, ◌++◌, ◌==◌, if◌then◌else◌, length, codes, flat_map}
use Rattle.std.specs.Fmt.{decimal}
use Rattle.base_types.specs.declared.Net.{Net}
use Rattle.base_types.specs.declared.Entry.{Entry}
use Rattle.base_types.specs.declared.Start.{Start}
use Rattle.base_types.specs.declared.PairCount.{PairCount}
use Rattle.base_types.specs.declared.FeedCount.{FeedCount}
use Rattle.base_types.specs.declared.NodePart.{NodePart}
use Rattle.base_types.specs.declared.ReportParts.{ReportParts}
use Rattle.report_text.specs.Names.{name_of, feed_text}
use Rattle.report_text.specs.Bodies.{body_text}

-- `FEED PLACE BODY`
unfoldable pub entry_line : Net → Entry → List ℕ
entry_line net e =
    feed_text net e.feed ++ codes " " ++ decimal e.place ++ codes " " ++ body_text net e.body ++ codes "\n"

-- `events N`, and a line for each entry
unfoldable pub events_part : Net → List Entry → List ℕ
events_part net entries =
    codes "events " ++ decimal (length entries) ++ codes "\n" ++ flat_map (entry_line net) entries

-- `W JOB NUMBER`
unfoldable pub start_line : Net → Start → List ℕ
start_line net s =
    name_of net s.ws ++ codes " " ++ decimal s.job ++ codes " " ++ decimal s.number ++ codes "\n"

-- `starts N`, and a line for each launch that was started
unfoldable pub starts_part : Net → List Start → List ℕ
starts_part net starts =
    codes "starts " ++ decimal (length starts) ++ codes "\n" ++ flat_map (start_line net) starts

-- `packets A B N`, where there are any
unfoldable pub packets_line : Net → PairCount → List ℕ
packets_line net p =
    if p.count == 0 then codes "" else
    codes "packets " ++ name_of net p.from ++ codes " " ++ name_of net p.to ++ codes " " ++ decimal p.count
    ++ codes "\n"

-- `holds FEED N`, where there are any
unfoldable pub holds_line : Net → FeedCount → List ℕ
holds_line net h =
    if h.count == 0 then codes "" else
    codes "holds " ++ feed_text net h.feed ++ codes " " ++ decimal h.count ++ codes "\n"

-- `node W`, what it holds of each feed, and its listing
unfoldable pub node_part : Net → NodePart → List ℕ
node_part net n =
    codes "node " ++ name_of net n.ws ++ codes "\n" ++ flat_map (holds_line net) n.holds ++ n.listing

-- the whole report
unfoldable pub report_of : Net → ReportParts → List ℕ
report_of net parts =
    events_part net parts.events
    ++ starts_part net parts.starts
    ++ flat_map (packets_line net) parts.packets
    ++ flat_map (node_part net) parts.nodes
