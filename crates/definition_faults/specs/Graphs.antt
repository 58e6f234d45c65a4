-- Streams and entries with what they follow, as objects of one list in the order of the text.
use Rattle.std.specs.Prelude.{ℕ, ◌+◌, Bool, true, false, List, [], ◌∷◌, length, map, take, flat_map, sum_by, Option, slice_index, option_map}
use Rattle.std.specs.List.{enumerate_from, filter_map}
use Rattle.composer_parser.specs.declared.Lined.{Lined}
use Rattle.composer_parser.specs.declared.Defs.{Defs}
use Rattle.composer_parser.specs.declared.Clause.{Clause}
use Rattle.composer_parser.specs.declared.Clause.TheVariants.{At, Until, Deadline, Priority, Limit, CarryForward}
use Rattle.composer_parser.specs.declared.Clause.TheVariants.{Follows, Needs, Prompt, Opens}
use Rattle.composer_parser.specs.declared.Pred.{Pred}
use Rattle.composer_parser.specs.declared.EntryDef.{EntryDef}
use Rattle.composer_parser.specs.declared.ScheduleDef.{ScheduleDef}
use Rattle.definition_names.specs.Targets.{target_of}
use Rattle.definition_names.specs.declared.Target.{Target}
use Rattle.definition_names.specs.declared.Target.TheVariants.{Stream, Job}
use Rattle.follow_circles.specs.declared.Follower.{Follower}

-- the place behind a stream and its entries
abbrev pub behind : ℕ → ScheduleDef → ℕ
behind place s = place + length s.entries + 1

-- a stream stands behind the streams before it and their entries
abbrev pub begin_of : Defs → ℕ → ℕ
begin_of d n = sum_by (λ (s : Lined ScheduleDef). length s.item.entries + 1) (take n d.schedules)

-- the place of a stream, and of an entry, which stand behind their stream
abbrev pub place_of : Defs → Target → ℕ
place_of d (Stream n) = begin_of d n
place_of d (Job n i) = begin_of d n + i + 1

-- the same by the table of the places of streams
abbrev pub place_in : List ℕ → Target → ℕ
place_in begins (Stream n) = slice_index begins n
place_in begins (Job n i) = slice_index begins n + i + 1

-- what a clause follows
abbrev pub preds_of : Clause → List Pred
preds_of (Follows ps) = ps
preds_of (At t days) = []
preds_of (Until t days u) = []
preds_of (Deadline t days) = []
preds_of (Priority n) = []
preds_of (Limit n) = []
preds_of CarryForward = []
preds_of (Needs ns) = []
preds_of (Prompt ps) = []
preds_of (Opens paths) = []

-- the place of what a FOLLOWS stands for in a stream, in its header or in an entry
abbrev pub followed_by : Defs → ℕ → Bool → Pred → Option ℕ
followed_by d n inside p = option_map (place_of d) (target_of d n inside p)

abbrev pub followed : Defs → ℕ → Bool → List (Lined Clause) → List ℕ
followed d n inside cs =
    filter_map (followed_by d n inside) (flat_map (λ (c : Lined Clause). preds_of c.item) cs)

abbrev pub object : ℕ → List ℕ → Follower
object line follows = record { line = line; follows = follows }

abbrev pub entry_object : Defs → ℕ → Lined EntryDef → Follower
entry_object d n e = object e.line (followed d n true e.item.clauses)

-- a stream, and behind it its entries
abbrev pub stream_objects : Defs → ℕ × Lined ScheduleDef → List Follower
stream_objects d p =
    object p.1.line (followed d p.0 false p.1.item.clauses)
    ∷ map (entry_object d p.0) p.1.item.entries

-- all streams and entries
unfoldable pub graph_of : Defs → List Follower
graph_of d = flat_map (stream_objects d) (enumerate_from 0 d.schedules)
