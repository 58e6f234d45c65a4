-- What the tables tell of the entries that were taken.
use Rattle.std.specs.Prelude.{◌<◌, ◌^◌, ℕ, List, Option, length}
use Rattle.std.specs.Option.{IfSome, IsSome}
use Rattle.model.specs.Types.{Body, Entry, Feed}
use Rattle.model.specs.History.{list_of}
use Rattle.owner_rows.specs.Answers.{IsAnswerRow}
use Rattle.owner_rows.specs.Counts.{AreCounts, feed_key}
use Rattle.owner_rows.specs.Deps.{IsRowOfDep}
use Rattle.owner_rows.specs.Jobs.{IsJobRow}
use Rattle.owner_rows.specs.Objects.{IsRowOfObject}
use Rattle.owner_rows.specs.Replies.{IsPlanRow, IsReplyRow}
use Rattle.owner_rows.specs.Standing.{ArePlaces}
use Rattle.owner_rows.specs.Starts.{IsStartRow}
use Rattle.owner_rows.specs.Stations.{IsStationRow}
use Rattle.owner_rows.specs.Streams.{IsStreamRow}
use Rattle.owner_rows.specs.Subjects.{dep_number_in, issuer_in, job_in, key_in, object_number_in, resource_in}
use Rattle.owner_rows.specs.Subjects.{plan_in, prompt_in, start_in, station_in, stream_in}
use Rattle.owner_rows.specs.Tables.{ArePairRows, AreRows, has_pair_row, has_row}
use Rattle.owner_rows.specs.Totals.{IsTotalRow}
use Rattle.owner_rows.specs.declared.places.Places.{Places}
use Rattle.owner_rows.specs.declared.tables.PairTable.{PairTable}
use Rattle.owner_rows.specs.declared.tables.Table.{Table}
use Rattle.owner_rows.specs.declared.told.Told.{Told}
use Rattle.owner_rows.specs.declared.station_tables.StationTables.{StationTables}
use Rattle.owner_rows.specs.declared.work_tables.WorkTables.{WorkTables}

-- each table of jobs, streams and dependencies tells the entries
pub record IsWorkTold (kept : List Entry) (t : WorkTables) : Type 0 where
  pub jobs : AreRows IsJobRow kept t.jobs
  pub starts : ArePairRows IsStartRow kept t.starts
  pub streams : AreRows IsStreamRow kept t.streams
  pub objects : AreRows IsRowOfObject kept t.objects
  pub deps : ArePairRows IsRowOfDep kept t.deps

-- and each of workstations
pub record AreStationsTold (kept : List Entry) (t : StationTables) : Type 0 where
  pub counts : AreCounts kept t.counts
  pub stations : AreRows IsStationRow kept t.stations
  pub answers : AreRows IsAnswerRow kept t.answers
  pub totals : AreRows IsTotalRow kept t.totals
  pub plans : AreRows IsPlanRow kept t.plans
  pub replies : AreRows IsReplyRow kept t.replies

-- all tables do
pub record AreTold (kept : List Entry) (t : Told) : Type 0 where
  pub work : IsWorkTold kept t.work
  pub stations : AreStationsTold kept t.stations

-- the row of whom an entry speaks is there
abbrev pub HasRowFor : {R : Type 0} → (Body → Option ℕ) → Table R → Entry → Type 0
HasRowFor subject t e = IfSome (key_in subject e) (λ k. IsSome (has_row t k))

abbrev pub HasPairRowFor : {R : Type 0} → (Body → Option (ℕ × ℕ)) → PairTable R → Entry → Type 0
HasPairRowFor subject t e = IfSome (key_in subject e) (λ k. IsSome (has_pair_row t k))

-- all rows that an entry changes are there
pub record IsWorkReady (t : WorkTables) (e : Entry) : Type 0 where
  pub jobs : HasRowFor job_in t.jobs e
  pub starts : HasPairRowFor start_in t.starts e
  pub streams : HasRowFor stream_in t.streams e
  pub objects : HasRowFor object_number_in t.objects e
  pub deps : HasPairRowFor dep_number_in t.deps e

pub record AreStationsReady (t : StationTables) (e : Entry) : Type 0 where
  pub counts : IsSome (has_row t.counts (feed_key e.feed))
  pub stations : HasRowFor station_in t.stations e
  pub answers : HasRowFor issuer_in t.answers e
  pub totals : HasRowFor resource_in t.totals e
  pub plans : HasRowFor plan_in t.plans e
  pub replies : HasRowFor prompt_in t.replies e

pub record AreReady (t : Told) (e : Entry) : Type 0 where
  pub work : IsWorkReady t.work e
  pub stations : AreStationsReady t.stations e

-- no feed has more entries than a place can tell
abbrev pub AreShort : List Entry → Type 0
AreShort kept = (f : Feed) → length (list_of kept f) < 2 ^ 32

-- what holds of the entries and of the tables beside them
pub record AreKept (kept : List Entry) (t : Told) (p : Places) : Type 0 where
  pub short : AreShort kept
  pub told : AreTold kept t
  pub places : ArePlaces kept p
