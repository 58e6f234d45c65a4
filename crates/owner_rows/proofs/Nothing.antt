-- The tables of no entries.
use Rattle.std.proofs.Common.{[], ℕ, ◌≡◌, List, None, arith, false, refl, subst, sym}
use Rattle.model.specs.Types.{Body, Entry, Obj}
use Rattle.model.specs.History.{list_of}
use Rattle.model.specs.Facts.{answered, commands, is_started}
use Rattle.owner_rows.specs.Deps.{IsDepRow, IsRowOfDep}
use Rattle.owner_rows.specs.Jobs.{IsJobRow}
use Rattle.owner_rows.specs.Objects.{IsObjectRow, IsRowOfObject}
use Rattle.owner_rows.specs.Replies.{IsPlanRow, IsReplyRow}
use Rattle.owner_rows.specs.Standing.{ArePlaces, StandsAt, additions, body_in, dep_in, place_key}
use Rattle.owner_rows.specs.Stations.{IsStationRow}
use Rattle.owner_rows.specs.Streams.{IsStreamRow}
use Rattle.owner_rows.specs.Subjects.{object_number}
use Rattle.owner_rows.specs.Tables.{ArePairRows, AreRows, pair_row_in, row_in}
use Rattle.owner_rows.specs.Told.{AreKept, AreShort, AreStationsTold, AreTold, IsWorkTold}
use Rattle.owner_rows.specs.Totals.{IsTotalRow}
use Rattle.owner_rows.specs.declared.deps.DepRow.{DepRow}
use Rattle.owner_rows.specs.declared.jobs.JobRow.{JobRow}
use Rattle.owner_rows.specs.declared.objects.ObjectRow.{ObjectRow}
use Rattle.owner_rows.specs.declared.stations.StationRow.{StationRow}
use Rattle.owner_rows.specs.declared.places.Places.{Places}
use Rattle.owner_rows.specs.declared.streams.StreamRow.{StreamRow}
use Rattle.owner_rows.specs.declared.tables.PairTable.{PairTable}
use Rattle.owner_rows.specs.declared.tables.Table.{Table}
use Rattle.owner_rows.specs.declared.told.Told.{Told}
use Rattle.owner_rows.specs.declared.station_tables.StationTables.{StationTables}
use Rattle.owner_rows.specs.declared.work_tables.WorkTables.{WorkTables}
use Rattle.owner_rows.proofs.Counting.{counts_of_none}
use Rattle.owner_rows.proofs.ReplyTelling.{reply_of_none}
use Rattle.owner_rows.proofs.TotalTelling.{total_of_none}

blank_rows : {R : Type 0} (Is : List Body → ℕ → R → Type 0) (t : Table R) (blank : R) → ((n : ℕ) → Is [] n blank)
    → ((q : ℕ × ℕ) → row_in t q ≡ blank) → AreRows Is [] t
unfolding list_of
blank_rows Is t blank h e w n = subst (Is [] n) (sym (e (w, n))) (h n)

blank_pair_rows : {R : Type 0} (Is : List Body → ℕ × ℕ → R → Type 0) (t : PairTable R) (blank : R)
    → ((n : ℕ × ℕ) → Is [] n blank) → ((q : ℕ × (ℕ × ℕ)) → pair_row_in t q ≡ blank) → ArePairRows Is [] t
unfolding list_of
blank_pair_rows Is t blank h e w n = subst (Is [] n) (sym (e (w, n))) (h n)

pub work_of_none : (t : WorkTables) (j : JobRow) (s : StreamRow) (o : ObjectRow) (d : DepRow)
    → ((n : ℕ) → IsJobRow [] n j) → ((n : ℕ) → IsStreamRow [] n s) → ((x : Obj) → IsObjectRow [] x o)
    → ((x : Obj) (i : ℕ) → IsDepRow [] x i d) → ((q : ℕ × ℕ) → row_in t.jobs q ≡ j)
    → ((q : ℕ × (ℕ × ℕ)) → pair_row_in t.starts q ≡ false) → ((q : ℕ × ℕ) → row_in t.streams q ≡ s)
    → ((q : ℕ × ℕ) → row_in t.objects q ≡ o) → ((q : ℕ × (ℕ × ℕ)) → pair_row_in t.deps q ≡ d) → IsWorkTold [] t
unfolding is_started
work_of_none t j s o d job stream object dep jobs starts streams objects deps = record {
  jobs = blank_rows IsJobRow t.jobs j job jobs;
  starts = blank_pair_rows (λ events q told. told ≡ is_started q.0 q.1 events) t.starts false (λ q. refl) starts;
  streams = blank_rows IsStreamRow t.streams s stream streams;
  objects = blank_rows IsRowOfObject t.objects o (λ n x e. object x) objects;
  deps = blank_pair_rows IsRowOfDep t.deps d (λ q x e. dep x q.1) deps;
}

pub stations_of_none : (t : StationTables) (z : StationRow) → ((n : ℕ) → IsStationRow [] n z)
    → ((q : ℕ × ℕ) → row_in t.counts q ≡ 0) → ((q : ℕ × ℕ) → row_in t.stations q ≡ z)
    → ((q : ℕ × ℕ) → row_in t.answers q ≡ 0) → ((q : ℕ × ℕ) → row_in t.totals q ≡ None)
    → ((q : ℕ × ℕ) → row_in t.plans q ≡ 0) → ((q : ℕ × ℕ) → row_in t.replies q ≡ None) → AreStationsTold [] t
unfolding answered
stations_of_none t z station counts stations answers totals plans replies = record {
  counts = counts_of_none t.counts counts;
  stations = blank_rows IsStationRow t.stations z station stations;
  answers = blank_rows (λ events n r. r ≡ answered n events) t.answers 0 (λ n. refl) answers;
  totals = blank_rows IsTotalRow t.totals None total_of_none totals;
  plans = blank_rows IsPlanRow t.plans 0 (λ n z. refl) plans;
  replies = blank_rows IsReplyRow t.replies None reply_of_none replies;
}

short_of_none : AreShort []
unfolding list_of
short_of_none f = omega arith

pub places_of_none : (p : Places) → ((q : ℕ × (ℕ × ℕ)) → pair_row_in p.entries q ≡ None)
    → ((q : ℕ × (ℕ × ℕ)) → pair_row_in p.added q ≡ None) → ((q : ℕ × ℕ) → row_in p.issuers q ≡ false)
    → ArePlaces [] p
unfolding list_of commands
places_of_none p entries added issuers = record {
  entries = λ f i. subst (StandsAt body_in [] (list_of [] f) i) (sym (entries (place_key f i))) (refl, tt);
  added =
      λ w o i. subst (StandsAt dep_in [] (additions [] w o) i) (sym (added (w, (object_number o, i)))) (refl, tt);
  issuers = λ a. issuers (a, 0);
}

pub kept_of_none : (kept : List Entry) (t : Told) (p : Places) → kept ≡ [] → AreTold [] t → ArePlaces [] p
    → AreKept kept t p
kept_of_none kept t p e h k =
    subst (λ (l : List Entry). AreKept l t p) (sym e) (record { short = short_of_none; told = h; places = k })
