-- The rows of a listing stand where they are.
use Rattle.std.proofs.Common.{◌≡◌, ◌≤◌, ◌<◌, ℕ, List, [], ◌∷◌, ◌++◌, refl, ap, sym, ◌∙◌, arith}
use Rattle.std.proofs.Common.{flat_map, map, append-nil, if◌then◌else◌}
use Rattle.lemmas.proofs.Numbers.{lt_told}
use Rattle.base_types.specs.declared.Recovery.TheVariants.{Stop, Continue, Rerun}
use Rattle.model.specs.Types.{Net, Node, Work, Command, Script, Recovery, JobDraft, StreamDraft, CondOp, DraftDep}
use Rattle.history_laws.proofs.Printed.{told}
use Rattle.history_laws.proofs.Sections.{prompt_row, resource_row, station_row}
use Rattle.record_faults.specs.Places.{behind_part, below_row, fate_of, may_stand, placed_from, rank, settled}
use Rattle.record_faults.specs.declared.places.Fate.TheVariants as fate
use Rattle.record_faults.specs.declared.places.JobPlace.{JobPlace}
use Rattle.record_faults.specs.declared.places.JobPlace.TheVariants as behind
use Rattle.record_faults.specs.declared.places.Place.{Place}
use Rattle.record_faults.specs.declared.places.Place.TheVariants as place
use Rattle.record_rows.specs.declared.rows.PartRow.{PartRow}
use Rattle.record_rows.specs.declared.rows.Row.{Row}
use Rattle.record_rows.specs.declared.rows.Row.TheVariants as row
use Rattle.record_rows.specs.declared.rows.StepRow.TheVariants as step
use Rattle.listing_laws.proofs.DepLines.{dep_row}
use Rattle.listing_laws.proofs.HeadLines.{job_part, stream_part}
use Rattle.listing_laws.proofs.ObjectLines.{cond_parts, dep_rows, job_rows, logon_parts, part_rows, recovery_parts}
use Rattle.listing_laws.proofs.ObjectLines.{stream_rows, work_parts}
use Rattle.listing_laws.proofs.Spelled.{Keeps, Stands, keeps_each, keeps_map, stands_both, stands_map, stands_none, stands_row}

-- The rows of a listing.

abbrev pub front_rows : Net → Node → List Node → List Row
front_rows net m others =
    row.Network ∷ row.Master m.name
    ∷ (map (station_row net) others
    ++ (map (resource_row net) net.resources ++ (map prompt_row net.prompts ++ map row.CarryForward (told net.carry))))

abbrev pub plan_rows : Net → List StreamDraft → List Row
plan_rows net drafts = flat_map (stream_rows net) drafts

abbrev pub end_rows : List Row
end_rows = row.Steps ∷ row.Step step.Next ∷ []

abbrev pub tail_rows : Net → List StreamDraft → List Row
tail_rows net drafts = row.Plan ∷ (plan_rows net drafts ++ end_rows)

abbrev pub all_rows : Net → Node → List Node → List StreamDraft → List Row
all_rows net m others drafts = front_rows net m others ++ tail_rows net drafts

-- The network.

front_stands : (net : Net) (m : Node) (others : List Node) → Stands place.Nothing (front_rows net m others) place.Network
unfolding fate_of may_stand below_row
front_stands net m others =
    stands_both place.Nothing place.Header place.Network (row.Network ∷ [])
    (row.Master m.name
    ∷ (map (station_row net) others
    ++ (map (resource_row net) net.resources ++ (map prompt_row net.prompts ++ map row.CarryForward (told net.carry)))))
    (stands_row place.Nothing place.Header row.Network refl refl)
    (stands_both place.Header place.Network place.Network (row.Master m.name ∷ [])
    (map (station_row net) others
    ++ (map (resource_row net) net.resources ++ (map prompt_row net.prompts ++ map row.CarryForward (told net.carry))))
    (stands_row place.Header place.Network (row.Master m.name) refl refl)
    (stands_both place.Network place.Network place.Network (map (station_row net) others)
    (map (resource_row net) net.resources ++ (map prompt_row net.prompts ++ map row.CarryForward (told net.carry)))
    (stands_map place.Network (station_row net) (λ x. stands_row place.Network place.Network (station_row net x) refl refl) others)
    (stands_both place.Network place.Network place.Network (map (resource_row net) net.resources)
    (map prompt_row net.prompts ++ map row.CarryForward (told net.carry))
    (stands_map place.Network (resource_row net)
    (λ x. stands_row place.Network place.Network (resource_row net x) refl refl) net.resources)
    (stands_both place.Network place.Network place.Network (map prompt_row net.prompts) (map row.CarryForward (told net.carry))
    (stands_map place.Network prompt_row (λ x. stands_row place.Network place.Network (prompt_row x) refl refl) net.prompts)
    (stands_map place.Network row.CarryForward
    (λ x. stands_row place.Network place.Network (row.CarryForward x) refl refl) (told net.carry))))))

-- The parts of a job, each behind one of a lower rank.

part_at : (last : JobPlace) (p : PartRow) → rank last < rank (behind_part p)
    → Stands (place.Job last) (row.Part p ∷ []) (place.Job (behind_part p))
unfolding fate_of may_stand below_row
part_at last p less =
    stands_row (place.Job last) (place.Job (behind_part p)) (row.Part p)
    (ap (λ b. settled (if b then fate.Stands else fate.NoForm) (row.Part p)) (lt_told (rank last) (rank (behind_part p)) less))
    refl

-- what of a job stands last, of a rank that is not higher, behind these rows
record Behind (last : JobPlace) (most : ℕ) (rows : List Row) : Type 0 where
  now : JobPlace
  low : rank now ≤ most
  stands : Stands (place.Job last) rows (place.Job now)

none_behind : (last : JobPlace) (most : ℕ) → rank last ≤ most → Behind last most []
none_behind last most low = record { now = last; low = low; stands = stands_none (place.Job last) }

part_behind : (last : JobPlace) (p : PartRow) (most : ℕ) → rank last < rank (behind_part p) → rank (behind_part p) ≤ most
    → Behind last most (row.Part p ∷ [])
part_behind last p most less low = record { now = behind_part p; low = low; stands = part_at last p less }

behind_both : (last : JobPlace) (k most : ℕ) (xs ys : List Row) → Behind last k xs
    → ((now : JobPlace) → rank now ≤ k → Behind now most ys) → Behind last most (xs ++ ys)
behind_both last k most xs ys h more =
    let rest = more h.now h.low in
    record {
      now = rest.now;
      low = rest.low;
      stands = stands_both (place.Job last) (place.Job h.now) (place.Job rest.now) xs ys h.stands rest.stands;
    }

work_behind : (w : Work) → Behind behind.Name 1 (map row.Part (work_parts w))
work_behind (Command []) = none_behind behind.Name 1 (omega arith)
work_behind (Command (c ∷ cs)) = part_behind behind.Name _ 1 (omega arith) (omega arith)
work_behind (Script path) = part_behind behind.Name _ 1 (omega arith) (omega arith)

logon_behind : (t : List ℕ) (last : JobPlace) → rank last ≤ 1 → Behind last 2 (map row.Part (logon_parts t))
logon_behind [] last low = none_behind last 2 (omega (arith, low))
logon_behind (c ∷ cs) last low = part_behind last _ 2 (omega (arith, low)) (omega arith)

cond_behind : (ops : List CondOp) (last : JobPlace) → rank last ≤ 2 → Behind last 3 (map row.Part (cond_parts ops))
cond_behind [] last low = none_behind last 3 (omega (arith, low))
cond_behind (op ∷ ops) last low = part_behind last _ 3 (omega (arith, low)) (omega arith)

recovery_behind : (r : Recovery) (last : JobPlace) → rank last ≤ 3 → Behind last 4 (map row.Part (recovery_parts r))
recovery_behind Stop last low = none_behind last 4 (omega (arith, low))
recovery_behind Continue last low = part_behind last _ 4 (omega (arith, low)) (omega arith)
recovery_behind Rerun last low = part_behind last _ 4 (omega (arith, low)) (omega arith)

parts_behind : (j : JobDraft) → Behind behind.Name 4 (part_rows j)
parts_behind j =
    behind_both behind.Name 1 4 (map row.Part (work_parts j.work)) _ (work_behind j.work)
    (λ first low.
    behind_both first 2 4 (map row.Part (logon_parts j.logon)) _ (logon_behind j.logon first low)
    (λ second high.
    behind_both second 3 4 (map row.Part (cond_parts j.cond)) (map row.Part (recovery_parts j.recovery))
    (cond_behind j.cond second high) (recovery_behind j.recovery)))

-- Jobs and streams.

-- a place in a job, in a stream, and one below which a stream may stand
abbrev InJob : Place → Type 0
InJob (place.Job last) = Unit {0}
InJob p = ⊥

abbrev InStream : Place → Type 0
InStream place.Stream = Unit {0}
InStream (place.Job last) = Unit {0}
InStream p = ⊥

abbrev InPlan : Place → Type 0
InPlan place.Plan = Unit {0}
InPlan place.Stream = Unit {0}
InPlan (place.Job last) = Unit {0}
InPlan p = ⊥

in_stream : (a : Place) → InJob a → InStream a
in_stream (place.Job last) q = tt
in_stream a q = absurd q

in_plan : (a : Place) → InStream a → InPlan a
in_plan place.Stream q = tt
in_plan (place.Job last) q = tt
in_plan a q = absurd q

job_dep : (net : Net) (d : DraftDep) → Keeps InJob (dep_row net d ∷ [])
unfolding fate_of may_stand below_row
job_dep net d (place.Job last) q =
    (place.Job behind.Deps, tt, stands_row (place.Job last) (place.Job behind.Deps) (dep_row net d) refl refl)
job_dep net d a q = absurd q

job_deps : (net : Net) (deps : List DraftDep) → Keeps InJob (dep_rows net deps)
job_deps net deps = keeps_map InJob (dep_row net) (job_dep net) deps

stream_deps : (net : Net) (deps : List DraftDep) → Stands place.Stream (dep_rows net deps) place.Stream
unfolding fate_of may_stand below_row
stream_deps net deps =
    stands_map place.Stream (dep_row net) (λ d. stands_row place.Stream place.Stream (dep_row net d) refl refl) deps

job_begins : (net : Net) (j : JobDraft) (a : Place) → InStream a
    → Stands a (row.Job (job_part net j) ∷ []) (place.Job behind.Name)
unfolding fate_of may_stand below_row
job_begins net j place.Stream q = stands_row place.Stream (place.Job behind.Name) (row.Job (job_part net j)) refl refl
job_begins net j (place.Job last) q =
    stands_row (place.Job last) (place.Job behind.Name) (row.Job (job_part net j)) refl refl
job_begins net j a q = absurd q

job_stands : (net : Net) (j : JobDraft) → Keeps InStream (job_rows net j)
job_stands net j = λ a q.
    let parts = parts_behind j in
    let deps = job_deps net j.deps (place.Job parts.now) tt in (
      deps.0,
      in_stream deps.0 deps.1,
      stands_both a (place.Job behind.Name) deps.0 (row.Job (job_part net j) ∷ []) (part_rows j ++ dep_rows net j.deps)
          (job_begins net j a q)
          (stands_both (place.Job behind.Name) (place.Job parts.now) deps.0 (part_rows j) (dep_rows net j.deps) parts.stands deps.2),
    )

stream_begins : (net : Net) (s : StreamDraft) (a : Place) → InPlan a → Stands a (row.Stream (stream_part net s) ∷ []) place.Stream
unfolding fate_of may_stand below_row
stream_begins net s place.Plan q = stands_row place.Plan place.Stream (row.Stream (stream_part net s)) refl refl
stream_begins net s place.Stream q = stands_row place.Stream place.Stream (row.Stream (stream_part net s)) refl refl
stream_begins net s (place.Job last) q =
    stands_row (place.Job last) place.Stream (row.Stream (stream_part net s)) refl refl
stream_begins net s a q = absurd q

stream_stands : (net : Net) (s : StreamDraft) → Keeps InPlan (stream_rows net s)
stream_stands net s = λ a q.
    let jobs = keeps_each InStream (job_rows net) (job_stands net) s.jobs place.Stream tt in (
      jobs.0,
      in_plan jobs.0 jobs.1,
      stands_both a place.Stream jobs.0 (row.Stream (stream_part net s) ∷ [])
          (dep_rows net s.deps ++ flat_map (job_rows net) s.jobs) (stream_begins net s a q)
          (stands_both place.Stream place.Stream jobs.0 (dep_rows net s.deps) (flat_map (job_rows net) s.jobs)
          (stream_deps net s.deps) jobs.2),
    )

-- The whole.

steps_begin : (a : Place) → InPlan a → Stands a (row.Steps ∷ []) place.Steps
unfolding fate_of may_stand below_row
steps_begin place.Plan q = stands_row place.Plan place.Steps row.Steps refl refl
steps_begin place.Stream q = stands_row place.Stream place.Steps row.Steps refl refl
steps_begin (place.Job last) q = stands_row (place.Job last) place.Steps row.Steps refl refl
steps_begin a q = absurd q

next_stands : Stands place.Steps (row.Step step.Next ∷ []) place.Steps
unfolding fate_of may_stand below_row
next_stands = stands_row place.Steps place.Steps (row.Step step.Next) refl refl

end_stands : (a : Place) → InPlan a → Stands a end_rows place.Steps
end_stands a q = stands_both a place.Steps place.Steps (row.Steps ∷ []) (row.Step step.Next ∷ []) (steps_begin a q) next_stands

plan_begins : Stands place.Network (row.Plan ∷ []) place.Plan
unfolding fate_of may_stand below_row
plan_begins = stands_row place.Network place.Plan row.Plan refl refl

pub all_stand : (net : Net) (m : Node) (others : List Node) (drafts : List StreamDraft)
    → placed_from place.Nothing (all_rows net m others drafts) ≡ all_rows net m others drafts
unfolding placed_from
all_stand net m others drafts =
    let streams = keeps_each InPlan (stream_rows net) (stream_stands net) drafts place.Plan tt in
    let whole : Stands place.Nothing (all_rows net m others drafts) place.Steps =
    stands_both place.Nothing place.Network place.Steps (front_rows net m others) (tail_rows net drafts)
    (front_stands net m others)
    (stands_both place.Network place.Plan place.Steps (row.Plan ∷ []) (plan_rows net drafts ++ end_rows) plan_begins
    (stands_both place.Plan streams.0 place.Steps (plan_rows net drafts) end_rows streams.2 (end_stands streams.0 streams.1))) in
    ap (placed_from place.Nothing) (sym (append-nil (all_rows net m others drafts)))
    ∙ whole [] ∙ append-nil (all_rows net m others drafts)
