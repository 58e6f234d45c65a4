use Rattle.std.proofs.Common.{◌+◌, ◌||◌, ◌∙◌, ap, drop}
use Rattle.record_faults.specs.Known.{has_key, has_name, station_of, stations, resources, prompts}
use Rattle.record_faults.specs.Noted.{is_key, is_name}
use Rattle.record_faults.proofs.Walks.{left_at}
use Rattle.record_faults.proofs.NamedRows.{picked_on, resources_on, prompts_on, picked_all, resources_all, prompts_all}
use Rattle.record_faults.proofs.lookups.Named.of_rows.Goals as goal

pub loop-row-preserved : goal.loop-row-preserved
loop-row-preserved c =
    let rows = c.args.rows.now in
    let i = c.loop-row.row-index in
    let r = c.row-item.result in
    let left = left_at rows i r c.loop-row-test.true c.row-item.is in
    record {
      stations = picked_on station_of (stations rows) c.loop-row.stations.items c.add_station.new.all.items (drop i rows)
          (drop (i + 1) rows) r left c.loop-row.invariant.stations c.in_ok-add_station.ensures;
      resources = λ k.
          resources_on k (has_key (resources rows) k) c.loop-row.resources c.note.new.self (drop i rows)
          (drop (i + 1) rows) r left (c.loop-row.invariant.resources k)
          (c.in_ok-note.ensures k ∙ ap (λ o. has_key c.loop-row.resources k || is_key o k) c.resource_of.ensures);
      prompts = λ n.
          prompts_on n (has_name (prompts rows) n) c.loop-row.prompts c.note-in-loop-row.new.self (drop i rows)
          (drop (i + 1) rows) r left (c.loop-row.invariant.prompts n)
          (c.in_ok-note-2.ensures n ∙ ap (λ o. has_name c.loop-row.prompts n || is_name o n) c.prompt_of.ensures);
    }

pub returns : goal.returns
returns c =
    let rows = c.args.rows.now in
    let i = c.loop-row.row-index in
    record {
      stations = picked_all station_of (stations rows) c.loop-row.stations.items rows i c.loop-row-test.false c.loop-row.invariant.stations;
      resources = λ k.
          resources_all k (has_key (resources rows) k) c.loop-row.resources rows i c.loop-row-test.false
          (c.loop-row.invariant.resources k);
      prompts = λ n.
          prompts_all n (has_name (prompts rows) n) c.loop-row.prompts rows i c.loop-row-test.false
          (c.loop-row.invariant.prompts n);
    }
