use Rattle.std.proofs.Common.{◌+◌, ◌∙◌, ◌++◌, [], ap, drop}
use Rattle.std.specs.Prelude.{filter_map}
use Rattle.std.specs.List.{cons_option}
use Rattle.record_faults.specs.Known.{station_name, resource_of, prompt_of}
use Rattle.record_faults.proofs.Walks.{left_at}
use Rattle.record_faults.proofs.NamedRows.{picked_on, picked_all}
use Rattle.record_script.proofs.numbers.Numbers.of_rows.Goals as goal

pub loop-row-preserved : goal.loop-row-preserved
loop-row-preserved c =
    let rows = c.args.rows.now in
    let i = c.loop-row.row-index in
    let r = c.row-item.result in
    let left = left_at rows i r c.loop-row-test.true c.row-item.is in
    record {
      stations = picked_on station_name (filter_map station_name rows) c.loop-row.stations c.add_some.new.self (drop i rows)
          (drop (i + 1) rows) r left c.loop-row.invariant.stations
          (c.in_ok-add_some.ensures ∙ ap (λ o. c.loop-row.stations ++ cons_option o []) c.station_name.ensures);
      resources = picked_on resource_of (filter_map resource_of rows) c.loop-row.resources c.add_some-in-loop-row.new.self
          (drop i rows) (drop (i + 1) rows) r left c.loop-row.invariant.resources
          (c.in_ok-add_some-2.ensures ∙ ap (λ o. c.loop-row.resources ++ cons_option o []) c.resource_of.ensures);
      prompts = picked_on prompt_of (filter_map prompt_of rows) c.loop-row.prompts c.add_some-in-loop-row-2.new.self (drop i rows)
          (drop (i + 1) rows) r left c.loop-row.invariant.prompts
          (c.in_ok-add_some-3.ensures ∙ ap (λ o. c.loop-row.prompts ++ cons_option o []) c.prompt_of.ensures);
    }

pub returns : goal.returns
returns c =
    let rows = c.args.rows.now in
    let i = c.loop-row.row-index in
    let stations = picked_all station_name (filter_map station_name rows) c.loop-row.stations rows i c.loop-row-test.false c.loop-row.invariant.stations in
    let resources = picked_all resource_of (filter_map resource_of rows) c.loop-row.resources rows i c.loop-row-test.false c.loop-row.invariant.resources in
    let prompts = picked_all prompt_of (filter_map prompt_of rows) c.loop-row.prompts rows i c.loop-row-test.false c.loop-row.invariant.prompts in
    λ j. record { stations = stations j; resources = resources j; prompts = prompts j }
