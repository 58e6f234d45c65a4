use Rattle.std.proofs.Common.{◌∙◌, List, ℕ, bytes_eq, subst, sym}
use Rattle.record_script.proofs.Readings.{few_placed}
use Rattle.record_script.specs.Counted.{AreNew}
use Rattle.record_script.specs.Steps.{steps_by}
use Rattle.night_records.specs.Readings.{node_names, own_fault}
use Rattle.night_records.proofs.Names.{names_new}
use Rattle.night_records.proofs.Told.{inside_of, own_is, told_of}
use Rattle.night_records.proofs.reading.steps_over.Goals as goal

pub returns-in-Some-clause-fault : goal.returns-in-Some-clause-fault
returns-in-Some-clause-fault c =
    told_of (own_fault (node_names c.args.net.now) c.args.text.now) (c.in-Some.line, c.in-Some.kind) c.told.result
    (own_is c.args.text.now c.as_slice-rows.result.now c.as_slice-names.result.now (node_names c.args.net.now) _
    (c.as_slice-rows.ensures ∙ c.in_ok-placed.ensures) (c.as_slice-names.ensures ∙ c.in_ok-list.ensures)
    c.in_ok-line.ensures
    ∙ c.in-Some.is) c.told.ensures

pub steps_by-requires-clause-few : goal.steps_by-requires-clause-few
steps_by-requires-clause-few c =
    few_placed c.args.text.now c.as_slice-rows.result.now (c.as_slice-rows.ensures ∙ c.in_ok-placed.ensures) c.requires.few

pub steps_by-requires-clause-once : goal.steps_by-requires-clause-once
steps_by-requires-clause-once c =
    subst (λ (l : List (List ℕ)). AreNew bytes_eq l) (sym (c.as_slice-names.ensures ∙ c.in_ok-list.ensures))
    (names_new c.args.net.now c.requires.accepted)

pub returns-clause-steps : goal.returns-clause-steps
returns-clause-steps c =
    c.in_ok-steps_by-in-None.ensures
    ∙ (λ i. steps_by ((c.as_slice-names.ensures ∙ c.in_ok-list.ensures) i) ((c.as_slice-rows.ensures ∙ c.in_ok-placed.ensures) i))

pub returns-clause-none : goal.returns-clause-none
returns-clause-none c =
    own_is c.args.text.now c.as_slice-rows.result.now c.as_slice-names.result.now (node_names c.args.net.now) _
    (c.as_slice-rows.ensures ∙ c.in_ok-placed.ensures) (c.as_slice-names.ensures ∙ c.in_ok-list.ensures)
    c.in_ok-line.ensures
    ∙ c.in-None.is

pub returns-clause-inside : goal.returns-clause-inside
returns-clause-inside c =
    inside_of c.args.net.now c.as_slice-names.result.now c.as_slice-rows.result.now _ _
    (c.as_slice-names.ensures ∙ c.in_ok-list.ensures) c.in_ok-line.ensures c.in-None.is c.in_ok-steps_by-in-None.ensures
