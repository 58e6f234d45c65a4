use Rattle.std.proofs.Common.{◌≡◌, ◌∙◌, None, subst, sym}
use Rattle.model.specs.Types.{Net}
use Rattle.network_tree.specs.Faults.{net_fault}
use Rattle.night_records.specs.Readings.{IsToldOf, node_names, own_fault}
use Rattle.night_records.proofs.Told.{defined_is}
use Rattle.night_records.proofs.reading.defined.Goals as goal

pub steps_over-requires-clause-accepted : goal.steps_over-requires-clause-accepted
steps_over-requires-clause-accepted c =
    subst (λ (n : Net). net_fault n ≡ None) (sym c.in_ok-net.ensures) c.net.ensures.accepted

pub returns-in-Ok-clause-read : goal.returns-in-Ok-clause-read
returns-in-Ok-clause-read c =
    defined_is c.args.workload c.args.text.now c.script.result c.in_ok-net.net c.in-Ok.steps c.script.ensures.net
    c.script.ensures.plans c.script.ensures.steps (c.in_ok-net.ensures ∙ c.net.ensures.value) c.in-Ok.ensures.steps

pub returns-in-Ok-clause-none : goal.returns-in-Ok-clause-none
returns-in-Ok-clause-none c =
    subst (λ (n : Net). own_fault (node_names n) c.args.text.now ≡ None) (c.in_ok-net.ensures ∙ c.net.ensures.value)
    c.in-Ok.ensures.none

pub returns-in-Ok-clause-accepted : goal.returns-in-Ok-clause-accepted
returns-in-Ok-clause-accepted c =
    subst (λ (n : Net). net_fault n ≡ None) (sym (c.script.ensures.net ∙ c.in_ok-net.ensures)) c.net.ensures.accepted

pub returns-in-Err-clause-fault : goal.returns-in-Err-clause-fault
returns-in-Err-clause-fault c =
    subst (λ (n : Net). IsToldOf (own_fault (node_names n) c.args.text.now) c.in-Err.fault)
    (c.in_ok-net.ensures ∙ c.net.ensures.value) c.in-Err.ensures.fault
