use Rattle.std.proofs.Common.{◌≡◌, ◌∙◌, Err, Some, ap, get_or, refl, rules}
use Rattle.node_commands.specs.Forms.{requested, service_in}
use Rattle.node_commands.specs.declared.forms.Service.TheVariants.{Ask}
use Rattle.node_commands.proofs.Coming.{command_short, operands, same_request, service_unread}
use Rattle.node_commands.proofs.serving.serve.Goals as goal

pub at_station-requires-clause-short : goal.at_station-requires-clause-short
at_station-requires-clause-short g c = λ is.
    let last : get_or c.args.words.now 2 c.last-item.result ≡ c.last-item.result = search rules in
    let asked : service_in c.args.words.now ≡ Some Ask = c.requires ∙ ap Some is in
    command_short c.args.words.now c.last-item.result asked last

pub returns-in-Ok-clause-service : goal.returns-in-Ok-clause-service
returns-in-Ok-clause-service g c = λ request requests.
    let I = g.I.Source in
    let name : get_or c.args.words.now 1 c.name-item.result ≡ c.name-item.result = search rules in
    let last : get_or c.args.words.now 2 c.last-item.result ≡ c.last-item.result = search rules in
    let is = operands c.args.words.now c.args.service c.name-item.result c.last-item.result request c.requires name last requests in
    same_request (requested c.name-item.result c.last-item.result c.args.service) request is
    (c.at_station.ensures.service (I.stream c.args.input.now) (I.stream c.read_workload.new.input)
    (I.faults c.args.input.now) (I.faults c.read_workload.new.input) c.in-Ok.ensures.read)

pub returns-in-Err-clause-service : goal.returns-in-Err-clause-service
returns-in-Err-clause-service g c = λ request requests.
    service_unread _ _ _ _ request _ _ _ _ _ _ _ _ _ c.in-Err.why (refl, refl, refl, refl, refl) c.in-Err.ensures.why
    (λ is. c.in-Err.ensures.failed (ap Err is)) c.tell_unread.ensures.told
