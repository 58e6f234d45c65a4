use Rattle.std.proofs.Common.{◌≡◌}
use Rattle.std.proofs.lemmas.Result.{IfOk-weaker}
use Rattle.model.specs.Types.{Body}
use Rattle.model.specs.History.{view_of}
use Rattle.model.specs.Turn.{answer, obeyed_as}
use Rattle.batchman_core.proofs.Answered.{declined, document_there, obeyed}
use Rattle.batchman_core.proofs.answers.answer_to.Goals as goal

pub returns-in-Decline : goal.returns-in-Decline
returns-in-Decline c =
    declined c.args.net.now (view_of c.args.o.now) c.args.me c.args.a c.args.cmd.now c.args.place c.in-Decline.why
    c.requires c.in-Decline.ensures

pub obeyed-requires : goal.obeyed-requires
obeyed-requires c =
    document_there c.args.net.now (view_of c.args.o.now) c.args.me c.args.cmd.now c.in-Obey.ensures

pub returns-in-Obey : goal.returns-in-Obey
returns-in-Obey c =
    let V = view_of c.args.o.now in
    IfOk-weaker c.obeyed.result (λ (b : Body). b ≡ obeyed_as V c.args.a c.args.place c.args.cmd.now)
    (λ (b : Body). b ≡ answer c.args.net.now V c.args.me c.args.a c.args.cmd.now)
    (obeyed c.args.net.now V c.args.me c.args.a c.args.cmd.now c.args.place c.requires c.in-Obey.ensures)
    c.obeyed.ensures
