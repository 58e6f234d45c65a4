use Rattle.std.proofs.Common.{◌≡◌, ◌∙◌, subst, sym}
use Rattle.std.proofs.lemmas.Result.{on_ok_weaker}
use Rattle.model.specs.Types.{Stream}
use Rattle.model.specs.Words.{insert_once}
use Rattle.model.specs.History.{view_of}
use Rattle.ready_index.specs.Awaited.{held_back_by}
use Rattle.ready_index.specs.Watched.{AddsOne}
use Rattle.ready_index.proofs.Elements.{first_among}
use Rattle.ready_index.proofs.Releasing.{not_waiting, stream_added, stream_watches, waits_planned}
use Rattle.ready_index.proofs.releases.Releases.look.Goals as goal

pub returns-then-not-waits_in : goal.returns-then-not-waits_in
returns-then-not-waits_in c =
    not_waiting (view_of c.args.o.now) c.args.w c.args.doc.now.no c.args.self.now
    (waits_planned (view_of c.args.o.now) c.args.w c.args.doc.now c.requires
    ∙ sym c.waits_in.ensures ∙ c.if-not-waits_in.true)

pub returns-in-Some : goal.returns-in-Some
returns-in-Some c =
    on_ok_weaker c.add.result
    (λ added.
    stream_watches (view_of c.args.o.now) c.args.w c.args.doc.now.no c.in-Some.target c.args.self.now c.add.new.self
    (first_among (held_back_by (view_of c.args.o.now) (Stream c.args.doc.now.no)) c.in-Some.target
    (sym c.in-Some.ensures))
    (subst (λ n. AddsOne c.args.self.now.watches c.add.new.self c.in-Some.target n) (λ j. (c.doc.view_is j).no) added))
    c.add.ensures

pub returns-in-None : goal.returns-in-None
returns-in-None c =
    on_ok_weaker c.add-in-None.result
    (λ grown.
    stream_added (view_of c.args.o.now) c.args.w c.args.doc.now.no c.args.self.now c.add-in-None.new.self
    (subst (λ n. c.add-in-None.new.self ≡ insert_once n c.args.self.now.candidates) (λ j. (c.doc.view_is j).no) grown))
    c.add-in-None.ensures
