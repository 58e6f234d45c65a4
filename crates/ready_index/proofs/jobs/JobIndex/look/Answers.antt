use Rattle.std.proofs.Common.{◌∙◌, subst, sym}
use Rattle.std.proofs.lemmas.Result.{on_ok_weaker}
use Rattle.model.specs.History.{view_of}
use Rattle.owner_fold.specs.DocPlaces.{stream_job}
use Rattle.ready_index.specs.Watched.{AddsOne}
use Rattle.ready_index.proofs.Standings.{candidate_added, first_is_awaited, not_in_play, watch_added}
use Rattle.ready_index.proofs.jobs.JobIndex.look.Goals as goal

pub returns-then-not-is_in_play : goal.returns-then-not-is_in_play
returns-then-not-is_in_play c =
    not_in_play (view_of c.args.o.now) c.args.w (stream_job c.args.parent.now c.args.doc.now) c.args.self.now
    c.requires.planned (sym c.is_in_play.ensures ∙ c.if-not-is_in_play.true)

pub returns-in-Some : goal.returns-in-Some
returns-in-Some c =
    on_ok_weaker c.add.result
    (λ added.
    watch_added (view_of c.args.o.now) c.args.w (stream_job c.args.parent.now c.args.doc.now) c.in-Some.target
    c.args.self.now c.add.new.self c.requires.planned
    (first_is_awaited (view_of c.args.o.now) (stream_job c.args.parent.now c.args.doc.now) c.in-Some.target
    (sym c.in-Some.ensures))
    (subst (λ n. AddsOne c.args.self.now.watches c.add.new.self c.in-Some.target n) (λ j. (c.doc.view_is j).no) added))
    c.add.ensures

pub returns-in-None : goal.returns-in-None
returns-in-None c =
    on_ok_weaker c.add-in-None.result
    (λ grown.
    candidate_added (view_of c.args.o.now) c.args.w c.place.result (stream_job c.args.parent.now c.args.doc.now)
    c.args.self.now c.add-in-None.new.self c.requires.planned c.requires.owned c.place.ensures grown)
    c.add-in-None.ensures
