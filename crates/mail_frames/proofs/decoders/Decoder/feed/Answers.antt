use Rattle.std.proofs.Common.{ℕ, List, ◌≡◌, ◌++◌, ◌∙◌, ap, sym, subst, length, take, ◌+◌}
use Rattle.std.proofs.lemmas.Result.{IfOk-weaker}
use Rattle.std.specs.Prelude.{Option, None, Some}
use Rattle.mail_frames.specs.Spelling.{IsSpelled}
use Rattle.mail_frames.specs.Streams.{IsBadAt}
use Rattle.mail_frames.specs.Decoding.{Decoding, Took}
use Rattle.mail_frames.specs.Pieces.{Feeds, Breaks}
use Rattle.mail_frames.specs.declared.frames.Frame.{Frame}
use Rattle.mail_frames.specs.declared.decoders.Fed.{Fed}
use Rattle.mail_frames.proofs.Reached.{piece_whole, piece_broken}
use Rattle.mail_frames.proofs.Feeding.{took_frames, took_fault, took_more, took_spent, frames_more, fault_more}
use Rattle.mail_frames.proofs.decoders.Decoder.feed.Goals as goal

-- ---- after a fault

pub returns-in-Some-clause-takes : goal.returns-in-Some-clause-takes
returns-in-Some-clause-takes c = λ stream given took. (
    let old = c.args.self.now in
    let spent : old.bad ≡ Some c.in-Some.place = sym (ap (λ (d : Decoding). d.bad) c.self.view_is) ∙ c.in-Some.is in
    subst (λ (fs : List Frame). Took old (stream ++ c.args.piece.now) (given ++ fs)) (sym c.new.ensures)
    (took_spent old c.in-Some.place c.args.piece.now stream given spent took)
    )

pub returns-in-Some-clause-frames : goal.returns-in-Some-clause-frames
returns-in-Some-clause-frames c = λ stream given took.
    took_frames c.args.self.now (stream ++ c.args.piece.now) (given ++ c.new.result)
    (returns-in-Some-clause-takes c stream given took)

pub returns-in-Some-clause-bad : goal.returns-in-Some-clause-bad
returns-in-Some-clause-bad c = λ stream given took. (
    let old = c.args.self.now in
    let spent : old.bad ≡ Some c.in-Some.place = sym (ap (λ (d : Decoding). d.bad) c.self.view_is) ∙ c.in-Some.is in
    subst (λ (o : Option ℕ). IsBadAt (stream ++ c.args.piece.now) o) spent
    (took_fault old (stream ++ c.args.piece.now) (given ++ c.new.result)
    (returns-in-Some-clause-takes c stream given took))
    )

-- ---- what the scan says of the kept bytes and the piece

pub finish-requires-clause-whole : goal.finish-requires-clause-whole
finish-requires-clause-whole c =
    subst (λ (d : Decoding). IsSpelled (d.rest ++ take c.scan-found.result.count c.args.piece.now)) c.self.view_is
    (piece_whole c.self.inside.place c.self.inside.kept.items c.args.piece.now c.scan-found.result.count
    c.scan-found.result.seen c.self.invariant c.scan-found.ensures c.in-Whole.is)

pub stop-requires-clause-broken : goal.stop-requires-clause-broken
stop-requires-clause-broken c =
    subst (λ (d : Decoding). Breaks (d.rest ++ c.args.piece.now) (length d.rest + c.scan-found.result.count))
    c.self.view_is
    (piece_broken c.self.inside.place c.self.inside.kept.items c.args.piece.now c.scan-found.result.count
    c.scan-found.result.seen c.self.invariant c.scan-found.ensures c.in-Bad.is)

-- ---- the piece leaves a frame open

pub returns-in-Open-clause-takes : goal.returns-in-Open-clause-takes
returns-in-Open-clause-takes c =
    let old = c.args.self.now in
    let new = c.go_on.new.self in
    let piece = c.args.piece.now in
    let good : old.bad ≡ None = sym (ap (λ (d : Decoding). d.bad) c.self.view_is) ∙ c.in_default.is in
    IfOk-weaker c.go_on.result (λ (fed : Fed). Feeds old piece fed.frames fed.bad new) _
    (λ (fed : Fed) h stream given took. took_more old new piece stream fed.frames given fed.bad good h took)
    c.go_on.ensures.ok

pub returns-in-Open-clause-frames : goal.returns-in-Open-clause-frames
returns-in-Open-clause-frames c =
    let old = c.args.self.now in
    let new = c.go_on.new.self in
    let piece = c.args.piece.now in
    let good : old.bad ≡ None = sym (ap (λ (d : Decoding). d.bad) c.self.view_is) ∙ c.in_default.is in
    IfOk-weaker c.go_on.result (λ (fed : Fed). Feeds old piece fed.frames fed.bad new) _
    (λ (fed : Fed) h. frames_more old new piece fed.frames fed.bad good h) c.go_on.ensures.ok

pub returns-in-Open-clause-bad : goal.returns-in-Open-clause-bad
returns-in-Open-clause-bad c =
    let old = c.args.self.now in
    let new = c.go_on.new.self in
    let piece = c.args.piece.now in
    let good : old.bad ≡ None = sym (ap (λ (d : Decoding). d.bad) c.self.view_is) ∙ c.in_default.is in
    IfOk-weaker c.go_on.result (λ (fed : Fed). Feeds old piece fed.frames fed.bad new) _
    (λ (fed : Fed) h. fault_more old new piece fed.frames fed.bad good h) c.go_on.ensures.ok

-- ---- the piece completes a frame

pub returns-in-Whole-clause-takes : goal.returns-in-Whole-clause-takes
returns-in-Whole-clause-takes c =
    let old = c.args.self.now in
    let new = c.finish.new.self in
    let piece = c.args.piece.now in
    let good : old.bad ≡ None = sym (ap (λ (d : Decoding). d.bad) c.self.view_is) ∙ c.in_default.is in
    IfOk-weaker c.finish.result (λ (fed : Fed). Feeds old piece fed.frames fed.bad new) _
    (λ (fed : Fed) h stream given took. took_more old new piece stream fed.frames given fed.bad good h took)
    c.finish.ensures.ok

pub returns-in-Whole-clause-frames : goal.returns-in-Whole-clause-frames
returns-in-Whole-clause-frames c =
    let old = c.args.self.now in
    let new = c.finish.new.self in
    let piece = c.args.piece.now in
    let good : old.bad ≡ None = sym (ap (λ (d : Decoding). d.bad) c.self.view_is) ∙ c.in_default.is in
    IfOk-weaker c.finish.result (λ (fed : Fed). Feeds old piece fed.frames fed.bad new) _
    (λ (fed : Fed) h. frames_more old new piece fed.frames fed.bad good h) c.finish.ensures.ok

pub returns-in-Whole-clause-bad : goal.returns-in-Whole-clause-bad
returns-in-Whole-clause-bad c =
    let old = c.args.self.now in
    let new = c.finish.new.self in
    let piece = c.args.piece.now in
    let good : old.bad ≡ None = sym (ap (λ (d : Decoding). d.bad) c.self.view_is) ∙ c.in_default.is in
    IfOk-weaker c.finish.result (λ (fed : Fed). Feeds old piece fed.frames fed.bad new) _
    (λ (fed : Fed) h. fault_more old new piece fed.frames fed.bad good h) c.finish.ensures.ok

-- ---- the piece breaks a frame

pub returns-in-Bad-clause-takes : goal.returns-in-Bad-clause-takes
returns-in-Bad-clause-takes c = λ stream given took. (
    let old = c.args.self.now in
    let fed = c.stop.result in
    let good : old.bad ≡ None = sym (ap (λ (d : Decoding). d.bad) c.self.view_is) ∙ c.in_default.is in
    took_more old c.stop.new.self c.args.piece.now stream fed.frames given fed.bad good c.stop.ensures took
    )

pub returns-in-Bad-clause-frames : goal.returns-in-Bad-clause-frames
returns-in-Bad-clause-frames c =
    let old = c.args.self.now in
    let fed = c.stop.result in
    let good : old.bad ≡ None = sym (ap (λ (d : Decoding). d.bad) c.self.view_is) ∙ c.in_default.is in
    frames_more old c.stop.new.self c.args.piece.now fed.frames fed.bad good c.stop.ensures

pub returns-in-Bad-clause-bad : goal.returns-in-Bad-clause-bad
returns-in-Bad-clause-bad c =
    let old = c.args.self.now in
    let fed = c.stop.result in
    let good : old.bad ≡ None = sym (ap (λ (d : Decoding). d.bad) c.self.view_is) ∙ c.in_default.is in
    fault_more old c.stop.new.self c.args.piece.now fed.frames fed.bad good c.stop.ensures
