use Rattle.std.proofs.Common.{◌≡◌, ◌<◌, List, ap, get_or, length, refl, slice_get, subst, sym, ◌∙◌}
use Rattle.std.proofs.lemmas.List.{get_or_default}
use Rattle.std.proofs.lemmas.Option.{slice_get_read}
use Rattle.composer_parser.specs.declared.Defs.{Defs}
use Rattle.composer_parser.specs.declared.Lined.{Lined}
use Rattle.composer_parser.specs.declared.ScheduleDef.{ScheduleDef}
use Rattle.plan_builder.proofs.Lists.{stream_more}
use Rattle.plan_builder.proofs.day_drafts.drafts_by.Goals as goal

pub loop-n-preserved : goal.loop-n-preserved
loop-n-preserved c =
    let streams = c.args.streams.now in
    let i = c.loop-n.n-index in
    let n = get_or streams i 0 in
    let s = c.index-schedules-place.result in
    let list = c.as_slice-schedules.result.now in
    let same : list ≡ c.args.w.now.schedules =
    c.as_slice-schedules.ensures
    ∙ ap (λ (d : Defs). d.schedules) (c.defs.ensures ∙ c.requires.same) in
    let low : n < length list =
    subst (λ (l : List (Lined ScheduleDef)). n < length l) (sym same) (c.requires.low i 0 c.loop-n-test.true) in
    stream_more c.args.w.now c.args.plan.now streams i n c.loop-n.drafts c.push.new.self s
    c.in_ok-stream_draft.field-0 c.loop-n-test.true (get_or_default streams i 0 n c.loop-n-test.true)
    c.in_ok-push.ensures.ok
    (ap (λ (l : List (Lined ScheduleDef)). slice_get l n) (sym same)
    ∙ slice_get_read list (length list) n s refl low c.index-schedules-place.is)
    c.loop-n.invariant c.in_ok-stream_draft.ensures
