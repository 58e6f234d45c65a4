use Rattle.std.proofs.Common.{◌+◌, ◌∙◌, ap, map}
use Rattle.lemmas.proofs.Results.{if_ok}
use Rattle.night_records.specs.Composers.{composer_text, text_before_steps}
use Rattle.night_records.proofs.Told.{behind_is}
use Rattle.night_records.proofs.composers.composer_text.Goals as goal

pub returns : goal.returns
unfolding composer_text
returns c =
    if_ok _ _ c.before_steps.result
    (λ s is.
    is ∙ ap text_before_steps
    (behind_is (λ x. x.now) c.deref.result.now (c.args.place + 1) _
    (ap (map (λ x. x.now)) c.deref.ensures.value ∙ c.in_ok-texts.ensures))) c.before_steps.ensures
