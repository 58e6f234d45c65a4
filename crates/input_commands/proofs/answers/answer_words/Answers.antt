use Rattle.std.proofs.Common.{◌≡◌, ◌∙◌, ℕ, Option, Some, sym, ap, refl, inl}
use Rattle.sample_record.specs.Samples.{sample_of}
use Rattle.input_commands.specs.declared.words.Asked.{Asked}
use Rattle.input_commands.specs.declared.words.Asked.TheVariants as asks
use Rattle.input_commands.specs.declared.words.Telling.TheVariants as tells
use Rattle.input_commands.specs.declared.words.Wanted.{Wanted}
use Rattle.input_commands.specs.declared.words.Wanted.TheVariants as wants
use Rattle.input_commands.specs.Dues.{IsReply, ReadCallsFor}
use Rattle.input_commands.proofs.Calling.{reply_not_sink, reply_of_input, by_value, by_two}
use Rattle.input_commands.proofs.Saying.{answer_input, answer_sample, answer_words, no_silence}
use Rattle.input_commands.proofs.SoundTexts.{history_written}
use Rattle.input_commands.proofs.answers.answer_words.Goals as goal

same_wanted : (a b : Wanted) → ◌≡◌ {A = Option Asked} (Some (asks.Input a)) (Some (asks.Input b)) → a ≡ b
same_wanted a b e = cc

pub answer-requires-in-Ok-reply_to_input : goal.answer-requires-in-Ok-reply_to_input
answer-requires-in-Ok-reply_to_input g c = reply_not_sink _ _ _ _ c.in-Ok-reply_to_input.ensures.called

pub returns-in-None-clause-due : goal.returns-in-None-clause-due
returns-in-None-clause-due g c = λ _ _.
    answer_words _ _ _ _ _ _ _ _ _ (sym c.read_words.ensures.form ∙ c.in-None.is) c.say.ensures.said refl

pub returns-in-Ok-clause-due : goal.returns-in-Ok-clause-due
returns-in-Ok-clause-due g c = λ _ _.
    answer_sample _ _ _ _ _ _ _ _ _ c.in-Some-Sample.jobs c.in-Some-Sample.seed c.in-Ok.reply
    (sym c.read_words.ensures.form ∙ c.in-Some-Sample.is ∙ ap Some c.in-Some-Sample.field-0-is) c.in-Ok.ensures.status
    (by_two (λ (j k : ℕ). c.in-Ok.reply.text ≡ sample_of j k) _ _ _ _ c.in-Some-Sample.jobs-is c.in-Some-Sample.seed-is
    c.in-Ok.ensures.text) c.in-Ok.ensures.world c.answer.ensures.said c.answer.ensures.with_it c.answer.ensures.alone

pub returns-in-Ok-reply_to_input-clause-due : goal.returns-in-Ok-reply_to_input-clause-due
returns-in-Ok-reply_to_input-clause-due g c = λ _ _.
    answer_input _ _ _ _ _ _ _ _ _ c.in-Some-Input.wanted c.in-Ok-reply_to_input.reply
    (sym c.read_words.ensures.form ∙ c.in-Some-Input.is ∙ ap Some c.in-Some-Input.field-0-is)
    (by_value (λ (w : Wanted). IsReply
    (ReadCallsFor w (g.I.Source.stream c.args.input.now) (g.I.Source.stream c.reply_to_input.new.input))
    c.in-Ok-reply_to_input.reply) _ _ c.in-Some-Input.wanted-is c.in-Ok-reply_to_input.ensures.called)
    c.answer-in-Ok-reply_to_input.ensures.said c.answer-in-Ok-reply_to_input.ensures.with_it
    c.answer-in-Ok-reply_to_input.ensures.alone

pub returns-in-Ok-reply_to_input-clause-source_failed : goal.returns-in-Ok-reply_to_input-clause-source_failed
returns-in-Ok-reply_to_input-clause-source_failed g c = λ e.
    absurd (no_silence _ _ _ _ _ _ _ (reply_of_input _ _ _ _ c.in-Ok-reply_to_input.ensures.called)
    c.answer-in-Ok-reply_to_input.ensures.said (inl e))

pub returns-in-Ok-reply_to_input-clause-silent : goal.returns-in-Ok-reply_to_input-clause-silent
returns-in-Ok-reply_to_input-clause-silent g c = λ e.
    absurd (no_silence _ _ _ _ _ _ _ (reply_of_input _ _ _ _ c.in-Ok-reply_to_input.ensures.called)
    c.answer-in-Ok-reply_to_input.ensures.said e)

pub returns-in-Ok-reply_to_input-clause-alone : goal.returns-in-Ok-reply_to_input-clause-alone
returns-in-Ok-reply_to_input-clause-alone g c = λ e.
    absurd (no_silence _ _ _ _ _ _ _ (reply_of_input _ _ _ _ c.in-Ok-reply_to_input.ensures.called)
    c.answer-in-Ok-reply_to_input.ensures.said e)

pub returns-in-Ok-reply_to_input-clause-history : goal.returns-in-Ok-reply_to_input-clause-history
returns-in-Ok-reply_to_input-clause-history g c = λ zero asked.
    let is : c.in-Some-Input.wanted ≡ wants.Night tells.History =
    same_wanted _ _ (sym (sym c.read_words.ensures.form ∙ c.in-Some-Input.is ∙ ap Some c.in-Some-Input.field-0-is) ∙ asked) in
    history_written _ _ _ _ _ _ _ c.answer-in-Ok-reply_to_input.ensures.said zero
    (c.in-Ok-reply_to_input.ensures.history (c.in-Some-Input.wanted-is ∙ is))
