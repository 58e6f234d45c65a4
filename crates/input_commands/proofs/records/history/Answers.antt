use Rattle.std.proofs.Common.{◌∙◌}
use Rattle.std.proofs.lemmas.Result.{IfOk-weaker}
use Rattle.input_commands.proofs.SoundTexts.{sound_text}
use Rattle.input_commands.proofs.Tellings.{history_told}
use Rattle.input_commands.proofs.records.history.Goals as goal

pub returns-clause-text : goal.returns-clause-text
returns-clause-text c =
    IfOk-weaker c.print_history.result _ _
    (λ text is x stands. history_told c.args.world.now x _ _ _ text (c.net-2.ensures.value ∙ c.net.ensures) c.history.ensures
    c.starts.ensures stands is) c.print_history.ensures.text

pub returns-clause-sound : goal.returns-clause-sound
returns-clause-sound c =
    sound_text c.args.world.now _ _ _ c.print_history.result (c.net-2.ensures.value ∙ c.net.ensures) c.history.ensures
    c.starts.ensures c.requires c.is_sound.ensures c.print_history.ensures.text c.print_history.ensures.range
