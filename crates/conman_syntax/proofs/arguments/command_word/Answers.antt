use Rattle.std.proofs.Common.{◌∙◌, ap}
use Rattle.std.specs.List.{position_or_len}
use Rattle.conman_syntax.specs.Arguments.{ends_word}
use Rattle.conman_syntax.proofs.ArgumentBounds.{word_boundary}
use Rattle.conman_syntax.proofs.arguments.command_word.Goals as goal

pub split_at-requires : goal.split_at-requires
split_at-requires c =
    word_boundary c.args.line.now _
    (c.word_length.ensures ∙ ap (λ line. position_or_len ends_word line) c.as_bytes.ensures.value)
