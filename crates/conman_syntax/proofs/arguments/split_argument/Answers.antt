use Rattle.std.proofs.Common.{◌∙◌, ap}
use Rattle.conman_syntax.specs.Arguments.{argument_length}
use Rattle.conman_syntax.specs.declared.arguments.Quoting.TheVariants.{Outside}
use Rattle.conman_syntax.proofs.ArgumentBounds.{argument_boundary}
use Rattle.conman_syntax.proofs.arguments.split_argument.Goals as goal

pub split_at-requires : goal.split_at-requires
split_at-requires c =
    argument_boundary c.args.text.now _
    (c.argument_length.ensures ∙ ap (λ text. argument_length Outside text) c.as_bytes.ensures.value)
