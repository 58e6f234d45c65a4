use Rattle.std.proofs.Common.{ap, sym, ◌∙◌, ◌++◌, append_assoc, codes}
use Rattle.syntax.specs.Quotes.{quoted_text}
use Rattle.composer_print.specs.Works.{command_text}
use Rattle.composer_print.proofs.works.write_command.Goals as goal

pub returns-in_ok-write_quoted-in-Script : goal.returns-in_ok-write_quoted-in-Script
unfolding command_text
returns-in_ok-write_quoted-in-Script c =
    c.in_ok-write_quoted-in-Script.ensures
    ∙ ap (λ t. t ++ quoted_text c.in-Script.file) c.in_ok-write-in-Script.ensures.bytes
    ∙ append_assoc c.args.out.now.items (codes " SCRIPTNAME ") (quoted_text c.in-Script.file)
    ∙ ap (λ w. c.args.out.now.items ++ command_text w) (sym c.in-Script.is)
