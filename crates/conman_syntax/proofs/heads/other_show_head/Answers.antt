use Rattle.std.proofs.Common.{◌∙◌, sym}
use Rattle.conman_syntax.specs.Heads.{other_show_head}
use Rattle.conman_syntax.proofs.heads.other_show_head.Goals as goal

pub returns-then-is_word-3 : goal.returns-then-is_word-3
unfolding other_show_head
returns-then-is_word-3 c =
    rw (
      sym c.is_word.ensures ∙ c.if-is_word.false,
      sym c.is_word-else-is_word.ensures ∙ c.if-is_word-2.false,
      sym c.is_word-else-is_word-2.ensures ∙ c.if-is_word-3.true,
    )
    c.long-then-is_word-3.ensures
