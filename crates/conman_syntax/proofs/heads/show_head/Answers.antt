use Rattle.std.proofs.Common.{◌∙◌, sym}
use Rattle.conman_syntax.specs.Heads.{show_head}
use Rattle.conman_syntax.proofs.heads.show_head.Goals as goal

pub returns-then-is_word-3 : goal.returns-then-is_word-3
unfolding show_head
returns-then-is_word-3 c =
    rw (
      sym c.is_word.ensures ∙ c.if-is_word.false,
      sym c.is_word-else-is_word.ensures ∙ c.if-is_word-2.false,
      sym c.is_word-else-is_word-2.ensures ∙ c.if-is_word-3.true,
    )
    c.long-then-is_word-3.ensures

pub returns-then-is_word-5 : goal.returns-then-is_word-5
unfolding show_head
returns-then-is_word-5 c =
    rw (
      sym c.is_word.ensures ∙ c.if-is_word.false,
      sym c.is_word-else-is_word.ensures ∙ c.if-is_word-2.false,
      sym c.is_word-else-is_word-2.ensures ∙ c.if-is_word-3.false,
      sym c.is_word-else-is_word-3.ensures ∙ c.if-is_word-4.false,
      sym c.is_word-else-is_word-4.ensures ∙ c.if-is_word-5.true,
    )
    c.long-then-is_word-5.ensures

pub returns-then-is_word-6 : goal.returns-then-is_word-6
unfolding show_head
returns-then-is_word-6 c =
    rw (
      sym c.is_word.ensures ∙ c.if-is_word.false,
      sym c.is_word-else-is_word.ensures ∙ c.if-is_word-2.false,
      sym c.is_word-else-is_word-2.ensures ∙ c.if-is_word-3.false,
      sym c.is_word-else-is_word-3.ensures ∙ c.if-is_word-4.false,
      sym c.is_word-else-is_word-4.ensures ∙ c.if-is_word-5.false,
      sym c.is_word-else-is_word-5.ensures ∙ c.if-is_word-6.true,
    )
    c.long-then-is_word-6.ensures
