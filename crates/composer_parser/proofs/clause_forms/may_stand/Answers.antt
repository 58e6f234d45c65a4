use Rattle.std.proofs.Common.{◌&&◌, ◌∙◌, [], ◌∷◌, true, ap, not, sym}
use Rattle.std.specs.List.{list_any}
use Rattle.composer_parser.specs.Clauses.{may_clause}
use Rattle.composer_parser.specs.Tokens.{spelled}
use Rattle.composer_parser.proofs.Once.{never_again, once_among, once_each}
use Rattle.composer_parser.proofs.clause_forms.may_stand.Goals as goal

pub returns-then-not-is_had : goal.returns-then-not-is_had
returns-then-not-is_had c =
    let token = spelled c.args.text.now c.args.token.now in
    sym
    (once_each c.args.stream c.args.all.now token
    ∙ ap (λ b. b && not (list_any (λ one. not (may_clause true (one ∷ []) token)) c.args.all.now))
    (sym c.is_had.ensures ∙ c.if-not-is_had.true))

pub returns-then-not-is_single : goal.returns-then-not-is_single
returns-then-not-is_single c =
    sym
    (never_again c.args.stream c.args.all.now (spelled c.args.text.now c.args.token.now)
    (sym c.is_single.ensures ∙ c.if-not-is_single.true))

pub returns : goal.returns
returns c =
    ap (λ b. not b) c.stands.ensures
    ∙ sym (once_among c.args.stream c.args.all.now (spelled c.args.text.now c.args.token.now)
    (sym c.is_had.ensures ∙ c.if-not-is_had.false))
