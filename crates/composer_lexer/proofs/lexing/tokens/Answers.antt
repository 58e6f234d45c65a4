use Rattle.std.proofs.Common.{List, ℕ, subst}
use Rattle.composer_lexer.specs.declared.faults.LexFault.TheVariants as fault
use Rattle.composer_lexer.proofs.Places.{Answered, slices, causes}
use Rattle.composer_lexer.proofs.lexing.tokens.Goals as goal

pub returns-clause-slices : goal.returns-clause-slices
returns-clause-slices c =
    let P : List ℕ → Type 0 = λ zs. Answered zs c.lex.result in
    slices c.args.text.now c.lex.result (subst P c.as_bytes-bytes.ensures.value c.lex.ensures)

pub returns-clause-bad_char : goal.returns-clause-bad_char
returns-clause-bad_char c = λ line h.
    let P : List ℕ → Type 0 = λ zs. Answered zs c.lex.result in
    causes c.args.text.now c.lex.result (fault.BadChar line) (subst P c.as_bytes-bytes.ensures.value c.lex.ensures) h
    (λ e. cc)

pub returns-clause-open_text : goal.returns-clause-open_text
returns-clause-open_text c = λ line h.
    let P : List ℕ → Type 0 = λ zs. Answered zs c.lex.result in
    causes c.args.text.now c.lex.result (fault.OpenText line) (subst P c.as_bytes-bytes.ensures.value c.lex.ensures) h
    (λ e. cc)

pub returns-clause-too_long : goal.returns-clause-too_long
returns-clause-too_long c = λ line h.
    let P : List ℕ → Type 0 = λ zs. Answered zs c.lex.result in
    causes c.args.text.now c.lex.result (fault.TooLong line) (subst P c.as_bytes-bytes.ensures.value c.lex.ensures) h
    (λ e. cc)
