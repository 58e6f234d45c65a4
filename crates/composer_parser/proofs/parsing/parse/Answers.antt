use Rattle.std.proofs.Common.{◌≡◌, ◌∙◌, ℕ, List, Result, subst, ap}
use Rattle.base_types.specs.declared.reports.Token.{Token}
use Rattle.composer_parser.specs.declared.definitions.Defs.{Defs}
use Rattle.composer_parser.specs.declared.faults.SyntaxFault.{SyntaxFault}
use Rattle.composer_parser.specs.Faults.{last_line_of}
use Rattle.composer_parser.specs.Tokens.{all_spelled}
use Rattle.composer_parser.proofs.Parsings.{found, all, expected, all_expected, left_out, all_left_out, built, Answered}
use Rattle.composer_parser.proofs.parsing.parse.Goals as goal

-- what is answered for the tokens behind a borrow and a line that was counted
same_text : (text : List ℕ) (n m : ℕ) {us ts : List Token} (r : Result Defs SyntaxFault) → n ≡ m → us ≡ ts
    → Answered n (all_spelled text us) r → Answered m (all_spelled text ts) r
same_text text n m {us = us} {ts = ts} r lines tokens h =
    let P : List Token → Type 0 = λ vs. Answered m (all_spelled text vs) r in
    let Q : ℕ → Type 0 = λ k. Answered k (all_spelled text us) r in subst P tokens (subst Q lines h)

pub returns : goal.returns
returns c =
    let text = c.args.text.now in
    let last = last_line_of text in
    let ts = all_spelled text c.args.tokens.now in
    let r = c.parse_tokens.result in
    let told : Answered last ts r =
    same_text text c.last_line.result last r (c.last_line.ensures ∙ ap (λ bytes. last_line_of bytes) c.as_bytes.ensures.value)
    c.as_slice.ensures c.parse_tokens.ensures in
    record {
      found = found last ts r told;
      all = all last ts r told;
      expected = expected last ts r told;
      all_expected = all_expected last ts r told;
      left_out = left_out last ts r told;
      all_left_out = all_left_out last ts r told;
      built = built last ts r told;
    }
