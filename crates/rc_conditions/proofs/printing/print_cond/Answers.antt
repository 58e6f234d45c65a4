use Rattle.std.proofs.Common.{◌≡◌, ◌∙◌, ◌++◌, ap, length, arith}
use Rattle.std.proofs.lemmas.Bool.Decides.{nat_tests}
use Rattle.rc_conditions.specs.Printing.{printed}
use Rattle.rc_conditions.proofs.Fronts.{some_ops}
use Rattle.rc_conditions.proofs.Rereading.{reads_back}
use Rattle.rc_conditions.proofs.printing.print_cond.Goals as goal

pub returns-then-is_empty-clause-canonical : goal.returns-then-is_empty-clause-canonical
returns-then-is_empty-clause-canonical c = λ e is few.
    let none : length c.args.cond.now ≡ 0 = grind (arith, nat_tests) in
    absurd (omega (arith, none, some_ops e, ap length is))

pub returns-clause-read_back : goal.returns-clause-read_back
returns-clause-read_back c = λ p few.
    let is = c.as_slice-2.ensures ∙ p.1 in
    let written = c.in_ok-write_expression.ensures in (
      reads_back c.from_string.result c.args.cond.now p.0
          (c.from_string.ensures ∙ written.text p.0 is ∙ ap (λ xs. xs ++ printed p.0) c.new-out.ensures.bytes) p.1
          (written.numbers p.0 is),
      few,
    )

pub returns-then-is_empty-clause-read_back : goal.returns-then-is_empty-clause-read_back
returns-then-is_empty-clause-read_back c = λ p few.
    let none : length c.args.cond.now ≡ 0 = grind (arith, nat_tests) in
    absurd (omega (arith, none, some_ops p.0, ap length p.1))
