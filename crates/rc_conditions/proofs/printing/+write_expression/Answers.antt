use Rattle.std.proofs.Common.{◌∙◌, ◌++◌, ◌-◌, ap, length, take, rules, arith}
use Rattle.std.proofs.lemmas.Int.{to_z-of_z}
use Rattle.std.specs.Int.{w32}
use Rattle.std.specs.String.{string_bytes}
use mir.Val.{SFits}
use Rattle.rc_conditions.specs.Expressions.{compared}
use Rattle.rc_conditions.specs.Printing.{printed}
use Rattle.rc_conditions.proofs.Fronts.{some_ops}
use Rattle.rc_conditions.proofs.Texts.{Halves, compared_text, compared_fits, negated_text, negated_fits, both_halves}
use Rattle.rc_conditions.proofs.Texts.{either_halves, halves_text, halves_fit}
use Rattle.rc_conditions.proofs.printing.+write_expression.Goals as goal
use Rattle.rc_conditions.proofs.printing.+write_expression.Goals.{in-And, in-Or}

pub returns-in_default-clause-text : goal.returns-in_default-clause-text
returns-in_default-clause-text t c = λ e is.
    absurd (omega (arith, some_ops e, ap length is, c.in_default.len_below))

pub returns-in_default-clause-numbers : goal.returns-in_default-clause-numbers
returns-in_default-clause-numbers t c = λ e is.
    absurd (omega (arith, some_ops e, ap length is, c.in_default.len_below))

pub returns-in-Cmp-clause-text : goal.returns-in-Cmp-clause-text
returns-in-Cmp-clause-text t c = λ e is.
    let fits : SFits w32 c.in-Cmp.n = search rules in
    compared_text c.args.ops.now _ e c.in-len1-up.len_at_least is c.in-Cmp.rel c.in-Cmp.n
    (string_bytes c.args.out.now) (string_bytes c.write_comparison.new.out) c.in-Cmp.is
    (c.in_ok-write_comparison-in-Cmp.ensures
    ∙ ap (λ z. string_bytes c.args.out.now ++ printed (compared c.in-Cmp.rel z)) (to_z-of_z w32 c.in-Cmp.n fits))

pub returns-in-Cmp-clause-numbers : goal.returns-in-Cmp-clause-numbers
returns-in-Cmp-clause-numbers t c = λ e is.
    let fits : SFits w32 c.in-Cmp.n = search rules in
    compared_fits c.args.ops.now _ e c.in-len1-up.len_at_least is c.in-Cmp.rel c.in-Cmp.n c.in-Cmp.is fits

pub returns-in-Not-clause-text : goal.returns-in-Not-clause-text
returns-in-Not-clause-text t c = λ e is.
    negated_text c.args.ops.now _ e c.in-len1-up.len_at_least is (string_bytes c.args.out.now)
    (string_bytes c.push_str.new.self) (string_bytes c.write_expression.new.out)
    (string_bytes c.push_str-in-Not.new.self) c.in-Not.is c.in_ok-push_str-in-Not.ensures.bytes
    c.in_ok-write_expression-in-Not.ensures.text c.in_ok-push_str-in-Not-2.ensures.bytes

pub returns-in-Not-clause-numbers : goal.returns-in-Not-clause-numbers
returns-in-Not-clause-numbers t c = λ e is.
    negated_fits c.args.ops.now _ e c.in-len1-up.len_at_least is c.in-Not.is
    c.in_ok-write_expression-in-Not.ensures.numbers

pub returns-clause-text : goal.returns-clause-text
returns-clause-text t c = λ e is.
    let h : Halves c.match-last.joint.now e (take (length c.args.ops.now - 1) c.args.ops.now) =
    elim c.match-last.branch [
      | in-And w ↦
          both_halves c.args.ops.now _ e c.in-len1-up.len_at_least is c.match-last.joint.now w.in-And.is
          (ap (λ r. r.now) w.joint-is)
      | in-Or w ↦
          either_halves c.args.ops.now _ e c.in-len1-up.len_at_least is c.match-last.joint.now w.in-Or.is
          (ap (λ r. r.now) w.joint-is)
    ] in
    halves_text h c.two_expressions.result.0.now c.two_expressions.result.1.now c.two_expressions.ensures.both
    (string_bytes c.args.out.now) (string_bytes c.push_str-2.new.self) (string_bytes c.write_expression-2.new.out)
    (string_bytes c.push_str-3.new.self) (string_bytes c.write_expression-3.new.out)
    (string_bytes c.push_str-4.new.self) c.in_ok-push_str.ensures.bytes c.in_ok-write_expression.ensures.text
    c.in_ok-push_str-2.ensures.bytes c.in_ok-write_expression-2.ensures.text c.in_ok-push_str-3.ensures.bytes

pub returns-clause-numbers : goal.returns-clause-numbers
returns-clause-numbers t c = λ e is.
    let h : Halves c.match-last.joint.now e (take (length c.args.ops.now - 1) c.args.ops.now) =
    elim c.match-last.branch [
      | in-And w ↦
          both_halves c.args.ops.now _ e c.in-len1-up.len_at_least is c.match-last.joint.now w.in-And.is
          (ap (λ r. r.now) w.joint-is)
      | in-Or w ↦
          either_halves c.args.ops.now _ e c.in-len1-up.len_at_least is c.match-last.joint.now w.in-Or.is
          (ap (λ r. r.now) w.joint-is)
    ] in
    halves_fit h c.two_expressions.result.0.now c.two_expressions.result.1.now c.two_expressions.ensures.both
    c.in_ok-write_expression.ensures.numbers c.in_ok-write_expression-2.ensures.numbers
