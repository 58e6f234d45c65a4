use Rattle.std.proofs.Common.{◌≡◌, ap, inr, refl, subst, true, false, sym, ◌∙◌}
use Rattle.std.specs.Option.{option_copied}
use Rattle.definition_faults.specs.Conditions.{IsRefusedOf}
use Rattle.definition_faults.proofs.conditions.noted.Goals as goal

pub returns-else-branch : goal.returns-else-branch
returns-else-branch c =
    inr (
      λ refused.
          let told : c.in_ok-is_bad-in-Some.field-0 ≡ true =
          c.in_ok-is_bad-in-Some.ensures.1 (subst IsRefusedOf (ap option_copied c.in-Some.is) refused) in
          let wrong : false ≡ true = sym c.if-branch.false ∙ told in
          cc,
      refl,
    )
