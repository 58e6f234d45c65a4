use Rattle.std.proofs.Common.{List, arith, subst, sym, ℕ, ◌∙◌, ◌≡◌}
use Rattle.std.specs.Prelude.{filter, slice_range}
use Rattle.grouped_places.specs.Codes.{is_in_group}
use Rattle.grouped_places.proofs.Rising.{group_between}
use Rattle.grouped_places.proofs.codes.Groups.of.Goals as goal

pub returns-clause-codes : goal.returns-clause-codes
returns-clause-codes c =
    subst
    (λ (l : List ℕ). slice_range l c.below-start.result c.up_to-end.result ≡ filter (is_in_group c.args.group) c.args.self.now)
    (sym (c.deref.ensures.value ∙ c.self.view_is))
    (group_between c.args.group c.args.self.now c.below-start.result c.up_to-end.result c.code_of.result c.code_of-2.result
    (omega (arith, c.code_of.ensures)) (omega (arith, c.code_of-2.ensures)) c.below-start.ensures.within
    c.up_to-end.ensures.within c.below-start.ensures.point c.up_to-end.ensures.point)
