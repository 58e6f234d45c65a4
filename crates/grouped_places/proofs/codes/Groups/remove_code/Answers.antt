use Rattle.std.proofs.Common.{List, ap, arith, eqb, filter, length, not, subst, sym, ℕ, ◌<◌, ◌∙◌, ◌≡◌, ◌≢◌, ◌≤◌}
use Rattle.std.specs.List.{remove}
use Rattle.std.specs.Prelude.{slice_index}
use Rattle.grouped_places.specs.Codes.{RisesFrom}
use Rattle.grouped_places.proofs.Finding.{rises_filter}
use Rattle.grouped_places.proofs.Rising.{removed_at, removed_not}
use Rattle.grouped_places.proofs.codes.Groups.remove_code.Goals as goal

pub invariant_of-self : goal.invariant_of-self
invariant_of-self c =
    let k : (c.below-spot.result < length c.args.self.now)
    × (slice_index c.args.self.now c.below-spot.result ≡ c.args.code) = c.has_at.ensures.there c.if-has_at.true in
    let rises : RisesFrom 0 c.args.self.now = subst (RisesFrom 0) c.self.view_is c.self.invariant in
    let less : c.remove.new.self.items ≡ filter (λ n. not (eqb n c.args.code)) c.args.self.now =
    c.remove.ensures.items ∙ ap (λ (l : List ℕ). remove l c.below-spot.result) c.self.view_is
    ∙ removed_at 0 c.args.self.now c.below-spot.result c.args.code 0 rises k.0 k.1 in
    subst (RisesFrom 0) (sym less) (rises_filter (λ n. not (eqb n c.args.code)) 0 c.args.self.now rises)

pub returns-then-has_at : goal.returns-then-has_at
returns-then-has_at c =
    let k : (c.below-spot.result < length c.args.self.now)
    × (slice_index c.args.self.now c.below-spot.result ≡ c.args.code) = c.has_at.ensures.there c.if-has_at.true in
    let rises : RisesFrom 0 c.args.self.now = subst (RisesFrom 0) c.self.view_is c.self.invariant in
    c.remove.ensures.items ∙ ap (λ (l : List ℕ). remove l c.below-spot.result) c.self.view_is
    ∙ removed_at 0 c.args.self.now c.below-spot.result c.args.code 0 rises k.0 k.1

pub returns-else-has_at : goal.returns-else-has_at
returns-else-has_at c =
    sym (removed_not 0 c.args.self.now c.below-spot.result c.args.code 0
    (subst (RisesFrom 0) c.self.view_is c.self.invariant)
    (λ n l. c.below-spot.ensures.point.0 n 0 (omega arith) l)
    (λ l.
    let a : c.args.code ≤ slice_index c.args.self.now c.below-spot.result =
    c.below-spot.ensures.point.1 c.below-spot.result 0 (omega arith) l in
    let b : slice_index c.args.self.now c.below-spot.result ≢ c.args.code = c.has_at.ensures.other c.if-has_at.false l in
    omega (arith, a, b)))
