use Rattle.std.proofs.Common.{List, ap, arith, length, subst, sym, ℕ, ◌<◌, ◌∙◌, ◌≡◌, ◌≢◌, ◌≤◌}
use Rattle.std.specs.List.{insert}
use Rattle.std.specs.Prelude.{slice_index}
use Rattle.model.specs.Words.{insert_once}
use Rattle.grouped_places.specs.Codes.{RisesFrom}
use Rattle.grouped_places.proofs.Rising.{inserted_again, inserted_at, rises_inserted}
use Rattle.grouped_places.proofs.codes.Groups.add_code.Goals as goal

pub returns-then-has_at-clause-added : goal.returns-then-has_at-clause-added
returns-then-has_at-clause-added c =
    let k : (c.below-spot.result < length c.args.self.now)
    × (slice_index c.args.self.now c.below-spot.result ≡ c.args.code) = c.has_at.ensures.there c.if-has_at.true in
    sym (inserted_again c.args.self.now c.below-spot.result c.args.code 0 k.0
    (λ n l. c.below-spot.ensures.point.0 n 0 (omega arith) l) k.1)

pub invariant_of-self-2 : goal.invariant_of-self-2
invariant_of-self-2 c =
    let put : insert c.args.self.now c.below-spot.result c.args.code ≡ insert_once c.args.code c.args.self.now =
    inserted_at c.args.self.now c.below-spot.result c.args.code 0 c.below-spot.ensures.within
    (λ n l. c.below-spot.ensures.point.0 n 0 (omega arith) l)
    (λ l.
    let a : c.args.code ≤ slice_index c.args.self.now c.below-spot.result =
    c.below-spot.ensures.point.1 c.below-spot.result 0 (omega arith) l in
    let b : slice_index c.args.self.now c.below-spot.result ≢ c.args.code = c.has_at.ensures.other c.if-has_at.false l in
    omega (arith, a, b)) in
    let grown : c.insert.new.self.items ≡ insert_once c.args.code c.args.self.now =
    c.in_ok-insert.ensures.items
    ∙ ap (λ (l : List ℕ). insert l c.below-spot.result c.args.code) c.self.view_is ∙ put in
    subst (RisesFrom 0) (sym grown)
    (rises_inserted 0 c.args.code c.args.self.now (subst (RisesFrom 0) c.self.view_is c.self.invariant) (omega arith))

pub returns-clause-added : goal.returns-clause-added
returns-clause-added c =
    c.in_ok-insert.ensures.items
    ∙ ap (λ (l : List ℕ). insert l c.below-spot.result c.args.code) c.self.view_is
    ∙ inserted_at c.args.self.now c.below-spot.result c.args.code 0 c.below-spot.ensures.within
    (λ n l. c.below-spot.ensures.point.0 n 0 (omega arith) l)
    (λ l.
    let a : c.args.code ≤ slice_index c.args.self.now c.below-spot.result =
    c.below-spot.ensures.point.1 c.below-spot.result 0 (omega arith) l in
    let b : slice_index c.args.self.now c.below-spot.result ≢ c.args.code = c.has_at.ensures.other c.if-has_at.false l in
    omega (arith, a, b))
