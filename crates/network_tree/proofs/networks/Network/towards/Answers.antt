use Rattle.std.proofs.Common.{◌≡◌, ◌≢◌, ◌<◌, ℕ, IfSome, IsNone, IsTrue, Option, arith, subst, sym, ◌∙◌}
use Rattle.std.proofs.lemmas.Bool.Decides.{nat_tests}
use Rattle.model.specs.Network.{are_neighbours, node_count, towards}
use Rattle.network_tree.proofs.Lookups.{looked_up, no_way, way_in, way_near}
use Rattle.network_tree.proofs.Trees.{tree}
use Rattle.network_tree.proofs.networks.Network.towards.Goals as goal

value_of : (c : goal.After-way) → c.way.result ≡ towards c.args.self.now c.args.a c.args.b
value_of c =
    let net = c.args.self.now in
    let apart : c.args.a ≢ c.args.b = grind (arith, nat_tests) in
    c.way.ensures.value
    ∙ looked_up net (tree net c.way.ensures.faultless) c.args.a c.args.b c.requires.from c.requires.to apart

pub returns-else-eq-clause-value : goal.returns-else-eq-clause-value
returns-else-eq-clause-value c = value_of c

pub returns-else-eq-clause-none : goal.returns-else-eq-clause-none
returns-else-eq-clause-none c =
    let net = c.args.self.now in
    subst (λ (o : Option ℕ). (IsNone o → c.args.a ≡ c.args.b) × (c.args.a ≡ c.args.b → IsNone o)) (sym (value_of c))
    (no_way net (tree net c.way.ensures.faultless) c.args.a c.args.b c.requires.from c.requires.to)

pub returns-else-eq-clause-inside : goal.returns-else-eq-clause-inside
returns-else-eq-clause-inside c =
    let net = c.args.self.now in
    subst (λ (o : Option ℕ). IfSome o (λ x. x < node_count net)) (sym (value_of c))
    (way_in net (tree net c.way.ensures.faultless) c.args.a c.args.b)

pub returns-else-eq-clause-neighbour : goal.returns-else-eq-clause-neighbour
returns-else-eq-clause-neighbour c =
    let net = c.args.self.now in
    subst (λ (o : Option ℕ). IfSome o (λ x. IsTrue (are_neighbours net c.args.a x))) (sym (value_of c))
    (way_near net (tree net c.way.ensures.faultless) c.args.a c.args.b)
