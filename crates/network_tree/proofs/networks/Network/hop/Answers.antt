use Rattle.std.proofs.Common.{◌≡◌, ◌<◌, ℕ, IfSome, IsNone, IsTrue, Option, ap, subst, sym, ◌∙◌}
use Rattle.model.specs.Network.{hop, is_manager, node_count}
use Rattle.network_tree.proofs.Lookups.{hop_in, hop_manages, no_hop}
use Rattle.network_tree.proofs.Trees.{tree}
use Rattle.network_tree.proofs.networks.Network.hop.Goals as goal

pub returns-clause-none : goal.returns-clause-none
returns-clause-none c =
    let net = c.args.self.now in
    let value : c.hop.result ≡ hop net c.args.w = c.hop.ensures ∙ ap (λ n. hop n c.args.w) c.net.ensures.value in
    subst (λ (o : Option ℕ). (IsNone o → c.args.w ≡ 0) × (c.args.w ≡ 0 → IsNone o)) (sym value)
    (no_hop net (tree net c.net.ensures.faultless) c.args.w c.requires)

pub returns-clause-inside : goal.returns-clause-inside
returns-clause-inside c =
    let net = c.args.self.now in
    let value : c.hop.result ≡ hop net c.args.w = c.hop.ensures ∙ ap (λ n. hop n c.args.w) c.net.ensures.value in
    subst (λ (o : Option ℕ). IfSome o (λ h. h < node_count net)) (sym value)
    (hop_in net (tree net c.net.ensures.faultless) c.args.w)

pub returns-clause-manager : goal.returns-clause-manager
returns-clause-manager c =
    let net = c.args.self.now in
    let value : c.hop.result ≡ hop net c.args.w = c.hop.ensures ∙ ap (λ n. hop n c.args.w) c.net.ensures.value in
    subst (λ (o : Option ℕ). IfSome o (λ h. IsTrue (is_manager net h))) (sym value)
    (hop_manages net (tree net c.net.ensures.faultless) c.args.w)
