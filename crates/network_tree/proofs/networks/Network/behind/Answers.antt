use Rattle.std.proofs.Common.{◌≡◌, ◌≢◌, ap, ap₂, arith, eqb, not, subst, sym, ◌∙◌}
use Rattle.std.proofs.lemmas.Bool.Decides.{nat_tests}
use Rattle.std.specs.Option.{option_eq}
use Rattle.model.specs.Network.{hop, is_behind, node_count}
use Rattle.network_tree.proofs.Lookups.{behind_is}
use Rattle.network_tree.proofs.Trees.{not_behind_itself, tree}
use Rattle.network_tree.proofs.networks.Network.behind.Goals as goal

pub returns-then-ne : goal.returns-then-ne
returns-then-ne c =
    let net = c.args.self.now in
    let apart : c.args.n ≢ c.args.m = (let k = c.if-ne.ensures in grind (arith, nat_tests)) in
    let hop_is : c.hop.result ≡ hop net c.args.m = c.hop.ensures ∙ ap (λ v. hop v c.args.m) c.net-net.ensures.value in
    c.ne-then-ne.ensures
    ∙ (ap₂ (λ o p. not (option_eq eqb o p)) c.towards.ensures.value hop_is
    ∙ behind_is net (tree net c.net-net.ensures.faultless) c.args.n c.args.m c.requires.lower c.requires.upper apart)

pub returns-else-ne : goal.returns-else-ne
returns-else-ne c =
    let net = c.args.self.now in
    let one : c.args.n ≡ c.args.m = (let k = c.if-ne.ensures in grind (arith, nat_tests)) in
    c.if-ne.false
    ∙ sym (subst (λ v. is_behind net v c.args.m ≡ _) (sym one)
    (not_behind_itself net (tree net c.net-net.ensures.faultless) (node_count net) c.args.m c.requires.upper))
