use Rattle.std.proofs.Common.{◌≡◌, ◌≤◌, ◌∙◌, All, List, ap, map, subst, sym}
use Rattle.base_types.specs.declared.PromptDef.{PromptDef}
use Rattle.composer_parser.specs.declared.Defs.{Defs}
use Rattle.composer_parser.specs.declared.Lined.{Lined}
use Rattle.composer_parser.specs.declared.ResourceDef.{ResourceDef}
use Rattle.workload_defs.specs.Nets as spec
use Rattle.workload_defs.specs.Nets.{net_of}
use Rattle.workload_defs.specs.Stations.{stations}
use Rattle.workload_defs.proofs.Fits.{defined_totals_fit}
use Rattle.workload_defs.proofs.nets.net_of.Goals as goal

pub returns : goal.returns
unfolding net_of
returns c =
    let d = c.args.names.now in
    let listed : c.as_slice.result.now ≡ d.resources = c.as_slice.ensures ∙ ap (λ (e : Defs). e.resources) c.defs-defs.ensures in
    let asked : c.as_slice-2.result.now ≡ d.prompts = c.as_slice-2.ensures ∙ ap (λ (e : Defs). e.prompts) c.defs-defs.ensures in
    let nodes = c.in_ok-nodes.ensures ∙ ap (map (spec.node_of d)) c.requires.stations in
    let totals : All (λ (r : Lined ResourceDef). r.item.total ≤ 1024) c.as_slice.result.now =
    subst (λ (l : List (Lined ResourceDef)). All (λ (r : Lined ResourceDef). r.item.total ≤ 1024) l) (sym listed)
    (defined_totals_fit d c.requires.faultless) in
    let resources =
    c.in_ok-resources.ensures (stations d) c.requires.table totals ∙ ap (map (spec.resource_among (stations d))) listed in
    let prompts = c.in_ok-prompts.ensures ∙ ap (map (λ (p : Lined PromptDef). p.item)) asked in
    let carry = c.carry_of.ensures ∙ ap spec.carry_of c.defs-defs.ensures in
    λ j. record { nodes = nodes j; resources = resources j; prompts = prompts j; carry = carry j }
