use Rattle.std.proofs.Common.{◌≡◌, ◌<◌, ◌&&◌, ◌∙◌, ap, arith, false, get_or, length, not, refl}
use Rattle.composer_parser.specs.declared.Defs.{Defs}
use Rattle.model.specs.Words.{first_of_these}
use Rattle.definition_faults.specs.Chains.{ends}
use Rattle.definition_faults.specs.Items.{domain_rows, strays}
use Rattle.definition_faults.proofs.Belows.{map_below_at}
use Rattle.definition_faults.proofs.Loops.{table_more}
use Rattle.definition_faults.proofs.items.in_domains.Goals as goal

pub loop-i-preserved : goal.loop-i-preserved
loop-i-preserved c =
    let d = c.args.names.now in
    let i = c.loop-i.i in
    let x = c.index-domains-i.result in
    let all = c.as_slice-domains.ensures ∙ ap (λ (x : Defs). x.domains) c.defs.ensures in
    let same : length c.as_slice-domains.result.now ≡ length d.domains = ap length all in
    let low : i < length d.domains = omega (arith, same) in
    let ended : get_or c.args.ends.now i false ≡ ends d i =
    ap (λ l. get_or l i false) c.requires ∙ map_below_at (ends d) (length d.domains) i false low in
    let stray : c.is_stray-strays.result ≡ strays d i =
    c.is_stray-strays.ensures ∙ (λ j. c.has_top-has_top.ensures j && not (ended j)) in
    table_more (λ n y. domain_rows d n (strays d n) y) c.as_slice-domains.result.now i x _ c.loop-i.first
    c.noted-first.result c.of_domain.result (omega arith) c.index-domains-i.is refl
    (c.of_domain.ensures ∙ ap (λ b. first_of_these (domain_rows d i b x.item)) stray) c.noted-first.ensures
    c.loop-i.invariant
