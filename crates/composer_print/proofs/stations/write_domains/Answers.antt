use Rattle.std.proofs.Common.{List, flat_map, map, refl}
use Rattle.composer_parser.specs.declared.definitions.DomainDef.{DomainDef}
use Rattle.composer_parser.specs.declared.definitions.Lined.{Lined}
use Rattle.composer_print.specs.Normal.{bare}
use Rattle.composer_print.specs.Stations.{domain_line}
use Rattle.composer_print.proofs.Lists.{part_more, parts_all}
use Rattle.composer_print.proofs.stations.write_domains.Goals as goal

pub loop-domain-preserved : goal.loop-domain-preserved
loop-domain-preserved c =
    part_more (λ (ys : List (Lined DomainDef)). flat_map (λ x. domain_line x.item) (map bare ys))
    (λ (y : Lined DomainDef). domain_line y.item) (λ y ys. refl) _ _ _ c.args.domains.now c.loop-domain.domain-index c.domain-item.result
    c.loop-domain-test.true c.domain-item.is c.in_ok-write_domain.ensures c.loop-domain.invariant

pub returns : goal.returns
returns c =
    parts_all (λ (ys : List (Lined DomainDef)). flat_map (λ x. domain_line x.item) (map bare ys)) refl
    _ _ c.args.domains.now c.loop-domain.domain-index c.loop-domain-test.false c.loop-domain.invariant
