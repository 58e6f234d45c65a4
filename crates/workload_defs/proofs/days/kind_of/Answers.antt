use Rattle.std.proofs.Common.{◌∙◌, ap, codes, not, sym, true}
use Rattle.std.specs.Option.{option_map_or}
use Rattle.composer_parser.specs.declared.FreeDef.{FreeDef}
use Rattle.definition_names.specs.Names.{calendar_at}
use Rattle.workload_defs.proofs.Frees.{holidays_named}
use Rattle.workload_defs.proofs.days.kind_of.Goals as goal

pub returns-in-None : goal.returns-in-None
returns-in-None c = record {
  calendar_ =
      c.requires
      ∙ (holidays_named (codes "HOLIDAYS") 0 c.args.names.now.calendars
      ∙ sym (ap (λ o. calendar_at c.args.names.now (option_map_or (λ (f : FreeDef). f.name) o (codes "HOLIDAYS"))) c.in-None.is));
  sa_ = sym (ap (λ o. option_map_or (λ (f : FreeDef). not f.minus_sa) o true) c.in-None.is);
  su_ = sym (ap (λ o. option_map_or (λ (f : FreeDef). not f.minus_su) o true) c.in-None.is);
}
