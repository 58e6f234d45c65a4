-- The master domain, and the managers of domains.
use Rattle.std.specs.Prelude.{ℕ, min, List, [], ◌∷◌, Option, Some, None, slice_get, option_and_then, if◌then◌else◌}
use Rattle.std.specs.List.{filter_map}
use Rattle.std.specs.Str.{bytes_eq}
use Rattle.std.specs.Prelude.{option_map}
use Rattle.composer_parser.specs.declared.Lined.{Lined}
use Rattle.composer_parser.specs.declared.Defs.{Defs}
use Rattle.composer_parser.specs.declared.CpuDef.{CpuDef}
use Rattle.composer_parser.specs.declared.DomainDef.{DomainDef}
use Rattle.definition_names.specs.Names.{cpu_at}
use Rattle.definition_names.specs.Stations.{top_domains}
use Rattle.definition_faults.specs.Orders.{fault}
use Rattle.definition_faults.specs.declared.kinds.Kind.TheVariants.{Tree}
use Rattle.definition_faults.specs.declared.kinds.Fault.{Fault}

abbrev pub tree_at : ℕ → Fault
tree_at line = fault line Tree

-- exactly one domain has no parent: without any the last line has the fault, and of several the first of them
abbrev pub top_faults : ℕ → List (Lined DomainDef) → List Fault
top_faults last [] = tree_at last ∷ []
top_faults last (x ∷ []) = []
top_faults last (x ∷ y ∷ ys) = tree_at x.line ∷ []

unfoldable pub master_faults : Defs → List Fault
master_faults d = top_faults d.last_line (top_domains d.domains)

-- the lower line of a domain and of its manager, where that is defined and is of another domain
abbrev pub line_where_other : Lined DomainDef → Lined CpuDef → Option ℕ
line_where_other x c = if bytes_eq c.item.domain x.item.name then None else Some (min x.line c.line)

abbrev pub stray_line : Defs → Lined DomainDef → Option ℕ
stray_line d x =
    option_and_then (line_where_other x) (option_and_then (slice_get d.cpus) (cpu_at d x.item.manager))

abbrev pub stray_fault : Defs → Lined DomainDef → Option Fault
stray_fault d x = option_map tree_at (stray_line d x)

unfoldable pub manager_faults : Defs → List Fault
manager_faults d = filter_map (stray_fault d) d.domains
