-- On which workstation a stream and an entry are.
use Rattle.std.specs.Prelude.{ℕ, List, [], ◌∷◌, filter, is_none, Option, Some, None}
use Rattle.std.specs.Option.{option_or}
use Rattle.composer_parser.specs.declared.Lined.{Lined}
use Rattle.composer_parser.specs.declared.Defs.{Defs}
use Rattle.composer_parser.specs.declared.DomainDef.{DomainDef}
use Rattle.composer_parser.specs.declared.EntryDef.{EntryDef}
use Rattle.composer_parser.specs.declared.ScheduleDef.{ScheduleDef}

-- the domains without a parent, which are marked ISMASTER
abbrev pub top_domains : List (Lined DomainDef) → List (Lined DomainDef)
top_domains domains = filter (λ (x : Lined DomainDef). is_none x.item.parent) domains

-- the manager of the one such domain, none where there are none or several
abbrev pub only_manager : List (Lined DomainDef) → Option (List ℕ)
only_manager [] = None
only_manager (x ∷ []) = Some x.item.manager
only_manager (x ∷ y ∷ ys) = None

abbrev pub master_among : List (Lined DomainDef) → Option (List ℕ)
master_among domains = only_manager (top_domains domains)

-- the name of the master
abbrev pub master_of : Defs → Option (List ℕ)
master_of d = master_among d.domains

-- the workstation that is written, or the master; none, which is a nameless one, where there is no one master
abbrev pub ws_of_stream : Defs → ScheduleDef → Option (List ℕ)
ws_of_stream d s = option_or s.ws (master_of d)

-- the workstation that is written, or that of the stream
abbrev pub ws_of_entry : Defs → ScheduleDef → EntryDef → Option (List ℕ)
ws_of_entry d s e = option_or e.ws (ws_of_stream d s)
