-- The faults of the entries of a stream.
use Rattle.std.specs.Prelude.{ℕ, Bool, true, ◌&&◌, ◌||◌, List, [], ◌∷◌, ◌++◌, is_none, flat_map}
use Rattle.std.specs.List.{enumerate_from}
use Rattle.std.specs.Option.{option_map_or}
use Rattle.composer_parser.specs.declared.Lined.{Lined}
use Rattle.composer_parser.specs.declared.Defs.{Defs}
use Rattle.composer_parser.specs.declared.EntryDef.{EntryDef}
use Rattle.composer_parser.specs.declared.ScheduleDef.{ScheduleDef}
use Rattle.definition_names.specs.Names.{job_at}
use Rattle.definition_names.specs.Stations.{ws_of_entry}
use Rattle.definition_names.specs.Streams.{entry_of}
use Rattle.definition_faults.specs.Orders.{faults_at}
use Rattle.definition_faults.specs.Items.{is_later}
use Rattle.definition_faults.specs.Unknown.{is_unknown_ws}
use Rattle.definition_faults.specs.Clauses.{clause_faults}
use Rattle.definition_faults.specs.declared.kinds.Kind.{Kind}
use Rattle.definition_faults.specs.declared.kinds.Kind.TheVariants.{Duplicate, UnknownName}
use Rattle.definition_faults.specs.declared.kinds.Fault.{Fault}

-- no work of its own, and no job of its name on its workstation
abbrev pub lacks_job : Defs → ScheduleDef → EntryDef → Bool
lacks_job d s e =
    is_none e.work && option_map_or (λ ws. is_none (job_at d ws e.name)) (ws_of_entry d s e) true

-- an entry: its name in its stream, its workstation, its work
abbrev pub entry_rows : Defs → ℕ → ℕ → ScheduleDef → EntryDef → List (Bool × Kind)
entry_rows d stream i s e =
    (is_later (entry_of d stream e.name) i, Duplicate)
    ∷ (is_unknown_ws d e.ws || lacks_job d s e, UnknownName)
    ∷ []

-- with its clauses
abbrev pub faults_of_entry : Defs → ℕ → ScheduleDef → ℕ × Lined EntryDef → List Fault
faults_of_entry d stream s p =
    faults_at p.1.line (entry_rows d stream p.0 s p.1.item)
    ++ clause_faults d stream true (ws_of_entry d s p.1.item) p.1.item.clauses

unfoldable pub entry_faults : Defs → ℕ → ScheduleDef → List Fault
entry_faults d stream s = flat_map (faults_of_entry d stream s) (enumerate_from 0 s.entries)
