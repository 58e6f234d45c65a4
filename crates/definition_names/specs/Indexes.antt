-- The tables of names that are kept of definitions.
use Rattle.std.specs.Prelude.{◌≡◌, ℕ, ◌&&◌, ◌==◌, List, Option, Some, None}
use Rattle.std.specs.Borrow.{Bor}
use Rattle.std.specs.Map.{lookup}
use Rattle.std.specs.Str.{bytes_eq}
use Rattle.composer_parser.specs.declared.Lined.{Lined}
use Rattle.composer_parser.specs.declared.Defs.{Defs}
use Rattle.composer_parser.specs.declared.ScheduleDef.{ScheduleDef}
use Rattle.definition_names.specs.Names.{first_of, first_on, cpu_names, domain_names, calendar_names, prompt_names}
use Rattle.definition_names.specs.Names.{resource_names, job_names}
use Rattle.definition_names.specs.Stations.{master_of}
use Rattle.definition_names.specs.Streams.{stream_among, entry_among}
use Rattle.definition_names.specs.declared.kinds.NameTables.{NameTables}
use Rattle.definition_names.specs.declared.kinds.PairTables.{PairTables}
use Rattle.definition_names.specs.declared.streams.StreamIndex.{StreamIndex}

-- what an index has at a name
abbrev pub name_in : List (Bor (List ℕ) × ℕ) → List ℕ → Option ℕ
name_in index name = lookup (λ (k : Bor (List ℕ)). bytes_eq name k.now) index

abbrev pub pair_in : List ((Bor (List ℕ) × Bor (List ℕ)) × ℕ) → List ℕ → List ℕ → Option ℕ
pair_in index ws name =
    lookup (λ (k : Bor (List ℕ) × Bor (List ℕ)). bytes_eq ws k.0.now && bytes_eq name k.1.now) index

abbrev pub entry_in : List ((ℕ × Bor (List ℕ)) × ℕ) → ℕ → List ℕ → Option ℕ
entry_in index n name = lookup (λ (k : ℕ × Bor (List ℕ)). (n == k.0) && bytes_eq name k.1.now) index

-- the index has the first of each name
abbrev pub IsIndex : List (Bor (List ℕ) × ℕ) → List (List ℕ) → Type 0
IsIndex index names = (name : List ℕ) → name_in index name ≡ first_of names name

abbrev pub IsPairIndex : List ((Bor (List ℕ) × Bor (List ℕ)) × ℕ) → List (List ℕ × List ℕ) → Type 0
IsPairIndex index names = (ws name : List ℕ) → pair_in index ws name ≡ first_on names ws name

abbrev pub IsEntryIndex : List ((ℕ × Bor (List ℕ)) × ℕ) → List (Lined ScheduleDef) → Type 0
IsEntryIndex index schedules =
    (n : ℕ) (name : List ℕ) → entry_in index n name ≡ entry_among schedules n name

abbrev pub stream_in : StreamIndex → Option (List ℕ) → List ℕ → Option ℕ
stream_in index (Some ws) name = pair_in index.placed.entries ws name
stream_in index None name = name_in index.nameless.entries name

abbrev pub IsStreamIndex : StreamIndex → List (Lined ScheduleDef) → Option (List ℕ) → Type 0
IsStreamIndex index schedules master =
    (ws : Option (List ℕ)) (name : List ℕ) → stream_in index ws name ≡ stream_among schedules master ws name

-- the tables of the names of definitions
pub record AreNameTables (d : Defs) (tables : NameTables) : Type 0 where
  pub cpus_ : IsIndex tables.cpus.entries (cpu_names d)
  pub domains_ : IsIndex tables.domains.entries (domain_names d)
  pub calendars_ : IsIndex tables.calendars.entries (calendar_names d)
  pub prompts_ : IsIndex tables.prompts.entries (prompt_names d)

pub record ArePairTables (d : Defs) (tables : PairTables) : Type 0 where
  pub resources_ : IsPairIndex tables.resources.entries (resource_names d)
  pub jobs_ : IsPairIndex tables.jobs.entries (job_names d)

pub record AreTables (d : Defs) (master : Option (List ℕ)) (alone : NameTables) (placed : PairTables)
    (streams : StreamIndex) (entries : List ((ℕ × Bor (List ℕ)) × ℕ)) : Type 0 where
  pub master_ : master ≡ master_of d
  pub alone_ : AreNameTables d alone
  pub placed_ : ArePairTables d placed
  pub streams_ : IsStreamIndex streams d.schedules (master_of d)
  pub entries_ : IsEntryIndex entries d.schedules
