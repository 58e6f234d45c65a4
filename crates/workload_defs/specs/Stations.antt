-- The workstations of definitions by their numbers: the master is 0, and the others follow in order of definition.
use Rattle.std.specs.Prelude.{ℕ, Bool, true, false, not, if◌then◌else◌, List, [], ◌∷◌, ◌++◌, filter, map, Option, Some}
use Rattle.std.specs.List.{position_from}
use Rattle.std.specs.Str.{bytes_eq}
use Rattle.composer_parser.specs.declared.Lined.{Lined}
use Rattle.composer_parser.specs.declared.Defs.{Defs}
use Rattle.composer_parser.specs.declared.CpuDef.{CpuDef}
use Rattle.definition_names.specs.Stations.{master_of}
use Rattle.definition_names.specs.Streams.{is_one_ws}

abbrev pub is_master : Defs → CpuDef → Bool
is_master d c = is_one_ws (master_of d) (Some c.name)

-- of the workstations those that are the master, or those that are not
abbrev pub is_that : Defs → Bool → CpuDef → Bool
is_that d true c = is_master d c
is_that d false c = not (is_master d c)

-- the workstation where it is one of those
abbrev pub one_of : Defs → Bool → CpuDef → List CpuDef
one_of d masters c = if is_that d masters c then c ∷ [] else []

abbrev pub those : Defs → Bool → List (Lined CpuDef) → List CpuDef
those d masters all = filter (is_that d masters) (map (λ (c : Lined CpuDef). c.item) all)

unfoldable pub stations : Defs → List CpuDef
stations d = those d true d.cpus ++ those d false d.cpus

-- the number of the workstation of a name
abbrev pub number_among : List CpuDef → List ℕ → Option ℕ
number_among all name = position_from (λ (c : CpuDef). bytes_eq name c.name) 0 all

abbrev pub number_of : Defs → List ℕ → Option ℕ
number_of d name = number_among (stations d) name
