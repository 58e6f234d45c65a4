-- The network of definitions.
use Rattle.std.proofs.Common.{Bool, true, false, cond, List, [], ◌∷◌, filter, map}
use Rattle.std.specs.List.{AllByRecursion}
use Rattle.composer_laws.proofs.Normals.{each_both}
use Rattle.base_types.specs.declared.PromptDef.{PromptDef}
use Rattle.composer_laws.specs.Written.{AreDefs, Each, IsCpu, IsPrompt, IsResource}
use Rattle.composer_parser.specs.declared.CpuDef.{CpuDef}
use Rattle.composer_parser.specs.declared.Defs.{Defs}
use Rattle.composer_parser.specs.declared.Lined.{Lined}
use Rattle.composer_parser.specs.declared.ResourceDef.{ResourceDef}
use Rattle.composer_print.specs.Streams.{items}
use Rattle.workload_defs.specs.Nets.{net_of, node_of, resource_among}
use Rattle.workload_defs.specs.Stations.{is_that, stations, those}
use Rattle.history_laws.specs.Printables.{IsNamedNode, IsNamedPrompt, IsNamedResource, IsPrintable}
use Rattle.record_laws.proofs.NetworkNames.{name_is_kept}

-- each of them, also of those that pass, and of two lists
mapped_each : {A B : Type 0} (P : A → Type 0) (Q : B → Type 0) (f : A → B) → ((a : A) → P a → Q (f a)) → (xs : List A)
    → Each P xs → AllByRecursion Q (map f xs)
mapped_each P Q f step [] all = tt
mapped_each P Q f step (x ∷ xs) all = (step x all.0, mapped_each P Q f step xs all.1)

passing : {A : Type 0} (P : A → Type 0) (p : A → Bool) (xs : List A) → Each P xs → Each P (filter p xs)
passing P p [] all = tt
passing P p (x ∷ xs) all = go (p x) (passing P p xs all.1)
  where
    go : (b : Bool) → Each P (filter p xs) → Each P (cond b (x ∷ filter p xs) (filter p xs))
    go true rest = (all.0, rest)
    go false rest = rest

stations_are : (d : Defs) → AreDefs d → Each IsCpu (stations d)
unfolding stations
stations_are d are =
    each_both IsCpu (those d true d.cpus) (those d false d.cpus) (passing IsCpu (is_that d true) (items d.cpus) are.cpus)
    (passing IsCpu (is_that d false) (items d.cpus) are.cpus)

resources_are : (all : List CpuDef) (rs : List (Lined ResourceDef)) → Each IsResource (items rs)
    → AllByRecursion IsNamedResource (map (resource_among all) rs)
resources_are all [] h = tt
resources_are all (r ∷ rs) h = (name_is_kept r.item.name h.0.name, resources_are all rs h.1)

prompts_are : (ps : List (Lined PromptDef)) → Each IsPrompt (items ps)
    → AllByRecursion IsNamedPrompt (map (λ (p : Lined PromptDef). p.item) ps)
prompts_are [] h = tt
prompts_are (p ∷ ps) h = (
  record { name = name_is_kept p.item.name h.0.name; text = record { utf8 = h.0.text.utf8; room = h.0.text.room; line = h.0.text.line } },
  prompts_are ps h.1,
)

pub defined_printable : (d : Defs) → AreDefs d → IsPrintable (net_of d)
unfolding net_of
defined_printable d are =
    record {
      nodes =
          mapped_each IsCpu IsNamedNode (node_of d) (λ (c : CpuDef) h. name_is_kept c.name h.name) (stations d)
          (stations_are d are);
      resources = resources_are (stations d) d.resources are.resources;
      prompts = prompts_are d.prompts are.prompts;
    }
