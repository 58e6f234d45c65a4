-- The workstations of definitions without a fault, by their names and in their network.
use Rattle.std.proofs.Common.{◌≡◌, ◌<◌, ℕ, false, List, Option, Some, None, slice_get, is_none}
use Rattle.std.proofs.Common.{refl, ap, ◌∙◌, option_and_then, unwrap_or}
use Rattle.std.specs.Option.{option_or}
use Rattle.std.proofs.lemmas.Option.{slice_get_within}
use Rattle.composer_laws.specs.Written.{IsText}
use Rattle.composer_parser.specs.declared.Defs.{Defs}
use Rattle.composer_parser.specs.declared.DomainDef.{DomainDef}
use Rattle.composer_parser.specs.declared.EntryDef.{EntryDef}
use Rattle.composer_parser.specs.declared.Lined.{Lined}
use Rattle.composer_parser.specs.declared.ScheduleDef.{ScheduleDef}
use Rattle.definition_faults.specs.Unknown.{is_unknown_ws}
use Rattle.definition_names.specs.Names.{cpu_at}
use Rattle.definition_names.specs.Stations.{master_of, ws_of_entry, ws_of_stream}
use Rattle.history_laws.specs.Printables.{IsLineText}
use Rattle.history_laws.proofs.Named.{name_there}
use Rattle.model.specs.Network.{node_count}
use Rattle.plan_builder.specs.Dependencies.{number_or_master}
use Rattle.report_text.specs.Names.{name_of}
use Rattle.workload_defs.specs.Nets.{net_of, node_of}
use Rattle.workload_defs.specs.Stations.{number_of}
use Rattle.workload_defs.proofs.Clean.{IsClean, good_domain, one_top}
use Rattle.workload_defs.proofs.Lists.{from_filtered}
use Rattle.workload_defs.proofs.Numbers.{number_known, master_is}
use Rattle.workload_defs.proofs.Trees.{node_there}

-- Texts of definitions, as records have them.

pub text_line : (v : List ℕ) → IsText v → IsLineText v
text_line v h = record { utf8 = h.utf8; room = h.room; line = h.line }

-- A workstation by its name.
pub record IsKnown (d : Defs) (ws : List ℕ) : Type 0 where
  pub number : ℕ
  pub is : number_of d ws ≡ Some number
  pub inside : number < node_count (net_of d)
  pub called : name_of (net_of d) number ≡ ws

-- an object stands on a workstation that is known
pub record IsOwn (d : Defs) (own : Option (List ℕ)) : Type 0 where
  pub ws : List ℕ
  pub is : own ≡ Some ws
  pub known : IsKnown d ws

module _ (d : Defs) (clean : IsClean d) where
  pub known_at : (ws : List ℕ) (i : ℕ) → cpu_at d ws ≡ Some i → IsKnown d ws
  known_at ws i e =
      let h = number_known d clean ws i e in
      let there = node_there d h.number h.cpu h.stands in
      record {
        number = h.number;
        is = h.is_number;
        inside = slice_get_within (net_of d).nodes h.number (node_of d h.cpu) there;
        called = name_there (net_of d) h.number (node_of d h.cpu) there ∙ h.called;
      }

  known_name : (ws : List ℕ) → is_none (cpu_at d ws) ≡ false → IsKnown d ws
  known_name ws e = go (cpu_at d ws) refl e
    where
      go : (o : Option ℕ) → cpu_at d ws ≡ o → is_none o ≡ false → IsKnown d ws
      go None is none = absurd (cc)
      go (Some i) is none = known_at ws i is

  -- the master
  master_known : IsOwn d (master_of d)
  master_known =
      let first = (one_top d clean).0 in
      let f =
      from_filtered (λ (y : Lined DomainDef). is_none y.item.parent) d.domains 0 first
      (ap (λ (l : List (Lined DomainDef)). slice_get l 0) (one_top d clean).1) in
      let good = good_domain d clean f.0 first f.1 in
      record { ws = first.item.manager; is = master_is d clean; known = known_at first.item.manager good.manager_place good.managed }

  written_or : (o own : Option (List ℕ)) → is_unknown_ws d o ≡ false → IsOwn d own → IsOwn d (option_or o own)
  written_or None own e h = h
  written_or (Some ws) own e h = record { ws = ws; is = refl; known = known_name ws e }

  pub stream_own : (s : ScheduleDef) → is_unknown_ws d s.ws ≡ false → IsOwn d (ws_of_stream d s)
  stream_own s e = written_or s.ws (master_of d) e master_known

  pub entry_own : (s : ScheduleDef) (e : EntryDef) → IsOwn d (ws_of_stream d s) → is_unknown_ws d e.ws ≡ false
      → IsOwn d (ws_of_entry d s e)
  entry_own s e h none = written_or e.ws (ws_of_stream d s) none h

pub number_is : (d : Defs) (own : Option (List ℕ)) (h : IsOwn d own) → number_or_master d own ≡ h.known.number
number_is d own h =
    ap (λ o. unwrap_or (option_and_then (number_of d) o) 0) h.is ∙ ap (λ o. unwrap_or o 0) h.known.is
