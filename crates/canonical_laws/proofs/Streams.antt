-- The faults of streams and of their entries, as they are written and in normal form.
use Rattle.std.proofs.Common.{◌≡◌, ℕ, ◌&&◌, ◌||◌, not, true, false, List, [], ◌∷◌, ◌++◌, map, flat_map, Option, Some}
use Rattle.std.proofs.Common.{refl, ap, sym, ◌∙◌, append-nil, arith, slice_get, is_none, option_and_then, codes}
use Rattle.std.specs.List.{enumerate_from, list_any}
use Rattle.std.specs.Option.{option_or, option_map_or}
use Rattle.std.specs.Str.{bytes_eq}
use Rattle.lemmas.proofs.Booleans.{neither}
use Rattle.composer_parser.specs.declared.Lined.{Lined}
use Rattle.composer_parser.specs.declared.Defs.{Defs}
use Rattle.composer_parser.specs.declared.Clause.{Clause}
use Rattle.composer_parser.specs.declared.EntryDef.{EntryDef}
use Rattle.composer_parser.specs.declared.FreeDef.{FreeDef}
use Rattle.composer_parser.specs.declared.OnDef.{OnDef}
use Rattle.composer_parser.specs.declared.OnItem.{OnItem}
use Rattle.composer_parser.specs.declared.OnItem.TheVariants as on_item
use Rattle.composer_parser.specs.declared.ScheduleDef.{ScheduleDef}
use Rattle.composer_print.specs.Normal.{bare, all_unlined, entry_names, normal_entry, normal_schedule}
use Rattle.composer_print.specs.Scopes.{or_home, normal_clauses}
use Rattle.composer_print.specs.Streams.{items}
use Rattle.definition_names.specs.Names.{first_of, first_on}
use Rattle.definition_names.specs.Stations.{master_of, ws_of_stream, ws_of_entry}
use Rattle.definition_names.specs.Streams.{stream_at, entry_at}
use Rattle.definition_faults.specs.Clauses.{clause_faults}
use Rattle.definition_faults.specs.Entries.{lacks_job, entry_rows, faults_of_entry, entry_faults}
use Rattle.definition_faults.specs.Items.{is_later}
use Rattle.definition_faults.specs.Ons.{is_unknown_item, is_bad_item, has_first, on_rows, on_faults}
use Rattle.definition_faults.specs.Orders.{faults_at}
use Rattle.definition_faults.specs.Streams.{lacks_free_calendar, title_rows, stream_faults, all_stream_faults}
use Rattle.definition_faults.specs.Unknown.{is_unknown_ws}
use Rattle.definition_faults.specs.declared.Kind.TheVariants.{Duplicate, UnknownName, OutOfRange}
use Rattle.workload_defs.proofs.Clean.{rows_none}
use Rattle.workload_defs.proofs.Lists.{both_empty}
use Rattle.canonical_laws.proofs.Lists.{Both, append_then, append_both, pieces_both, lists_both, tables_both, moved}
use Rattle.canonical_laws.proofs.Lists.{no_position}
use Rattle.canonical_laws.proofs.Homes.{home_of, home_or, home_stays, Alike}
use Rattle.canonical_laws.proofs.Targets.{AreEntries}
use Rattle.canonical_laws.proofs.Objects.{ws_alike, ws_put, clauses_both}

-- an ON or EXCEPT
item_alike : (d e : Defs) → Alike d e → (x : OnItem) → is_unknown_item e x ≡ is_unknown_item d x
item_alike d e a (on_item.Calendar name offset) =
    ap (λ ns. is_none (first_of ns name) && not (bytes_eq name (codes "HOLIDAYS"))) a.calendars
item_alike d e a x = refl

on_alike : (d e : Defs) → Alike d e → (o : OnDef) → on_rows e o ≡ on_rows d o
on_alike d e a o =
    λ i. (list_any (λ x. item_alike d e a x i) o.items, UnknownName)
    ∷ (list_any (is_bad_item (has_first o)) o.items, OutOfRange)
    ∷ []

ons_both : (d e : Defs) → Alike d e → (ons : List (Lined OnDef))
    → Both (on_faults d ons ≡ []) (on_faults e (map bare ons) ≡ [])
unfolding on_faults
ons_both d e a ons =
    lists_both (λ (o : Lined OnDef). faults_at o.line (on_rows d o.item))
    (λ (o : Lined OnDef). faults_at o.line (on_rows e o.item))
    bare (λ o. tables_both o.line 0 (on_rows d o.item) (on_rows e o.item) (on_alike d e a o.item)) ons

-- a stream and what is its workstation in both definitions
pub record IsPlaced (d e : Defs) (n : ℕ) (m : Option (List ℕ)) (s : Lined ScheduleDef) : Type 0 where
  pub there_ : slice_get d.schedules n ≡ Some s
  pub before : ws_of_stream d s.item ≡ or_home s.item.ws m
  pub after : ws_of_stream e (normal_schedule m s).item ≡ or_home s.item.ws m

pub placed : (d e : Defs) → Alike d e → (n : ℕ) (m : Option (List ℕ)) → m ≡ master_of d → (s : Lined ScheduleDef)
    → slice_get d.schedules n ≡ Some s → IsPlaced d e n m s
unfolding normal_schedule
placed d e a n m is s at =
    let written : option_or s.item.ws (master_of d) ≡ or_home s.item.ws m =
    sym (home_or s.item.ws m ∙ ap (λ h. option_or s.item.ws h) is) in
    record {
      there_ = at;
      before = written;
      after = home_stays s.item.ws m (master_of e) (master_of d) is a.master ∙ written;
    }

module _ (d e : Defs) (a : Alike d e) (n : ℕ) (m : Option (List ℕ)) (s : Lined ScheduleDef)
    (here : IsPlaced d e n m s) where
  pub home_at : home_of d n ≡ or_home s.item.ws m
  home_at =
      ap (λ o. option_map_or (λ (x : Lined ScheduleDef). ws_of_stream d x.item) o (master_of d)) here.there_
      ∙ here.before

  pub no_entry : AreEntries d n true (entry_names s.item.entries)
  no_entry name none inside =
      ap (λ o. option_and_then (λ (x : Lined ScheduleDef). entry_at x.item name) o) here.there_
      ∙ no_position (bytes_eq name) 0 (entry_names s.item.entries) none

  pub no_header : AreEntries d n false []
  no_header name none inside = cc

  -- the workstation of an entry
  pub own_before : (x : Lined EntryDef) → ws_of_entry d s.item x.item ≡ or_home x.item.ws (or_home s.item.ws m)
  own_before x = ap (λ h. option_or x.item.ws h) here.before ∙ sym (home_or x.item.ws (or_home s.item.ws m))

  pub own_after : (names : List (List ℕ)) (x : Lined EntryDef)
      → ws_of_entry e (normal_schedule m s).item (normal_entry names (or_home s.item.ws m) x).item
      ≡ or_home x.item.ws (or_home s.item.ws m)
  unfolding normal_entry
  own_after names x =
      home_stays x.item.ws (or_home s.item.ws m) (ws_of_stream e (normal_schedule m s).item)
      (or_home s.item.ws m) refl here.after
      ∙ sym (home_or x.item.ws (or_home s.item.ws m))

  -- an entry
  entry_same : (names : List (List ℕ)) → is_unknown_ws d (or_home s.item.ws m) ≡ false → (k : ℕ) (x : Lined EntryDef)
      → entry_rows e n k (normal_schedule m s).item (normal_entry names (or_home s.item.ws m) x).item
      ≡ entry_rows d n k s.item x.item
  unfolding normal_entry
  entry_same names hk k x =
      let home : Option (List ℕ) = or_home s.item.ws m in
      let known : is_unknown_ws e (or_home x.item.ws home) ≡ is_unknown_ws d x.item.ws =
      ws_alike d e a (or_home x.item.ws home) ∙ ws_put d x.item.ws home hk in
      let own : option_or (or_home x.item.ws home) (ws_of_stream e (normal_schedule m s).item)
      ≡ ws_of_entry d s.item x.item =
      own_after names x ∙ sym (own_before x) in
      λ i. (is_later (a.entries n x.item.name i) k, Duplicate)
      ∷ (
        known i
            || (is_none x.item.work && option_map_or (λ ws. is_none (first_on (a.jobs i) ws x.item.name)) (own i) true),
        UnknownName,
      )
      ∷ []

  entry_clauses : (hk : is_unknown_ws d (or_home s.item.ws m) ≡ false) (x : Lined EntryDef)
      → is_unknown_ws d x.item.ws ≡ false
      → Both (clause_faults d n true (ws_of_entry d s.item x.item) x.item.clauses ≡ [])
      (clause_faults e n true
      (ws_of_entry e (normal_schedule m s).item
      (normal_entry (entry_names s.item.entries) (or_home s.item.ws m) x).item)
      (normal_entry (entry_names s.item.entries) (or_home s.item.ws m) x).item.clauses ≡ [])
  unfolding normal_entry
  entry_clauses hk x known =
      let names : List (List ℕ) = entry_names s.item.entries in
      let home : Option (List ℕ) = or_home s.item.ws m in
      let own : Option (List ℕ) = or_home x.item.ws home in
      let ok : is_unknown_ws d own ≡ false = ws_put d x.item.ws home hk ∙ known in
      let forms : List (Lined Clause) = all_unlined (normal_clauses names home own (items x.item.clauses)) in
      moved (clause_faults d n true own x.item.clauses)
      (clause_faults d n true (ws_of_entry d s.item x.item) x.item.clauses)
      (clause_faults e n true own forms)
      (clause_faults e n true (option_or own (ws_of_stream e (normal_schedule m s).item)) forms)
      (ap (λ o. clause_faults d n true o x.item.clauses) (own_before x))
      (ap (λ o. clause_faults e n true o forms) (own_after names x))
      (clauses_both d e a n true names home own no_entry home_at hk ok x.item.clauses)

  entry_both : is_unknown_ws d (or_home s.item.ws m) ≡ false → (k : ℕ) (x : Lined EntryDef)
      → Both (faults_of_entry d n s.item (k, x) ≡ [])
      (faults_of_entry e n (normal_schedule m s).item
      (k, normal_entry (entry_names s.item.entries) (or_home s.item.ws m) x) ≡ [])
  entry_both hk k x =
      let y : Lined EntryDef = normal_entry (entry_names s.item.entries) (or_home s.item.ws m) x in
      append_then (faults_at x.line (entry_rows d n k s.item x.item))
      (clause_faults d n true (ws_of_entry d s.item x.item) x.item.clauses)
      (faults_at y.line (entry_rows e n k (normal_schedule m s).item y.item))
      (clause_faults e n true (ws_of_entry e (normal_schedule m s).item y.item) y.item.clauses)
      (tables_both x.line y.line (entry_rows d n k s.item x.item) (entry_rows e n k (normal_schedule m s).item y.item)
      (entry_same (entry_names s.item.entries) hk k x))
      (λ none.
      let all =
      rows_none (λ (p : ℕ × Lined EntryDef). entry_rows d n p.0 s.item p.1.item) (λ p. p.1.line) k (x ∷ [])
      (append-nil (faults_at x.line (entry_rows d n k s.item x.item)) ∙ none) 0 k x (omega arith) refl in
      entry_clauses hk x (neither (is_unknown_ws d x.item.ws) (lacks_job d s.item x.item) all.1.0).0)

  entries_both : is_unknown_ws d (or_home s.item.ws m) ≡ false
      → Both (entry_faults d n s.item ≡ []) (entry_faults e n (normal_schedule m s).item ≡ [])
  unfolding entry_faults normal_schedule
  entries_both hk =
      pieces_both (faults_of_entry d n s.item) (faults_of_entry e n (normal_schedule m s).item)
      (normal_entry (entry_names s.item.entries) (or_home s.item.ws m)) s.item.entries (λ k x at. entry_both hk k x) 0
      s.item.entries refl

  -- the stream itself
  title_same : is_unknown_ws d m ≡ false → title_rows e n (normal_schedule m s).item ≡ title_rows d n s.item
  unfolding normal_schedule
  title_same mk =
      let known : is_unknown_ws e (or_home s.item.ws m) ≡ is_unknown_ws d s.item.ws =
      ws_alike d e a (or_home s.item.ws m) ∙ ws_put d s.item.ws m mk in
      let found : stream_at e (ws_of_stream e (normal_schedule m s).item) s.item.name ≡ stream_at d
      (ws_of_stream d s.item) s.item.name =
      a.streams (ws_of_stream e (normal_schedule m s).item) s.item.name
      ∙ ap (λ h. stream_at d h s.item.name) (here.after ∙ sym here.before) in
      λ i. (is_later (found i) n, Duplicate)
      ∷ (
        known i
            || option_map_or
            (λ (f : FreeDef). is_none (first_of (a.calendars i) f.name) && not (bytes_eq f.name (codes "HOLIDAYS")))
            s.item.free
            false,
        UnknownName,
      )
      ∷ []

  header_both : is_unknown_ws d (or_home s.item.ws m) ≡ false
      → Both (clause_faults d n false (ws_of_stream d s.item) s.item.clauses ≡ [])
      (clause_faults e n false (ws_of_stream e (normal_schedule m s).item) (normal_schedule m s).item.clauses ≡ [])
  unfolding normal_schedule
  header_both hk =
      let home : Option (List ℕ) = or_home s.item.ws m in
      let forms : List (Lined Clause) = all_unlined (normal_clauses [] home home (items s.item.clauses)) in
      moved (clause_faults d n false home s.item.clauses)
      (clause_faults d n false (ws_of_stream d s.item) s.item.clauses)
      (clause_faults e n false home forms) (clause_faults e n false (ws_of_stream e (normal_schedule m s).item) forms)
      (ap (λ o. clause_faults d n false o s.item.clauses) here.before)
      (ap (λ o. clause_faults e n false o forms) here.after)
      (clauses_both d e a n false [] home home no_header home_at hk hk s.item.clauses)

  bare_ons : (normal_schedule m s).item.ons ≡ map bare s.item.ons
  unfolding normal_schedule
  bare_ons = refl

  pub stream_both : is_unknown_ws d m ≡ false
      → Both (stream_faults d n s ≡ []) (stream_faults e n (normal_schedule m s) ≡ [])
  unfolding stream_faults
  stream_both mk =
      let t : Lined ScheduleDef = normal_schedule m s in
      let titles = faults_at s.line (title_rows d n s.item) in
      let ons = on_faults d s.item.ons in
      let header = clause_faults d n false (ws_of_stream d s.item) s.item.clauses in
      let form_titles = faults_at t.line (title_rows e n t.item) in
      let form_ons = on_faults e t.item.ons in
      let form_header = clause_faults e n false (ws_of_stream e t.item) t.item.clauses in
      let known : titles ++ ons ≡ [] → is_unknown_ws d (or_home s.item.ws m) ≡ false =
      λ none.
      let all =
      rows_none (λ (p : ℕ × Lined ScheduleDef). title_rows d p.0 p.1.item) (λ p. p.1.line) n (s ∷ [])
      (append-nil titles ∙ (both_empty titles ons none).0) 0 n s (omega arith) refl in
      ws_put d s.item.ws m mk ∙ (neither (is_unknown_ws d s.item.ws) (lacks_free_calendar d s.item) all.1.0).0 in
      append_then (titles ++ ons ++ header) (entry_faults d n s.item) (form_titles ++ form_ons ++ form_header)
      (entry_faults e n t.item)
      (append_then (titles ++ ons) header (form_titles ++ form_ons) form_header
      (append_both titles ons form_titles form_ons
      (tables_both s.line t.line (title_rows d n s.item) (title_rows e n t.item) (title_same mk))
      (moved ons ons (on_faults e (map bare s.item.ons)) form_ons refl (ap (λ os. on_faults e os) bare_ons)
      (ons_both d e a s.item.ons)))
      (λ none. header_both (known none)))
      (λ none. entries_both (known (both_empty (titles ++ ons) header none).0))

-- all streams
pub streams_both : (d e : Defs) → Alike d e → (m : Option (List ℕ)) → m ≡ master_of d → is_unknown_ws d m ≡ false
    → e.schedules ≡ map (normal_schedule m) d.schedules → Both (all_stream_faults d ≡ []) (all_stream_faults e ≡ [])
unfolding all_stream_faults
streams_both d e a m is mk are =
    moved (flat_map (λ (p : ℕ × Lined ScheduleDef). stream_faults d p.0 p.1) (enumerate_from 0 d.schedules))
    (flat_map (λ (p : ℕ × Lined ScheduleDef). stream_faults d p.0 p.1) (enumerate_from 0 d.schedules))
    (flat_map (λ (p : ℕ × Lined ScheduleDef). stream_faults e p.0 p.1)
    (enumerate_from 0 (map (normal_schedule m) d.schedules)))
    (flat_map (λ (p : ℕ × Lined ScheduleDef). stream_faults e p.0 p.1) (enumerate_from 0 e.schedules)) refl
    (ap (λ ss. flat_map (λ (p : ℕ × Lined ScheduleDef). stream_faults e p.0 p.1) (enumerate_from 0 ss)) are)
    (pieces_both (λ (p : ℕ × Lined ScheduleDef). stream_faults d p.0 p.1)
    (λ (p : ℕ × Lined ScheduleDef). stream_faults e p.0 p.1)
    (normal_schedule m) d.schedules
    (λ n s at. stream_both d e a n m s (placed d e a n m is s at) mk) 0 d.schedules refl)
