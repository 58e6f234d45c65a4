-- Streams that are read back.
use Rattle.std.proofs.Common.{◌≡◌, Bool, true, false, List, [], ◌∷◌, ◌++◌, map, flat_map, codes, arith, Option, Some, None, refl, ap, sym, ◌∙◌}
use Rattle.std.proofs.lemmas.Grind.{common_steps}
use Rattle.composer_parser.specs.declared.definitions.Lined.{Lined}
use Rattle.composer_parser.specs.declared.definitions.WorkDef.{WorkDef}
use Rattle.composer_parser.specs.declared.clauses.Clause.{Clause}
use Rattle.composer_parser.specs.declared.schedules.OnDef.{OnDef}
use Rattle.composer_parser.specs.declared.schedules.FreeDef.{FreeDef}
use Rattle.composer_parser.specs.declared.schedules.EntryDef.{EntryDef}
use Rattle.composer_parser.specs.declared.schedules.ScheduleDef.{ScheduleDef}
use Rattle.composer_parser.specs.Kinds.{a_mark, mark}
use Rattle.composer_parser.specs.Parts.{dropped_mark}
use Rattle.composer_parser.specs.Reading.{empty}
use Rattle.composer_parser.specs.Schedules as grammar
use Rattle.composer_print.specs.Clauses.{name_text, clauses_text}
use Rattle.composer_print.specs.Streams.{items, free_text, flag_text, own_work_text, on_text, entry_line, header_line, entry_lines, schedule_lines}
use Rattle.composer_print.specs.Normal.{unlined, all_unlined, bare}
use Rattle.composer_laws.specs.Written.{WhenGiven, Each, IsWork, IsFree, IsOn, IsEntry, IsSchedule}
use Rattle.composer_laws.specs.Lines.{bare_entry, bare_schedule}
use Rattle.composer_laws.proofs.Phrases.{colon_phrase}
use Rattle.composer_laws.proofs.Readings.{Reads, one_reads, made_reads, app, skip, left_reads, right_reads, ended, as_text}
use Rattle.composer_laws.proofs.Words.{Any, key_reads, key_begins, name_reads}
use Rattle.composer_laws.proofs.Scopes.{scope_reads, scope_begins}
use Rattle.composer_laws.proofs.Lists.{list_reads, list_reads_by}
use Rattle.composer_laws.proofs.Stations.{no_description}
use Rattle.composer_laws.proofs.Works.{work_reads}
use Rattle.composer_laws.proofs.Clauses.{clauses_reads}
use Rattle.composer_laws.proofs.Ons.{on_reads}

-- free days
saturday_reads : (b : Bool) → Reads false false grammar.minus_sa (flag_text b (codes " -SA")) (λ x. x ≡ b)
unfolding grammar.minus_sa
saturday_reads true = left_reads (app (made_reads false (λ x a. refl)) (key_reads (codes "-SA") refl))
saturday_reads false = right_reads (made_reads false refl)

sunday_reads : (b : Bool) → Reads false false grammar.minus_su (flag_text b (codes " -SU")) (λ x. x ≡ b)
unfolding grammar.minus_su
sunday_reads true = left_reads (app (made_reads false (λ x a. refl)) (key_reads (codes "-SU") refl))
sunday_reads false = right_reads (made_reads false refl)

free_reads : (f : Option FreeDef) → WhenGiven IsFree f → Reads false false grammar.free_days (free_text f) (λ x. x ≡ f)
unfolding grammar.free_days free_text
free_reads None h = right_reads (made_reads false refl)
free_reads (Some f) h =
    left_reads
    (app
    (app
    (app (app (made_reads false (λ x a n b u d v e i. Some (record { name = b i; minus_sa = d i; minus_su = e i }))) (key_reads (codes "FREEDAYS") refl))
    (name_reads f.name h))
    (saturday_reads f.minus_sa))
    (sunday_reads f.minus_su))

-- entries
own_work_reads : (w : Option WorkDef) → WhenGiven IsWork w → Reads false false grammar.own_work (own_work_text w) (λ x. x ≡ w)
unfolding grammar.own_work own_work_text
own_work_reads None h = right_reads (made_reads false refl)
own_work_reads (Some w) h = left_reads (app (made_reads false (λ x e. ap Some e)) (work_reads w h))

entry_bytes : (e : EntryDef)
    → name_text e.ws e.name ++ own_work_text e.work ++ clauses_text (items e.clauses) ++ 10 ∷ [] ≡ entry_line e
unfolding entry_line
entry_bytes e = refl

-- clauses that differ in their lines alone
same_clauses : (xs ys : List (Lined Clause)) → items xs ≡ items ys → map bare xs ≡ map bare ys
same_clauses xs ys e = all_items xs ∙ ap (λ cs. all_unlined cs) e ∙ sym (all_items ys)
  where
    all_items : (zs : List (Lined Clause)) → map bare zs ≡ all_unlined (items zs)
    all_items [] = refl
    all_items (z ∷ zs) = ap (λ cs. unlined z.item ∷ cs) (all_items zs)

same_ons : (xs ys : List (Lined OnDef)) → items xs ≡ items ys → map bare xs ≡ map bare ys
same_ons xs ys e = all_items xs ∙ ap (λ cs. all_unlined cs) e ∙ sym (all_items ys)
  where
    all_items : (zs : List (Lined OnDef)) → map bare zs ≡ all_unlined (items zs)
    all_items [] = refl
    all_items (z ∷ zs) = ap (λ cs. unlined z.item ∷ cs) (all_items zs)

pub entry_reads : (e : EntryDef) → IsEntry e → Reads true true grammar.entry (entry_line e) (λ x. bare_entry x.item ≡ bare_entry e)
unfolding grammar.entry
entry_reads e h =
    as_text
    (ended
    (app
    (app
    (app (made_reads true (λ t a w b cs d i.
    record { ws = a.0 i; name = a.1 i; work = b i; clauses = same_clauses cs e.clauses d i })) (scope_begins e.ws e.name h.ws h.name))
    (own_work_reads e.work h.work))
    (clauses_reads false (items e.clauses) h.clauses)))
    (entry_bytes e)

-- no piece is empty
on_some : empty grammar.on ≡ false
unfolding grammar.on grammar.on_key
on_some = refl

entry_some : empty grammar.entry ≡ false
unfolding grammar.entry
entry_some = refl

-- the header of a stream
ons_reads : (os : List OnDef) → Each IsOn os → Reads false false grammar.ons (flat_map on_text os) (λ x. items x ≡ os)
unfolding grammar.ons
ons_reads os h = list_reads (λ l. l.item) on_text grammar.on IsOn on_some on_reads os h

colon_reads : Reads false false (dropped_mark 58) (32 ∷ 58 ∷ []) Any
colon_reads = one_reads (a_mark 58) (λ t. tt) (mark 58) colon_phrase refl (λ line. tt)

title_reads : (s : ScheduleDef) → IsSchedule s
    → Reads true false grammar.title (codes "SCHEDULE" ++ (32 ∷ name_text s.ws s.name) ++ [] ++ free_text s.free)
    (λ t. (t.ws ≡ s.ws) × (t.name ≡ s.name) × (t.free ≡ s.free))
unfolding grammar.title
title_reads s h =
    app
    (skip
    (app (app (made_reads true (λ line a t b f e. (b.0, b.1, e))) (key_begins (codes "SCHEDULE") refl refl)) (scope_reads s.ws s.name h.ws h.name))
    no_description)
    (free_reads s.free h.free)

header_bytes : (s : ScheduleDef)
    → (codes "SCHEDULE" ++ (32 ∷ name_text s.ws s.name) ++ [] ++ free_text s.free) ++ flat_map on_text (items s.ons)
    ++ clauses_text (items s.clauses) ++ (32 ∷ 58 ∷ []) ++ 10 ∷ []
    ≡ header_line s
unfolding header_line
header_bytes s = grind (arith, common_steps)

header_reads : (s : ScheduleDef) → IsSchedule s
    → Reads true true grammar.header (header_line s)
    (λ x. (x.item.ws ≡ s.ws) × (x.item.name ≡ s.name) × (x.item.free ≡ s.free) × (items x.item.ons ≡ items s.ons)
    × (items x.item.clauses ≡ items s.clauses))
unfolding grammar.header
header_reads s h =
    as_text
    (ended
    (skip
    (app
    (app (app (made_reads true (λ t a os b cs e. (a.0, a.1, a.2, b, e))) (title_reads s h)) (ons_reads (items s.ons) h.ons))
    (clauses_reads true (items s.clauses) h.clauses))
    colon_reads))
    (header_bytes s)

-- streams
entries_reads : (es : List EntryDef) → Each IsEntry es
    → Reads true true grammar.entries (flat_map entry_line es) (λ x. map (λ l. bare_entry l.item) x ≡ map bare_entry es)
unfolding grammar.entries
entries_reads es h = list_reads_by (λ l. bare_entry l.item) bare_entry entry_line grammar.entry IsEntry entry_some entry_reads es h

same_entries : (xs ys : List (Lined EntryDef)) → map (λ l. bare_entry l.item) xs ≡ map bare_entry (items ys)
    → map (λ e. unlined (bare_entry e.item)) xs ≡ map (λ e. unlined (bare_entry e.item)) ys
same_entries xs ys e = first xs ∙ ap (λ zs. map (λ z. unlined z) zs) e ∙ sym (second ys)
  where
    first : (zs : List (Lined EntryDef))
        → map (λ e. unlined (bare_entry e.item)) zs ≡ map (λ z. unlined z) (map (λ l. bare_entry l.item) zs)
    first [] = refl
    first (z ∷ zs) = ap (λ us. unlined (bare_entry z.item) ∷ us) (first zs)

    second : (zs : List (Lined EntryDef))
        → map (λ e. unlined (bare_entry e.item)) zs ≡ map (λ z. unlined z) (map bare_entry (items zs))
    second [] = refl
    second (z ∷ zs) = ap (λ us. unlined (bare_entry z.item) ∷ us) (second zs)

schedule_bytes : (s : ScheduleDef)
    → header_line s ++ flat_map entry_line (items s.entries) ++ codes "END" ++ 10 ∷ [] ≡ schedule_lines s
unfolding schedule_lines entry_lines
schedule_bytes s = grind (arith, common_steps)

pub schedule_reads : (s : ScheduleDef) → IsSchedule s
    → Reads true true grammar.schedule (schedule_lines s) (λ x. bare_schedule x.item ≡ bare_schedule s)
unfolding grammar.schedule
schedule_reads s h =
    as_text
    (ended
    (skip
    (app
    (app (made_reads true (λ x a es b i.
    record {
      ws = a.0 i;
      name = a.1 i;
      free = a.2 i;
      ons = same_ons x.item.ons s.ons a.3 i;
      clauses = same_clauses x.item.clauses s.clauses a.4 i;
      entries = same_entries es s.entries b i;
    })) (header_reads s h))
    (entries_reads (items s.entries) h.entries))
    (key_begins (codes "END") refl refl)))
    (schedule_bytes s)
