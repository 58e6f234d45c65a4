-- The limits and the times of the plan of a day are those of the normal form.
use Rattle.std.proofs.Common.{◌≡◌, ◌+◌, ℕ, Bool, true, false, cond, eqb, List, [], ◌∷◌, ◌++◌, map, filter, flat_map}
use Rattle.std.proofs.Common.{length, fold, pos}
use Rattle.std.proofs.Common.{Option, Some, None, refl, ap, sym, ◌∙◌, arith, slice_get, option_map, option_and_then}
use Rattle.std.proofs.Common.{unwrap_or, codes}
use Rattle.std.proofs.lemmas.List.{length-map}
use Rattle.std.proofs.lemmas.Option.{slice_get-map}
use Rattle.std.specs.List.{range_with_len}
use Rattle.std.specs.Option.{option_map_or}
use Rattle.std.specs.Prelude.{nat_lt}
use Rattle.std.specs.Str.{bytes_eq}
use Rattle.lemmas.proofs.Booleans.{contrary}
use Rattle.lemmas.proofs.Numbers.{number_tells}
use Rattle.lemmas.proofs.Texts.{text_tells}
use Rattle.composer_parser.specs.declared.Lined.{Lined}
use Rattle.composer_parser.specs.declared.Defs.{Defs}
use Rattle.composer_parser.specs.declared.Clause.{Clause}
use Rattle.composer_parser.specs.declared.Clause.TheVariants.{Follows, Needs, Prompt, Opens}
use Rattle.composer_parser.specs.declared.EntryDef.{EntryDef}
use Rattle.composer_parser.specs.declared.ScheduleDef.{ScheduleDef}
use Rattle.composer_print.specs.Normal as forms
use Rattle.composer_print.specs.Normal.{unlined, all_unlined, entry_names, normal_entry, normal_schedule}
use Rattle.composer_print.specs.Scopes.{or_home, normal_clauses}
use Rattle.composer_print.specs.Stations.{unless_utc}
use Rattle.composer_print.specs.Streams.{items}
use Rattle.composer_print.specs.Texts.{unless, item_of}
use Rattle.composer_print.proofs.Joins.{items_unlined}
use Rattle.model.specs.Words.{first_of_these, least}
use Rattle.plan_times.specs.Zones.{east_of}
use Rattle.plan_builder.specs.Limits.{running, entries_of, job_count, lines_in, lines_of_entries, lines_of_stream}
use Rattle.plan_builder.specs.Limits.{timeless_lines, limit_fault, time_fault}
use Rattle.plan_builder.specs.Times.{plan_day, is_timeless}
use Rattle.plan_builder.specs.declared.times.PlanDay.{PlanDay}
use Rattle.plan_builder.specs.declared.PlanFault.TheVariants.{Limit, OutOfRange}
use Rattle.canonical_laws.proofs.Lists.{Both, append_both, lists_both, moved, at_place}
use Rattle.canonical_laws.proofs.Weights.{Weights, weight, total, weighed}
use Rattle.canonical_laws.proofs.Counts.{bit, bit_zero, neither_way}
use Rattle.canonical_laws.proofs.Forms.{IsForm}
use Rattle.canonical_laws.proofs.Networks.{count_same}
use Rattle.canonical_laws.proofs.Runs.{runs_same}

-- the start of a day and the time zone
start_test : (n : ℕ) (b : Bool) → eqb n 360 ≡ b
    → option_map_or (λ (s : Lined ℕ). s.item) (option_map unlined (cond b None (Some n))) 360 ≡ n
start_test n true e = sym (number_tells n 360 e)
start_test n false e = refl

start_by : (o : Option (Lined ℕ))
    → option_map_or (λ (s : Lined ℕ). s.item) (option_map unlined (unless 360 (item_of o))) 360
    ≡ option_map_or (λ (s : Lined ℕ). s.item) o 360
start_by None = refl
start_by (Some s) = start_test s.item (eqb s.item 360) refl

utc_is : unwrap_or (east_of (codes "UTC")) (pos 0) ≡ pos 0
unfolding east_of
utc_is = refl

zone_test : (zone : List ℕ) (b : Bool) → bytes_eq zone (codes "UTC") ≡ b
    → unwrap_or
    (option_and_then (λ (z : Lined (List ℕ)). east_of z.item) (option_map unlined (cond b None (Some zone)))) (pos 0)
    ≡ unwrap_or (east_of zone) (pos 0)
zone_test zone true e = sym (ap (λ t. unwrap_or (east_of t) (pos 0)) (text_tells zone (codes "UTC") e) ∙ utc_is)
zone_test zone false e = refl

zone_by : (o : Option (Lined (List ℕ)))
    → unwrap_or (option_and_then (λ (z : Lined (List ℕ)). east_of z.item) (option_map unlined (unless_utc (item_of o))))
    (pos 0)
    ≡ unwrap_or (option_and_then (λ (z : Lined (List ℕ)). east_of z.item) o) (pos 0)
zone_by None = refl
zone_by (Some z) = zone_test z.item (bytes_eq z.item (codes "UTC")) refl

pub plan_same : (d e : Defs) → IsForm d e → (day : ℕ) → plan_day e day ≡ plan_day d day
plan_same d e form day =
    let start = ap (λ (o : Option (Lined ℕ)). option_map_or (λ (s : Lined ℕ). s.item) o 360) form.start
    ∙ start_by d.start in
    let east =
    ap (λ (o : Option (Lined (List ℕ))). unwrap_or (option_and_then (λ (z : Lined (List ℕ)). east_of z.item) o) (pos 0))
    form.zone
    ∙ zone_by d.zone in
    λ i. record { day = day; start = start i; east = east i }

-- the streams of a day, and how many jobs they have
pub running_same : (d e : Defs) → IsForm d e → (day : ℕ) → running e day ≡ running d day
unfolding running
running_same d e form day =
    λ i. filter (λ n. runs_same d e form n day i) (range_with_len 0 (count_same d e form i))

entries_counted : (d e : Defs) → IsForm d e → (n : ℕ) → length (entries_of e n) ≡ length (entries_of d n)
unfolding normal_schedule
entries_counted d e form n =
    let m : Option (List ℕ) = forms.master_of d.domains in
    ap (λ (ss : List (Lined ScheduleDef)).
    length (option_map_or (λ (s : Lined ScheduleDef). s.item.entries) (slice_get ss n) [])) form.schedules
    ∙ at_place (normal_schedule m) (λ o. length (option_map_or (λ (s : Lined ScheduleDef). s.item.entries) o []))
    (λ o. length (option_map_or (λ (s : Lined ScheduleDef). s.item.entries) o [])) refl
    (λ s. length-map s.item.entries (normal_entry (entry_names s.item.entries) (or_home s.item.ws m))) d.schedules n

jobs_counted : (d e : Defs) → IsForm d e → (day : ℕ) → job_count e (running e day) ≡ job_count d (running d day)
jobs_counted d e form day =
    (λ i. fold (λ a n. a + entries_counted d e form n i) 0 (running_same d e form day i))

pub limits_same : (d e : Defs) → IsForm d e → (day : ℕ) → limit_fault e day ≡ limit_fault d day
limits_same d e form day =
    λ i. first_of_these
    ((nat_lt 4096 (length (running_same d e form day i)), Limit 4096)
    ∷ (nat_lt 16384 (jobs_counted d e form day i), Limit 16384)
    ∷ [])

-- times without a moment, as counts
abbrev time_weights : PlanDay → Weights
time_weights plan = record {
  single = λ c. bit (is_timeless plan c);
  pred = λ p. 0;
  need = λ x. 0;
  prompt = λ p. 0;
  file = λ f. 0;
}

time_zero : (plan : PlanDay) (c : Clause) → Both (is_timeless plan c ≡ false) (weight (time_weights plan) c ≡ 0)
time_zero plan (Follows ps) = neither_way ps
time_zero plan (Needs ns) = neither_way ns
time_zero plan (Prompt ps) = neither_way ps
time_zero plan (Opens fs) = neither_way fs
time_zero plan c = bit_zero (is_timeless plan c)

lines_counted : (plan : PlanDay) (cs : List (Lined Clause))
    → Both (lines_in plan cs ≡ []) (total (weight (time_weights plan)) (items cs) ≡ 0)
lines_counted plan [] = (λ e. refl, λ e. refl)
lines_counted plan (c ∷ cs) = go (is_timeless plan c.item) refl (lines_counted plan cs)
  where
    go : (b : Bool) → is_timeless plan c.item ≡ b
        → Both (lines_in plan cs ≡ []) (total (weight (time_weights plan)) (items cs) ≡ 0)
        → Both
        (map (λ (x : Lined Clause). x.line)
        (cond b (c ∷ filter (λ (x : Lined Clause). is_timeless plan x.item) cs)
        (filter (λ (x : Lined Clause). is_timeless plan x.item) cs)) ≡ [])
        (weight (time_weights plan) c.item + total (weight (time_weights plan)) (items cs) ≡ 0)
    go true is more =
        (λ e. cc, λ e. absurd (contrary is ((time_zero plan c.item).1 (omega (arith, e)))))
    go false is more = (
      λ e.
          let here = (time_zero plan c.item).0 is in
          let later = more.0 e in
          omega (arith, here, later),
      λ e. more.1 (omega (arith, e)),
    )

lines_both : (plan : PlanDay) (names : List (List ℕ)) (home own : Option (List ℕ)) (cs : List (Lined Clause))
    → Both (lines_in plan cs ≡ []) (lines_in plan (all_unlined (normal_clauses names home own (items cs))) ≡ [])
lines_both plan names home own cs =
    let all : List Clause = normal_clauses names home own (items cs) in
    let same : total (weight (time_weights plan)) (items (all_unlined all)) ≡ total (weight (time_weights plan))
    (items cs) =
    ap (λ xs. total (weight (time_weights plan)) xs) (items_unlined all)
    ∙ weighed (λ c. bit (is_timeless plan c)) (λ p. 0) (λ p. 0) (λ x. 0) (λ x. 0) (λ p. 0) (λ p. 0)
    (λ f. 0) names home own refl
    (λ p. refl) (λ x. refl) (λ p. refl) (items cs) in (
      λ none. (lines_counted plan (all_unlined all)).1 (same ∙ (lines_counted plan cs).0 none),
      λ none. (lines_counted plan cs).1 (sym same ∙ (lines_counted plan (all_unlined all)).0 none),
    )

entry_lines : (plan : PlanDay) (names : List (List ℕ)) (home : Option (List ℕ)) (x : Lined EntryDef)
    → Both (lines_in plan x.item.clauses ≡ []) (lines_in plan (normal_entry names home x).item.clauses ≡ [])
unfolding normal_entry
entry_lines plan names home x = lines_both plan names home (or_home x.item.ws home) x.item.clauses

abbrev stream_lines : PlanDay → Option (Lined ScheduleDef) → List ℕ
stream_lines plan o =
    lines_in plan (option_map_or (λ (s : Lined ScheduleDef). s.item.clauses) o [])
    ++ lines_of_entries plan (option_map_or (λ (s : Lined ScheduleDef). s.item.entries) o [])

stream_both : (plan : PlanDay) (m : Option (List ℕ)) (o : Option (Lined ScheduleDef))
    → Both (stream_lines plan o ≡ []) (stream_lines plan (option_map (normal_schedule m) o) ≡ [])
unfolding normal_schedule
stream_both plan m None = (λ e. refl, λ e. refl)
stream_both plan m (Some s) =
    let home : Option (List ℕ) = or_home s.item.ws m in
    let names : List (List ℕ) = entry_names s.item.entries in
    append_both (lines_in plan s.item.clauses) (lines_of_entries plan s.item.entries)
    (lines_in plan (all_unlined (normal_clauses [] home home (items s.item.clauses))))
    (lines_of_entries plan (map (normal_entry names home) s.item.entries)) (lines_both plan [] home home s.item.clauses)
    (lists_both (λ (x : Lined EntryDef). lines_in plan x.item.clauses)
    (λ (x : Lined EntryDef). lines_in plan x.item.clauses)
    (normal_entry names home) (entry_lines plan names home) s.item.entries)

each_both : {A B C : Type 0} (f : A → List B) (g : A → List C) → ((x : A) → Both (f x ≡ []) (g x ≡ [])) → (xs : List A)
    → Both (flat_map f xs ≡ []) (flat_map g xs ≡ [])
each_both f g h [] = (λ e. refl, λ e. refl)
each_both f g h (x ∷ xs) = append_both (f x) (flat_map f xs) (g x) (flat_map g xs) (h x) (each_both f g h xs)

lines_at : (d e : Defs) → IsForm d e → (plan : PlanDay) (n : ℕ)
    → Both (lines_of_stream d plan n ≡ []) (lines_of_stream e plan n ≡ [])
lines_at d e form plan n =
    let m : Option (List ℕ) = forms.master_of d.domains in
    moved (stream_lines plan (slice_get d.schedules n)) (stream_lines plan (slice_get d.schedules n))
    (stream_lines plan (option_map (normal_schedule m) (slice_get d.schedules n)))
    (stream_lines plan (slice_get e.schedules n)) refl
    (ap (λ (ss : List (Lined ScheduleDef)). stream_lines plan (slice_get ss n)) form.schedules
    ∙ ap (stream_lines plan) (slice_get-map (normal_schedule m) d.schedules n))
    (stream_both plan m (slice_get d.schedules n))

timeless_both : (d e : Defs) → IsForm d e → (plan : PlanDay) (streams : List ℕ)
    → Both (timeless_lines d plan streams ≡ []) (timeless_lines e plan streams ≡ [])
unfolding timeless_lines
timeless_both d e form plan streams =
    each_both (lines_of_stream d plan) (lines_of_stream e plan) (lines_at d e form plan) streams

no_least : {B : Type 0} (f : ℕ → B) (xs : List ℕ) → Both (option_map f (least xs) ≡ None) (xs ≡ [])
no_least f [] = (λ e. refl, λ e. refl)
no_least f (x ∷ xs) = (λ e. cc, λ e. cc)

pub times_both : (d e : Defs) → IsForm d e → (day : ℕ) → Both (time_fault d day ≡ None) (time_fault e day ≡ None)
times_both d e form day =
    let plan : PlanDay = plan_day d day in
    let streams : List ℕ = running d day in
    let same : timeless_lines e (plan_day e day) (running e day) ≡ timeless_lines e plan streams =
    λ i. timeless_lines e (plan_same d e form day i) (running_same d e form day i) in
    let t = timeless_both d e form plan streams in
    let before = no_least OutOfRange (timeless_lines d plan streams) in
    let after = no_least OutOfRange (timeless_lines e (plan_day e day) (running e day)) in
    (λ none. after.1 (same ∙ t.0 (before.0 none)), λ none. before.1 (t.1 (sym same ∙ after.0 none)))
