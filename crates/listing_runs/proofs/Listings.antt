-- What the listing of a day calls for.
use Rattle.std.proofs.Common.{◌≡◌, ◌∙◌, ℕ, Bool, true, false, List, [], ◌∷◌, Option, Some, None, Result, Ok, Err, refl, ap, sym, subst, codes, cond}
use Rattle.std.specs.Option.{option_or}
use Rattle.std.specs.Prelude.{nat_le, ◌&&◌}
use Rattle.std.specs.Str.{bytes_eq}
use Rattle.std.proofs.lemmas.Str.{utf8_valid_len-IsUtf8}
use Rattle.calendars.proofs.Days.{date_there}
use Rattle.calendars.specs.Dates.{IsDay, last_day}
use Rattle.calendars.specs.Written.{date_of}
use Rattle.canonical_laws.proofs.Meanings.{one_limit, one_list_of_drafts, one_net, timed_together}
use Rattle.canonical_laws.proofs.Texts.{are_read}
use Rattle.composer_parser.specs.declared.Defs.{Defs}
use Rattle.composer_print.specs.Normal.{normal}
use Rattle.definition_texts.specs.Refusals.{AreChecked}
use Rattle.history_laws.proofs.Lines.{line_first}
use Rattle.history_laws.proofs.Words.{plain_lacks_feed}
use Rattle.history_laws.specs.Printables.{IsPrintable}
use Rattle.input_commands.specs.Nights.{AreRead}
use Rattle.input_commands.specs.Words.{alone_of, asked_of, plan_of_words, planned, sample_of_words, sized}
use Rattle.input_commands.specs.declared.Wish.TheVariants.{Plan}
use Rattle.input_commands.specs.declared.words.Asked.{Asked}
use Rattle.input_commands.specs.declared.words.Asked.TheVariants.{Input}
use Rattle.input_commands.specs.declared.words.Wanted.TheVariants.{Definitions}
use Rattle.lemmas.proofs.Numbers.{le_told}
use Rattle.lemmas.proofs.Options.{none_some, or_none_left, or_none_right}
use Rattle.listable_drafts.proofs.DefinedDrafts.{drafts_listable}
use Rattle.listing_laws.proofs.Read.{listing_back, listing_is_text}
use Rattle.listing_laws.specs.ListingReturns.{script_of_listing, with_next}
use Rattle.model.specs.Types.{Net, StreamDraft}
use Rattle.model.specs.World as model
use Rattle.night_records.proofs.Plans.{are_plans, plans_of}
use Rattle.night_records.specs.Composers.{composer_text, definitions_from, definitions_place}
use Rattle.night_records.specs.Days.{ArePlans, GivesDay}
use Rattle.night_records.specs.Readings.{At, IsRead, defined, faulty, plain, refused, without_definitions}
use Rattle.night_records.specs.declared.Record.{Record}
use Rattle.plan_builder.specs.Drafts.{AreDrafts}
use Rattle.plan_builder.specs.Limits.{limit_fault, plan_fault, time_fault}
use Rattle.plan_builder.specs.declared.PlanFault.{PlanFault}
use Rattle.plan_listing.specs.Listings.{listing_of}
use Rattle.plan_listing.specs.Networks.{network_text}
use Rattle.record_laws.proofs.NetworkDefinitions.{defined_printable}
use Rattle.record_runs.specs.Lines.{Day}
use Rattle.record_runs.specs.Causes.{no_moment}
use Rattle.record_runs.specs.Runs as runs
use Rattle.record_script.specs.Scripts.{read_of}
use Rattle.record_script.specs.declared.Script.{Script}
use Rattle.workload_defs.proofs.Fits.{accepted}
use Rattle.workload_defs.specs.Nets.{net_of}
use Rattle.listing_runs.specs.Listings.{MakesItsPlan, ReachesTheSame, listed_record}
use Rattle.listing_runs.proofs.Replays.{same_run}

-- A listing begins with `$NETWORK`, so it has no definitions.

no_place : (net : Net) (drafts : List StreamDraft) → definitions_place (with_next (listing_of net drafts)) ≡ None
unfolding definitions_place listing_of network_text
no_place net drafts =
    ap (definitions_from 0) (line_first (codes "$NETWORK") _ (plain_lacks_feed (codes "$NETWORK") refl))

listed_read : (net : Net) (drafts : List StreamDraft) → read_of (with_next (listing_of net drafts)) ≡ Ok (script_of_listing net drafts)
    → IsRead (with_next (listing_of net drafts)) (Ok (listed_record net drafts))
listed_read net drafts back =
    let text : List ℕ = with_next (listing_of net drafts) in
    subst (λ (r : Result Record At). IsRead text r) (ap without_definitions back) (plain (no_place net drafts))

is_record : (bytes : List ℕ) (d : Defs) (day : ℕ) (drafts : List StreamDraft) → AreChecked bytes d → AreDrafts d day drafts
    → AreRead (with_next (listing_of (net_of d) drafts)) (Ok (listed_record (net_of d) drafts))
is_record bytes d day drafts checked are =
    let all = are_read bytes d checked.are in
    let printable : IsPrintable (net_of d) = defined_printable d all in
    let sound = accepted d checked.faultless in
    let listable = drafts_listable d all checked.faultless day drafts are in
    let text : List ℕ = with_next (listing_of (net_of d) drafts) in
    AreRead.text (utf8_valid_len-IsUtf8 text (listing_is_text (net_of d) drafts printable sound listable))
    (listed_read (net_of d) drafts (listing_back (net_of d) drafts printable sound listable))

-- A record with definitions has their network.

record HasDefs (r : Record) (e : Defs) : Type 0 where
  bytes : List ℕ
  are : AreChecked bytes e
  over : r.script.net ≡ net_of e

abbrev IfDefined : Result Record At → Type 0
IfDefined (Ok r) = (e : Defs) → r.workload ≡ Some e → HasDefs r e
IfDefined (Err at_) = Unit {0}

plain_has : (r : Result Script At) → IfDefined (without_definitions r)
plain_has (Ok s) = λ e is. absurd (none_some is)
plain_has (Err at_) = tt

if_defined : (text : List ℕ) (r : Result Record At) → IsRead text r → IfDefined r
if_defined text _ (plain none) = plain_has (read_of text)
if_defined text _ (refused place r is h) = tt
if_defined text _ (faulty place d at_ is h fault) = tt
if_defined text _ (defined place d is h none) = λ e same.
    let one : d ≡ e = cc in
    record {
      bytes = composer_text text place;
      are = subst (AreChecked (composer_text text place)) one h;
      over = ap net_of one;
    }

has_defs : (text : List ℕ) (r : Record) (e : Defs) → AreRead text (Ok r) → r.workload ≡ Some e → HasDefs r e
has_defs text r e (AreRead.text is read) same = if_defined text (Ok r) read e same

-- Days of a record without definitions.

abbrev no_days : Day
no_days day = Err no_moment

none_given : ArePlans None no_days
none_given = λ day answer is. sym is

module _ (bytes : List ℕ) (d : Defs) (day : ℕ) (drafts : List StreamDraft) (checked : AreChecked bytes d) (is_day : IsDay day)
    (free : plan_fault d day ≡ None) (are : AreDrafts d day drafts) where
  -- definitions with the same normal form give those drafts
  given : (text : List ℕ) (e : Defs) → AreChecked text e → normal e ≡ normal d → GivesDay e day (Ok drafts)
  given text e other form =
      let limit : limit_fault e day ≡ None =
      sym (one_limit d e (sym form) day) ∙ or_none_left (limit_fault d day) (time_fault d day) free in
      let time : time_fault e day ≡ None =
      timed_together d e (sym form) day (or_none_right (limit_fault d day) (time_fault d day) free) in
      GivesDay.drafts drafts (le_told day last_day is_day)
      (ap (λ (o : Option PlanFault). option_or o (time_fault e day)) limit ∙ time)
      (one_list_of_drafts d e (are_read bytes d checked.are) (are_read text e other.are) (sym form) day drafts are)

  replays : ReachesTheSame d day (listed_record (net_of d) drafts)
  replays = λ r p x.
      let h = has_defs p.text r p.defs p.is_read p.has in
      let over : r.script.net ≡ net_of d = h.over ∙ one_net p.defs d p.form in
      let gives = given h.bytes p.defs h.are p.form in
      let plans : (w : Option Defs) (days : Day) → ArePlans w days → w ≡ Some p.defs → days day ≡ Ok drafts =
      λ w days planned_ is.
      subst (λ (o : Option Defs). ArePlans o days) is planned_ day (Ok drafts) gives in (
        λ run.
            record {
              days = no_days;
              are_plans = none_given;
              ends = (same_run no_days run.days (net_of d) day p.line drafts r.script over p.steps
                  (plans r.workload run.days run.are_plans p.has) x).0 run.ends;
            },
        λ run.
            record {
              days = plans_of r.workload;
              are_plans = are_plans r.workload;
              ends = (same_run run.days (plans_of r.workload) (net_of d) day p.line drafts r.script over p.steps
                  (plans r.workload (plans_of r.workload) (are_plans r.workload) p.has) x).1 run.ends;
            },
      )

-- The day that words name is a date.

abbrev NamesDay : Option Asked → Type 0
NamesDay (Some (Input (Definitions (Plan day)))) = IsDay day
NamesDay other = Unit {0}

choose : (b : Bool) (s t : Option Asked) → NamesDay s → NamesDay t → NamesDay (cond b s t)
choose true s t h k = h
choose false s t h k = k

one_word : (word : List ℕ) → NamesDay (alone_of word)
unfolding alone_of
one_word word =
    choose (bytes_eq word (codes "replay")) _ _ tt
    (choose (bytes_eq word (codes "summary")) _ _ tt
    (choose (bytes_eq word (codes "history")) _ _ tt
    (choose (bytes_eq word (codes "compile")) _ _ tt (choose (bytes_eq word (codes "audit")) _ _ tt tt))))

dated : (date : List ℕ) (o : Option ℕ) → date_of date ≡ o → NamesDay (planned o)
dated date None is = tt
dated date (Some day) is = date_there date day is

two_words : (word date : List ℕ) → NamesDay (plan_of_words word date)
unfolding plan_of_words
two_words word date = choose (bytes_eq word (codes "plan")) _ _ (dated date (date_of date) refl) tt

no_day_sized : (o p : Option ℕ) → NamesDay (sized o p)
unfolding sized
no_day_sized None p = tt
no_day_sized (Some jobs) None = tt
no_day_sized (Some jobs) (Some seed) = choose (nat_le 1 jobs && nat_le jobs 2000) _ _ tt tt

three_words : (word jobs seed : List ℕ) → NamesDay (sample_of_words word jobs seed)
unfolding sample_of_words
three_words word jobs seed = choose (bytes_eq word (codes "sample")) _ _ (no_day_sized _ _) tt

names_day : (words : List (List ℕ)) → NamesDay (asked_of words)
unfolding asked_of
names_day [] = tt
names_day (a ∷ []) = one_word a
names_day (a ∷ b ∷ []) = two_words a b
names_day (a ∷ b ∷ c ∷ []) = three_words a b c
names_day (a ∷ b ∷ c ∷ e ∷ words) = tt

pub day_asked : (words : List (List ℕ)) (day : ℕ) → asked_of words ≡ Some (Input (Definitions (Plan day))) → IsDay day
day_asked words day is = subst NamesDay is (names_day words)

pub makes_its_plan : (bytes : List ℕ) (d : Defs) (day : ℕ) (drafts : List StreamDraft) → AreChecked bytes d → IsDay day
    → plan_fault d day ≡ None → AreDrafts d day drafts → MakesItsPlan d day drafts
makes_its_plan bytes d day drafts checked is_day none are =
    record {
      is_record = is_record bytes d day drafts checked are;
      replays = replays bytes d day drafts checked is_day none are;
    }
