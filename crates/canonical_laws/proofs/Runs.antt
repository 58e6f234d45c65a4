-- The days on which streams run are those of the normal form.
use Rattle.std.proofs.Common.{◌≡◌, ℕ, ◌&&◌, not, Bool, true, false, nat_le, List, map, Option, refl, ap, ◌∙◌, slice_get}
use Rattle.std.specs.List.{list_any}
use Rattle.std.specs.Option.{option_map_or}
use Rattle.calendars.specs.Dates.{last_day}
use Rattle.calendars.specs.declared.FreeDays.{FreeDays}
use Rattle.composer_parser.specs.declared.Lined.{Lined}
use Rattle.composer_parser.specs.declared.Defs.{Defs}
use Rattle.composer_parser.specs.declared.OnDef.{OnDef}
use Rattle.composer_parser.specs.declared.OnItem.{OnItem}
use Rattle.composer_parser.specs.declared.OnItem.TheVariants as on_item
use Rattle.composer_parser.specs.declared.ScheduleDef.{ScheduleDef}
use Rattle.composer_print.specs.Normal as forms
use Rattle.composer_print.specs.Normal.{bare, normal_schedule}
use Rattle.model.specs.Words.{some_is}
use Rattle.run_cycles.specs.Items as dates
use Rattle.run_cycles.specs.Items.{is_valid, first_of, gives_calendar, is_dated}
use Rattle.run_cycles.specs.Shifts.{all_days, shifted, gives}
use Rattle.run_cycles.specs.Runs.{is_of, any_gives, runs_of, runs}
use Rattle.workload_defs.specs.Days.{free_of_stream}
use Rattle.canonical_laws.proofs.Lists.{at_place, any_same}
use Rattle.canonical_laws.proofs.Forms.{IsForm}
use Rattle.canonical_laws.proofs.Networks.{days_same, free_stream_same}

module _ (d e : Defs) (form : IsForm d e) where
  item_same : (free : FreeDays) (first : Option ℕ) (day : ℕ) (x : OnItem)
      → dates.gives e free first day x ≡ dates.gives d free first day x
  item_same free first day (on_item.Calendar name offset) =
      ap (gives_calendar free offset day) (days_same d e form name)
  item_same free first day x = refl

  dated_same : (free : FreeDays) (on : OnDef) (day : ℕ) → is_dated e free on day ≡ is_dated d free on day
  dated_same free on day =
      λ i. is_valid on.cycle day && list_any (λ x. item_same free (first_of on.cycle) day x i) on.items

  statement_same : (free : FreeDays) (day : ℕ) (on : OnDef) → gives e free day on ≡ gives d free day on
  statement_same free day on =
      λ i. list_any (λ date. dated_same free on date i && some_is (shifted free on.shift date) day) all_days

  any_kept : (free : FreeDays) (ons : List (Lined OnDef)) (except : Bool) (day : ℕ)
      → any_gives e free (map bare ons) except day ≡ any_gives d free ons except day
  any_kept free ons except day =
      any_same (λ (o : Lined OnDef). is_of except o.item && gives e free day o.item)
      (λ (o : Lined OnDef). is_of except o.item && gives d free day o.item) bare
      (λ o. ap (λ b. is_of except o.item && b) (statement_same free day o.item)) ons

  bare_ons : (m : Option (List ℕ)) (s : Lined ScheduleDef) → (normal_schedule m s).item.ons ≡ map bare s.item.ons
  unfolding normal_schedule
  bare_ons m s = refl

  any_of : (m : Option (List ℕ)) (s : Lined ScheduleDef) (except : Bool) (day : ℕ)
      → any_gives e (free_of_stream e (normal_schedule m s).item) (normal_schedule m s).item.ons except day
      ≡ any_gives d (free_of_stream d s.item) s.item.ons except day
  any_of m s except day =
      (λ i. any_gives e (free_stream_same d e form m s i) (bare_ons m s i) except day)
      ∙ any_kept (free_of_stream d s.item) s.item.ons except day

  stream_runs : (m : Option (List ℕ)) (day : ℕ) (s : Lined ScheduleDef)
      → runs_of e (normal_schedule m s).item day ≡ runs_of d s.item day
  stream_runs m day s = λ i. any_of m s false day i && not (any_of m s true day i)

  pub runs_same : (n day : ℕ) → runs e n day ≡ runs d n day
  runs_same n day =
      let m : Option (List ℕ) = forms.master_of d.domains in
      ap (λ b. nat_le day last_day && b)
      (ap (λ (ss : List (Lined ScheduleDef)). option_map_or (λ (s : Lined ScheduleDef). runs_of e s.item day)
      (slice_get ss n) false)
      form.schedules
      ∙ at_place (normal_schedule m) (λ o. option_map_or (λ (s : Lined ScheduleDef). runs_of e s.item day) o false)
      (λ o. option_map_or (λ (s : Lined ScheduleDef). runs_of d s.item day) o false) refl
      (stream_runs m day) d.schedules n)
