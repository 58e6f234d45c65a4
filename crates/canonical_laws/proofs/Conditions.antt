-- The conditions of definitions, as they are written and in normal form.
use Rattle.std.proofs.Common.{◌≡◌, ℕ, zero, suc, List, [], ◌∷◌, ◌++◌, map, filter_map, flat_map, Contains, Option, Some}
use Rattle.std.proofs.Common.{None, refl, ap, sym, subst, ◌∙◌, arith, option_map}
use Rattle.std.proofs.lemmas.List.{map-append}
use Rattle.std.specs.List.{cons_option}
use Rattle.composer_parser.specs.declared.Lined.{Lined}
use Rattle.composer_parser.specs.declared.Defs.{Defs}
use Rattle.composer_parser.specs.declared.EntryDef.{EntryDef}
use Rattle.composer_parser.specs.declared.ScheduleDef.{ScheduleDef}
use Rattle.composer_print.specs.Normal as forms
use Rattle.composer_print.specs.Normal.{bare, entry_names, normal_entry, normal_schedule}
use Rattle.composer_print.specs.Scopes.{or_home}
use Rattle.definition_faults.specs.Conditions.{cond_of_entry, condition_of_job, condition_of_entry}
use Rattle.definition_faults.specs.Conditions.{conditions_of_stream, conditions, HasBad}
use Rattle.canonical_laws.proofs.Lists.{Both}
use Rattle.canonical_laws.proofs.Forms.{IsForm}

-- on no line
abbrev unplaced : ℕ × List ℕ → ℕ × List ℕ
unplaced p = (0, p.1)

line_dropped : (line : ℕ) (o : Option (List ℕ))
    → option_map (λ (text : List ℕ). (0, text)) o ≡ option_map unplaced (option_map (λ (text : List ℕ). (line, text)) o)
line_dropped line None = refl
line_dropped line (Some text) = refl

picks_unplaced : {X Y : Type 0} (f : X → Option (ℕ × List ℕ)) (g : Y → Option (ℕ × List ℕ)) (m : X → Y)
    → ((x : X) → g (m x) ≡ option_map unplaced (f x)) → (xs : List X)
    → filter_map g (map m xs) ≡ map unplaced (filter_map f xs)
picks_unplaced f g m h [] = refl
picks_unplaced {X} {Y} f g m h (x ∷ xs) =
    (λ i. cons_option (h x i) (picks_unplaced f g m h xs i)) ∙ go (f x)
  where
    go : (o : Option (ℕ × List ℕ))
        → cons_option (option_map unplaced o) (map unplaced (filter_map f xs)) ≡ map unplaced
        (cons_option o (filter_map f xs))
    go None = refl
    go (Some p) = refl

lists_unplaced : {X Y : Type 0} (f : X → List (ℕ × List ℕ)) (g : Y → List (ℕ × List ℕ)) (m : X → Y)
    → ((x : X) → g (m x) ≡ map unplaced (f x)) → (xs : List X) → flat_map g (map m xs) ≡ map unplaced (flat_map f xs)
lists_unplaced f g m h [] = refl
lists_unplaced f g m h (x ∷ xs) =
    (λ i. h x i ++ lists_unplaced f g m h xs i) ∙ sym (map-append unplaced (f x) (flat_map f xs))

entry_unplaced : (names : List (List ℕ)) (home : Option (List ℕ)) (x : Lined EntryDef)
    → condition_of_entry (normal_entry names home x) ≡ option_map unplaced (condition_of_entry x)
unfolding normal_entry
entry_unplaced names home x = line_dropped x.line (cond_of_entry x.item)

stream_unplaced : (m : Option (List ℕ)) (s : Lined ScheduleDef)
    → conditions_of_stream (normal_schedule m s) ≡ map unplaced (conditions_of_stream s)
unfolding normal_schedule
stream_unplaced m s =
    picks_unplaced condition_of_entry condition_of_entry
    (normal_entry (entry_names s.item.entries) (or_home s.item.ws m))
    (entry_unplaced (entry_names s.item.entries) (or_home s.item.ws m)) s.item.entries

all_unplaced : (d e : Defs) → IsForm d e → conditions e ≡ map unplaced (conditions d)
all_unplaced d e form =
    (λ i. filter_map condition_of_job (form.jobs i) ++ flat_map conditions_of_stream (form.schedules i))
    ∙ (λ i. picks_unplaced condition_of_job condition_of_job bare (λ j. line_dropped j.line j.item.work.cond) d.jobs i
    ++ lists_unplaced conditions_of_stream conditions_of_stream (normal_schedule (forms.master_of d.domains))
    (stream_unplaced (forms.master_of d.domains)) d.schedules i)
    ∙ sym (map-append unplaced (filter_map condition_of_job d.jobs) (flat_map conditions_of_stream d.schedules))

from_unplaced : (all : List (ℕ × List ℕ)) (line : ℕ) (text : List ℕ) → Contains (map unplaced all) (line, text)
    → (m : ℕ) × Contains all (m, text)
from_unplaced [] line text (k, low, at) = absurd (omega (arith, low))
from_unplaced (x ∷ xs) line text (zero, low, at) =
    (x.0, (0, omega arith, λ i. (x.0, ap (λ (p : ℕ × List ℕ). p.1) at i)))
from_unplaced (x ∷ xs) line text (suc k, low, at) =
    let t = from_unplaced xs line text (k, omega (arith, low), at) in
    let less = t.1.1 in
    (t.0, (suc t.1.0, omega (arith, less), t.1.2))

to_unplaced : (all : List (ℕ × List ℕ)) (line : ℕ) (text : List ℕ) → Contains all (line, text)
    → Contains (map unplaced all) (0, text)
to_unplaced [] line text (k, low, at) = absurd (omega (arith, low))
to_unplaced (x ∷ xs) line text (zero, low, at) = (0, omega arith, λ i. (0, ap (λ (p : ℕ × List ℕ). p.1) at i))
to_unplaced (x ∷ xs) line text (suc k, low, at) =
    let t = to_unplaced xs line text (k, omega (arith, low), at) in
    let less = t.1 in
    (suc t.0, omega (arith, less), t.2)

abbrev pub AreConditions : Defs → Type 0
AreConditions d = (line : ℕ) → HasBad (conditions d) line → ⊥

pub conditions_both : (d e : Defs) → IsForm d e → Both (AreConditions d) (AreConditions e)
conditions_both d e form =
    let same = all_unplaced d e form in (
      λ good line bad.
          let there_ =
          from_unplaced (conditions d) line bad.0
          (subst (λ (l : List (ℕ × List ℕ)). Contains l (line, bad.0)) same bad.1) in
          good there_.0 (bad.0, there_.1, bad.2),
      λ good line bad.
          good 0 (
            bad.0,
            subst (λ (l : List (ℕ × List ℕ)). Contains l (0, bad.0)) (sym same)
                (to_unplaced (conditions d) line bad.0 bad.1),
            bad.2,
          ),
    )
