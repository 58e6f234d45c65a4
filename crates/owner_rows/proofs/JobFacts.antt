-- What the row of a job says is what the events say.
use Rattle.std.proofs.Common.{ℕ, ◌&&◌, ◌+◌, ◌∙◌, ◌≡◌, Bool, List, None, Option, Some, ap, arith, false, is_none}
use Rattle.std.proofs.Common.{is_some}
use Rattle.std.proofs.Common.{nat_le, nat_lt, not, option_and_then, option_map, refl, true}
use Rattle.std.specs.Bool.{then_some}
use Rattle.std.specs.List.{list_any}
use Rattle.std.specs.Option.{option_map_or}
use Rattle.std.specs.Prelude.{◌||◌}
use Rattle.model.specs.Types.{Body}
use Rattle.model.specs.Outcomes.{Outcome}
use Rattle.model.specs.Facts.{LastLaunch, commands, first_code, first_end, is_last_started, is_start_of, last_end, is_confirm_of, is_due, is_good, is_good_end, is_open}
use Rattle.model.specs.Facts.{last_launch, last_outcome, launches, open_launch, reruns}
use Rattle.owner_rows.specs.Jobs.{IsJobRow, due_in, end_in, good_in, started_in, good_last, kept_last, last_told, open_in, outcome_in}
use Rattle.owner_rows.specs.Jobs.{told_of}
use Rattle.owner_rows.specs.declared.jobs.JobRow.{JobRow}

le_lt : (a b : ℕ) → nat_le a b ≡ nat_lt a (1 + b)
le_lt a b = grind arith

pub due_told : (events : List Body) (j : ℕ) (r : JobRow) → IsJobRow events j r → due_in r ≡ is_due j events
unfolding is_due
due_told events j r h =
    (λ i. nat_le (h.launches i) (h.reruns i)) ∙ le_lt (launches j events) (reruns j events)

open_law : (j : ℕ) (events : List Body) → open_in (last_told j events) ≡ open_launch j events
unfolding open_launch
open_law j events = go (last_launch j events)
  where
    go : (o : Option LastLaunch) → open_in (option_map (told_of j) o)
        ≡ option_and_then (λ (l : LastLaunch). then_some (is_none (first_end j l.number l.later)) l.number) o
    go None = refl
    go (Some l) = refl

pub open_told : (events : List Body) (j : ℕ) (r : JobRow) → IsJobRow events j r
    → open_in (option_map kept_last r.last) ≡ open_launch j events
open_told events j r h = ap open_in h.last ∙ open_law j events

pub outcome_told : (events : List Body) (j : ℕ) (r : JobRow) → IsJobRow events j r
    → outcome_in (option_map kept_last r.last) ≡ last_outcome j events
unfolding last_outcome
outcome_told events j r h = ap outcome_in h.last ∙ go (last_launch j events)
  where
    go : (o : Option LastLaunch) → outcome_in (option_map (told_of j) o)
        ≡ option_and_then (λ (l : LastLaunch). first_end j l.number l.later) o
    go None = refl
    go (Some l) = refl

good_law : (j : ℕ) (events : List Body) (d : Bool) → d ≡ is_due j events
    → (not d && option_map_or good_last (last_told j events) false) ≡ is_good j events
unfolding is_good is_open open_launch
good_law j events d e = ap (λ (b : Bool). not b && option_map_or good_last (last_told j events) false) e
    ∙ go (is_due j events) (last_launch j events)
  where
    ended : (o : Option Outcome) (c : Bool) (n : ℕ) → (not (is_none o) && (is_good_end o || c))
        ≡ (not (is_some (then_some (is_none o) n)) && (is_good_end o || c))
    ended None c n = refl
    ended (Some o) c n = refl

    go : (d : Bool) (l : Option LastLaunch) → (not d && option_map_or good_last (option_map (told_of j) l) false)
        ≡ (not d && not (is_some
        (option_and_then (λ (l : LastLaunch). then_some (is_none (first_end j l.number l.later)) l.number) l))
        && option_map_or (λ (l : LastLaunch).
        is_good_end (first_end j l.number l.later) || list_any (is_confirm_of j) (commands l.later)) l false)
    go true l = refl
    go false None = refl
    go false (Some l) = ended (first_end j l.number l.later) (list_any (is_confirm_of j) (commands l.later)) l.number

pub good_told : (events : List Body) (j : ℕ) (r : JobRow) → IsJobRow events j r → good_in r ≡ is_good j events
good_told events j r h =
    ap (λ o. not (due_in r) && option_map_or good_last o false) h.last
    ∙ good_law j events (due_in r) (due_told events j r h)

pub end_told : (events : List Body) (j : ℕ) (r : JobRow) → IsJobRow events j r
    → end_in (option_map kept_last r.last) ≡ last_end j events
unfolding last_end
end_told events j r h = ap end_in h.last ∙ go (last_launch j events)
  where
    go : (o : Option LastLaunch) → end_in (option_map (told_of j) o)
        ≡ option_and_then (λ (l : LastLaunch). first_code j l.number l.later) o
    go None = refl
    go (Some l) = refl

pub started_told : (events : List Body) (j : ℕ) (r : JobRow) → IsJobRow events j r
    → started_in (option_map kept_last r.last) ≡ is_last_started j events
unfolding is_last_started
started_told events j r h = ap started_in h.last ∙ go (last_launch j events)
  where
    go : (o : Option LastLaunch) → started_in (option_map (told_of j) o)
        ≡ option_map_or (λ (l : LastLaunch). list_any (is_start_of j l.number) l.later) o false
    go None = refl
    go (Some l) = refl
