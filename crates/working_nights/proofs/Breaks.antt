-- What a pass may do in the world, also where the own end of a link goes down: nobody has less, and no more is left.
use Rattle.std.proofs.Common.{◌≡◌, ℕ, ◌≤◌, Bool, true, false, ◌⊎◌, inl, inr, List, [], ◌∷◌, ◌++◌, refl, sym, subst}
use Rattle.std.specs.List.{AllByRecursion, list_all}
use Rattle.std.specs.Prelude.{Ok}
use Rattle.lemmas.proofs.Booleans.{and_left, and_made, and_right, or_cases}
use Rattle.model.specs.Types.{Cmd, Confirm, Entry, Events, Net, Order, Orders, Rerun, Take, Typed, Unlinked, WorldStep}
use Rattle.model.specs.FreeSteps.{free_step}
use Rattle.model.specs.Facts.{reruns}
use Rattle.model.specs.History.{View}
use Rattle.model.specs.Invariant.{Invariant}
use Rattle.model.specs.Network.{node_count}
use Rattle.model.specs.NewEntry.{next_entry}
use Rattle.model.specs.World.{World, view_at}
use Rattle.rest_laws.specs.Gains.{gained}
use Rattle.rest_laws.specs.Rounds.{AreTaken}
use Rattle.rest_laws.specs.Short.{answer_size, are_answers_short, can_count, has_short_answer}
use Rattle.rest_laws.proofs.Phases.{all_pushed}
use Rattle.rest_laws.proofs.Rises.{Rises, rises_on, rises_self}
use Rattle.launches_at_rest.specs.Tells.{work_bound}
use Rattle.launches_at_rest.specs.Told.{works_at}
use Rattle.launches_at_rest.proofs.Gaining.{kept_rises}
use Rattle.launches_at_rest.proofs.Short.{work_short}
use Rattle.advice_at_rest.specs.Advised.{AllGoOn, IsAdvised, advised_bound, goes_on, is_unlinking}
use Rattle.advice_at_rest.proofs.Advice.{Advises, advises}
use Rattle.advice_at_rest.proofs.Bounds.{few_gained, plain_few}
use Rattle.advice_at_rest.proofs.Typed.{GivesOrder, typed_keeps}
use Rattle.advice_at_rest.proofs.Worlds.{unlinked_rises, unlinked_same}

-- what goes on in a network, and where it may be, an order that is advised
abbrev pub MayPass : Bool → (ℕ → ℕ) → World → WorldStep → Type 0
MayPass adv reads x s = (goes_on (λ w. reads w ∷ []) s ≡ true) ⊎ ((adv ≡ true) × IsAdvised x s)

abbrev pub AllPass : Bool → (net : Net) (reads : ℕ → ℕ) (steps : List WorldStep) (x y : World) → AreTaken net x steps y → Type 0
AllPass adv net reads [] x y taken = Unit {0}
AllPass adv net reads (s ∷ steps) x y taken = MayPass adv reads x s × AllPass adv net reads steps taken.0 y taken.2

-- at most so much is gained
abbrev pub pass_bound : Bool → Net → (ℕ → ℕ) → World → ℕ
pass_bound false net reads x = work_bound net (λ w. reads w ∷ []) x
pass_bound true net reads x = advised_bound net (λ w. reads w ∷ []) x

module _ (adv : Bool) (net : Net) (reads : ℕ → ℕ) where
  -- an advised order has a short answer
  order_short : (V : View) (w : ℕ) (c : Cmd) → Advises V w c → has_short_answer (Order c) ≡ true
  unfolding answer_size
  order_short V w c a = go a.form
    where
      go : (c ≡ Confirm a.job_) ⊎ ((c ≡ Rerun a.job_) × (reruns a.job_ (V (Events w)) ≡ 0)) → has_short_answer (Order c) ≡ true
      go (inl is) = subst (λ (d : Cmd). has_short_answer (Order d) ≡ true) (sym is) refl
      go (inr is) = subst (λ (d : Cmd). has_short_answer (Order d) ≡ true) (sym is.0) refl

  -- of one step
  record Passed (x z : World) : Type 0 where
    rises : Rises x z
    short : are_answers_short net x ≡ true → are_answers_short net z ≡ true

  same_short : (x z : World) → z.history ≡ x.history → are_answers_short net x ≡ true → are_answers_short net z ≡ true
  unfolding are_answers_short
  same_short x z e h = rw e h

  typed_short : (x z : World) (w : ℕ) (c : Cmd) → has_short_answer (Order c) ≡ true → GivesOrder net x z w c
      → are_answers_short net x ≡ true → are_answers_short net z ≡ true
  unfolding are_answers_short
  typed_short x z w c short k h =
      rw k.history
      (and_made (can_count (node_count net))
      (list_all (λ (e : Entry). has_short_answer e.body) (x.history ++ next_entry (view_at x w) (Orders w w) (Order c) ∷ []))
      (and_left (can_count (node_count net)) (list_all (λ (e : Entry). has_short_answer e.body) x.history) h)
      (all_pushed (λ (e : Entry). has_short_answer e.body) x.history (next_entry (view_at x w) (Orders w w) (Order c))
      (and_right (can_count (node_count net)) (list_all (λ (e : Entry). has_short_answer e.body) x.history) h) short))

  unlinked_passed : (x z : World) (s : WorldStep) → is_unlinking s ≡ true → free_step net x s ≡ Ok z → Passed x z
  unlinked_passed x z (Take w (Unlinked v)) h e = record {
    rises = unlinked_rises net x z w v e;
    short = same_short x z (unlinked_same net x z w v e);
  }
  unlinked_passed x z _ h e = cc

  advised_passed : (x z : World) (s : WorldStep) → IsAdvised x s → free_step net x s ≡ Ok z → Passed x z
  advised_passed x z (Take w (Typed to c)) h e =
      let k : GivesOrder net x z w c =
      typed_keeps net x z w c (subst (λ (v : ℕ). free_step net x (Take w (Typed v c)) ≡ Ok z) h.0 e) in
      record {
        rises = k.rises;
        short = typed_short x z w c (order_short (view_at x w) w c (advises (view_at x w) w c h.1)) k;
      }
  advised_passed x z _ h e = absurd h

  one_passed : (x z : World) (s : WorldStep) → MayPass adv reads x s → free_step net x s ≡ Ok z → Passed x z
  one_passed x z s (inl h) e =
      elim (or_cases (works_at (λ w. reads w ∷ []) s) (is_unlinking s) h) [
        | inl k ↦ record {
          rises = kept_rises net (λ w. reads w ∷ []) x z s k e;
          short = λ short. work_short net x z short (λ w. reads w ∷ []) s k e;
        }
        | inr k ↦ unlinked_passed x z s k e
      ]
  one_passed x z s (inr h) e = advised_passed x z s h.1 e

  all_passed : (steps : List WorldStep) (x z : World) → (taken : AreTaken net x steps z) → AllPass adv net reads steps x z taken
      → Passed x z
  all_passed [] x z taken each =
      subst (Passed x) taken (record { rises = rises_self x x refl; short = λ short. short })
  all_passed (s ∷ steps) x z taken each =
      let one : Passed x taken.0 = one_passed x taken.0 s each.0 taken.1 in
      let rest : Passed taken.0 z = all_passed steps taken.0 z taken.2 each.1 in
      record { rises = rises_on x taken.0 z one.rises rest.rises; short = λ short. rest.short (one.short short) }

  -- steps of passes lead from x to y
  pub record PassesTo (x y : World) : Type 0 where
    pub steps : List WorldStep
    pub taken : AreTaken net x steps y
    pub keep : AllPass adv net reads steps x y taken

  pub passes_none : (x : World) → PassesTo x x
  passes_none x = record { steps = []; taken = refl; keep = tt }

  all_on : (front back : List WorldStep) (x y z : World) (a : AreTaken net x front y) (b : AreTaken net y back z)
      → AllPass adv net reads front x y a → AllPass adv net reads back y z b
      → (c : AreTaken net x (front ++ back) z) × AllPass adv net reads (front ++ back) x z c
  all_on [] back x y z a b h k =
      subst (λ (u : World). (c : AreTaken net u back z) × AllPass adv net reads back u z c) (sym a) (b, k)
  all_on (s ∷ front) back x y z a b h k =
      let rest = all_on front back a.0 y z a.2 b h.1 k in ((a.0, a.1, rest.0), (h.0, rest.1))

  pub passes_on : (x y z : World) → PassesTo x y → PassesTo y z → PassesTo x z
  passes_on x y z h k =
      let it = all_on h.steps k.steps x y z h.taken k.taken h.keep k.keep in
      record { steps = h.steps ++ k.steps; taken = it.0; keep = it.1 }

  pub passes_one : (x y : World) (s : WorldStep) → MayPass adv reads x s → free_step net x s ≡ Ok y → PassesTo x y
  passes_one x y s h e = record { steps = s ∷ []; taken = (y, e, refl); keep = (h, tt) }

  -- steps that go on, whatever is advised
  pub passes_plain : (steps : List WorldStep) (x y : World) → (taken : AreTaken net x steps y)
      → AllByRecursion (λ s. goes_on (λ w. reads w ∷ []) s ≡ true) steps → PassesTo x y
  passes_plain steps x y taken each = record { steps = steps; taken = taken; keep = go steps x y taken each }
    where
      go : (steps : List WorldStep) (x y : World) (taken : AreTaken net x steps y)
          → AllByRecursion (λ s. goes_on (λ w. reads w ∷ []) s ≡ true) steps → AllPass adv net reads steps x y taken
      go [] x y taken each = tt
      go (s ∷ steps) x y taken each = (inl each.0, go steps taken.0 y taken.2 each.1)

  module _ (x y : World) (inv : Invariant net x) (p : PassesTo x y) where
    abbrev passed : Passed x y
    passed = all_passed p.steps x y p.taken p.keep

    pub passes_rise : Rises x y
    passes_rise = passed.rises

    pub passes_short : are_answers_short net x ≡ true → are_answers_short net y ≡ true
    passes_short short = passed.short short

all_plain : (net : Net) (reads : ℕ → ℕ) (steps : List WorldStep) (x y : World) (taken : AreTaken net x steps y)
    → AllPass false net reads steps x y taken → AllByRecursion (λ s. goes_on (λ w. reads w ∷ []) s ≡ true) steps
all_plain net reads [] x y taken each = tt
all_plain net reads (s ∷ steps) x y taken each = (one each.0, all_plain net reads steps taken.0 y taken.2 each.1)
  where
    one : MayPass false reads x s → goes_on (λ w. reads w ∷ []) s ≡ true
    one (inl h) = h
    one (inr h) = absurd (clash h.0)
      where
        clash : false ≡ true → ⊥
        clash k = cc

all_advised : (net : Net) (reads : ℕ → ℕ) (steps : List WorldStep) (x y : World) (taken : AreTaken net x steps y)
    → AllPass true net reads steps x y taken → AllGoOn net (λ w. reads w ∷ []) steps x y taken
all_advised net reads [] x y taken each = tt
all_advised net reads (s ∷ steps) x y taken each = (one each.0, all_advised net reads steps taken.0 y taken.2 each.1)
  where
    one : MayPass true reads x s → (goes_on (λ w. reads w ∷ []) s ≡ true) ⊎ IsAdvised x s
    one (inl h) = inl h
    one (inr h) = inr h.1

pub passes_few : (adv : Bool) (net : Net) (reads : ℕ → ℕ) (x y : World) → Invariant net x → PassesTo adv net reads x y
    → gained net y ≤ pass_bound adv net reads x
passes_few false net reads x y inv p =
    plain_few net (λ w. reads w ∷ []) p.steps x y inv (all_plain net reads p.steps x y p.taken p.keep) p.taken
passes_few true net reads x y inv p =
    few_gained net (λ w. reads w ∷ []) p.steps x y inv p.taken (all_advised net reads p.steps x y p.taken p.keep)
