-- What is left of a loop completes the whole.
use Rattle.std.proofs.Common.{[], ◌+◌, ◌-◌, ◌<◌, ◌≡◌, ◌≤◌, ◌∙◌, ◌∷◌, ℕ, List, None, Option, Some, ap, arith, drop, get_or, length, subst, suc}
use Rattle.std.proofs.lemmas.List.{drop_more}
use Rattle.std.specs.Prelude.{Bool}
use Rattle.model.specs.Words.{below, numbers_from}
use Rattle.outside.specs.Kept.{Bodies}
use Rattle.node_inputs.specs.Keeping.{IsReady}
use Rattle.node_inputs.specs.declared.ends.NodeEnd.{NodeEnd}
use Rattle.node_inputs.specs.Actions.{Action, Each, Nothing, Then}
use Rattle.node_inputs.specs.Doings.{Does, DoesOutside}
use Rattle.node_inputs.specs.Tellings.{Told}
use Rattle.node_inputs.proofs.Doing.{Completing, CompletingOutside, did_end, did_outside, did_then, out_end, out_nothing, out_then}

-- the numbers from one below an end on, and from the end
pub numbers_more : (x n : ℕ) → x < n → numbers_from x (n - x) ≡ x ∷ numbers_from (x + 1) (n - (x + 1))
numbers_more x n h = let e : n - x ≡ suc (n - (x + 1)) = omega arith in ap (numbers_from x) e

pub numbers_end : (n : ℕ) → numbers_from n (n - n) ≡ []
numbers_end n = let e : n - n ≡ 0 = omega arith in ap (numbers_from n) e

pub numbers_done : (x n : ℕ) → n ≤ x → numbers_from x (n - x) ≡ []
numbers_done x n h = let e : n - x ≡ 0 = omega arith in ap (numbers_from x) e

-- the items from a place on
pub next_item : {X : Type 0} (xs : List X) (i : ℕ) (x : X) → i < length xs → get_or xs i x ≡ x → drop i xs ≡ x ∷ drop (i + 1) xs
next_item {X} xs i x inside is = drop_more xs i x inside ∙ ap (λ (y : X). y ∷ drop (i + 1) xs) is

pub numbers_all : (n : ℕ) → below n ≡ numbers_from 0 (n - 0)
numbers_all n = let e : n ≡ n - 0 = omega arith in ap (numbers_from 0) e

module _ {S : Type 0} {whole : Action S} {here old : S} {at_told told : Told} where
  pub outside_one : {first rest : Action S} {middle : S} {meanwhile : Told} → CompletingOutside (Then first rest) whole here old at_told told
      → DoesOutside first here middle at_told meanwhile None → CompletingOutside rest whole middle old meanwhile told
  outside_one done one new now end h = done new now end (out_then one h)

  pub outside_end : {first : Action S} (rest : Action S) {new : S} {now : Told} {why : NodeEnd}
      → CompletingOutside (Then first rest) whole here old at_told told → DoesOutside first here new at_told now (Some why)
      → DoesOutside whole old new told now (Some why)
  outside_end rest {new} {now} {why} done one = done new now (Some why) (out_end rest one)

  pub outside_all : CompletingOutside Nothing whole here old at_told told → DoesOutside whole old here told at_told None
  outside_all done = done here at_told None (out_nothing here at_told)

module _ {S K : Type 0} {kept_in : K → Option Bodies} {size faults moment : K → ℕ} {may_leave : K → Bodies → Type 0} {left_since : K → ℕ → Bodies → Type 0} {opens_since : K → ℕ → ℕ → Type 0}
    {whole : Action S} {here old : S} {at_keeper keeper : K} {at_told told : Told} where
  pub completing_one : {first rest : Action S} {middle : S} {between : K} {meanwhile : Told}
      → Completing kept_in size faults moment may_leave left_since opens_since (Then first rest) whole here old at_keeper keeper at_told told
      → Does kept_in size faults moment may_leave left_since opens_since first here middle at_keeper between at_told meanwhile None
      → Completing kept_in size faults moment may_leave left_since opens_since rest whole middle old between keeper meanwhile told
  completing_one done one new later now end h = done new later now end (did_then one h)

  pub completing_end : {first : Action S} (rest : Action S) {new : S} {later : K} {now : Told} {why : NodeEnd}
      → Completing kept_in size faults moment may_leave left_since opens_since (Then first rest) whole here old at_keeper keeper at_told told
      → Does kept_in size faults moment may_leave left_since opens_since first here new at_keeper later at_told now (Some why)
      → Does kept_in size faults moment may_leave left_since opens_since whole old new keeper later told now (Some why)
  completing_end rest {new} {later} {now} {why} done one = done new later now (Some why) (did_end rest one)

  pub completing_all : (spent : K → Bool) → IsReady kept_in spent may_leave at_keeper
      → Completing kept_in size faults moment may_leave left_since opens_since Nothing whole here old at_keeper keeper at_told told
      → Does kept_in size faults moment may_leave left_since opens_since whole old here keeper at_keeper told at_told None
  completing_all spent ready done =
      done here at_keeper at_told None (did_outside spent at_keeper ready (out_nothing here at_told))

-- a list of items one further
pub each_more : {S X K : Type 0} {kept_in : K → Option Bodies} {size faults moment : K → ℕ} {may_leave : K → Bodies → Type 0} {left_since : K → ℕ → Bodies → Type 0} {opens_since : K → ℕ → ℕ → Type 0}
    {whole : Action S} {here old : S} {at_keeper keeper : K} {at_told told : Told} (act : X → Action S) (xs ys : List X) (x : X) → xs ≡ x ∷ ys
    → Completing kept_in size faults moment may_leave left_since opens_since (Each act xs) whole here old at_keeper keeper at_told told
    → Completing kept_in size faults moment may_leave left_since opens_since (Then (act x) (Each act ys)) whole here old at_keeper keeper at_told told
each_more {X = X} {kept_in} {size} {faults} {moment} {may_leave} {left_since} {opens_since} {whole} {here} {old} {at_keeper} {keeper} {at_told} {told} act xs ys x e done =
    subst (λ (l : List X). Completing kept_in size faults moment may_leave left_since opens_since (Each act l) whole here old at_keeper keeper at_told told) e done

pub each_out_more : {S X : Type 0} {whole : Action S} {here old : S} {at_told told : Told} (act : X → Action S) (xs ys : List X) (x : X) → xs ≡ x ∷ ys
    → CompletingOutside (Each act xs) whole here old at_told told
    → CompletingOutside (Then (act x) (Each act ys)) whole here old at_told told
each_out_more {X = X} {whole} {here} {old} {at_told} {told} act xs ys x e done =
    subst (λ (l : List X). CompletingOutside (Each act l) whole here old at_told told) e done

pub each_out_done : {S X : Type 0} {whole : Action S} {here old : S} {at_told told : Told} (act : X → Action S) (xs : List X) → xs ≡ []
    → CompletingOutside (Each act xs) whole here old at_told told → CompletingOutside Nothing whole here old at_told told
each_out_done {X = X} {whole} {here} {old} {at_told} {told} act xs e done =
    subst (λ (l : List X). CompletingOutside (Each act l) whole here old at_told told) e done

pub each_done : {S X K : Type 0} {kept_in : K → Option Bodies} {size faults moment : K → ℕ} {may_leave : K → Bodies → Type 0} {left_since : K → ℕ → Bodies → Type 0} {opens_since : K → ℕ → ℕ → Type 0}
    {whole : Action S} {here old : S} {at_keeper keeper : K} {at_told told : Told} (act : X → Action S) (xs : List X) → xs ≡ []
    → Completing kept_in size faults moment may_leave left_since opens_since (Each act xs) whole here old at_keeper keeper at_told told
    → Completing kept_in size faults moment may_leave left_since opens_since Nothing whole here old at_keeper keeper at_told told
each_done {X = X} {kept_in} {size} {faults} {moment} {may_leave} {left_since} {opens_since} {whole} {here} {old} {at_keeper} {keeper} {at_told} {told} act xs e done =
    subst (λ (l : List X). Completing kept_in size faults moment may_leave left_since opens_since (Each act l) whole here old at_keeper keeper at_told told) e done
