-- What a node holds and makes can be written down.
use Rattle.std.proofs.Common.{[], ◌+◌, ◌++◌, ◌≡◌, ◌≤◌, ◌∷◌, ℕ, List, None, Option, Some, ap, arith, inl, inr, length, refl, subst, suc, sym, true, zero}
use Rattle.std.proofs.lemmas.Bool.{leb-true}
use Rattle.std.proofs.lemmas.List.{append-nil}
use Rattle.std.proofs.lemmas.List.Elements.{All-push, All-weaker, recursion_from_All}
use Rattle.std.specs.List.{AllByRecursion}
use Rattle.std.specs.Option.{option_to_list}
use Rattle.std.specs.Prelude.{IfSome, Ok, nat_le, slice_get}
use Rattle.lemmas.proofs.Booleans.{and_right}
use Rattle.model.specs.Types.{Body, Entry, Feed, Input, Net}
use Rattle.model.specs.Fit.{IsFit, IsFitBody, IsFitInput}
use Rattle.model.specs.History.{list_of}
use Rattle.model.specs.Invariant.{has_its_feed, keeps_its_size}
use Rattle.model.specs.NewEntry.{makes}
use Rattle.model.specs.PresentNet.{present_net}
use Rattle.model.specs.Sessions.{Session}
use Rattle.model.specs.Sizes.{body_size, entry_size, feed_size}
use Rattle.model.specs.Spelling.{entry_bytes}
use Rattle.model.specs.Step.{Effect, effect, node_step, unless_fault}
use Rattle.model.specs.StepFaults.{StepFault, step_fault}
use Rattle.model.specs.Words.{nth}
use Rattle.model_laws.proofs.Feeds.{feed_cases}
use Rattle.model_laws.proofs.FitSteps.{step_fit}
use Rattle.model_laws.proofs.Lengths.{entry_length}
use Rattle.model_laws.proofs.Limits.{made_sized}
use Rattle.model_laws.proofs.Options.{slice_get_all, there_if}
use Rattle.model_laws.proofs.Sends.{same_done}
use Rattle.agent_core.specs.Nodes.{NodeState, session_in}
use Rattle.agent_core.specs.Steps.{IsTaken, effect_in}
use Rattle.agent_core.specs.declared.faults.Step.{Step}
use Rattle.outside.specs.Records.{longest_body}
use Rattle.node_inputs.specs.Stepping.{AreKeepable, IsKeepable}

-- how long an entry of a feed is
abbrev pub size_at : Feed → Body → ℕ
size_at f b = 1 + feed_size f + 4 + 1 + body_size b

size_is : (e : Entry) → entry_size e ≡ size_at e.feed e.body
unfolding entry_size
size_is e = refl

-- a body of a feed of entries that can be written down
pub record IsKeepableAt (f : Feed) (b : Body) : Type 0 where
  pub its_feed : has_its_feed f b ≡ true
  pub fit : IsFitBody b
  pub short : size_at f b ≤ longest_body

keepable_at : (e : Entry) → IsKeepable e → IsKeepableAt e.feed e.body
keepable_at e h = record {
  its_feed = h.fit.in_its_feed;
  fit = h.fit.bounded;
  short = omega (arith, h.short, entry_length e, size_is e);
}

list_keepable : (K : List Entry) (f : Feed) → AllByRecursion IsKeepable K → AllByRecursion (IsKeepableAt f) (list_of K f)
unfolding list_of
list_keepable [] f h = tt
list_keepable (e ∷ K) f h =
    let later : AllByRecursion (IsKeepableAt f) (list_of K f) = list_keepable K f h.1 in
    elim (feed_cases f e.feed) [
      | inl c ↦ rw c.0 (subst (λ (g : Feed). IsKeepableAt g e.body) (sym c.1) (keepable_at e h.0), later)
      | inr c ↦ rw c.0 later
    ]

-- the entry at a place of what is held
pub placed_keepable : (K : List Entry) (f : Feed) (k : ℕ) (b : Body) → AreKeepable K → nth (list_of K f) k ≡ Some b
    → IsKeepable (record { feed = f; place = k; body = b })
placed_keepable K f zero b h e = cc
placed_keepable K f (suc k) b h e =
    let t : IsKeepableAt f b = there_if (IsKeepableAt f) (slice_get (list_of K f) k) b
    (slice_get_all (IsKeepableAt f) (list_of K f) k (list_keepable K f (recursion_from_All IsKeepable K h))) e in
    let it : Entry = record { feed = f; place = suc k; body = b } in
    record {
      fit = record { in_its_feed = t.its_feed; has_place = omega arith; bounded = t.fit };
      short = omega (arith, t.short, entry_length it, size_is it);
    }

-- what a step makes is not too long
abbrev IsShort : Entry → Type 0
IsShort e = length (entry_bytes e) ≤ longest_body

size_short : (e : Entry) → keeps_its_size e ≡ true → IsShort e
size_short e h =
    let small : entry_size e ≤ 4194304 = leb-true _ _ (and_right (nat_le e.place 4294967295) _ h) in
    omega (arith, small, entry_length e)

if_short : (m : Option Entry) → ((e : Entry) → m ≡ Some e → IsShort e) → IfSome m IsShort
if_short None h = tt
if_short (Some e) h = h e refl

made_short : (net : Net) (me : ℕ) (K : List Entry) (s : Session) (input : Input) (d : Effect)
    → node_step net me (list_of K) s input ≡ Ok d → IfSome d.made IsShort
unfolding node_step effect
made_short net me K s input d e =
    go (step_fault (present_net net (list_of K)) me (list_of K) s input) refl e
  where
    go : (f : Option StepFault) → step_fault (present_net net (list_of K)) me (list_of K) s input ≡ f
        → unless_fault f (effect net me (list_of K) s input) ≡ Ok d → IfSome d.made IsShort
    go None none same =
        subst (λ (m : Option Entry). IfSome m IsShort)
        (ap (λ (c : Effect). c.made) (same_done (effect net me (list_of K) s input) d same))
        (if_short (makes (present_net net (list_of K)) me (list_of K) s input)
        (λ c there. size_short c (made_sized (present_net net (list_of K)) (list_of K) me s input c none there)))
    go (Some f) none same = cc

both_keepable : (m : Option Entry) → IfSome m IsFit → IfSome m IsShort → IfSome m IsKeepable
both_keepable None f s = tt
both_keepable (Some e) f s = record { fit = f; short = s }

-- the entry of a step that is taken
pub taken_keepable : (old new : NodeState) (input : Input) (step : Step) → AreKeepable old.kept → IsFitInput input
    → IsTaken old input step new → IfSome step.kept IsKeepable
taken_keepable old new input step h fit taken =
    both_keepable step.kept
    (step_fit old.net old.me old.kept (session_in old) input (effect_in step new)
    (All-weaker IsKeepable IsFit (λ e k. k.fit) old.kept h) fit taken.effect)
    (made_short old.net old.me old.kept (session_in old) input (effect_in step new) taken.effect)

one_more : (kept : List Entry) (m : Option Entry) → AreKeepable kept → IfSome m IsKeepable
    → AreKeepable (kept ++ option_to_list m)
one_more kept None h k = subst AreKeepable (sym (append-nil kept)) h
one_more kept (Some e) h k = All-push IsKeepable kept e h k

-- and what is held after it
pub kept_keepable : (old new : NodeState) (input : Input) (step : Step) → AreKeepable old.kept → IsFitInput input
    → IsTaken old input step new → AreKeepable new.kept
kept_keepable old new input step h fit taken =
    subst AreKeepable (sym taken.kept)
    (one_more old.kept step.kept h (taken_keepable old new input step h fit taken))

pub same_keepable : (old new : NodeState) → AreKeepable old.kept → new ≡ old → AreKeepable new.kept
same_keepable old new h same = subst (λ (n : NodeState). AreKeepable n.kept) (sym same) h
