-- How many packets one step sends to one workstation, and how many there are from one to another.
use Rattle.std.proofs.Common.{◌≡◌, ◌≢◌, ℕ, zero, suc, ◌+◌, ◌<◌, ◌≤◌, Bool, true, false, ◌&&◌, inl, inr, List, []}
use Rattle.std.proofs.Common.{◌∷◌, ◌++◌, length, map, refl, sym, subst, arith, Option, Some, None, cond}
use Rattle.std.proofs.lemmas.Bool.Decides.{eqb_tells}
use Rattle.std.proofs.lemmas.List.{length-append, length-take}
use Rattle.std.proofs.lemmas.List.Sums.{sum_by-cons}
use Rattle.std.specs.Option.{option_map_or}
use Rattle.std.specs.Prelude.{Ok, count_by, eqb, filter, flat_map}
use Rattle.model.specs.Types.{Ack, Body, Entry, Events, Feed, Input, Kill, Launch, Launched, Mail, Net, Obeyed, Out}
use Rattle.model.specs.Types.{Send, Turn, WorldStep}
use Rattle.model.specs.Words.{numbers_from}
use Rattle.model.specs.Network.{are_neighbours, node_count}
use Rattle.model.specs.History.{View}
use Rattle.model.specs.Catalogue.{StreamJob, job}
use Rattle.model.specs.Facts.{open_launch}
use Rattle.model.specs.Forwarding.{feeds, forwards, places_beyond, to_send}
use Rattle.model.specs.PresentNet.{present_net}
use Rattle.model.specs.Sessions.{Session}
use Rattle.model.specs.StepFaults.{StepFault, step_fault}
use Rattle.model.specs.Step.{Effect, effect, node_step, outs_of, outs_of_body, sends, unless_fault}
use Rattle.model.specs.World.{Origin, World, apply_effect, cut_short, empty_world, is_send, mark_delivered}
use Rattle.model.specs.World.{packets_to, run, step}
use Rattle.model_laws.proofs.Feeds.{with_at-all}
use Rattle.model_laws.proofs.Moves.{Moved, kept_by_runs, moved}
use Rattle.model_laws.proofs.Sends.{any_steps, same_done}
use Rattle.model_laws.proofs.Steps.{nothing, step_of}

-- how many of what is given out goes to one workstation
abbrev count_to : ℕ → List Out → ℕ
count_to m outs = length (packets_to m outs)

two_parts : (m : ℕ) (a b : List Out) → count_to m (a ++ b) ≡ count_to m a + count_to m b
two_parts m [] b = omega arith
two_parts m (Launch j n work ∷ a) b = two_parts m a b
two_parts m (Out.Kill j n ∷ a) b = two_parts m a b
two_parts m (Send to p ∷ a) b = go (eqb to m) (two_parts m a b)
  where
    go : (c : Bool) → count_to m (a ++ b) ≡ count_to m a + count_to m b
        → length (cond c (p ∷ packets_to m (a ++ b)) (packets_to m (a ++ b)))
        ≡ length (cond c (p ∷ packets_to m a) (packets_to m a)) + count_to m b
    go true h = omega (arith, h)
    go false h = h

-- the mails to one workstation
abbrev mails : ℕ → List (Feed × ℕ) → List Out
mails k qs = map (λ (q : Feed × ℕ). Send k (Mail q.0 q.1)) qs

all_mails : (m : ℕ) (qs : List (Feed × ℕ)) → count_to m (mails m qs) ≤ length qs
all_mails m [] = omega arith
all_mails m (q ∷ qs) = go (eqb m m) (all_mails m qs)
  where
    go : (c : Bool) → count_to m (mails m qs) ≤ length qs
        → length (cond c (Mail q.0 q.1 ∷ packets_to m (mails m qs)) (packets_to m (mails m qs))) ≤ suc (length qs)
    go true h = omega (arith, h)
    go false h = omega (arith, h)

no_mails : (m k : ℕ) (qs : List (Feed × ℕ)) → k ≢ m → count_to m (mails k qs) ≡ 0
no_mails m k [] h = refl
no_mails m k (q ∷ qs) h =
    elim (eqb_tells k m) [
      | inl e ↦ absurd (h e.1)
      | inr e ↦ rw e.0 (no_mails m k qs h)
    ]

-- of mails to each of some ascending workstations, where none has more than eight, one has at most eight
module _ (m : ℕ) (g : ℕ → List (Feed × ℕ)) (few : (k : ℕ) → length (g k) ≤ 8) (p : ℕ → Bool) where
  past : (from n : ℕ) → m < from
      → count_to m (flat_map (λ k. mails k (g k)) (filter p (numbers_from from n))) ≡ 0
  past from zero h = refl
  past from (suc n) h = go (p from) (past (from + 1) n (omega (arith, h)))
    where
      other : from ≢ m
      other e = absurd (omega (arith, h, e))

      go : (c : Bool) → count_to m (flat_map (λ k. mails k (g k)) (filter p (numbers_from (from + 1) n))) ≡ 0
          → count_to m (flat_map (λ k. mails k (g k))
          (cond c (from ∷ filter p (numbers_from (from + 1) n)) (filter p (numbers_from (from + 1) n)))) ≡ 0
      go true rest =
          omega (
            arith,
            rest,
            no_mails m from (g from) other,
            two_parts m (mails from (g from))
                (flat_map (λ k. mails k (g k)) (filter p (numbers_from (from + 1) n))),
          )
      go false rest = rest

  at_most_eight : (from n : ℕ)
      → count_to m (flat_map (λ k. mails k (g k)) (filter p (numbers_from from n))) ≤ 8
  at_most_eight from zero = omega arith
  at_most_eight from (suc n) = go (p from) (at_most_eight (from + 1) n)
    where
      rest : List Out
      rest = flat_map (λ k. mails k (g k)) (filter p (numbers_from (from + 1) n))

      joined : count_to m rest ≤ 8 → count_to m (mails from (g from)) + count_to m rest ≤ 8
      joined h =
          elim (eqb_tells from m) [
            | inl e ↦ let here : count_to m (mails m (g m)) + count_to m rest ≤ 8 =
                omega (arith, few m, all_mails m (g m), past (from + 1) n (omega (arith, e.1))) in
                subst (λ (k : ℕ). count_to m (mails k (g k)) + count_to m rest ≤ 8) (sym e.1) here
            | inr e ↦ omega (arith, no_mails m from (g from) e.1, h)
          ]

      go : (c : Bool) → count_to m rest ≤ 8
          → count_to m (flat_map (λ k. mails k (g k))
          (cond c (from ∷ filter p (numbers_from (from + 1) n)) (filter p (numbers_from (from + 1) n)))) ≤ 8
      go true h = omega (arith, joined h, two_parts m (mails from (g from)) rest)
      go false h = h

sends_to : (net : Net) (V : View) (w m : ℕ) (s : Session) → count_to m (sends net w V s) ≤ 8
unfolding sends to_send
sends_to net V w m s =
    at_most_eight m (λ k. to_send net V w k (s.acked k)) short
    (λ k. are_neighbours net w k && s.links k) 0 (node_count net)
  where
    short : (k : ℕ) → length (to_send net V w k (s.acked k)) ≤ 8
    short k =
        omega (arith, length-take 8 (flat_map (places_beyond V (s.acked k)) (filter (forwards net V w k) (feeds net))))

-- launches and kills go to no workstation
body_to : (V : View) (w m : ℕ) (b : Body) → count_to m (outs_of_body w V b) ≡ 0
unfolding outs_of_body
body_to V w m (Launched j n seen) = go (job V j)
  where
    go : (o : Option StreamJob)
        → count_to m (option_map_or (λ (p : StreamJob). Launch j n p.doc.work ∷ []) o []) ≡ 0
    go None = refl
    go (Some p) = refl
body_to V w m (Obeyed a k (Kill j)) = go (open_launch j (V (Events w)))
  where
    go : (o : Option ℕ) → count_to m (option_map_or (λ n. Out.Kill j n ∷ []) o []) ≡ 0
    go None = refl
    go (Some n) = refl
body_to V w m _ = refl

made_to : (V : View) (w m : ℕ) (made : Option Entry)
    → count_to m (option_map_or (λ (e : Entry). outs_of_body w V e.body) made []) ≡ 0
made_to V w m None = refl
made_to V w m (Some e) = body_to V w m e.body

outs_to : (u : Net) (V : View) (w m : ℕ) (t : Session) (i : Input) (made : Option Entry)
    → count_to m (outs_of u w V t i made) ≤ 8
unfolding outs_of
outs_to u V w m t (Input.Local (Turn v)) made =
    omega (
      arith,
      two_parts m (option_map_or (λ (e : Entry). outs_of_body w V e.body) made []) (sends u w V t),
      made_to V w m made,
      sends_to u V w m t,
    )
outs_to u V w m t (Input.Mail from e) made = go (t.links from) (eqb from m)
  where
    one : (c : Bool) → length (cond c (Ack e.feed (length (V e.feed)) ∷ []) []) ≤ 8
    one true = omega arith
    one false = omega arith

    go : (b c : Bool) → count_to m (cond b (Send from (Ack e.feed (length (V e.feed))) ∷ []) []) ≤ 8
    go true c = one (eqb from m)
    go false c = omega arith
outs_to u V w m t _ made = omega arith

done_to : (net : Net) (V : View) (w m : ℕ) (s : Session) (i : Input) → count_to m (effect net w V s i).outs ≤ 8
unfolding effect
done_to net V w m s i = outs_to _ _ w m _ i _

pub step_sends_to : (net : Net) (V : View) (w : ℕ) (s : Session) (i : Input) (d : Effect)
    → node_step net w V s i ≡ Ok d → (m : ℕ) → length (packets_to m d.outs) ≤ 8
unfolding node_step
step_sends_to net V w s i d e m =
    go (step_fault (present_net net V) w V s i) (effect net w V s i) e (done_to net V w m s i)
  where
    go : (f : Option StepFault) (c : Effect) → unless_fault f c ≡ Ok d → count_to m c.outs ≤ 8
        → count_to m d.outs ≤ 8
    go None c e h = subst (λ (k : Effect). count_to m k.outs ≤ 8) (same_done c d e) h
    go (Some f) c e h = cc

-- what goes to one workstation is some of what is sent
some_sent : (m : ℕ) (outs : List Out) → count_to m outs ≤ count_by is_send outs
some_sent m [] = omega arith
some_sent m (Launch j n work ∷ outs) = some_sent m outs
some_sent m (Out.Kill j n ∷ outs) = some_sent m outs
some_sent m (Send to p ∷ outs) =
    omega (arith, sum_by-cons (λ o. cond (is_send o) 1 0) (Send to p) outs, go (eqb to m) (some_sent m outs))
  where
    go : (c : Bool) → count_to m outs ≤ count_by is_send outs
        → length (cond c (p ∷ packets_to m outs) (packets_to m outs)) ≤ suc (count_by is_send outs)
    go true h = omega (arith, h)
    go false h = omega (arith, h)

-- nobody sent more packets to one workstation than were sent in all
abbrev pub HasShortLanes : World → Type 0
HasShortLanes x = (a b : ℕ) → length (x.packets a b) ≤ x.sent

lanes_after : (x : World) (w : ℕ) (o : Origin) (d : Effect) → HasShortLanes x → HasShortLanes (apply_effect x w o d)
unfolding apply_effect
lanes_after x w o d h =
    with_at-all (λ v lanes. (b : ℕ) → length (lanes b) ≤ x.sent + count_by is_send d.outs) w
    (λ b. x.packets w b ++ packets_to b d.outs) x.packets
    (λ b. omega (arith, h w b, some_sent b d.outs, length-append (x.packets w b) (packets_to b d.outs)))
    (λ v other b. omega (arith, h v b))

lanes_marked : (x : World) (a b k : ℕ) → HasShortLanes x → HasShortLanes (mark_delivered x a b k)
unfolding mark_delivered
lanes_marked x a b k h = h

lanes_moved : (net : Net) (x y : World) (s : WorldStep) → HasShortLanes x → Moved net x s y → HasShortLanes y
lanes_moved net x y s h (Moved.took w l limit none) = lanes_after x w Origin.Own (step_of net x w (Input.Local l)) h
lanes_moved net x y s h (Moved.took_cut w l kept limit none) =
    lanes_after x w Origin.Own (cut_short kept (step_of net x w (Input.Local l))) h
lanes_moved net x y s h (Moved.stopped w limit) = lanes_after x w Origin.Own nothing h
lanes_moved net x y s h (Moved.came a b k i opened limit none) =
    lanes_marked (apply_effect x b Origin.Mailed (step_of net x b i)) a b k
    (lanes_after x b Origin.Mailed (step_of net x b i) h)
lanes_moved net x y s h (Moved.came_cut a b k kept i opened limit none) =
    lanes_marked (apply_effect x b Origin.Mailed (cut_short kept (step_of net x b i))) a b k
    (lanes_after x b Origin.Mailed (cut_short kept (step_of net x b i)) h)

pub lanes_step : (net : Net) (x y : World) (s : WorldStep) → HasShortLanes x → step net x s ≡ Ok y → HasShortLanes y
lanes_step net x y s h e = lanes_moved net x y s h (moved net x s y e)

pub lanes_always : (net : Net) (steps : List WorldStep) → HasShortLanes (run net steps empty_world)
lanes_always net steps =
    kept_by_runs net HasShortLanes (λ s. Unit {0}) (λ x y s h any e. lanes_step net x y s h e)
    steps empty_world (λ a b. omega arith) (any_steps steps)
