-- The processes that are asked for at a workstation are some of its starts in the world, in that order.
use Rattle.std.proofs.Common.{[], ◌++◌, ◌<◌, ◌≡◌, ◌≢◌, ◌≤◌, ◌∙◌, ◌∷◌, ◌⊎◌, ℕ, Bool, List, None, Option, Some, ap, append_assoc, arith, false, inl, inr, refl, subst, sym, true}
use Rattle.std.proofs.Common.{option_and_then}
use Rattle.std.proofs.lemmas.Bool.Decides.{eqb_tells, leb_tells}
use Rattle.std.proofs.lemmas.List.{append-nil}
use Rattle.std.proofs.lemmas.List.Elements.{filter_map-append}
use Rattle.std.specs.List.{cons_option}
use Rattle.std.specs.Prelude.{◌==◌, filter_map, if◌then◌else◌, nat_le}
use Rattle.lemmas.proofs.Numbers.{eq_turned}
use Rattle.lemmas.proofs.Options.{none_some, some_is}
use Rattle.composer_parser.specs.declared.Defs.{Defs}
use Rattle.model.specs.Types.{Body, Entry, Events, Feed, Launched, Net, Orders, Start}
use Rattle.model.specs.Words.{IsPartOf}
use Rattle.model.specs.Equalities.{feed_eq}
use Rattle.model.specs.Invariant.{launch_in as start_made, launches_in_order}
use Rattle.model.specs.Network.{node_count}
use Rattle.outside.specs.Calls.{StartCall}
use Rattle.workload_defs.specs.Nets.{net_of}
use Rattle.node_inputs.specs.Traces.{Event}
use Rattle.run_laws.specs.Launches.{launch_in, launch_of}
use Rattle.network_runs.specs.Happenings.{Begins, Does, Happening, Night, Stops, kept_at, launch_at, launches_at, made, started}
use Rattle.network_runs.specs.Nights.{IsNight}
use Rattle.network_runs.proofs.Counting.{apart, started_next, together}
use Rattle.network_runs.proofs.Members.{IsIn, NoneTwice, in_mapped, in_right, in_split, mapped_in, part_both, part_front, part_mapped, part_none, part_of_part}
use Rattle.network_runs.proofs.Once.{StartsLaw, asked_inside, asked_last, history_launches, launches_next, launches_of, started_once}
use Rattle.network_runs.proofs.Uniques.{AreRight, Launch, no_launch_again}
use Rattle.network_runs.proofs.Whole.{IsSoFar}
use Rattle.network_runs.proofs.Worlds.{invariant}

-- the launches of a history at a workstation are those of the entries of its own events
none_chosen : (c : Bool) → ◌≡◌ {A = Option Launch} None (if c then None else None)
none_chosen true = refl
none_chosen false = refl

one_launch : (w : ℕ) (f : Feed) (b : Body)
    → option_and_then (launch_at w) (start_made f b) ≡ (if feed_eq (Events w) f then launch_in b else None)
one_launch w (Events v) (Launched j n seen) = ap (λ (c : Bool). if c then Some (j, n) else None) (eq_turned v w)
one_launch w (Events v) b = none_chosen (w == v)
one_launch w (Orders a v) b = refl

filtered_first : (g : Start → Option Launch) (o : Option Start) (starts : List Start)
    → filter_map g (cons_option o starts) ≡ cons_option (option_and_then g o) (filter_map g starts)
filtered_first g None starts = refl
filtered_first g (Some s) starts = refl

launches_same : (w : ℕ) (G : List Entry) → launches_at w (launches_in_order G) ≡ filter_map (launch_of w) G
launches_same w [] = refl
launches_same w (e ∷ G) =
    filtered_first (launch_at w) (start_made e.feed e.body) (launches_in_order G)
    ∙ ap (λ (l : List Launch). cons_option (option_and_then (launch_at w) (start_made e.feed e.body)) l) (launches_same w G)
    ∙ ap (λ (o : Option Launch). cons_option o (filter_map (launch_of w) G)) (one_launch w e.feed e.body)

-- none of them stands there twice
none_twice : (net : Net) (G : List Entry) → AreRight net G → (w : ℕ) (P Q : List Launch)
    → filter_map (launch_of w) G ≡ P ++ Q → NoneTwice Q
none_twice net G right w P [] e = tt
none_twice net G right w P (p ∷ Q) e = (
  λ i. let s = in_split p Q i in no_launch_again net G right w (P ++ p ∷ s.front) s.back p
      (e ∙ ap (λ (l : List Launch). P ++ p ∷ l) s.split ∙ sym (append_assoc P (p ∷ s.front) (p ∷ s.back)))
      (in_right p P (p ∷ s.front) (inl refl)),
  none_twice net G right w (P ++ p ∷ []) Q (e ∙ sym (append_assoc P (p ∷ []) Q)),
)

-- a happening asks for a process at this workstation, or for none there
data Asks (w : ℕ) (h : Happening) : Type 0 where
  nothing : launches_at w (started (h ∷ [])) ≡ [] → Asks w h
  one : (call : StartCall) → h ≡ Does w (Event.Starts call) → Asks w h

asks_of : (w : ℕ) (h : Happening) → Asks w h
asks_of w (Begins v entries) = Asks.nothing refl
asks_of w (Stops v left) = Asks.nothing refl
asks_of w (Does v (Event.Starts call)) =
    elim (eqb_tells v w) [
      | inl t ↦ Asks.one call (ap (λ (u : ℕ). Does u (Event.Starts call)) t.1)
      | inr t ↦ Asks.nothing
          (ap (λ (o : Option Launch). cons_option o []) (apart v w (Some (call.job, call.number)) None (λ e. t.1 (sym e))))
    ]
asks_of w (Does v event) = Asks.nothing refl

-- so far those that were asked for are some of those that were kept, in order
abbrev AreInOrder : ℕ → Night → Type 0
AreInOrder w before = IsPartOf (launches_at w (started before)) (launches_of w (kept_at w before))

next_in_order : (w : ℕ) (before : Night) (h : Happening)
    → IsPartOf (launches_at w (started before) ++ launches_at w (started (h ∷ [])))
    (launches_of w (kept_at w before) ++ launches_of w (kept_at w (h ∷ []))) → AreInOrder w (before ++ h ∷ [])
next_in_order w before h k =
    subst (λ (l : List Launch). IsPartOf l (launches_of w (kept_at w (before ++ h ∷ []))))
    (sym (ap (filter_map (launch_at w)) (started_next before h) ∙ filter_map-append (launch_at w) (started before) (started (h ∷ []))))
    (subst (λ (l : List Launch). IsPartOf (launches_at w (started before) ++ launches_at w (started (h ∷ []))) l)
    (sym (launches_next w before h)) k)

-- the launch of a start
record IsStartOf (w : ℕ) (s : Start) (p : Launch) : Type 0 where
  pub job_ : s.job ≡ p.0
  pub number_ : s.number ≡ p.1

start_of_launch : (w : ℕ) (s : Start) (p : Launch) → launch_at w s ≡ Some p → IsStartOf w s p
start_of_launch w s p is = go (s.ws == w) is
  where
    go : (b : Bool) → (if b then Some (s.job, s.number) else None) ≡ Some p → IsStartOf w s p
    go true e = let same = some_is e in record { job_ = ap (λ (q : Launch). q.0) same; number_ = ap (λ (q : Launch). q.1) same }
    go false e = absurd (none_some e)

module _ (law : StartsLaw) (defs : Defs) (night : Night) (n : IsNight defs night) (k : IsSoFar (net_of defs) night) (w : ℕ) where
  asked_new : (before behind : Night) (call : StartCall) → night ≡ before ++ Does w (Event.Starts call) ∷ behind
      → IsIn (call.job, call.number) (launches_at w (started before)) → ⊥
  asked_new before behind call is among =
      let it = mapped_in (launch_at w) (call.job, call.number) (started before) among in
      let its : IsStartOf w it.0 (call.job, call.number) = start_of_launch w it.0 (call.job, call.number) it.2 in
      started_once law defs night n k before behind w call it.0 is it.1 its.job_ its.number_

  one_on : (before behind : Night) (call : StartCall) → night ≡ before ++ Does w (Event.Starts call) ∷ behind
      → AreInOrder w before → AreInOrder w (before ++ Does w (Event.Starts call) ∷ [])
  one_on before behind call is so_far =
      let p : Launch = (call.job, call.number) in
      let xs : List Launch = launches_at w (started before) in
      let last = asked_last law defs night n before behind w call is in
      next_in_order w before (Does w (Event.Starts call))
      (subst (λ (l : List Launch). IsPartOf (xs ++ l) (launches_of w (kept_at w before) ++ []))
      (sym (ap (λ (o : Option Launch). cons_option o []) (together w (Some p) None)))
      (subst (λ (l : List Launch). IsPartOf (xs ++ p ∷ []) l) (sym last.1 ∙ sym (append-nil (launches_of w (kept_at w before))))
      (part_both xs last.0 (p ∷ []) (p ∷ [])
      (part_front xs last.0 p (subst (λ (l : List Launch). IsPartOf xs l) last.1 so_far) (asked_new before behind call is))
      (inl (refl, tt)))))

  order_on : (before behind : Night) (h : Happening) → night ≡ before ++ h ∷ behind → AreInOrder w before
      → AreInOrder w (before ++ h ∷ [])
  order_on before behind h is so_far = go (asks_of w h)
    where
      go : Asks w h → AreInOrder w (before ++ h ∷ [])
      go (Asks.nothing none) =
          next_in_order w before h
          (subst (λ (l : List Launch). IsPartOf (launches_at w (started before) ++ l) (launches_of w (kept_at w before) ++ launches_of w (kept_at w (h ∷ []))))
          (sym none)
          (part_both (launches_at w (started before)) (launches_of w (kept_at w before)) [] (launches_of w (kept_at w (h ∷ []))) so_far tt))
      go (Asks.one call its) =
          subst (λ (g : Happening). AreInOrder w (before ++ g ∷ [])) (sym its)
          (one_on before behind call (is ∙ ap (λ (g : Happening). before ++ g ∷ behind) its) so_far)

  all_in_order : (behind before : Night) → night ≡ before ++ behind → AreInOrder w before → AreInOrder w night
  all_in_order [] before is so_far =
      subst (λ (l : Night). AreInOrder w l) (sym (is ∙ append-nil before)) so_far
  all_in_order (h ∷ behind) before is so_far =
      all_in_order behind (before ++ h ∷ []) (is ∙ sym (append_assoc before (h ∷ []) behind)) (order_on before behind h is so_far)

  inside : w < node_count (net_of defs) → IsPartOf (launches_at w (started night)) (launches_at w k.world.starts)
  inside within =
      part_of_part (filter_map (launch_of w) (made night)) (launches_at w (started night)) (launches_at w k.world.starts)
      (none_twice (net_of defs) (made night) k.sound.prefixes w [] (filter_map (launch_of w) (made night)) refl)
      (subst (λ (l : List Launch). IsPartOf (launches_at w (started night)) l) (history_launches (net_of defs) night k w within)
      (all_in_order night [] refl tt))
      (subst (λ (G : List Entry). IsPartOf (launches_at w k.world.starts) (filter_map (launch_of w) G)) k.history_
      (subst (λ (l : List Launch). IsPartOf (launches_at w k.world.starts) l) (launches_same w k.world.history)
      (part_mapped (launch_at w) k.world.starts (launches_in_order k.world.history) (invariant (net_of defs) k.world k.reached).starts)))
      (λ p i. let it = mapped_in (launch_at w) p (started night) i in
      in_mapped (launch_at w) it.0 p k.world.starts (k.members it.0 it.1) it.2)

  -- at a workstation outside the network no process is asked for
  beyond : (w < node_count (net_of defs) → ⊥) → IsPartOf (launches_at w (started night)) (launches_at w k.world.starts)
  beyond out =
      part_none (launches_at w (started night)) (launches_at w k.world.starts)
      (λ p i. let it = mapped_in (launch_at w) p (started night) i in
      out (asked_inside law defs night n w it.0 (at_here it.0 p it.2) it.1))
    where
      at_here : (s : Start) (p : Launch) → launch_at w s ≡ Some p → s.ws ≡ w
      at_here s p is = go (eqb_tells s.ws w)
        where
          go : ((s.ws == w) ≡ true) × (s.ws ≡ w) ⊎ ((s.ws == w) ≡ false) × (s.ws ≢ w) → s.ws ≡ w
          go (inl t) = t.1
          go (inr t) = absurd (none_some (sym (ap (λ (c : Bool). if c then Some (s.job, s.number) else None) t.0) ∙ is))

  pub in_order : IsPartOf (launches_at w (started night)) (launches_at w k.world.starts)
  in_order = go (leb_tells (node_count (net_of defs)) w)
    where
      go : ((nat_le (node_count (net_of defs)) w ≡ true) × (node_count (net_of defs) ≤ w))
          ⊎ ((nat_le (node_count (net_of defs)) w ≡ false) × (w < node_count (net_of defs)))
          → IsPartOf (launches_at w (started night)) (launches_at w k.world.starts)
      go (inl out) = beyond (λ within. omega (arith, out.1, within))
      go (inr within) = inside within.1
