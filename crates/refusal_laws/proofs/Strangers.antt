-- A step is refused for a workstation outside the network where it names one itself, and for want of the master where it
-- takes a plan elsewhere.
use Rattle.std.proofs.Common.{◌≡◌, ◌≢◌, ◌&&◌, ◌++◌, ℕ, zero, suc, List, ◌∷◌, Option, None, Some, ap, eqb, false, not, refl, subst, sym, true}
use Rattle.std.specs.List.{AllByRecursion, list_all}
use Rattle.std.specs.Option.{option_map_or}
use Rattle.std.specs.Prelude.{Err, IfSome, nat_lt}
use Rattle.lemmas.proofs.Booleans.{contrary, not_holds}
use Rattle.lemmas.proofs.Options.{map_some, none_some, some_same}
use Rattle.model.specs.Types.{Ack, Body, Entry, Feed, Input, Mail, Net, Packet, WorldStep}
use Rattle.model.specs.Words.{nth}
use Rattle.model.specs.Network.{node_count}
use Rattle.model.specs.History.{list_of}
use Rattle.model.specs.StepFaults.{StepFault, is_next}
use Rattle.model.specs.Workstations.{ws_in, ws_in_body, ws_in_feed}
use Rattle.model.specs.World.{StepRefused, World, delivery, empty_world, packet_input, run, step, view_at}
use Rattle.model_laws.proofs.Inside.{AreIn, EntryIsIn, IsIn, all_in, are_in, list_in}
use Rattle.model_laws.proofs.Options.{slice_get_all, there_if}
use Rattle.model_laws.proofs.Steps.{here}
use Rattle.rest_laws.specs.ToRest.{names_inside}
use Rattle.rest_laws.proofs.Named.{named_run}
use Rattle.rest_laws.proofs.Phases.{all_listed}
use Rattle.rest_laws.proofs.Taken.{count_at}
use Rattle.refusal_laws.specs.Named.{names_no_stranger, plans_elsewhere, ws_named}
use Rattle.refusal_laws.proofs.Acks.{AreOfNetwork, IsOfNetwork, of_run}
use Rattle.refusal_laws.proofs.Faults.{Faulty, IsInputOf, came, came_cut, fault_tells, faulty, own, own_cut}

nth_such : {A : Type 0} (P : A → Type 0) (xs : List A) (k : ℕ) → AllByRecursion P xs → IfSome (nth xs k) P
nth_such P xs zero h = tt
nth_such P xs (suc k) h = slice_get_all P xs k h

-- entries name workstations of the network
pub entries_in : (net : Net) (x : World) → names_inside net x ≡ true → AllByRecursion (EntryIsIn net) x.history
unfolding names_inside
entries_in net x h =
    all_listed (λ (e : Entry). list_all (λ w. nat_lt w (node_count net)) (ws_in_feed e.feed ++ ws_in_body e.body))
    (EntryIsIn net) x.history (λ e k. are_in net (ws_in_feed e.feed ++ ws_in_body e.body) k) h

module _ (net : Net) (x : World) (a b k : ℕ) (names : names_inside net x ≡ true) (acks : AreOfNetwork net x)
    (a_in : IsIn net a) (b_in : IsIn net b) where
  mail_in : (f : Feed) (m : ℕ) (body : Body) → nth (list_of x.history f) m ≡ Some body
      → AreIn net (ws_in_feed f ++ ws_in_body body)
  mail_in f m body there =
      there_if (λ c. AreIn net (ws_in_feed f ++ ws_in_body c)) (nth (list_of x.history f) m) body
      (nth_such (λ c. AreIn net (ws_in_feed f ++ ws_in_body c)) (list_of x.history f) m
      (list_in net x.history f (entries_in net x names))) there

  opened : (p : Packet) (i : Input) → IsOfNetwork net p → packet_input x a p ≡ Some i → AreIn net (b ∷ ws_in i)
  unfolding packet_input
  opened (Ack f n) i of h =
      subst (λ (j : Input). AreIn net (b ∷ ws_in j)) (some_same (Input.Ack a f n) i h) (b_in, (a_in, of))
  opened (Mail f m) i of h =
      let t = map_some (λ c. Input.Mail a (record { feed = f; place = m; body = c })) (nth (list_of x.history f) m) i h in
      subst (λ (j : Input). AreIn net (b ∷ ws_in j)) t.2 (b_in, (a_in, mail_in f m t.0 t.1))

  -- what a packet that comes names
  arrived : (i : Input) → delivery x a b k ≡ Some i → AreIn net (b ∷ ws_in i)
  arrived i = go (nth (x.packets a b) k) refl
    where
      go : (o : Option Packet) → nth (x.packets a b) k ≡ o → option_map_or (packet_input x a) o None ≡ Some i
          → AreIn net (b ∷ ws_in i)
      go None e h = absurd (none_some h)
      go (Some p) e h =
          opened p i
          (there_if (IsOfNetwork net) (nth (x.packets a b) k) p (nth_such (IsOfNetwork net) (x.packets a b) k (acks a b)) e) h

input_in : (net : Net) (x : World) (s : WorldStep) (w : ℕ) (i : Input) → names_inside net x ≡ true → AreOfNetwork net x
    → AreIn net (ws_named s) → IsInputOf x s w i → AreIn net (w ∷ ws_in i)
input_in net x s w i names acks h (own v l) = h
input_in net x s w i names acks h (own_cut v l kept) = h
input_in net x s w i names acks h (came a b k j e) = arrived net x a b k names acks h.0 h.1.0 j e
input_in net x s w i names acks h (came_cut a b k kept j e) = arrived net x a b k names acks h.0 h.1.0 j e

pub no_stranger : (net : Net) (steps : List WorldStep) (s : WorldStep) → names_no_stranger net s ≡ true
    → step net (run net steps empty_world) s ≢ Err (StepRefused.Step StepFault.NotInNetwork)
no_stranger net steps s h e =
    let x : World = run net steps empty_world in
    let t : Faulty net x s StepFault.NotInNetwork = faulty net x s StepFault.NotInNetwork e in
    let all : AreIn net (t.node ∷ ws_in t.input) =
    input_in net x s t.node t.input (named_run net steps) (of_run net steps) (are_in net (ws_named s) h) t.is_its in
    let inside : list_all (λ v. nat_lt v (node_count (here net x t.node))) (t.node ∷ ws_in t.input) ≡ true =
    subst (λ (n : ℕ). list_all (λ v. nat_lt v n) (t.node ∷ ws_in t.input) ≡ true) (sym (count_at net x t.node))
    (all_in net (t.node ∷ ws_in t.input) all) in
    contrary inside
    (not_holds (list_all (λ v. nat_lt v (node_count (here net x t.node))) (t.node ∷ ws_in t.input))
    (fault_tells (here net x t.node) t.node (view_at x t.node) (x.sessions t.node) t.input StepFault.NotInNetwork t.fault))

-- what a packet brings is no plan
pub no_plan : (x : World) (a b k : ℕ) (i : Input) → delivery x a b k ≡ Some i → is_next i ≡ false
unfolding packet_input
no_plan x a b k i = go (nth (x.packets a b) k)
  where
    of_packet : (p : Packet) → packet_input x a p ≡ Some i → is_next i ≡ false
    of_packet (Ack f n) h = ap is_next (sym (some_same (Input.Ack a f n) i h))
    of_packet (Mail f m) h =
        let t = map_some (λ c. Input.Mail a (record { feed = f; place = m; body = c })) (nth (list_of x.history f) m) i h in
        ap is_next (sym t.2)

    go : (o : Option Packet) → option_map_or (packet_input x a) o None ≡ Some i → is_next i ≡ false
    go None h = absurd (none_some h)
    go (Some p) h = of_packet p h

plans_at : (x : World) (s : WorldStep) (w : ℕ) (i : Input) → IsInputOf x s w i → plans_elsewhere s ≡ false
    → (is_next i && not (eqb w 0)) ≡ false
plans_at x s w i (own v l) h = h
plans_at x s w i (own_cut v l kept) h = h
plans_at x s w i (came a b k j e) h = ap (λ c. c && not (eqb b 0)) (no_plan x a b k j e)
plans_at x s w i (came_cut a b k kept j e) h = ap (λ c. c && not (eqb b 0)) (no_plan x a b k j e)

pub no_other : (net : Net) (x : World) (s : WorldStep) → plans_elsewhere s ≡ false
    → step net x s ≢ Err (StepRefused.Step StepFault.NotMaster)
no_other net x s h e =
    let t : Faulty net x s StepFault.NotMaster = faulty net x s StepFault.NotMaster e in
    contrary
    (fault_tells (here net x t.node) t.node (view_at x t.node) (x.sessions t.node) t.input StepFault.NotMaster t.fault)
    (plans_at x s t.node t.input t.is_its h)
