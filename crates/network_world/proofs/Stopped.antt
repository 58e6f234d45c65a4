-- One station: its node takes an input, stops in it, begins again.
use Rattle.std.proofs.Common.{◌≡◌, ◌++◌, ◌∙◌, [], ℕ, List, None, Ok, Some, ap, append-nil, false}
use Rattle.std.proofs.Common.{map, max, refl, subst, sym, true}
use Rattle.std.proofs.lemmas.Option.{slice_get-map}
use Rattle.std.specs.Option.{option_to_list}
use Rattle.std.specs.Prelude.{slice_get, slice_set}
use Rattle.lemmas.proofs.Options.{map_some}
use Rattle.model.specs.Types.{Input, Net}
use Rattle.model.specs.Network.{node_count}
use Rattle.model.specs.Sessions.{restarted}
use Rattle.model.specs.Step.{Effect}
use Rattle.model.specs.World.{cut_short}
use Rattle.agent_core.specs.Nodes.{NodeState, session_in}
use Rattle.agent_core.specs.Steps.{IsDue, effect_in, step_at}
use Rattle.agent_core.specs.declared.Step.{Step}
use Rattle.agent_core.specs.declared.StepFault as node
use Rattle.agent_core.specs.declared.StepFault.TheVariants as fault
use Rattle.carry_forward.specs.declared.CarryFault.TheVariants as carry
use Rattle.network_world.specs.Stations.{Lane, Station}
use Rattle.network_world.specs.Refusals.{refused_by}
use Rattle.network_world.specs.Lanes.{AreNew, HaveMore, IsMarked, seen}
use Rattle.network_world.specs.Moves.{GoesOn, HasStopped, HasTaken, IsAgain, IsInputDue, IsMarkedTo, IsNew, LanesGrow, stop}
use Rattle.network_world.specs.declared.lanes.Lane as raw
use Rattle.network_world.specs.declared.refusals.StepRefused.{StepRefused}
use Rattle.network_world.proofs.After.{marked_lane}
use Rattle.network_world.proofs.Beginning.{lanes_seen}
use Rattle.network_world.proofs.Lists.{map_set}
use Rattle.network_world.proofs.Sending.{lanes_grow}

abbrev pub station : NodeState → List Lane → Station
station n ls = record { node = n; lanes = ls }

pub same_station : (n m : NodeState) (ls ms : List Lane) → n ≡ m → ls ≡ ms → station n ls ≡ station m ms
same_station n m ls ms e f = λ i. station (e i) (f i)

-- the refusal of an input that a node's fault is
due_of : (t : Station) (input : Input) (f : node.StepFault) → IsDue t.node input f → IsInputDue t input (refused_by f)
due_of t input fault.NotInNetwork h = h
due_of t input fault.NotNeighbour h = h
due_of t input fault.NotMaster h = h
due_of t input fault.NoProcess h = h
due_of t input fault.NoDep h = h
due_of t input fault.PlaceSpent h = h
due_of t input (fault.Carry carry.RunsSpent) h = h
due_of t input (fault.Carry carry.NumbersSpent) h = h
due_of t input (fault.Carry (carry.PlanFull n)) h = h
due_of t input (fault.Carry carry.NoMemory) h = h
due_of t input fault.TooLong h = h
due_of t input fault.NoMemory h = tt

pub refused_due : (t : Station) (input : Input) (f : node.StepFault) (r : StepRefused) → r ≡ refused_by f
    → IsDue t.node input f → IsInputDue t input r
refused_due t input f r e h = subst (λ (q : StepRefused). IsInputDue t input q) (sym e) (due_of t input f h)

-- lanes that get nothing
pub lanes_stay : (ls : List Lane) → LanesGrow [] ls ls
lanes_stay ls = record { count = refl; each = λ b m e. (m, e, sym (append-nil m.packets), refl) }

-- a node that took an input, with the lanes that got what it sent
pub station_taken : (t : Station) (input : Input) (s : Step) (n : NodeState) (mid new : List raw.Lane)
    → map seen mid ≡ t.lanes → step_at t.node input ≡ Ok (effect_in s n)
    → n.kept ≡ t.node.kept ++ option_to_list s.kept → n.net ≡ t.node.net → n.me ≡ t.node.me
    → HaveMore s.outs mid new → HasTaken t input s (record { node = n; lanes = map seen new })
station_taken t input s n mid new same due kept net me more =
    record {
      due = due;
      goes =
          record {
            net_ = net;
            me_ = me;
            kept_ = kept;
            session_ = refl;
            lanes_ =
                subst (λ (ls : List Lane). LanesGrow s.outs ls (map seen new)) same (lanes_grow s.outs mid new more);
          };
    }

-- a node that stopped and began again
pub station_restarted : (t : Station) (n : NodeState) → session_in n ≡ restarted → n.kept ≡ t.node.kept
    → n.net ≡ t.node.net → n.me ≡ t.node.me → GoesOn stop t (record { node = n; lanes = t.lanes })
station_restarted t n session kept net me =
    record {
      net_ = net;
      me_ = me;
      kept_ = kept ∙ sym (append-nil t.node.kept);
      session_ = session;
      lanes_ = lanes_stay t.lanes;
    }

-- one that stopped in a step whose entry it kept
pub station_stopped : (t : Station) (input : Input) (s : Step) (taken n : NodeState)
    → step_at t.node input ≡ Ok (effect_in s taken) → taken.kept ≡ t.node.kept ++ option_to_list s.kept
    → taken.net ≡ t.node.net → taken.me ≡ t.node.me → session_in n ≡ restarted → n.kept ≡ taken.kept
    → n.net ≡ taken.net → n.me ≡ taken.me
    → HasStopped t input true s.kept (record { node = n; lanes = t.lanes })
unfolding cut_short
station_stopped t input s taken n due kept net me session same_kept same_net same_me =
    record {
      whole = effect_in s taken;
      due = due;
      made_ = refl;
      goes =
          record {
            net_ = same_net ∙ net;
            me_ = same_me ∙ me;
            kept_ = same_kept ∙ kept;
            session_ = session;
            lanes_ = lanes_stay t.lanes;
          };
    }

-- one that stopped in a step whose entry is lost: it is restored from what it held before
pub station_lost : (t : Station) (input : Input) (d : Effect) (n : NodeState) → step_at t.node input ≡ Ok d
    → IsAgain t.node.net t.node.me t.node.kept n
    → HasStopped t input false None (record { node = n; lanes = t.lanes })
unfolding cut_short
station_lost t input d n due again =
    record {
      whole = d;
      due = due;
      made_ = refl;
      goes =
          record {
            net_ = again.net_;
            me_ = again.me_;
            kept_ = again.kept_ ∙ sym (append-nil t.node.kept);
            session_ = again.session_;
            lanes_ = lanes_stay t.lanes;
          };
    }

-- a new one
pub station_new : (net : Net) (w : ℕ) (n : NodeState) (made : List raw.Lane) (count : ℕ) → IsAgain net w [] n
    → AreNew count made → count ≡ node_count net → IsNew net w (record { node = n; lanes = map seen made })
station_new net w n made count again new is =
    let all = lanes_seen net made (subst (λ (k : ℕ). AreNew k made) is new) in
    record { node_ = again; lane_count = all.0; lanes_ = all.1 }

-- one whose lane is marked
pub station_marked : (n : NodeState) (old new : List raw.Lane) (to k : ℕ)
    → ((l : raw.Lane) → slice_get old to ≡ Some l → IsMarked old to k l new)
    → IsMarkedTo (record { node = n; lanes = map seen old }) to k (record { node = n; lanes = map seen new })
station_marked n old new to k mark =
    record {
      node_ = refl;
      lanes_ = λ l e.
          let g = map_some seen (slice_get old to) l (sym (slice_get-map seen old to) ∙ e) in
          let m = mark g.0 g.1 in
          ap (map seen) m.1
          ∙ map_set seen old to m.0
          ∙ ap (slice_set (map seen old) to) (marked_seen g.0 m.0 l g.2 m.2 m.3);
    }
  where
    marked_seen : (g m : raw.Lane) (l : Lane) → seen g ≡ l → m.packets ≡ g.packets → m.reached ≡ max k g.reached
        → seen m ≡ record { packets = l.packets; reached = max k l.reached }
    marked_seen g m l same packets reached =
        let first : seen m ≡ record { packets = g.packets.items; reached = max k g.reached } =
        λ i. record { packets = (packets i).items; reached = reached i } in
        first ∙ ap (marked_lane k) same
