-- The steps of the night by computation, and what follows a step that gives nothing out.
use Rattle.std.proofs.Common.{[], codes, cond, ◌&&◌, ◌≡◌, ◌≢◌, ◌∙◌, ◌∷◌, ◌⊎◌, Bool, List, None, Ok, Some, ap, false, inl, inr, not, refl, subst, sym, true, ℕ}
use Rattle.std.proofs.Math.Path.{fun_ext}
use Rattle.std.proofs.lemmas.Bool.Decides.{eqb_tells}
use Rattle.std.specs.Ordering.{is_eq}
use Rattle.std.specs.declared.cmp.Ordering.TheVariants.{Equal, Greater, Less}
use Rattle.std.specs.Prelude.{◌==◌, ◌||◌, if◌then◌else◌, nat_lt}
use Rattle.model.specs.Everything.{everything}
use Rattle.model.specs.Network.{are_neighbours, node_count}
use Rattle.model.specs.Step.{Effect}
use Rattle.model.specs.Types.{Command, Entry, Events, Input, Launch, Linked, Mail, Next, Send, Turn}
use Rattle.model.specs.Words.{below, with_at}
use Rattle.mailman_core.specs.Mails.{is_up, unlinked}
use Rattle.agent_core.specs.Nodes.{NodeState, present_in, view_in}
use Rattle.agent_core.specs.Steps.{IsTaken, quiet}
use Rattle.agent_core.specs.declared.faults.Step.{Step}
use Rattle.file_watch.specs.Probes.{due_at, due_files, due_probes, next_probe}
use Rattle.recovery_watch.specs.Advice.{advice, needs_advice}
use Rattle.outside.specs.Calls.{Asked}
use Rattle.node_inputs.specs.Actions.{Action, Call, Each, If, Nothing}
use Rattle.node_inputs.specs.Inputs.{Follow, Give, LoseAll, Raise, RaiseNew, nothing_carried}
use Rattle.node_inputs.specs.Traces.{Event}
use Rattle.worked_night.specs.Happened.{launched, plan, released}
use Rattle.worked_night.specs.Workload.{draft, net}

-- a node with nothing live and no link
abbrev pub node_of : ℕ → List Entry → NodeState
node_of me kept = record { net = net; me = me; kept = kept; mail = unlinked; live = [] }

-- the master with its link, before the launch and behind it
abbrev pub linked : NodeState
linked = record {
  net = net;
  me = 0;
  kept = plan ∷ released ∷ [];
  mail = record { acked = []; up = 1 ∷ [] };
  live = [];
}

abbrev pub launching : NodeState
launching = record {
  net = net;
  me = 0;
  kept = plan ∷ released ∷ launched ∷ [];
  mail = record { acked = []; up = 1 ∷ [] };
  live = record { job = 1; number = 1; started = false } ∷ [];
}

abbrev pub keeps : Entry → Step
keeps e = record { kept = Some e; outs = [] }

abbrev pub launches : Step
launches = record {
  kept = Some launched;
  outs =
      Launch 1 1 (Command (codes "true"))
      ∷ Send 1 (Mail (Events 0) 1)
      ∷ Send 1 (Mail (Events 0) 2)
      ∷ Send 1 (Mail (Events 0) 3)
      ∷ [];
}

pub plans : IsTaken (node_of 0 []) (Input.Local (Next (draft ∷ []))) (keeps plan) (node_of 0 (plan ∷ []))
unfolding everything
plans = record { effect = refl; kept = refl; net_ = refl; me_ = refl }

pub releases : IsTaken (node_of 0 (plan ∷ [])) (Input.Local (Turn 100)) (keeps released) (node_of 0 (plan ∷ released ∷ []))
unfolding everything
releases = record { effect = refl; kept = refl; net_ = refl; me_ = refl }

-- the link of the one, and of no other
one_up : (y : ℕ) → (if y == 1 then true else false) ≡ (is_eq (cond (nat_lt y 1) Less (cond (y == 1) Equal Greater)) || false)
one_up y = go (eqb_tells y 1)
  where
    neither : (t : Bool) → false ≡ (is_eq (cond t Less Greater) || false)
    neither true = refl
    neither false = refl

    go : ((y == 1) ≡ true) × (y ≡ 1) ⊎ ((y == 1) ≡ false) × (y ≢ 1)
        → (if y == 1 then true else false) ≡ (is_eq (cond (nat_lt y 1) Less (cond (y == 1) Equal Greater)) || false)
    go (inl same) =
        subst (λ (z : ℕ). (if z == 1 then true else false) ≡ (is_eq (cond (nat_lt z 1) Less (cond (z == 1) Equal Greater)) || false))
        (sym same.1) refl
    go (inr other) =
        ap (λ (t : Bool). if t then true else false) other.0 ∙ neither (nat_lt y 1)
        ∙ sym (ap (λ (t : Bool). is_eq (cond (nat_lt y 1) Less (cond t Equal Greater)) || false) other.0)

links_same : with_at 1 true (λ (m : ℕ). false) ≡ is_up (record { acked = []; up = 1 ∷ [] })
links_same = fun_ext one_up

effect_with : (ℕ → Bool) → Effect
effect_with links = record { made = None; outs = []; session = record { acked = λ m f. 0; links = links; live = [] } }

pub links_up : IsTaken (node_of 0 (plan ∷ released ∷ [])) (Input.Local (Linked 1)) quiet linked
unfolding everything effect_with
links_up = record {
  effect = ap (λ (links : ℕ → Bool). Ok (effect_with links)) links_same;
  kept = refl;
  net_ = refl;
  me_ = refl;
}

pub launch_taken : IsTaken linked (Input.Local (Turn 100)) launches launching
unfolding everything
launch_taken = record { effect = refl; kept = refl; net_ = refl; me_ = refl }

pub plan_mailed : IsTaken (node_of 1 []) (Input.Mail 0 plan) (keeps plan) (node_of 1 (plan ∷ []))
unfolding everything
plan_mailed = record { effect = refl; kept = refl; net_ = refl; me_ = refl }

-- no file is looked for, and nothing is advised
pub no_probe_planned : next_probe (view_in (node_of 0 (plan ∷ []))) 0 None ≡ None
unfolding everything next_probe due_probes due_at due_files
no_probe_planned = refl

pub no_probe_linked : next_probe (view_in linked) 0 None ≡ None
unfolding everything next_probe due_probes due_at due_files
no_probe_linked = refl

pub no_probe_mailed : next_probe (view_in (node_of 1 (plan ∷ []))) 1 None ≡ None
unfolding everything next_probe due_probes due_at due_files
no_probe_mailed = refl

pub no_advice_planned : advice (view_in (node_of 0 (plan ∷ []))) 0 ≡ None
unfolding everything advice needs_advice
no_advice_planned = refl

pub no_advice_linked : advice (view_in linked) 0 ≡ None
unfolding everything advice needs_advice
no_advice_linked = refl

pub no_advice_mailed : advice (view_in (node_of 1 (plan ∷ []))) 1 ≡ None
unfolding everything advice needs_advice
no_advice_mailed = refl

-- nothing at each of a list
nothing_each : {S X : Type 0} (act : X → Action S) (xs : List X) (s : S) → ((x : X) → act x s [] None s) → Each act xs s [] None s
nothing_each act [] s each = (refl, refl, refl)
nothing_each act (x ∷ xs) s each =
    inl (record {
      front = [];
      back = [];
      middle = s;
      split = refl;
      begins = each x;
      goes_on = nothing_each act xs s each;
    })

-- a step that leaves the network as it is asks for no new link
not_both : (b : Bool) → (b && not b) ≡ false
not_both true = refl
not_both false = refl

raise_by : (b : Bool) (x : ℕ) (now : NodeState) → b ≡ false
    → If b (Call (Event.Asks (Asked.Raise x))) Nothing now [] None now
raise_by true x now e = cc
raise_by false x now e = (refl, refl, refl)

pub raises_none : (before now : NodeState) → present_in now ≡ present_in before → now.me ≡ before.me → Raise before now [] None now
raises_none before now same me =
    nothing_each (RaiseNew before now) (below (node_count now.net)) now
    (λ x. raise_by (are_neighbours (present_in now) now.me x && not (are_neighbours (present_in before) before.me x)) x now
    (ap (λ n. are_neighbours n now.me x && not (are_neighbours (present_in before) before.me x)) same
    ∙ ap (λ m. are_neighbours (present_in before) m x && not (are_neighbours (present_in before) before.me x)) me
    ∙ not_both (are_neighbours (present_in before) before.me x)))

loses_none : (now : NodeState) → LoseAll [] now [] None now
loses_none now = nothing_each _ (below (node_count now.net)) now (λ x. (refl, refl, refl))

gives_none : (now : NodeState) → Give [] now [] None now
gives_none now =
    inl (record {
      front = [];
      back = [];
      carried = nothing_carried;
      split = refl;
      carries = (refl, refl, refl);
      follows =
          inl (record {
            front = [];
            back = [];
            middle = now;
            split = refl;
            begins = (refl, refl, refl);
            goes_on = loses_none now;
          });
    })

-- nothing follows a step that gives nothing out
pub follows_none : (before now : NodeState) (e : Entry) → present_in now ≡ present_in before → now.me ≡ before.me
    → Follow before (keeps e) now [] None now
follows_none before now e same me =
    inl (record {
      front = [];
      back = [];
      middle = now;
      split = refl;
      begins = raises_none before now same me;
      goes_on = gives_none now;
    })

pub follows_quiet : (before now : NodeState) → present_in now ≡ present_in before → now.me ≡ before.me
    → Follow before quiet now [] None now
follows_quiet before now same me =
    inl (record {
      front = [];
      back = [];
      middle = now;
      split = refl;
      begins = raises_none before now same me;
      goes_on = gives_none now;
    })
