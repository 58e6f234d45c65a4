-- The second service: its node is made of the header, runs for a turn, and keeps nothing.
use Rattle.std.proofs.Common.{[], lit<, lit≤, take, ◌++◌, ◌≡◌, ◌≤◌, ◌∙◌, ◌∷◌, List, Some, ap, append-nil, arith, inl, inr, length, refl, subst, suc, sym, take-append-drop, true, zero, ℕ}
use Rattle.std.proofs.lemmas.List.{drop_all}
use Rattle.std.proofs.lemmas.List.Elements.{All-nil}
use Rattle.model.specs.Network.{node_count}
use Rattle.model.specs.Restore.{first_wrong}
use Rattle.model.specs.Types.{Net}
use Rattle.outside.specs.Calls.{LinkCalls}
use Rattle.outside.specs.Files.{Cut}
use Rattle.outside.specs.Kept.{Bodies}
use Rattle.outside.specs.Stops.{LeavesOnly}
use Rattle.message_file.specs.Files.{IsFileOf, kept_of}
use Rattle.message_file.specs.State.{IsOwn}
use Rattle.message_file.proofs.Beginning.{few_keep_nothing}
use Rattle.node_inputs.specs.Keeping.{IsLeftAtEnd, IsLeftWith, IsRefusal, IsWritten, bodies}
use Rattle.node_inputs.specs.Tellings.{Told}
use Rattle.node_inputs.specs.Traces.{Trace, arrivals, kept, readings, reports}
use Rattle.node_inputs.specs.declared.ends.NodeEnd.TheVariants.{NoMemory}
use Rattle.node_loop.specs.Runs.{running}
use Rattle.node_restart.specs.Stopping.{KeptSince}
use Rattle.node_service.specs.Serving.{HasRun, IsAttached, IsMade, LeftServing, Stands, begin_of}
use Rattle.service_nights.specs.Served.{HasServed}
use Rattle.worked_night.specs.Workload.{defs}
use Rattle.worked_night.proofs.Days.{net_is}
use Rattle.worked_night.proofs.Turns.{node_of}
use Rattle.worked_services.specs.Served.{found, header, rested, turn}
use Rattle.worked_services.proofs.Begun.{faults, left_since, may_leave, moment, no_jobs, no_links, seen, untold}
use Rattle.worked_services.proofs.Run.{its_run}

-- the header is left at each moment
cut_none : (was file : List ℕ) → was ≡ header → Cut 9 was file → file ≡ header
cut_none was file is cut =
    sym (take-append-drop 9 file)
    ∙ ap (λ (l : List ℕ). take 9 file ++ l) (drop_all 9 file (omega (arith, cut.no_longer, ap length is)))
    ∙ append-nil (take 9 file) ∙ cut.before ∙ ap (take 9) is

pub only_header : (t : ℕ) (file : List ℕ) → left_since rested t file → file ≡ header
only_header t file (inl last) = last
only_header t file (inr (le, inl cut)) = cut_none cut.0 file cut.1 cut.2
only_header t file (inr (le, inr (low, inl first))) = first
only_header t file (inr (le, inr (low, inr (none, was)))) = was

header_file : IsFileOf 1 header []
header_file = record {
  gate = 0;
  rest = [];
  closed = λ is. omega (arith, is);
  stands = refl;
  room = record { each = tt; all = lit< tt };
}

keeps_none : (file : List ℕ) → file ≡ header → kept_of file ≡ []
keeps_none file is = few_keep_nothing file (omega (arith, ap length is))

-- no event is one that is kept
none_of : {X : Type 0} (k : ℕ) → ◌≡◌ {A = List X} (take k []) []
none_of zero = refl
none_of (suc k) = refl

none_kept : (k : ℕ) → kept (take k turn) ≡ []
none_kept zero = refl
none_kept (suc zero) = refl
none_kept (suc (suc zero)) = refl
none_kept (suc (suc (suc k))) = ap kept (none_of k)

at_end_of : (k : ℕ) (left : Bodies) → left ≡ [] → IsLeftAtEnd (take k turn) (Some []) left
at_end_of k left none = (0, omega (arith, ap length (none_kept k)), omega arith, none)

with_of : (least k : ℕ) (left : Bodies) → least ≡ 0 → left ≡ [] → IsLeftWith least (take k turn) (Some []) left
with_of least k left low none = (0, omega (arith, low), omega arith, none)

leaves_header : (trace : Trace) → LeavesOnly moment (KeptSince left_since) found rested (LeftServing 1 (seen found) (may_leave found) [] trace)
leaves_header trace = record {
  later = lit≤ tt;
  each = λ left since. inl (since.0, inr (inl (only_header (moment found) since.0 since.1)), since.2);
  before = λ t left le since. inr (inl (since.0, inr (inl (only_header t since.0 since.1)), since.2));
}

made : IsMade defs 1 (seen found) (node_of 1 [])
unfolding first_wrong
made = record {
  net_ = sym net_is;
  few_ = subst (λ (net : Net). node_count net ≤ 256) (sym net_is) (lit≤ tt);
  me_ = refl;
  session_ = refl;
  holds = ([], inl header_file, record { are = record { read = refl; written = refl }; follow = refl });
}

stands : Stands seen faults moment may_leave left_since defs 1 [] turn found rested rested (λ k. rested)
stands = record {
  since = λ k. omega arith;
  until = λ k. omega arith;
  ordered = λ j k le. omega arith;
  keeps = λ k. (0, ap bodies (sym (none_kept k)));
  leaves = λ k left may. at_end_of k (kept_of left) (keeps_none left may);
  between = λ j k left le was. with_of _ k (kept_of left) (ap length (none_kept j)) (keeps_none left (only_header 3 left was));
  later = λ k left was. with_of _ 3 (kept_of left) (ap length (none_kept k)) (keeps_none left (only_header 3 left was));
  first = leaves_header [];
}

attaches : IsAttached seen faults moment may_leave left_since defs 1 [] found rested rested
attaches = record {
  since = lit≤ tt;
  until = lit≤ tt;
  keeps = (0, refl);
  leaves = λ left may. keeps_none left may;
  own = (([], header_file), λ left was. ([], subst (λ (l : List ℕ). IsFileOf 1 l []) (sym (only_header 3 left was)) header_file));
}

-- what its objects tell
abbrev begun : LinkCalls
begun = record {
  begun = Some (begin_of defs (node_of 1 []) true ∷ []);
  arrived = Some [];
  sent = Some [];
  replied = Some [];
  asked = Some [];
}

abbrev told : Told
told = record {
  link = record { begun = begun.begun; arrived = Some (arrivals turn); sent = Some []; replied = Some []; asked = Some [] };
  jobs = record { started = Some []; killed = Some []; reported = Some (reports turn) };
  clock = Some (readings turn);
  files = Some [];
}

run : HasRun seen faults moment may_leave left_since defs 1 1 NoMemory found rested untold told
run = record {
  start = node_of 1 [];
  made = made;
  begun = begun;
  ok = true;
  begins = record { begun = refl; arrived = refl; sent = refl; replied = refl; asked = refl };
  trace = turn;
  after = running (node_of 1 []);
  runs = its_run;
  tells = record {
    link = record { begun = refl; arrived = refl; sent = refl; replied = refl; asked = refl };
    jobs = record { started = refl; killed = refl; reported = refl };
    clock = refl;
    files = refl;
  };
  forced = λ is. absurd (no_refusal is);
  unforced = λ is. refl;
  keeps = (0, refl);
  cause = λ is. cc;
  later = lit≤ tt;
  any_moment = leaves_header turn;
  at_end = λ left may. at_end_of 3 (kept_of left) (keeps_none left may);
  own = λ t le own all file left. subst (IsOwn 1) (sym (only_header t file left)) own;
  full = λ is. cc;
  met = λ name is. cc;
  written = All-nil IsWritten;
  attached = rested;
  attaches = attaches;
  behind = λ left was. (0, omega arith, keeps_none left (only_header 3 left was));
  at_front = λ k. rested;
  stands = stands;
  unfailed = λ other left may. keeps_none left may;
  reads = λ left may. refl;
}
  where
    no_refusal : IsRefusal NoMemory → ⊥
    no_refusal (inl is) = cc
    no_refusal (inr is) = cc

pub second_serves : HasServed seen faults moment may_leave left_since defs 1 found [] turn (Some rested)
unfolding run
second_serves = record {
  turns = 1;
  why = NoMemory;
  new = rested;
  told = untold;
  now = told;
  run = run;
  file = header;
  reads = refl;
  holds = refl;
  count = 3;
  front = refl;
  leaves = record {
    file = header;
    reads = refl;
    its = inr (lit≤ tt, inl refl);
    rest = λ left may. inr (lit≤ tt, inl may);
  };
}
