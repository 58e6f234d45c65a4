-- How long an entry is that a turn makes, told by the order that it answers and by how many workstations there are.
use Rattle.std.proofs.Common.{◌≡◌, ℕ, ◌+◌, ◌-◌, ◌*◌, ◌<◌, ◌≤◌, true, List, [], ◌∷◌, length, map, refl}
use Rattle.std.proofs.Common.{subst, arith, Option, Some, None}
use Rattle.std.proofs.lemmas.Bool.Decides.{nat_tests}
use Rattle.std.proofs.lemmas.List.Sums.{sum_by-cons}
use Rattle.std.specs.List.{cons_option, enumerate_from}
use Rattle.std.specs.Prelude.{filter_map, nat_le, nat_lt, option_and_then, option_map, sum_by}
use Rattle.lemmas.proofs.Booleans.{and_left, and_right}
use Rattle.model.specs.Types.{Body, Cmd, Dep, DraftDep, Events, Follows, FollowsJob, FollowsStream, JobDraft}
use Rattle.model.specs.Types.{LiveJob, Net, Plain, StreamDraft, Submit}
use Rattle.model.specs.Network.{node_count}
use Rattle.model.specs.History.{Seen, View}
use Rattle.model.specs.Catalogue.{members, stream}
use Rattle.model.specs.Invariant.{ascends_from, counts_well}
use Rattle.model.specs.NewEntry.{next_entry}
use Rattle.model.specs.NewPlan.{Fresh, Named, doc_of, doc_of_job, last_job, last_stream, named_doc, named_fresh, numbered}
use Rattle.model.specs.NewPlan.{resolve_dep, resolve_job, resolve_stream}
use Rattle.model.specs.Sizes.{cmd_size, dep_size, draft_dep_size, entry_size, job_doc_size, job_draft_size, seen_size}
use Rattle.model.specs.Sizes.{stream_doc_size, stream_draft_size}
use Rattle.model.specs.Turn.{next_order}
use Rattle.model.specs.Workstations.{ws_in_body, ws_in_seen}
use Rattle.model_laws.proofs.Inside.{AreIn, IsIn}
use Rattle.model_laws.proofs.Turns.{TurnGives}
use Rattle.rest_laws.specs.Short.{answer_size}

-- counts of workstations that ascend are at most as many as these
seen_few : (N : Net) (from : ℕ) (s : Seen) → ascends_from from s ≡ true → AreIn N (ws_in_seen s)
    → length s ≤ node_count N - from
seen_few N from [] h inside = omega arith
seen_few N from (p ∷ s) h inside =
    omega (
      arith,
      above (and_left (nat_le from p.0) _ h),
      below inside.0,
      seen_few N (p.0 + 1) s (and_right (nat_lt 0 p.1) _ (and_right (nat_le from p.0) _ h)) inside.1,
    )
  where
    above : nat_le from p.0 ≡ true → from ≤ p.0
    above k = grind (arith, nat_tests)

    below : IsIn N p.0 → p.0 < node_count N
    below k = grind (arith, nat_tests)

sixes : (s : Seen) → sum_by (λ (p : ℕ × ℕ). 6) s ≡ 6 * length s
sixes [] = refl
sixes (p ∷ s) = omega (arith, sum_by-cons (λ (p : ℕ × ℕ). 6) p s, sixes s)

counts_short : (N : Net) (s : Seen) → ascends_from 0 s ≡ true → AreIn N (ws_in_seen s)
    → seen_size s ≤ 4 + 6 * node_count N
counts_short N s h inside = omega (arith, sixes s, seen_few N 0 s h inside)

-- a document has no longer dependencies than its draft, and 4 bytes more for each number
module _ (fresh earlier : List Named) where
  dep_short : (d : DraftDep) (r : Dep) → resolve_dep fresh earlier d ≡ Some r → dep_size r ≤ draft_dep_size d
  dep_short (Follows w name None) r e = go (resolve_stream fresh earlier w name) e
    where
      go : (o : Option Named) → option_map (λ (s : Named). FollowsStream s.number) o ≡ Some r
          → dep_size r ≤ draft_dep_size (Follows w name None)
      go None e = cc
      go (Some s) e = subst (λ r. dep_size r ≤ draft_dep_size (Follows w name None)) (same e) (omega arith)
        where
          same : Some (FollowsStream s.number) ≡ Some r → FollowsStream s.number ≡ r
          same e = cc
  dep_short (Follows w name (Some of_job)) r e =
      go (option_and_then (resolve_job of_job) (resolve_stream fresh earlier w name)) e
    where
      go : (o : Option ℕ) → option_map FollowsJob o ≡ Some r → dep_size r ≤ draft_dep_size (Follows w name (Some of_job))
      go None e = cc
      go (Some j) e = subst (λ r. dep_size r ≤ draft_dep_size (Follows w name (Some of_job))) (same e) (omega arith)
        where
          same : Some (FollowsJob j) ≡ Some r → FollowsJob j ≡ r
          same e = cc
  dep_short (Plain (FollowsJob j)) r e = cc
  dep_short (Plain (FollowsStream s)) r e = cc
  dep_short (Plain d) r e = subst (λ r. dep_size r ≤ dep_size d) (same e) (omega arith)
    where
      same : Some d ≡ Some r → d ≡ r
      same e = cc

  deps_short : (ds : List DraftDep)
      → sum_by dep_size (filter_map (resolve_dep fresh earlier) ds) ≤ sum_by draft_dep_size ds
  deps_short [] = omega arith
  deps_short (d ∷ ds) = go (resolve_dep fresh earlier d) refl (deps_short ds)
    where
      go : (o : Option Dep) → resolve_dep fresh earlier d ≡ o
          → sum_by dep_size (filter_map (resolve_dep fresh earlier) ds) ≤ sum_by draft_dep_size ds
          → sum_by dep_size (cons_option o (filter_map (resolve_dep fresh earlier) ds)) ≤ sum_by draft_dep_size (d ∷ ds)
      go None e low = omega (arith, sum_by-cons draft_dep_size d ds, low)
      go (Some r) e low =
          omega (
            arith,
            sum_by-cons dep_size r (filter_map (resolve_dep fresh earlier) ds),
            sum_by-cons draft_dep_size d ds,
            dep_short d r e,
            low,
          )

  job_short : (n : ℕ) (d : JobDraft) → job_doc_size (doc_of_job fresh earlier (n, d)) ≤ job_draft_size d + 4
  job_short n d = omega (arith, deps_short d.deps)

  jobs_short : (n : ℕ) (ds : List JobDraft)
      → sum_by job_doc_size (map (doc_of_job fresh earlier) (enumerate_from n ds))
      ≤ sum_by job_draft_size ds + 4 * length ds
  jobs_short n [] = omega arith
  jobs_short n (d ∷ ds) =
      omega (
        arith,
        sum_by-cons job_doc_size (doc_of_job fresh earlier (n, d))
            (map (doc_of_job fresh earlier) (enumerate_from (n + 1) ds)),
        sum_by-cons job_draft_size d ds,
        job_short n d,
        jobs_short (n + 1) ds,
      )

document_short : (V : View) (draft : StreamDraft)
    → stream_doc_size (numbered V draft) ≤ stream_draft_size draft + 4 + 4 * length draft.jobs
unfolding numbered
document_short V draft = go (named_fresh fresh ∷ []) (map named_doc (filter_map (stream V) (members V)))
  where
    fresh : Fresh
    fresh = record { number = 1 + last_stream V; first_job = 1 + last_job V; draft = draft }

    go : (ns earlier : List Named)
        → stream_doc_size (doc_of ns earlier (record { number = 1 + last_stream V; first_job = 1 + last_job V; draft = draft }))
        ≤ stream_draft_size draft + 4 + 4 * length draft.jobs
    go ns earlier =
        omega (arith, deps_short ns earlier draft.deps, jobs_short ns earlier (1 + last_job V) draft.jobs)

-- an order that is obeyed is no longer than its answer
obeyed_short : (c : Cmd) → 15 + cmd_size c ≤ answer_size c
unfolding answer_size
obeyed_short (Submit draft) = omega arith
obeyed_short c = omega arith

added_short : (draft : StreamDraft) → answer_size (Submit draft) ≤ 4194304
    → 19 + stream_draft_size draft + 4 * length draft.jobs ≤ 4194304
unfolding answer_size
added_short draft h = h

module _ (N : Net) (V : View) (w : ℕ) (live : List LiveJob) (t : ℕ) (few : 21 + 6 * node_count N ≤ 4194304)
    (answers : (a : ℕ) (c : Cmd) → next_order V w a ≡ Some c → answer_size c ≤ 4194304) where
  counted : (s : Seen) → ascends_from 0 s ≡ true → AreIn N (ws_in_seen s) → 17 + seen_size s ≤ 4194304
  counted s h inside = omega (arith, few, counts_short N s h inside)

  pub event_short : (b : Body) → TurnGives N V w live t b → counts_well b ≡ true → AreIn N (ws_in_body b)
      → entry_size (next_entry V (Events w) b) ≤ 4194304
  unfolding entry_size
  event_short b (TurnGives.clocked due) well inside = omega arith
  event_short b (TurnGives.lost j n e dead) well inside = omega arith
  event_short b (TurnGives.declined a c why e) well inside = omega arith
  event_short b (TurnGives.added a draft e v) well inside =
      omega (arith, added_short draft (answers a (Submit draft) e), document_short V draft)
  event_short b (TurnGives.obeyed a c e) well inside = omega (arith, answers a c e, obeyed_short c)
  event_short b (TurnGives.until o p u mine first is) well inside = omega arith
  event_short b (TurnGives.late o p mine first) well inside = omega arith
  event_short b (TurnGives.released s may) well inside = omega (arith, counted _ well inside)
  event_short b (TurnGives.ended s may) well inside = omega (arith, counted _ well inside)
  event_short b (TurnGives.launched j ready) well inside = omega (arith, counted _ well inside)
