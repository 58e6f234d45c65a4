-- The first cause that applies.
use Rattle.std.proofs.Common.{[], ℕ, ◌+◌, ◌<◌, ◌∙◌, ◌∷◌, ◌≡◌, ◌||◌, Bool, Err, List, Ok, Option, Result, Some, ap, arith}
use Rattle.std.proofs.Common.{false, filter_map, length, map, nat_le, nat_lt, option_map, refl, sym, true}
use Rattle.std.proofs.lemmas.Bool.Decides.{nat_tests}
use Rattle.std.specs.Prelude.{IfOk}
use Rattle.model.specs.Types.{Events, Net, NewPlan, StreamDoc, StreamDraft}
use Rattle.model.specs.Words.{below, first_of_these}
use Rattle.model.specs.Network.{node_count}
use Rattle.model.specs.History.{Seen, View}
use Rattle.model.specs.Catalogue.{members, stream}
use Rattle.model.specs.NewPlan.{are_jobs_too_many, are_numbers_spent, are_streams_too_many, carried_members, last_run}
use Rattle.model.specs.NewPlan.{Fresh, Named, doc_of, documents, fresh_from, fresh_of, jobs_in_drafts, last_job}
use Rattle.model.specs.NewPlan.{last_stream, named_doc, named_fresh, numbered, plan_of, seen_of}
use Rattle.model.specs.StepFaults as model
use Rattle.carry_forward.specs.Faults.{fault_of, plan_fault, room_fault, submit_fault}
use Rattle.carry_forward.specs.declared.faults.CarryFault.{CarryFault}
use Rattle.carry_forward.specs.declared.faults.CarryFault.TheVariants.{NumbersSpent, PlanFull, RunsSpent}

pub runs_first : (net : Net) (V : View) (drafts : List StreamDraft) → nat_le 4294967295 (last_run (V (Events 0))) ≡ true
    → plan_fault net V drafts ≡ Some RunsSpent
unfolding model.carry_fault
runs_first net V drafts h = rw h refl

pub numbers_next : (net : Net) (V : View) (drafts : List StreamDraft) → nat_le 4294967295 (last_run (V (Events 0))) ≡ false
    → are_numbers_spent V drafts ≡ true → plan_fault net V drafts ≡ Some NumbersSpent
unfolding model.carry_fault
numbers_next net V drafts h k = rw (h, k) refl

pub room_last : (net : Net) (V : View) (drafts : List StreamDraft) → nat_le 4294967295 (last_run (V (Events 0))) ≡ false
    → are_numbers_spent V drafts ≡ false → plan_fault net V drafts ≡ room_fault V (carried_members net V) drafts
unfolding model.carry_fault
room_last net V drafts h k =
    rw (h, k)
    (go (are_streams_too_many (carried_members net V) drafts) (are_jobs_too_many V (carried_members net V) drafts))
  where
    go : (s j : Bool)
        → option_map fault_of
        (first_of_these ((s, model.CarryFault.PlanFull 4096) ∷ (j, model.CarryFault.PlanFull 16384) ∷ []))
        ≡ first_of_these ((s, PlanFull 4096) ∷ (j, PlanFull 16384) ∷ [])
    go true j = refl
    go false true = refl
    go false false = refl

pub submit_numbers : (V : View) (draft : StreamDraft) → are_numbers_spent V (draft ∷ []) ≡ true
    → submit_fault V draft ≡ Some NumbersSpent
unfolding submit_fault
submit_numbers V draft h = rw h refl

pub submit_room : (V : View) (draft : StreamDraft) → are_numbers_spent V (draft ∷ []) ≡ false
    → submit_fault V draft ≡ room_fault V (members V) (draft ∷ [])
unfolding submit_fault
submit_room V draft h = rw h refl

-- the carried members, by another name of the network
pub carried_in : (net same_net : Net) (V : View) (carried : List ℕ) → same_net ≡ net
    → carried ≡ carried_members same_net V → carried ≡ carried_members net V
carried_in net same_net V carried same is = is ∙ ap (λ n. carried_members n V) same

-- a run below the last one
pub run_left : (n : ℕ) → n < 4294967295 → nat_le 4294967295 n ≡ false
run_left n h = grind (arith, nat_tests)

-- whether numbers are spent, by those of the catalogue
pub spent_so : (V : View) (drafts slice : List StreamDraft) (s j : ℕ) (b : Bool) → slice ≡ drafts → s ≡ last_stream V
    → j ≡ last_job V
    → b ≡ (nat_lt 4294967295 (s + length slice) || nat_lt 4294967295 (j + jobs_in_drafts slice))
    → are_numbers_spent V drafts ≡ b
unfolding are_numbers_spent
spent_so V drafts slice s j b same streams jobs is =
    sym
    (is
    ∙ (λ p. nat_lt 4294967295 (streams p + length (same p)) || nat_lt 4294967295 (jobs p + jobs_in_drafts (same p))))

-- what a plan's room says, where neither runs nor numbers are spent
pub plan_room : (net : Net) (V : View) (drafts slice : List StreamDraft) (carried : List ℕ) (full : Option CarryFault)
    → nat_le 4294967295 (last_run (V (Events 0))) ≡ false → are_numbers_spent V drafts ≡ false → slice ≡ drafts
    → carried ≡ carried_members net V → full ≡ room_fault V carried slice → plan_fault net V drafts ≡ full
plan_room net V drafts slice carried full run numbers same members_of is =
    room_last net V drafts run numbers ∙ sym (is ∙ (λ p. room_fault V (members_of p) (same p)))

-- and where a stream is submitted
pub stream_room : (V : View) (draft : StreamDraft) (slice : List StreamDraft) (earlier : List ℕ)
    (full : Option CarryFault) → are_numbers_spent V (draft ∷ []) ≡ false → slice ≡ draft ∷ [] → earlier ≡ members V
    → full ≡ room_fault V earlier slice → submit_fault V draft ≡ full
stream_room V draft slice earlier full numbers same members_of is =
    submit_room V draft numbers ∙ sym (is ∙ (λ p. room_fault V (members_of p) (same p)))

-- the documents of drafts, from their parts
pub documents_so : {E : Type 0} (V : View) (earlier : List ℕ) (drafts : List StreamDraft) (s j : ℕ)
    (fresh slice : List Fresh) (f e : List Named) (r : Result (List StreamDoc) E) → s ≡ last_stream V
    → j ≡ last_job V → fresh ≡ fresh_from (1 + s) (1 + j) drafts → slice ≡ fresh → f ≡ map named_fresh fresh
    → e ≡ map named_doc (filter_map (stream V) earlier) → IfOk r (λ docs. docs ≡ map (doc_of f e) slice)
    → IfOk r (λ docs. docs ≡ documents V earlier drafts)
unfolding documents fresh_of
documents_so V earlier drafts s j fresh slice f e (Err fault) streams jobs new same fs es is = tt
documents_so V earlier drafts s j fresh slice f e (Ok docs) streams jobs new same fs es is =
    let all : fresh ≡ fresh_from (1 + last_stream V) (1 + last_job V) drafts =
    new ∙ (λ p. fresh_from (1 + streams p) (1 + jobs p) drafts)
    in
    let fs2 : f ≡ map named_fresh (fresh_from (1 + last_stream V) (1 + last_job V) drafts) =
    fs ∙ ap (map named_fresh) all
    in
    is ∙ (λ p. map (doc_of (fs2 p) (es p)) ((same ∙ all) p))

-- the document of a submitted stream, from its parts
pub numbered_so : (V : View) (draft : StreamDraft) (s j : ℕ) (fresh : Fresh) (f e : List Named) (doc : StreamDoc)
    → s ≡ last_stream V → j ≡ last_job V → fresh ≡ (record { number = 1 + s; first_job = 1 + j; draft = draft })
    → f ≡ named_fresh fresh ∷ [] → e ≡ map named_doc (filter_map (stream V) (members V)) → doc ≡ doc_of f e fresh
    → doc ≡ numbered V draft
unfolding numbered
numbered_so V draft s j fresh f e doc streams jobs new fs es is =
    let all : fresh ≡ (record { number = 1 + last_stream V; first_job = 1 + last_job V; draft = draft }) =
    new ∙ (λ p. record { number = 1 + streams p; first_job = 1 + jobs p; draft = draft })
    in
    let fs2 : f ≡ named_fresh (record { number = 1 + last_stream V; first_job = 1 + last_job V; draft = draft }) ∷ [] =
    fs ∙ (λ p. named_fresh (all p) ∷ [])
    in
    is ∙ (λ p. doc_of (fs2 p) (es p) (all p))

-- the plan, from its parts
pub plan_so : (net : Net) (V : View) (drafts : List StreamDraft) (run : ℕ) (cut : Seen) (carried : List ℕ)
    (docs : List StreamDoc) → run ≡ last_run (V (Events 0)) → cut ≡ seen_of V (below (node_count net))
    → carried ≡ carried_members net V → docs ≡ documents V carried drafts
    → NewPlan (1 + run) cut carried docs ≡ plan_of net V drafts
unfolding plan_of
plan_so net V drafts run cut carried docs runs cuts members_of is =
    let all : docs ≡ documents V (carried_members net V) drafts = is ∙ (λ p. documents V (members_of p) drafts) in
    λ p. NewPlan (1 + runs p) (cuts p) (members_of p) (all p)
