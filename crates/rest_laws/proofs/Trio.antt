-- Three workstations have room for all that is left to do, and come to rest with it done.
use Rattle.std.proofs.Common.{◌≡◌, ℕ, [], ◌∷◌, zero, suc, ◌+◌, ◌<◌, ◌++◌, refl, true, false, arith, drop}
use Rattle.std.specs.Prelude.{pos}
use Rattle.std.specs.Option.{option_map_or}
use Rattle.lemmas.proofs.Booleans.{contrary}
use Rattle.model.specs.Types.{Ended, Events, Launched, Limit, Obeyed, Released, Started, StreamEnded}
use Rattle.model.specs.Words.{last_or}
use Rattle.model.specs.Network.{IsTree, are_neighbours, chain, hop, is_manager}
use Rattle.model.specs.Everything.{everything}
use Rattle.model.specs.History.{list_of}
use Rattle.model_laws.proofs.Keeps.{always_invariant}
use Rattle.rest_laws.specs.Left.{caps_of, deps_ahead, entries, job_left, jobs_ahead, left, left_of, orders_left}
use Rattle.rest_laws.specs.Left.{records_left, stream_left, streams_ahead}
use Rattle.rest_laws.specs.Rest.{HasDoneItsWork, IsAtRest, IsQuiet, net_at}
use Rattle.rest_laws.specs.Short.{answer_size, are_answers_short}
use Rattle.rest_laws.specs.ToRest.{AreAmong, ComesToRest, names_inside}
use Rattle.rest_laws.specs.Trio.{trio, trio_begun, trio_clocks, trio_later, trio_launched, trio_linked, trio_orders, trio_readings}
use Rattle.rest_laws.specs.Trio.{trio_told}
use Rattle.rest_laws.proofs.Done.{done}
use Rattle.rest_laws.proofs.Told.{told}

trio_hops : (w : ℕ) → 0 < w → w < 3 → option_map_or (is_manager trio) (hop trio w) false ≡ true
trio_hops zero low high = absurd (omega (arith, low))
trio_hops (suc zero) low high = refl
trio_hops (suc (suc zero)) low high = refl
trio_hops (suc (suc (suc w))) low high = absurd (omega (arith, high))

trio_ends : (w : ℕ) → w < 3 → last_or w (chain trio w) ≡ 0
trio_ends zero high = refl
trio_ends (suc zero) high = refl
trio_ends (suc (suc zero)) high = refl
trio_ends (suc (suc (suc w))) high = absurd (omega (arith, high))

pub trio_tree : IsTree trio
trio_tree = record { top = refl; managed = refl; hops = trio_hops; ends = trio_ends }

pub trio_names : names_inside trio trio_begun ≡ true
unfolding everything trio_begun names_inside
trio_names = refl

pub trio_short : are_answers_short trio trio_begun ≡ true
unfolding everything trio_begun are_answers_short answer_size
trio_short = refl

pub trio_few : entries trio trio_begun + left trio (caps_of trio trio_begun) trio_readings trio_begun < 4294967295
unfolding everything trio_begun caps_of deps_ahead streams_ahead jobs_ahead entries left left_of stream_left job_left
    orders_left records_left
trio_few = omega arith

trio_links : (n m : ℕ) → n < 3 → m < 3 → are_neighbours (net_at trio trio_later n) n m ≡ true
    → (trio_later.sessions n).links m ≡ true
unfolding everything trio_later
trio_links zero zero a b near = absurd (contrary near refl)
trio_links zero (suc zero) a b near = refl
trio_links zero (suc (suc zero)) a b near = absurd (contrary near refl)
trio_links (suc zero) zero a b near = refl
trio_links (suc zero) (suc zero) a b near = absurd (contrary near refl)
trio_links (suc zero) (suc (suc zero)) a b near = refl
trio_links (suc (suc zero)) zero a b near = absurd (contrary near refl)
trio_links (suc (suc zero)) (suc zero) a b near = refl
trio_links (suc (suc zero)) (suc (suc zero)) a b near = absurd (contrary near refl)
trio_links (suc (suc (suc n))) m a b near = absurd (omega (arith, a))
trio_links zero (suc (suc (suc m))) a b near = absurd (omega (arith, b))
trio_links (suc zero) (suc (suc (suc m))) a b near = absurd (omega (arith, b))
trio_links (suc (suc zero)) (suc (suc (suc m))) a b near = absurd (omega (arith, b))

master_quiet : IsQuiet trio trio_later 0 1
unfolding everything trio_later
master_quiet = refl

manager_quiet : IsQuiet trio trio_later 1 1
unfolding everything trio_later
manager_quiet = refl

agent_quiet : IsQuiet trio trio_later 2 1
unfolding everything trio_later
agent_quiet = refl

trio_quiet : (w : ℕ) → w < 3 → IsQuiet trio trio_later w 1
trio_quiet zero low = master_quiet
trio_quiet (suc zero) low = manager_quiet
trio_quiet (suc (suc zero)) low = agent_quiet
trio_quiet (suc (suc (suc w))) low = absurd (omega (arith, low))

pub trio_rests : IsAtRest trio (λ w. 1) trio_later
trio_rests = record { linked = trio_links; quiet = trio_quiet }

pub trio_busy : IsAtRest trio (λ w. 1) trio_begun → ⊥
unfolding everything trio_begun
trio_busy rest = contrary (rest.linked 0 1 (omega arith) (omega arith) refl) refl

pub trio_agent : list_of trio_later.history (Events 2)
    ≡ Released 1 ((0, 1) ∷ []) ∷ Launched 1 1 ((0, 1) ∷ (2, 1) ∷ []) ∷ Started 1 1 ∷ Ended 1 1 (pos 0) true
    ∷ StreamEnded 1 ((0, 1) ∷ (2, 4) ∷ []) ∷ []
unfolding everything trio_later
trio_agent = refl

pub trio_master : drop 1 (list_of trio_later.history (Events 0)) ≡ Obeyed 2 1 (Limit 5) ∷ []
unfolding everything trio_later
trio_master = refl

pub trio_known : trio_later.holdings 0 (Events 2) ≡ 5
unfolding everything trio_later
trio_known = refl

trio_among : (k : ℕ) → AreAmong trio_readings (trio_clocks k)
trio_among zero w = refl
trio_among (suc k) w = refl

pub trio_comes : ComesToRest trio trio_readings trio_clocks trio_begun
unfolding trio_begun
trio_comes =
    told trio trio_readings trio_clocks trio_begun trio_tree (always_invariant trio trio_orders) trio_names trio_short
    trio_few trio_among

pub trio_work : HasDoneItsWork trio (λ w. 1) trio_later
unfolding trio_later
trio_work =
    done trio (λ w. 1) trio_later trio_tree
    (always_invariant trio (trio_orders ++ (trio_linked ++ (trio_launched ++ trio_told)))) trio_rests
