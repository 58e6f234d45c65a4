-- The pair is a tree, and has come to rest with its order answered.
use Rattle.std.proofs.Common.{◌≡◌, ℕ, [], ◌∷◌, zero, suc, ◌<◌, true, false, refl, arith}
use Rattle.std.specs.Option.{option_map_or}
use Rattle.lemmas.proofs.Booleans.{contrary}
use Rattle.model.specs.Types.{Events, Mail, Orders}
use Rattle.model.specs.Words.{last_or}
use Rattle.model.specs.Network.{IsTree, are_neighbours, chain, hop, is_manager}
use Rattle.model.specs.Everything.{everything}
use Rattle.rest_laws.specs.Rest.{IsAtRest, IsQuiet, count_of, net_at}
use Rattle.rest_laws.specs.AtRest.{pair, pair_apart, pair_later, pair_one_end}

pair_hops : (w : ℕ) → 0 < w → w < 2 → option_map_or (is_manager pair) (hop pair w) false ≡ true
pair_hops zero low high = absurd (omega (arith, low))
pair_hops (suc zero) low high = refl
pair_hops (suc (suc w)) low high = absurd (omega (arith, high))

pair_ends : (w : ℕ) → w < 2 → last_or w (chain pair w) ≡ 0
pair_ends zero high = refl
pair_ends (suc zero) high = refl
pair_ends (suc (suc w)) high = absurd (omega (arith, high))

pub pair_tree : IsTree pair
pair_tree = record { top = refl; managed = refl; hops = pair_hops; ends = pair_ends }

pair_links : (n m : ℕ) → n < 2 → m < 2 → are_neighbours (net_at pair pair_later n) n m ≡ true
    → (pair_later.sessions n).links m ≡ true
unfolding everything pair_later
pair_links zero zero a b near = absurd (contrary near refl)
pair_links zero (suc zero) a b near = refl
pair_links (suc zero) zero a b near = refl
pair_links (suc zero) (suc zero) a b near = absurd (contrary near refl)
pair_links (suc (suc n)) m a b near = absurd (omega (arith, a))
pair_links zero (suc (suc m)) a b near = absurd (omega (arith, b))
pair_links (suc zero) (suc (suc m)) a b near = absurd (omega (arith, b))

master_quiet : IsQuiet pair pair_later 0 1
unfolding everything pair_later
master_quiet = refl

agent_quiet : IsQuiet pair pair_later 1 1
unfolding everything pair_later
agent_quiet = refl

pair_quiet : (w : ℕ) → w < 2 → IsQuiet pair pair_later w 1
pair_quiet zero low = master_quiet
pair_quiet (suc zero) low = agent_quiet
pair_quiet (suc (suc w)) low = absurd (omega (arith, low))

pub pair_rests : IsAtRest pair (λ w. 1) pair_later
pair_rests = record { linked = pair_links; quiet = pair_quiet }

pub pair_ordered : count_of pair_later (Orders 1 0) ≡ 1
unfolding everything pair_later
pair_ordered = refl

pub pair_answered : count_of pair_later (Events 0) ≡ 1
unfolding everything pair_later
pair_answered = refl

apart_quiet_0 : IsQuiet pair pair_apart 0 1
unfolding everything pair_apart
apart_quiet_0 = refl

apart_quiet_1 : IsQuiet pair pair_apart 1 1
unfolding everything pair_apart
apart_quiet_1 = refl

pub apart_quiet : (w : ℕ) → w < 2 → IsQuiet pair pair_apart w 1
apart_quiet zero low = apart_quiet_0
apart_quiet (suc zero) low = apart_quiet_1
apart_quiet (suc (suc w)) low = absurd (omega (arith, low))

pub apart_order : pair_apart.holdings 0 (Orders 1 0) < count_of pair_apart (Orders 1 0)
unfolding everything pair_apart
apart_order = omega arith

pub one_end_held : pair_one_end.holdings 0 (Orders 1 0) ≡ 1
unfolding everything pair_one_end
one_end_held = refl

pub one_end_sent : pair_one_end.packets 1 0
    ≡ Mail (Orders 1 0) 1 ∷ Mail (Orders 1 0) 1 ∷ Mail (Orders 1 0) 1 ∷ []
unfolding everything pair_one_end
one_end_sent = refl

pub one_end_known : (pair_one_end.sessions 1).acked 0 (Orders 1 0) ≡ 0
unfolding everything pair_one_end
one_end_known = refl
