-- A round of the pair.
use Rattle.std.proofs.Common.{◌≡◌, ℕ, zero, suc, ◌<◌, ◌≤◌, Bool, true, false, ◌&&◌, ◌⊎◌, inl, inr, List, [], ◌∷◌}
use Rattle.std.proofs.Common.{length, refl, ap, sym, subst, ◌∙◌, arith, cond, ◌++◌}
use Rattle.std.proofs.lemmas.Bool.Decides.{eqb_tells}
use Rattle.std.specs.List.{AllByRecursion}
use Rattle.std.specs.Prelude.{Err, Ok, Result, eqb}
use Rattle.lemmas.proofs.Numbers.{eq_refused}
use Rattle.lemmas.proofs.Booleans.{contrary}
use Rattle.model.specs.Types.{Ack, Deliver, Mail, Net, Orders, Packet, Take, Turn, WorldStep}
use Rattle.model.specs.Everything.{everything}
use Rattle.model.specs.FreeSteps.{free_run, free_step}
use Rattle.model.specs.World.{StepRefused, World, or_as_before}
use Rattle.rest_laws.specs.AtRest.{pair, pair_begun, pair_round, pair_round_end}
use Rattle.rest_laws.specs.Leads.{next_packet}
use Rattle.rest_laws.specs.Rounds.{AreLinked, AreTaken, IsAmong, IsRound, is_of_round}
use Rattle.rest_laws.proofs.Chains.{or_rest}
use Rattle.rest_laws.proofs.Gains.{Outside, outside_run}

is_taken : Result World StepRefused → Bool
is_taken (Ok z) = true
is_taken (Err r) = false

are_taken : Net → World → List WorldStep → Bool
are_taken net x [] = true
are_taken net x (s ∷ steps) =
    is_taken (free_step net x s) && are_taken net (or_as_before x (free_step net x s)) steps

all_taken : (net : Net) (steps : List WorldStep) (x : World) → are_taken net x steps ≡ true
    → AreTaken net x steps (free_run net steps x)
unfolding are_taken is_taken free_run
all_taken net [] x h = refl
all_taken net (s ∷ steps) x h = go (free_step net x s) refl h (λ z k. all_taken net steps z k)
  where
    go : (r : Result World StepRefused) → free_step net x s ≡ r
        → (is_taken r && are_taken net (or_as_before x r) steps) ≡ true
        → ((z : World) → are_taken net z steps ≡ true → AreTaken net z steps (free_run net steps z))
        → (z : World) × (free_step net x s ≡ Ok z) × AreTaken net z steps (free_run net steps (or_as_before x r))
    go (Ok z) e k more = (z, e, more z k)
    go (Err r) e k more = cc

round_taken : are_taken pair pair_begun pair_round ≡ true
unfolding everything pair_begun are_taken is_taken
round_taken = refl

-- what the two sent
by_master : (b : ℕ) → length (pair_round_end.packets 0 b) ≡ length (cond (eqb 1 b) (Ack (Orders 1 0) 1 ∷ []) [])
unfolding everything pair_begun pair_round_end
by_master b = refl

by_agent : (b : ℕ) → length (pair_round_end.packets 1 b)
    ≡ length (cond (eqb 0 b) (Mail (Orders 1 0) 1 ∷ []) [] ++ [])
unfolding everything pair_begun pair_round_end
by_agent b = refl

before_0 : (b : ℕ) → length (pair_begun.packets 0 b) ≡ 0
unfolding everything pair_begun
before_0 b = refl

before_1 : (b : ℕ) → length (pair_begun.packets 1 b) ≡ 0
unfolding everything pair_begun
before_1 b = refl

none_where : (c : Bool) (p : Packet) → c ≡ false → length (cond c (p ∷ []) []) ≡ 0
none_where true p e = cc
none_where false p e = refl

none_then : (c : Bool) (p : Packet) → c ≡ false → length (cond c (p ∷ []) [] ++ []) ≡ 0
none_then true p e = cc
none_then false p e = refl

taken_all : AreTaken pair pair_begun pair_round pair_round_end
unfolding pair_round_end
taken_all = all_taken pair pair_round pair_begun round_taken

of_round : AllByRecursion (λ s. is_of_round s ≡ true) pair_round
of_round = (refl, (refl, (refl, (refl, tt))))

elsewhere : (a b : ℕ) → 2 ≤ a → length (pair_round_end.packets a b) ≡ length (pair_begun.packets a b)
elsewhere a b high =
    let o : Outside pair pair_begun pair_round_end =
    outside_run pair pair_round pair_begun pair_round_end of_round taken_all in
    ap length (o.packets a b high)

sent_where : (a b : ℕ)
    → (length (pair_round_end.packets a b) ≡ length (pair_begun.packets a b))
    ⊎ (((a ≡ 1) × (b ≡ 0)) ⊎ ((a ≡ 0) × (b ≡ 1)))
sent_where a b =
    elim (eqb_tells a 0) [
      | inl e ↦ elim (eqb_tells b 1) [
        | inl f ↦ inr (inr (e.1, f.1))
        | inr f ↦ inl (from_0 a b e.1 (λ k. f.1 (sym k)))
      ]
      | inr e ↦ elim (eqb_tells a 1) [
        | inl f ↦ elim (eqb_tells b 0) [
          | inl g ↦ inr (inl (f.1, g.1))
          | inr g ↦ inl (from_1 a b f.1 (λ k. g.1 (sym k)))
        ]
        | inr f ↦ inl (elsewhere a b (omega (arith, e.1, f.1)))
      ]
    ]
  where
    from_0 : (a b : ℕ) → a ≡ 0 → (1 ≡ b → ⊥)
        → length (pair_round_end.packets a b) ≡ length (pair_begun.packets a b)
    from_0 a b e f =
        subst (λ i. length (pair_round_end.packets i b) ≡ length (pair_begun.packets i b)) (sym e)
        (by_master b ∙ none_where (eqb 1 b) (Ack (Orders 1 0) 1) (eq_refused 1 b f) ∙ sym (before_0 b))

    from_1 : (a b : ℕ) → a ≡ 1 → (0 ≡ b → ⊥)
        → length (pair_round_end.packets a b) ≡ length (pair_begun.packets a b)
    from_1 a b e f =
        subst (λ i. length (pair_round_end.packets i b) ≡ length (pair_begun.packets i b)) (sym e)
        (by_agent b ∙ none_then (eqb 0 b) (Mail (Orders 1 0) 1) (eq_refused 0 b f) ∙ sym (before_1 b))

agent_sent : length (pair_round_end.packets 1 0) ≡ 1
unfolding everything pair_begun pair_round_end
agent_sent = refl

master_sent : length (pair_round_end.packets 0 1) ≡ 1
unfolding everything pair_begun pair_round_end
master_sent = refl

deliveries_there : (a b k : ℕ) → next_packet pair_begun a b ≤ k → k < next_packet pair_round_end a b
    → IsAmong (Deliver a b k) pair_round
deliveries_there a b k low high = go (sent_where a b)
  where
    go : (length (pair_round_end.packets a b) ≡ length (pair_begun.packets a b))
        ⊎ (((a ≡ 1) × (b ≡ 0)) ⊎ ((a ≡ 0) × (b ≡ 1)))
        → IsAmong (Deliver a b k) pair_round
    go (inl same) = absurd (omega (arith, low, high, same))
    go (inr (inl e)) =
        let one : k ≡ 1 = at_one a b e.0 e.1 low high in
        inr (inr (inl (rw (e.0, e.1, one) refl)))
      where
        at_one : (a b : ℕ) → a ≡ 1 → b ≡ 0 → next_packet pair_begun a b ≤ k → k < next_packet pair_round_end a b
            → k ≡ 1
        at_one a b e f l h =
            let h1 : k < next_packet pair_round_end 1 0 =
            subst (λ i. k < next_packet pair_round_end 1 i) f (subst (λ i. k < next_packet pair_round_end i b) e h) in
            omega (arith, l, h1, agent_sent)
    go (inr (inr e)) =
        let one : k ≡ 1 = at_one a b e.0 e.1 low high in
        inr (inr (inr (inl (rw (e.0, e.1, one) refl))))
      where
        at_one : (a b : ℕ) → a ≡ 0 → b ≡ 1 → next_packet pair_begun a b ≤ k → k < next_packet pair_round_end a b
            → k ≡ 1
        at_one a b e f l h =
            let h1 : k < next_packet pair_round_end 0 1 =
            subst (λ i. k < next_packet pair_round_end 0 i) f (subst (λ i. k < next_packet pair_round_end i b) e h) in
            omega (arith, l, h1, master_sent)

turns_there : (n : ℕ) → n < 2 → IsAmong (Take n (Turn 1)) pair_round
turns_there zero low = inl refl
turns_there (suc zero) low = inr (inl refl)
turns_there (suc (suc n)) low = absurd (omega (arith, low))

pub pair_is_round : IsRound pair (λ w. 1) pair_begun pair_round pair_round_end
pair_is_round =
    record {
      taken = taken_all;
      each = of_round;
      turns = turns_there;
      deliveries = deliveries_there;
    }

pub pair_linked : AreLinked pair pair_begun
unfolding everything pair_begun
pair_linked zero zero low near = absurd (contrary near refl)
pair_linked zero (suc zero) low near = (refl, refl)
pair_linked zero (suc (suc m)) low near = absurd (contrary near refl)
pair_linked (suc zero) zero low near = (refl, refl)
pair_linked (suc zero) (suc zero) low near = absurd (contrary near refl)
pair_linked (suc zero) (suc (suc m)) low near =
    absurd (contrary (or_rest (eqb 0 (suc (suc m))) false (eq_refused 0 (suc (suc m)) (λ e. omega (arith, e))) near) refl)
pair_linked (suc (suc n)) m low near = absurd (omega (arith, low))
