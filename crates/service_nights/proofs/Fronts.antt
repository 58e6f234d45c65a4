-- What a trace was to keep up to the event behind a front, and what the front kept.
use Rattle.std.proofs.Common.{[], length, zero, suc, take, drop, take-append-drop, ◌+◌, ◌++◌, ◌≡◌, ◌≤◌, ◌∙◌, ◌∷◌, ◌⊎◌, ℕ, List, None, Option, Some, ap, append-nil, arith, inl, inr, refl, subst, sym}
use Rattle.std.proofs.lemmas.List.Elements.{filter_map-append}
use Rattle.std.specs.List.{AllByRecursion, cons_option}
use Rattle.std.specs.Option.{option_to_list}
use Rattle.std.specs.Prelude.{filter_map}
use Rattle.model.specs.Types.{Entry}
use Rattle.node_inputs.specs.Traces.{Event, Trace, kept, kept_by, refusals, tried, tried_by}
use Rattle.node_inputs.specs.declared.ends.NodeEnd.{NodeEnd}
use Rattle.network_runs.specs.Nights.{IsLeftAtStop}
use Rattle.lemmas.proofs.Lists.{all_left, all_middle}

-- a refusal ends the trace
abbrev pub EndsRefused : Trace → Type 0
EndsRefused trace = (front back : Trace) (e : Entry) (why : NodeEnd) → trace ≡ front ++ Event.Refuses e why ∷ back → back ≡ []

behind_one : (event : Event) (trace : Trace) → EndsRefused (event ∷ trace) → EndsRefused trace
behind_one event trace ends = λ front back e why split. ends (event ∷ front) back e why (ap (λ (t : Trace). event ∷ t) split)

-- what a front kept, and the entry that was in hand behind it or none
pub record IsFrontWith (front rest : Trace) (some : List Entry) : Type 0 where
  pub hand : Option Entry
  pub are : some ≡ kept front ++ option_to_list hand
  pub left_ : IsLeftAtStop front rest hand

none_in_hand : (front rest : Trace) (some : List Entry) → some ≡ kept front → IsFrontWith front rest some
none_in_hand front rest some same = record { hand = None; are = same ∙ sym (append-nil (kept front)); left_ = tt }

-- nothing of the trace is over
at_first : (trace : Trace) (n : ℕ) → n ≤ length (tried (take 1 trace)) → IsFrontWith [] trace (take n (tried (take 1 trace)))
at_first [] zero le = none_in_hand [] [] [] refl
at_first [] (suc n) le = absurd (omega (arith, le))
at_first (event ∷ more) n le = go (tried_by event) refl n le
  where
    go : (o : Option Entry) → tried_by event ≡ o → (n : ℕ) → n ≤ length (cons_option o [])
        → IsFrontWith [] (event ∷ more) (take n (tried (event ∷ [])))
    go None is zero le = none_in_hand [] (event ∷ more) [] refl
    go None is (suc n) le = absurd (omega (arith, le))
    go (Some e) is zero le = none_in_hand [] (event ∷ more) [] refl
    go (Some e) is (suc n) le = record {
      hand = Some e;
      are = ap (λ (o : Option Entry). take (suc n) (cons_option o [])) is ∙ ap (λ (l : List Entry). e ∷ l) (none_left n);
      left_ = inl (event, more, refl, is);
    }
      where
        none_left : (k : ℕ) → ◌≡◌ {A = List Entry} (take k []) []
        none_left zero = refl
        none_left (suc k) = refl

-- one event more in front
one_kept : (e : Entry) (front rest : Trace) (some : List Entry) → IsFrontWith front rest some
    → IsFrontWith (Event.Keeps e ∷ front) rest (e ∷ some)
one_kept e front rest some it = record {
  hand = it.hand;
  are = ap (λ (l : List Entry). e ∷ l) it.are;
  left_ = go it.hand it.left_;
}
  where
    go : (o : Option Entry) → IsLeftAtStop front rest o → IsLeftAtStop (Event.Keeps e ∷ front) rest o
    go None left = tt
    go (Some d) (inl left) = inl left
    go (Some d) (inr left) = inr left

one_other : (event : Event) (front rest : Trace) (some : List Entry) → kept (event ∷ front) ≡ kept front
    → refusals (event ∷ front) ≡ refusals front → IsFrontWith front rest some → IsFrontWith (event ∷ front) rest some
one_other event front rest some same quiet it = record {
  hand = it.hand;
  are = it.are ∙ ap (λ (l : List Entry). l ++ option_to_list it.hand) (sym same);
  left_ = go it.hand it.left_;
}
  where
    go : (o : Option Entry) → IsLeftAtStop front rest o → IsLeftAtStop (event ∷ front) rest o
    go None left = tt
    go (Some d) (inl left) = inl left
    go (Some d) (inr left) = inr (left.0, quiet ∙ left.1)

-- the front ends with a refusal
refused_last : (e : Entry) (why : NodeEnd) (k n : ℕ) (trace : Trace) → trace ≡ []
    → n ≤ length (tried (Event.Refuses e why ∷ take (suc k) trace))
    → IsFrontWith (Event.Refuses e why ∷ take k trace) (drop k trace) (take n (tried (Event.Refuses e why ∷ take (suc k) trace)))
refused_last e why k n trace none le =
    subst (λ (t : Trace). IsFrontWith (Event.Refuses e why ∷ take k t) (drop k t) (take n (tried (Event.Refuses e why ∷ take (suc k) t))))
    (sym none) (go k n (subst (λ (t : Trace). n ≤ length (tried (Event.Refuses e why ∷ take (suc k) t))) none le))
  where
    go : (k n : ℕ) → n ≤ length (e ∷ [])
        → IsFrontWith (Event.Refuses e why ∷ take k []) (drop k []) (take n (e ∷ []))
    go zero zero le = none_in_hand (Event.Refuses e why ∷ []) [] [] refl
    go zero (suc zero) le = record { hand = Some e; are = refl; left_ = inr (why, refl) }
    go zero (suc (suc n)) le = absurd (omega (arith, le))
    go (suc k) zero le = none_in_hand (Event.Refuses e why ∷ []) [] [] refl
    go (suc k) (suc zero) le = record { hand = Some e; are = refl; left_ = inr (why, refl) }
    go (suc k) (suc (suc n)) le = absurd (omega (arith, le))

-- Of what was to be kept up to the event behind a front, so much as the front kept at least: this is what it kept, with
-- the entry in hand or without.
pub front_with : (k : ℕ) (trace : Trace) (n : ℕ) → EndsRefused trace → length (kept (take k trace)) ≤ n
    → n ≤ length (tried (take (suc k) trace)) → IsFrontWith (take k trace) (drop k trace) (take n (tried (take (suc k) trace)))
front_with zero trace n ends low high = at_first trace n high
front_with (suc k) [] zero ends low high = none_in_hand [] [] [] refl
front_with (suc k) [] (suc n) ends low high = absurd (omega (arith, high))
front_with (suc k) (Event.Keeps e ∷ trace) zero ends low high = absurd (omega (arith, low))
front_with (suc k) (Event.Keeps e ∷ trace) (suc n) ends low high =
    one_kept e (take k trace) (drop k trace) (take n (tried (take (suc k) trace)))
    (front_with k trace n (behind_one (Event.Keeps e) trace ends) (omega (arith, low)) (omega (arith, high)))
front_with (suc k) (Event.Refuses e why ∷ trace) n ends low high = refused_last e why k n trace (ends [] trace e why refl) high
front_with (suc k) (Event.Reads t ∷ trace) n ends low high =
    one_other (Event.Reads t) (take k trace) (drop k trace) (take n (tried (take (suc k) trace))) refl refl
    (front_with k trace n (behind_one (Event.Reads t) trace ends) low high)
front_with (suc k) (Event.Comes a ∷ trace) n ends low high =
    one_other (Event.Comes a) (take k trace) (drop k trace) (take n (tried (take (suc k) trace))) refl refl
    (front_with k trace n (behind_one (Event.Comes a) trace ends) low high)
front_with (suc k) (Event.Reports r ∷ trace) n ends low high =
    one_other (Event.Reports r) (take k trace) (drop k trace) (take n (tried (take (suc k) trace))) refl refl
    (front_with k trace n (behind_one (Event.Reports r) trace ends) low high)
front_with (suc k) (Event.Looks p a ∷ trace) n ends low high =
    one_other (Event.Looks p a) (take k trace) (drop k trace) (take n (tried (take (suc k) trace))) refl refl
    (front_with k trace n (behind_one (Event.Looks p a) trace ends) low high)
front_with (suc k) (Event.Starts c ∷ trace) n ends low high =
    one_other (Event.Starts c) (take k trace) (drop k trace) (take n (tried (take (suc k) trace))) refl refl
    (front_with k trace n (behind_one (Event.Starts c) trace ends) low high)
front_with (suc k) (Event.Kills j m ∷ trace) n ends low high =
    one_other (Event.Kills j m) (take k trace) (drop k trace) (take n (tried (take (suc k) trace))) refl refl
    (front_with k trace n (behind_one (Event.Kills j m) trace ends) low high)
front_with (suc k) (Event.Sends c ∷ trace) n ends low high =
    one_other (Event.Sends c) (take k trace) (drop k trace) (take n (tried (take (suc k) trace))) refl refl
    (front_with k trace n (behind_one (Event.Sends c) trace ends) low high)
front_with (suc k) (Event.Replies c ∷ trace) n ends low high =
    one_other (Event.Replies c) (take k trace) (drop k trace) (take n (tried (take (suc k) trace))) refl refl
    (front_with k trace n (behind_one (Event.Replies c) trace ends) low high)
front_with (suc k) (Event.Asks c ∷ trace) n ends low high =
    one_other (Event.Asks c) (take k trace) (drop k trace) (take n (tried (take (suc k) trace))) refl refl
    (front_with k trace n (behind_one (Event.Asks c) trace ends) low high)

-- an entry that an event keeps, and one in hand at a stop, were to be kept
kept_is_tried : (event : Event) (e : Entry) → kept_by event ≡ Some e → tried_by event ≡ Some e
kept_is_tried (Event.Keeps d) e is = is
kept_is_tried (Event.Refuses d why) e is = cc
kept_is_tried (Event.Reads t) e is = cc
kept_is_tried (Event.Comes a) e is = cc
kept_is_tried (Event.Reports r) e is = cc
kept_is_tried (Event.Looks p a) e is = cc
kept_is_tried (Event.Starts c) e is = cc
kept_is_tried (Event.Kills j n) e is = cc
kept_is_tried (Event.Sends c) e is = cc
kept_is_tried (Event.Replies c) e is = cc
kept_is_tried (Event.Asks c) e is = cc

next_tried : (P : Entry → Type 0) (past more : Trace) (event : Event) (e : Entry) → tried_by event ≡ Some e
    → AllByRecursion P (tried (past ++ event ∷ more)) → P e
next_tried P past more event e is all =
    all_middle P (tried past) (tried more) e (subst (λ (l : List Entry). AllByRecursion P l) split all)
  where
    split : tried (past ++ event ∷ more) ≡ tried past ++ e ∷ tried more
    split =
        filter_map-append tried_by past (event ∷ more)
        ∙ ap (λ (o : Option Entry). tried past ++ cons_option o (tried more)) is

pub kept_holds : (P : Entry → Type 0) (past more : Trace) (event : Event) (e : Entry) → kept_by event ≡ Some e
    → AllByRecursion P (tried (past ++ event ∷ more)) → P e
kept_holds P past more event e is all = next_tried P past more event e (kept_is_tried event e is) all

refused_holds : (P : Entry → Type 0) (trace : Trace) (e : Entry) (why : NodeEnd) → refusals trace ≡ (e, why) ∷ []
    → AllByRecursion P (tried trace) → P e
refused_holds P [] e why is all = cc
refused_holds P (Event.Keeps d ∷ trace) e why is all = refused_holds P trace e why is all.1
refused_holds P (Event.Refuses d other ∷ trace) e why is all = subst P (first_same d e other why (refusals trace) is) all.0
  where
    first_same : (a b : Entry) (v w : NodeEnd) (more : List (Entry × NodeEnd)) → ◌≡◌ {A = List (Entry × NodeEnd)} ((a, v) ∷ more) ((b, w) ∷ []) → a ≡ b
    first_same a b v w more h = ap head h
      where
        head : List (Entry × NodeEnd) → Entry
        head [] = a
        head (p ∷ ps) = p.0
refused_holds P (Event.Reads t ∷ trace) e why is all = refused_holds P trace e why is all
refused_holds P (Event.Comes a ∷ trace) e why is all = refused_holds P trace e why is all
refused_holds P (Event.Reports r ∷ trace) e why is all = refused_holds P trace e why is all
refused_holds P (Event.Looks p a ∷ trace) e why is all = refused_holds P trace e why is all
refused_holds P (Event.Starts c ∷ trace) e why is all = refused_holds P trace e why is all
refused_holds P (Event.Kills j n ∷ trace) e why is all = refused_holds P trace e why is all
refused_holds P (Event.Sends c ∷ trace) e why is all = refused_holds P trace e why is all
refused_holds P (Event.Replies c ∷ trace) e why is all = refused_holds P trace e why is all
refused_holds P (Event.Asks c ∷ trace) e why is all = refused_holds P trace e why is all

pub in_hand_holds : (P : Entry → Type 0) (front rest : Trace) (e : Entry) → IsLeftAtStop front rest (Some e)
    → AllByRecursion P (tried (front ++ rest)) → P e
in_hand_holds P front rest e (inl left) all =
    next_tried P front left.1 left.0 e left.3 (subst (λ (t : Trace). AllByRecursion P (tried (front ++ t))) left.2 all)
in_hand_holds P front rest e (inr left) all =
    refused_holds P front e left.0 left.1
    (all_left P (tried front) (tried rest)
    (subst (λ (l : List Entry). AllByRecursion P l) (filter_map-append tried_by front rest) all))
