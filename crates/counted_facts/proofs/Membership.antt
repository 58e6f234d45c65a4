-- Where bodies stand tells which streams are brought and named, and which prompts are answered.
use Rattle.std.proofs.Common.{[], ℕ, ◌&&◌, ◌+◌, ◌++◌, ◌∙◌, ◌∷◌, ◌≡◌, ◌≤◌, Bool, List, None, Option, Some, ap, arith, cond, false}
use Rattle.std.proofs.Common.{filter_map, is_some, map, nat_le, nat_lt, option_map, refl, sym, true}
use Rattle.std.proofs.lemmas.Bool.{le-ltb, lt-ltb}
use Rattle.std.specs.Bool.{then_some}
use Rattle.std.specs.List.{cons_option, list_any}
use Rattle.std.specs.Prelude.{◌==◌, ◌||◌, fold, unwrap_or}
use Rattle.lemmas.proofs.Booleans.{or_false, or_turned, true_or}
use Rattle.lemmas.proofs.Numbers.{le_refused, le_told}
use Rattle.model_laws.proofs.Lists.{has_append}
use Rattle.model.specs.Types.{Added, Body, NewPlan, Obeyed, ReplyGlobal, StreamDoc}
use Rattle.model.specs.Words.{has, is_yes, last_or}
use Rattle.model.specs.Catalogue.{members_with}
use Rattle.model.specs.Facts.{global_reply, global_reply_in}
use Rattle.counted_facts.specs.Facts.{is_named}
use Rattle.counted_facts.specs.Places.{brought_at, named_at, place_from, place_with, planned_at, replied_at}
use Rattle.counted_facts.specs.Subjects.{brings, have_number, says_named, says_planned, says_reply}

above : (k : ℕ) → nat_lt 0 (k + 1) ≡ true
above k = lt-ltb 0 (k + 1) (omega arith)

lt_told : (a b : ℕ) → a + 1 ≤ b → nat_lt a b ≡ true
lt_told a b h = lt-ltb a b (omega (arith, h))

ge_told : (a b : ℕ) → b ≤ a → nat_lt a b ≡ false
ge_told a b h = le-ltb a b h

-- a document that was brought
some_place : (test : Body → Bool) (passed found : ℕ) (events : List Body)
    → nat_lt 0 (place_from (λ b. then_some (test b) true) passed found events)
    ≡ (nat_lt 0 found || list_any test events)
some_place test passed found [] = sym (or_false (nat_lt 0 found))
some_place test passed found (b ∷ bs) =
    some_place test (passed + 1) (place_with (then_some (test b) true) (passed + 1) found) bs ∙ go (test b)
  where
    go : (a : Bool) → (nat_lt 0 (place_with (then_some a true) (passed + 1) found) || list_any test bs)
        ≡ (nat_lt 0 found || (a || list_any test bs))
    go true = ap (λ (c : Bool). c || list_any test bs) (above passed) ∙ true_or (nat_lt 0 found)
    go false = refl

pub brought_told : (s : ℕ) (events : List Body) → nat_lt 0 (brought_at s events) ≡ list_any (brings s) events
brought_told s events = some_place (brings s) 0 0 events

-- streams that are named
has_numbers : (docs : List StreamDoc) (s : ℕ) → has (map (λ (d : StreamDoc). d.no) docs) s ≡ have_number docs s
has_numbers [] s = refl
has_numbers (d ∷ docs) s = ap (λ (b : Bool). (d.no == s) || b) (has_numbers docs s)

within_place : (o : Option Bool) (k found : ℕ) → found ≤ k → place_with o (k + 1) found ≤ k + 1
within_place None k found h = omega (arith, h)
within_place (Some true) k found h = omega arith
within_place (Some false) k found h = omega arith

by_plan : (a : Bool) (k found : ℕ) → found ≤ k
    → a ≡ (nat_lt 0 (k + 1) && nat_le (k + 1) (place_with (then_some a true) (k + 1) found))
by_plan true k found h = rw (above k, le_told (k + 1) (k + 1) (omega arith)) refl
by_plan false k found h = rw (above k, le_refused (k + 1) found (omega (arith, h))) refl

by_addition : (acc : Option (List ℕ)) (s n k plan found : ℕ)
    → has (unwrap_or acc []) s ≡ (nat_lt 0 plan && nat_le plan found) → is_some acc ≡ nat_lt 0 plan → plan ≤ k
    → has (unwrap_or (option_map (λ (ms : List ℕ). ms ++ n ∷ []) acc) []) s
    ≡ (nat_lt 0 plan && nat_le plan (place_with (then_some (((n == s) || false) || false) true) (k + 1) found))
by_addition None s n k plan found e there less =
    ap (λ (b : Bool). b && nat_le plan (place_with (then_some (((n == s) || false) || false) true) (k + 1) found)) there
by_addition (Some ms) s n k plan found e there less = has_append ms (n ∷ []) s ∙ go (n == s)
  where
    go : (a : Bool) → (has ms s || (a || false))
        ≡ (nat_lt 0 plan && nat_le plan (place_with (then_some ((a || false) || false) true) (k + 1) found))
    go true = sym (true_or (has ms s))
        ∙ (rw (← there, le_told plan (k + 1) (omega (arith, less))) refl)
    go false = or_false (has ms s) ∙ e

named_law : (s : ℕ) (events : List Body) (acc : Option (List ℕ)) (k plan found : ℕ)
    → has (unwrap_or acc []) s ≡ (nat_lt 0 plan && nat_le plan found) → is_some acc ≡ nat_lt 0 plan → plan ≤ k
    → found ≤ k
    → has (unwrap_or (fold members_with acc events) []) s
    ≡ (nat_lt 0 (place_from (says_planned 0) k plan events)
    && nat_le (place_from (says_planned 0) k plan events) (place_from (says_named s) k found events))
named_law s [] acc k plan found e there p f = e
named_law s (NewPlan run cut carried docs ∷ bs) acc k plan found e there p f =
    named_law s bs (Some (carried ++ map (λ (d : StreamDoc). d.no) docs)) (k + 1) (k + 1)
    (place_with (then_some (have_number docs s || has carried s) true) (k + 1) found)
    (has_append carried (map (λ (d : StreamDoc). d.no) docs) s
    ∙ ap (λ (b : Bool). has carried s || b) (has_numbers docs s)
    ∙ or_turned (has carried s) (have_number docs s)
    ∙ by_plan (have_number docs s || has carried s) k found f)
    (sym (above k)) (omega arith)
    (within_place (then_some (have_number docs s || has carried s) true) k found f)
named_law s (Added a i doc ∷ bs) acc k plan found e there p f =
    named_law s bs (option_map (λ (ms : List ℕ). ms ++ doc.no ∷ []) acc) (k + 1) plan
    (place_with (then_some (((doc.no == s) || false) || false) true) (k + 1) found)
    (by_addition acc s doc.no k plan found e there p) (still acc ∙ there) (omega (arith, p))
    (within_place (then_some (((doc.no == s) || false) || false) true) k found f)
  where
    still : (o : Option (List ℕ)) → is_some (option_map (λ (ms : List ℕ). ms ++ doc.no ∷ []) o) ≡ is_some o
    still None = refl
    still (Some ms) = refl
named_law s (b ∷ bs) acc k plan found e there p f =
    named_law s bs acc (k + 1) plan found e there (omega (arith, p)) (omega (arith, f))

pub named_told : (s : ℕ) (events : List Body)
    → (nat_lt 0 (planned_at 0 events) && nat_le (planned_at 0 events) (named_at s events)) ≡ is_named s events
named_told s events = sym (named_law s events None 0 0 0 refl refl (omega arith) (omega arith))

-- prompts that are answered
by_reply : (yes_ : Bool) (k plan : ℕ) → plan ≤ k → yes_ ≡ nat_lt plan (cond yes_ (k + 1) 0)
by_reply true k plan h = sym (lt_told plan (k + 1) (omega (arith, h)))
by_reply false k plan h = sym (ge_told plan 0 (omega arith))

replied_law : (p : ℕ) (events : List Body) (d : Option Bool) (k plan found : ℕ) → is_yes d ≡ nat_lt plan found
    → plan ≤ k → found ≤ k
    → is_yes (last_or d (filter_map (global_reply_in p) events))
    ≡ nat_lt (place_from (says_planned 0) k plan events) (place_from (says_reply p) k found events)
replied_law p [] d k plan found e h f = e
replied_law p (NewPlan run cut carried docs ∷ bs) d k plan found e h f =
    replied_law p bs None (k + 1) (k + 1) found (sym (ge_told (k + 1) found (omega (arith, f)))) (omega arith)
    (omega (arith, f))
replied_law p (Obeyed a i (ReplyGlobal q yes_) ∷ bs) d k plan found e h f =
    go (p == q)
    (replied_law p bs (Some yes_) (k + 1) plan (cond yes_ (k + 1) 0) (by_reply yes_ k plan h) (omega (arith, h))
    (within_place (Some yes_) k found f))
    (replied_law p bs d (k + 1) plan found e (omega (arith, h)) (omega (arith, f)))
  where
    go : (b : Bool)
        → is_yes (last_or (Some yes_) (filter_map (global_reply_in p) bs))
        ≡ nat_lt (place_from (says_planned 0) (k + 1) plan bs) (place_from (says_reply p) (k + 1) (cond yes_ (k + 1) 0) bs)
        → is_yes (last_or d (filter_map (global_reply_in p) bs))
        ≡ nat_lt (place_from (says_planned 0) (k + 1) plan bs) (place_from (says_reply p) (k + 1) found bs)
        → is_yes (last_or d (cons_option (then_some b (Some yes_)) (filter_map (global_reply_in p) bs)))
        ≡ nat_lt (place_from (says_planned 0) (k + 1) plan bs)
        (place_from (says_reply p) (k + 1) (place_with (then_some b yes_) (k + 1) found) bs)
    go true here other = here
    go false here other = other
replied_law p (b ∷ bs) d k plan found e h f =
    replied_law p bs d (k + 1) plan found e (omega (arith, h)) (omega (arith, f))

pub replied_told : (p : ℕ) (events : List Body)
    → nat_lt (planned_at 0 events) (replied_at p events) ≡ is_yes (global_reply p events)
unfolding global_reply
replied_told p events = sym (replied_law p events None 0 0 0 refl (omega arith) (omega arith))
