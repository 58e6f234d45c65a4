-- What a body names, plans and replies, told part by part.
use Rattle.std.proofs.Common.{[], ℕ, ◌&&◌, ◌+◌, ◌++◌, ◌∙◌, ◌∷◌, ◌≡◌, Bool, List, None, Option, Some, ap, cond, false, length}
use Rattle.std.proofs.Common.{refl, subst, sym, true}
use Rattle.std.specs.Bool.{then_some}
use Rattle.std.specs.Prelude.{◌==◌, ◌||◌, option_and_then}
use Rattle.lemmas.proofs.Numbers.{eq_refused, number_itself}
use Rattle.lemmas.proofs.Booleans.{contrary, or_assoc, or_false, or_made_left, or_made_right}
use Rattle.model.specs.Types.{Body, Entry, Events, Feed, Orders, StreamDoc}
use Rattle.model.specs.Words.{has}
use Rattle.model.specs.History.{list_of}
use Rattle.model.specs.Catalogue.{docs_in}
use Rattle.owner_rows.specs.Subjects.{key_at, key_in}
use Rattle.counted_facts.specs.Places.{last_place, place_with, replied_at}
use Rattle.counted_facts.specs.Subjects.{carried_in, have_number, names, reply_in, says_reply}
use Rattle.counted_facts.specs.Timelines.{AreTimelines, HasOneMore, TellsPlace}
use Rattle.counted_facts.specs.declared.timelines.Timelines.{Timelines}
use Rattle.counted_facts.proofs.Placing.{place_more, quiet_place}
use Rattle.counted_facts.proofs.Steps.{all_told, grown, one_told}

-- some of these
pub fewer : (fact : ℕ → List Body → ℕ) (G : List Entry) (e : Entry) (w place : ℕ) (these some : ℕ → Bool)
    → ((n : ℕ) → some n ≡ true → these n ≡ true) → TellsPlace fact G e w place these
    → TellsPlace fact G e w place some
fewer fact G e w place these some are at =
    record { feed = at.feed; next = at.next; value = λ n h. at.value n (are n h) }

-- the documents, and what is carried
module _ (body : Body) (docs : List StreamDoc) (carried : List ℕ) (is_docs : docs ≡ docs_in body)
    (is_carried : carried ≡ carried_in body) where
  names_as : (m : ℕ) → names m body ≡ (have_number docs m || has carried m)
  names_as m =
      ap (λ (l : List StreamDoc). have_number l m || has (carried_in body) m) (sym is_docs)
      ∙ ap (λ (l : List ℕ). have_number docs m || has l m) (sym is_carried)

  pub docs_named : (m : ℕ) → have_number docs m ≡ true → names m body ≡ true
  docs_named m h = names_as m ∙ or_made_left (have_number docs m) (has carried m) h

  pub carried_named : (m : ℕ) → has carried m ≡ true → names m body ≡ true
  carried_named m h = names_as m ∙ or_made_right (have_number docs m) (has carried m) h

  pub both_named : (done : ℕ → Bool) (m : ℕ)
      → (done m || names m body) ≡ ((done m || have_number docs m) || has carried m)
  both_named done m =
      ap (λ (b : Bool). done m || b) (names_as m) ∙ sym (or_assoc (done m) (have_number docs m) (has carried m))

-- a plan
pub plan_number : (b : Bool) → b ≡ true → (m : ℕ) → (0 == m) ≡ true → (b && (0 == m)) ≡ true
plan_number true e m h = h
plan_number false e m h = cc

pub plan_named : (b : Bool) → b ≡ true → (done : ℕ → Bool) (m : ℕ) → (done m || (b && (0 == m))) ≡ (done m || (0 == m))
plan_named true e done m = refl
plan_named false e done m = cc

pub no_plan_named : (b : Bool) → b ≡ false → (done : ℕ → Bool) (m : ℕ) → (done m || (b && (0 == m))) ≡ done m
no_plan_named true e done m = cc
no_plan_named false e done m = or_false (done m)

-- a reply
no_reply : (o : Option (ℕ × Bool)) (f : Feed) (w : ℕ) → key_at o f ≡ None → Events w ≡ f → o ≡ None
no_reply None (Events v) w h here = refl
no_reply (Some r) (Events v) w h here = cc
no_reply o (Orders a v) w h here = cc

reply_feed : (o : Option (ℕ × Bool)) (f : Feed) (w : ℕ) (r : ℕ × Bool) → key_at o f ≡ Some (w, r) → Events w ≡ f
reply_feed None (Events v) w r h = cc
reply_feed (Some q) (Events v) w r h =
    let e : (v, q) ≡ (w, r) = cc in sym (ap (λ (k : ℕ × (ℕ × Bool)). Events k.0) e)
reply_feed o (Orders a v) w r h = cc

reply_said : (o : Option (ℕ × Bool)) (f : Feed) (w : ℕ) (r : ℕ × Bool) → key_at o f ≡ Some (w, r) → o ≡ Some r
reply_said None (Events v) w r h = cc
reply_said (Some q) (Events v) w r h =
    let e : (v, q) ≡ (w, r) = cc in ap (λ (k : ℕ × (ℕ × Bool)). Some k.1) e
reply_said o (Orders a v) w r h = cc

pub reply_none : (G : List Entry) (e : Entry) (t : Timelines ℕ) → key_in reply_in e ≡ None
    → AreTimelines replied_at G t → AreTimelines replied_at (G ++ e ∷ []) t
reply_none G e t none h =
    all_told replied_at G e (λ m. false) t h
    (λ w n here f. quiet_place says_reply (list_of G (Events w)) e.body n
    (ap (λ (o : Option (ℕ × Bool)). option_and_then (λ (r : ℕ × Bool). then_some (n == r.0) r.1) o)
    (no_reply (reply_in e.body) e.feed w none here)))

pub reply_one : (G : List Entry) (e : Entry) (w p m place value : ℕ) (yes_ : Bool) (old new : Timelines ℕ)
    → key_in reply_in e ≡ Some (w, (p, yes_)) → m ≡ p → value ≡ cond yes_ place 0
    → place ≡ length (list_of G e.feed) + 1 → HasOneMore (w, m) place value old new
    → AreTimelines replied_at G old → AreTimelines replied_at (G ++ e ∷ []) new
reply_one G e w p m place value yes_ old new key same is next more h =
    let here : Events w ≡ e.feed = reply_feed (reply_in e.body) e.feed w (p, yes_) key in
    let said : reply_in e.body ≡ Some (p, yes_) = reply_said (reply_in e.body) e.feed w (p, yes_) key in
    let says : (n : ℕ) → says_reply n e.body ≡ then_some (n == p) yes_ =
    λ n. ap (λ (o : Option (ℕ × Bool)). option_and_then (λ (r : ℕ × Bool). then_some (n == r.0) r.1) o) said in
    let at_w : place ≡ length (list_of G (Events w)) + 1 =
    next ∙ sym (ap (λ (f : Feed). length (list_of G f) + 1) here) in
    all_told replied_at G e (λ n. p == n) new
    (one_told replied_at G e (λ n. false) (λ n. p == n) w p place value old new h
    (subst (λ (k : ℕ). HasOneMore (w, k) place value old new) same more) here at_w
    (is ∙ ap (λ (k : ℕ). cond yes_ k 0) at_w
    ∙ sym (ap (λ (l : List Body). last_place (says_reply p) l) (grown replied_at G e w here)
    ∙ place_more (says_reply p) (list_of G (Events w)) e.body
    ∙ ap (λ (o : Option Bool).
    place_with o (length (list_of G (Events w)) + 1) (last_place (says_reply p) (list_of G (Events w))))
    (says p ∙ ap (λ (b : Bool). then_some b yes_) (number_itself p))))
    (number_itself p) (λ n other. eq_refused p n (λ f. other (sym f))))
    (λ v n there f. quiet_place says_reply (list_of G (Events v)) e.body n
    (says n ∙ ap (λ (b : Bool). then_some b yes_)
    (eq_refused n p (λ g. contrary (number_itself p) (subst (λ (k : ℕ). (p == k) ≡ false) g f)))))
