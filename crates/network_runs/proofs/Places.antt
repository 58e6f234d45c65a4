-- What a sound history says of the entry at one place: a launch, and a new plan.
use Rattle.std.proofs.Common.{[], ◌++◌, ◌≡◌, ◌∙◌, ◌∷◌, ℕ, List, ap, append_assoc, refl, subst, sym}
use Rattle.std.proofs.lemmas.List.{append-nil}
use Rattle.lemmas.proofs.Lists.{no_middle, same_head, same_tail}
use Rattle.model.specs.Types.{Body, Carry, Entry, Events, Feed, Launched, Net, NewPlan, Orders, StreamDoc}
use Rattle.model.specs.History.{Seen}
use Rattle.model.specs.Sound.{CarriesByTheOption, Each, EachFrom, IsCarried, IsRightLaunch, OfEvents, StandsOnItsPrefix}
use Rattle.network_runs.proofs.Reading.{entry_is}

each_from : (P : List Entry → Entry → Type 0) (before G front back : List Entry) (e : Entry) → EachFrom P before G
    → G ≡ front ++ e ∷ back → P (before ++ front) e
each_from P before [] front back e h s = absurd (no_middle front back e s)
each_from P before (d ∷ G) [] back e h s =
    subst (λ (c : Entry). P (before ++ []) c) (same_head s) (subst (λ (l : List Entry). P l d) (sym (append-nil before)) h.0)
each_from P before (d ∷ G) (c ∷ front) back e h s =
    subst (λ (l : List Entry). P l e)
    (append_assoc before (d ∷ []) front ∙ ap (λ (b : Entry). before ++ b ∷ front) (same_head s))
    (each_from P (before ++ d ∷ []) G front back e h.1 (same_tail s))

-- what holds of each entry and those before it holds of this one
pub each_at : (P : List Entry → Entry → Type 0) (G front back : List Entry) (e : Entry) → Each P G → G ≡ front ++ e ∷ back
    → P front e
each_at P G front back e h s = each_from P [] G front back e h s

pub launched_at : (net : Net) (G : List Entry) → Each (λ before e. OfEvents (StandsOnItsPrefix net before) e) G
    → (before behind : List Entry) (e : Entry) (w j n : ℕ) (seen : Seen) → G ≡ before ++ e ∷ behind → e.feed ≡ Events w
    → e.body ≡ Launched j n seen → IsRightLaunch net before w j n seen
launched_at net G right before behind e w j n seen split feed body =
    subst (λ (d : Entry). OfEvents (StandsOnItsPrefix net before) d)
    (entry_is e (Events w) e.place (Launched j n seen) feed refl body)
    (each_at (λ earlier d. OfEvents (StandsOnItsPrefix net earlier) d) G before behind e right split)

pub carried_at : (option : Carry) (G : List Entry) → Each (λ before e. CarriesByTheOption option before e.feed e.body) G
    → (before behind : List Entry) (e : Entry) (run : ℕ) (cut : Seen) (carried : List ℕ) (docs : List StreamDoc)
    → G ≡ before ++ e ∷ behind → e.body ≡ NewPlan run cut carried docs
    → (e.feed ≡ Events 0) × IsCarried option before run cut carried docs
carried_at option G right before behind e run cut carried docs split is =
    go e.feed refl
    (subst (λ (b : Body). CarriesByTheOption option before e.feed b) is
    (each_at (λ earlier d. CarriesByTheOption option earlier d.feed d.body) G before behind e right split))
  where
    go : (f : Feed) → e.feed ≡ f → CarriesByTheOption option before f (NewPlan run cut carried docs)
        → (e.feed ≡ Events 0) × IsCarried option before run cut carried docs
    go (Events w) its h = (its ∙ ap Events h.0, h.1)
    go (Orders a w) its h = absurd h
