-- A feed of a replay has few entries, so no place of it is spent.
use Rattle.std.proofs.Common.{◌≡◌, ◌≢◌, ◌∙◌, ℕ, ◌+◌, ◌≤◌, Bool, List, [], ◌∷◌, Option, None, Some, ap, arith, cond, false, length, map, refl, true}
use Rattle.std.proofs.lemmas.Bool.Decides.{nat_tests}
use Rattle.std.proofs.lemmas.List.{length-take}
use Rattle.std.specs.Bool.{then_some}
use Rattle.std.specs.Prelude.{Err, filter, nat_lt, option_map}
use Rattle.lemmas.proofs.Booleans.{contrary}
use Rattle.model.specs.Types.{Body, Entry, Events, Feed, Input, Local, Net, Orders, WorldStep}
use Rattle.model.specs.Equalities.{feed_eq}
use Rattle.model.specs.History.{View, list_of}
use Rattle.model.specs.Sessions.{Session}
use Rattle.model.specs.NewEntry.{accepts, event_of, makes, next_entry, own_entry}
use Rattle.model.specs.StepFaults.{StepFault, is_place_spent}
use Rattle.model.specs.World.{StepRefused, World, empty_world, run, step, view_at}
use Rattle.model_laws.proofs.Entries.{always_short}
use Rattle.model_laws.proofs.Restored.{accepted}
use Rattle.model_laws.proofs.Steps.{here}
use Rattle.refusal_laws.proofs.Faults.{Faulty, fault_tells, faulty}

-- a feed has some of the entries
pub feed_few : (f : Feed) (G : List Entry) → length (list_of G f) ≤ length G
unfolding list_of
feed_few f [] = omega arith
feed_few f (e ∷ G) = go (feed_eq f e.feed) (feed_few f G)
  where
    rest : List Entry
    rest = filter (λ (d : Entry). feed_eq f d.feed) G

    go : (b : Bool) → length (map (λ (d : Entry). d.body) (filter (λ (d : Entry). feed_eq f d.feed) G)) ≤ length G
        → length (map (λ (d : Entry). d.body) (cond b (e ∷ filter (λ (d : Entry). feed_eq f d.feed) G) (filter (λ (d : Entry). feed_eq f d.feed) G)))
        ≤ length (e ∷ G)
    go true h = omega (arith, h)
    go false h = omega (arith, h)

held_few : (net : Net) (steps : List WorldStep) (w : ℕ) (f : Feed)
    → length (view_at (run net steps empty_world) w f) ≤ 200000
held_few net steps w f =
    let x : World = run net steps empty_world in
    omega (
      arith,
      length-take (x.holdings w f) (list_of x.history f),
      feed_few f x.history,
      always_short net steps,
    )

module _ (u : Net) (w : ℕ) (V : View) (s : Session) (few : (f : Feed) → length (V f) ≤ 200000) where
  low : (f : Feed) → nat_lt 4294967295 (1 + length (V f)) ≡ false
  low f = let h : length (V f) ≤ 200000 = few f in grind (arith, nat_tests, h)

  made_low : (b : Option Body) → is_place_spent V (option_map (next_entry V (Events w)) b) ≡ false
  made_low None = refl
  made_low (Some b) = low (Events w)

  own_low : (l : Local) → is_place_spent V (own_entry u w V s l) ≡ false
  unfolding own_entry
  own_low (Local.Typed to c) = low (Orders w to)
  own_low (Local.Turn t) = made_low (event_of u w V s (Local.Turn t))
  own_low (Local.Linked v) = made_low (event_of u w V s (Local.Linked v))
  own_low (Local.Unlinked v) = made_low (event_of u w V s (Local.Unlinked v))
  own_low (Local.Started j) = made_low (event_of u w V s (Local.Started j))
  own_low (Local.StartFailed j) = made_low (event_of u w V s (Local.StartFailed j))
  own_low (Local.Ended j rc) = made_low (event_of u w V s (Local.Ended j rc))
  own_low (Local.Fulfil o i) = made_low (event_of u w V s (Local.Fulfil o i))
  own_low (Local.Next drafts) = made_low (event_of u w V s (Local.Next drafts))

  mail_low : (e : Entry) (b : Bool) → accepts w V e ≡ b → is_place_spent V (then_some b e) ≡ false
  mail_low e false h = refl
  mail_low e true h =
      let next = (accepted w V e e (ap (λ c. then_some c e) h)).1 in
      ap (nat_lt 4294967295) next ∙ low e.feed

  pub not_spent : (i : Input) → is_place_spent V (makes u w V s i) ≡ false
  unfolding makes
  not_spent (Input.Local l) = own_low l
  not_spent (Input.Mail from e) = mail_low e (accepts w V e) refl
  not_spent (Input.Ack from f n) = refl

pub no_place_spent : (net : Net) (steps : List WorldStep) (s : WorldStep)
    → step net (run net steps empty_world) s ≢ Err (StepRefused.Step StepFault.PlaceSpent)
no_place_spent net steps s e =
    let x : World = run net steps empty_world in
    let t : Faulty net x s StepFault.PlaceSpent = faulty net x s StepFault.PlaceSpent e in
    contrary
    (fault_tells (here net x t.node) t.node (view_at x t.node) (x.sessions t.node) t.input StepFault.PlaceSpent t.fault)
    (not_spent (here net x t.node) t.node (view_at x t.node) (x.sessions t.node) (held_few net steps t.node) t.input)
