-- What a reached world holds names workstations of the network alone.
use Rattle.std.proofs.Common.{◌≡◌, ◌+◌, ℕ, Bool, true, false, ◌&&◌, cond, eqb, List, [], ◌∷◌, ◌++◌, length, take}
use Rattle.std.proofs.Common.{Option, Some, None, inl, inr, refl, ap, sym, subst, ◌∙◌}
use Rattle.std.specs.Prelude.{nat_lt}
use Rattle.std.specs.List.{AllByRecursion, list_all, list_any}
use Rattle.std.proofs.Math.Seq.{take-length}
use Rattle.std.proofs.lemmas.Bool.{and_from, and_parts, ltb-true}
use Rattle.model.specs.History.{list_of, maker}
use Rattle.model.specs.Invariant.{Invariant}
use Rattle.model.specs.Invariant as invariant
use Rattle.model.specs.Kept.{HasKept, kept_over}
use Rattle.model.specs.Network.{node_count}
use Rattle.model.specs.Restore.{first_wrong, first_wrong_from, follows_on}
use Rattle.model.specs.Sound.{is_launched, is_numbered_launch}
use Rattle.model.specs.Types.{Body, Entry, Events, Feed, Net, Orders, Start, WorldStep}
use Rattle.model.specs.Workstations.{ws_in_body, ws_in_feed}
use Rattle.model.specs.World.{World, empty_world, run}
use Rattle.model_laws.proofs.Feeds.{feed_cases}
use Rattle.model_laws.proofs.Inside.{AreIn, EntryIsIn, IsIn, all_in, are_in, list_in}
use Rattle.model_laws.proofs.Keeps.{always_invariant}
use Rattle.model_laws.proofs.KeptLists.{always_restored}
use Rattle.model_laws.proofs.Restored.{restored_means}
use Rattle.history_script.specs.Histories.{is_inside, is_start_inside}

-- Entries that restore a node.

is_right : (b : Bool) (o : Option ℕ) (i : ℕ) → cond b o (Some i) ≡ None → (b ≡ true) × (o ≡ None)
is_right true o i h = (refl, h)
is_right false o i h = absurd (cc)

module _ (net : Net) where
  entries_in : (before : List Entry) (i : ℕ) (kept : List Entry) → first_wrong_from net before i kept ≡ None
      → AllByRecursion (EntryIsIn net) kept
  entries_in before i [] h = tt
  entries_in before i (e ∷ kept) h =
      let parts = is_right (follows_on net before e) (first_wrong_from net (before ++ e ∷ []) (i + 1) kept) i h in
      let named = (and_parts (eqb e.place (1 + length (list_of before e.feed))) _ parts.0).1 in
      (are_in net (ws_in_feed e.feed ++ ws_in_body e.body) named, entries_in (before ++ e ∷ []) (i + 1) kept parts.1)

  kept_in : (kept : List Entry) → first_wrong net kept ≡ None → AllByRecursion (EntryIsIn net) kept
  unfolding first_wrong
  kept_in kept h = entries_in [] 0 kept h

  -- the bodies of a feed
  abbrev BodiesAreIn : Feed → List Body → Type 0
  BodiesAreIn f bodies = AllByRecursion (λ b. AreIn net (ws_in_feed f ++ ws_in_body b)) bodies

  -- Each list of a reached history is held by its maker.

  list_held : (x : World) (f : Feed) (kept : List Entry) → Invariant net x → HasKept net x (maker f) kept
      → list_of kept f ≡ list_of x.history f
  list_held x f kept inv has =
      has.holds_them f ∙ ap (λ n. take n (list_of x.history f)) (inv.own (maker f) f refl)
      ∙ take-length (list_of x.history f)

  lists_in : (steps : List WorldStep) (f : Feed) → IsIn net (maker f)
      → BodiesAreIn f (list_of (run net steps empty_world).history f)
  lists_in steps f low =
      let kept = kept_over net (maker f) steps empty_world in
      let has = always_restored net steps (maker f) (ltb-true (maker f) (node_count net) low) in
      let none = (restored_means net (maker f) kept has.is_restored).none_wrong in
      subst (BodiesAreIn f) (list_held (run net steps empty_world) f kept (always_invariant net steps) has)
      (list_in net kept f (kept_in kept none))

  -- All entries, by the lists of their feeds.

  abbrev MakersAreIn : List Entry → Type 0
  MakersAreIn G = AllByRecursion (λ (e : Entry). IsIn net (maker e.feed)) G

  maker_in : (f : Feed) → list_all (λ w. nat_lt w (node_count net)) (ws_in_feed f) ≡ true → IsIn net (maker f)
  maker_in (Events w) h = (and_parts (nat_lt w (node_count net)) true h).0
  maker_in (Orders a w) h = (and_parts (nat_lt a (node_count net)) (nat_lt w (node_count net) && true) h).0

  makers_in : (G : List Entry) → list_all (invariant.is_inside net) G ≡ true → MakersAreIn G
  makers_in [] h = tt
  makers_in (e ∷ G) h =
      let parts = and_parts (invariant.is_inside net e) (list_all (invariant.is_inside net) G) h in
      (maker_in e.feed parts.0, makers_in G parts.1)

  first_in : (e : Entry) (G : List Entry) → BodiesAreIn e.feed (list_of (e ∷ G) e.feed) → EntryIsIn net e
  unfolding list_of
  first_in e G h = elim (feed_cases e.feed e.feed) [ inl c ↦ (rw c.0 at h).0 | inr c ↦ absurd (c.1 refl) ]

  others_in : (e : Entry) (G : List Entry) (f : Feed) → BodiesAreIn f (list_of (e ∷ G) f) → BodiesAreIn f (list_of G f)
  unfolding list_of
  others_in e G f h = elim (feed_cases f e.feed) [ inl c ↦ (rw c.0 at h).1 | inr c ↦ rw c.0 at h ]

  all_entries_in : (G : List Entry) → ((f : Feed) → IsIn net (maker f) → BodiesAreIn f (list_of G f)) → MakersAreIn G
      → list_all (is_inside net) G ≡ true
  all_entries_in [] each makers = refl
  all_entries_in (e ∷ G) each makers =
      and_from (is_inside net e) (list_all (is_inside net) G)
      (all_in net (ws_in_feed e.feed ++ ws_in_body e.body) (first_in e G (each e.feed makers.0)))
      (all_entries_in G (λ f low. others_in e G f (each f low)) makers.1)

  pub history_inside : (steps : List WorldStep) → list_all (is_inside net) (run net steps empty_world).history ≡ true
  history_inside steps =
      all_entries_in (run net steps empty_world).history (lists_in steps)
      (makers_in (run net steps empty_world).history (always_invariant net steps).inside)

  -- Starts.

  some_in : (f : Feed) (p : Body → Bool) (G : List Entry) → MakersAreIn G → list_any p (list_of G f) ≡ true
      → IsIn net (maker f)
  unfolding list_of
  some_in f p [] makers h = absurd (cc)
  some_in f p (e ∷ G) makers h =
      elim (feed_cases f e.feed) [
        | inl c ↦ subst (λ g. IsIn net (maker g)) (sym c.1) makers.0
        | inr c ↦ some_in f p G makers.1 (rw c.0 at h)
      ]

  all_starts_in : (G : List Entry) (starts : List Start) → MakersAreIn G → list_all (is_launched G) starts ≡ true
      → list_all (is_start_inside net) starts ≡ true
  all_starts_in G [] makers h = refl
  all_starts_in G (s ∷ starts) makers h =
      let parts = and_parts (is_launched G s) (list_all (is_launched G) starts) h in
      and_from (is_start_inside net s) (list_all (is_start_inside net) starts)
      (some_in (Events s.ws) (is_numbered_launch s.job s.number) G makers parts.0)
      (all_starts_in G starts makers parts.1)

  pub starts_inside : (steps : List WorldStep)
      → list_all (is_start_inside net) (run net steps empty_world).starts ≡ true
  starts_inside steps =
      all_starts_in (run net steps empty_world).history (run net steps empty_world).starts
      (makers_in (run net steps empty_world).history (always_invariant net steps).inside)
      (always_invariant net steps).sound.started.launched
