-- What a node sees with one entry more.
use Rattle.std.proofs.Common.{◌≡◌, ◌<◌, ◌∷◌, ◌∙◌, ◌++◌, [], ℕ, Bool, List, None, Option, Some, ap, false, refl, subst, true}
use Rattle.std.proofs.Common.{inl, inr, sym}
use Rattle.std.proofs.lemmas.List.{append-nil}
use Rattle.std.specs.Option.{option_to_list}
use Rattle.std.specs.Prelude.{is_some, unwrap_or}
use Rattle.model.specs.Types.{Entry, Events, Feed, LiveJob, Net}
use Rattle.model.specs.Network.{node_count}
use Rattle.model.specs.History.{View, list_of, view_of, view_with}
use Rattle.model.specs.PresentNet.{present_net}
use Rattle.ready_index.specs.declared.index.Index.{Index}
use Rattle.mailman_core.specs.Listed.{AreListed}
use Rattle.mailman_core.proofs.Listing.{no_rows}
use Rattle.agent_core.specs.Standing.{Idles, IsStanding, Tracks}
use Rattle.model_laws.proofs.Feeds.{feed_cases, pushed_cases}
use Rattle.model_laws.proofs.PresentNets.{by_one, one_count}

-- switches leave the number of workstations
pub count_same : (net : Net) (V : View) → node_count (present_net net V) ≡ node_count net
count_same net V = one_count net (present_net net V) (by_one net (V (Events 0)))

pub present_inside : (net : Net) (V : View) (me : ℕ) → me < node_count net → me < node_count (present_net net V)
present_inside net V me h = subst (λ (n : ℕ). me < n) (sym (count_same net V)) h

pub standing_inside : (net present : Net) (me : ℕ) (kept : List Entry) (index : Option Index) (live : List LiveJob)
    (idle_until : Option ℕ) → IsStanding net present me kept index live idle_until → me < node_count present
standing_inside net present me kept index live idle_until h =
    subst (λ (n : Net). me < node_count n) (sym h.here) (present_inside net (view_of kept) me h.inside)

-- the list of a feed with one entry more
pub list_next : (kept : List Entry) (e : Entry) (f : Feed)
    → list_of (kept ++ e ∷ []) f ≡ view_with (view_of kept) (Some e) f
unfolding view_with
list_next kept e f =
    elim (feed_cases e.feed f) [
      | inl c ↦ elim (pushed_cases kept e f) [
        | inl d ↦ d.1 ∙ sym (rw c.0 refl)
        | inr d ↦ absurd (d.0 (sym c.1))
      ]
      | inr c ↦ elim (pushed_cases kept e f) [
        | inl d ↦ absurd (c.1 (sym d.0))
        | inr d ↦ d.1 ∙ sym (rw c.0 refl)
      ]
    ]

-- so is the view
pub view_next : (kept : List Entry) (e : Entry) → view_of (kept ++ e ∷ []) ≡ view_with (view_of kept) (Some e)
view_next kept e = λ i f. list_next kept e f i

same_none : (V : View) → V ≡ view_with V None
unfolding view_with
same_none V = λ i f. V f

-- whether an entry is kept or not
pub view_later : (kept : List Entry) (made : Option Entry)
    → view_of (kept ++ option_to_list made) ≡ view_with (view_of kept) made
view_later kept None = ap view_of (append-nil kept) ∙ same_none (view_of kept)
view_later kept (Some e) = view_next kept e

-- what a node keeps beside its entries, one entry further
pub standing_next : (net present next : Net) (me : ℕ) (kept later : List Entry) (e : Entry) (index after : Option Index)
    (switched : Option Net) (live : List LiveJob) (idle_until : Option ℕ)
    → IsStanding net present me kept index live idle_until → later ≡ kept ++ e ∷ []
    → ((defined : Net) (V : View) → present ≡ present_net defined V
    → unwrap_or switched present ≡ present_net defined (view_with V (Some e)))
    → next ≡ unwrap_or switched present → Tracks after later me → IsStanding net next me later after live None
standing_next net present next me kept later e index after switched live idle_until h k s n t =
    record {
      inside = h.inside;
      here =
          n ∙ s net (view_of kept) h.here
          ∙ ap (present_net net) (sym (ap view_of k ∙ view_next kept e));
      tracks = t;
      idles = tt;
    }

-- with another index of the same entries
pub standing_anew : (net present : Net) (me : ℕ) (kept : List Entry) (index after : Option Index)
    (live : List LiveJob) (idle_until : Option ℕ) → IsStanding net present me kept index live idle_until
    → Tracks after kept me → IsStanding net present me kept after live idle_until
standing_anew net present me kept index after live idle_until h t =
    record { inside = h.inside; here = h.here; tracks = t; idles = h.idles }

-- with other live launches, and no reading of an idle turn
pub standing_awake : (net present : Net) (me : ℕ) (kept : List Entry) (index : Option Index) (live later : List LiveJob)
    (idle_until : Option ℕ) → IsStanding net present me kept index live idle_until
    → IsStanding net present me kept index later None
standing_awake net present me kept index live later idle_until h =
    record { inside = h.inside; here = h.here; tracks = h.tracks; idles = tt }

-- after a turn that kept nothing
pub standing_idle : (net present : Net) (me : ℕ) (kept : List Entry) (index : Option Index) (live : List LiveJob)
    (idle_until : Option ℕ) (t : ℕ) → IsStanding net present me kept index live idle_until → Idles net me kept live t
    → IsStanding net present me kept index live (Some t)
standing_idle net present me kept index live idle_until t h k =
    record { inside = h.inside; here = h.here; tracks = h.tracks; idles = k }

-- the feeds that were listed, one entry further
pub listed_next : (present next : Net) (me : ℕ) (kept later : List Entry) (e : Entry) (switched : Option Net)
    (is_switched : Bool) (old new : List (Option (List ℕ))) → later ≡ kept ++ e ∷ [] → next ≡ unwrap_or switched present
    → is_switched ≡ is_some switched
    → (is_switched ≡ false → (net : Net) (held : List Entry) (n : ℕ) → AreListed net (view_of held) n old
    → AreListed net (view_of (held ++ e ∷ [])) n new)
    → (is_switched ≡ true → new ≡ []) → AreListed present (view_of kept) me old → AreListed next (view_of later) me new
listed_next present next me kept later e None b old new k n is stay gone h =
    subst (λ (net : Net). AreListed net (view_of later) me new) (sym n)
    (subst (λ (l : List Entry). AreListed present (view_of l) me new) (sym k) (stay is present kept me h))
listed_next present next me kept later e (Some net) b old new k n is stay gone h =
    no_rows next (view_of later) me new (gone is)
