-- Feeds of events among which are all that go to a neighbour.
use Rattle.std.proofs.Common.{◌≡◌, ◌⊎◌, ◌∷◌, ◌∙◌, ◌+◌, ◌<◌, ◌≤◌, [], ℕ, Bool, List, None, Option, Some, ap, append-nil, arith, drop, false, get_or}
use Rattle.std.proofs.Common.{inl, inr, length, length-append, map, refl, subst, sym}
use Rattle.std.proofs.lemmas.Bool.{lt-ltb}
use Rattle.std.proofs.lemmas.List.{map-append}
use Rattle.std.proofs.lemmas.List.Elements.{filter-append}
use Rattle.std.specs.List.{AllByRecursion, list_all}
use Rattle.std.specs.Prelude.{◌++◌, IfSome, IsTrue, filter, flat_map, nat_lt, slice_get}
use Rattle.lemmas.proofs.Lists.{all_append, drop_here, found_within, get_in_front, get_last, got_below}
use Rattle.lemmas.proofs.Options.{none_some, some_same}
use Rattle.lemmas.proofs.Numbers.{below_or_not}
use Rattle.model_laws.proofs.Numbers.{below_more}
use Rattle.model.specs.Types.{Events, Feed, Net}
use Rattle.model.specs.Words.{below}
use Rattle.model.specs.Network.{node_count}
use Rattle.model.specs.History.{Holding, View}
use Rattle.model.specs.Forwarding.{forwards, places_beyond}
use Rattle.mailman_core.specs.Listed.{AreListed, IsListed}
use Rattle.mailman_core.specs.Sends.{unsent}
use Rattle.mailman_core.proofs.Unsent.{unsent_append}

-- the events of the next workstation may go this way, or do not
one_further : (q : Feed → Bool) (w : ℕ)
    → filter q (map Events (below w)) ++ filter q (Events w ∷ []) ≡ filter q (map Events (below (w + 1)))
one_further q w =
    sym (filter-append q (map Events (below w)) (Events w ∷ []))
    ∙ ap (filter q) (sym (map-append Events (below w) (w ∷ [])))
    ∙ ap (λ (l : List ℕ). filter q (map Events l)) (sym (below_more w))

pub listed_more : (q : Feed → Bool) (ws : List ℕ) (w : ℕ)
    → filter q (map Events ws) ≡ filter q (map Events (below w))
    → filter q (map Events (ws ++ w ∷ [])) ≡ filter q (map Events (below (w + 1)))
listed_more q ws w same =
    ap (filter q) (map-append Events ws (w ∷ []))
    ∙ filter-append q (map Events ws) (Events w ∷ [])
    ∙ ap (λ (l : List Feed). l ++ filter q (Events w ∷ [])) same
    ∙ one_further q w

left_out : (q : Feed → Bool) (f : Feed) → q f ≡ false → filter q (f ∷ []) ≡ []
left_out q f e = rw e refl

pub listed_less : (q : Feed → Bool) (ws : List ℕ) (w : ℕ) → q (Events w) ≡ false
    → filter q (map Events ws) ≡ filter q (map Events (below w))
    → filter q (map Events ws) ≡ filter q (map Events (below (w + 1)))
listed_less q ws w none same =
    same
    ∙ sym (append-nil (filter q (map Events (below w))))
    ∙ ap (λ (l : List Feed). filter q (map Events (below w)) ++ l) (sym (left_out q (Events w) none))
    ∙ one_further q w

pub inside_more : (n : ℕ) (ws : List ℕ) (w : ℕ) → AllByRecursion (λ (u : ℕ). u < n) ws → w < n
    → AllByRecursion (λ (u : ℕ). u < n) (ws ++ w ∷ [])
inside_more n ws w all h = all_append (λ (u : ℕ). u < n) ws (w ∷ []) all (h, tt)

-- one row more
last_row : (net : Net) (V : View) (n m : ℕ) (row : Option (List ℕ)) (ws : List ℕ) → IfSome row (IsListed net V n m)
    → row ≡ Some ws → IsListed net V n m ws
last_row net V n m None ws h e = absurd (none_some e)
last_row net V n m (Some vs) ws h e = subst (IsListed net V n m) (some_same vs ws e) h

pub rows_more : (net : Net) (V : View) (n w : ℕ) (rows : List (Option (List ℕ))) (row : Option (List ℕ))
    → length rows ≡ w → AreListed net V n rows → IfSome row (IsListed net V n w) → AreListed net V n (rows ++ row ∷ [])
rows_more net V n w rows row count are one m ws e = go (below_or_not m (length rows))
  where
    go : ((m < length rows) ⊎ (length rows ≤ m)) → IsListed net V n m ws
    go (inl low) =
        let here = got_below rows m low in
        are m ws (here.1 ∙ sym (get_in_front rows (row ∷ []) m here.0 here.1) ∙ e)
    go (inr high) =
        let last : m ≡ w =
        omega (arith, high, count, found_within (rows ++ row ∷ []) m (Some ws) e, length-append rows (row ∷ [])) in
        let same : row ≡ Some ws =
        some_same row (Some ws)
        (sym (get_last rows row) ∙ ap (slice_get (rows ++ row ∷ [])) (count ∙ sym last) ∙ e) in
        subst (λ (k : ℕ). IsListed net V n k ws) (sym last) (last_row net V n w row ws one same)

-- of listed events the next one, and those behind it
pub unsent_here : (net : Net) (V : View) (n m : ℕ) (acked : Holding) (ws : List ℕ) (i w : ℕ) → i < length ws
    → w ≡ get_or ws i w
    → unsent net V n m acked (map Events (drop i ws))
    ≡ unsent net V n m acked (Events w ∷ []) ++ unsent net V n m acked (map Events (drop (i + 1) ws))
unsent_here net V n m acked ws i w low is =
    ap (λ (l : List ℕ). unsent net V n m acked (map Events l)) (drop_here ws i w low is)
    ∙ unsent_append net V n m acked (Events w ∷ []) (map Events (drop (i + 1) ws))

pub unsent_same : (net : Net) (V : View) (n m : ℕ) (acked : Holding) (ws : List ℕ) → IsListed net V n m ws
    → unsent net V n m acked (map Events ws) ≡ unsent net V n m acked (map Events (below (node_count net)))
unsent_same net V n m acked ws h = ap (flat_map (places_beyond V acked)) h.same

pub no_rows : (net : Net) (V : View) (n : ℕ) (rows : List (Option (List ℕ))) → rows ≡ [] → AreListed net V n rows
no_rows net V n rows none = subst (AreListed net V n) (sym none) (λ m ws e. cc)

pub one_inside : (n w : ℕ) → w < n → IsTrue (list_all (λ (u : ℕ). nat_lt u n) (w ∷ []))
one_inside n w h = rw (lt-ltb w n h) refl

-- where the ways of feeds stay
pub rows_same : (net : Net) (V U : View) (n : ℕ) (rows : List (Option (List ℕ)))
    → ((m : ℕ) (f : Feed) → forwards net U n m f ≡ forwards net V n m f) → AreListed net V n rows → AreListed net U n rows
rows_same net V U n rows ways are m ws e =
    let h = are m ws e in
    let same : forwards net U n m ≡ forwards net V n m = λ i f. ways m f i in
    record {
      inside = h.inside;
      same =
          ap (λ (q : Feed → Bool). filter q (map Events ws)) same ∙ h.same
          ∙ sym (ap (λ (q : Feed → Bool). filter q (map Events (below (node_count net)))) same);
    }
