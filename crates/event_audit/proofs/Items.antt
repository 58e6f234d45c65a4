-- A history is sound exactly where each item is right, and which item is the first wrong one.
use Rattle.std.proofs.Common.{◌≡◌, ℕ, ◌+◌, ◌-◌, ◌<◌, ◌≤◌, List, arith, inl, inr, length, refl, subst, suc, sym, zero}
use Rattle.std.proofs.Common.{Some}
use Rattle.std.proofs.Common.{None, take, ◌∙◌}
use Rattle.std.specs.Prelude.{IsNone, Option, slice_get}
use Rattle.std.specs.Option.{IfSome}
use Rattle.std.proofs.lemmas.Option.{slice_get_within}
use Rattle.lemmas.proofs.Numbers.{below_or_last}
use Rattle.model.specs.Types.{Entry, Net, Start}
use Rattle.model.specs.Words.{nth}
use Rattle.model.specs.Sound.{AnswersItsOrder, CarriesByTheOption, HasItsPlace, IsInTime, IsSound}
use Rattle.model.specs.Sound.{NamesItsLaunch, OfEvents, StandsOnItsPrefix, is_launched}
use Rattle.event_audit.specs.Items.{AreRightBelow, AreStartsRightBelow, IsFirstWrong, IsRightEntry, IsRightItem}
use Rattle.event_audit.specs.Items.{IsRightStart}
use Rattle.event_audit.specs.Audits.{IsWrongEntryAt, IsWrongStartAt}
use Rattle.event_audit.proofs.Each.{each_at, at_each}
use Rattle.event_audit.proofs.Pairs.{all_of_each, each_of_all, each_once, once_each}

-- each entry, each start
abbrev pub EachEntry : Net → List Entry → Type 0
EachEntry net G = (k : ℕ) (e : Entry) → slice_get G k ≡ Some e → IsRightEntry net (take k G) e

abbrev pub EachStart : List Entry → List Start → Type 0
EachStart G starts = (k : ℕ) (s : Start) → slice_get starts k ≡ Some s → IsRightStart G (take k starts) s

sound_entry : (net : Net) (G : List Entry) (starts : List Start) → IsSound net G starts → EachEntry net G
sound_entry net G starts h k e s =
    record {
      placed = at_each HasItsPlace G h.places k e s;
      stands = at_each (λ before x. OfEvents (StandsOnItsPrefix net before) x) G h.prefixes k e s;
      answers = at_each (λ before x. OfEvents (AnswersItsOrder before) x) G h.answers k e s;
      ends = at_each (λ before x. OfEvents (NamesItsLaunch before) x) G h.ends k e s;
      plans = at_each (λ before x. CarriesByTheOption net.carry before x.feed x.body) G h.plans k e s;
      in_time = at_each (λ before x. OfEvents (IsInTime before) x) G h.in_time k e s;
    }

sound_start : (net : Net) (G : List Entry) (starts : List Start) → IsSound net G starts → EachStart G starts
sound_start net G starts h k s e =
    record {
      once = once_each starts h.started.once k s e;
      launched = each_of_all (is_launched G) starts h.started.launched k s e;
    }

pub each_sound : (net : Net) (G : List Entry) (starts : List Start) → EachEntry net G → EachStart G starts
    → IsSound net G starts
each_sound net G starts h t =
    record {
      places = each_at HasItsPlace G (λ k e s. (h k e s).placed);
      prefixes = each_at (λ before x. OfEvents (StandsOnItsPrefix net before) x) G (λ k e s. (h k e s).stands);
      answers = each_at (λ before x. OfEvents (AnswersItsOrder before) x) G (λ k e s. (h k e s).answers);
      ends = each_at (λ before x. OfEvents (NamesItsLaunch before) x) G (λ k e s. (h k e s).ends);
      plans = each_at (λ before x. CarriesByTheOption net.carry before x.feed x.body) G (λ k e s. (h k e s).plans);
      in_time = each_at (λ before x. OfEvents (IsInTime before) x) G (λ k e s. (h k e s).in_time);
      started =
          record {
            once = each_once starts (λ k s e. (t k s e).once);
            launched = all_of_each (is_launched G) starts (λ k s e. (t k s e).launched);
          };
    }

-- the n-th counted from 1 stands at n - 1
entry_item : (net : Net) (G : List Entry) → EachEntry net G → (n : ℕ) (e : Entry) → nth G n ≡ Some e
    → IsRightEntry net (take (n - 1) G) e
entry_item net G h zero e s = cc
entry_item net G h (suc k) e s =
    let back : suc k - 1 ≡ k = omega arith in
    subst (λ (m : ℕ). IsRightEntry net (take m G) e) (sym back) (h k e s)

start_item : (G : List Entry) (starts : List Start) → EachStart G starts → (n : ℕ) (s : Start)
    → nth starts n ≡ Some s → IsRightStart G (take (n - 1) starts) s
start_item G starts h zero s e = cc
start_item G starts h (suc k) s e =
    let back : suc k - 1 ≡ k = omega arith in
    subst (λ (m : ℕ). IsRightStart G (take m starts) s) (sym back) (h k s e)

items_of : (net : Net) (G : List Entry) (starts : List Start) → EachEntry net G → EachStart G starts → (n : ℕ)
    → IsRightItem net G starts n
items_of net G starts h t n =
    record {
      entry = λ e s. entry_item net G h n e s;
      start = λ s e. start_item G starts t (n - length G) s e;
    }

item_entry : (net : Net) (G : List Entry) (starts : List Start) (k : ℕ) (e : Entry) → IsRightItem net G starts (suc k)
    → slice_get G k ≡ Some e → IsRightEntry net (take k G) e
item_entry net G starts k e h s =
    let back : suc k - 1 ≡ k = omega arith in
    subst (λ (m : ℕ). IsRightEntry net (take m G) e) back (h.entry e s)

item_start : (net : Net) (G : List Entry) (starts : List Start) (k : ℕ) (s : Start)
    → IsRightItem net G starts (length G + suc k) → slice_get starts k ≡ Some s → IsRightStart G (take k starts) s
item_start net G starts k s h e =
    let here : length G + suc k - length G ≡ suc k = omega arith in
    let back : length G + suc k - length G - 1 ≡ k = omega arith in
    subst (λ (m : ℕ). IsRightStart G (take m starts) s) back
    (h.start s (subst (λ (m : ℕ). nth starts m ≡ Some s) (sym here) e))

pub sound_items : (net : Net) (G : List Entry) (starts : List Start) → IsSound net G starts → (n : ℕ)
    → IsRightItem net G starts n
sound_items net G starts h n =
    items_of net G starts (sound_entry net G starts h) (sound_start net G starts h) n

pub items_sound : (net : Net) (G : List Entry) (starts : List Start) → ((n : ℕ) → IsRightItem net G starts n)
    → IsSound net G starts
items_sound net G starts h =
    each_sound net G starts (λ k e s. item_entry net G starts k e (h (suc k)) s)
    (λ k s e. item_start net G starts k s (h (length G + suc k)) e)

-- all entries and all starts
pub all_right : (net : Net) (G : List Entry) (starts : List Start) → AreRightBelow net G (length G)
    → AreStartsRightBelow G starts (length starts) → IsSound net G starts
all_right net G starts h t =
    each_sound net G starts (λ k e s. h k (slice_get_within G k e s) e s)
    (λ k s e. t k (slice_get_within starts k s e) s e)

-- one further
pub below_more : (net : Net) (G : List Entry) (i : ℕ) (e : Entry) → AreRightBelow net G i → slice_get G i ≡ Some e
    → IsRightEntry net (take i G) e → AreRightBelow net G (i + 1)
below_more net G i e h there right k less x s =
    elim (below_or_last k i less) [
      | inl f ↦ h k f x s
      | inr same ↦ subst (λ (m : ℕ). slice_get G m ≡ Some x → IsRightEntry net (take m G) x) (sym same)
          (λ t. subst (IsRightEntry net (take i G)) (inside e x (sym there ∙ t)) right) s
    ]
  where
    inside : (x y : Entry) → Some x ≡ Some y → x ≡ y
    inside x y e = cc

pub starts_more : (G : List Entry) (starts : List Start) (i : ℕ) (s : Start) → AreStartsRightBelow G starts i
    → slice_get starts i ≡ Some s → IsRightStart G (take i starts) s → AreStartsRightBelow G starts (i + 1)
starts_more G starts i s h there right k less x e =
    elim (below_or_last k i less) [
      | inl f ↦ h k f x e
      | inr same ↦ subst (λ (m : ℕ). slice_get starts m ≡ Some x → IsRightStart G (take m starts) x) (sym same)
          (λ t. subst (IsRightStart G (take i starts)) (inside s x (sym there ∙ t)) right) e
    ]
  where
    inside : (x y : Start) → Some x ≡ Some y → x ≡ y
    inside x y e = cc

no_start : (starts : List Start) (n : ℕ) (s : Start) → n ≡ 0 → nth starts n ≡ Some s → ⊥
no_start starts zero s z e = cc
no_start starts (suc n) s z e = cc

-- an item below a place, where the entries are right so far and no start is reached
low_entry : (net : Net) (G : List Entry) (i : ℕ) → AreRightBelow net G i → (n : ℕ) → n ≤ i → (e : Entry)
    → nth G n ≡ Some e → IsRightEntry net (take (n - 1) G) e
low_entry net G i h zero less e s = cc
low_entry net G i h (suc k) less e s =
    let back : suc k - 1 ≡ k = omega arith in
    subst (λ (m : ℕ). IsRightEntry net (take m G) e) (sym back) (h k (omega arith) e s)

low_start : (G : List Entry) (starts : List Start) (i : ℕ) → AreStartsRightBelow G starts i → (n : ℕ) → n ≤ i
    → (s : Start) → nth starts n ≡ Some s → IsRightStart G (take (n - 1) starts) s
low_start G starts i h zero less s e = cc
low_start G starts i h (suc k) less s e =
    let back : suc k - 1 ≡ k = omega arith in
    subst (λ (m : ℕ). IsRightStart G (take m starts) s) (sym back) (h k (omega arith) s e)

pub wrong_entry : (net : Net) (G : List Entry) (starts : List Start) (i : ℕ) (e : Entry) → AreRightBelow net G i
    → slice_get G i ≡ Some e → (IsRightEntry net (take i G) e → ⊥) → IsFirstWrong net G starts (suc i)
wrong_entry net G starts i e h there wrong =
    let within : i < length G = slice_get_within G i e there in
    record {
      fails = λ item. wrong (item_entry net G starts i e item there);
      lowest = λ m less. record {
        entry = λ x s. low_entry net G i h m (omega arith) x s;
        start = λ s t. absurd (no_start starts (m - length G) s (omega arith) t);
      };
    }

pub wrong_start : (net : Net) (G : List Entry) (starts : List Start) (i : ℕ) (s : Start)
    → AreRightBelow net G (length G) → AreStartsRightBelow G starts i → slice_get starts i ≡ Some s
    → (IsRightStart G (take i starts) s → ⊥) → IsFirstWrong net G starts (length G + suc i)
wrong_start net G starts i s h t there wrong =
    record {
      fails = λ item. wrong (item_start net G starts i s item there);
      lowest = λ m less. record {
        entry = λ x e. entry_item net G (λ k y f. h k (slice_get_within G k y f) y f) m x e;
        start = λ x e. low_start G starts i t (m - length G) (omega arith) x e;
      };
    }

-- the first wrong entry is the first wrong item, by its number
pub first_entry : (net : Net) (G : List Entry) (starts : List Start) (i n : ℕ) → IsWrongEntryAt net G i → n ≡ i + 1
    → IsFirstWrong net G starts n
first_entry net G starts i n h e =
    let same : suc i ≡ n = omega (arith, e) in
    subst (λ (m : ℕ). IsFirstWrong net G starts m) same (wrong_entry net G starts i h.entry h.lowest h.there h.wrong)

pub first_start : (net : Net) (G : List Entry) (starts : List Start) (i n : ℕ) → AreRightBelow net G (length G)
    → IsWrongStartAt G starts i → n ≡ length G + i + 1 → IsFirstWrong net G starts n
first_start net G starts i n right h e =
    let same : length G + suc i ≡ n = omega (arith, e) in
    subst (λ (m : ℕ). IsFirstWrong net G starts m) same
    (wrong_start net G starts i h.start right h.lowest h.there h.wrong)

-- what has a first wrong item is not sound
pub not_sound : (net : Net) (G : List Entry) (starts : List Start) (n : ℕ) → IsFirstWrong net G starts n
    → IsSound net G starts → ⊥
not_sound net G starts n h sound = h.fails (sound_items net G starts sound n)

-- what a wrong item tells of the answer
pub wrong_answer : {A : Type 0} (net : Net) (G : List Entry) (starts : List Start) (n : ℕ) (answer sound : A)
    → (answer ≡ sound → ⊥) → IsFirstWrong net G starts n
    → (answer ≡ sound → IsSound net G starts) × (IsSound net G starts → answer ≡ sound)
wrong_answer net G starts n answer sound apart h =
    (λ e. absurd (apart e), λ s. absurd (not_sound net G starts n h s))

-- from what the two walks found
pub found_entry : (net : Net) (G g : List Entry) (starts : List Start) → G ≡ g → (o : Option ℕ) (i : ℕ)
    → o ≡ Some i → IfSome o (IsWrongEntryAt net G) → IsFirstWrong net g starts (i + 1)
found_entry net G g starts same o i is h =
    subst (λ (H : List Entry). IsFirstWrong net H starts (i + 1)) same
    (first_entry net G starts i (i + 1) (subst (λ (p : Option ℕ). IfSome p (IsWrongEntryAt net G)) is h) refl)

pub found_start : (net : Net) (G g : List Entry) (T starts : List Start) → G ≡ g → T ≡ starts → (e o : Option ℕ)
    (i : ℕ) → e ≡ None → (IsNone e → AreRightBelow net G (length G)) → o ≡ Some i → IfSome o (IsWrongStartAt G T)
    → IsFirstWrong net g starts (length G + i + 1)
found_start net G g T starts same these e o i none right is h =
    let all : AreRightBelow net G (length G) =
    right (subst (λ (p : Option ℕ). IsNone p) (sym none) refl) in
    subst (λ (H : List Entry). IsFirstWrong net H starts (length G + i + 1)) same
    (subst (λ (S : List Start). IsFirstWrong net G S (length G + i + 1)) these
    (first_start net G T i (length G + i + 1) all
    (subst (λ (p : Option ℕ). IfSome p (IsWrongStartAt G T)) is h) refl))

pub found_none : (net : Net) (G g : List Entry) (T starts : List Start) → G ≡ g → T ≡ starts → (e o : Option ℕ)
    → e ≡ None → (IsNone e → AreRightBelow net G (length G)) → o ≡ None
    → (IsNone o → AreStartsRightBelow G T (length T)) → IsSound net g starts
found_none net G g T starts same these e o none right no_start_ rest =
    subst (λ (H : List Entry). IsSound net H starts) same
    (subst (λ (S : List Start). IsSound net G S) these
    (all_right net G T (right (subst (λ (p : Option ℕ). IsNone p) (sym none) refl))
    (rest (subst (λ (p : Option ℕ). IsNone p) (sym no_start_) refl))))
