-- A sound history has no launch twice.
use Rattle.std.proofs.Common.{[], ◌++◌, ◌+◌, ◌≡◌, ◌≢◌, ◌≤◌, ◌∙◌, ◌∷◌, ◌⊎◌, ℕ, Bool, List, None, Option, Some, ap, append_assoc, arith, eq-eqb, false, inl, inr, refl, subst, sym, true}
use Rattle.std.proofs.lemmas.List.Sums.{sum_by-append, sum_by-cons}
use Rattle.std.specs.List.{cons_option}
use Rattle.std.specs.Prelude.{cond, count_by, filter_map, if◌then◌else◌}
use Rattle.lemmas.proofs.Lists.{no_middle, same_head, same_tail}
use Rattle.model.specs.Types.{Body, Entry, Events, Launched, Net}
use Rattle.model.specs.Equalities.{feed_eq}
use Rattle.model.specs.Facts.{is_launch_of}
use Rattle.model.specs.History.{Seen, list_of}
use Rattle.model.specs.Sound.{Each, OfEvents, StandsOnItsPrefix}
use Rattle.model_laws.proofs.Feeds.{feed_cases}
use Rattle.run_laws.specs.Launches.{launch_in, launch_of}
use Rattle.run_laws.proofs.Splits.{InFirst, InSecond, split_append}
use Rattle.network_runs.proofs.Members.{IsIn, in_split}
use Rattle.network_runs.proofs.Places.{launched_at}

abbrev pub Launch : Type 0
Launch = ℕ × ℕ

-- an entry of a list that is this launch of w
pub record Found (w : ℕ) (G : List Entry) (p : Launch) : Type 0 where
  pub front : List Entry
  pub back : List Entry
  pub entry : Entry
  pub split : G ≡ front ++ entry ∷ back
  pub its : launch_of w entry ≡ Some p

pub record FoundAt (w : ℕ) (G : List Entry) (P : List Launch) (p : Launch) : Type 0 where
  pub found : Found w G p
  pub before : filter_map (launch_of w) found.front ≡ P

further : (w : ℕ) (e : Entry) (G : List Entry) (P Q : List Launch) (p : Launch) → Q ≡ cons_option (launch_of w e) P → FoundAt w G P p → FoundAt w (e ∷ G) Q p
further w e G P Q p is f = record {
  found = record {
    front = e ∷ f.found.front;
    back = f.found.back;
    entry = f.found.entry;
    split = ap (λ (l : List Entry). e ∷ l) f.found.split;
    its = f.found.its;
  };
  before = ap (cons_option (launch_of w e)) f.before ∙ sym is;
}

some_is : {p q : Launch} → p ≡ q → Some p ≡ Some q
some_is e = ap Some e

pub find_at : (w : ℕ) (G : List Entry) (P Q : List Launch) (p : Launch) → filter_map (launch_of w) G ≡ P ++ p ∷ Q → FoundAt w G P p
find_at w [] P Q p e = absurd (no_middle P Q p e)
find_at w (d ∷ G) P Q p e = go (launch_of w d) refl e (λ R s. find_at w G R Q p s)
  where
    here : (q : Launch) (P : List Launch) → launch_of w d ≡ Some q → q ∷ filter_map (launch_of w) G ≡ P ++ p ∷ Q
        → ((R : List Launch) → filter_map (launch_of w) G ≡ R ++ p ∷ Q → FoundAt w G R p) → FoundAt w (d ∷ G) P p
    here q [] is same later = record {
      found = record { front = []; back = G; entry = d; split = refl; its = is ∙ some_is (same_head same) };
      before = refl;
    }
    here q (r ∷ R) is same later =
        further w d G R (r ∷ R) p (ap (λ (l : Launch). l ∷ R) (sym (same_head same)) ∙ ap (λ (o : Option Launch). cons_option o R) (sym is))
        (later R (same_tail same))

    go : (o : Option Launch) → launch_of w d ≡ o → cons_option o (filter_map (launch_of w) G) ≡ P ++ p ∷ Q
        → ((R : List Launch) → filter_map (launch_of w) G ≡ R ++ p ∷ Q → FoundAt w G R p) → FoundAt w (d ∷ G) P p
    go None is same later = further w d G P P p (ap (λ (o : Option Launch). cons_option o P) (sym is)) (later P same)
    go (Some q) is same later = here q P is same later

pub find_in : (w : ℕ) (G : List Entry) (p : Launch) → IsIn p (filter_map (launch_of w) G) → Found w G p
find_in w G p h =
    let s = in_split p (filter_map (launch_of w) G) h in (find_at w G s.front s.back p s.split).found

-- the entry of a launch
record IsLaunch (w : ℕ) (e : Entry) (p : Launch) : Type 0 where
  pub feed_ : e.feed ≡ Events w
  pub seen : Seen
  pub body_ : e.body ≡ Launched p.0 p.1 seen

body_launch : (w : ℕ) (e : Entry) (p : Launch) → e.feed ≡ Events w → (b : Body) → e.body ≡ b → launch_in b ≡ Some p → IsLaunch w e p
body_launch w e p feed (Launched j n seen) is same =
    record { feed_ = feed; seen = seen; body_ = is ∙ ap (λ (q : Launch). Launched q.0 q.1 seen) (same_some same) }
  where
    same_some : Some (j, n) ≡ Some p → (j, n) ≡ p
    same_some q = cc
body_launch w e p feed b is same = cc

its_launch : (w : ℕ) (e : Entry) (p : Launch) → launch_of w e ≡ Some p → IsLaunch w e p
its_launch w e p is = go (feed_cases (Events w) e.feed)
  where
    when : (b : Bool) → feed_eq (Events w) e.feed ≡ b → (if b then launch_in e.body else None) ≡ Some p
    when b same = ap (λ (c : Bool). if c then launch_in e.body else None) (sym same) ∙ is

    go : ((feed_eq (Events w) e.feed ≡ true) × (Events w ≡ e.feed)) ⊎ ((feed_eq (Events w) e.feed ≡ false) × (Events w ≢ e.feed))
        → IsLaunch w e p
    go (inl t) = body_launch w e p (sym t.1) e.body refl (when true t.0)
    go (inr t) = absurd (clash (when false t.0))
      where
        clash : None ≡ Some p → ⊥
        clash q = cc

abbrev pub AreRight : Net → List Entry → Type 0
AreRight net G = Each (λ before e. OfEvents (StandsOnItsPrefix net before) e) G

number_of : (net : Net) (G : List Entry) → AreRight net G → (w : ℕ) (p : Launch) (front back : List Entry) (e : Entry)
    → G ≡ front ++ e ∷ back → launch_of w e ≡ Some p → p.1 ≡ 1 + count_by (λ (d : Entry). is_launch_of p.0 d.body) front
number_of net G right w p front back e split is =
    let l : IsLaunch w e p = its_launch w e p is in
    (launched_at net G right front back e w p.0 p.1 l.seen split l.feed_ l.body_).number

more_launches : (j : ℕ) (G H : List Entry) (d : Entry) → is_launch_of j d.body ≡ true
    → 1 + count_by (λ (e : Entry). is_launch_of j e.body) G ≤ count_by (λ (e : Entry). is_launch_of j e.body) (G ++ d ∷ H)
more_launches j G H d is =
    let weigh : Entry → ℕ = λ (e : Entry). cond (is_launch_of j e.body) 1 0 in
    let one : weigh d ≡ 1 = ap (λ (b : Bool). cond b 1 0) is in
    omega (arith, sum_by-append weigh G (d ∷ H), sum_by-cons weigh d H, one)

-- so no launch stands before itself
no_twice : (net : Net) (G : List Entry) → AreRight net G → (v w : ℕ) (p : Launch) (front back earlier between : List Entry) (e d : Entry)
    → G ≡ front ++ e ∷ back → launch_of w e ≡ Some p → front ≡ earlier ++ d ∷ between → launch_of v d ≡ Some p → ⊥
no_twice net G right v w p front back earlier between e d split is inside also =
    let l : IsLaunch v d p = its_launch v d p also in
    let launched : is_launch_of p.0 d.body ≡ true = ap (is_launch_of p.0) l.body_ ∙ eq-eqb p.0 p.0 refl in
    let late = number_of net G right w p front back e split is in
    let soon = number_of net G right v p earlier (between ++ e ∷ back) d
    (split ∙ ap (λ (t : List Entry). t ++ e ∷ back) inside ∙ append_assoc earlier (d ∷ between) (e ∷ back)) also in
    let more = more_launches p.0 earlier between d launched in
    let same = ap (λ (t : List Entry). count_by (λ (c : Entry). is_launch_of p.0 c.body) t) inside in
    omega (arith, late, soon, more, same)

pub no_launch_again : (net : Net) (G : List Entry) → AreRight net G → (w : ℕ) (P Q : List Launch) (p : Launch)
    → filter_map (launch_of w) G ≡ P ++ p ∷ Q → IsIn p P → ⊥
no_launch_again net G right w P Q p e h =
    let at : FoundAt w G P p = find_at w G P Q p e in
    let old : Found w at.found.front p = find_in w at.found.front p (subst (IsIn p) (sym at.before) h) in
    no_twice net G right w w p at.found.front at.found.back old.front old.back at.found.entry old.entry at.found.split at.found.its old.split old.its

same_station : (v w : ℕ) (e : Entry) (p : Launch) → launch_of v e ≡ Some p → launch_of w e ≡ Some p → v ≡ w
same_station v w e p a b = events (sym (its_launch v e p a).feed_ ∙ (its_launch w e p b).feed_)
  where
    events : Events v ≡ Events w → v ≡ w
    events q = cc

pub no_launch_elsewhere : (net : Net) (G : List Entry) → AreRight net G → (v w : ℕ) (p : Launch) → v ≢ w
    → IsIn p (filter_map (launch_of v) G) → IsIn p (filter_map (launch_of w) G) → ⊥
no_launch_elsewhere net G right v w p apart h k = go (split_append (a.front ++ a.entry ∷ []) a.back b.front b.back b.entry
    (append_assoc a.front (a.entry ∷ []) a.back ∙ sym a.split ∙ b.split))
  where
    a : Found v G p
    a = find_in v G p h

    b : Found w G p
    b = find_in w G p k

    first : InFirst (a.front ++ a.entry ∷ []) a.back b.front b.back b.entry → ⊥
    first f = inner (split_append a.front (a.entry ∷ []) b.front f.rest b.entry f.first)
      where
        inner : InFirst a.front (a.entry ∷ []) b.front f.rest b.entry ⊎ InSecond a.front (a.entry ∷ []) b.front f.rest b.entry → ⊥
        inner (inl g) = no_twice net G right w v p a.front a.back b.front g.rest a.entry b.entry a.split a.its g.first b.its
        inner (inr g) = last g.middle g.second
          where
            last : (m : List Entry) → a.entry ∷ [] ≡ m ++ b.entry ∷ f.rest → ⊥
            last [] q = apart (same_station v w b.entry p (ap (launch_of v) (sym (same_head q)) ∙ a.its) b.its)
            last (x ∷ m) q = no_middle m f.rest b.entry (same_tail q)

    go : InFirst (a.front ++ a.entry ∷ []) a.back b.front b.back b.entry ⊎ InSecond (a.front ++ a.entry ∷ []) a.back b.front b.back b.entry → ⊥
    go (inl f) = first f
    go (inr s) =
        no_twice net G right v w p b.front b.back a.front s.middle b.entry a.entry b.split b.its
        (s.before ∙ append_assoc a.front (a.entry ∷ []) s.middle) a.its

-- of what a node holds: its launches by entries are those of its list
pub launches_listed : (w : ℕ) (K : List Entry) → filter_map (launch_of w) K ≡ filter_map launch_in (list_of K (Events w))
unfolding list_of
launches_listed w [] = refl
launches_listed w (e ∷ K) =
    elim (feed_cases (Events w) e.feed) [
      | inl t ↦ rw t.0 (ap (cons_option (launch_in e.body)) (launches_listed w K))
      | inr t ↦ rw t.0 (launches_listed w K)
    ]
