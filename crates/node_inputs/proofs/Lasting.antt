-- What a stretch of at most one entry keeps, and what a stop leaves of it.
use Rattle.std.proofs.Common.{◌≡◌, ◌⊎◌, inl, inr, ⊎_elim, ℕ, zero, suc, ◌+◌, ◌-◌, ◌<◌, ◌≤◌, Bool, List, [], ◌∷◌, ◌++◌, length, take, refl, sym, ◌∙◌, ap, subst, arith, Option, Some, None, option_map}
use Rattle.std.proofs.lemmas.Bool.{cases_lt}
use Rattle.std.specs.List.{All}
use Rattle.std.proofs.lemmas.List.{append-nil}
use Rattle.std.proofs.lemmas.List.Elements.{All-from_recursion}
use Rattle.std.proofs.lemmas.List.Sums.{sum_by-cons}
use Rattle.std.specs.Prelude.{sum_by}
use Rattle.model.specs.Types.{Entry}
use Rattle.model.specs.Spelling.{entry_bytes}
use Rattle.outside.specs.Kept.{Bodies, IsKept, KeptOrWith, with_body}
use Rattle.outside.specs.Records.{longest_file}
use Rattle.node_inputs.specs.declared.ends.NodeEnd.{NodeEnd}
use Rattle.node_inputs.specs.declared.ends.NodeEnd.TheVariants.{DiskFault}
use Rattle.node_inputs.specs.Traces.{Event, Trace, kept, refusals, tried}
use Rattle.node_inputs.specs.Keeping.{IsCause, IsLeft, IsLeftAtEnd, IsLeftWith, IsReady, IsWritten, KeeperTells, IsPath, Lasts, LeavesBetween, bodies, kept_size, record_size}
use Rattle.std.proofs.Math.Seq.{take-nil}
use Rattle.node_inputs.proofs.Fronts.{none_kept, front_none}

no_change : (told : Option Bodies) → told ≡ option_map (λ (before : Bodies). before ++ []) told
no_change None = refl
no_change (Some before) = ap Some (sym (append-nil before))

one_added : (told : Option Bodies) (e : Entry) → option_map (with_body (entry_bytes e)) told ≡ option_map (λ (before : Bodies). before ++ bodies (e ∷ [])) told
one_added None e = refl
one_added (Some before) e = refl

kept_left : (told : Option Bodies) (left : Bodies) (trace : Trace) → kept trace ≡ [] → IsKept told left → IsLeftAtEnd trace told left
kept_left None left trace none is = tt
kept_left (Some before) left trace none is =
    (0, omega (arith, ap length none), omega arith, is ∙ sym (append-nil before))

-- what one more entry may leave
one_left : (told : Option Bodies) (e : Entry) (event : Event) → tried (event ∷ []) ≡ e ∷ [] → (left : Bodies) → KeptOrWith told (entry_bytes e) left → IsLeft (event ∷ []) told left
one_left None e event is left may = tt
one_left (Some before) e event is left (inl same) = (0, omega arith, same ∙ sym (append-nil before))
one_left (Some before) e event is left (inr more) =
    (1, omega (arith, ap length is), more ∙ ap (λ (l : List Entry). before ++ bodies (take 1 l)) (sym is))

kept_after : (told now : Option Bodies) (e : Entry) (left : Bodies) → now ≡ option_map (with_body (entry_bytes e)) told → IsKept now left → IsLeftAtEnd (Event.Keeps e ∷ []) told left
kept_after None now e left is same = tt
kept_after (Some before) now e left is same =
    (1, omega arith, omega arith, subst (λ (o : Option Bodies). IsKept o left → left ≡ with_body (entry_bytes e) before) (sym is) (λ s. s) same)

refused_after : (told : Option Bodies) (e : Entry) (why : NodeEnd) (left : Bodies) → KeptOrWith told (entry_bytes e) left → IsLeftAtEnd (Event.Refuses e why ∷ []) told left
refused_after None e why left may = tt
refused_after (Some before) e why left (inl same) = (0, omega arith, omega arith, same ∙ sym (append-nil before))
refused_after (Some before) e why left (inr more) = (1, omega arith, omega arith, more)

nothing_is : {X : Type 0} {A : Type 0} (x : X) (xs : List X) → [] ≡ x ∷ xs → A
nothing_is x xs h = cc

pub one_is : {X : Type 0} (x y : X) → x ∷ [] ≡ y ∷ [] → x ≡ y
one_is x y h = cc

-- how much one entry adds
one_size : (e : Entry) → kept_size (Event.Keeps e ∷ []) ≡ length (entry_bytes e) + 5
one_size e = omega (arith, sum_by-cons record_size e [])

-- what is not above is at most
pub at_most : (most size : ℕ) → (most < size → ⊥) → size ≤ most
at_most most size h = elim (cases_lt most size) [ inl over ↦ absurd (h over) | inr fits ↦ fits ]

written_none : (trace : Trace) → tried trace ≡ [] → All IsWritten (tried trace)
written_none trace none = subst (λ (l : List Entry). All IsWritten l) (sym none) (All-from_recursion IsWritten [] tt)

written_one : (e : Entry) → IsWritten e → All IsWritten (e ∷ [])
written_one e is = All-from_recursion IsWritten (e ∷ []) (is, tt)

tells_none : (told : Option Bodies) (front : Trace) → kept front ≡ [] → KeeperTells front told told
tells_none told front none = no_change told ∙ ap (λ (l : List Entry). option_map (λ (before : Bodies). before ++ bodies l) told) (sym none)

-- what one more entry may leave, behind a front that kept nothing
with_one : (told : Option Bodies) (e : Entry) (event : Event) (front : Trace) → kept front ≡ [] → tried (event ∷ []) ≡ e ∷ [] → (left : Bodies) → KeptOrWith told (entry_bytes e) left → IsLeftWith (length (kept front)) (event ∷ []) told left
with_one None e event front none is left may = tt
with_one (Some before) e event front none is left (inl same) = (0, omega (arith, ap length none), omega arith, same ∙ sym (append-nil before))
with_one (Some before) e event front none is left (inr more) =
    (1, omega (arith, ap length none), omega (arith, ap length is), more ∙ ap (λ (l : List Entry). before ++ bodies (take 1 l)) (sym is))

module _ {K : Type 0} (kept_in : K → Option Bodies) (size faults moment : K → ℕ) (may_leave : K → Bodies → Type 0) (left_since : K → ℕ → Bodies → Type 0) (opens_since : K → ℕ → ℕ → Type 0) where
  -- a stretch in which nothing was to be kept
  pub nothing_lasts : (spent : K → Bool) (trace : Trace) → tried trace ≡ [] → (keeper : K) → IsReady kept_in spent may_leave keeper
      → Lasts kept_in size faults moment may_leave left_since opens_since trace keeper keeper
  nothing_lasts spent trace h keeper ready =
      let none : kept trace ≡ [] = (none_kept trace h).0 in
      let no_refusal : refusals trace ≡ [] = (none_kept trace h).1 in
      record {
        tells = tells_none (kept_in keeper) trace none;
        grows = omega (arith, ap (λ (l : List Entry). sum_by record_size l) none);
        within = λ fits. fits;
        no_less = omega arith;
        causes = λ e why is. nothing_is (e, why) [] (sym no_refusal ∙ is);
        later = omega arith;
        any_moment = λ t left le was. inl was;
        at_end = λ left may. kept_left (kept_in keeper) left trace none (ready.rest left may);
        opens = λ owner t le was. was;
        written = written_none trace h;
        unfailed = λ is left may. ready.rest left may;
        at_front = λ k. keeper;
        path = record {
          tells = λ k. tells_none (kept_in keeper) (take k trace) (front_none k trace none);
          since = λ k. omega arith;
          until = λ k. omega arith;
          ordered = λ j k le. omega arith;
          now = λ k left may. kept_left (kept_in keeper) left (take k trace) (front_none k trace none) (ready.rest left may);
          first = λ k t left le was. inl was;
          later = λ k t left le was. inl was;
          between = λ j k less t left le was. inl was;
        };
      }

  -- one event by which an entry was to be kept
  at_one : K → K → ℕ → K
  at_one old new zero = old
  at_one old new (suc k) = new

  one_path : (old new : K) (e : Entry) (event : Event) → tried (event ∷ []) ≡ e ∷ [] → KeeperTells (event ∷ []) (kept_in old) (kept_in new)
      → ((left : Bodies) → may_leave old left → IsKept (kept_in old) left)
      → ((left : Bodies) → may_leave new left → IsLeftAtEnd (event ∷ []) (kept_in old) left) → moment old ≤ moment new
      → ((t : ℕ) (left : Bodies) → t ≤ moment old → left_since new t left → left_since old t left ⊎ KeptOrWith (kept_in old) (entry_bytes e) left)
      → IsPath kept_in moment may_leave left_since (event ∷ []) old new (at_one old new)
  unfolding at_one
  one_path old new e event is tells before after goes any = record {
    tells = λ k. tells_at k;
    since = λ k. since_at k;
    until = λ k. until_at k;
    ordered = λ j k le. ordered_at j k le;
    now = λ k left may. now_at k left may;
    first = λ k. first_at k;
    later = λ k. later_at k;
    between = λ j k le. between_at j k le;
  }
    where
      front_one : (k : ℕ) → take (suc k) (event ∷ []) ≡ event ∷ []
      front_one k = ap (λ (f : Trace). event ∷ f) (take-nil k)

      tells_at : (k : ℕ) → KeeperTells (take k (event ∷ [])) (kept_in old) (kept_in (at_one old new k))
      tells_at zero = tells_none (kept_in old) [] refl
      tells_at (suc k) = subst (λ (f : Trace). KeeperTells f (kept_in old) (kept_in new)) (sym (front_one k)) tells

      since_at : (k : ℕ) → moment old ≤ moment (at_one old new k)
      since_at zero = omega arith
      since_at (suc k) = goes

      until_at : (k : ℕ) → moment (at_one old new k) ≤ moment new
      until_at zero = goes
      until_at (suc k) = omega arith

      ordered_at : (j k : ℕ) → j ≤ k → moment (at_one old new j) ≤ moment (at_one old new k)
      ordered_at zero k le = since_at k
      ordered_at (suc j) zero le = absurd (omega (arith, le))
      ordered_at (suc j) (suc k) le = omega arith

      now_at : (k : ℕ) (left : Bodies) → may_leave (at_one old new k) left → IsLeftAtEnd (take k (event ∷ [])) (kept_in old) left
      now_at zero left may = kept_left (kept_in old) left [] refl (before left may)
      now_at (suc k) left may = subst (λ (f : Trace). IsLeftAtEnd f (kept_in old) left) (sym (front_one k)) (after left may)

      one_any : LeavesBetween kept_in moment left_since [] (event ∷ []) old old new
      one_any t left le was = ⊎_elim (λ w. inl w) (λ k. inr (with_one (kept_in old) e event [] refl is left k)) (any t left le was)

      first_at : (k : ℕ) → LeavesBetween kept_in moment left_since [] (take k (event ∷ [])) old old (at_one old new k)
      first_at zero t left le was = inl was
      first_at (suc k) t left le was = subst (λ (f : Trace). LeavesBetween kept_in moment left_since [] f old old new) (sym (front_one k)) one_any t left le was

      later_at : (k : ℕ) → LeavesBetween kept_in moment left_since (take k (event ∷ [])) (event ∷ []) old (at_one old new k) new
      later_at zero t left le was = one_any t left le was
      later_at (suc k) t left le was = inl was

      between_at : (j k : ℕ) → j ≤ k → LeavesBetween kept_in moment left_since (take j (event ∷ [])) (take k (event ∷ [])) old (at_one old new j) (at_one old new k)
      between_at zero k le t left in_time was = first_at k t left in_time was
      between_at (suc j) zero le t left in_time was = absurd (omega (arith, le))
      between_at (suc j) (suc k) le t left in_time was = inl was

  -- an append that went well
  pub kept_lasts : (old new : K) (e : Entry) → IsWritten e → ((left : Bodies) → may_leave old left → IsKept (kept_in old) left)
      → kept_in new ≡ option_map (with_body (entry_bytes e)) (kept_in old)
      → size new ≡ size old + length (entry_bytes e) + 5 → size old + length (entry_bytes e) + 5 ≤ longest_file
      → faults old ≤ faults new → moment old ≤ moment new
      → ((t : ℕ) (left : Bodies) → t ≤ moment old → left_since new t left → left_since old t left ⊎ KeptOrWith (kept_in old) (entry_bytes e) left)
      → ((left : Bodies) → may_leave new left → IsKept (kept_in new) left)
      → ((owner t : ℕ) → t ≤ moment old → opens_since old owner t → opens_since new owner t)
      → Lasts kept_in size faults moment may_leave left_since opens_since (Event.Keeps e ∷ []) old new
  kept_lasts old new e is_written rest_before is grows room no_less later any rest opens = record {
    tells = is ∙ one_added (kept_in old) e;
    grows = omega (arith, grows, one_size e);
    within = λ fits. omega (arith, grows, room);
    no_less = no_less;
    causes = λ f why there. nothing_is (f, why) [] there;
    later = later;
    any_moment = λ t left le may. ⊎_elim (λ was. inl was) (λ k. inr (one_left (kept_in old) e (Event.Keeps e) refl left k)) (any t left le may);
    at_end = λ left may. kept_after (kept_in old) (kept_in new) e left is (rest left may);
    opens = opens;
    written = written_one e is_written;
    unfailed = λ un left may. rest left may;
    at_front = at_one old new;
    path = one_path old new e (Event.Keeps e) refl (is ∙ one_added (kept_in old) e) rest_before (λ left may. kept_after (kept_in old) (kept_in new) e left is (rest left may)) later any;
  }

  -- one that was refused
  pub refused_lasts : (old new : K) (e : Entry) (why : NodeEnd) → IsWritten e
      → ((left : Bodies) → may_leave old left → IsKept (kept_in old) left)
      → ((why ≡ DiskFault → ⊥) → (left : Bodies) → may_leave new left → IsKept (kept_in new) left)
      → kept_in new ≡ kept_in old → size new ≡ size old
      → faults old ≤ faults new → IsCause (size new) (faults old) (faults new) e why → moment old ≤ moment new
      → ((t : ℕ) (left : Bodies) → t ≤ moment old → left_since new t left → left_since old t left ⊎ KeptOrWith (kept_in old) (entry_bytes e) left)
      → ((left : Bodies) → may_leave new left → KeptOrWith (kept_in old) (entry_bytes e) left)
      → ((owner t : ℕ) → t ≤ moment old → opens_since old owner t → opens_since new owner t)
      → Lasts kept_in size faults moment may_leave left_since opens_since (Event.Refuses e why ∷ []) old new
  refused_lasts old new e why is_written rest_before full is same no_less cause later any rest opens = record {
    tells = is ∙ no_change (kept_in old);
    grows = omega (arith, same);
    within = λ fits. omega (arith, same, fits);
    no_less = no_less;
    causes = λ f end there.
        subst (λ (p : Entry × NodeEnd). IsCause (size new) (faults old) (faults new) p.0 p.1) (one_is (e, why) (f, end) there) cause;
    later = later;
    any_moment = λ t left le may. ⊎_elim (λ was. inl was) (λ k. inr (one_left (kept_in old) e (Event.Refuses e why) refl left k)) (any t left le may);
    at_end = λ left may. refused_after (kept_in old) e why left (rest left may);
    opens = opens;
    written = written_one e is_written;
    unfailed = λ un left may. full (λ for_disk. un e (ap (λ (w : NodeEnd). (e, w) ∷ []) for_disk)) left may;
    at_front = at_one old new;
    path = one_path old new e (Event.Refuses e why) refl (is ∙ no_change (kept_in old)) rest_before (λ left may. refused_after (kept_in old) e why left (rest left may)) later any;
  }

pub kept_or_same : (told now : Option Bodies) → now ≡ told → (l : Bodies) (b : List ℕ) → IsKept now l → KeptOrWith told b l
kept_or_same None now is l b kept = tt
kept_or_same (Some before) now is l b kept = inl (subst (λ (o : Option Bodies). IsKept o l → l ≡ before) (sym is) (λ s. s) kept)
