-- Two stretches, one behind the other: what both keep, and what a stop leaves of them.
use Rattle.std.proofs.Common.{◌≡◌, ◌⊎◌, inl, inr, ⊎_elim, ℕ, ◌+◌, ◌-◌, ◌^◌, ◌<◌, ◌≤◌, List, [], ◌++◌, length, take, sym, ◌∙◌, ap, subst, arith, append_assoc, length-append, Option, Some, None, option_map}
use Rattle.std.proofs.lemmas.Bool.{cases_lt}
use Rattle.std.specs.List.{All}
use Rattle.std.proofs.lemmas.List.{map-append, take-append-le}
use Rattle.std.proofs.lemmas.List.Elements.{All-from_recursion, recursion_from_All}
use Rattle.std.proofs.lemmas.List.Sums.{sum_by-append}
use Rattle.std.specs.Prelude.{sum_by}
use Rattle.lemmas.proofs.Lists.{all_append}
use Rattle.base_types.specs.declared.LimitName.TheVariants as limit
use Rattle.base_types.specs.declared.LimitName.TheVariants.{Bytes, File, Input, Packets, Places, Plan, Steps}
use Rattle.std.proofs.Math.Nat.{le-min, le_trans, min-le_left, min-le_right}
use Rattle.std.proofs.Math.Seq.{take-append-add}
use Rattle.model.specs.Types.{Entry}
use Rattle.model.specs.Spelling.{entry_bytes}
use Rattle.outside.specs.Causes.{Rose}
use Rattle.outside.specs.Kept.{Bodies}
use Rattle.node_inputs.specs.declared.ends.NodeEnd.{NodeEnd}
use Rattle.node_inputs.specs.declared.ends.NodeEnd.TheVariants.{DiskFault, Limit, NoMemory, Shutdown, TurnsSpent}
use Rattle.node_inputs.specs.Traces.{Trace, kept, refusals, tried}
use Rattle.node_inputs.specs.Keeping.{IsCause, IsLeft, IsLeftAtEnd, IsLeftWith, IsWritten, KeeperTells, IsPath, Lasts, LeavesBetween, bodies, record_size}
use Rattle.node_inputs.proofs.Fronts.{kept-append, tried-append, refusals-append, all_kept, front_fewer}

-- a fault that rose in a part of a stretch rose in the whole
pub rose_since : (before middle now : ℕ) → before ≤ middle → Rose middle now → Rose before now
rose_since before middle now le h =
    le_trans
    (le-min (le_trans (min-le_left (before + 1) (2 ^ 64 - 1)) (omega (arith, le))) (min-le_right (before + 1) (2 ^ 64 - 1))) h

cause_since : (size before middle now : ℕ) (e : Entry) (why : NodeEnd) → before ≤ middle → IsCause size middle now e why → IsCause size before now e why
cause_since size before middle now e (Limit File) le h = h
cause_since size before middle now e DiskFault le h = (h.0, rose_since before middle now le h.1)
cause_since size before middle now e Shutdown le h = absurd h
cause_since size before middle now e TurnsSpent le h = absurd h
cause_since size before middle now e NoMemory le h = absurd h
cause_since size before middle now e (Limit Input) le h = absurd h
cause_since size before middle now e (Limit Steps) le h = absurd h
cause_since size before middle now e (Limit Packets) le h = absurd h
cause_since size before middle now e (Limit Bytes) le h = absurd h
cause_since size before middle now e (Limit Plan) le h = absurd h
cause_since size before middle now e (Limit limit.Entry) le h = absurd h
cause_since size before middle now e (Limit Places) le h = absurd h

written_both : (xs ys : List Entry) → All IsWritten xs → All IsWritten ys → All IsWritten (xs ++ ys)
written_both xs ys a b = All-from_recursion IsWritten (xs ++ ys) (all_append IsWritten xs ys (recursion_from_All IsWritten xs a) (recursion_from_All IsWritten ys b))

told_on : (front back : Trace) (told middle : Option Bodies) → KeeperTells front told middle → (now : Option Bodies) → KeeperTells back middle now → KeeperTells (front ++ back) told now
told_on front back None middle first now second = second ∙ ap (option_map (λ (before : Bodies). before ++ bodies (kept back))) first
told_on front back (Some before) middle first now second =
    second ∙ ap (option_map (λ (b : Bodies). b ++ bodies (kept back))) first
    ∙ ap Some (append_assoc before (bodies (kept front)) (bodies (kept back)) ∙ ap (λ (l : Bodies). before ++ l) (sym (map-append entry_bytes (kept front) (kept back)) ∙ ap bodies (sym (kept-append front back))))

-- where no entry was refused, all that were tried were kept
module _ (front back : Trace) (goes_on : refusals front ≡ []) where
  goes : tried front ≡ kept front
  goes = all_kept front goes_on

  longer : length (tried front) ≤ length (tried (front ++ back))
  longer = omega (arith, ap length (tried-append front back), length-append (tried front) (tried back))

  -- what the first stretch may leave, the whole may leave
  front_left : (told : Option Bodies) (left : Bodies) → IsLeft front told left → IsLeft (front ++ back) told left
  front_left None left is = tt
  front_left (Some before) left is =
      (is.0, omega (arith, is.1, longer), is.2 ∙ ap (λ (l : List Entry). before ++ bodies l) (sym (take-append-le is.0 (tried front) (tried back) is.1) ∙ ap (λ (l : List Entry). take is.0 l) (sym (tried-append front back))))

  taken : (n : ℕ) → take (length (kept front) + n) (tried (front ++ back)) ≡ kept front ++ take n (tried back)
  taken n =
      ap (λ (l : List Entry). take (length (kept front) + n) l) (tried-append front back ∙ ap (λ (l : List Entry). l ++ tried back) goes)
      ∙ take-append-add (kept front) (tried back) n

  joined : (before : Bodies) (n : ℕ) → (before ++ bodies (kept front)) ++ bodies (take n (tried back)) ≡ before ++ bodies (take (length (kept front) + n) (tried (front ++ back)))
  joined before n =
      append_assoc before (bodies (kept front)) (bodies (take n (tried back)))
      ∙ ap (λ (l : Bodies). before ++ l) (sym (map-append entry_bytes (kept front) (take n (tried back))) ∙ ap bodies (sym (taken n)))

  sizes : length (tried (front ++ back)) ≡ length (kept front) + length (tried back)
  sizes = ap length (tried-append front back) ∙ length-append (tried front) (tried back) ∙ ap (λ (k : ℕ). k + length (tried back)) (ap length goes)

  -- and what the second may leave behind what the first kept
  back_left : (told middle : Option Bodies) → KeeperTells front told middle → (left : Bodies) → IsLeft back middle left → IsLeft (front ++ back) told left
  back_left None middle first left is = tt
  back_left (Some before) middle first left is =
      let m : IsLeft back (Some (before ++ bodies (kept front))) left = subst (λ (o : Option Bodies). IsLeft back o left) first is in
      (length (kept front) + m.0, omega (arith, m.1, sizes), m.2 ∙ joined before m.0)

  end_left : (told middle : Option Bodies) → KeeperTells front told middle → (left : Bodies) → IsLeftAtEnd back middle left → IsLeftAtEnd (front ++ back) told left
  end_left None middle first left is = tt
  end_left (Some before) middle first left is =
      let m : IsLeftAtEnd back (Some (before ++ bodies (kept front))) left = subst (λ (o : Option Bodies). IsLeftAtEnd back o left) first is in
      (length (kept front) + m.0, omega (arith, m.1, ap length (kept-append front back), length-append (kept front) (kept back)), omega (arith, m.2, sizes), m.3 ∙ joined before m.0)

  with_longer : (least more : ℕ) (told : Option Bodies) (left : Bodies) → more ≤ least → IsLeftWith least front told left → IsLeftWith more (front ++ back) told left
  unfolding front_left
  with_longer least more None left le is = tt
  with_longer least more (Some before) left le is =
      let l : IsLeft (front ++ back) (Some before) left = front_left (Some before) left (is.0, is.2, is.3) in
      (is.0, omega (arith, le, is.1), l.1, l.2)

  with_all : (least : ℕ) (told middle : Option Bodies) → least ≤ length (kept front) → KeeperTells front told middle → (left : Bodies) → IsLeft back middle left → IsLeftWith least (front ++ back) told left
  with_all least None middle le first left is = tt
  with_all least (Some before) middle le first left is =
      let m : IsLeft back (Some (before ++ bodies (kept front))) left = subst (λ (o : Option Bodies). IsLeft back o left) first is in
      (length (kept front) + m.0, omega (arith, le), omega (arith, m.1, sizes), m.2 ∙ joined before m.0)

  with_back : (least : ℕ) (told middle : Option Bodies) → KeeperTells front told middle → (left : Bodies) → IsLeftWith least back middle left → IsLeftWith (length (kept front) + least) (front ++ back) told left
  with_back least None middle first left is = tt
  with_back least (Some before) middle first left is =
      let m : IsLeftWith least back (Some (before ++ bodies (kept front))) left = subst (λ (o : Option Bodies). IsLeftWith least back o left) first is in
      (length (kept front) + m.0, omega (arith, m.1), omega (arith, m.2, sizes), m.3 ∙ joined before m.0)

  kept_both : (l : Trace) → length (kept (front ++ l)) ≡ length (kept front) + length (kept l)
  kept_both l = ap length (kept-append front l) ∙ length-append (kept front) (kept l)

  -- a stop within the first stretch or behind it
  leaves_behind : {K : Type 0} (kept_in : K → Option Bodies) (moment : K → ℕ) (left_since : K → ℕ → Bodies → Type 0) (old one middle another : K) (f : Trace)
      → length (kept f) ≤ length (kept front) → KeeperTells front (kept_in old) (kept_in middle) → moment one ≤ moment middle
      → LeavesBetween kept_in moment left_since f front old one middle → LeavesBetween kept_in moment left_since [] back middle middle another
      → LeavesBetween kept_in moment left_since f (front ++ back) old one another
  leaves_behind {K} kept_in moment left_since old one middle another f fewer tells goes first second t left le was = ⊎_elim
      (λ w. ⊎_elim (λ b. inl b) (λ is. inr (with_longer (length (kept f)) (length (kept f)) (kept_in old) left (omega arith) is)) (first t left le w))
      (λ is. inr (with_all (length (kept f)) (kept_in old) (kept_in middle) fewer tells left (no_least (kept_in middle) left is)))
      (second t left (omega (arith, le, goes)) was)
    where
      no_least : (told : Option Bodies) (left : Bodies) → IsLeftWith 0 back told left → IsLeft back told left
      no_least None left is = tt
      no_least (Some before) left is = (is.0, is.2, is.3)

  -- and one within the second
  leaves_within : {K : Type 0} (kept_in : K → Option Bodies) (moment : K → ℕ) (left_since : K → ℕ → Bodies → Type 0) (old one middle another : K) (f : Trace)
      → KeeperTells front (kept_in old) (kept_in middle) → LeavesBetween kept_in moment left_since f back middle one another
      → LeavesBetween kept_in moment left_since (front ++ f) (front ++ back) old one another
  leaves_within {K} kept_in moment left_since old one middle another f tells second t left le was = ⊎_elim
      (λ w. inl w)
      (λ is. inr (subst (λ (n : ℕ). IsLeftWith n (front ++ back) (kept_in old) left) (sym (kept_both f)) (with_back (length (kept f)) (kept_in old) (kept_in middle) tells left is)))
      (second t left le was)

-- within which of two stretches a front ends
at_by : {K : Type 0} (front back : Trace) → (ℕ → K) → (ℕ → K) → (k : ℕ) → (length front < k) ⊎ (k ≤ length front) → K
at_by front back first second k (inl behind) = second (k - length front)
at_by front back first second k (inr within) = first k

front_by : (front back : Trace) (k : ℕ) → (length front < k) ⊎ (k ≤ length front) → Trace
front_by front back k (inl behind) = front ++ take (k - length front) back
front_by front back k (inr within) = take k front

front_is : (front back : Trace) (k : ℕ) (c : (length front < k) ⊎ (k ≤ length front)) → take k (front ++ back) ≡ front_by front back k c
unfolding front_by
front_is front back k (inl behind) =
    let same : k ≡ length front + (k - length front) = omega (arith, behind) in
    ap (λ (n : ℕ). take n (front ++ back)) same ∙ take-append-add front back (k - length front)
front_is front back k (inr within) = take-append-le k front back within

module _ (front back : Trace) (goes_on : refusals front ≡ []) {K : Type 0} (kept_in : K → Option Bodies) (moment : K → ℕ) (may_leave : K → Bodies → Type 0) (left_since : K → ℕ → Bodies → Type 0) (old middle new : K) (one two : ℕ → K)
    (tells : KeeperTells front (kept_in old) (kept_in middle)) (tells_more : KeeperTells back (kept_in middle) (kept_in new))
    (goes : moment old ≤ moment middle) (goes_more : moment middle ≤ moment new)
    (any : LeavesBetween kept_in moment left_since [] front old old middle) (any_more : LeavesBetween kept_in moment left_since [] back middle middle new)
    (first : IsPath kept_in moment may_leave left_since front old middle one) (second : IsPath kept_in moment may_leave left_since back middle new two) where
  abbrev Side : ℕ → Type 0
  Side k = (length front < k) ⊎ (k ≤ length front)

  tells_by : (k : ℕ) (c : Side k) → KeeperTells (front_by front back k c) (kept_in old) (kept_in (at_by front back one two k c))
  unfolding front_by at_by
  tells_by k (inl behind) = told_on front (take (k - length front) back) (kept_in old) (kept_in middle) tells (kept_in (two (k - length front))) (second.tells (k - length front))
  tells_by k (inr within) = first.tells k

  since_by : (k : ℕ) (c : Side k) → moment old ≤ moment (at_by front back one two k c)
  unfolding at_by
  since_by k (inl behind) = omega (arith, goes, second.since (k - length front))
  since_by k (inr within) = first.since k

  until_by : (k : ℕ) (c : Side k) → moment (at_by front back one two k c) ≤ moment new
  unfolding at_by
  until_by k (inl behind) = second.until (k - length front)
  until_by k (inr within) = omega (arith, first.until k, goes_more)

  ordered_by : (j k : ℕ) (c : Side j) (d : Side k) → j ≤ k → moment (at_by front back one two j c) ≤ moment (at_by front back one two k d)
  unfolding at_by
  ordered_by j k (inl b) (inl d) le = second.ordered (j - length front) (k - length front) (omega (arith, le, b, d))
  ordered_by j k (inl b) (inr d) le = absurd (omega (arith, le, b, d))
  ordered_by j k (inr b) (inl d) le = omega (arith, first.until j, second.since (k - length front))
  ordered_by j k (inr b) (inr d) le = first.ordered j k le

  now_by : (k : ℕ) (c : Side k) (left : Bodies) → may_leave (at_by front back one two k c) left → IsLeftAtEnd (front_by front back k c) (kept_in old) left
  unfolding front_by at_by
  now_by k (inl behind) left may = end_left front (take (k - length front) back) goes_on (kept_in old) (kept_in middle) tells left (second.now (k - length front) left may)
  now_by k (inr within) left may = first.now k left may

  first_by : (k : ℕ) (c : Side k) → LeavesBetween kept_in moment left_since [] (front_by front back k c) old old (at_by front back one two k c)
  unfolding front_by at_by
  first_by k (inl behind) = leaves_behind front (take (k - length front) back) goes_on kept_in moment left_since old old middle (two (k - length front)) [] (omega arith) tells goes any (second.first (k - length front))
  first_by k (inr within) = first.first k

  later_by : (k : ℕ) (c : Side k) → LeavesBetween kept_in moment left_since (front_by front back k c) (front ++ back) old (at_by front back one two k c) new
  unfolding front_by at_by
  later_by k (inl behind) = leaves_within front back goes_on kept_in moment left_since old (two (k - length front)) middle new (take (k - length front) back) tells (second.later (k - length front))
  later_by k (inr within) = leaves_behind front back goes_on kept_in moment left_since old (one k) middle new (take k front) (front_fewer k front) tells (first.until k) (first.later k) any_more

  between_by : (j k : ℕ) (c : Side j) (d : Side k) → j ≤ k → LeavesBetween kept_in moment left_since (front_by front back j c) (front_by front back k d) old (at_by front back one two j c) (at_by front back one two k d)
  unfolding front_by at_by
  between_by j k (inl b) (inl d) le =
      leaves_within front (take (k - length front) back) goes_on kept_in moment left_since old (two (j - length front)) middle (two (k - length front)) (take (j - length front) back) tells
      (second.between (j - length front) (k - length front) (omega (arith, le, b, d)))
  between_by j k (inl b) (inr d) le = absurd (omega (arith, le, b, d))
  between_by j k (inr b) (inl d) le =
      leaves_behind front (take (k - length front) back) goes_on kept_in moment left_since old (one j) middle (two (k - length front)) (take j front) (front_fewer j front) tells (first.until j) (first.later j)
      (second.first (k - length front))
  between_by j k (inr b) (inr d) le = first.between j k le

  both_path : IsPath kept_in moment may_leave left_since (front ++ back) old new (λ k. at_by front back one two k (cases_lt (length front) k))
  both_path = record {
    tells = λ k. subst (λ (f : Trace). KeeperTells f (kept_in old) (kept_in (at_by front back one two k (cases_lt (length front) k)))) (sym (front_is front back k (cases_lt (length front) k))) (tells_by k (cases_lt (length front) k));
    since = λ k. since_by k (cases_lt (length front) k);
    until = λ k. until_by k (cases_lt (length front) k);
    ordered = λ j k le. ordered_by j k (cases_lt (length front) j) (cases_lt (length front) k) le;
    now = λ k left may. subst (λ (f : Trace). IsLeftAtEnd f (kept_in old) left) (sym (front_is front back k (cases_lt (length front) k))) (now_by k (cases_lt (length front) k) left may);
    first = λ k. subst (λ (f : Trace). LeavesBetween kept_in moment left_since [] f old old (at_by front back one two k (cases_lt (length front) k))) (sym (front_is front back k (cases_lt (length front) k))) (first_by k (cases_lt (length front) k));
    later = λ k. subst (λ (f : Trace). LeavesBetween kept_in moment left_since f (front ++ back) old (at_by front back one two k (cases_lt (length front) k)) new) (sym (front_is front back k (cases_lt (length front) k))) (later_by k (cases_lt (length front) k));
    between = λ j k le.
        subst (λ (f : Trace). LeavesBetween kept_in moment left_since f (take k (front ++ back)) old (at_by front back one two j (cases_lt (length front) j)) (at_by front back one two k (cases_lt (length front) k))) (sym (front_is front back j (cases_lt (length front) j)))
        (subst (λ (f : Trace). LeavesBetween kept_in moment left_since (front_by front back j (cases_lt (length front) j)) f old (at_by front back one two j (cases_lt (length front) j)) (at_by front back one two k (cases_lt (length front) k))) (sym (front_is front back k (cases_lt (length front) k)))
        (between_by j k (cases_lt (length front) j) (cases_lt (length front) k) le));
  }

module _ (front back : Trace) (goes_on : refusals front ≡ []) where
  pub both_last : {K : Type 0} (kept_in : K → Option Bodies) (size faults moment : K → ℕ) (may_leave : K → Bodies → Type 0) (left_since : K → ℕ → Bodies → Type 0) (opens_since : K → ℕ → ℕ → Type 0) (old middle new : K)
      → Lasts kept_in size faults moment may_leave left_since opens_since front old middle
      → Lasts kept_in size faults moment may_leave left_since opens_since back middle new
      → Lasts kept_in size faults moment may_leave left_since opens_since (front ++ back) old new
  both_last {K} kept_in size faults moment may_leave left_since opens_since old middle new first second = record {
    tells = told_on front back (kept_in old) (kept_in middle) first.tells (kept_in new) second.tells;
    grows =
        omega (arith, first.grows, second.grows, ap (λ (l : List Entry). sum_by record_size l) (kept-append front back), sum_by-append record_size (kept front) (kept back));
    within = λ fits. second.within (first.within fits);
    no_less = omega (arith, first.no_less, second.no_less);
    causes = λ e why is.
        cause_since (size new) (faults old) (faults middle) (faults new) e why first.no_less
        (second.causes e why (ap (λ (l : List (Entry × NodeEnd)). l ++ refusals back) (sym goes_on) ∙ sym (refusals-append front back) ∙ is));
    later = omega (arith, first.later, second.later);
    any_moment = λ t left le may. ⊎_elim
        (λ was. ⊎_elim (λ before. inl before) (λ is. inr (front_left front back goes_on (kept_in old) left is)) (first.any_moment t left le was))
        (λ is. inr (back_left front back goes_on (kept_in old) (kept_in middle) first.tells left is))
        (second.any_moment t left (omega (arith, le, first.later)) may);
    at_end = λ left may. end_left front back goes_on (kept_in old) (kept_in middle) first.tells left (second.at_end left may);
    opens = λ owner t le was. second.opens owner t (omega (arith, le, first.later)) (first.opens owner t le was);
    written =
        subst (λ (l : List Entry). All IsWritten l) (sym (tried-append front back)) (written_both (tried front) (tried back) first.written second.written);
    unfailed = λ un left may.
        second.unfailed (λ e is. un e (refusals-append front back ∙ ap (λ (l : List (Entry × NodeEnd)). l ++ refusals back) goes_on ∙ is)) left may;
    at_front = λ k. at_by front back first.at_front second.at_front k (cases_lt (length front) k);
    path = both_path front back goes_on kept_in moment may_leave left_since old middle new first.at_front second.at_front
        first.tells second.tells first.later second.later (least_any front old middle first.any_moment) (least_any back middle new second.any_moment)
        first.path second.path;
  }
    where
      least_any : (trace : Trace) (a b : K) → ((t : ℕ) (left : Bodies) → t ≤ moment a → left_since b t left → left_since a t left ⊎ IsLeft trace (kept_in a) left)
          → LeavesBetween kept_in moment left_since [] trace a a b
      least_any trace a b any t left le was = ⊎_elim (λ w. inl w) (λ is. inr (with_least (kept_in a) left is)) (any t left le was)
        where
          with_least : (told : Option Bodies) (left : Bodies) → IsLeft trace told left → IsLeftWith 0 trace told left
          with_least None left is = tt
          with_least (Some before) left is = (is.0, omega arith, is.1, is.2)
