-- What is known of each row of a record without faults.
use Rattle.std.proofs.Common.{◌≡◌, ℕ, ◌+◌, Bool, true, false, ◌||◌, not, List, [], ◌∷◌, ◌++◌, Option, Some, None, length}
use Rattle.std.proofs.Common.{refl, sym, subst, append-nil, append_assoc, cond}
use Rattle.std.specs.Option.{option_map_or}
use Rattle.lemmas.proofs.Booleans.{neither, not_fails}
use Rattle.record_rows.specs.declared.rows.Row.{Row}
use Rattle.record_rows.specs.Ranges.{in_range}
use Rattle.record_faults.specs.Known.{Named, above_of}
use Rattle.record_faults.specs.Faults.{Placed, fault_of, fault_from, first_fault, is_bad_line, is_duplicate, lacks_station}
use Rattle.record_faults.specs.Faults.{lacks_item, items_around, lacks_condition, is_beyond, is_bad_tree, has_no_plan}
use Rattle.record_faults.specs.Faults.{ends_too_soon}
use Rattle.record_faults.specs.declared.kinds.ScriptKind.{ScriptKind}
use Rattle.record_faults.specs.declared.kinds.ScriptKind.TheVariants as kind

-- a row without a fault passes each test
pub record Passes (n : Named) (p : Placed) : Type 0 where
  pub whole : ends_too_soon p ≡ false
  pub form : is_bad_line n.stations p.here ≡ false
  pub once : is_duplicate (above_of p.above) p.here ≡ false
  pub station : lacks_station n.stations p.here ≡ false
  pub item : lacks_item (items_around n p) (above_of p.above).ws p.here ≡ false
  pub range : in_range p.here ≡ true
  pub condition : lacks_condition p.here ≡ false
  pub count : is_beyond (above_of p.above) p.here ≡ false
  pub tree : is_bad_tree n.stations p.here ≡ false
  pub plan : has_no_plan (above_of p.above) p.here ≡ false

none_of : (b : Bool) (k : ScriptKind) (o : Option ScriptKind)
    → cond b (Some k) o ≡ None → (b ≡ false) × (o ≡ None)
none_of true k o e = absurd (cc)
none_of false k o e = (refl, e)

pub passes : (n : Named) (p : Placed) → fault_of n p ≡ None → Passes n p
unfolding fault_of
passes n p e =
    let a = above_of p.above in
    let r = p.here in
    let first = none_of (ends_too_soon p || is_bad_line n.stations r) kind.BadLine _ e in
    let second = none_of (is_duplicate a r) kind.Duplicate _ first.1 in
    let third = none_of (lacks_station n.stations r || lacks_item (items_around n p) a.ws r) kind.UnknownName _ second.1 in
    let fourth = none_of (not (in_range r) || (lacks_condition r || is_beyond a r)) kind.OutOfRange _ third.1 in
    let fifth = none_of (is_bad_tree n.stations r) kind.BadTree _ fourth.1 in
    let sixth = none_of (has_no_plan a r) kind.NoPlan _ fifth.1 in
    let line = neither (ends_too_soon p) (is_bad_line n.stations r) first.0 in
    let names = neither (lacks_station n.stations r) (lacks_item (items_around n p) a.ws r) third.0 in
    let ranges = neither (not (in_range r)) (lacks_condition r || is_beyond a r) fourth.0 in
    let counts = neither (lacks_condition r) (is_beyond a r) ranges.1 in
    record {
      whole = line.0;
      form = line.1;
      once = second.0;
      station = names.0;
      item = names.1;
      range = not_fails (in_range r) ranges.0;
      condition = counts.0;
      count = counts.1;
      tree = fifth.0;
      plan = sixth.0;
    }

no_first : (f : Option ScriptKind) (line : ℕ) (rest : Option (ℕ × ScriptKind))
    → option_map_or (λ k. Some (line, k)) f rest ≡ None → (f ≡ None) × (rest ≡ None)
no_first None line rest e = (refl, e)
no_first (Some k) line rest e = absurd (cc)

pub none_among : (n : Named) (before above below : List Row) (r : Row)
    → fault_from n before (above ++ r ∷ below) ≡ None
    → fault_of n (record { above = before ++ above; here = r; below = below }) ≡ None
none_among n before [] below r e =
    let first = no_first (fault_of n (record { above = before; here = r; below = below })) (1 + length before)
    (fault_from n (before ++ r ∷ []) below) e in
    subst (λ l. fault_of n (record { above = l; here = r; below = below }) ≡ None) (sym (append-nil before)) first.0
none_among n before (x ∷ above) below r e =
    let first = no_first (fault_of n (record { above = before; here = x; below = above ++ r ∷ below })) (1 + length before)
    (fault_from n (before ++ x ∷ []) (above ++ r ∷ below)) e in
    subst (λ l. fault_of n (record { above = l; here = r; below = below }) ≡ None) (append_assoc before (x ∷ []) above)
    (none_among n (before ++ x ∷ []) above below r first.1)

from_first : (n : Named) (rows : List Row) → first_fault n rows ≡ None → fault_from n [] rows ≡ None
unfolding first_fault
from_first n [] e = absurd (cc)
from_first n (r ∷ rows) e = e

-- each row of a record without faults passes each test
pub each_passes : (n : Named) (rows above below : List Row) (r : Row) → first_fault n rows ≡ None
    → rows ≡ above ++ r ∷ below → Passes n (record { above = above; here = r; below = below })
each_passes n rows above below r e is =
    passes n (record { above = above; here = r; below = below })
    (none_among n [] above below r (from_first n (above ++ r ∷ below) (subst (λ l. first_fault n l ≡ None) is e)))

pub some_rows : (n : Named) (rows : List Row) → first_fault n rows ≡ None → rows ≡ [] → ⊥
unfolding first_fault
some_rows n [] e is = absurd (cc)
some_rows n (r ∷ rows) e is = absurd (cc)
