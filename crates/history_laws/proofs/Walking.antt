-- Rows without a fault, one after the other.
use Rattle.std.proofs.Common.{◌≡◌, ◌<◌, ℕ, false, ◌&&◌, not, eqb, List, [], ◌∷◌, ◌++◌}
use Rattle.std.proofs.Common.{None, length, refl, ap, sym, subst, ◌∙◌, arith, map, append_assoc, append-nil}
use Rattle.std.specs.Prelude.{nat_le}
use Rattle.std.specs.List.{list_any}
use Rattle.std.proofs.lemmas.Bool.Decides.{nat_tests}
use Rattle.lemmas.proofs.Booleans.{or_true}
use Rattle.lemmas.proofs.Lists.{any_with}
use Rattle.base_types.specs.declared.network.Carry.{Carry}
use Rattle.base_types.specs.declared.network.Carry.TheVariants as carry
use Rattle.record_rows.specs.declared.rows.Row.{Row}
use Rattle.record_rows.specs.declared.rows.Row.TheVariants as row
use Rattle.record_rows.specs.Ranges.{in_range}
use Rattle.record_faults.specs.Known.{Named, above_of, is_carry, is_steps}
use Rattle.record_faults.specs.Faults.{Placed, ends_too_soon, fault_from, fault_of, is_bad_line, is_bad_tree, is_beyond, is_duplicate}
use Rattle.record_faults.specs.Faults.{lacks_condition, lacks_item, lacks_station}
use Rattle.record_faults.proofs.Walks.{row_without}
use Rattle.record_script.proofs.Walked.{Passes}
use Rattle.history_laws.proofs.Printed.{told}

-- a row that passes each test has no fault
pub clean : (n : Named) (p : Placed) → Passes n p → fault_of n p ≡ None
unfolding fault_of
clean n p h =
    rw (h.whole, h.form, h.once, h.station, h.item, h.range, h.condition, h.count, h.tree, h.plan) refl

-- the walk over a section whose rows have none
pub walked : {A : Type 0} (n : Named) (g : A → Row) (xs : List A) (above rest : List Row)
    → ((before behind : List A) (x : A) → xs ≡ before ++ x ∷ behind
    → fault_of n (record { above = above ++ map g before; here = g x; below = map g behind ++ rest }) ≡ None)
    → fault_from n above (map g xs ++ rest) ≡ fault_from n (above ++ map g xs) rest
walked n g [] above rest each = ap (λ l. fault_from n l rest) (sym (append-nil above))
walked n g (x ∷ xs) above rest each =
    row_without n above (map g xs ++ rest) (g x)
    (subst (λ l. fault_of n (record { above = l; here = g x; below = map g xs ++ rest }) ≡ None) (append-nil above) (each [] xs x refl))
    ∙ walked n g xs (above ++ g x ∷ []) rest
    (λ before behind y e.
    subst (λ l. fault_of n (record { above = l; here = g y; below = map g behind ++ rest }) ≡ None)
    (sym (append_assoc above (g x ∷ []) (map g before))) (each (x ∷ before) behind y (ap (λ l. x ∷ l) e)))
    ∙ ap (λ l. fault_from n l rest) (append_assoc above (g x ∷ []) (map g xs))

pub not_last : (above below : List Row) (r : Row) → eqb (length below) 0 ≡ false
    → ends_too_soon (record { above = above; here = r; below = below }) ≡ false
not_last above below r e = ap (λ b. b && not (list_any is_steps (above ++ r ∷ []))) e

-- Counts of rows, by what is picked of them.

pub not_beyond : (most n k : ℕ) → n ≡ k → k < most → nat_le most n ≡ false
not_beyond most n k e low = grind (arith, nat_tests)

-- Rows that ask for nothing.

pub head_passes : (n : Named) (below : List Row) → eqb (length below) 0 ≡ false
    → Passes n (record { above = []; here = row.Network; below = below })
unfolding is_bad_line is_duplicate lacks_station lacks_item in_range lacks_condition is_beyond is_bad_tree
head_passes n below some =
    record {
      whole = not_last [] below row.Network some;
      form = refl;
      once = refl;
      station = refl;
      item = refl;
      range = refl;
      condition = refl;
      count = refl;
      tree = refl;
      plan = refl;
    }

pub master_passes : (n : Named) (name : List ℕ) (below : List Row) → eqb (length below) 0 ≡ false
    → Passes n (record { above = row.Network ∷ []; here = row.Master name; below = below })
unfolding is_bad_line is_duplicate lacks_station lacks_item in_range lacks_condition is_beyond is_bad_tree
master_passes n name below some =
    record {
      whole = not_last (row.Network ∷ []) below (row.Master name) some;
      form = refl;
      once = refl;
      station = refl;
      item = refl;
      range = refl;
      condition = refl;
      count = refl;
      tree = refl;
      plan = refl;
    }

carry_passes : (n : Named) (above below : List Row) (c : Carry) → list_any is_carry above ≡ false → eqb (length below) 0 ≡ false
    → Passes n (record { above = above; here = row.CarryForward c; below = below })
unfolding above_of is_bad_line is_duplicate lacks_station lacks_item in_range lacks_condition is_beyond is_bad_tree
carry_passes n above below c none some =
    record {
      whole = not_last above below (row.CarryForward c) some;
      form = refl;
      once = none;
      station = refl;
      item = refl;
      range = refl;
      condition = refl;
      count = refl;
      tree = refl;
      plan = refl;
    }

steps_pass : (n : Named) (above : List Row) → Passes n (record { above = above; here = row.Steps; below = [] })
unfolding is_bad_line is_duplicate lacks_station lacks_item in_range lacks_condition is_beyond is_bad_tree
steps_pass n above =
    record {
      whole = ap not (any_with is_steps above row.Steps ∙ or_true (list_any is_steps above));
      form = refl;
      once = refl;
      station = refl;
      item = refl;
      range = refl;
      condition = refl;
      count = refl;
      tree = refl;
      plan = refl;
    }

-- the end of the network
steps_walk : (n : Named) (above : List Row) → fault_from n above (row.Steps ∷ []) ≡ None
steps_walk n above =
    row_without n above [] row.Steps (clean n (record { above = above; here = row.Steps; below = [] }) (steps_pass n above))

carry_walk : (n : Named) (above : List Row) (c : Carry) → list_any is_carry above ≡ false
    → fault_from n above (row.CarryForward c ∷ row.Steps ∷ []) ≡ None
carry_walk n above c none =
    row_without n above (row.Steps ∷ []) (row.CarryForward c)
    (clean n (record { above = above; here = row.CarryForward c; below = row.Steps ∷ [] })
    (carry_passes n above (row.Steps ∷ []) c none refl))
    ∙ steps_walk n (above ++ row.CarryForward c ∷ [])

pub end_walk : (n : Named) (above : List Row) (c : Carry) → list_any is_carry above ≡ false
    → fault_from n above (map row.CarryForward (told c) ++ row.Steps ∷ []) ≡ None
end_walk n above carry.Yes none = steps_walk n above
end_walk n above carry.No none = carry_walk n above carry.No none
end_walk n above carry.All none = carry_walk n above carry.All none
