-- Walks over rows without a fault, and what stands above the next row.
use Rattle.std.proofs.Common.{◌≡◌, ◌+◌, ℕ, Bool, true, false, eqb, List, [], ◌∷◌, ◌++◌}
use Rattle.std.proofs.Common.{Option, Some, None, length, refl, ap, sym, subst, ◌∙◌, append-nil, append_assoc, if◌then◌else◌}
use Rattle.std.specs.Prelude.{count_by, filter_map}
use Rattle.std.specs.List.{list_all}
use Rattle.std.proofs.lemmas.List.Elements.{filter_map-append}
use Rattle.lemmas.proofs.Booleans.{and_parts}
use Rattle.history_laws.proofs.Sections.{some_below}
use Rattle.history_laws.proofs.Walking.{clean, not_last}
use Rattle.record_faults.specs.Faults.{Items, fault_from, fault_of, lacks_item}
use Rattle.record_faults.specs.Known.{Key, Named, begins_stream, is_dep, is_object, is_plan, last_of, object_ws, since}
use Rattle.record_faults.specs.Known.{job_of, stream_of}
use Rattle.record_faults.specs.Noted.{one_if}
use Rattle.record_faults.proofs.RowsAbove.{count_more, since_more}
use Rattle.record_faults.proofs.Walks.{row_without}
use Rattle.record_rows.specs.declared.rows.Row.{Row}
use Rattle.record_rows.specs.declared.rows.Row.TheVariants as row
use Rattle.record_script.proofs.Walked.{Passes, none_among, passes}

-- None of the rows has a fault below these, whatever stands below.
abbrev pub Clear : Named → List Row → List Row → Type 0
Clear n above rows =
    (rest : List Row) → eqb (length rest) 0 ≡ false → fault_from n above (rows ++ rest) ≡ fault_from n (above ++ rows) rest

pub clear_none : (n : Named) (above : List Row) → Clear n above []
clear_none n above = λ rest some. ap (λ l. fault_from n l rest) (sym (append-nil above))

pub clear_row : (n : Named) (above : List Row) (r : Row)
    → ((below : List Row) → eqb (length below) 0 ≡ false → Passes n (record { above = above; here = r; below = below }))
    → Clear n above (r ∷ [])
clear_row n above r pass = λ rest some.
    row_without n above rest r (clean n (record { above = above; here = r; below = rest }) (pass rest some))

pub clear_both : (n : Named) (above xs ys : List Row) → Clear n above xs → Clear n (above ++ xs) ys → Clear n above (xs ++ ys)
clear_both n above xs ys h k = λ rest some.
    ap (fault_from n above) (append_assoc xs ys rest)
    ∙ h (ys ++ rest) (some_below ys rest some) ∙ k rest some ∙ ap (λ l. fault_from n l rest) (append_assoc above xs ys)

-- A front that has no fault above some rows has none above others.

-- rows of a network, before its end
abbrev pub is_quiet : Row → Bool
is_quiet row.Network = true
is_quiet (row.Master n) = true
is_quiet (row.Station s) = true
is_quiet (row.Resource w n t) = true
is_quiet (row.Prompt n t) = true
is_quiet (row.CarryForward c) = true
is_quiet r = false

quiet_item : (i : Items) (ws : Option (List ℕ)) (r : Row) → is_quiet r ≡ true → lacks_item i ws r ≡ false
unfolding lacks_item
quiet_item i ws row.Network e = refl
quiet_item i ws (row.Master n) e = refl
quiet_item i ws (row.Station s) e = refl
quiet_item i ws (row.Resource w n t) e = refl
quiet_item i ws (row.Prompt n t) e = refl
quiet_item i ws (row.CarryForward c) e = refl
quiet_item i ws r e = absurd (cc)

quiet_passes : (n : Named) (above below other : List Row) (r : Row) → is_quiet r ≡ true → eqb (length other) 0 ≡ false
    → Passes n (record { above = above; here = r; below = below }) → Passes n (record { above = above; here = r; below = other })
quiet_passes n above below other r quiet some h =
    record {
      whole = not_last above other r some;
      form = h.form;
      once = h.once;
      station = h.station;
      item = quiet_item _ _ r quiet;
      range = h.range;
      condition = h.condition;
      count = h.count;
      tree = h.tree;
      plan = h.plan;
    }

pub front_clear : (n : Named) (above front below : List Row) → list_all is_quiet front ≡ true
    → fault_from n above (front ++ below) ≡ None → Clear n above front
front_clear n above [] below quiet none = clear_none n above
front_clear n above (r ∷ front) below quiet none = λ rest some.
    let parts = and_parts (is_quiet r) (list_all is_quiet front) quiet in
    let here : fault_of n (record { above = above; here = r; below = front ++ below }) ≡ None =
    subst (λ l. fault_of n (record { above = l; here = r; below = front ++ below }) ≡ None) (append-nil above)
    (none_among n above [] (front ++ below) r none) in
    let there : fault_of n (record { above = above; here = r; below = front ++ rest }) ≡ None =
    clean n (record { above = above; here = r; below = front ++ rest })
    (quiet_passes n above (front ++ below) (front ++ rest) r parts.0 (some_below front rest some)
    (passes n (record { above = above; here = r; below = front ++ below }) here)) in
    row_without n above (front ++ rest) r there
    ∙ front_clear n (above ++ r ∷ []) front below parts.1 (sym (row_without n above (front ++ below) r here) ∙ none) rest some
    ∙ ap (λ l. fault_from n l rest) (append_assoc above (r ∷ []) front)

-- What stands above the next row.

-- the keys of the streams of this section, the names of the jobs of this stream, the workstation of the last object, and
-- how many dependencies it has
pub record Stand (above : List Row) (keys : List Key) (names : List (List ℕ)) (on : Option (List ℕ)) (count : ℕ) : Type 0 where
  pub streams : filter_map stream_of (since is_plan above) ≡ keys
  pub jobs : filter_map job_of (since begins_stream above) ≡ names
  pub ws : last_of None (filter_map object_ws above) ≡ on
  pub deps : count_by is_dep (since is_object above) ≡ count

pub kept_since : {B : Type 0} (p : Row → Bool) (f : Row → Option B) (above : List Row) (r : Row) → p r ≡ false
    → filter_map f (since p (above ++ r ∷ [])) ≡ filter_map f (since p above) ++ filter_map f (r ∷ [])
kept_since p f above r other =
    ap (filter_map f) (since_more p above r ∙ ap (λ b. if b then [] else since p above ++ r ∷ []) other)
    ∙ filter_map-append f (since p above) (r ∷ [])

pub cut_since : (p : Row → Bool) (above : List Row) (r : Row) → p r ≡ true → since p (above ++ r ∷ []) ≡ []
cut_since p above r is = since_more p above r ∙ ap (λ b. if b then [] else since p above ++ r ∷ []) is

pub counted_since : (p q : Row → Bool) (above : List Row) (r : Row) → p r ≡ false
    → count_by q (since p (above ++ r ∷ [])) ≡ count_by q (since p above) + one_if (q r)
counted_since p q above r other =
    ap (count_by q) (since_more p above r ∙ ap (λ b. if b then [] else since p above ++ r ∷ []) other)
    ∙ count_more q (since p above) r

last_both : {A : Type 0} (found : Option A) (xs ys : List A) → last_of found (xs ++ ys) ≡ last_of (last_of found xs) ys
last_both found [] ys = refl
last_both found (x ∷ xs) ys = last_both (Some x) xs ys

-- behind a row that is no object
pub same_ws : (above : List Row) (r : Row) → filter_map object_ws (r ∷ []) ≡ []
    → last_of None (filter_map object_ws (above ++ r ∷ [])) ≡ last_of None (filter_map object_ws above)
same_ws above r none =
    ap (last_of None)
    (filter_map-append object_ws above (r ∷ []) ∙ ap (λ l. filter_map object_ws above ++ l) none
    ∙ append-nil (filter_map object_ws above))

-- and behind an object
pub new_ws : (above : List Row) (r : Row) (w : List ℕ) → filter_map object_ws (r ∷ []) ≡ w ∷ []
    → last_of None (filter_map object_ws (above ++ r ∷ [])) ≡ Some w
new_ws above r w some =
    ap (last_of None) (filter_map-append object_ws above (r ∷ []) ∙ ap (λ l. filter_map object_ws above ++ l) some)
    ∙ last_both None (filter_map object_ws above) (w ∷ [])
