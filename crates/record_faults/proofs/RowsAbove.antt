-- What stands above the next row.
use Rattle.std.proofs.Common.{◌≡◌, ◌≤◌, ℕ, ◌+◌, Bool, take, true, false, ◌&&◌, ◌||◌, not, List, [], ◌∷◌, ◌++◌, Option, Some, None, length, refl, ap, sym, ◌∙◌, cond, if◌then◌else◌, append-nil, length-append, bytes_eq}
use Rattle.std.specs.Prelude.{filter_map, count_by}
use Rattle.std.specs.List.{cons_option}
use Rattle.std.proofs.lemmas.List.Sums.{sum_by-append}
use Rattle.std.proofs.lemmas.List.{length-take-le}
use Rattle.std.proofs.lemmas.List.Elements.{filter_map-append}
use Rattle.lemmas.proofs.Lists.{any_with}
use Rattle.record_rows.specs.declared.rows.Row.{Row}
use Rattle.record_faults.specs.Known.{Key, key_eq, has_key, has_name, Above, above_of, is_ws, is_resource, is_prompt, is_carry}
use Rattle.record_faults.specs.Known.{is_plan, begins_stream, is_object, is_dep, is_next, since, since_from, last_of}
use Rattle.record_faults.specs.Known.{station_name, resource_of, prompt_of, stream_of, job_of, object_ws}
use Rattle.record_faults.specs.Noted.{is_name, is_key, one_if, deps_behind, ws_behind, IsNoted, IsSame}
use Rattle.record_faults.proofs.Sets.{passes, picked_more}

named_passes : (o : Option (List ℕ)) (n : List ℕ) → passes (bytes_eq n) o ≡ is_name o n
named_passes None n = refl
named_passes (Some m) n = refl

keyed_passes : (o : Option Key) (k : Key) → passes (key_eq k) o ≡ is_key o k
keyed_passes None k = refl
keyed_passes (Some l) k = refl

pub names_more : (f : Row → Option (List ℕ)) (rows : List Row) (r : Row) (n : List ℕ)
    → has_name (filter_map f (rows ++ r ∷ [])) n ≡ (has_name (filter_map f rows) n || is_name (f r) n)
names_more f rows r n =
    picked_more f (bytes_eq n) rows r ∙ ap (λ b. has_name (filter_map f rows) n || b) (named_passes (f r) n)

pub keys_more : (f : Row → Option Key) (rows : List Row) (r : Row) (k : Key)
    → has_key (filter_map f (rows ++ r ∷ [])) k ≡ (has_key (filter_map f rows) k || is_key (f r) k)
keys_more f rows r k =
    picked_more f (key_eq k) rows r ∙ ap (λ b. has_key (filter_map f rows) k || b) (keyed_passes (f r) k)

one_counted : (p : Row → Bool) (r : Row) (b : Bool) → p r ≡ b → count_by p (r ∷ []) ≡ one_if b
one_counted p r true is = rw is refl
one_counted p r false is = rw is refl

pub count_more : (p : Row → Bool) (rows : List Row) (r : Row)
    → count_by p (rows ++ r ∷ []) ≡ count_by p rows + one_if (p r)
count_more p rows r = sum_by-append (λ x. cond (p x) 1 0) rows (r ∷ []) ∙ ap (λ n. count_by p rows + n) (one_counted p r (p r) refl)

since_step : (p : Row → Bool) (some rows : List Row) (x r : Row) (b : Bool)
    → since_from p [] (rows ++ r ∷ []) ≡ (if p r then [] else since_from p [] rows ++ r ∷ [])
    → since_from p (some ++ x ∷ []) (rows ++ r ∷ []) ≡ (if p r then [] else since_from p (some ++ x ∷ []) rows ++ r ∷ [])
    → (if b then since_from p [] (rows ++ r ∷ []) else since_from p (some ++ x ∷ []) (rows ++ r ∷ []))
    ≡ (if p r then [] else (if b then since_from p [] rows else since_from p (some ++ x ∷ []) rows) ++ r ∷ [])
since_step p some rows x r true e h = e
since_step p some rows x r false e h = h

since_from_more : (p : Row → Bool) (some rows : List Row) (r : Row)
    → since_from p some (rows ++ r ∷ []) ≡ (if p r then [] else since_from p some rows ++ r ∷ [])
since_from_more p some [] r = refl
since_from_more p some (x ∷ rows) r =
    since_step p some rows x r (p x) (since_from_more p [] rows r) (since_from_more p (some ++ x ∷ []) rows r)

pub since_more : (p : Row → Bool) (rows : List Row) (r : Row)
    → since p (rows ++ r ∷ []) ≡ (if p r then [] else since p rows ++ r ∷ [])
since_more p rows r = since_from_more p [] rows r

streams_by : (b : Bool) (rows : List Row) (r : Row) (k : Key)
    → has_key (filter_map stream_of (if b then [] else rows ++ r ∷ [])) k
    ≡ (not b && (has_key (filter_map stream_of rows) k || is_key (stream_of r) k))
streams_by true rows r k = refl
streams_by false rows r k = keys_more stream_of rows r k

jobs_by : (b : Bool) (rows : List Row) (r : Row) (n : List ℕ)
    → has_name (filter_map job_of (if b then [] else rows ++ r ∷ [])) n
    ≡ (not b && (has_name (filter_map job_of rows) n || is_name (job_of r) n))
jobs_by true rows r n = refl
jobs_by false rows r n = names_more job_of rows r n

deps_by : (b : Bool) (rows : List Row) (r : Row)
    → count_by is_dep (if b then [] else rows ++ r ∷ []) ≡ (if b then 0 else (count_by is_dep rows + one_if (is_dep r)))
deps_by true rows r = refl
deps_by false rows r = count_more is_dep rows r

last_more : {A : Type 0} (found : Option A) (xs : List A) (a : A) → last_of found (xs ++ a ∷ []) ≡ Some a
last_more found [] a = refl
last_more found (x ∷ xs) a = last_more (Some x) xs a

ws_by : (o : Option (List ℕ)) (some : List (List ℕ))
    → last_of None (some ++ cons_option o []) ≡ ws_behind (last_of None some) o
ws_by None some = ap (last_of None) (append-nil some)
ws_by (Some w) some = last_more None some w

-- one row further
pub noted : (rows : List Row) (r : Row) (a b : Above) → IsSame a (above_of rows) → IsNoted a r b
    → IsSame b (above_of (rows ++ r ∷ []))
unfolding above_of
noted rows r a b s m =
    record {
      rows = m.rows ∙ ap (λ n. n + 1) s.rows ∙ sym (length-append rows (r ∷ []));
      stations = λ n. m.stations n ∙ ap (λ x. x || is_name (station_name r) n) (s.stations n) ∙ sym (names_more station_name rows r n);
      resources = λ k. m.resources k ∙ ap (λ x. x || is_key (resource_of r) k) (s.resources k) ∙ sym (keys_more resource_of rows r k);
      prompts = λ n. m.prompts n ∙ ap (λ x. x || is_name (prompt_of r) n) (s.prompts n) ∙ sym (names_more prompt_of rows r n);
      ws_lines = m.ws_lines ∙ ap (λ n. n + one_if (is_ws r)) s.ws_lines ∙ sym (count_more is_ws rows r);
      resource_lines = m.resource_lines ∙ ap (λ n. n + one_if (is_resource r)) s.resource_lines ∙ sym (count_more is_resource rows r);
      prompt_lines = m.prompt_lines ∙ ap (λ n. n + one_if (is_prompt r)) s.prompt_lines ∙ sym (count_more is_prompt rows r);
      carry = m.carry ∙ ap (λ x. x || is_carry r) s.carry ∙ sym (any_with is_carry rows r);
      streams = λ k.
          m.streams k ∙ ap (λ x. not (is_plan r) && (x || is_key (stream_of r) k)) (s.streams k)
          ∙ sym (ap (λ l. has_key (filter_map stream_of l) k) (since_more is_plan rows r)
          ∙ streams_by (is_plan r) (since is_plan rows) r k);
      jobs = λ n.
          m.jobs n ∙ ap (λ x. not (begins_stream r) && (x || is_name (job_of r) n)) (s.jobs n)
          ∙ sym (ap (λ l. has_name (filter_map job_of l) n) (since_more begins_stream rows r)
          ∙ jobs_by (begins_stream r) (since begins_stream rows) r n);
      ws = m.ws ∙ ap (λ o. ws_behind o (object_ws r)) s.ws
          ∙ sym (ap (last_of None) (filter_map-append object_ws rows (r ∷ []))
          ∙ ws_by (object_ws r) (filter_map object_ws rows));
      deps = m.deps ∙ ap (λ n. deps_behind n r) s.deps
          ∙ sym (ap (count_by is_dep) (since_more is_object rows r) ∙ deps_by (is_object r) (since is_object rows) r);
      plans = m.plans ∙ ap (λ n. n + one_if (is_plan r)) s.plans ∙ sym (count_more is_plan rows r);
      taken = m.taken ∙ ap (λ n. n + one_if (is_next r)) s.taken ∙ sym (count_more is_next rows r);
    }

-- how many they are
pub rows_above : (rows : List Row) (i : ℕ) (a : Above) → i ≤ length rows → IsSame a (above_of (take i rows)) → a.rows ≡ i
unfolding above_of
rows_above rows i a h s = s.rows ∙ length-take-le i rows h
