-- How the disk of a service stood when its node was made, and at each front of its trace.
use Rattle.std.proofs.Common.{zero, suc, drop, take, take-append-drop, [], ℕ, ◌+◌, ◌++◌, ◌<◌, ◌≡◌, ◌≤◌, ◌∙◌, ◌∷◌, ◌⊎◌, IfSome, List, None, Option, Some, ap, arith, inl, inr, length, length-append, option_map, refl, subst, sym, ⊎_elim}
use Rattle.std.proofs.lemmas.List.{append-nil, map-append, take-append-le}
use Rattle.std.proofs.lemmas.List.Sums.{sum-map, sum_by-append, sum_by-cons}
use Rattle.std.specs.Prelude.{sum_by}
use Rattle.base_types.specs.declared.LimitName.TheVariants as limit
use Rattle.base_types.specs.declared.LimitName.TheVariants.{Bytes, File, Input, Packets, Places, Plan, Steps}
use Rattle.model.specs.Spelling.{entry_bytes}
use Rattle.model.specs.Types.{Entry}
use Rattle.outside.specs.Kept.{Bodies, IsKept, size_of}
use Rattle.outside.specs.Records.{longest_file}
use Rattle.outside.specs.Stops.{LeavesOnly}
use Rattle.message_file.specs.Attaching.{LeftAttaching}
use Rattle.message_file.specs.Files.{kept_of}
use Rattle.message_file.specs.State.{FileState, KeptLeft, kept_in}
use Rattle.node_inputs.specs.Keeping.{IsLeft, IsLeftWith, IsRefusal, IsLeftAtEnd, IsPath, IsUnfailed, KeeperTells, bodies, kept_size, record_size}
use Rattle.node_inputs.specs.Traces.{Trace, kept, refusals, tried}
use Rattle.node_inputs.proofs.Fronts.{tried-append}
use Rattle.node_inputs.proofs.Lasting.{one_is}
use Rattle.node_inputs.specs.declared.ends.NodeEnd.{NodeEnd}
use Rattle.node_inputs.specs.declared.ends.NodeEnd.TheVariants.{DiskFault, Limit, NoMemory, Shutdown, TurnsSpent}
use Rattle.composer_parser.specs.declared.Defs.{Defs}
use Rattle.node_service.specs.Serving.{IsFull, KeepsFront, Stands, told_kept}
use Rattle.node_restart.specs.Stopping.{KeptSince}
use Rattle.node_service.proofs.Serving.{end_told, keeps_front, none_is, serving_left, some_is}

-- the sizes of records, by their bodies and by their entries
sum_bodies : (es : List Entry) → sum_by (λ (body : List ℕ). 5 + length body) (bodies es) ≡ sum_by record_size es
sum_bodies [] = refl
sum_bodies (e ∷ es) =
    omega (arith, sum_by-cons (λ (body : List ℕ). 5 + length body) (entry_bytes e) (bodies es), sum_by-cons record_size e es, sum_bodies es)

size_is : (es : List Entry) → size_of (bodies es) ≡ 9 + sum_by record_size es
size_is es = ap (λ (n : ℕ). 9 + n) (sum-map (λ (body : List ℕ). 5 + length body) (bodies es) ∙ sum_bodies es)

size_more : (entries : List Entry) (trace : Trace)
    → size_of (bodies (entries ++ kept trace)) ≡ size_of (bodies entries) + kept_size trace
size_more entries trace =
    omega (arith, size_is (entries ++ kept trace), size_is entries, sum_by-append record_size entries (kept trace))

-- a full file, by its size
pub is_full : (count gate last : ℕ) (told now : Option (List ℕ)) (entries : List Entry) (trace : Trace) (e : Entry)
    → IfSome told (λ (file : List ℕ). kept_in now count ≡ Some (bodies entries))
    → IfSome (kept_in now count) (λ (b : Bodies). gate + 1 ≡ size_of b) → refusals trace ≡ (e, Limit File) ∷ []
    → last + 1 ≡ gate + 1 + kept_size trace → longest_file < last + 1 + record_size e
    → IfSome told (λ (file : List ℕ). IsFull entries trace)
is_full count gate last None now entries trace e is rest refused grows over = tt
is_full count gate last (Some file) None entries trace e is rest refused grows over = absurd (none_is is)
is_full count gate last (Some file) (Some n) entries trace e is rest refused grows over =
    let size : gate + 1 ≡ size_of (bodies entries) =
    rest ∙ ap size_of (some_is is) in
    record { entry = e; refused = refused; over = omega (arith, over, grows, size, size_more entries trace) }

-- an end is a refusal, or it is none
is_refusal : (why : NodeEnd) → IsRefusal why ⊎ (IsRefusal why → ⊥)
is_refusal DiskFault = inl (inl refl)
is_refusal (Limit File) = inl (inr refl)
is_refusal Shutdown = inr (λ is. ⊎_elim (λ a. cc) (λ a. cc) is)
is_refusal TurnsSpent = inr (λ is. ⊎_elim (λ a. cc) (λ a. cc) is)
is_refusal NoMemory = inr (λ is. ⊎_elim (λ a. cc) (λ a. cc) is)
is_refusal (Limit Input) = inr (λ is. ⊎_elim (λ a. cc) (λ a. cc) is)
is_refusal (Limit Steps) = inr (λ is. ⊎_elim (λ a. cc) (λ a. cc) is)
is_refusal (Limit Packets) = inr (λ is. ⊎_elim (λ a. cc) (λ a. cc) is)
is_refusal (Limit Bytes) = inr (λ is. ⊎_elim (λ a. cc) (λ a. cc) is)
is_refusal (Limit Plan) = inr (λ is. ⊎_elim (λ a. cc) (λ a. cc) is)
is_refusal (Limit limit.Entry) = inr (λ is. ⊎_elim (λ a. cc) (λ a. cc) is)
is_refusal (Limit Places) = inr (λ is. ⊎_elim (λ a. cc) (λ a. cc) is)

one_end : (e d : Entry) (v w : NodeEnd) → ◌≡◌ {A = List (Entry × NodeEnd)} ((e, v) ∷ []) ((d, w) ∷ []) → v ≡ w
one_end e d v w h = ap (λ (p : Entry × NodeEnd). p.1) (one_is (e, v) (d, w) h)

no_one : (e : Entry) (w : NodeEnd) → ◌≡◌ {A = List (Entry × NodeEnd)} [] ((e, w) ∷ []) → ⊥
no_one e w h = cc

-- where the disk did not end the run it refused no entry
pub none_failed : (trace : Trace) (why : NodeEnd) → (IsRefusal why → (e : Entry) × (refusals trace ≡ (e, why) ∷ []))
    → ((IsRefusal why → ⊥) → refusals trace ≡ []) → (why ≡ DiskFault → ⊥) → IsUnfailed trace
none_failed trace why forced unforced other e is = ⊎_elim
    (λ r. let f = forced r in other (one_end f.0 e why DiskFault (sym f.1 ∙ is)))
    (λ n. no_one e DiskFault (sym (unforced n) ∙ is))
    (is_refusal why)

with_told : (least : ℕ) (trace : Trace) (told : Option (List ℕ)) (entries : List Entry) (held : Option Bodies) (left : Bodies)
    → IfSome told (λ (file : List ℕ). held ≡ Some (bodies entries)) → IsLeftWith least trace held left
    → IsLeftWith least trace (told_kept told entries) left
with_told least trace None entries held left is h = tt
with_told least trace (Some file) entries held left is h = subst (λ (o : Option Bodies). IsLeftWith least trace o left) is h

-- what is kept is what was held and what the trace kept
pub kept_told : (trace : Trace) (told : Option (List ℕ)) (entries : List Entry) (held now : Option Bodies) (left : Bodies)
    → IfSome told (λ (file : List ℕ). held ≡ Some (bodies entries)) → KeeperTells trace held now → IsKept now left
    → IsKept (told_kept told (entries ++ kept trace)) left
kept_told trace None entries held now left is tells h = tt
kept_told trace (Some file) entries held now left is tells h = subst (λ (o : Option Bodies). IsKept o left) whole h
  where
    whole : now ≡ Some (bodies (entries ++ kept trace))
    whole =
        tells ∙ ap (option_map (λ (before : Bodies). before ++ bodies (kept trace))) is
        ∙ ap Some (sym (map-append entry_bytes entries (kept trace)))

-- the file keeps what is held
pub first_keeps : (told now : Option (List ℕ)) (entries : List Entry) (count : ℕ)
    → IfSome told (λ (file : List ℕ). kept_in now count ≡ Some (bodies entries)) → KeepsFront (bodies entries) told now
first_keeps None now entries count is = tt
first_keeps (Some file) None entries count is = absurd (none_is is)
first_keeps (Some file) (Some n) entries count is = (count, some_is is)

-- what is held, where the disk tells it
pub held_told : (told : Option (List ℕ)) (entries : List Entry) (held : Option Bodies) (left : Bodies)
    → IfSome told (λ (file : List ℕ). held ≡ Some (bodies entries)) → IsKept held left → IsKept (told_kept told entries) left
held_told None entries held left is h = tt
held_told (Some file) entries held left is h = subst (λ (o : Option Bodies). IsKept o left) is h

pub kept_is_left : (trace : Trace) (held : Option Bodies) (left : Bodies) → IsKept held left → IsLeft trace held left
kept_is_left trace None left h = tt
kept_is_left trace (Some before) left h = (0, omega arith, h ∙ sym (append-nil before))

-- a shorter front is one of a longer
pub front_of : {X : Type 0} (j k : ℕ) (xs : List X) → j ≤ k → (r : List X) × (take k xs ≡ take j xs ++ r)
front_of {X} zero k xs le = (take k xs, refl)
front_of {X} (suc j) zero xs le = absurd (omega (arith, le))
front_of {X} (suc j) (suc k) [] le = ([], refl)
front_of {X} (suc j) (suc k) (x ∷ xs) le =
    let f = front_of j k xs (omega (arith, le)) in (f.0, ap (λ (l : List X). x ∷ l) f.1)

-- what a front may leave, more may leave
with_more : (front rest : Trace) (told : Option Bodies) (left : Bodies) → IsLeftAtEnd front told left
    → IsLeftWith (length (kept front)) (front ++ rest) told left
with_more front rest None left is = tt
with_more front rest (Some before) left is = (
  is.0,
  is.1,
  omega (arith, is.2, ap length (tried-append front rest), length-append (tried front) (tried rest)),
  is.3
      ∙ ap (λ (l : List Entry). before ++ bodies l)
      (sym (take-append-le is.0 (tried front) (tried rest) is.2) ∙ ap (λ (l : List Entry). take is.0 l) (sym (tried-append front rest))),
)

-- before the first event nothing was to be kept
some_of_none : (held : Option Bodies) (left : Bodies) → IsLeftWith 0 [] held left → IsLeft [] held left
some_of_none None left is = tt
some_of_none (Some before) left is = (is.0, is.2, is.3)

module _ {D : Type 0} (seen : D → Option (List ℕ)) (faults moment : D → ℕ) (may_leave : D → List ℕ → Type 0)
    (left_since : D → ℕ → List ℕ → Type 0) (defs : Defs) (me : ℕ) where
  -- the disk at the fronts of the trace
  pub standing : ((disk : D) (file : List ℕ) → left_since disk (moment disk) file → may_leave disk file) → (old : D)
      → (mid new : FileState D) (keeper : ℕ → FileState D) (entries : List Entry) (trace : Trace)
      → IfSome (seen old) (λ (file : List ℕ). kept_in (seen mid.disk) mid.count ≡ Some (bodies entries))
      → IsPath (λ (m : FileState D). kept_in (seen m.disk) m.count) (λ (m : FileState D). moment m.disk)
      (λ (m : FileState D). KeptLeft (may_leave m.disk)) (λ (m : FileState D) (t : ℕ). KeptLeft (left_since m.disk t)) trace mid new keeper
      → LeavesOnly moment (KeptSince left_since) old mid.disk (KeptLeft (LeftAttaching me (seen old) (may_leave old)))
      → Stands seen faults moment may_leave left_since defs me entries trace old mid.disk new.disk (λ k. (keeper k).disk)
  standing only_now old mid new keeper entries trace first s making = record {
    since = λ k. s.since k;
    until = λ k. s.until k;
    ordered = λ j k le. s.ordered j k le;
    keeps = λ k.
        keeps_front (take k trace) entries (seen old) (seen (keeper k).disk) (keeper k).count (kept_in (seen mid.disk) mid.count) first (s.tells k);
    leaves = λ k left may.
        end_told (take k trace) (seen old) entries (kept_in (seen mid.disk) mid.count) (kept_of left) first (at_it k left may);
    between = λ j k left le was.
        with_told (length (kept (take j trace))) (take k trace) (seen old) entries (kept_in (seen mid.disk) mid.count) (kept_of left) first
        (⊎_elim
        (λ w. let f = front_of j k trace le in
        subst (λ (whole : Trace). IsLeftWith (length (kept (take j trace))) whole (kept_in (seen mid.disk) mid.count) (kept_of left)) (sym f.1)
        (with_more (take j trace) f.0 (kept_in (seen mid.disk) mid.count) (kept_of left) (at_once j left w)))
        (λ is. is) (s.between j k le (moment (keeper j).disk) (kept_of left) (omega arith) (left, was, refl)));
    later = λ k left was.
        with_told (length (kept (take k trace))) trace (seen old) entries (kept_in (seen mid.disk) mid.count) (kept_of left) first
        (⊎_elim
        (λ w. subst (λ (whole : Trace). IsLeftWith (length (kept (take k trace))) whole (kept_in (seen mid.disk) mid.count) (kept_of left)) (take-append-drop k trace)
        (with_more (take k trace) (drop k trace) (kept_in (seen mid.disk) mid.count) (kept_of left) (at_once k left w)))
        (λ is. is) (s.later k (moment (keeper k).disk) (kept_of left) (omega arith) (left, was, refl)));
    first =
        serving_left moment left_since me seen may_leave old mid (keeper 0) entries [] first making (s.since 0)
        (λ t left le was.
        ⊎_elim (λ w. inl w) (λ none. inr (some_of_none (kept_in (seen mid.disk) mid.count) left none)) (s.first 0 t left le was));
  }
    where
      at_it : (k : ℕ) (left : List ℕ) → may_leave (keeper k).disk left → IsLeftAtEnd (take k trace) (kept_in (seen mid.disk) mid.count) (kept_of left)
      at_it k left may = s.now k (kept_of left) (left, may, refl)

      at_once : (k : ℕ) (left : List ℕ) → KeptLeft (left_since (keeper k).disk (moment (keeper k).disk)) (kept_of left)
          → IsLeftAtEnd (take k trace) (kept_in (seen mid.disk) mid.count) (kept_of left)
      at_once k left w = s.now k (kept_of left) (w.0, only_now (keeper k).disk w.0 w.1, w.2)
