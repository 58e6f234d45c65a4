-- What is told of an object, one body further.
use Rattle.std.proofs.Common.{[], ℕ, ◌+◌, ◌++◌, ◌<◌, ◌∙◌, ◌∷◌, ◌≡◌, ◌≤◌, ◌^◌, Bool, List, None, Option, Some, ap}
use Rattle.std.proofs.Common.{arith, false}
use Rattle.std.proofs.Common.{eqb, filter_map, flat_map, length, length-append, nat_le, option_map, refl, subst, sym, true}
use Rattle.std.proofs.lemmas.Grind.{flat_map-append}
use Rattle.std.proofs.lemmas.List.{append-nil}
use Rattle.std.specs.List.{list_any}
use Rattle.std.specs.Option.{option_map_or, option_or, IfSome}
use Rattle.std.specs.Prelude.{if◌then◌else◌, ◌&&◌, ◌||◌, unwrap_or}
use Rattle.model.specs.Types.{AddDep, AltPri, Body, Cancel, Cmd, Confirm, DelDep, Dep, Fence, Kill, Limit, Obj, Release}
use Rattle.model.specs.Types.{ReplyGlobal, ReplyOwn, Rerun, Stop, StreamLimit, Submit, SwitchMgr, Total}
use Rattle.model.specs.Types.{Added, Late, Canc, Clock, Declined, Ended, Failed, Fulfilled, Job, Launched, Lost, NewPlan}
use Rattle.model.specs.Types.{Obeyed}
use Rattle.model.specs.Types.{Order, Released, Started, Stream, StreamEnded, UntilPassed}
use Rattle.owner_rows.specs.Subjects.{object_in, object_number, object_number_in}
use Rattle.std.specs.Bool.{then_some}
use Rattle.std.proofs.Common.{◌≢◌, inl, inr}
use Rattle.std.proofs.lemmas.Bool.Decides.{eqb_tells}
use Rattle.lemmas.proofs.Booleans.{or_assoc, or_false, or_middles}
use Rattle.lemmas.proofs.Lists.{any_with, filter_map_short}
use Rattle.model.specs.Equalities.{obj_eq}
use Rattle.model.specs.Facts.{commands, is_cancel_of, is_cancelled, is_cancelling, is_ever_late, is_lateness, obeyed_command, priority}
use Rattle.model.specs.Facts.{priority_in}
use Rattle.model.specs.Dependencies.{deps_added_by, is_waived_by, waives}
use Rattle.owner_rows.specs.Objects.{IsObjectRow, IsRowOfObject, added, adds, cancels, deletes, frees, frees_by, is_behind}
use Rattle.owner_rows.specs.Objects.{priority_said}
use Rattle.owner_rows.specs.declared.objects.ObjectRow.{ObjectRow}
use Rattle.owner_rows.proofs.Keys.{one_object}
use Rattle.owner_rows.proofs.Further.{any_command_with, commands_with, last_set_with}

-- one command further
waived_with : (o : Obj) (i n : ℕ) (cs : List Cmd) (c : Cmd)
    → is_waived_by o i n (cs ++ c ∷ [])
    ≡ (is_waived_by o i n cs || waives o i (n + length (flat_map (deps_added_by o) cs)) c)
waived_with o i n [] c =
    or_false (waives o i n c) ∙ ap (λ m. waives o i m c) (let e : n ≡ n + 0 = omega arith in e)
waived_with o i n (d ∷ ds) c =
    ap (λ (t : Bool). waives o i n d || t) (waived_with o i (n + length (deps_added_by o d)) ds c)
    ∙ sym (or_assoc (waives o i n d) (is_waived_by o i (n + length (deps_added_by o d)) ds)
    (waives o i (n + length (deps_added_by o d) + length (flat_map (deps_added_by o) ds)) c))
    ∙ ap (λ m. (waives o i n d || is_waived_by o i (n + length (deps_added_by o d)) ds) || waives o i m c)
    (let e : length (deps_added_by o d ++ flat_map (deps_added_by o) ds)
    ≡ length (deps_added_by o d) + length (flat_map (deps_added_by o) ds) =
    length-append (deps_added_by o d) (flat_map (deps_added_by o) ds) in
    let f : n + length (deps_added_by o d) + length (flat_map (deps_added_by o) ds)
    ≡ n + length (deps_added_by o d ++ flat_map (deps_added_by o) ds) = omega (arith, e) in f)

-- a command waives by its number or as a release
waives_as : (o : Obj) (i n : ℕ) (c : Cmd) → waives o i n c ≡ (deletes o i c || (frees o c && nat_le i n))
waives_as o i n (DelDep p k) = sym (or_false (obj_eq o p && eqb k i))
waives_as o i n (Release p) = refl
waives_as o i n (AddDep p d) = refl
waives_as o i n (AltPri p q) = refl
waives_as o i n (Cancel p) = refl
waives_as o i n (Confirm j) = refl
waives_as o i n (Kill j) = refl
waives_as o i n (Rerun j) = refl
waives_as o i n (Fence p) = refl
waives_as o i n (Limit m) = refl
waives_as o i n (StreamLimit s m) = refl
waives_as o i n (Total q m) = refl
waives_as o i n (ReplyGlobal p yes_) = refl
waives_as o i n (ReplyOwn p k yes_) = refl
waives_as o i n (Cmd.Start) = refl
waives_as o i n (Stop) = refl
waives_as o i n (Submit d) = refl
waives_as o i n (SwitchMgr w) = refl

-- one body further
waived_by_body : (o : Obj) (i n : ℕ) (events : List Body) (b : Body)
    → is_waived_by o i n (commands (events ++ b ∷ []))
    ≡ (is_waived_by o i n (commands events)
    || (option_map_or (deletes o i) (obeyed_command b) false || (frees_by o b && nat_le i (n + added o events))))
waived_by_body o i n events b =
    ap (is_waived_by o i n) (commands_with events b) ∙ go (obeyed_command b)
  where
    go : (c : Option Cmd)
        → is_waived_by o i n (commands events ++ filter_map (λ (p : Option Cmd). p) (c ∷ []))
        ≡ (is_waived_by o i n (commands events)
        || (option_map_or (deletes o i) c false || (option_map_or (frees o) c false && nat_le i (n + added o events))))
    go None = ap (is_waived_by o i n) (append-nil (commands events)) ∙ sym (or_false (is_waived_by o i n (commands events)))
    go (Some c) =
        waived_with o i n (commands events) c
        ∙ ap (λ (t : Bool). is_waived_by o i n (commands events) || t) (waives_as o i (n + added o events) c)

-- a later release stands behind all that an earlier one does
behind_more : (i n most : ℕ) (freed : Option ℕ) → IfSome freed (λ m. m ≤ most)
    → (is_behind i n freed || nat_le i (n + most)) ≡ nat_le i (n + most)
behind_more i n most None h = refl
behind_more i n most (Some m) h = grind (arith, h)

shuffle : (d e f g h : Bool) → ((d || e) || (f || (g && h))) ≡ ((d || f) || (e || (g && h)))
shuffle true e f g h = refl
shuffle false true true g h = refl
shuffle false true false g h = refl
shuffle false false true g h = refl
shuffle false false false g h = refl

behind_after : (i n most : ℕ) (freed : Option ℕ) (comes : Bool) → IfSome freed (λ m. m ≤ most)
    → (is_behind i n freed || (comes && nat_le i (n + most))) ≡ is_behind i n (if comes then Some most else freed)
behind_after i n most freed true h = behind_more i n most freed h
behind_after i n most freed false h = or_false (is_behind i n freed)

added_with : (o : Obj) (events : List Body) (b : Body) → added o (events ++ b ∷ []) ≡ added o events + adds o b
added_with o events b =
    ap (λ (l : List Cmd). length (flat_map (deps_added_by o) l)) (commands_with events b) ∙ go (obeyed_command b)
  where
    go : (c : Option Cmd) → length (flat_map (deps_added_by o) (commands events ++ filter_map (λ (p : Option Cmd). p) (c ∷ [])))
        ≡ added o events + option_map_or (λ c. length (deps_added_by o c)) c 0
    go None =
        ap (λ (l : List Cmd). length (flat_map (deps_added_by o) l)) (append-nil (commands events))
        ∙ (let e : added o events ≡ added o events + 0 = omega arith in e)
    go (Some c) =
        ap length (flat_map-append (deps_added_by o) (commands events) (c ∷ []))
        ∙ length-append (flat_map (deps_added_by o) (commands events)) (deps_added_by o c ++ [])
        ∙ ap (λ (l : List Dep). added o events + length l) (append-nil (deps_added_by o c))

one_at_most : (o : Obj) (c : Cmd) → length (deps_added_by o c) ≤ 1
one_at_most o (AddDep p d) = go (obj_eq o p)
  where
    go : (t : Bool) → length (if t then d ∷ [] else []) ≤ 1
    go true = omega arith
    go false = omega arith
one_at_most o (AltPri p q) = omega arith
one_at_most o (Cancel p) = omega arith
one_at_most o (Confirm j) = omega arith
one_at_most o (Kill j) = omega arith
one_at_most o (Rerun j) = omega arith
one_at_most o (Fence p) = omega arith
one_at_most o (Limit m) = omega arith
one_at_most o (StreamLimit s m) = omega arith
one_at_most o (Total q m) = omega arith
one_at_most o (ReplyGlobal p yes_) = omega arith
one_at_most o (ReplyOwn p k yes_) = omega arith
one_at_most o (Cmd.Start) = omega arith
one_at_most o (Stop) = omega arith
one_at_most o (Submit d) = omega arith
one_at_most o (SwitchMgr w) = omega arith
one_at_most o (DelDep p k) = omega arith
one_at_most o (Release p) = omega arith

few_added : (o : Obj) (cs : List Cmd) → length (flat_map (deps_added_by o) cs) ≤ length cs
few_added o [] = omega arith
few_added o (c ∷ cs) =
    let h : length (flat_map (deps_added_by o) cs) ≤ length cs = few_added o cs in
    let one : length (deps_added_by o c) ≤ 1 = one_at_most o c in
    let e : length (deps_added_by o c ++ flat_map (deps_added_by o) cs)
    ≡ length (deps_added_by o c) + length (flat_map (deps_added_by o) cs) =
    length-append (deps_added_by o c) (flat_map (deps_added_by o) cs) in
    omega (arith, h, one, e)

few_commands : (events : List Body) → length (commands events) ≤ length events
unfolding commands
few_commands events = filter_map_short obeyed_command events

priority_by : (o : Obj) (b : Body) (set : Option ℕ) (written : ℕ)
    → unwrap_or (option_or (priority_said o b) set) written ≡ unwrap_or (priority_said o b) (unwrap_or set written)
priority_by o b set written = go (priority_said o b)
  where
    go : (p : Option ℕ) → unwrap_or (option_or p set) written ≡ unwrap_or p (unwrap_or set written)
    go None = refl
    go (Some n) = refl

-- the row after one more body
object_further : (o : Obj) (events : List Body) (b : Body) (old new : ObjectRow) (more comes : Bool)
    → IsObjectRow events o old → (if more then 1 else 0) ≡ adds o b → comes ≡ frees_by o b
    → new.cancelled ≡ (old.cancelled || cancels o b) → new.late ≡ (old.late || is_lateness o b) → new.priority ≡ option_or (priority_said o b) old.priority
    → new.added ≡ old.added + (if more then 1 else 0)
    → new.freed ≡ (if comes then Some old.added else old.freed) → IsObjectRow (events ++ b ∷ []) o new
unfolding is_cancelled is_ever_late priority
object_further o events b old new more comes h adding freeing cancelled lateness set grown freed =
    let a : old.added ≡ added o events = h.added in
    record {
      cancelled =
          cancelled ∙ ap (λ (t : Bool). t || cancels o b) h.cancelled
          ∙ or_middles (list_any (is_cancel_of o) (commands events)) (list_any (is_cancelling o) events)
          (option_map_or (is_cancel_of o) (obeyed_command b) false) (is_cancelling o b)
          ∙ sym (λ i. any_command_with (is_cancel_of o) events b i || any_with (is_cancelling o) events b i);
      late = lateness ∙ ap (λ (t : Bool). t || is_lateness o b) h.late ∙ sym (any_with (is_lateness o) events b);
      priority = λ written.
          ap (λ (p : Option ℕ). unwrap_or p written) set ∙ priority_by o b old.priority written
          ∙ ap (unwrap_or (priority_said o b)) (h.priority written)
          ∙ sym (last_set_with (priority_in o) written events b);
      added = grown ∙ (λ i. a i + adding i) ∙ sym (added_with o events b);
      freed = subst (λ (f : Option ℕ). IfSome f (λ n. n ≤ new.added)) (sym freed)
          (within comes old.freed old.added new.added (omega (arith, grown)) h.freed);
      waived = λ i written.
          waived_by_body o i written events b
          ∙ ap (λ (t : Bool). t || (option_map_or (deletes o i) (obeyed_command b) false
          || (frees_by o b && nat_le i (written + added o events)))) (h.waived i written)
          ∙ shuffle (list_any (deletes o i) (commands events)) (is_behind i written old.freed)
          (option_map_or (deletes o i) (obeyed_command b) false) (frees_by o b) (nat_le i (written + added o events))
          ∙ (λ j. sym (any_command_with (deletes o i) events b) j
          || ((λ k. is_behind i written old.freed || (sym freeing k && nat_le i (written + sym a k)))
          ∙ behind_after i written old.added old.freed comes h.freed ∙ ap (is_behind i written) (sym freed)) j);
    }
  where
    within : (comes : Bool) (freed : Option ℕ) (most more : ℕ) → most ≤ more → IfSome freed (λ n. n ≤ most)
        → IfSome (if comes then Some most else freed) (λ n. n ≤ more)
    within true freed most more le h = le
    within false None most more le h = tt
    within false (Some n) most more le h = omega (arith, le, h)

pub object_told : (o : Obj) (events : List Body) (b : Body) (old new : ObjectRow) (more comes : Bool)
    → length events + 1 < 2 ^ 32 → IsObjectRow events o old → (if more then 1 else 0) ≡ adds o b → comes ≡ frees_by o b
    → new.cancelled ≡ (old.cancelled || cancels o b) → new.late ≡ (old.late || is_lateness o b) → new.priority ≡ option_or (priority_said o b) old.priority
    → (old.added + 1 < 2 ^ 32 → new.added ≡ old.added + (if more then 1 else 0))
    → new.freed ≡ (if comes then Some old.added else old.freed) → IsObjectRow (events ++ b ∷ []) o new
object_told o events b old new more comes room h adding freeing cancelled lateness set count freed =
    let a : old.added ≡ added o events = h.added in
    let few : added o events ≤ length (commands events) = few_added o (commands events) in
    let fewer : length (commands events) ≤ length events = few_commands events in
    object_further o events b old new more comes h adding freeing cancelled lateness set
    (count (omega (arith, a, few, fewer, room))) freed

-- no events
pub object_of_none : (o : Obj) (r : ObjectRow) → r.cancelled ≡ false → r.late ≡ false → r.priority ≡ None → r.added ≡ 0 → r.freed ≡ None
    → IsObjectRow [] o r
unfolding is_cancelled is_ever_late priority commands
object_of_none o r e l f g k = record {
  cancelled = e;
  late = l;
  priority = λ written. ap (λ (p : Option ℕ). unwrap_or p written) f;
  added = g;
  freed = subst (λ (p : Option ℕ). IfSome p (λ n. n ≤ r.added)) (sym k) tt;
  waived = λ i written. sym (ap (is_behind i written) k);
}

-- a body that does not speak of the object
pub record IsSilent (o : Obj) (b : Body) : Type 0 where
  pub adding : 0 ≡ adds o b
  pub freeing : false ≡ frees_by o b
  pub cancelling : false ≡ cancels o b
  pub lateness : false ≡ is_lateness o b
  pub setting : None ≡ priority_said o b

apart : (o p : Obj) → Some p ≢ Some o → false ≡ obj_eq o p
apart (Job j) (Job k) h = sym (elim (eqb_tells j k) [ inl e ↦ absurd (h (ap (λ n. Some (Job n)) (sym e.1))) | inr e ↦ e.0 ])
apart (Stream j) (Stream k) h = sym (elim (eqb_tells j k) [ inl e ↦ absurd (h (ap (λ n. Some (Stream n)) (sym e.1))) | inr e ↦ e.0 ])
apart (Job j) (Stream s) h = refl
apart (Stream s) (Job j) h = refl

silent : (o : Obj) (b : Body) → object_in b ≢ Some o → IsSilent o b
silent o (UntilPassed p i Canc) h = record { adding = refl; freeing = refl; cancelling = apart o p h; lateness = refl; setting = refl }
silent o (UntilPassed p i mark) h = record { adding = refl; freeing = refl; cancelling = refl; lateness = refl; setting = refl }
silent o (Obeyed a k (Cancel p)) h =
    record { adding = refl; freeing = refl; cancelling = apart o p h ∙ sym (or_false (obj_eq o p)); lateness = refl; setting = refl }
silent o (Obeyed a k (Release p)) h = record { adding = refl; freeing = apart o p h; cancelling = refl; lateness = refl; setting = refl }
silent o (Obeyed a k (AltPri p n)) h =
    record { adding = refl; freeing = refl; cancelling = refl; lateness = refl; setting = ap (λ (t : Bool). then_some t n) (apart o p h) }
silent o (Obeyed a k (AddDep p d)) h =
    record { adding = ap (λ (t : Bool). length (if t then d ∷ [] else [])) (apart o p h); freeing = refl; cancelling = refl; lateness = refl; setting = refl }
silent o (Obeyed a z (DelDep p k)) h = record { adding = refl; freeing = refl; cancelling = refl; lateness = refl; setting = refl }
silent o (Obeyed a z (Confirm j)) h = record { adding = refl; freeing = refl; cancelling = refl; lateness = refl; setting = refl }
silent o (Obeyed a z (Kill j)) h = record { adding = refl; freeing = refl; cancelling = refl; lateness = refl; setting = refl }
silent o (Obeyed a z (Rerun j)) h = record { adding = refl; freeing = refl; cancelling = refl; lateness = refl; setting = refl }
silent o (Obeyed a z (Fence p)) h = record { adding = refl; freeing = refl; cancelling = refl; lateness = refl; setting = refl }
silent o (Obeyed a z (Limit m)) h = record { adding = refl; freeing = refl; cancelling = refl; lateness = refl; setting = refl }
silent o (Obeyed a z (StreamLimit s m)) h = record { adding = refl; freeing = refl; cancelling = refl; lateness = refl; setting = refl }
silent o (Obeyed a z (Total q m)) h = record { adding = refl; freeing = refl; cancelling = refl; lateness = refl; setting = refl }
silent o (Obeyed a z (ReplyGlobal p yes_)) h = record { adding = refl; freeing = refl; cancelling = refl; lateness = refl; setting = refl }
silent o (Obeyed a z (ReplyOwn p k yes_)) h = record { adding = refl; freeing = refl; cancelling = refl; lateness = refl; setting = refl }
silent o (Obeyed a z (Cmd.Start)) h = record { adding = refl; freeing = refl; cancelling = refl; lateness = refl; setting = refl }
silent o (Obeyed a z (Stop)) h = record { adding = refl; freeing = refl; cancelling = refl; lateness = refl; setting = refl }
silent o (Obeyed a z (Submit d)) h = record { adding = refl; freeing = refl; cancelling = refl; lateness = refl; setting = refl }
silent o (Obeyed a z (SwitchMgr w)) h = record { adding = refl; freeing = refl; cancelling = refl; lateness = refl; setting = refl }
silent o (NewPlan run cut carried docs) h = record { adding = refl; freeing = refl; cancelling = refl; lateness = refl; setting = refl }
silent o (Added a k doc) h = record { adding = refl; freeing = refl; cancelling = refl; lateness = refl; setting = refl }
silent o (Clock t) h = record { adding = refl; freeing = refl; cancelling = refl; lateness = refl; setting = refl }
silent o (Released s seen) h = record { adding = refl; freeing = refl; cancelling = refl; lateness = refl; setting = refl }
silent o (StreamEnded s seen) h = record { adding = refl; freeing = refl; cancelling = refl; lateness = refl; setting = refl }
silent o (Launched j n seen) h = record { adding = refl; freeing = refl; cancelling = refl; lateness = refl; setting = refl }
silent o (Started j n) h = record { adding = refl; freeing = refl; cancelling = refl; lateness = refl; setting = refl }
silent o (Failed j n) h = record { adding = refl; freeing = refl; cancelling = refl; lateness = refl; setting = refl }
silent o (Ended j n rc good) h = record { adding = refl; freeing = refl; cancelling = refl; lateness = refl; setting = refl }
silent o (Lost j n) h = record { adding = refl; freeing = refl; cancelling = refl; lateness = refl; setting = refl }
silent o (Fulfilled p i) h = record { adding = refl; freeing = refl; cancelling = refl; lateness = refl; setting = refl }
silent o (Declined a k why) h = record { adding = refl; freeing = refl; cancelling = refl; lateness = refl; setting = refl }
silent o (Late p i) h =
    record { adding = refl; freeing = refl; cancelling = refl; lateness = apart o p h; setting = refl }
silent o (Order c) h = record { adding = refl; freeing = refl; cancelling = refl; lateness = refl; setting = refl }

object_quiet : (events : List Body) (b : Body) (o : Obj) (r : ObjectRow) → object_in b ≢ Some o
    → IsObjectRow events o r → IsObjectRow (events ++ b ∷ []) o r
object_quiet events b o r h row =
    let s : IsSilent o b = silent o b h in
    object_further o events b r r false false row s.adding s.freeing
    (sym (or_false r.cancelled) ∙ ap (λ (t : Bool). r.cancelled || t) s.cancelling)
    (sym (or_false r.late) ∙ ap (λ (t : Bool). r.late || t) s.lateness)
    (ap (λ (p : Option ℕ). option_or p r.priority) s.setting) (let e : r.added ≡ r.added + 0 = omega arith in e) refl

pub object_row_quiet : (events : List Body) (b : Body) (n : ℕ) (r : ObjectRow) → object_number_in b ≢ Some n
    → IsRowOfObject events n r → IsRowOfObject (events ++ b ∷ []) n r
object_row_quiet events b n r h row o e =
    object_quiet events b o r (λ k. h (ap (option_map object_number) k ∙ ap Some e)) (row o e)

-- what the two rows say of a waiver
pub waived_told : (events : List Body) (o : Obj) (i written : ℕ) (d : Bool) (r : ObjectRow)
    → d ≡ list_any (deletes o i) (commands events) → IsObjectRow events o r
    → (d || is_behind i written r.freed) ≡ is_waived_by o i written (commands events)
waived_told events o i written d r e h =
    ap (λ (t : Bool). t || is_behind i written r.freed) e ∙ sym (h.waived i written)

-- the row of the object of whom a body speaks
pub object_row_of : (events : List Body) (b : Body) (n : ℕ) (p : Obj) (old new : ObjectRow) → object_in b ≡ Some p
    → object_number_in b ≡ Some n → IsRowOfObject events n old
    → (IsObjectRow events p old → IsObjectRow (events ++ b ∷ []) p new) → IsRowOfObject (events ++ b ∷ []) n new
object_row_of events b n p old new e h row told o f =
    let s : Some (object_number p) ≡ Some n = sym (ap (option_map object_number) e) ∙ h in
    let m : object_number p ≡ n = cc in
    subst (λ (x : Obj). IsObjectRow (events ++ b ∷ []) x new) (sym (one_object o p (f ∙ sym m))) (told (row p m))

pub no_object : (events : List Body) (b : Body) (n : ℕ) (r : ObjectRow) → object_in b ≡ None
    → object_number_in b ≡ Some n → IsRowOfObject (events ++ b ∷ []) n r
no_object events b n r e h =
    let s : ◌≡◌ {A = Option ℕ} None (Some n) = sym (ap (option_map object_number) e) ∙ h in absurd (cc)

-- no more dependencies are added than there are events
pub few_additions : (o : Obj) (events : List Body)
    → length (flat_map (deps_added_by o) (commands events)) ≤ length events
few_additions o events = omega (arith, few_added o (commands events), few_commands events)
