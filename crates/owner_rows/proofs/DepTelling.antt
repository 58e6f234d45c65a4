-- What is told of a dependency, one body further.
use Rattle.std.proofs.Common.{[], ℕ, ◌++◌, ◌∙◌, ◌∷◌, ◌≡◌, ◌≢◌, Bool, List, None, Option, Some, ◌⊎◌, ap, eqb, false}
use Rattle.std.proofs.Common.{inl, inr, option_map, refl, subst}
use Rattle.std.proofs.Common.{sym, true}
use Rattle.std.proofs.lemmas.Bool.Decides.{eqb_tells}
use Rattle.std.specs.Bool.{then_some}
use Rattle.std.specs.Option.{option_or}
use Rattle.std.specs.Prelude.{◌&&◌, ◌||◌, unwrap_or}
use Rattle.lemmas.proofs.Lists.{any_with}
use Rattle.model.specs.Types.{AddDep, Added, AltPri, Body, Cancel, Clock, Cmd, Confirm, Declined, DelDep, Ended, Failed}
use Rattle.model.specs.Types.{Fence, Fulfilled, Job, Kill, Launched, Limit, Lost, NewPlan, Obeyed, Obj, Order, Release}
use Rattle.model.specs.Types.{Released, ReplyGlobal, ReplyOwn, Rerun, Started, Stop, Stream, StreamEnded, StreamLimit}
use Rattle.model.specs.Types.{Late, Submit, SwitchMgr, Total, UntilPassed}
use Rattle.model.specs.Equalities.{obj_eq}
use Rattle.model.specs.Facts.{commands, is_fulfilled, is_fulfilment, is_late, is_late_record, is_until_record, is_until_recorded, own_reply}
use Rattle.model.specs.Facts.{own_reply_in}
use Rattle.owner_rows.specs.Objects.{deletes}
use Rattle.owner_rows.specs.Deps.{IsDepRow, IsRowOfDep, deleted_by, reply_said}
use Rattle.owner_rows.specs.Subjects.{dep_in, dep_number, dep_number_in, object_number}
use Rattle.owner_rows.specs.declared.deps.DepRow.{DepRow}
use Rattle.owner_rows.proofs.Keys.{one_object}
use Rattle.owner_rows.proofs.Further.{any_command_with, last_set_with}

replied : (o : Obj) (i : ℕ) (b : Body) (said old new : Option Bool) (events : List Body)
    → option_map Some said ≡ reply_said o i b → new ≡ option_or said old → old ≡ own_reply o i events
    → new ≡ own_reply o i (events ++ b ∷ [])
unfolding own_reply
replied o i b said old new events e f g =
    f ∙ go said ∙ (λ j. unwrap_or (e j) (g j)) ∙ sym (last_set_with (own_reply_in o i) None events b)
  where
    go : (said : Option Bool) → option_or said old ≡ unwrap_or (option_map Some said) old
    go None = refl
    go (Some y) = refl

pub dep_told : (o : Obj) (i : ℕ) (events : List Body) (b : Body) (old new : DepRow) (said : Option Bool)
    → IsDepRow events o i old → option_map Some said ≡ reply_said o i b → new.reply ≡ option_or said old.reply
    → new.fulfilled ≡ (old.fulfilled || is_fulfilment o i b) → new.recorded ≡ (old.recorded || is_until_record o i b)
    → new.late ≡ (old.late || is_late_record o i b) → new.deleted ≡ (old.deleted || deleted_by o i b) → IsDepRow (events ++ b ∷ []) o i new
unfolding is_fulfilled is_until_recorded is_late
dep_told o i events b old new said h e f g k m l = record {
  reply = replied o i b said old.reply new.reply events e f h.reply;
  fulfilled = g ∙ ap (λ (t : Bool). t || is_fulfilment o i b) h.fulfilled ∙ sym (any_with (is_fulfilment o i) events b);
  recorded = k ∙ ap (λ (t : Bool). t || is_until_record o i b) h.recorded ∙ sym (any_with (is_until_record o i) events b);
  late = m ∙ ap (λ (t : Bool). t || is_late_record o i b) h.late ∙ sym (any_with (is_late_record o i) events b);
  deleted = l ∙ ap (λ (t : Bool). t || deleted_by o i b) h.deleted ∙ sym (any_command_with (deletes o i) events b);
}

-- a body that does not speak of the dependency
record IsSilent (o : Obj) (i : ℕ) (b : Body) : Type 0 where
  replying : None ≡ reply_said o i b
  fulfilling : false ≡ is_fulfilment o i b
  recording : false ≡ is_until_record o i b
  lateness : false ≡ is_late_record o i b
  deleting : false ≡ deleted_by o i b

object_cases : (o p : Obj) → (o ≡ p) ⊎ (false ≡ obj_eq o p)
object_cases (Job j) (Job k) = elim (eqb_tells j k) [ inl e ↦ inl (ap Job e.1) | inr e ↦ inr (sym e.0) ]
object_cases (Stream j) (Stream k) = elim (eqb_tells j k) [ inl e ↦ inl (ap Stream e.1) | inr e ↦ inr (sym e.0) ]
object_cases (Job j) (Stream s) = inr refl
object_cases (Stream s) (Job j) = inr refl

and_false : (t : Bool) → false ≡ (t && false)
and_false true = refl
and_false false = refl

apart : (o p : Obj) (i k : ℕ) → ◌≢◌ {A = Option (Obj × ℕ)} (Some (p, k)) (Some (o, i)) → false ≡ (obj_eq o p && eqb i k)
apart o p i k h =
    elim (object_cases o p) [
      | inl e ↦ elim (eqb_tells i k) [
        | inl f ↦ absurd (h (λ j. Some (sym e j, sym f.1 j)))
        | inr f ↦ and_false (obj_eq o p) ∙ ap (λ (t : Bool). obj_eq o p && t) (sym f.0)
      ]
      | inr e ↦ ap (λ (t : Bool). t && eqb i k) e
    ]

apart_back : (o p : Obj) (i k : ℕ) → ◌≢◌ {A = Option (Obj × ℕ)} (Some (p, k)) (Some (o, i)) → false ≡ (obj_eq o p && eqb k i)
apart_back o p i k h =
    elim (object_cases o p) [
      | inl e ↦ elim (eqb_tells k i) [
        | inl f ↦ absurd (h (λ j. Some (sym e j, f.1 j)))
        | inr f ↦ and_false (obj_eq o p) ∙ ap (λ (t : Bool). obj_eq o p && t) (sym f.0)
      ]
      | inr e ↦ ap (λ (t : Bool). t && eqb k i) e
    ]

silent : (o : Obj) (i : ℕ) (b : Body) → dep_in b ≢ Some (o, i) → IsSilent o i b
silent o i (UntilPassed p k mark) h =
    record { replying = refl; fulfilling = refl; recording = apart o p i k h; lateness = refl; deleting = refl }
silent o i (Fulfilled p k) h =
    record { replying = refl; fulfilling = apart o p i k h; recording = refl; lateness = refl; deleting = refl }
silent o i (Obeyed a z (ReplyOwn p k y)) h = record {
  replying = ap (λ (t : Bool). then_some t (Some y)) (apart o p i k h);
  fulfilling = refl;
  recording = refl;
  lateness = refl;
  deleting = refl;
}
silent o i (Obeyed a z (DelDep p k)) h =
    record { replying = refl; fulfilling = refl; recording = refl; lateness = refl; deleting = apart_back o p i k h }
silent o i (Obeyed a z (AddDep p d)) h = record { replying = refl; fulfilling = refl; recording = refl; lateness = refl; deleting = refl }
silent o i (Obeyed a z (Release p)) h = record { replying = refl; fulfilling = refl; recording = refl; lateness = refl; deleting = refl }
silent o i (Obeyed a z (AltPri p q)) h = record { replying = refl; fulfilling = refl; recording = refl; lateness = refl; deleting = refl }
silent o i (Obeyed a z (Cancel p)) h = record { replying = refl; fulfilling = refl; recording = refl; lateness = refl; deleting = refl }
silent o i (Obeyed a z (Confirm j)) h = record { replying = refl; fulfilling = refl; recording = refl; lateness = refl; deleting = refl }
silent o i (Obeyed a z (Kill j)) h = record { replying = refl; fulfilling = refl; recording = refl; lateness = refl; deleting = refl }
silent o i (Obeyed a z (Rerun j)) h = record { replying = refl; fulfilling = refl; recording = refl; lateness = refl; deleting = refl }
silent o i (Obeyed a z (Fence p)) h = record { replying = refl; fulfilling = refl; recording = refl; lateness = refl; deleting = refl }
silent o i (Obeyed a z (Limit m)) h = record { replying = refl; fulfilling = refl; recording = refl; lateness = refl; deleting = refl }
silent o i (Obeyed a z (StreamLimit s m)) h = record { replying = refl; fulfilling = refl; recording = refl; lateness = refl; deleting = refl }
silent o i (Obeyed a z (Total q m)) h = record { replying = refl; fulfilling = refl; recording = refl; lateness = refl; deleting = refl }
silent o i (Obeyed a z (ReplyGlobal p yes_)) h = record { replying = refl; fulfilling = refl; recording = refl; lateness = refl; deleting = refl }
silent o i (Obeyed a z (Cmd.Start)) h = record { replying = refl; fulfilling = refl; recording = refl; lateness = refl; deleting = refl }
silent o i (Obeyed a z (Stop)) h = record { replying = refl; fulfilling = refl; recording = refl; lateness = refl; deleting = refl }
silent o i (Obeyed a z (Submit d)) h = record { replying = refl; fulfilling = refl; recording = refl; lateness = refl; deleting = refl }
silent o i (Obeyed a z (SwitchMgr w)) h = record { replying = refl; fulfilling = refl; recording = refl; lateness = refl; deleting = refl }
silent o x (NewPlan run cut carried docs) h = record { replying = refl; fulfilling = refl; recording = refl; lateness = refl; deleting = refl }
silent o x (Added a k doc) h = record { replying = refl; fulfilling = refl; recording = refl; lateness = refl; deleting = refl }
silent o x (Clock t) h = record { replying = refl; fulfilling = refl; recording = refl; lateness = refl; deleting = refl }
silent o x (Released s seen) h = record { replying = refl; fulfilling = refl; recording = refl; lateness = refl; deleting = refl }
silent o x (StreamEnded s seen) h = record { replying = refl; fulfilling = refl; recording = refl; lateness = refl; deleting = refl }
silent o x (Launched j n seen) h = record { replying = refl; fulfilling = refl; recording = refl; lateness = refl; deleting = refl }
silent o x (Started j n) h = record { replying = refl; fulfilling = refl; recording = refl; lateness = refl; deleting = refl }
silent o x (Failed j n) h = record { replying = refl; fulfilling = refl; recording = refl; lateness = refl; deleting = refl }
silent o x (Ended j n rc good) h = record { replying = refl; fulfilling = refl; recording = refl; lateness = refl; deleting = refl }
silent o x (Lost j n) h = record { replying = refl; fulfilling = refl; recording = refl; lateness = refl; deleting = refl }
silent o x (Declined a k why) h = record { replying = refl; fulfilling = refl; recording = refl; lateness = refl; deleting = refl }
silent o i (Late p k) h =
    record { replying = refl; fulfilling = refl; recording = refl; lateness = apart o p i k h; deleting = refl }
silent o x (Order c) h = record { replying = refl; fulfilling = refl; recording = refl; lateness = refl; deleting = refl }

or_false : (t : Bool) → t ≡ (t || false)
or_false true = refl
or_false false = refl

dep_quiet : (events : List Body) (b : Body) (o : Obj) (i : ℕ) (r : DepRow) → dep_in b ≢ Some (o, i)
    → IsDepRow events o i r → IsDepRow (events ++ b ∷ []) o i r
dep_quiet events b o i r h row =
    let s : IsSilent o i b = silent o i b h in
    dep_told o i events b r r None row s.replying refl
    (or_false r.fulfilled ∙ ap (λ (t : Bool). r.fulfilled || t) s.fulfilling)
    (or_false r.recorded ∙ ap (λ (t : Bool). r.recorded || t) s.recording)
    (or_false r.late ∙ ap (λ (t : Bool). r.late || t) s.lateness)
    (or_false r.deleted ∙ ap (λ (t : Bool). r.deleted || t) s.deleting)

pub dep_row_quiet : (events : List Body) (b : Body) (q : ℕ × ℕ) (r : DepRow) → dep_number_in b ≢ Some q
    → IsRowOfDep events q r → IsRowOfDep (events ++ b ∷ []) q r
dep_row_quiet events b q r h row o e =
    dep_quiet events b o q.1 r (λ k. h (ap (option_map dep_number) k ∙ ap (λ n. Some (n, q.1)) e)) (row o e)

-- no events
pub dep_of_none : (o : Obj) (i : ℕ) (r : DepRow) → r.reply ≡ None → r.fulfilled ≡ false → r.recorded ≡ false
    → r.late ≡ false → r.deleted ≡ false → IsDepRow [] o i r
unfolding own_reply is_fulfilled is_until_recorded is_late commands
dep_of_none o i r e f g l k = record { reply = e; fulfilled = f; recorded = g; late = l; deleted = k }

-- the row of the dependency of which a body speaks
pub dep_row_of : (events : List Body) (b : Body) (n : ℕ × ℕ) (p : Obj) (i : ℕ) (old new : DepRow)
    → dep_in b ≡ Some (p, i) → dep_number_in b ≡ Some n → IsRowOfDep events n old
    → (IsDepRow events p i old → IsDepRow (events ++ b ∷ []) p i new) → IsRowOfDep (events ++ b ∷ []) n new
dep_row_of events b n p i old new e h row told o f =
    let s : Some (object_number p, i) ≡ Some n = sym (ap (option_map dep_number) e) ∙ h in
    let m : (object_number p, i) ≡ n = cc in
    let first : object_number p ≡ n.0 = ap (λ (q : ℕ × ℕ). q.0) m in
    let second : i ≡ n.1 = ap (λ (q : ℕ × ℕ). q.1) m in
    let here : IsDepRow events p i old = subst (λ k. IsDepRow events p k old) (sym second) (row p first) in
    subst (λ (x : Obj). IsDepRow (events ++ b ∷ []) x n.1 new) (sym (one_object o p (f ∙ sym first)))
    (subst (λ k. IsDepRow (events ++ b ∷ []) p k new) second (told here))

pub no_dep : (events : List Body) (b : Body) (n : ℕ × ℕ) (r : DepRow) → dep_in b ≡ None → dep_number_in b ≡ Some n
    → IsRowOfDep (events ++ b ∷ []) n r
no_dep events b n r e h =
    let s : ◌≡◌ {A = Option (ℕ × ℕ)} None (Some n) = sym (ap (option_map dep_number) e) ∙ h in absurd (cc)
