-- A restart and a run, put together to a service.
use Rattle.std.proofs.Common.{[], ℕ, ◌++◌, ◌≡◌, ◌≤◌, ◌∙◌, ◌∷◌, ◌⊎◌, List, None, Option, Some, ap, arith, inl, inr}
use Rattle.std.proofs.Common.{subst, sym, ⊎_elim}
use Rattle.std.proofs.Common.{IfSome, option_map}
use Rattle.std.specs.List.{AllByRecursion}
use Rattle.std.proofs.lemmas.List.{map-append}
use Rattle.std.proofs.lemmas.List.Elements.{All-from_recursion, recursion_from_All}
use Rattle.node_inputs.proofs.Joining.{rose_since}
use Rattle.node_restart.proofs.Stopping.{own_files}
use Rattle.model.specs.Fit.{AreFitEntries, IsFit}
use Rattle.model.specs.Spelling.{entry_bytes}
use Rattle.model.specs.Types.{Entry}
use Rattle.outside.specs.Causes.{Rose}
use Rattle.outside.specs.Kept.{Bodies}
use Rattle.outside.specs.Stops.{LeavesOnly}
use Rattle.message_file.specs.Attaching.{LeftAttaching}
use Rattle.message_file.specs.State.{FileState, KeepsOf, KeptLeft, OwnFiles, kept_in}
use Rattle.node_inputs.specs.Keeping.{IsCause, IsLeft, IsLeftAtEnd, IsRefusal, KeeperTells, bodies}
use Rattle.node_inputs.specs.Traces.{Trace, kept, refusals}
use Rattle.node_inputs.specs.declared.ends.NodeEnd.{NodeEnd}
use Rattle.node_inputs.specs.declared.ends.NodeEnd.TheVariants.{DiskFault}
use Rattle.node_inputs.specs.Stepping.{AreKeepable, IsKeepable}
use Rattle.node_restart.specs.Reading.{AreShortEntries, IsShort}
use Rattle.node_restart.specs.Stopping.{AreOwn, KeptSince, StayOwn, StaysOwn}
use Rattle.node_service.specs.Serving.{KeepsFront, LeftServing, told_kept}

both : (entries : List Entry) → AllByRecursion IsFit entries → AllByRecursion IsShort entries
    → AllByRecursion IsKeepable entries
both [] fit short = tt
both (e ∷ entries) fit short = (record { fit = fit.0; short = short.0 }, both entries fit.1 short.1)

-- what is fit and short can be written down
pub keepable : (entries : List Entry) → AreFitEntries entries → AreShortEntries entries → AreKeepable entries
keepable entries fit short =
    All-from_recursion IsKeepable entries
    (both entries (recursion_from_All IsFit entries fit) (recursion_from_All IsShort entries short))

-- what the file keeps at first, where the disk tells it
pub held_first : (me : ℕ) (told : Option (List ℕ)) (entries : List Entry) (held : Option Bodies) → KeepsOf me told held
    → IfSome held (λ (b : Bodies). b ≡ bodies entries) → IfSome told (λ (file : List ℕ). held ≡ Some (bodies entries))
held_first me None entries held keeps written = tt
held_first me (Some file) entries None keeps written = absurd keeps
held_first me (Some file) entries (Some b) keeps written = ap Some written

pub left_told : (trace : Trace) (told : Option (List ℕ)) (entries : List Entry) (held : Option Bodies) (left : Bodies)
    → IfSome told (λ (file : List ℕ). held ≡ Some (bodies entries)) → IsLeft trace held left
    → IsLeft trace (told_kept told entries) left
left_told trace None entries held left is h = tt
left_told trace (Some file) entries held left is h = subst (λ (o : Option Bodies). IsLeft trace o left) is h

pub end_told : (trace : Trace) (told : Option (List ℕ)) (entries : List Entry) (held : Option Bodies) (left : Bodies)
    → IfSome told (λ (file : List ℕ). held ≡ Some (bodies entries)) → IsLeftAtEnd trace held left
    → IsLeftAtEnd trace (told_kept told entries) left
end_told trace None entries held left is h = tt
end_told trace (Some file) entries held left is h = subst (λ (o : Option Bodies). IsLeftAtEnd trace o left) is h

pub some_is : {a b : Bodies} → Some a ≡ Some b → a ≡ b
some_is e = cc

pub none_is : {b : Bodies} → None ≡ Some b → ⊥
none_is e = cc

-- and what it keeps at the end
pub keeps_front : (trace : Trace) (entries : List Entry) (told new : Option (List ℕ)) (count : ℕ) (held : Option Bodies)
    → IfSome told (λ (file : List ℕ). held ≡ Some (bodies entries)) → KeeperTells trace held (kept_in new count)
    → KeepsFront (bodies (entries ++ kept trace)) told new
keeps_front trace entries None new count held is tells = tt
keeps_front trace entries (Some file) new count held is tells = go new all
  where
    whole : option_map (λ (before : Bodies). before ++ bodies (kept trace)) held ≡ Some (bodies (entries ++ kept trace))
    whole =
        ap (option_map (λ (before : Bodies). before ++ bodies (kept trace))) is
        ∙ ap Some (sym (map-append entry_bytes entries (kept trace)))

    all : kept_in new count ≡ Some (bodies (entries ++ kept trace))
    all = tells ∙ whole

    go : (now : Option (List ℕ)) → kept_in now count ≡ Some (bodies (entries ++ kept trace))
        → KeepsFront (bodies (entries ++ kept trace)) (Some file) now
    go None same = absurd (none_is same)
    go (Some n) same = (count, some_is same)

pub disk_cause : (trace : Trace) (why : NodeEnd) (size before middle now : ℕ)
    → (IsRefusal why → (e : Entry) × (refusals trace ≡ (e, why) ∷ []))
    → ((e : Entry) (w : NodeEnd) → refusals trace ≡ (e, w) ∷ [] → IsCause size middle now e w) → before ≤ middle
    → why ≡ DiskFault → Rose before now
disk_cause trace why size before middle now forced causes le is =
    let f = forced (inl is) in
    rose_since before middle now le (causes f.0 DiskFault (f.1 ∙ ap (λ (w : NodeEnd). (f.0, w) ∷ []) is)).1

own_left : (me : ℕ) (front : Bodies) (file : List ℕ) (now : Option (List ℕ)) (left : List ℕ → Type 0)
    → KeepsFront front (Some file) now → OwnFiles me now left → AreOwn me left
own_left me front file None left keeps own = absurd keeps
own_left me front file (Some n) left keeps own = own.1

module _ {D : Type 0} (moment : D → ℕ) (left_since : D → ℕ → List ℕ → Type 0) (me : ℕ) (seen : D → Option (List ℕ))
    (may_leave : D → List ℕ → Type 0) (old : D) where
  -- what a stop leaves of a restart and of the run behind it
  pub serving_left : (mid new : FileState D) (entries : List Entry) (trace : Trace)
      → IfSome (seen old) (λ (file : List ℕ). kept_in (seen mid.disk) mid.count ≡ Some (bodies entries))
      → LeavesOnly moment (KeptSince left_since) old mid.disk (KeptLeft (LeftAttaching me (seen old) (may_leave old)))
      → moment mid.disk ≤ moment new.disk
      → ((t : ℕ) (left : Bodies) → t ≤ moment mid.disk → KeptLeft (left_since new.disk t) left
      → KeptLeft (left_since mid.disk t) left ⊎ IsLeft trace (kept_in (seen mid.disk) mid.count) left)
      → LeavesOnly moment (KeptSince left_since) old new.disk (LeftServing me (seen old) (may_leave old) entries trace)
  serving_left mid new entries trace is so later any = record {
    later = omega (arith, so.later, later);
    each = λ left since.
        ⊎_elim (λ was. inl (so.each left was))
        (λ n. inr (left_told trace (seen old) entries (kept_in (seen mid.disk) mid.count) left is n))
        (any (moment old) left so.later since);
    before = λ t left le since.
        ⊎_elim (λ was. ⊎_elim (λ w. inl w) (λ p. inr (inl p)) (so.before t left le was))
        (λ n. inr (inr (left_told trace (seen old) entries (kept_in (seen mid.disk) mid.count) left is n)))
        (any t left (omega (arith, le, so.later)) since);
  }

  -- files of the workstation stay so
  own_still : (mid new : FileState D) (front : Bodies) (told : Option (List ℕ)) (t : ℕ) → mid.owner ≡ me
      → OwnFiles me (seen mid.disk) (left_since mid.disk (moment mid.disk)) → t ≤ moment mid.disk
      → ((w s : ℕ) → s ≤ moment mid.disk → ((mid.owner ≡ w) × OwnFiles w (seen mid.disk) (left_since mid.disk s))
      → ((new.owner ≡ w) × OwnFiles w (seen new.disk) (left_since new.disk s)))
      → KeepsFront front told (seen new.disk) → StaysOwn me told (left_since old t) (left_since mid.disk t)
      → StaysOwn me told (left_since old t) (left_since new.disk t)
  own_still mid new front None t owner opens le goes keeps stays = tt
  own_still mid new front (Some file) t owner opens le goes keeps stays = λ own all.
      own_left me front file (seen new.disk) (left_since new.disk t) keeps
      (goes me t le (
        owner,
        own_files me (seen mid.disk) (left_since mid.disk (moment mid.disk)) (left_since mid.disk t) opens (stays own all),
      )).1

  pub serving_own : (mid new : FileState D) (front : Bodies) → mid.owner ≡ me
      → OwnFiles me (seen mid.disk) (left_since mid.disk (moment mid.disk)) → moment old ≤ moment mid.disk
      → ((w s : ℕ) → s ≤ moment mid.disk → ((mid.owner ≡ w) × OwnFiles w (seen mid.disk) (left_since mid.disk s))
      → ((new.owner ≡ w) × OwnFiles w (seen new.disk) (left_since new.disk s)))
      → KeepsFront front (seen old) (seen new.disk) → StayOwn me moment seen left_since old mid.disk
      → StayOwn me moment seen left_since old new.disk
  serving_own mid new front owner opens later goes keeps stay = λ t le.
      own_still mid new front (seen old) t owner opens (omega (arith, le, later)) goes keeps (stay t le)

  -- a disk of which nothing was asked
  may_be_left : (told : Option (List ℕ)) (file : List ℕ) → may_leave old file → LeftAttaching me told (may_leave old) file
  may_be_left None file may = tt
  may_be_left (Some now) file may = inr (inl may)

  pub unasked_left : ((disk : D) (file : List ℕ) → left_since disk (moment disk) file → may_leave disk file)
      → LeavesOnly moment (KeptSince left_since) old old (KeptLeft (LeftAttaching me (seen old) (may_leave old)))
  unasked_left only_now = record {
    later = omega arith;
    each = λ left since. (since.0, may_be_left (seen old) since.0 (only_now old since.0 since.1), since.2);
    before = λ t left le since. inl since;
  }

  stays_same : (told : Option (List ℕ)) (left : List ℕ → Type 0) → StaysOwn me told left left
  stays_same None left = tt
  stays_same (Some file) left = λ own all. all

  pub unasked_own : StayOwn me moment seen left_since old old
  unasked_own = λ t le. stays_same (seen old) (left_since old t)
