-- What attaching and reading tell of a whole restart.
use Rattle.std.proofs.Common.{◌≡◌, inl, inr, ⊎_elim, ◌≤◌, [], ℕ, List, refl, subst, arith}
use Rattle.std.proofs.Common.{Some, None, IfSome}
use Rattle.std.specs.declared.option.Option.{Option}
use Rattle.model.specs.Types.{Entry, Net}
use Rattle.outside.specs.Kept.{Bodies}
use Rattle.outside.specs.Stops.{LeavesOnly}
use Rattle.message_file.specs.Attaching.{LeftAttaching}
use Rattle.message_file.specs.Refusals.{Untouched}
use Rattle.message_file.specs.declared.attaches.AttachFault.{AttachFault}
use Rattle.message_file.specs.declared.attaches.AttachFault.TheVariants as attach
use Rattle.message_file.specs.State.{kept_in, FileState, IsOwn, KeepsOf, KeptLeft, OwnFiles}
use Rattle.message_file.proofs.Own.{same_own}
use Rattle.node_restart.specs.Restarting.{AreHeld, IsNoFile, IsRefused, IsWrongAt, Restarts}
use Rattle.node_restart.specs.Stopping.{AreOwn, KeptSince, StaysOwn, StayOwn}
use Rattle.node_restart.proofs.Deciding.{own_filled, own_is_file}

-- what the keeper holds is what the file keeps
pub held_restarts : (net : Net) (me : ℕ) (entries : List Entry) (told : Option (List ℕ)) (kept : Option Bodies)
    → KeepsOf me told kept → IfSome kept (AreHeld net entries) → IfSome told (Restarts net me entries)
held_restarts net me entries None kept keeps held = tt
held_restarts net me entries (Some file) None keeps held = absurd keeps
held_restarts net me entries (Some file) (Some bodies) keeps held = (bodies, keeps, held)

pub wrong_refused : (net : Net) (me place : ℕ) (told : Option (List ℕ)) (kept : Option Bodies)
    → KeepsOf me told kept → IfSome kept (IsWrongAt net place) → IfSome told (IsRefused net me place)
wrong_refused net me place None kept keeps wrong = tt
wrong_refused net me place (Some file) None keeps wrong = absurd keeps
wrong_refused net me place (Some file) (Some bodies) (inl is) wrong = inr (bodies, is, wrong)
wrong_refused net me place (Some file) (Some bodies) (inr none) wrong =
    absurd (nothing_wrong (subst (IsWrongAt net place) none.1 wrong))
  where
    nothing_wrong : IsWrongAt net place [] → ⊥
    nothing_wrong w = cc w.first.stands

-- a file that attaching refuses stays as it was
pub same_refused : (fault : AttachFault) (old new : Option (List ℕ)) → (fault ≡ attach.Disk → ⊥) → Untouched fault old new
    → new ≡ old
same_refused (attach.NotAMessageFile place) old new other h = h
same_refused (attach.OtherOwner place) old new other h = h
same_refused attach.Disk old new other h = absurd (other refl)
same_refused attach.NoMemory old new other h = h

-- a file of the workstation is none that attaching refuses
pub kept_is_file : (me place : ℕ) (told : Option (List ℕ)) (new : Option (List ℕ)) (kept : Option Bodies) → KeepsOf me told kept
    → IfSome told (λ file. IsNoFile me place file → new ≡ Some file)
kept_is_file me place None new kept keeps = tt
kept_is_file me place (Some file) new None keeps = absurd keeps
kept_is_file me place (Some file) new (Some bodies) (inl is) = λ none. absurd (own_is_file me file bodies place is none)
kept_is_file me place (Some file) new (Some bodies) (inr empty) = λ none. absurd (none.0 empty.0)

module _ {D : Type 0} (moment : D → ℕ) (left_since : D → ℕ → List ℕ → Type 0) where
  -- what a stop left of files is what it left of their bodies
  pub kept_left : (old new : D) (P : List ℕ → Type 0) → LeavesOnly moment left_since old new P
      → LeavesOnly moment (KeptSince left_since) old new (KeptLeft P)
  kept_left old new P so = record {
    later = so.later;
    each = λ bodies left. (left.0, so.each left.0 left.1, left.2);
    before = λ t bodies le left. ⊎_elim (λ was. inl (left.0, was, left.2)) (λ p. inr (left.0, p, left.2)) (so.before t left.0 le left.1);
  }

  -- and reading leaves no other
  pub read_left : (old mid new : D) (P : Bodies → Type 0) → LeavesOnly moment (KeptSince left_since) old mid P
      → moment mid ≤ moment new
      → ((t : ℕ) (left : Bodies) → t ≤ moment mid → KeptLeft (left_since new t) left → KeptLeft (left_since mid t) left)
      → LeavesOnly moment (KeptSince left_since) old new P
  read_left old mid new P so later since = record {
    later = omega (arith, so.later, later);
    each = λ bodies left. so.each bodies (since (moment old) bodies so.later left);
    before = λ t bodies le left. so.before t bodies le (since t bodies (omega (arith, le, so.later)) left);
  }

  -- where all were files of the workstation, attaching leaves no other
  module _ (me : ℕ) (seen : D → Option (List ℕ)) (may_leave : D → List ℕ → Type 0)
      (counts_now : (disk : D) (t : ℕ) (file : List ℕ) → t ≤ moment disk → may_leave disk file → left_since disk t file)
      (old : D) where
    one_own : (file other : List ℕ) (t : ℕ) → t ≤ moment old → IsOwn me file → AreOwn me (left_since old t)
        → LeftAttaching me (Some file) (may_leave old) other → IsOwn me other
    one_own file other t le own all (inl begun) = absurd (own_filled me file own begun.0)
    one_own file other t le own all (inr (inl may)) = all other (counts_now old t other le may)
    one_own file other t le own all (inr (inr same)) = (same.bodies, same.after)

    stays : (new : D) (told : Option (List ℕ)) → LeavesOnly moment left_since old new (LeftAttaching me told (may_leave old))
        → (t : ℕ) → t ≤ moment old → StaysOwn me told (left_since old t) (left_since new t)
    stays new None so t le = tt
    stays new (Some file) so t le =
        λ own all other left. ⊎_elim (λ was. all other was) (λ p. one_own file other t le own all p) (so.before t other le left)

    pub attached_own : (new : D) → LeavesOnly moment left_since old new (LeftAttaching me (seen old) (may_leave old))
        → StayOwn me moment seen left_since old new
    attached_own new so = λ t le. stays new (seen old) so t le

-- a file that is told goes on to be told
told_left : (me count count_now : ℕ) (file : List ℕ) (told now : Option (List ℕ)) (left : List ℕ → Type 0)
    → KeepsOf me (Some file) (kept_in told count) → kept_in now count_now ≡ kept_in told count → OwnFiles me now left → AreOwn me left
told_left me count count_now file None now left keeps same own = absurd keeps
told_left me count count_now file (Some t) None left keeps same own = absurd (cc same)
told_left me count count_now file (Some t) (Some n) left keeps same own = own.1

pub own_files : (me : ℕ) (told : Option (List ℕ)) (now left : List ℕ → Type 0) → OwnFiles me told now → AreOwn me left → OwnFiles me told left
own_files me None now left own all = tt
own_files me (Some file) now left own all = (own.0, all)

-- the same, through what was read of the file that was attached
module _ {D : Type 0} (moment : D → ℕ) (left_since : D → ℕ → List ℕ → Type 0) (me : ℕ) (seen : D → Option (List ℕ))
    (old : D) (mid new : FileState D) (owner : mid.owner ≡ me)
    (opens : OwnFiles me (seen mid.disk) (left_since mid.disk (moment mid.disk)))
    (goes : (w t : ℕ) → t ≤ moment mid.disk → ((mid.owner ≡ w) × OwnFiles w (seen mid.disk) (left_since mid.disk t))
    → ((new.owner ≡ w) × OwnFiles w (seen new.disk) (left_since new.disk t))) where
  own_still : (told : Option (List ℕ)) (t : ℕ) → t ≤ moment mid.disk → KeepsOf me told (kept_in (seen mid.disk) mid.count)
      → kept_in (seen new.disk) new.count ≡ kept_in (seen mid.disk) mid.count
      → StaysOwn me told (left_since old t) (left_since mid.disk t) → StaysOwn me told (left_since old t) (left_since new.disk t)
  own_still None t le keeps same stays = tt
  own_still (Some file) t le keeps same stays =
      λ own all.
      told_left me mid.count new.count file (seen mid.disk) (seen new.disk) (left_since new.disk t) keeps same
      (goes me t le (
        owner,
        own_files me (seen mid.disk) (left_since mid.disk (moment mid.disk)) (left_since mid.disk t) opens (stays own all),
      )).1

  pub read_own : KeepsOf me (seen old) (kept_in (seen mid.disk) mid.count)
      → kept_in (seen new.disk) new.count ≡ kept_in (seen mid.disk) mid.count → moment old ≤ moment mid.disk
      → StayOwn me moment seen left_since old mid.disk → StayOwn me moment seen left_since old new.disk
  read_own keeps same later stay =
      λ t le. own_still (seen old) t (omega (arith, le, later)) keeps same (stay t le)

  -- and what is left from now on
  pub read_opens : (may_leave : D → List ℕ → Type 0)
      → ((disk : D) (t : ℕ) (file : List ℕ) → t ≤ moment disk → may_leave disk file → left_since disk t file)
      → ((disk : D) (file : List ℕ) → left_since disk (moment disk) file → may_leave disk file)
      → moment mid.disk ≤ moment new.disk
      → (new.owner ≡ me) × OwnFiles me (seen new.disk) (left_since new.disk (moment new.disk))
  read_opens may_leave counts_now only_now later =
      let so = goes me (moment mid.disk) (omega arith) (owner, opens) in (
        so.0,
        same_own me (seen new.disk) (seen new.disk) (left_since new.disk (moment mid.disk)) (left_since new.disk (moment new.disk)) refl
            (λ file was. counts_now new.disk (moment mid.disk) file later (only_now new.disk file was)) so.1,
      )
