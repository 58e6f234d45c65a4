-- What the tests of a launch, a release and an end tell.
use Rattle.std.proofs.Common.{◌≡◌, ◌+◌, ◌-◌, arith, suc, zero, ◌∙◌, ℕ, Bool, List, None, Option, Some, false, true}
use Rattle.std.proofs.Common.{refl, sym}
use Rattle.std.specs.Bool.{Decides}
use Rattle.std.specs.List.{list_any}
use Rattle.std.specs.Option.{option_map_or}
use Rattle.std.specs.Prelude.{Err, IfOk, Ok, Result, count_by}
use Rattle.lemmas.proofs.Booleans.{contrary_of}
use Rattle.model.specs.Types.{Entry, Events, Job, Net, Stream, StreamDoc}
use Rattle.model.specs.History.{Seen}
use Rattle.model.specs.Catalogue.{stream}
use Rattle.model.specs.Facts.{is_launch_of}
use Rattle.model.specs.Readiness.{is_ready}
use Rattle.model.specs.OwnMembers.{may_end, may_end_in, may_release}
use Rattle.model.specs.Turn.{end_witnesses, witnesses}
use Rattle.model.specs.Sound.{IsHeldPrefix, IsRightEnd, IsRightLaunch, IsRightRelease, seen_view}
use Rattle.counted_facts.specs.Subjects.{brings}
use Rattle.counted_decisions.proofs.Sighted.{brought_there}
use Rattle.event_audit.specs.Prefixes.{name_only}
use Rattle.event_audit.proofs.Prefix.{are_counts, has_counts, is_prefix}

-- what holds of an answer
pub if_ok_then : {X E : Type 0} {P Q : X → Type 0} (r : Result X E) → IfOk r P → ((x : X) → P x → Q x) → IfOk r Q
if_ok_then (Ok x) h f = f x h
if_ok_then (Err e) h f = h

-- what does not count right is no prefix
pub no_counts : (before : List Entry) (w : ℕ) (seen : Seen) (named : List ℕ) (r : Bool)
    → r ≡ are_counts before w seen → r ≡ false → IsHeldPrefix before w named seen → ⊥
no_counts before w seen named r e wrong h = contrary_of r (e ∙ has_counts before w named seen h) wrong

-- a launch
pub launch_told : (net : Net) (before : List Entry) (w j n : ℕ) (seen : Seen) (r : Bool)
    → are_counts before w seen ≡ true → n ≡ 1 + count_by (λ (e : Entry). is_launch_of j e.body) before
    → is_ready net (seen_view before seen) w j ≡ true
    → r ≡ name_only (witnesses (seen_view before seen) w (Job j)) seen → Decides r (IsRightLaunch net before w j n seen)
launch_told net before w j n seen r counts number ready e = (
  λ t. record {
    prefix = is_prefix before w (witnesses (seen_view before seen) w (Job j)) seen counts (sym e ∙ t);
    ready = ready;
    number = number;
  },
  λ (h : IsRightLaunch net before w j n seen). e ∙ h.prefix.only,
)

-- a release
pub release_told : (net : Net) (before : List Entry) (w s : ℕ) (seen : Seen) (r : Bool)
    → are_counts before w seen ≡ true → may_release net (seen_view before seen) w s ≡ true
    → r ≡ name_only (witnesses (seen_view before seen) w (Stream s)) seen → Decides r (IsRightRelease net before w s seen)
release_told net before w s seen r counts ready e = (
  λ t. record {
    prefix = is_prefix before w (witnesses (seen_view before seen) w (Stream s)) seen counts (sym e ∙ t);
    ready = ready;
  },
  λ (h : IsRightRelease net before w s seen). e ∙ h.prefix.only,
)

-- an end
pub end_told : (before : List Entry) (w s : ℕ) (seen : Seen) (r : Bool) → are_counts before w seen ≡ true
    → may_end (seen_view before seen) w s ≡ true
    → r ≡ name_only (end_witnesses (seen_view before seen) w s) seen → Decides r (IsRightEnd before w s seen)
end_told before w s seen r counts ready e = (
  λ t. record {
    prefix = is_prefix before w (end_witnesses (seen_view before seen) w s) seen counts (sym e ∙ t);
    ready = ready;
  },
  λ (h : IsRightEnd before w s seen). e ∙ h.prefix.only,
)

-- a stream that may end is brought
pub end_brought : (before : List Entry) (w s : ℕ) (seen : Seen) → may_end (seen_view before seen) w s ≡ true
    → list_any (brings s) (seen_view before seen (Events 0)) ≡ true
unfolding may_end
end_brought before w s seen h = go (stream (seen_view before seen) s) refl h
  where
    go : (o : Option StreamDoc) → stream (seen_view before seen) s ≡ o
        → option_map_or (may_end_in (seen_view before seen) w) o false ≡ true
        → list_any (brings s) (seen_view before seen (Events 0)) ≡ true
    go None e k = cc
    go (Some d) e k = brought_there before seen s d e

-- a number that is one more
pub next_number : (n count all : ℕ) → (n ≡ 0 → ⊥) → count ≡ all → count ≡ n - 1 → n ≡ 1 + all
next_number zero count all some e h = absurd (some refl)
next_number (suc k) count all some e h = omega (arith, e, h)
