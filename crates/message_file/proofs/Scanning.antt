-- How the reading of a file goes on.
use Rattle.std.proofs.Common.{◌≡◌, inr, ⊎_elim, ℕ, ◌+◌, ◌<◌, List, [], ◌∷◌, ◌++◌, drop, sym, ◌∙◌, ap, subst, arith, append_assoc, length-append, Some, None, IfSome}
use Rattle.std.specs.declared.option.Option.{Option}
use Rattle.outside.specs.Records.{longest_file}
use Rattle.outside.specs.Kept.{with_body}
use Rattle.outside.specs.Stops.{LeavesOnly}
use Rattle.message_file.specs.Files.{head_of, record_of, records}
use Rattle.message_file.specs.Attaching.{OnlyReads, IsFound, IsRecordAt, AreBefore}
use Rattle.message_file.specs.declared.records.Found.TheVariants.{Next}
use Rattle.message_file.proofs.Putting.{records_with, place_with, room_with}

before_next : (owner count place next : ℕ) (file : List ℕ) → AreBefore owner count place file → IsRecordAt file place next → next < longest_file → AreBefore owner (count + 1) next file
before_next owner count place next file are there short =
    let K = are.bodies in
    let body = there.0 in
    let rest = drop next file in
    let front = head_of owner ++ records K in
    record {
      bodies = with_body body K;
      room = room_with K body are.room there.1 (omega (arith, short, there.2, are.behind));
      counted = omega (arith, are.counted, length-append K (body ∷ []));
      behind = omega (arith, there.2, are.behind, place_with K body);
      stands = are.stands
          ∙ ap (λ (l : List ℕ). front ++ l) there.3
          ∙ sym (append_assoc front (record_of body) rest)
          ∙ ap (λ (l : List ℕ). l ++ rest) (append_assoc (head_of owner) (records K) (record_of body) ∙ ap (λ (l : List ℕ). head_of owner ++ l) (sym (records_with K body)));
    }

pub told_next : (told now : Option (List ℕ)) (owner count place next : ℕ) → now ≡ told → IfSome told (AreBefore owner count place) → IsFound (Next next) place now → next < longest_file → IfSome told (AreBefore owner (count + 1) next)
told_next None now owner count place next same are found short = tt
told_next (Some file) now owner count place next same are found short =
    before_next owner count place next file are (subst (λ (t : Option (List ℕ)). IsFound (Next next) place t) same found) short

module _ {D : Type 0} (seen : D → Option (List ℕ)) (may_leave : D → List ℕ → Type 0) (moment : D → ℕ) (left_since : D → ℕ → List ℕ → Type 0) where
  pub reads_then : (old mid new : D) → OnlyReads seen may_leave moment left_since old mid → OnlyReads seen may_leave moment left_since mid new → OnlyReads seen may_leave moment left_since old new
  reads_then old mid new first second = record {
    same = second.same ∙ first.same;
    left = λ file left. first.left file (second.left file left);
    later = omega (arith, first.later, second.later);
    since = λ t file le left. ⊎_elim (λ was. first.since t file le was) (λ now. inr (first.left file now)) (second.since t file (omega (arith, le, first.later)) left);
    still = λ file left. second.still file (first.still file left);
    keeps = λ t file le was. second.keeps t file (omega (arith, le, first.later)) (first.keeps t file le was);
  }

  -- reading changes nothing of what a stop leaves
  pub reads_on : (old mid new : D) (P : List ℕ → Type 0) → LeavesOnly moment left_since old mid P → OnlyReads seen may_leave moment left_since mid new → ((file : List ℕ) → may_leave mid file → P file) → LeavesOnly moment left_since old new P
  reads_on old mid new P so_far reads here = record {
    later = omega (arith, so_far.later, reads.later);
    each = λ file left. ⊎_elim (so_far.each file) (here file) (reads.since (moment old) file so_far.later left);
    before = λ t file le left. ⊎_elim (so_far.before t file le) (λ now. inr (here file now)) (reads.since t file (omega (arith, le, so_far.later)) left);
  }
