-- What is told of a stream, one body further.
use Rattle.std.proofs.Common.{[], ℕ, ◌++◌, ◌∙◌, ◌∷◌, ◌≡◌, ◌≢◌, Bool, List, None, Option, Some, ap, eqb, false}
use Rattle.std.proofs.Common.{refl, subst, sym}
use Rattle.std.proofs.Common.{option_and_then, true}
use Rattle.std.specs.Bool.{then_some}
use Rattle.std.specs.Option.{option_or}
use Rattle.std.specs.Prelude.{unwrap_or, ◌||◌}
use Rattle.lemmas.proofs.Lists.{any_with}
use Rattle.model.specs.Types.{Added, Body, Clock, Declined, Ended, Failed, Fulfilled, Launched, Lost, NewPlan, Obeyed}
use Rattle.model.specs.Types.{Late, Order, Released, Started, StreamEnded, StreamLimit, UntilPassed}
use Rattle.model.specs.Facts.{commands, is_end_of, is_ended, is_release_of, is_released, obeyed_command, stream_limit}
use Rattle.model.specs.Facts.{stream_limit_in}
use Rattle.owner_rows.specs.Streams.{IsStreamRow, limit_said, stream_with}
use Rattle.owner_rows.specs.Subjects.{stream_in}
use Rattle.owner_rows.specs.declared.streams.StreamRow.{StreamRow}
use Rattle.owner_rows.proofs.Further.{apart, last_set_with}

set_by : (s : ℕ) (b : Body) (l w : Option ℕ) → option_or (option_or (limit_said s b) l) w
    ≡ unwrap_or (option_and_then (stream_limit_in s) (obeyed_command b)) (option_or l w)
set_by s (Obeyed a k (StreamLimit t n)) l w = go (eqb s t)
  where
    go : (b : Bool) → option_or (option_or (then_some b n) l) w ≡ unwrap_or (then_some b (Some n)) (option_or l w)
    go true = refl
    go false = refl
set_by s (Obeyed a k c) l w = refl
set_by s (NewPlan run cut carried docs) l w = refl
set_by s (Added a k doc) l w = refl
set_by s (Clock t) l w = refl
set_by s (UntilPassed p i mark) l w = refl
set_by s (Launched j n seen) l w = refl
set_by s (Started j n) l w = refl
set_by s (Failed j n) l w = refl
set_by s (Ended j n rc good) l w = refl
set_by s (Lost j n) l w = refl
set_by s (Fulfilled p i) l w = refl
set_by s (Declined a k why) l w = refl
set_by s (Order c) l w = refl
set_by s (Late p i) l w = refl
set_by s (Released t seen) l w = refl
set_by s (StreamEnded t seen) l w = refl

stream_further : (events : List Body) (b : Body) (s : ℕ) (r : StreamRow) → IsStreamRow events s r
    → IsStreamRow (events ++ b ∷ []) s (stream_with s b r)
unfolding is_released is_ended stream_limit
stream_further events b s r h = record {
  released = ap (λ (t : Bool). t || is_release_of s b) h.released ∙ sym (any_with (is_release_of s) events b);
  ended = ap (λ (t : Bool). t || is_end_of s b) h.ended ∙ sym (any_with (is_end_of s) events b);
  limit = λ written.
      set_by s b r.limit written
      ∙ ap (unwrap_or (option_and_then (stream_limit_in s) (obeyed_command b))) (h.limit written)
      ∙ sym (last_set_with (stream_limit_in s) written events b);
}

pub stream_told : (events : List Body) (b : Body) (s : ℕ) (r new : StreamRow) → IsStreamRow events s r
    → new ≡ stream_with s b r → IsStreamRow (events ++ b ∷ []) s new
stream_told events b s r new h e = subst (IsStreamRow (events ++ b ∷ []) s) (sym e) (stream_further events b s r h)

or_false : (t : Bool) → t ≡ (t || false)
or_false true = refl
or_false false = refl

-- what does not speak of the stream leaves its row
same : (s : ℕ) (b : Body) (r : StreamRow) → is_release_of s b ≡ false → is_end_of s b ≡ false → limit_said s b ≡ None
    → r ≡ stream_with s b r
same s b r e f g = λ i. record {
  released = (or_false r.released ∙ ap (λ (t : Bool). r.released || t) (sym e)) i;
  ended = (or_false r.ended ∙ ap (λ (t : Bool). r.ended || t) (sym f)) i;
  limit = ap (λ (o : Option ℕ). option_or o r.limit) (sym g) i;
}

stays : (s : ℕ) (b : Body) (r : StreamRow) → stream_in b ≢ Some s → r ≡ stream_with s b r
stays s (Released t seen) r h = same s (Released t seen) r (apart s t h) refl refl
stays s (StreamEnded t seen) r h = same s (StreamEnded t seen) r refl (apart s t h) refl
stays s (Obeyed a k (StreamLimit t n)) r h =
    same s (Obeyed a k (StreamLimit t n)) r refl refl (ap (λ (b : Bool). then_some b n) (apart s t h))
stays s (Obeyed a k c) r h = same s (Obeyed a k c) r refl refl refl
stays s (NewPlan run cut carried docs) r h = same s (NewPlan run cut carried docs) r refl refl refl
stays s (Added a k doc) r h = same s (Added a k doc) r refl refl refl
stays s (Clock t) r h = same s (Clock t) r refl refl refl
stays s (UntilPassed p i mark) r h = same s (UntilPassed p i mark) r refl refl refl
stays s (Launched j n seen) r h = same s (Launched j n seen) r refl refl refl
stays s (Started j n) r h = same s (Started j n) r refl refl refl
stays s (Failed j n) r h = same s (Failed j n) r refl refl refl
stays s (Ended j n rc good) r h = same s (Ended j n rc good) r refl refl refl
stays s (Lost j n) r h = same s (Lost j n) r refl refl refl
stays s (Fulfilled p i) r h = same s (Fulfilled p i) r refl refl refl
stays s (Declined a k why) r h = same s (Declined a k why) r refl refl refl
stays s (Order c) r h = same s (Order c) r refl refl refl
stays s (Late p i) r h = same s (Late p i) r refl refl refl

pub stream_quiet : (events : List Body) (b : Body) (s : ℕ) (r : StreamRow) → stream_in b ≢ Some s
    → IsStreamRow events s r → IsStreamRow (events ++ b ∷ []) s r
stream_quiet events b s r h row = stream_told events b s r r row (stays s b r h)

-- no events
pub stream_of_none : (s : ℕ) (r : StreamRow) → r.released ≡ false → r.ended ≡ false → r.limit ≡ None
    → IsStreamRow [] s r
unfolding is_released is_ended stream_limit commands
stream_of_none s r e f g =
    record { released = e; ended = f; limit = λ written. ap (λ (o : Option ℕ). option_or o written) g }
