-- Bodies that are read are those that stand there.
use Rattle.std.proofs.Common.{◌≡◌, ℕ, Bool, true, false, List, [], ◌∷◌, Ok, refl, arith}
use Rattle.std.proofs.Common.{true≢false}
use Rattle.std.proofs.lemmas.List.Elements.{recursion_from_All, All-from_recursion}
use Rattle.std.specs.List.{All, AllByRecursion}
use Rattle.lemmas.proofs.Booleans.{not_holds, not_made}
use Rattle.model.specs.Types.{Feed, Events, Orders, Body, NewPlan, Added, Clock, Released, StreamEnded, UntilPassed}
use Rattle.model.specs.Types.{Launched, Started, Failed, Ended, Lost, Fulfilled, Obeyed, Declined, Order, StreamDoc}
use Rattle.model.specs.Types.{Late}
use Rattle.model.specs.Versions.{doc_has_deadline, is_second}
use Rattle.model.specs.History.{Seen}
use Rattle.model.specs.Invariant.{is_order, has_its_feed}
use Rattle.model.specs.Fit.{IsFitBody, IsFitSeen, IsFitStream}
use Rattle.model.specs.Ranges.{IsU32, CountInRange, StreamInRange, BodyInRange}
use Rattle.model.specs.Spelling.{body_bytes}
use Rattle.entry_codec.specs.Read.{two}
use Rattle.entry_codec.specs.Fields.{u16_at, since_second}
use Rattle.entry_codec.specs.Parts.{obj_at}
use Rattle.entry_codec.specs.Entries.{event_at, order_at, body_at, event_rows, order_rows}
use Rattle.entry_codec.proofs.Readers.{◌&◌, Stands, IsReader}
use Rattle.entry_codec.proofs.Numbers.{u16_reader, u32_reader, u64_reader}
use Rattle.entry_codec.proofs.Texts.{i32_reader}
use Rattle.entry_codec.proofs.Choices.{row_1, row_2, row_3, row_4, choice_reader, again_1, again_2, again_3, again_4}
use Rattle.entry_codec.proofs.Choices.{flag_reader, IsRow}
use Rattle.entry_codec.proofs.Allowed.{Allows, allows_none}
use Rattle.entry_codec.proofs.Lists.{AreListed, list_reader}
use Rattle.entry_codec.proofs.Seens.{SeenFits, seen_reader}
use Rattle.entry_codec.proofs.Parts.{obj_reader, until_reader, why_reader}
use Rattle.entry_codec.proofs.Documents.{apart, together, StreamFits, stream_reader}
use Rattle.entry_codec.proofs.Commands.{cmd_reader}

-- counts that are fit and in range, in parts and as one
fit_seen : (seen : Seen) → SeenFits seen → IsFitSeen seen
fit_seen seen f = (f.counted, f.ascends)

seen_in_range : (seen : Seen) → SeenFits seen → All CountInRange seen
seen_in_range seen f = All-from_recursion CountInRange seen f.in_range

seen_fits : (seen : Seen) → IsFitSeen seen → All CountInRange seen → SeenFits seen
seen_fits seen f g = record { counted = f.0; in_range = recursion_from_All CountInRange seen g; ascends = f.1 }

-- a body that is fit, in range and of the entry's version
abbrev pub BodyFits : Bool → Body → Type 0
BodyFits second b = (IsFitBody b × BodyInRange b) × Allows second (is_second b)

-- an event, and an order
abbrev pub EventFits : Bool → Body → Type 0
EventFits second b = BodyFits second b × (is_order b ≡ false)

abbrev pub OrderFits : Bool → Body → Type 0
OrderFits second b = BodyFits second b × (is_order b ≡ true)

plan_fits : (second : Bool) (run : ℕ) (cut : Seen) (carried : List ℕ) (docs : List StreamDoc) → IsU32 run
    → SeenFits cut → AreListed IsU32 carried → AreListed (StreamFits second) docs
    → EventFits second (NewPlan run cut carried docs)
plan_fits second run cut carried docs f g h k =
    let each = apart second IsFitStream StreamInRange doc_has_deadline docs k in (
      (
        (
          (fit_seen cut g, h.0, each.0.0),
          (f, seen_in_range cut g, All-from_recursion IsU32 carried h.1, each.0.1),
        ),
        each.1,
      ),
      refl,
    )

event_again : (second : Bool) (bytes : List ℕ) (p : ℕ) (b : Body) (q : ℕ) → EventFits second b
    → Stands (body_bytes b) bytes p q
    → event_at second bytes p ≡ Ok (b, q)
unfolding event_at body_bytes
event_again second bytes p (NewPlan w x y z) q fits s =
    again_4 u32_reader seen_reader (list_reader u32_reader) (list_reader (stream_reader second)) (event_rows second)
    1 NewPlan w x y z
    refl (omega arith) fits.0.0.1.0 (seen_fits x fits.0.0.0.0 fits.0.0.1.1)
    (fits.0.0.0.1, recursion_from_All IsU32 y fits.0.0.1.2) (together second IsFitStream StreamInRange
    doc_has_deadline z fits.0.0.0.2 fits.0.0.1.3 fits.0.1) s
event_again second bytes p (Added x y z) q fits s =
    again_3 u16_reader u32_reader (stream_reader second) (event_rows second) 2 Added x y z refl (omega arith)
    fits.0.0.1.0 fits.0.0.1.1
    ((fits.0.0.0, fits.0.0.1.2), fits.0.1) s
event_again second bytes p (Clock x) q fits s =
    again_1 u64_reader (event_rows second) 3 Clock x refl (omega arith) fits.0.0.1 s
event_again second bytes p (Released x y) q fits s =
    again_2 u32_reader seen_reader (event_rows second) 4 Released x y refl (omega arith) fits.0.0.1.0
    (seen_fits y fits.0.0.0 fits.0.0.1.1) s
event_again second bytes p (StreamEnded x y) q fits s =
    again_2 u32_reader seen_reader (event_rows second) 5 StreamEnded x y refl (omega arith) fits.0.0.1.0
    (seen_fits y fits.0.0.0 fits.0.0.1.1) s
event_again second bytes p (UntilPassed x y z) q fits s =
    again_3 obj_reader u16_reader until_reader (event_rows second) 6 UntilPassed x y z refl (omega arith)
    fits.0.0.1.0 fits.0.0.1.1
    tt s
event_again second bytes p (Launched x y z) q fits s =
    again_3 u32_reader u32_reader seen_reader (event_rows second) 7 Launched x y z refl (omega arith) fits.0.0.1.0
    fits.0.0.1.1
    (seen_fits z fits.0.0.0 fits.0.0.1.2) s
event_again second bytes p (Started x y) q fits s =
    again_2 u32_reader u32_reader (event_rows second) 8 Started x y refl (omega arith) fits.0.0.1.0 fits.0.0.1.1 s
event_again second bytes p (Failed x y) q fits s =
    again_2 u32_reader u32_reader (event_rows second) 9 Failed x y refl (omega arith) fits.0.0.1.0 fits.0.0.1.1 s
event_again second bytes p (Ended w x y z) q fits s =
    again_4 u32_reader u32_reader i32_reader flag_reader (event_rows second) 10 Ended w x y z refl (omega arith)
    fits.0.0.1.0
    fits.0.0.1.1 fits.0.0.1.2 tt s
event_again second bytes p (Lost x y) q fits s =
    again_2 u32_reader u32_reader (event_rows second) 11 Lost x y refl (omega arith) fits.0.0.1.0 fits.0.0.1.1 s
event_again second bytes p (Fulfilled x y) q fits s =
    again_2 obj_reader u16_reader (event_rows second) 12 Fulfilled x y refl (omega arith) fits.0.0.1.0 fits.0.0.1.1 s
event_again second bytes p (Obeyed x y z) q fits s =
    again_3 u16_reader u32_reader (cmd_reader second) (event_rows second) 13 Obeyed x y z refl (omega arith)
    fits.0.0.1.0 fits.0.0.1.1
    ((fits.0.0.0, fits.0.0.1.2), fits.0.1) s
event_again second bytes p (Declined x y z) q fits s =
    again_3 u16_reader u32_reader why_reader (event_rows second) 14 Declined x y z refl (omega arith) fits.0.0.1.0
    fits.0.0.1.1 tt
    s
event_again true bytes p (Late x y) q fits s =
    again_2 obj_reader u16_reader (event_rows true) 16 Late x y refl (omega arith) fits.0.0.1.0 fits.0.0.1.1 s
event_again false bytes p (Late x y) q fits s = absurd (true≢false fits.0.1)
event_again second bytes p (Order c) q fits s = absurd cc

late_row : (second : Bool)
    → AllByRecursion (IsRow (EventFits second) body_bytes) (since_second second ((16, two obj_at u16_at Late) ∷ []))
unfolding body_bytes
late_row true = row_2 obj_reader u16_reader 16 Late (λ x y f g. (((tt, (f, g)), tt), refl)) (λ x y. refl) & tt
late_row false = tt

event_reader : (second : Bool) → IsReader (EventFits second) body_bytes (event_at second)
unfolding event_at body_bytes
event_reader second =
    let none : Allows second false = allows_none second in
    choice_reader (EventFits second) body_bytes (event_rows second) (
    row_4 u32_reader seen_reader (list_reader u32_reader) (list_reader (stream_reader second)) 1 NewPlan
    (plan_fits second)
    (λ w x y z. refl)
    & row_3 u16_reader u32_reader (stream_reader second) 2 Added (λ x y z f g h. (((h.0.0, (f, g, h.0.1)), h.1), refl))
    (λ x y z. refl)
    & row_1 u64_reader 3 Clock (λ x f. (((tt, f), none), refl)) (λ x. refl)
    & row_2 u32_reader seen_reader 4 Released (λ x y f g. (((fit_seen y g, (f, seen_in_range y g)), none), refl))
    (λ x y. refl)
    & row_2 u32_reader seen_reader 5 StreamEnded (λ x y f g. (((fit_seen y g, (f, seen_in_range y g)), none), refl))
    (λ x y. refl)
    & row_3 obj_reader u16_reader until_reader 6 UntilPassed (λ x y z f g h. (((tt, (f, g)), none), refl))
    (λ x y z. refl)
    & row_3 u32_reader u32_reader seen_reader 7 Launched (λ x y z f g h.
    (((fit_seen z h, (f, g, seen_in_range z h)), none), refl)) (λ x y z. refl)
    & row_2 u32_reader u32_reader 8 Started (λ x y f g. (((tt, (f, g)), none), refl)) (λ x y. refl)
    & row_2 u32_reader u32_reader 9 Failed (λ x y f g. (((tt, (f, g)), none), refl)) (λ x y. refl)
    & row_4 u32_reader u32_reader i32_reader flag_reader 10 Ended (λ w x y z f g h k. (((tt, (f, g, h)), none), refl))
    (λ w x y z. refl)
    & row_2 u32_reader u32_reader 11 Lost (λ x y f g. (((tt, (f, g)), none), refl)) (λ x y. refl)
    & row_2 obj_reader u16_reader 12 Fulfilled (λ x y f g. (((tt, (f, g)), none), refl)) (λ x y. refl)
    & row_3 u16_reader u32_reader (cmd_reader second) 13 Obeyed (λ x y z f g h. (((h.0.0, (f, g, h.0.1)), h.1), refl))
    (λ x y z. refl)
    & row_3 u16_reader u32_reader why_reader 14 Declined (λ x y z f g h. (((tt, (f, g)), none), refl)) (λ x y z. refl)
    & late_row second) (event_again second)

order_again : (second : Bool) (bytes : List ℕ) (p : ℕ) (b : Body) (q : ℕ) → OrderFits second b
    → Stands (body_bytes b) bytes p q
    → order_at second bytes p ≡ Ok (b, q)
unfolding order_at body_bytes
order_again second bytes p (Order c) q fits s =
    again_1 (cmd_reader second) (order_rows second) 15 Order c refl (omega arith) fits.0 s
order_again second bytes p _ q fits s = absurd cc

order_reader : (second : Bool) → IsReader (OrderFits second) body_bytes (order_at second)
unfolding order_at body_bytes
order_reader second =
    choice_reader (OrderFits second) body_bytes (order_rows second) (
    row_1 (cmd_reader second) 15 Order (λ c f. (f, refl)) (λ c. refl)
    & tt) (order_again second)

-- a body of the feed's kinds
abbrev pub FeedBodyFits : Bool → Feed → Body → Type 0
FeedBodyFits second feed b = BodyFits second b × (has_its_feed feed b ≡ true)

pub body_reader : (second : Bool) (feed : Feed) → IsReader (FeedBodyFits second feed) body_bytes (body_at second feed)
unfolding body_at
body_reader second (Events w) =
    record {
      found = λ bytes p b q is lt e.
          let f = (event_reader second).found bytes p b q is lt e in
          ((f.0.0, not_made (is_order b) f.0.1), f.1);
      again = λ bytes p b q fits s. (event_reader second).again bytes p b q (fits.0, not_holds (is_order b) fits.1) s;
      steady = (event_reader second).steady;
    }
body_reader second (Orders a w) =
    record {
      found = (order_reader second).found;
      again = (order_reader second).again;
      steady = (order_reader second).steady;
    }
