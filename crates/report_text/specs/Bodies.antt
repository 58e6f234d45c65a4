-- What an entry says.
use Rattle.std.specs.Prelude.{ℕ, Bool, true, false, List, ◌++◌, codes, map}
use Rattle.std.specs.Fmt.{decimal, signed_decimal}
use Rattle.base_types.specs.declared.Net.{Net}
use Rattle.base_types.specs.declared.StreamDoc.{StreamDoc}
use Rattle.base_types.specs.declared.Body.{Body}
use Rattle.base_types.specs.declared.Body.TheVariants.{NewPlan, Added, Clock, Released, StreamEnded, UntilPassed}
use Rattle.base_types.specs.declared.Body.TheVariants.{Launched, Started, Failed, Ended, Lost, Fulfilled}
use Rattle.base_types.specs.declared.Body.TheVariants.{Obeyed, Declined, Order, Late}
use Rattle.base_types.specs.declared.Why.{Why}
use Rattle.base_types.specs.declared.Why.TheVariants.{NotMine, NotThere, Running, NotRunning, NotEnded}
use Rattle.base_types.specs.declared.Why.TheVariants.{AlreadyThere, OutOfRange, NotMaster, NotBuilt}
use Rattle.base_types.specs.declared.Why.TheVariants as why
use Rattle.report_text.specs.Names.{name_of}
use Rattle.report_text.specs.Lists.{numbers_text, seen_text}
use Rattle.report_text.specs.Dependencies.{obj_text, until_word}
use Rattle.report_text.specs.Commands.{cmd_text}

-- whether an end meets the condition of its job
abbrev pub end_word : Bool → List ℕ
end_word true = codes "good"
end_word false = codes "bad"

-- why an order was declined
abbrev pub why_word : Why → List ℕ
why_word NotMine = codes "NotMine"
why_word NotThere = codes "NotThere"
why_word Running = codes "Running"
why_word NotRunning = codes "NotRunning"
why_word NotEnded = codes "NotEnded"
why_word why.Ended = codes "Ended"
why_word AlreadyThere = codes "AlreadyThere"
why_word OutOfRange = codes "OutOfRange"
why_word NotMaster = codes "NotMaster"
why_word NotBuilt = codes "NotBuilt"

-- What an entry says. Streams, jobs, launches and dependencies are printed by their numbers; an order by its issuer's
-- name and its place.
unfoldable pub body_text : Net → Body → List ℕ
body_text net (NewPlan run cut carried streams) =
    codes "newplan " ++ decimal run
    ++ codes " cut " ++ seen_text net cut
    ++ codes " carried " ++ numbers_text carried
    ++ codes " fresh " ++ numbers_text (map (λ (s : StreamDoc). s.no) streams)
body_text net (Added a place stream) =
    codes "added " ++ name_of net a ++ codes " " ++ decimal place ++ codes " stream " ++ decimal stream.no
body_text net (Clock t) = codes "clock " ++ decimal t
body_text net (Released s seen) = codes "released " ++ decimal s ++ codes " seen " ++ seen_text net seen
body_text net (StreamEnded s seen) = codes "streamended " ++ decimal s ++ codes " seen " ++ seen_text net seen
body_text net (UntilPassed o i then_) =
    codes "untilpassed " ++ obj_text o ++ codes " dep " ++ decimal i ++ codes " " ++ until_word then_
body_text net (Launched j number seen) =
    codes "launched " ++ decimal j ++ codes " " ++ decimal number ++ codes " seen " ++ seen_text net seen
body_text net (Started j number) = codes "started " ++ decimal j ++ codes " " ++ decimal number
body_text net (Failed j number) = codes "failed " ++ decimal j ++ codes " " ++ decimal number
body_text net (Ended j number rc good) =
    codes "ended " ++ decimal j ++ codes " " ++ decimal number
    ++ codes " rc " ++ signed_decimal rc ++ codes " " ++ end_word good
body_text net (Lost j number) = codes "lost " ++ decimal j ++ codes " " ++ decimal number
body_text net (Fulfilled o i) = codes "fulfilled " ++ obj_text o ++ codes " dep " ++ decimal i
body_text net (Obeyed a place cmd) =
    codes "obeyed " ++ name_of net a ++ codes " " ++ decimal place ++ codes " " ++ cmd_text net cmd
body_text net (Declined a place why_) =
    codes "declined " ++ name_of net a ++ codes " " ++ decimal place ++ codes " " ++ why_word why_
body_text net (Order cmd) = codes "order " ++ cmd_text net cmd
body_text net (Late o i) = codes "late " ++ obj_text o ++ codes " dep " ++ decimal i
