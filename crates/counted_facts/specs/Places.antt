-- The place of the last body that says yes.
use Rattle.std.specs.Prelude.{[], ℕ, ◌+◌, ◌∷◌, Bool, List, None, Option, Some, cond}
use Rattle.model.specs.Types.{Body}
use Rattle.counted_facts.specs.Subjects.{says_brought, says_named, says_planned, says_reply}

-- the place after one more body, which says yes, no or nothing
abbrev pub place_with : Option Bool → ℕ → ℕ → ℕ
place_with None place found = found
place_with (Some yes_) place found = cond yes_ place 0

-- so many bodies stand before these, and this place was found
abbrev pub place_from : (Body → Option Bool) → ℕ → ℕ → List Body → ℕ
place_from say passed found [] = found
place_from say passed found (b ∷ bs) =
    place_from say (passed + 1) (place_with (say b) (passed + 1) found) bs

-- the place of the last body that says something, counted from 1; 0 where it says no, or none says anything
abbrev pub last_place : (Body → Option Bool) → List Body → ℕ
last_place say events = place_from say 0 0 events

-- where the document of stream s was brought last, where a plan or an added stream named s last, where the last plan
-- stands, and where the last reply to prompt p, if it is yes
abbrev pub brought_at : ℕ → List Body → ℕ
brought_at s events = last_place (says_brought s) events

abbrev pub named_at : ℕ → List Body → ℕ
named_at s events = last_place (says_named s) events

abbrev pub planned_at : ℕ → List Body → ℕ
planned_at n events = last_place (says_planned n) events

abbrev pub replied_at : ℕ → List Body → ℕ
replied_at p events = last_place (says_reply p) events
