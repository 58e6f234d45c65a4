-- What saying a text with a status is.
use Rattle.std.specs.Prelude.{ℕ, ◌≡◌, ◌≢◌, List, Option}
use Rattle.std.specs.Io.KnownBytes.{Appends}
use Rattle.outside.specs.Causes.{Rose}
use Rattle.whole_io.specs.Whole.{WritesFront}
use Rattle.replies.specs.Statuses.{number_of}
use Rattle.replies.specs.declared.statuses.Status.{Status}

-- The status is answered and the whole text was written; or 5 is answered, the sink failed, and a front of the text was
-- written.
pub record Says (status : Status) (text : List ℕ) (result : ℕ) (written written' : Option (List ℕ)) (faults faults' : ℕ)
    : Type 0 where
  pub all : result ≢ 5 → (result ≡ number_of status) × Appends written written' text
  pub fault : result ≡ 5 → Rose faults faults'
  pub front : result ≡ 5 → WritesFront written written' text
