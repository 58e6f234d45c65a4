-- Whose an object is, by its number.
use Rattle.std.specs.Option.{option_map_or}
use Rattle.std.specs.Prelude.{ℕ, ◌&&◌, ◌==◌, Bool, false}
use Rattle.model.specs.Types.{StreamDoc}
use Rattle.model.specs.History.{View}
use Rattle.model.specs.Catalogue.{StreamJob, is_member, job, stream}

-- the stream of this number is a member of w
abbrev pub is_own_stream : View → ℕ → ℕ → Bool
is_own_stream V w s = option_map_or (λ (d : StreamDoc). (d.ws == w) && is_member V d.no) (stream V s) false

-- the job of this number is on w, and its stream is a member
abbrev pub is_own_job : View → ℕ → ℕ → Bool
is_own_job V w j =
    option_map_or (λ (p : StreamJob). (p.doc.ws == w) && is_member V p.parent.no) (job V j) false
