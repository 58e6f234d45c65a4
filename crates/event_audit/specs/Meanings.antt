-- Streams by their workstation and name, and the streams of a plan that are meant by theirs.
use Rattle.std.specs.List.{list_any}
use Rattle.std.specs.Prelude.{ℕ, ◌&&◌, ◌++◌, ◌==◌, Bool, List}
use Rattle.model.specs.Types.{Job, Obj, Stream, StreamDoc}
use Rattle.model.specs.Equalities.{text_eq}
use Rattle.model.specs.Sound.{has_job, is_meant}

-- the stream has this workstation and name
abbrev pub is_called : ℕ → List ℕ → StreamDoc → Bool
is_called w name d = (d.ws == w) && text_eq d.name name

-- the object is the stream, or one of its jobs
abbrev pub has_object : Obj → StreamDoc → Bool
has_object (Stream s) d = d.no == s
has_object (Job j) d = has_job j d

-- and the stream is meant by its name
abbrev pub means : List StreamDoc → List StreamDoc → Obj → StreamDoc → Bool
means fresh carried o d = has_object o d && is_meant fresh carried d

-- this holds of a fresh stream, or of a carried one
abbrev pub is_in_meant : List StreamDoc → List StreamDoc → Obj → Bool
is_in_meant fresh carried o = list_any (means fresh carried o) (fresh ++ carried)
