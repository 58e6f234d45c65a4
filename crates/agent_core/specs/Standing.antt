-- When what a node keeps beside its entries stands for them.
use Rattle.std.specs.Prelude.{ℕ, ◌<◌, ◌≡◌, IfSome, IsSomeAnd, List, None, Option, false}
use Rattle.model.specs.Types.{Entry, LiveJob, Net}
use Rattle.model.specs.Network.{node_count}
use Rattle.model.specs.History.{view_of}
use Rattle.model.specs.PresentNet.{present_net}
use Rattle.model.specs.Turn.{is_clock_due, turn_body}
use Rattle.ready_index.specs.Standing.{IsIndexOf}
use Rattle.ready_index.specs.declared.index.Index.{Index}

-- the index, where there is one, stands for these entries at this workstation
abbrev pub Tracks : Option Index → List Entry → ℕ → Type 0
Tracks index kept me = IfSome index (λ i. IsIndexOf (view_of kept) me i)

-- there is an index, and it stands for these entries at this workstation
abbrev pub IsIndexed : Option Index → List Entry → ℕ → Type 0
IsIndexed index kept me = IsSomeAnd index (λ i. IsIndexOf (view_of kept) me i)

-- no time has come by this reading, and a turn keeps nothing where none has come by its reading
pub record Idles (net : Net) (me : ℕ) (kept : List Entry) (live : List LiveJob) (t : ℕ) : Type 0 where
  pub passed : is_clock_due (view_of kept) me t ≡ false
  pub quiet : (u : ℕ) → is_clock_due (view_of kept) me u ≡ false
      → turn_body (present_net net (view_of kept)) (view_of kept) me live u ≡ None

-- the workstation is in the network; the present network, the index and the reading of an idle turn are those of the
-- entries and of the launches that live
pub record IsStanding (net present : Net) (me : ℕ) (kept : List Entry) (index : Option Index) (live : List LiveJob)
    (idle_until : Option ℕ) : Type 0 where
  pub inside : me < node_count net
  pub here : present ≡ present_net net (view_of kept)
  pub tracks : Tracks index kept me
  pub idles : IfSome idle_until (Idles net me kept live)
