-- What goes out of a node, against what it holds.
use Rattle.std.specs.Prelude.{[], ℕ, ◌++◌, ◌∷◌, ◌≡◌, List, Some, length}
use Rattle.model.specs.Types.{Body, Entry, Events, Feed, Kill, Obeyed}
use Rattle.model.specs.Words.{nth}
use Rattle.model.specs.Catalogue.{StreamJob, job}
use Rattle.model.specs.Facts.{open_launch}
use Rattle.model.specs.History.{View}
use Rattle.model.specs.Spelling.{entry_bytes}
use Rattle.mail_frames.specs.declared.frames.Frame.TheVariants as frame
use Rattle.mail_frames.specs.Spelling.{frame_bytes}
use Rattle.outside.specs.Calls.{StartCall}
use Rattle.agent_core.specs.Nodes.{NodeState}
use Rattle.node_inputs.specs.Traces.{Trace, kept}
use Rattle.run_laws.specs.Held.{held_after}

-- a job is started with the work that its document has
pub record IsItsWork (V : View) (call : StartCall) : Type 0 where
  pub its_job : StreamJob
  pub there : job V call.job ≡ Some its_job
  pub its_work : call.work ≡ its_job.doc.work

-- the last entry that was kept is an order to kill the job, which the node obeyed, and this is the job's open launch
pub record IsObeyedKill (node : NodeState) (front : Trace) (j n : ℕ) : Type 0 where
  pub entry : Entry
  pub before : List Entry
  pub issuer : ℕ
  pub place : ℕ
  pub last : kept front ≡ before ++ entry ∷ []
  pub its_feed : entry.feed ≡ Events node.me
  pub its_body : entry.body ≡ Obeyed issuer place (Kill j)
  pub open_ : open_launch j (held_after node front (Events node.me)) ≡ Some n

-- the bytes of a frame: an entry that is held, at its place, or how many entries of a feed are held
pub data TellsOfHeld (V : View) (bytes : List ℕ) : Type 0 where
  mail : (f : Feed) (place : ℕ) (body : Body) → nth (V f) place ≡ Some body
      → bytes ≡ frame_bytes (frame.Mail (entry_bytes (record { feed = f; place = place; body = body })))
      → TellsOfHeld V bytes
  ack : (f : Feed) → bytes ≡ frame_bytes (frame.Ack f (length (V f))) → TellsOfHeld V bytes
