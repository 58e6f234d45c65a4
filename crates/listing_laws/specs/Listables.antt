-- What drafts have whose listing is read back.
use Rattle.std.specs.Prelude.{◌≡◌, ◌≤◌, ◌<◌, ◌^◌, ◌⊎◌, ℕ, Bool, false, List, [], ◌∷◌, ◌++◌, Option, Some, None, length, map}
use Rattle.std.specs.List.{AllByRecursion, list_any}
use Rattle.std.specs.Str.{bytes_eq}
use Rattle.history_laws.specs.Printables.{IsKeptName, IsLineText}
use Rattle.model.specs.Network.{node_count}
use Rattle.model.specs.Types.{CondOp, DraftDep, JobDraft, Net, PromptDef, Resource, StreamDraft, Work, Command, Script}
use Rattle.model.specs.Types.{FollowsJob, FollowsStream, Needs, Prompt, At, Until, Outside, Deadline, Global, Own, Follows, Plain}
use Rattle.model.specs.Words.{nth}
use Rattle.rc_conditions.specs.Expressions.{Expression, NumbersFit, postfix}
use Rattle.record_faults.specs.Known.{Key, key_eq}
use Rattle.report_text.specs.Names.{name_of}

-- none is the same as one before it
abbrev pub StandOnce : {A : Type 0} → (A → A → Bool) → List A → Type 0
StandOnce {A = A} same xs =
    (before behind : List A) → (a : A) → xs ≡ before ++ a ∷ behind → list_any (same a) before ≡ false

-- a resource of the network, by its number from 1, on this workstation
pub record IsResourceOn (net : Net) (ws number : ℕ) : Type 0 where
  pub resource : Resource
  pub there : nth net.resources number ≡ Some resource
  pub own : resource.ws ≡ ws

-- A dependency of an object on a workstation. One by the number of a stream or job has no line.
abbrev pub IsListableDep : Net → ℕ → DraftDep → Type 0
IsListableDep net ws (Follows w stream None) = (w < node_count net) × IsKeptName stream
IsListableDep net ws (Follows w stream (Some job)) = (w < node_count net) × IsKeptName stream × IsKeptName job
IsListableDep net ws (Plain (FollowsJob j)) = ⊥
IsListableDep net ws (Plain (FollowsStream s)) = ⊥
IsListableDep net ws (Plain (Needs r n)) = IsResourceOn net ws r × (n ≤ 1024)
IsListableDep net ws (Plain (Prompt (Global p))) = (x : PromptDef) × (nth net.prompts p ≡ Some x)
IsListableDep net ws (Plain (Prompt (Own text))) = IsLineText text
IsListableDep net ws (Plain (At t)) = t < 2 ^ 64
IsListableDep net ws (Plain (Until t then_)) = t < 2 ^ 64
IsListableDep net ws (Plain (Outside path)) = IsLineText path
IsListableDep net ws (Plain (Deadline t)) = t < 2 ^ 64

pub record AreListableDeps (net : Net) (ws : ℕ) (deps : List DraftDep) : Type 0 where
  pub few : length deps ≤ 64
  pub each : AllByRecursion (IsListableDep net ws) deps

-- a command or a script on one line
abbrev pub IsLineWork : Work → Type 0
IsLineWork (Command text) = IsLineText text
IsLineWork (Script path) = IsLineText path

-- a condition: the empty one, or an expression of at most 64 operations
pub record IsExpression (ops : List CondOp) : Type 0 where
  pub expression : Expression
  pub is : ops ≡ postfix expression
  pub fits : NumbersFit expression
  pub few : length ops ≤ 64

abbrev pub IsListableCond : List CondOp → Type 0
IsListableCond ops = (ops ≡ []) ⊎ IsExpression ops

pub record IsListableJob (net : Net) (j : JobDraft) : Type 0 where
  pub ws : j.ws < node_count net
  pub name : IsKeptName j.name
  pub priority : j.priority ≤ 101
  pub work : IsLineWork j.work
  pub logon : IsLineText j.logon
  pub cond : IsListableCond j.cond
  pub deps : AreListableDeps net j.ws j.deps

abbrev pub IsListableLimit : Option ℕ → Type 0
IsListableLimit None = Unit {0}
IsListableLimit (Some n) = n ≤ 1024

abbrev pub job_names : List JobDraft → List (List ℕ)
job_names jobs = map (λ (j : JobDraft). j.name) jobs

-- a stream, whose jobs have different names
pub record IsListableStream (net : Net) (s : StreamDraft) : Type 0 where
  pub ws : s.ws < node_count net
  pub name : IsKeptName s.name
  pub priority : s.priority ≤ 101
  pub limit : IsListableLimit s.limit
  pub deps : AreListableDeps net s.ws s.deps
  pub jobs : AllByRecursion (IsListableJob net) s.jobs
  pub once : StandOnce bytes_eq (job_names s.jobs)

abbrev pub stream_keys : Net → List StreamDraft → List Key
stream_keys net drafts = map (λ (s : StreamDraft). (name_of net s.ws, s.name)) drafts

-- streams that are different by their workstations and names
pub record AreListable (net : Net) (drafts : List StreamDraft) : Type 0 where
  pub each : AllByRecursion (IsListableStream net) drafts
  pub once : StandOnce key_eq (stream_keys net drafts)
