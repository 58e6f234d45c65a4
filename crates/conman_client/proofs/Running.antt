-- How an ask comes to its end, from what each of its calls tells.
use Rattle.std.proofs.Common.{◌≡◌, ◌≤◌, inl, inr, ℕ, Bool, true, false, List, [], ◌∷◌, Some, None, Result, Err, refl, ◌∙◌, subst, arith}
use Rattle.base_types.specs.declared.Peer.{Peer}
use Rattle.mail_frames.specs.Spelling.{frame_bytes}
use Rattle.mail_frames.specs.declared.frames.Frame.TheVariants.{Command}
use Rattle.outside.specs.declared.links.Arrival.{Arrival}
use Rattle.outside.specs.Calls.{LinkCalls, Begins, Sends}
use Rattle.outside.specs.Causes.{Rose}
use Rattle.conman_client.specs.declared.ends.AskEnd.{AskEnd}
use Rattle.conman_client.specs.declared.ends.AskEnd.TheVariants.{NoAnswer, NoMemory}
use Rattle.conman_client.specs.Asks.{Made, Tells, Counts, IsAsk, Listens, begin_with, send_to, nothing, polled, not_begun, not_sent, asked}
use Rattle.conman_client.proofs.Telling.{both_told, nothing_told, begin_told, send_told}

-- the calls of a link and its answer, with its faults
abbrev pub Runs : Peer → List ℕ → LinkCalls → LinkCalls → ℕ → ℕ → Result (List ℕ) AskEnd → Type 0
Runs peer command old new before now answer =
    (made : Made) × Tells made old new × Counts made before now × IsAsk peer command made answer

-- `begin` was called, with this answer
abbrev pub begun_alone : Peer → Bool → Made
begun_alone peer ok = record { begun = begin_with peer ok ∷ []; sent = []; arrived = [] }

pub begin_called : (peer : Peer) (peers : List Peer) (ok : Bool) → peers ≡ peer ∷ [] → (old new : LinkCalls)
    → Begins (record { me = None; hop = Some peer.ws; peers = peers; ok = ok }) old new
    → Tells (begun_alone peer ok) old new
begin_called peer peers ok e old new h =
    begin_told (begin_with peer ok) old new
    (subst (λ (l : List Peer). Begins (record { me = None; hop = Some peer.ws; peers = l; ok = ok }) old new) e h)

-- `send` was called, with this answer
abbrev pub sent_alone : Peer → List ℕ → Bool → Made
sent_alone peer command ok = record { begun = []; sent = send_to peer command ok ∷ []; arrived = [] }

pub send_called : (peer : Peer) (command bytes : List ℕ) (ok : Bool) → bytes ≡ frame_bytes (Command command)
    → (old new : LinkCalls) → Sends (record { to = peer.ws; bytes = bytes; ok = ok }) old new
    → Tells (sent_alone peer command ok) old new
send_called peer command bytes ok e old new h =
    send_told (send_to peer command ok) old new
    (subst (λ (l : List ℕ). Sends (record { to = peer.ws; bytes = l; ok = ok }) old new) e h)

pub nothing_called : (peer : Peer) (command : List ℕ) (calls : LinkCalls) (faults : ℕ)
    → Runs peer command calls calls faults faults (Err NoMemory)
nothing_called peer command calls faults = (
  nothing,
  nothing_told calls calls refl,
  record { later = omega arith; failed = λ h. cc; succeeded = λ h. refl },
  inl refl,
)

pub begin_failed : (peer : Peer) (command : List ℕ) (old new : LinkCalls) (before now : ℕ)
    → Tells (begun_alone peer false) old new → before ≤ now → Rose before now
    → Runs peer command old new before now (Err NoAnswer)
begin_failed peer command old new before now tells later rose =
    (not_begun peer, tells, record { later = later; failed = λ h. rose; succeeded = λ h. cc }, inl (inl refl))

-- what an ask called, once `begin` succeeded and `send` was called
module _ (peer : Peer) (command : List ℕ) (old second third : LinkCalls) (before between : ℕ) (begun : Tells (begun_alone peer true) old second) (same : between ≡ before) where
  pub send_failed : (now : ℕ) → Tells (sent_alone peer command false) second third → between ≤ now
      → Rose between now → Runs peer command old third before now (Err NoAnswer)
  send_failed now sent later rose = (
    not_sent peer command,
    both_told (begun_alone peer true) (sent_alone peer command false) old second third begun sent,
    record {
      later = omega (arith, later, same);
      failed = λ h. subst (λ (n : ℕ). Rose n now) same rose;
      succeeded = λ h. cc;
    },
    inl (inr refl),
  )

  pub listened : (arrivals : List Arrival) (new : LinkCalls) (now : ℕ) (answer : Result (List ℕ) AskEnd)
      → Tells (sent_alone peer command true) second third → Tells (polled arrivals) third new → now ≡ between
      → Listens peer.ws arrivals answer → Runs peer command old new before now answer
  listened arrivals new now answer sent polls stays listens = (
    asked peer command arrivals,
    both_told (begun_alone peer true)
        (record { begun = []; sent = send_to peer command true ∷ []; arrived = arrivals }) old second new begun
        (both_told (sent_alone peer command true) (polled arrivals) second third new sent polls),
    record { later = omega (arith, stays, same); failed = λ h. cc; succeeded = λ h. stays ∙ same },
    inr (arrivals, refl, listens),
  )
