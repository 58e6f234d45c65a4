-- Polls that gave no whole reply, with one more.
use Rattle.std.proofs.Common.{◌≡◌, ⊎_elim, ℕ, ◌<◌, ◌≤◌, List, [], ◌∷◌, ◌++◌, length, take, Some, None, Ok, Err, refl, sym, subst, arith, length-append, take_all, eq-or-lt_of_le}
use Rattle.std.proofs.lemmas.List.{take-append-le}
use Rattle.outside.specs.Calls.{LinkCalls, Polls}
use Rattle.outside.specs.declared.links.Arrival.{Arrival}
use Rattle.mail_frames.specs.Decoding.{Decoding}
use Rattle.conman_client.specs.Replies.{IsFirstReply, IsNoneBefore}
use Rattle.conman_client.specs.Asks.{Tells, Listens, polled, most_polls}
use Rattle.conman_client.specs.Hearing.{Heard, Waits}
use Rattle.conman_client.specs.declared.ends.AskEnd.TheVariants.{NoMemory}
use Rattle.conman_client.proofs.Telling.{both_told, nothing_told, poll_told}
use Rattle.conman_client.proofs.Hearing.{first_heard}

-- none in so many of them, where there is none in all
none_in : (ws : ℕ) (arrivals : List Arrival) → IsNoneBefore ws arrivals → IsFirstReply ws arrivals None → (n : ℕ)
    → n ≤ length arrivals → IsFirstReply ws (take n arrivals) None
none_in ws arrivals before none n le =
    ⊎_elim
    (λ (e : n ≡ length arrivals).
    subst (λ (l : List Arrival). IsFirstReply ws l None) (sym (take_all n arrivals (omega (arith, e)))) none)
    (λ (lt : n < length arrivals). before n lt)
    (eq-or-lt_of_le le)

none_before : (ws : ℕ) (arrivals : List Arrival) (arrival : Arrival) → IsNoneBefore ws arrivals
    → IsFirstReply ws arrivals None → IsNoneBefore ws (arrivals ++ arrival ∷ [])
none_before ws arrivals arrival before none n lt =
    let le : n ≤ length arrivals = omega (arith, length-append arrivals (arrival ∷ [])) in
    subst (λ (l : List Arrival). IsFirstReply ws l None) (sym (take-append-le n arrivals (arrival ∷ []) le))
    (none_in ws arrivals before none n le)

-- nothing came yet
pub first_waits : (decoder : Decoding) (ws : ℕ) (calls : LinkCalls) → Heard decoder ws [] None
    → Waits decoder ws [] calls calls
first_waits decoder ws calls h = record {
  tells = nothing_told calls calls refl;
  before = λ n lt. absurd (omega (arith, lt));
  heard = h;
}

-- one more came
pub tells_more : (arrivals : List Arrival) (arrival : Arrival) (old middle new : LinkCalls)
    → Tells (polled arrivals) old middle → Polls arrival middle new → Tells (polled (arrivals ++ arrival ∷ [])) old new
tells_more arrivals arrival old middle new h g =
    both_told (polled arrivals) (polled (arrival ∷ [])) old middle new h (poll_told arrival middle new g)

module _ (decoder : Decoding) (ws : ℕ) (arrivals : List Arrival) (old middle : LinkCalls) (waits : Waits decoder ws arrivals old middle) where
  none_came : IsFirstReply ws arrivals None
  none_came = first_heard decoder ws arrivals None waits.heard

  pub none_before_next : (arrival : Arrival) → IsNoneBefore ws (arrivals ++ arrival ∷ [])
  none_before_next arrival = none_before ws arrivals arrival waits.before none_came

  pub waits_on : (now : Decoding) (arrival : Arrival) (new : LinkCalls) → Polls arrival middle new
      → Heard now ws (arrivals ++ arrival ∷ []) None → Waits now ws (arrivals ++ arrival ∷ []) old new
  waits_on now arrival new polls heard = record {
    tells = tells_more arrivals arrival old middle new waits.tells polls;
    before = none_before_next arrival;
    heard = heard;
  }

  -- the reply is whole
  pub answered : (now : Decoding) (arrival : Arrival) (text : List ℕ) → length arrivals < most_polls
      → Heard now ws (arrivals ++ arrival ∷ []) (Some text) → Listens ws (arrivals ++ arrival ∷ []) (Ok text)
  answered now arrival text lt heard = record {
    most = omega (arith, lt, length-append arrivals (arrival ∷ []));
    before = none_before_next arrival;
    ends = first_heard now ws (arrivals ++ arrival ∷ []) (Some text) heard;
  }

  -- memory ran out behind a poll that was told
  pub cut_short_behind : (arrival : Arrival) → length arrivals < most_polls
      → Listens ws (arrivals ++ arrival ∷ []) (Err NoMemory)
  cut_short_behind arrival lt = record {
    most = omega (arith, lt, length-append arrivals (arrival ∷ []));
    before = none_before_next arrival;
    ends = tt;
  }
