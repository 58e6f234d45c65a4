-- What the calls of an ask fix.
use Rattle.std.proofs.Common.{◌≡◌, ◌≢◌, inl, inr, ℕ, true, false, List, Option, Some, None, Result, Ok, Err, refl, sym, ◌∙◌, ap, subst}
use Rattle.base_types.specs.declared.Peer.{Peer}
use Rattle.outside.specs.declared.links.Arrival.{Arrival}
use Rattle.mail_frames.specs.declared.frames.Frame.{Frame}
use Rattle.mail_frames.specs.Streams.{AreFramesOf}
use Rattle.conman_client.specs.declared.ends.AskEnd.{AskEnd}
use Rattle.conman_client.specs.declared.ends.AskEnd.TheVariants.{NoAnswer, NoMemory}
use Rattle.conman_client.specs.Replies.{bytes_of, first_reply, IsFirstReply}
use Rattle.conman_client.specs.Asks.{Made, IsAsk, EndsAtOnce, asked, has_failed}

failed_at_once : (peer : Peer) (command : List ℕ) (made : Made) → EndsAtOnce peer command made (Err NoAnswer)
    → has_failed made ≡ true
failed_at_once peer command made (inl e) = ap has_failed e
failed_at_once peer command made (inr e) = ap has_failed e

module _ (one_reading : (stream : List ℕ) → (frames others : List Frame) → AreFramesOf stream frames
    → AreFramesOf stream others → frames ≡ others) where
  same_reply : (ws : ℕ) (arrivals : List Arrival) (reply other : Option (List ℕ)) → IsFirstReply ws arrivals reply
      → IsFirstReply ws arrivals other → reply ≡ other
  same_reply ws arrivals reply other h g =
      sym h.2 ∙ ap first_reply (one_reading (bytes_of ws arrivals) h.0 g.0 h.1 g.1) ∙ g.2

  -- the same polls
  same_polls : (peer : Peer) (command : List ℕ) (made : Made) (arrivals others : List Arrival)
      → made ≡ asked peer command arrivals → made ≡ asked peer command others → arrivals ≡ others
  same_polls peer command made arrivals others h g = ap (λ (m : Made). m.arrived) (sym h ∙ g)

  same_text : (peer : Peer) (command : List ℕ) (made : Made) (text other : List ℕ) → IsAsk peer command made (Ok text)
      → IsAsk peer command made (Ok other) → Some text ≡ Some other
  same_text peer command made text other (inl h) g = absurd h
  same_text peer command made text other (inr h) (inl g) = absurd g
  same_text peer command made text other (inr h) (inr g) =
      same_reply peer.ws g.0 (Some text) (Some other)
      (subst (λ (l : List Arrival). IsFirstReply peer.ws l (Some text))
      (same_polls peer command made h.0 g.0 h.1 g.1) h.2.ends)
      g.2.ends

  -- a reply, and no answer
  apart : (peer : Peer) (command : List ℕ) (made : Made) (text : List ℕ) → IsAsk peer command made (Ok text)
      → IsAsk peer command made (Err NoAnswer) → ⊥
  apart peer command made text (inl h) g = h
  apart peer command made text (inr h) (inl g) =
      let went : has_failed made ≡ false = ap has_failed h.1 in
      let failed : has_failed made ≡ true = failed_at_once peer command made g in
      cc
  apart peer command made text (inr h) (inr g) =
      let both : Some text ≡ None =
      same_reply peer.ws g.0 (Some text) None
      (subst (λ (l : List Arrival). IsFirstReply peer.ws l (Some text))
      (same_polls peer command made h.0 g.0 h.1 g.1) h.2.ends)
      g.2.ends.1
      in
      cc

  pub one_answer : (peer : Peer) (command : List ℕ) (made : Made) (answer other : Result (List ℕ) AskEnd)
      → IsAsk peer command made answer → IsAsk peer command made other → answer ≢ Err NoMemory
      → other ≢ Err NoMemory → answer ≡ other
  one_answer peer command made (Err NoMemory) other h g n m = absurd (n refl)
  one_answer peer command made (Ok text) (Err NoMemory) h g n m = absurd (m refl)
  one_answer peer command made (Err NoAnswer) (Err NoMemory) h g n m = absurd (m refl)
  one_answer peer command made (Ok text) (Ok other) h g n m =
      let e : Some text ≡ Some other = same_text peer command made text other h g in cc
  one_answer peer command made (Ok text) (Err NoAnswer) h g n m = absurd (apart peer command made text h g)
  one_answer peer command made (Err NoAnswer) (Ok text) h g n m = absurd (apart peer command made text g h)
  one_answer peer command made (Err NoAnswer) (Err NoAnswer) h g n m = refl
