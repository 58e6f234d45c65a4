-- What a decoder has heard, with one arrival more.
use Rattle.std.proofs.Common.{◌≡◌, ℕ, List, [], ◌∷◌, ◌++◌, Option, Some, None, Bool, true, false, not, ◌==◌, if◌then◌else◌, slice_get, filter_map, refl, sym, ◌∙◌, ap, subst}
use Rattle.std.proofs.lemmas.List.{flat_map_more}
use Rattle.std.proofs.lemmas.List.Elements.{filter_map-append}
use Rattle.lemmas.proofs.Lists.{no_first}
use Rattle.outside.specs.declared.links.Arrival.{Arrival}
use Rattle.outside.specs.declared.links.Arrival.TheVariants.{Bytes}
use Rattle.mail_frames.specs.declared.frames.Frame.{Frame}
use Rattle.mail_frames.specs.Streams.{AreFrames, spelling, AreFramesOf, IsFront}
use Rattle.mail_frames.specs.Decoding.{Decoding, Took, TookBy}
use Rattle.conman_client.specs.Replies.{bytes_in, bytes_of, reply_of, first_reply, IsFirstReply}
use Rattle.conman_client.specs.Hearing.{Heard}

bytes_more : (ws : ℕ) (arrivals : List Arrival) (arrival : Arrival)
    → bytes_of ws (arrivals ++ arrival ∷ []) ≡ bytes_of ws arrivals ++ bytes_in ws arrival
bytes_more ws arrivals arrival = sym (flat_map_more (bytes_in ws) [] arrivals arrival)

first_more : (given frames : List Frame) → first_reply given ≡ None
    → first_reply (given ++ frames) ≡ first_reply frames
first_more given frames h =
    ap (λ (l : List (List ℕ)). slice_get l 0)
    (filter_map-append reply_of given frames
    ∙ ap (λ (l : List (List ℕ)). l ++ filter_map reply_of frames) (no_first (filter_map reply_of given) h))

pub first_heard : (decoder : Decoding) (ws : ℕ) (arrivals : List Arrival) (reply : Option (List ℕ))
    → Heard decoder ws arrivals reply → IsFirstReply ws arrivals reply
first_heard decoder ws arrivals reply h = (h.given, h.frames, h.first)

-- no bytes have no frame
none_yet : ((frames : List Frame) → (rest : List ℕ) → AreFrames frames → IsFront rest
    → AreFramesOf (spelling frames ++ rest) frames)
    → (bad : Option ℕ) (decoder : Decoding) → TookBy bad decoder [] [] → AreFramesOf [] []
none_yet law None decoder took =
    subst (λ (l : List ℕ). AreFramesOf l []) (sym took.1) (law [] decoder.rest took.0 took.2)
none_yet law (Some place) decoder took = took.0

pub nothing_heard : ((frames : List Frame) → (rest : List ℕ) → AreFrames frames → IsFront rest
    → AreFramesOf (spelling frames ++ rest) frames)
    → (decoder : Decoding) → Took decoder [] [] → (ws : ℕ) → Heard decoder ws [] None
nothing_heard law decoder took ws = record {
  given = [];
  took = took;
  frames = none_yet law decoder.bad decoder took;
  first = refl;
}

-- bytes of the workstation
pub own_bytes : (ws from : ℕ) (bytes : List ℕ) → false ≡ not (from == ws) → bytes_in ws (Bytes from bytes) ≡ bytes
own_bytes ws from bytes h = go (from == ws) h
  where
    go : (b : Bool) → false ≡ not b → (if b then bytes else []) ≡ bytes
    go true e = refl
    go false e = cc

-- an arrival with bytes of the workstation, and the frames that they completed
pub taken_in : (old new : Decoding) (ws : ℕ) (arrivals : List Arrival) (arrival : Arrival) (piece : List ℕ)
    (frames : List Frame) (reply : Option (List ℕ)) → bytes_in ws arrival ≡ piece
    → ((stream : List ℕ) → (given : List Frame) → Took old stream given
    → AreFramesOf (stream ++ piece) (given ++ frames))
    → ((stream : List ℕ) → (given : List Frame) → Took old stream given
    → Took new (stream ++ piece) (given ++ frames))
    → first_reply frames ≡ reply → Heard old ws arrivals None → Heard new ws (arrivals ++ arrival ∷ []) reply
taken_in old new ws arrivals arrival piece frames reply e read takes first h =
    let same : bytes_of ws arrivals ++ piece ≡ bytes_of ws (arrivals ++ arrival ∷ []) =
    sym (bytes_more ws arrivals arrival ∙ ap (λ (l : List ℕ). bytes_of ws arrivals ++ l) e)
    in
    record {
      given = h.given ++ frames;
      took = subst (λ (l : List ℕ). Took new l (h.given ++ frames)) same (takes (bytes_of ws arrivals) h.given h.took);
      frames = subst (λ (l : List ℕ). AreFramesOf l (h.given ++ frames)) same (read (bytes_of ws arrivals) h.given h.took);
      first = first_more h.given frames h.first ∙ first;
    }
