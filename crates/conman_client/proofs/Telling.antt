-- What a link tells of several calls, from what it tells of each.
use Rattle.std.proofs.Common.{◌≡◌, List, [], ◌∷◌, ◌++◌, ◌∙◌, ap}
use Rattle.outside.specs.Calls.{Begin, Sent, LinkCalls, Begins, Sends, Polls}
use Rattle.outside.specs.declared.links.Arrival.{Arrival}
use Rattle.outside.proofs.Told.{told_both, told_one, told_same}
use Rattle.conman_client.specs.Asks.{Made, Tells, nothing, polled}

-- these calls, and then those
abbrev pub with_more : Made → Made → Made
with_more first more = record {
  begun = first.begun ++ more.begun;
  sent = first.sent ++ more.sent;
  arrived = first.arrived ++ more.arrived;
}

pub both_told : (first more : Made) (old middle new : LinkCalls) → Tells first old middle → Tells more middle new
    → Tells (with_more first more) old new
both_told first more old middle new h g = record {
  begun = told_both first.begun more.begun old.begun middle.begun new.begun h.begun g.begun;
  arrived = told_both first.arrived more.arrived old.arrived middle.arrived new.arrived h.arrived g.arrived;
  sent = told_both first.sent more.sent old.sent middle.sent new.sent h.sent g.sent;
  replied = g.replied ∙ h.replied;
  asked = g.asked ∙ h.asked;
}

pub nothing_told : (old new : LinkCalls) → new ≡ old → Tells nothing old new
nothing_told old new e = record {
  begun = told_same old.begun new.begun (ap (λ (l : LinkCalls). l.begun) e);
  arrived = told_same old.arrived new.arrived (ap (λ (l : LinkCalls). l.arrived) e);
  sent = told_same old.sent new.sent (ap (λ (l : LinkCalls). l.sent) e);
  replied = ap (λ (l : LinkCalls). l.replied) e;
  asked = ap (λ (l : LinkCalls). l.asked) e;
}

pub begin_told : (call : Begin) (old new : LinkCalls) → Begins call old new
    → Tells (record { begun = call ∷ []; sent = []; arrived = [] }) old new
begin_told call old new h = record {
  begun = told_one call old.begun new.begun h.begun;
  arrived = told_same old.arrived new.arrived h.arrived;
  sent = told_same old.sent new.sent h.sent;
  replied = h.replied;
  asked = h.asked;
}

pub send_told : (call : Sent) (old new : LinkCalls) → Sends call old new
    → Tells (record { begun = []; sent = call ∷ []; arrived = [] }) old new
send_told call old new h = record {
  begun = told_same old.begun new.begun h.begun;
  arrived = told_same old.arrived new.arrived h.arrived;
  sent = told_one call old.sent new.sent h.sent;
  replied = h.replied;
  asked = h.asked;
}

pub poll_told : (arrival : Arrival) (old new : LinkCalls) → Polls arrival old new
    → Tells (polled (arrival ∷ [])) old new
poll_told arrival old new h = record {
  begun = told_same old.begun new.begun h.begun;
  arrived = told_one arrival old.arrived new.arrived h.arrived;
  sent = told_same old.sent new.sent h.sent;
  replied = h.replied;
  asked = h.asked;
}
