use Rattle.std.proofs.Common.{◌≡◌, ℕ, List, Some, None, ap, sym, ◌∙◌}
use Rattle.conman_client.specs.Replies.{bytes_in, first_reply}
use Rattle.conman_client.proofs.Hearing.{own_bytes, taken_in}
use Rattle.conman_client.proofs.listening.hear.Goals as goal

pub returns-in-Some : goal.returns-in-Some
returns-in-Some c = λ arrivals heard. (
    let ws = c.args.ws in
    let piece = c.as_slice.result.now in
    let fed = c.in_ok-fed.fed in
    let own : bytes_in ws c.args.arrival.now ≡ piece =
    ap (bytes_in ws) c.in-Bytes.is ∙ own_bytes ws c.in-Bytes.from c.in-Bytes.bytes c.if-ne.ensures
    ∙ sym c.as_slice.ensures
    in
    let first : first_reply fed.frames ≡ Some c.in_ok-copy-in-Some.field-0 =
    ap first_reply (sym c.as_slice-2.ensures) ∙ sym c.in-Some.ensures
    ∙ ap (λ (t : List ℕ). Some t) (sym c.in_ok-copy-in-Some.ensures)
    in
    taken_in c.args.decoder.now c.feed.new.self ws arrivals c.args.arrival.now piece fed.frames
    (Some c.in_ok-copy-in-Some.field-0) own c.in_ok-fed.ensures.frames c.in_ok-fed.ensures.takes first heard
    )

pub returns : goal.returns
returns c = λ arrivals heard. (
    let ws = c.args.ws in
    let piece = c.as_slice.result.now in
    let fed = c.in_ok-fed.fed in
    let own : bytes_in ws c.args.arrival.now ≡ piece =
    ap (bytes_in ws) c.in-Bytes.is ∙ own_bytes ws c.in-Bytes.from c.in-Bytes.bytes c.if-ne.ensures
    ∙ sym c.as_slice.ensures
    in
    taken_in c.args.decoder.now c.feed.new.self ws arrivals c.args.arrival.now piece fed.frames None own
    c.in_ok-fed.ensures.frames c.in_ok-fed.ensures.takes
    (ap first_reply (sym c.as_slice-2.ensures) ∙ sym c.in-None.ensures) heard
    )
