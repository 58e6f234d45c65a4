use Rattle.std.proofs.Common.{ℕ, ◌≡◌, ◌∷◌, sym, subst}
use Rattle.mail_frames.specs.Places.{ScannedAfter, Completes}
use Rattle.mail_frames.specs.declared.places.Place.TheVariants.{Kind}
use Rattle.mail_frames.specs.declared.places.Scanned.{Scanned}
use Rattle.mail_frames.proofs.Reached.{mail_seen, command_seen, reply_seen}
use Rattle.mail_frames.proofs.places.after_length.Goals as goal

at_kind : (n k j : ℕ) (seen : Scanned) → k ≡ j → ScannedAfter (λ bytes. Completes (Kind n) (j ∷ bytes)) seen
    → ScannedAfter (λ bytes. Completes (Kind n) (k ∷ bytes)) seen
at_kind n k j seen e h = subst (λ (i : ℕ). ScannedAfter (λ bytes. Completes (Kind n) (i ∷ bytes)) seen) (sym e) h

pub returns-in-1 : goal.returns-in-1
returns-in-1 c =
    at_kind c.args.length c.args.kind 1 c.still_to_come.result c.in-1.is
    (mail_seen c.args.length c.still_to_come.result c.requires.0 c.requires.1 c.still_to_come.ensures)

pub returns-in-2 : goal.returns-in-2
returns-in-2 c = at_kind c.args.length c.args.kind 2 c.after_ack.result c.in-2.is c.after_ack.ensures

pub returns-in-3 : goal.returns-in-3
returns-in-3 c =
    at_kind c.args.length c.args.kind 3 c.still_to_come-in-3.result c.in-3.is
    (command_seen c.args.length c.still_to_come-in-3.result c.requires.0 c.if-length-le-LONGEST_COMMAND.true
    c.still_to_come-in-3.ensures)

pub returns-in-4 : goal.returns-in-4
returns-in-4 c =
    at_kind c.args.length c.args.kind 4 c.still_to_come-in-4.result c.in-4.is
    (reply_seen c.args.length c.still_to_come-in-4.result c.requires.0 c.if-length-le-LONGEST_REPLY.true
    c.still_to_come-in-4.ensures)
