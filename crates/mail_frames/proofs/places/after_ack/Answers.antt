use Rattle.mail_frames.proofs.Reached.{events_seen, orders_seen}
use Rattle.mail_frames.proofs.places.after_ack.Goals as goal

pub returns-in-8 : goal.returns-in-8
returns-in-8 c = events_seen c.args.length c.still_to_come.result c.in-8.is c.still_to_come.ensures

pub returns-in-10 : goal.returns-in-10
returns-in-10 c = orders_seen c.args.length c.still_to_come-in-10.result c.in-10.is c.still_to_come-in-10.ensures
