use Rattle.std.proofs.Common.{Option, Ok, refl, subst, sym}
use Rattle.model.specs.Types.{Body, Input, Mail, Packet}
use Rattle.network_world.specs.Deliveries.{IsInputOf, IsOpened}
use Rattle.network_world.proofs.worlds.World.opened.Goals as goal

pub returns-in-Mail : goal.returns-in-Mail
returns-in-Mail c =
    subst (λ (p : Packet). IsOpened c.args.self.now c.args.a p c.mail.result) (sym c.in-Mail.is)
    (λ x old. subst
    (λ (held : Option Body). IsInputOf c.args.a (Mail c.in-Mail.feed c.in-Mail.place) held c.mail.result)
    (c.held.ensures x old) c.mail.ensures)

pub returns-in-Ack : goal.returns-in-Ack
returns-in-Ack c =
    subst (λ (p : Packet). IsOpened c.args.self.now c.args.a p (Ok (Input.Ack c.args.a c.in-Ack.feed c.in-Ack.count))) (sym c.in-Ack.is) (λ x old. refl)
