use Rattle.std.proofs.Common.{◌∙◌, sym}
use Rattle.lemmas.proofs.Results.{after_ok}
use Rattle.counted_facts.proofs.Naming.{reply_none, reply_one}
use Rattle.counted_facts.proofs.masters.tell_replied.Goals as goal

pub returns-in-None : goal.returns-in-None
returns-in-None c =
    λ before next h. reply_none before c.args.e.now c.args.replied.now (sym c.reply_key.ensures ∙ c.in-None.is) h

pub returns-in-Some : goal.returns-in-Some
returns-in-Some c =
    after_ok c.tell.result c.tell.ensures
    (λ told before next h. reply_one before c.args.e.now c.in-Some.w c.in-Some.p c.from.result c.args.e.now.place
    c.place_if.result c.in-Some.yes c.args.replied.now c.tell.new.self (sym c.reply_key.ensures ∙ c.in-Some.is)
    c.from.ensures c.place_if.ensures next told h)
