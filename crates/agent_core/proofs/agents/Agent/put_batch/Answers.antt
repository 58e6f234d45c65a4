use Rattle.std.proofs.Common.{◌<◌, ◌∙◌, ap, map, subst, sym}
use Rattle.std.specs.Prelude.{◌++◌}
use Rattle.model.specs.Types.{Net}
use Rattle.model.specs.Network.{node_count}
use Rattle.model.specs.History.{view_of}
use Rattle.model.specs.Forwarding.{to_send}
use Rattle.mailman_core.specs.Mails.{acked_by}
use Rattle.mailman_core.specs.Sends.{sent}
use Rattle.mailman_core.specs.Listed.{IsListed}
use Rattle.agent_core.specs.Nodes.{NodeState, present_in, view_in}
use Rattle.agent_core.specs.Sending.{sends_to}
use Rattle.agent_core.proofs.Holding.{standing_inside}
use Rattle.agent_core.proofs.agents.Agent.put_batch.Goals as goal

pub put_sends-requires : goal.put_sends-requires
put_sends-requires c =
    record {
      from = standing_inside _ _ _ _ _ _ _ c.self.invariant.0;
      to =
          subst (λ (net : Net). c.args.m < node_count net)
          (sym (c.self.invariant.0.here ∙ ap present_in c.self.view_is)) c.requires.inside;
      room = c.requires.room;
    }

pub put_listed_sends-requires : goal.put_listed_sends-requires
put_listed_sends-requires c =
    record {
      from = standing_inside _ _ _ _ _ _ _ c.self.invariant.0;
      to =
          subst (λ (net : Net). c.args.m < node_count net)
          (sym (c.self.invariant.0.here ∙ ap present_in c.self.view_is)) c.requires.inside;
      listed =
          subst (IsListed c.self.inside.present (view_of c.self.inside.owners) c.self.inside.me c.args.m)
          (sym c.as_slice.ensures)
          (subst
          (λ (net : Net).
          IsListed net (view_of c.self.inside.owners) c.self.inside.me c.args.m c.in-Some.listed.now)
          (sym c.self.invariant.0.here)
          (subst (λ (n : NodeState). IsListed (present_in n) (view_in n) n.me c.args.m c.in-Some.listed.now)
          (sym c.self.view_is) c.in-Some.ensures));
      room = c.requires.room;
    }

pub returns-in-Some : goal.returns-in-Some
returns-in-Some c =
    record {
      items =
          c.put_listed_sends.ensures.outs
          ∙ ap (λ l. c.args.outs.now.items ++ l)
          (ap (λ (net : Net). map (sent c.args.m) (to_send net (view_of c.self.inside.owners) c.self.inside.me c.args.m
          (acked_by c.self.inside.mail c.args.m))) c.self.invariant.0.here
          ∙ ap (λ (n : NodeState). sends_to n c.args.m) c.self.view_is);
      room = c.put_listed_sends.ensures.room;
    }

pub returns-in-None : goal.returns-in-None
returns-in-None c =
    record {
      items =
          c.put_sends.ensures.outs
          ∙ ap (λ l. c.args.outs.now.items ++ l)
          (ap (λ (net : Net). map (sent c.args.m) (to_send net (view_of c.self.inside.owners) c.self.inside.me c.args.m
          (acked_by c.self.inside.mail c.args.m))) c.self.invariant.0.here
          ∙ ap (λ (n : NodeState). sends_to n c.args.m) c.self.view_is);
      room = c.put_sends.ensures.room;
    }
