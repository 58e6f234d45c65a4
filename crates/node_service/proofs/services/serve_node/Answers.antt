use Rattle.std.proofs.Common.{[], ◌+◌, ◌++◌, ◌≡◌, ◌∙◌, ◌∷◌, ◌≤◌, ℕ, IfSome, List, Some, ap, arith, inr, refl, subst, sym, ⊎_elim}
use Rattle.base_types.specs.declared.LimitName.TheVariants.{File}
use Rattle.node_inputs.specs.declared.ends.NodeEnd.{NodeEnd}
use Rattle.node_inputs.specs.declared.ends.NodeEnd.TheVariants.{Limit}
use Rattle.model.specs.Network.{node_count}
use Rattle.model.specs.Types.{Net}
use Rattle.message_file.specs.Files.{kept_of}
use Rattle.message_file.specs.State.{kept_in}
use Rattle.node_inputs.specs.Tellings.{told_by}
use Rattle.node_inputs.specs.Keeping.{bodies}
use Rattle.node_inputs.specs.Traces.{kept, refusals}
use Rattle.node_loop.specs.Runs.{Run, running}
use Rattle.node_restart.specs.Restarting.{Restarts}
use Rattle.node_service.specs.Serving.{HasRun}
use Rattle.node_service.proofs.Standing.{first_keeps, held_told, is_full, kept_is_left, kept_told, none_failed, standing}
use Rattle.node_service.proofs.Serving.{disk_cause, end_told, held_first, keeps_front, left_told, serving_left, serving_own}
use Rattle.node_service.proofs.services.serve_node.Goals as goal

pub returns-in-Ok-restart_node-clause-serves : goal.returns-in-Ok-restart_node-clause-serves
returns-in-Ok-restart_node-clause-serves g c =
    let D = g.D.Disk in
    let me = c.args.me in
    let defs = c.args.workload.now in
    let old = c.args.disk in
    let mid = c.in-Ok-restart_node.restarted.file in
    let start = c.in-Ok-restart_node.restarted.agent in
    let made = c.in-Ok-restart_node.ensures in
    let after = c.run_node-end.ensures.run.0 in
    let does = c.run_node-end.ensures.run.2 in
    let new = c.run_node-end.new.keeper in
    let why = c.run_node-end.result in
    let told = told_by (g.L.Link.calls c.args.link.now) (g.J.Spawner.calls c.args.jobs.now) (g.C.Clock.readings c.args.clock.now) (g.F.Prober.asked c.args.files.now) in
    let now = told_by (g.L.Link.calls c.run_node-end.new.link) (g.J.Spawner.calls c.run_node-end.new.jobs) (g.C.Clock.readings c.run_node-end.new.clock) (g.F.Prober.asked c.run_node-end.new.files) in
    let first : IfSome (D.seen old) (λ (file : List ℕ). kept_in (D.seen mid.disk) mid.count ≡ Some (bodies start.kept)) =
    held_first me (D.seen old) start.kept (kept_in (D.seen mid.disk) mid.count) made.kept made.written in
    let keeps = keeps_front does.trace start.kept (D.seen old) (D.seen new.disk) new.count (kept_in (D.seen mid.disk) mid.count) first does.lasts.tells in
    let unforced = c.ends_have_their_refusals.ensures.unforced defs c.args.turns start does.trace why after does.acts in
    let forced = c.ends_have_their_refusals.ensures.forced defs c.args.turns start does.trace why after does.acts in
    subst (λ (d : g.row.D.Denot). HasRun D.seen D.faults D.moment D.may_leave D.left_since defs me c.args.turns why old d told now) (sym c.detach.ensures)
    (record {
      start = start;
      made = record {
        net_ = made.net ∙ c.in-Ok.ensures.value;
        few_ = subst (λ (n : Net). node_count n ≤ 256) c.in-Ok.ensures.value c.in-Ok.ensures.few;
        me_ = made.me;
        session_ = made.session;
        holds = subst (λ (n : Net). IfSome (D.seen old) (Restarts n me start.kept)) c.in-Ok.ensures.value made.restarts;
      };
      begun = g.L.Link.calls c.begin_links.new.link;
      ok = c.begin_links.ensures.0;
      begins = c.begin_links.ensures.1;
      trace = does.trace;
      after = after;
      runs = does.acts;
      tells = does.tells;
      forced = forced;
      unforced = unforced;
      keeps = keeps;
      cause = disk_cause does.trace why (new.gate + 1) (D.faults old) (D.faults mid.disk) (D.faults new.disk) forced does.lasts.causes made.later;
      later = omega (arith, made.later, does.lasts.no_less);
      any_moment = serving_left D.moment D.left_since me D.seen D.may_leave old mid new start.kept does.trace first made.any_moment does.lasts.later does.lasts.any_moment;
      at_end = λ left may.
          end_told does.trace (D.seen old) start.kept (kept_in (D.seen mid.disk) mid.count) (kept_of left) first
          (does.lasts.at_end (kept_of left) (left, may, refl));
      own = serving_own D.moment D.left_since me D.seen D.may_leave old mid new (bodies (start.kept ++ kept does.trace)) made.owner made.opens made.any_moment.later does.lasts.opens keeps made.own;
      full = λ is.
          let f = forced (inr is) in
          let refused : refusals does.trace ≡ (f.0, Limit File) ∷ [] = f.1 ∙ ap (λ (w : NodeEnd). (f.0, w) ∷ []) is in
          is_full mid.count mid.gate new.gate (D.seen old) (D.seen mid.disk) start.kept does.trace f.0 first made.size refused does.lasts.grows (does.lasts.causes f.0 (Limit File) refused);
      met = λ name is.
          c.ends_have_their_refusals.ensures.limits defs c.args.turns start does.trace name after
          (subst (λ (w : NodeEnd). Run defs c.args.turns (running start) does.trace (Some w) after) is does.acts);
      written = does.lasts.written;
      attached = mid.disk;
      attaches = record {
        since = made.any_moment.later;
        until = does.lasts.later;
        keeps = first_keeps (D.seen old) (D.seen mid.disk) start.kept mid.count first;
        leaves = λ left may. held_told (D.seen old) start.kept (kept_in (D.seen mid.disk) mid.count) (kept_of left) first (made.rest (kept_of left) (left, may, refl));
        own = (does.lasts.opens me (D.moment mid.disk) (omega arith) (made.owner, made.opens)).1;
      };
      behind = λ left was.
          left_told does.trace (D.seen old) start.kept (kept_in (D.seen mid.disk) mid.count) (kept_of left) first
          (⊎_elim
          (λ w. kept_is_left does.trace (kept_in (D.seen mid.disk) mid.count) (kept_of left) (made.rest (kept_of left) (w.0, g.met.D.Disk.only_now mid.disk w.0 w.1, w.2)))
          (λ is. is) (does.lasts.any_moment (D.moment mid.disk) (kept_of left) (omega arith) (left, was, refl)));
      at_front = λ k. (does.lasts.at_front k).disk;
      stands =
          standing D.seen D.faults D.moment D.may_leave D.left_since defs me g.met.D.Disk.only_now old mid new does.lasts.at_front start.kept does.trace first
          does.lasts.path made.any_moment;
      unfailed = λ other left may.
          kept_told does.trace (D.seen old) start.kept (kept_in (D.seen mid.disk) mid.count) (kept_in (D.seen new.disk) new.count) (kept_of left) first does.lasts.tells
          (does.lasts.unfailed (none_failed does.trace why forced unforced other) (kept_of left) (left, may, refl));
      reads = λ left may. g.met.D.Disk.seen_may_be_left new.disk left may;
    })
