use Rattle.std.proofs.Common.{◌≡◌, ◌≤◌, filter_map, length}
use Rattle.model.specs.History.{view_of}
use Rattle.event_audit.specs.Drafts.{gives}
use Rattle.event_audit.proofs.Becoming.{Becomes}
use Rattle.event_audit.proofs.draft_deps.become_these.Given as goal

abbrev pub invariant-loop-dep : goal.invariant-loop-dep
invariant-loop-dep l =
    record {
      within : l.met ≤ length l.deps;
      forth : filter_map (gives (view_of l.owners) l.draft) l.drafted ≡ l.deps
          → Becomes (gives (view_of l.owners) l.draft) l.drafted l.dep-index l.deps l.met;
      back : Becomes (gives (view_of l.owners) l.draft) l.drafted l.dep-index l.deps l.met
          → filter_map (gives (view_of l.owners) l.draft) l.drafted ≡ l.deps;
    }
