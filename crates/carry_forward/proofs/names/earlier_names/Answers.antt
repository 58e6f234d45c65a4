use Rattle.std.proofs.Common.{ℕ, ◌∙◌, Bor, List, ap, arith}
use Rattle.std.specs.Option.{option_copied}
use Rattle.model.specs.History.{view_of}
use Rattle.model.specs.NewPlan.{named_doc}
use Rattle.carry_forward.specs.Known.{told_at}
use Rattle.carry_forward.specs.declared.names.Target.{Target}
use Rattle.carry_forward.proofs.Indexed.{earlier_at, earlier_past}
use Rattle.carry_forward.proofs.names.earlier_names.Goals as goal
use Rattle.carry_forward.proofs.names.earlier_names.Goals.{in-Some+in_ok-target+in_ok-put_stream, in_default}

pub loop-s-init : goal.loop-s-init
loop-s-init c =
    λ w name. ap (λ (l : List ((ℕ × Bor (List ℕ)) × Target)). told_at l w name) c.new-names.ensures.empty

pub loop-s-preserved : goal.loop-s-preserved
loop-s-preserved c =
    elim c.match-stream.branch [
      | in-Some+in_ok-target+in_ok-put_stream w ↦ (
          λ ws name.
          (λ j. told_at (w.names-is j).entries ws name)
          ∙ earlier_at c.loop-s.names.entries w.put_stream.new.names.entries (view_of c.args.o.now) c.args.earlier.now
          c.loop-s.s-index c.s-item.result (option_copied c.stream.result) w.in-Some.doc.now (omega arith) c.s-item.is
          c.stream.ensures (ap option_copied w.in-Some.is)
          (λ earlier k.
          w.in_ok-put_stream.ensures.earlier earlier (named_doc w.in-Some.doc.now) w.in_ok-target.ensures
          (λ j. (w.doc.view_is j).ws) (λ j. (w.doc.view_is j).name) k)
          c.loop-s.invariant ws name)
      | in_default w ↦ (
          λ ws name.
          (λ j. told_at (w.names-is j).entries ws name)
          ∙ earlier_past c.loop-s.names.entries (view_of c.args.o.now) c.args.earlier.now c.loop-s.s-index
          c.s-item.result (option_copied c.stream.result) (omega arith) c.s-item.is c.stream.ensures
          (ap option_copied w.in_default.is) c.loop-s.invariant ws name)
    ]
