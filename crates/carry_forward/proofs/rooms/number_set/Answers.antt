use Rattle.std.proofs.Common.{ℕ, ◌∙◌, ◌≡◌, List, ap, arith, get_or, subst, sym}
use Rattle.std.proofs.lemmas.List.{take_all}
use Rattle.model.specs.Words.{has}
use Rattle.carry_forward.proofs.Counts.{set_more}
use Rattle.carry_forward.proofs.rooms.number_set.Goals as goal

pub loop-s-preserved : goal.loop-s-preserved
loop-s-preserved c =
    set_more c.loop-s.numbers.keys c.insert.new.self.keys c.args.streams.now c.loop-s.s-index c.s.inside.0
    (omega arith)
    (subst (λ (v : ℕ). v ≡ get_or c.args.streams.now c.loop-s.s-index v) (sym c.s.view_is) c.s-item.is)
    c.in-Ok.ensures.keys c.loop-s.invariant

pub returns : goal.returns
returns c =
    λ n. c.loop-s.invariant n
    ∙ ap (λ (l : List ℕ). has l n) (take_all c.loop-s.s-index c.args.streams.now (omega arith))
