use Rattle.std.proofs.Common.{Bool, ap, arith, false, length, refl, sym, true, ◌<◌, ◌∙◌, ◌≡◌, ◌≢◌, ◌≤◌}
use Rattle.std.specs.Prelude.{slice_index}
use Rattle.model.specs.Words.{has}
use Rattle.grouped_places.proofs.Rising.{there_at, there_not}
use Rattle.grouped_places.proofs.codes.Groups.has.Goals as goal

pub returns : goal.returns
returns c = go c.has_at.result refl ∙ ap (has c.args.self.now) c.code_of-code.ensures
  where
    go : (b : Bool) → c.has_at.result ≡ b → c.has_at.result ≡ has c.args.self.now c.code_of-code.result
    go true e =
        let k : (c.below.result < length c.args.self.now)
        × (slice_index c.args.self.now c.below.result ≡ c.code_of-code.result) = c.has_at.ensures.there e in
        e ∙ sym (there_at c.args.self.now c.below.result c.code_of-code.result 0 k.0 k.1)
    go false e =
        e
        ∙ sym
        (there_not 0 c.args.self.now c.below.result c.code_of-code.result 0
        c.below.ensures.rising c.below.ensures.within
        (λ n l. c.below.ensures.point.0 n 0 (omega arith) l)
        (λ l.
        let a : c.code_of-code.result ≤ slice_index c.args.self.now c.below.result =
        c.below.ensures.point.1 c.below.result 0 (omega arith) l in
        let b : slice_index c.args.self.now c.below.result ≢ c.code_of-code.result = c.has_at.ensures.other e l in
        omega (arith, a, b)))
