use Rattle.std.proofs.Common.{[], ap, arith, length, refl, sym, ◌++◌, ◌∙◌, ◌∷◌, List}
use Rattle.model.specs.Types.{Entry}
use Rattle.owner_rows.proofs.Taking.{kept_prepared, kept_with}
use Rattle.owner_rows.proofs.kept.Kept.take_own.Goals as goal

pub invariant_of-self : goal.invariant_of-self
invariant_of-self c =
    kept_prepared c.self.inside.entries.items _ c.self.inside.told _ c.self.inside.places _ c.self.invariant refl
    c.prepare.ensures.same (λ kept h. h)

pub invariant_of-self-in_err-prepare-2 : goal.invariant_of-self-in_err-prepare-2
invariant_of-self-in_err-prepare-2 c =
    kept_prepared c.self.inside.entries.items _ c.self.inside.told _ c.self.inside.places _ c.self.invariant refl
    c.prepare.ensures.same c.prepare-2.ensures.same

pub invariant_of-self-in_err-reserve : goal.invariant_of-self-in_err-reserve
invariant_of-self-in_err-reserve c =
    kept_prepared c.self.inside.entries.items _ c.self.inside.told _ c.self.inside.places _ c.self.invariant
    c.in_err-reserve.ensures.items c.prepare.ensures.same c.prepare-2.ensures.same

pub invariant_of-self-2 : goal.invariant_of-self-2
invariant_of-self-2 c =
    kept_with c.self.inside.entries.items c.args.self.now _ c.args.e c.args.e.place c.len.result
    c.addition_key-addition.result c.self.inside.told c.prepare.new.self c.tell.new.self c.self.inside.places
    c.prepare-2.new.self c.tell-2.new.self c.self.invariant c.self.view_is c.requires (omega arith) refl
    (sym (c.len.ensures ∙ ap length c.in_ok-reserve.ensures.items))
    (c.put.ensures.items ∙ ap (λ (l : List Entry). l ++ c.args.e ∷ []) c.in_ok-reserve.ensures.items)
    c.addition_key-addition.ensures c.prepare.ensures.same c.prepare-2.ensures.same c.tell.ensures c.tell-2.ensures
