use Rattle.std.proofs.Common.{Err, Ok, Result, subst, sym, ◌∙◌}
use Rattle.std.specs.Prelude.{OnOk}
use Rattle.owner_fold.specs.Sets.{Begins, HasGiven, HasPlace}
use Rattle.owner_fold.specs.declared.changes.Change.{Change}
use Rattle.owner_fold.proofs.sets.Sets.prepare.Goals as goal

on_ok : {T E P Q : Type 0} (r : Result T E) → (P → Q) → OnOk r P → OnOk r Q
on_ok (Ok x) f p = f p
on_ok (Err x) f p = tt

pub returns-then-begins-clause-begins : goal.returns-then-begins-clause-begins
returns-then-begins-clause-begins c =
    on_ok c.include.result
    (λ (there : HasPlace c.in-StreamChange.w c.place.result c.include.new.groups).
    subst (λ (change : Change). Begins c.args.index.now change
    (record {
      waiting = c.args.self.now.waiting;
      begun = c.include.new.groups;
      opened = c.args.self.now.opened;
      by_stream = c.args.self.now.by_stream;
      timed = c.args.self.now.timed;
      filed = c.args.self.now.filed;
    })) (sym c.in-StreamChange.is)
    (λ begins numbers places i e. there i (c.place.ensures numbers places ∙ e)))
    c.include.ensures.there

pub returns-then-begins-2-clause-begins : goal.returns-then-begins-2-clause-begins
returns-then-begins-2-clause-begins c =
    on_ok c.include-then-begins-2.result
    (λ (there : HasPlace c.in-JobChange.w c.place-then-begins-2.result c.include-then-begins-2.new.groups).
    subst (λ (change : Change). Begins c.args.index.now change
    (record {
      waiting = c.args.self.now.waiting;
      begun = c.args.self.now.begun;
      opened = c.include-then-begins-2.new.groups;
      by_stream = c.args.self.now.by_stream;
      timed = c.args.self.now.timed;
      filed = c.args.self.now.filed;
    })) (sym c.in-JobChange.is)
    (λ begins numbers places i e. there i (c.place-then-begins-2.ensures numbers places ∙ e)))
    c.include-then-begins-2.ensures.there

pub returns-in-TimeGiven-clause-begins : goal.returns-in-TimeGiven-clause-begins
returns-in-TimeGiven-clause-begins c =
    on_ok c.include-in-TimeGiven.result
    (λ (there : HasGiven c.args.index.now c.in-TimeGiven.w c.in-TimeGiven.o c.include-in-TimeGiven.new.self).
    subst (λ (change : Change). Begins c.args.index.now change
    (record {
      waiting = c.args.self.now.waiting;
      begun = c.args.self.now.begun;
      opened = c.args.self.now.opened;
      by_stream = c.args.self.now.by_stream;
      timed = c.include-in-TimeGiven.new.self;
      filed = c.args.self.now.filed;
    })) (sym c.in-TimeGiven.is) there)
    c.include-in-TimeGiven.ensures.there

pub returns-in-FileGiven-clause-begins : goal.returns-in-FileGiven-clause-begins
returns-in-FileGiven-clause-begins c =
    on_ok c.include-in-FileGiven.result
    (λ (there : HasGiven c.args.index.now c.in-FileGiven.w c.in-FileGiven.o c.include-in-FileGiven.new.self).
    subst (λ (change : Change). Begins c.args.index.now change
    (record {
      waiting = c.args.self.now.waiting;
      begun = c.args.self.now.begun;
      opened = c.args.self.now.opened;
      by_stream = c.args.self.now.by_stream;
      timed = c.args.self.now.timed;
      filed = c.include-in-FileGiven.new.self;
    })) (sym c.in-FileGiven.is) there)
    c.include-in-FileGiven.ensures.there
