use Rattle.std.proofs.Common.{◌∙◌, ℕ, ap, take}
use Rattle.std.specs.List.{list_any}
use Rattle.std.specs.Prelude.{◌==◌, ◌||◌, Bool}
use Rattle.model.specs.Words.{has}
use Rattle.counted_facts.proofs.Numbered.{first_half, has_as, last_half, next_tells, next_told}
use Rattle.counted_facts.proofs.Steps.{half_same}
use Rattle.counted_facts.proofs.numbers.tell_numbers.Goals as goal

pub loop-number-init : goal.loop-number-init
loop-number-init c =
    λ fact G e done at h. first_half (λ (n : ℕ). n) fact G e done c.args.timelines.now h

pub loop-number-preserved : goal.loop-number-preserved
loop-number-preserved c =
    λ fact G e done at h. next_told (λ (n : ℕ). n) fact G e done c.tell_number.new.timelines c.args.numbers.now
    c.loop-number.number-index c.number-item.result c.number-item.result c.number_of.result c.loop-number-test.true
    c.number-item.is c.number_of.ensures
    (c.in_ok-tell_number.ensures fact G e
    (λ m. done m || list_any (λ (n : ℕ). n == m) (take c.loop-number.number-index c.args.numbers.now))
    (next_tells (λ (n : ℕ). n) fact G e c.args.w c.args.place (has c.args.numbers.now) c.args.numbers.now
    c.loop-number.number-index c.number-item.result c.number-item.result c.number_of.result
    (λ m h. has_as c.args.numbers.now m ∙ h) c.loop-number-test.true c.number-item.is c.number_of.ensures at)
    (c.loop-number.invariant fact G e done at h))

pub returns : goal.returns
returns c =
    λ fact G e done at h. half_same fact G e
    (λ m. done m || list_any (λ (n : ℕ). n == m) c.args.numbers.now)
    (λ m. done m || has c.args.numbers.now m) c.loop-number.timelines
    (λ m. ap (λ (b : Bool). done m || b) (has_as c.args.numbers.now m))
    (last_half (λ (n : ℕ). n) fact G e done c.loop-number.timelines c.args.numbers.now c.loop-number.number-index
    c.loop-number-test.false (c.loop-number.invariant fact G e done at h))
