use Rattle.std.proofs.Common.{◌≤◌, ◌+◌, ◌++◌, length, take, ℕ, arith, length-append, length-take}
use Rattle.std.proofs.lemmas.Result.{err_from_is_err_and}
use Rattle.outside.proofs.Taking.{Takes-more}
use Rattle.whole_io.proofs.read_whole.Goals as goal

pub returns-in_err-extend_from_slice-clause-lost : goal.returns-in_err-extend_from_slice-clause-lost
returns-in_err-extend_from_slice-clause-lost g c =
    let residual = c.from_residual-in_err-extend_from_slice in
    let failed = err_from_is_err_and residual.result residual.ensures.1 in
    let before = c.loop-piece.bytes.items in
    let read = c.in_ok-count.ensures in
    let piece = take c.in_ok-count.count c.read.new.buf in
    let small : length (before ++ piece) ≤ c.args.limit + 1 =
    omega (arith, length-append before piece, read.bound.1, c.read.auto.buf, length-take {A = ℕ}) in
    rw failed.1 (before ++ piece, small, Takes-more _ _ _ _ _ c.loop-piece.invariant.taken read.moved)
