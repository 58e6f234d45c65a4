use Rattle.std.proofs.Common.{◌≡◌, ◌-◌, ℕ, List, length, drop, replicate, refl}
use Rattle.std.proofs.lemmas.List.{drop-replicate}
use Rattle.keyed_hash.proofs.filled.Goals as goal

pub returns : goal.returns
returns c =
    let zeros : List ℕ = replicate 64 0 in
    let rest : drop (length c.args.bytes.now) zeros ≡ replicate (64 - length c.args.bytes.now) 0 = drop-replicate (length c.args.bytes.now) 64 0 in
    rw (c.copy_from_slice.ensures.after, rest) refl
