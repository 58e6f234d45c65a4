use Rattle.std.proofs.Common.{◌≡◌, ◌⊎◌, ◌+◌, ◌<◌, ◌≤◌, inl, inr, refl, ap, arith, Err, subst, rules, false, List, ℕ, [], ◌∷◌, length, option_map}
use Rattle.model.specs.Spelling.{entry_bytes}
use Rattle.outside.specs.Kept.{Bodies, with_body, KeptOrWith}
use Rattle.outside.specs.Records.{longest_file}
use Rattle.node_inputs.specs.declared.ends.NodeEnd.TheVariants.{DiskFault, Limit}
use Rattle.base_types.specs.declared.LimitName.TheVariants.{File}
use Rattle.node_inputs.specs.Traces.{Event}
use Rattle.node_inputs.proofs.Lasting.{at_most, nothing_lasts, kept_lasts, refused_lasts, kept_or_same}
use Rattle.node_inputs.proofs.keeping.keep.Goals as goal

pub returns-in-Err-clause-kept : goal.returns-in-Err-clause-kept
returns-in-Err-clause-kept g c =
    ([], inl (refl, refl), nothing_lasts g.K.Keeper.kept g.K.Keeper.size g.K.Keeper.faults g.K.Keeper.moment g.K.Keeper.may_leave g.K.Keeper.left_since g.K.Keeper.opens_since g.K.Keeper.spent [] refl c.args.keeper.now c.requires.ready)

pub returns-in-Err-NoMemory-clause-kept : goal.returns-in-Err-NoMemory-clause-kept
returns-in-Err-NoMemory-clause-kept g c =
    ([], inl (refl, refl), nothing_lasts g.K.Keeper.kept g.K.Keeper.size g.K.Keeper.faults g.K.Keeper.moment g.K.Keeper.may_leave g.K.Keeper.left_since g.K.Keeper.opens_since g.K.Keeper.spent [] refl c.args.keeper.now c.requires.ready)

pub returns-in-Ok-append-clause-kept : goal.returns-in-Ok-append-clause-kept
returns-in-Ok-append-clause-kept g c =
    let e = c.args.entry.now in
    let old = c.args.keeper.now in
    let new = c.append.new.self in
    let body : c.in-Ok-of.framed ≡ entry_bytes e = search rules in
    let long : length c.in-Ok-of.framed ≡ length (entry_bytes e) = ap length body in
    let unspent : g.K.Keeper.spent new ≡ false = search rules in
    let grows : g.K.Keeper.size new ≡ g.K.Keeper.size old + length c.in-Ok-of.framed + 5 = c.in-Ok-append.ensures.size in
    let room : g.K.Keeper.size old + length c.in-Ok-of.framed + 5 ≤ longest_file =
    at_most longest_file (g.K.Keeper.size old + length c.in-Ok-of.framed + 5) (λ over. search rules) in (
      Event.Keeps e ∷ [],
      refl,
      kept_lasts g.K.Keeper.kept g.K.Keeper.size g.K.Keeper.faults g.K.Keeper.moment g.K.Keeper.may_leave g.K.Keeper.left_since g.K.Keeper.opens_since old new e
          (record { fit = c.requires.fit; in_range = search rules })
          c.requires.ready.rest
          (subst (λ (b : List ℕ). g.K.Keeper.kept new ≡ option_map (with_body b) (g.K.Keeper.kept old)) body c.in-Ok-append.ensures.kept)
          (omega (arith, grows, long))
          (omega (arith, room, long))
          c.append.ensures.later
          c.append.ensures.time
          (subst (λ (b : List ℕ). (t : ℕ) (left : Bodies) → t ≤ g.K.Keeper.moment old → g.K.Keeper.left_since new t left → g.K.Keeper.left_since old t left ⊎ KeptOrWith (g.K.Keeper.kept old) b left) body c.append.ensures.any_moment)
          (c.append.ensures.rest unspent)
          c.append.ensures.opens,
    )

pub returns-in-Err-Full-clause-kept : goal.returns-in-Err-Full-clause-kept
returns-in-Err-Full-clause-kept g c =
    let e = c.args.entry.now in
    let old = c.args.keeper.now in
    let new = c.append.new.self in
    let body : c.in-Ok-of.framed ≡ entry_bytes e = search rules in
    let long : length c.in-Ok-of.framed ≡ length (entry_bytes e) = ap length body in
    let unspent : g.K.Keeper.spent new ≡ false = search rules in
    let same_size : g.K.Keeper.size new ≡ g.K.Keeper.size old = c.in-Err-Full.ensures.same_size in
    let over : longest_file < g.K.Keeper.size old + length c.in-Ok-of.framed + 5 = search rules in
    let same : g.K.Keeper.kept new ≡ g.K.Keeper.kept old = c.in-Err-Full.ensures.same_kept in (
      Event.Refuses e (Limit File) ∷ [],
      inr (inr refl, refl),
      refused_lasts g.K.Keeper.kept g.K.Keeper.size g.K.Keeper.faults g.K.Keeper.moment g.K.Keeper.may_leave g.K.Keeper.left_since g.K.Keeper.opens_since old new e (Limit File)
          (record { fit = c.requires.fit; in_range = search rules })
          c.requires.ready.rest
          (λ other. c.append.ensures.rest unspent)
          same
          same_size
          c.append.ensures.later
          (omega (arith, over, same_size, long))
          c.append.ensures.time
          (subst (λ (b : List ℕ). (t : ℕ) (left : Bodies) → t ≤ g.K.Keeper.moment old → g.K.Keeper.left_since new t left → g.K.Keeper.left_since old t left ⊎ KeptOrWith (g.K.Keeper.kept old) b left) body c.append.ensures.any_moment)
          (λ left may. kept_or_same (g.K.Keeper.kept old) (g.K.Keeper.kept new) same left (entry_bytes e) (c.append.ensures.rest unspent left may))
          c.append.ensures.opens,
    )

pub returns-in-Err-Disk-clause-kept : goal.returns-in-Err-Disk-clause-kept
returns-in-Err-Disk-clause-kept g c =
    let e = c.args.entry.now in
    let old = c.args.keeper.now in
    let new = c.append.new.self in
    let body : c.in-Ok-of.framed ≡ entry_bytes e = search rules in
    let long : length c.in-Ok-of.framed ≡ length (entry_bytes e) = ap length body in
    let same_size : g.K.Keeper.size new ≡ g.K.Keeper.size old = c.in-Err-Disk.ensures.same_size in
    let room : g.K.Keeper.size old + length c.in-Ok-of.framed + 5 ≤ longest_file =
    at_most longest_file (g.K.Keeper.size old + length c.in-Ok-of.framed + 5) (λ over. search rules) in
    let same : g.K.Keeper.kept new ≡ g.K.Keeper.kept old = c.in-Err-Disk.ensures.same_kept in (
      Event.Refuses e DiskFault ∷ [],
      inr (inl refl, refl),
      refused_lasts g.K.Keeper.kept g.K.Keeper.size g.K.Keeper.faults g.K.Keeper.moment g.K.Keeper.may_leave g.K.Keeper.left_since g.K.Keeper.opens_since old new e DiskFault
          (record { fit = c.requires.fit; in_range = search rules })
          c.requires.ready.rest
          (λ other. absurd (other refl))
          same
          same_size
          c.append.ensures.later
          (omega (arith, room, same_size, long), c.in-Err-Disk.ensures.cause c.requires.ready.unspent (ap Err c.in-Err-Disk.field-0-is))
          c.append.ensures.time
          (subst (λ (b : List ℕ). (t : ℕ) (left : Bodies) → t ≤ g.K.Keeper.moment old → g.K.Keeper.left_since new t left → g.K.Keeper.left_since old t left ⊎ KeptOrWith (g.K.Keeper.kept old) b left) body c.append.ensures.any_moment)
          (subst (λ (b : List ℕ). (left : Bodies) → g.K.Keeper.may_leave new left → KeptOrWith (g.K.Keeper.kept old) b left) body (c.in-Err-Disk.ensures.failed c.requires.ready.unspent (ap Err c.in-Err-Disk.field-0-is)))
          c.append.ensures.opens,
    )
