use Rattle.std.proofs.Common.{◌≡◌, ◌+◌, ◌<◌, ◌≤◌, ◌⊎◌, ℕ, List, false, length, subst, sym, ◌∙◌, ap, arith, IfSome, option_map}
use Rattle.outside.specs.Kept.{Bodies, with_body, KeptOrWith, IsKept}
use Rattle.outside.specs.Records.{longest_file, piece_of}
use Rattle.outside.specs.Files.{Told}
use Rattle.gated_puts.specs.Steps.{Opened, IsStaged, StagedOf}
use Rattle.message_file.specs.Files.{IsAtRest}
use Rattle.outside.specs.Stops.{LeavesOnly}
use Rattle.message_file.specs.State.{FileState, kept_in, KeptLeft, OwnFiles}
use Rattle.message_file.proofs.Own.{staged_own, opened_staged}
use Rattle.message_file.proofs.Appending.{length-piece, rest_kept, on_ok_is, on_err_is, staged_kept, staged_same, staged_keeping, staged_stands, opened_rests, opened_kept, opened_stands, keeps_at_rest, moments}
use Rattle.message_file.proofs.keeps.MessageFileKeeper.append.Goals as goal

pub returns-then-behind-ge-LONGEST_FILE-clause-rest :
    goal.returns-then-behind-ge-LONGEST_FILE-clause-rest
returns-then-behind-ge-LONGEST_FILE-clause-rest g c =
    let s = c.self.inside in
    subst (λ (m : FileState g.row.D.Denot). m.spent ≡ false → (left : Bodies) → KeptLeft (g.D.Disk.may_leave m.disk) left → IsKept (kept_in (g.D.Disk.seen m.disk) m.count) left) c.self.view_is
    (λ unspent. rest_kept s.owner s.count s.gate (g.D.Disk.seen s.disk) (g.D.Disk.may_leave s.disk) (c.self.invariant.rests unspent))

pub invariant_of-self : goal.invariant_of-self
invariant_of-self g c =
    let s = c.self.inside in
    let v = c.self.invariant in
    let body = c.args.body.now in
    let piece = c.piece-piece.ensures.piece in
    let fits : s.gate + 5 + length body < longest_file = omega (arith, c.if-behind-ge-LONGEST_FILE.false, ap length piece, length-piece body) in
    let told = g.D.Disk.seen s.disk in
    let new = g.D.Disk.seen c.put.new.disk in
    let rest = v.rests c.if-self.false in
    let staged = subst (λ (p : List ℕ). Told (IsStaged s.gate p) told new) piece (on_err_is c.put.result (sym c.is_err.ensures.value ∙ c.if-is_err.true) c.put.ensures.failed) in
    record {
      keeps = staged_keeping s.owner s.count s.gate body c.piece-piece.ensures.short fits told new (g.D.Disk.may_leave s.disk) rest staged;
      rests = λ e. absurd (cc e);
      low = v.low;
      high = v.high;
      next_in = v.next_in;
      next_low = v.next_low;
      next_high = v.next_high;
      next_stands = staged_stands s.owner s.count s.gate body c.piece-piece.ensures.short fits told new (g.D.Disk.may_leave s.disk) s.next s.next_at rest staged v.next_in v.next_stands;
    }

pub returns-then-is_err-clause-same_kept : goal.returns-then-is_err-clause-same_kept
returns-then-is_err-clause-same_kept g c =
    let s = c.self.inside in
    let v = c.self.invariant in
    let body = c.args.body.now in
    let piece = c.piece-piece.ensures.piece in
    let fits : s.gate + 5 + length body < longest_file = omega (arith, c.if-behind-ge-LONGEST_FILE.false, ap length piece, length-piece body) in
    let told = g.D.Disk.seen s.disk in
    let new = g.D.Disk.seen c.put.new.disk in
    let rest = v.rests c.if-self.false in
    let staged = subst (λ (p : List ℕ). Told (IsStaged s.gate p) told new) piece (on_err_is c.put.result (sym c.is_err.ensures.value ∙ c.if-is_err.true) c.put.ensures.failed) in
    staged_same s.owner s.count s.gate body c.piece-piece.ensures.short fits told new (g.D.Disk.may_leave s.disk) rest staged
    ∙ ap (λ (m : FileState g.row.D.Denot). kept_in (g.D.Disk.seen m.disk) m.count) c.self.view_is

pub returns-then-is_err-clause-any_moment : goal.returns-then-is_err-clause-any_moment
returns-then-is_err-clause-any_moment g c =
    let s = c.self.inside in
    let v = c.self.invariant in
    let body = c.args.body.now in
    let piece = c.piece-piece.ensures.piece in
    let fits : s.gate + 5 + length body < longest_file = omega (arith, c.if-behind-ge-LONGEST_FILE.false, ap length piece, length-piece body) in
    let told = g.D.Disk.seen s.disk in
    let rest = v.rests c.if-self.false in
    subst (λ (m : FileState g.row.D.Denot). (t : ℕ) → (left : Bodies) → t ≤ g.D.Disk.moment m.disk → KeptLeft (g.D.Disk.left_since c.put.new.disk t) left
    → KeptLeft (g.D.Disk.left_since m.disk t) left ⊎ KeptOrWith (kept_in (g.D.Disk.seen m.disk) m.count) body left) c.self.view_is
    (moments g.D.Disk.moment g.D.Disk.left_since s.disk c.put.new.disk (StagedOf s.gate c.piece-piece.result.now told) (KeptOrWith (kept_in told s.count) body) c.put.ensures.any_moment
    (λ file staged. staged_kept s.owner s.count s.gate body c.piece-piece.ensures.short fits told (g.D.Disk.may_leave s.disk) rest file (subst (λ (p : List ℕ). StagedOf s.gate p told file) piece staged)))

pub returns-then-is_err-clause-failed : goal.returns-then-is_err-clause-failed
returns-then-is_err-clause-failed g c =
    let s = c.self.inside in
    let v = c.self.invariant in
    let body = c.args.body.now in
    let piece = c.piece-piece.ensures.piece in
    let fits : s.gate + 5 + length body < longest_file = omega (arith, c.if-behind-ge-LONGEST_FILE.false, ap length piece, length-piece body) in
    let told = g.D.Disk.seen s.disk in
    let rest = v.rests c.if-self.false in
    λ unspent is left kept. subst (λ (m : FileState g.row.D.Denot). KeptOrWith (kept_in (g.D.Disk.seen m.disk) m.count) body left) c.self.view_is
    (staged_kept s.owner s.count s.gate body c.piece-piece.ensures.short fits told (g.D.Disk.may_leave s.disk) rest kept.0
    (subst (λ (p : List ℕ). StagedOf s.gate p told kept.0) piece (c.put.ensures.left kept.0 kept.1)) left kept.2)

pub invariant_of-self-2 : goal.invariant_of-self-2
invariant_of-self-2 g c =
    let s = c.self.inside in
    let v = c.self.invariant in
    let body = c.args.body.now in
    let piece = c.piece-piece.ensures.piece in
    let size : length c.piece-piece.result.now ≡ 5 + length body = ap length piece ∙ length-piece body in
    let fits : s.gate + 5 + length body < longest_file = omega (arith, c.if-behind-ge-LONGEST_FILE.false, size) in
    let told = g.D.Disk.seen s.disk in
    let new = g.D.Disk.seen c.put.new.disk in
    let now = g.D.Disk.may_leave c.put.new.disk in
    let rest = v.rests c.if-self.false in
    let is_ok = sym c.is_err.ensures.value ∙ c.if-is_err.false in
    let opened = subst (λ (p : List ℕ). Told (Opened s.gate p) told new) piece (on_ok_is c.put.result is_ok c.put.ensures.opened) in
    let again = opened_rests s.owner s.count s.gate body c.piece-piece.ensures.short fits told new (g.D.Disk.may_leave s.disk) now rest opened (on_ok_is c.put.result is_ok c.put.ensures.durable) in
    let gate_is : s.gate + 5 + length body ≡ s.gate + length c.piece-piece.result.now = omega (arith, size) in
    let rests = subst (λ (gate : ℕ). IfSome new (λ file. IsAtRest s.owner (s.count + 1) gate file now)) gate_is again in
    record {
      keeps = keeps_at_rest s.owner (s.count + 1) (s.gate + length c.piece-piece.result.now) new now rests;
      rests = λ unspent. rests;
      low = omega (arith, v.low, size);
      high = omega (arith, fits, size);
      next_in = omega (arith, v.next_in);
      next_low = v.next_low;
      next_high = omega (arith, v.next_high);
      next_stands = opened_stands s.owner s.count s.gate body c.piece-piece.ensures.short fits told new (g.D.Disk.may_leave s.disk) s.next s.next_at rest opened v.next_in v.next_stands;
    }

pub returns-clause-kept : goal.returns-clause-kept
returns-clause-kept g c =
    let s = c.self.inside in
    let v = c.self.invariant in
    let body = c.args.body.now in
    let piece = c.piece-piece.ensures.piece in
    let fits : s.gate + 5 + length body < longest_file = omega (arith, c.if-behind-ge-LONGEST_FILE.false, ap length piece, length-piece body) in
    let told = g.D.Disk.seen s.disk in
    let new = g.D.Disk.seen c.put.new.disk in
    let is_ok = sym c.is_err.ensures.value ∙ c.if-is_err.false in
    let opened = subst (λ (p : List ℕ). Told (Opened s.gate p) told new) piece (on_ok_is c.put.result is_ok c.put.ensures.opened) in
    opened_kept s.owner s.count s.gate body c.piece-piece.ensures.short fits told new (g.D.Disk.may_leave s.disk) (v.rests c.if-self.false) opened
    ∙ ap (λ (m : FileState g.row.D.Denot). option_map (with_body body) (kept_in (g.D.Disk.seen m.disk) m.count)) c.self.view_is

pub returns-clause-any_moment : goal.returns-clause-any_moment
returns-clause-any_moment g c =
    let s = c.self.inside in
    let v = c.self.invariant in
    let body = c.args.body.now in
    let piece = c.piece-piece.ensures.piece in
    let fits : s.gate + 5 + length body < longest_file = omega (arith, c.if-behind-ge-LONGEST_FILE.false, ap length piece, length-piece body) in
    let told = g.D.Disk.seen s.disk in
    let rest = v.rests c.if-self.false in
    subst (λ (m : FileState g.row.D.Denot). (t : ℕ) → (left : Bodies) → t ≤ g.D.Disk.moment m.disk → KeptLeft (g.D.Disk.left_since c.put.new.disk t) left
    → KeptLeft (g.D.Disk.left_since m.disk t) left ⊎ KeptOrWith (kept_in (g.D.Disk.seen m.disk) m.count) body left) c.self.view_is
    (moments g.D.Disk.moment g.D.Disk.left_since s.disk c.put.new.disk (StagedOf s.gate c.piece-piece.result.now told) (KeptOrWith (kept_in told s.count) body) c.put.ensures.any_moment
    (λ file staged. staged_kept s.owner s.count s.gate body c.piece-piece.ensures.short fits told (g.D.Disk.may_leave s.disk) rest file (subst (λ (p : List ℕ). StagedOf s.gate p told file) piece staged)))

pub returns-clause-rest : goal.returns-clause-rest
returns-clause-rest g c =
    let s = c.self.inside in
    let v = c.self.invariant in
    let body = c.args.body.now in
    let piece = c.piece-piece.ensures.piece in
    let fits : s.gate + 5 + length body < longest_file = omega (arith, c.if-behind-ge-LONGEST_FILE.false, ap length piece, length-piece body) in
    let told = g.D.Disk.seen s.disk in
    let new = g.D.Disk.seen c.put.new.disk in
    let now = g.D.Disk.may_leave c.put.new.disk in
    let is_ok = sym c.is_err.ensures.value ∙ c.if-is_err.false in
    let opened = subst (λ (p : List ℕ). Told (Opened s.gate p) told new) piece (on_ok_is c.put.result is_ok c.put.ensures.opened) in
    λ unspent. rest_kept s.owner (s.count + 1) (s.gate + 5 + length body) new now
    (opened_rests s.owner s.count s.gate body c.piece-piece.ensures.short fits told new (g.D.Disk.may_leave s.disk) now (v.rests c.if-self.false) opened (on_ok_is c.put.result is_ok c.put.ensures.durable))

pub returns-then-is_err-clause-opens : goal.returns-then-is_err-clause-opens
returns-then-is_err-clause-opens g c =
    let s = c.self.inside in
    let v = c.self.invariant in
    let body = c.args.body.now in
    let piece = c.piece-piece.ensures.piece in
    let fits : s.gate + 5 + length body < longest_file = omega (arith, c.if-behind-ge-LONGEST_FILE.false, ap length piece, length-piece body) in
    let told = g.D.Disk.seen s.disk in
    let new = g.D.Disk.seen c.put.new.disk in
    let rest = v.rests c.if-self.false in
    let staged : Told (IsStaged s.gate (piece_of body)) told new = subst (λ (p : List ℕ). Told (IsStaged s.gate p) told new) piece (on_err_is c.put.result (sym c.is_err.ensures.value ∙ c.if-is_err.true) c.put.ensures.failed) in
    let moments = subst (λ (p : List ℕ). LeavesOnly g.D.Disk.moment g.D.Disk.left_since s.disk c.put.new.disk (StagedOf s.gate p told)) piece c.put.ensures.any_moment in
    subst (λ (m : FileState g.row.D.Denot). (owner t : ℕ) → t ≤ g.D.Disk.moment m.disk → ((m.owner ≡ owner) × OwnFiles owner (g.D.Disk.seen m.disk) (g.D.Disk.left_since m.disk t))
    → ((s.owner ≡ owner) × OwnFiles owner new (g.D.Disk.left_since c.put.new.disk t))) c.self.view_is
    (λ owner t le own. (
      own.0,
      subst (λ (o : ℕ). OwnFiles o told (g.D.Disk.left_since s.disk t) → OwnFiles o new (g.D.Disk.left_since c.put.new.disk t)) own.0
          (staged_own s.owner s.count s.gate body c.piece-piece.ensures.short fits told new (g.D.Disk.may_leave s.disk) (g.D.Disk.left_since s.disk t) (g.D.Disk.left_since c.put.new.disk t) rest staged (λ file was. moments.before t file le was))
          own.1,
    ))

pub returns-clause-opens : goal.returns-clause-opens
returns-clause-opens g c =
    let s = c.self.inside in
    let v = c.self.invariant in
    let body = c.args.body.now in
    let piece = c.piece-piece.ensures.piece in
    let fits : s.gate + 5 + length body < longest_file = omega (arith, c.if-behind-ge-LONGEST_FILE.false, ap length piece, length-piece body) in
    let told = g.D.Disk.seen s.disk in
    let new = g.D.Disk.seen c.put.new.disk in
    let rest = v.rests c.if-self.false in
    let staged : Told (IsStaged s.gate (piece_of body)) told new = opened_staged s.gate (piece_of body) told new (subst (λ (p : List ℕ). Told (Opened s.gate p) told new) piece (on_ok_is c.put.result (sym c.is_err.ensures.value ∙ c.if-is_err.false) c.put.ensures.opened)) in
    let moments = subst (λ (p : List ℕ). LeavesOnly g.D.Disk.moment g.D.Disk.left_since s.disk c.put.new.disk (StagedOf s.gate p told)) piece c.put.ensures.any_moment in
    subst (λ (m : FileState g.row.D.Denot). (owner t : ℕ) → t ≤ g.D.Disk.moment m.disk → ((m.owner ≡ owner) × OwnFiles owner (g.D.Disk.seen m.disk) (g.D.Disk.left_since m.disk t))
    → ((s.owner ≡ owner) × OwnFiles owner new (g.D.Disk.left_since c.put.new.disk t))) c.self.view_is
    (λ owner t le own. (
      own.0,
      subst (λ (o : ℕ). OwnFiles o told (g.D.Disk.left_since s.disk t) → OwnFiles o new (g.D.Disk.left_since c.put.new.disk t)) own.0
          (staged_own s.owner s.count s.gate body c.piece-piece.ensures.short fits told new (g.D.Disk.may_leave s.disk) (g.D.Disk.left_since s.disk t) (g.D.Disk.left_since c.put.new.disk t) rest staged (λ file was. moments.before t file le was))
          own.1,
    ))
