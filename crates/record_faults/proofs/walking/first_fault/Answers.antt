use Rattle.std.proofs.Common.{◌≡◌, ◌<◌, ◌+◌, Some, None, [], ◌∷◌, ◌++◌, length, take, drop, subst, sym, ◌∙◌, ap, arith}
use Rattle.record_faults.specs.Known.{above_of, has_name, jobs_around}
use Rattle.record_faults.specs.Faults.{fault_of}
use Rattle.record_faults.specs.Noted.{IsSame}
use Rattle.record_faults.proofs.RowsAbove.{noted, rows_above}
use Rattle.record_faults.proofs.Walks.{judged_at, taken_more, left_at, goes_on, ends_there, from_start, whole_or_not, rest_of}
use Rattle.record_faults.proofs.walking.first_fault.Goals as goal

pub returns-in-Some : goal.returns-in-Some
returns-in-Some c =
    let rows = c.args.rows.now in
    let i = c.loop-i.i in
    let here : i < length rows = omega arith in
    let judged = judged_at c.args.named.now rows i c.index-rows-i.result c.loop-i.above c.loop-i.jobs c.ends_at-ends.result
    c.in_ok-kind.field-0 here c.index-rows-i.is c.loop-i.invariant.above c.loop-i.invariant.jobs
    (whole_or_not c.has_steps-is_whole.result rows (i + 1) c.ends_at-ends.result c.has_steps-is_whole.ensures
    c.ends_at-ends.ensures) c.in_ok-kind.ensures in
    let some : fault_of c.args.named.now (record { above = take i rows; here = c.index-rows-i.result; below = drop (i + 1) rows }) ≡ Some c.in-Some.kind = sym judged ∙ c.in-Some.is in
    sym (from_start c.args.named.now rows (omega arith)
    ∙ c.loop-i.invariant.left
    ∙ ends_there c.args.named.now rows i c.index-rows-i.result c.in-Some.kind here c.index-rows-i.is some)

pub note-requires : goal.note-requires
note-requires c =
    let rows = c.args.rows.now in
    let e = rows_above rows c.loop-i.i c.loop-i.above (omega arith) c.loop-i.invariant.above in
    omega arith

pub loop-i-preserved : goal.loop-i-preserved
loop-i-preserved c =
    let rows = c.args.rows.now in
    let i = c.loop-i.i in
    let here : i < length rows = omega arith in
    let judged = judged_at c.args.named.now rows i c.index-rows-i.result c.loop-i.above c.loop-i.jobs c.ends_at-ends.result
    c.in_ok-kind.field-0 here c.index-rows-i.is c.loop-i.invariant.above c.loop-i.invariant.jobs
    (whole_or_not c.has_steps-is_whole.result rows (i + 1) c.ends_at-ends.result c.has_steps-is_whole.ensures
    c.ends_at-ends.ensures) c.in_ok-kind.ensures in
    let none : fault_of c.args.named.now (record { above = take i rows; here = c.index-rows-i.result; below = drop (i + 1) rows }) ≡ None = sym judged ∙ c.in-None.is in
    let more = taken_more rows i c.index-rows-i.result here c.index-rows-i.is in
    let left = left_at rows i c.index-rows-i.result here c.index-rows-i.is in
    let rest = rest_of rows (i + 1) in
    record {
      above = subst (λ l. IsSame c.note.new.self (above_of l)) (sym more)
          (noted (take i rows) c.index-rows-i.result c.loop-i.above c.note.new.self c.loop-i.invariant.above c.in_ok-note-in-None.ensures);
      jobs = λ n.
          c.in_ok-jobs-2.ensures (take i rows)
          (λ m. c.loop-i.invariant.jobs m
          ∙ ap (λ l. has_name (jobs_around (take i rows) l) m) (left ∙ ap (λ l. c.index-rows-i.result ∷ l) (sym rest))) n
          ∙ ap (λ l. has_name (jobs_around (take i rows ++ c.index-rows-i.result ∷ []) l) n) rest
          ∙ ap (λ l. has_name (jobs_around l (drop (i + 1) rows)) n) (sym more);
      left = c.loop-i.invariant.left ∙ goes_on c.args.named.now rows i c.index-rows-i.result here c.index-rows-i.is none;
    }
