use Rattle.std.proofs.Common.{◌+◌, ◌≡◌, ℕ, Some, arith, eq-eqb, eqb-true, length, refl, subst, sym}
use Rattle.std.proofs.lemmas.Option.{slice_get_read, slice_get_within}
use Rattle.std.specs.Prelude.{slice_get}
use Rattle.model.specs.History.{view_of}
use Rattle.event_audit.specs.Drafts.{gives, told}
use Rattle.event_audit.proofs.Behind.{clash}
use Rattle.event_audit.proofs.Becoming.{Becomes, all_became, become_all, becomes_more, becomes_other, becomes_skipped}
use Rattle.event_audit.proofs.Becoming.{more_becomes, skipped_becomes}
use Rattle.event_audit.proofs.draft_deps.become_these.Goals as goal
use Rattle.event_audit.proofs.draft_deps.become_these.Goals.{in-None, in-Some+else-not-stands_at}

pub returns-then-not-stands_at : goal.returns-then-not-stands_at
returns-then-not-stands_at c =
    let f = gives (view_of c.args.owners.now) c.args.draft.now in
    let drafted = c.args.drafted.now in
    let there = slice_get_read drafted (length drafted) c.loop-dep.dep-index c.dep-item.result refl
    c.loop-dep-test.true c.dep-item.is in
    let apart = λ (e : slice_get c.args.deps.now c.loop-dep.met ≡ Some (told c.in-Some.found)).
    clash (c.stands_at.ensures.1 e) c.if-not-stands_at.true in (
      λ e. cc,
      λ h. absurd (becomes_other f drafted c.loop-dep.dep-index c.dep-item.result c.args.deps.now c.loop-dep.met
          (told c.in-Some.found) there (sym c.in-Some.ensures) apart (c.loop-dep.invariant.forth h)),
    )

pub loop-dep-preserved : goal.loop-dep-preserved
loop-dep-preserved c =
    let f = gives (view_of c.args.owners.now) c.args.draft.now in
    let drafted = c.args.drafted.now in
    let deps = c.args.deps.now in
    let i = c.loop-dep.dep-index in
    let met = c.loop-dep.met in
    let there = slice_get_read drafted (length drafted) i c.dep-item.result refl c.loop-dep-test.true c.dep-item.is in
    elim c.match-resolved.branch [
      | in-Some+else-not-stands_at w ↦
          let here = w.stands_at.ensures.0 w.if-not-stands_at.false in
          let less = slice_get_within deps met (told w.in-Some.found) here in
          record {
            within = omega (arith, w.met-is);
            forth = λ h. subst (λ (n : ℕ). Becomes f drafted (i + 1) deps n) (sym w.met-is)
                (becomes_more f drafted i c.dep-item.result deps met (told w.in-Some.found) there
                (sym w.in-Some.ensures) here (c.loop-dep.invariant.forth h));
            back = λ h. c.loop-dep.invariant.back
                (more_becomes f drafted i c.dep-item.result deps met (told w.in-Some.found) there
                (sym w.in-Some.ensures) here
                (subst (λ (n : ℕ). Becomes f drafted (i + 1) deps n) w.met-is h));
          }
      | in-None w ↦ record {
        within = omega (arith, w.met-is);
        forth = λ h. subst (λ (n : ℕ). Becomes f drafted (i + 1) deps n) (sym w.met-is)
            (becomes_skipped f drafted i c.dep-item.result deps met there (sym w.in-None.ensures)
            (c.loop-dep.invariant.forth h));
        back = λ h. c.loop-dep.invariant.back
            (skipped_becomes f drafted i c.dep-item.result deps met there (sym w.in-None.ensures)
            (subst (λ (n : ℕ). Becomes f drafted (i + 1) deps n) w.met-is h));
      }
    ]

pub returns : goal.returns
returns c =
    let f = gives (view_of c.args.owners.now) c.args.draft.now in (
      λ t. c.loop-dep.invariant.back
          (become_all f c.args.drafted.now c.loop-dep.dep-index c.args.deps.now c.loop-dep.met c.loop-dep-test.false
          (eqb-true c.loop-dep.met (length c.args.deps.now) t)),
      λ h. eq-eqb c.loop-dep.met (length c.args.deps.now)
          (all_became f c.args.drafted.now c.loop-dep.dep-index c.args.deps.now c.loop-dep.met c.loop-dep-test.false
          c.loop-dep.invariant.within (c.loop-dep.invariant.forth h)),
    )
