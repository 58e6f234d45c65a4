use Rattle.std.proofs.Common.{◌≡◌, ◌≤◌, ◌+◌, Bool, replicate, false, Some, length, get_or, slice_get, refl, sym, ◌∙◌, ap, subst, arith, List, ℕ, [], option_copied, None}
use Rattle.std.proofs.lemmas.List.{length-replicate}
use Rattle.std.proofs.lemmas.Option.{slice_get_past, slice_get_read}
use Rattle.follow_circles.specs.Circles.{follows_of}
use Rattle.follow_circles.specs.Reached.{MarksThese}
use Rattle.follow_circles.specs.declared.asking.Reached.{Reached}
use Rattle.follow_circles.specs.declared.circles.Follower.{Follower}
use Rattle.follow_circles.proofs.Marking.{put_nothing}
use Rattle.follow_circles.proofs.Steps.{IsReaching, begins, goes_on, ends_as, all_done, past_the_end, follows_at, follows_got, follows_none, whole_empty, got_at, no_marks, no_count}
use Rattle.follow_circles.proofs.asking.is_on_circle.Goals as goal
use Rattle.follow_circles.proofs.asking.is_on_circle.Goals.{in-Some-get+in_ok-put_all-2, in_default-get, else-loop-at-test, then-loop-at-test+in_default}

pub loop-at-init : goal.loop-at-init
loop-at-init c =
    let n : ℕ = length c.args.objects.now in
    let old : Reached = record { marks = c.in_ok-vec.field-0; places = c.new.result } in
    let marks : old.marks.items ≡ replicate n false = c.in_ok-vec.ensures.items_if_clones_equal (λ y e. e) in
    begins c.args.objects.now c.args.v old c.put_all.new.reached c.as_slice.result.now
    (ap (λ (l : List Bool). length l) marks ∙ length-replicate n false) (no_marks n old.marks.items marks)
    (whole_empty old (no_marks n old.marks.items marks) (no_count n old.marks.items marks) c.new.ensures.items)
    (follows_at c.args.objects.now c.args.v c.index-objects-v.result c.requires c.index-objects-v.is
    ∙ (ap (λ (f : Follower). f.follows) c.index-objects-v.is ∙ sym c.as_slice.ensures))
    c.in_ok-put_all.ensures

pub loop-at-preserved : goal.loop-at-preserved
loop-at-preserved c =
    let got : slice_get c.loop-at.reached.places.items c.loop-at.at ≡ Some c.in-Some.place =
    ap (λ (l : List ℕ). slice_get l c.loop-at.at) (sym c.deref.ensures.value)
    ∙ (sym (got_at c.deref.result.now c.loop-at.at c.get.result c.get.ensures.lookup) ∙ sym c.in-Some.ensures) in
    elim c.match-get.branch [
      | in-Some-get+in_ok-put_all-2 w ↦
          let got_one : slice_get c.args.objects.now c.in-Some.place ≡ Some w.in-Some-get.object.now =
          slice_get_read c.args.objects.now (length c.args.objects.now) c.in-Some.place w.in-Some-get.object.now refl
          w.in-Some-get.ensures.lookup.3.0 w.in-Some-get.ensures.lookup.1 in
          let follows : follows_of c.args.objects.now c.in-Some.place ≡ w.as_slice-in-Some-get.result.now =
          follows_got c.args.objects.now c.in-Some.place w.in-Some-get.object.now got_one
          ∙ sym w.as_slice-in-Some-get.ensures in
          subst (λ (r : Reached). IsReaching c.args.objects.now c.args.v (c.loop-at.at + 1) r) (sym w.reached-is)
          (goes_on c.args.objects.now c.args.v c.loop-at.at c.in-Some.place c.loop-at.reached
          w.put_all-in-Some-get.new.reached c.loop-at.invariant got
          (subst (λ (l : List ℕ). MarksThese c.loop-at.reached w.put_all-in-Some-get.new.reached l) (sym follows)
          w.in_ok-put_all-2.ensures))
      | in_default-get w ↦
          let none : follows_of c.args.objects.now c.in-Some.place ≡ [] =
          follows_none c.args.objects.now c.in-Some.place
          (slice_get_past c.args.objects.now c.in-Some.place w.in_default-get.ensures.lookup.3) in
          subst (λ (r : Reached). IsReaching c.args.objects.now c.args.v (c.loop-at.at + 1) r) (sym w.reached-is)
          (goes_on c.args.objects.now c.args.v c.loop-at.at c.in-Some.place c.loop-at.reached c.loop-at.reached
          c.loop-at.invariant got (put_nothing c.loop-at.reached (follows_of c.args.objects.now c.in-Some.place) none))
    ]

pub returns : goal.returns
returns c =
    elim c.loop-at-test.branch [
      | else-loop-at-test w ↦
          ends_as c.args.objects.now c.args.v c.loop-at.at c.loop-at.reached c.loop-at.invariant
          (all_done c.args.objects.now c.args.v c.loop-at.at c.loop-at.reached c.loop-at.invariant w.loop-at-test.false)
          c.requires c.index.result.now c.index.ensures
      | then-loop-at-test+in_default w ↦
          let none : slice_get c.loop-at.reached.places.items c.loop-at.at ≡ None =
          ap (λ (l : List ℕ). slice_get l c.loop-at.at) (sym w.deref.ensures.value)
          ∙ (sym (got_at w.deref.result.now c.loop-at.at w.get.result w.get.ensures.lookup) ∙ sym w.in_default.ensures) in
          ends_as c.args.objects.now c.args.v c.loop-at.at c.loop-at.reached c.loop-at.invariant
          (past_the_end c.loop-at.reached.places.items c.loop-at.at none) c.requires c.index.result.now c.index.ensures
    ]
