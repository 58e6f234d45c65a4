-- What is named holds back.
use Rattle.std.proofs.Common.{◌≡◌, ◌∙◌, ◌∷◌, ◌++◌, ◌&&◌, ◌||◌, [], ℕ, ap, Bool, List, None, Option, Some, append_assoc, cond, false}
use Rattle.std.proofs.Common.{map, not, refl, sym, true}
use Rattle.std.specs.List.{AllByRecursion, list_any}
use Rattle.std.specs.Option.{option_map_or}
use Rattle.std.specs.Prelude.{◌+◌, ◌==◌, is_some, nat_le, unwrap_or}
use Rattle.lemmas.proofs.Booleans.{and_made, neither_right, not_fails, not_made, or_made_left, or_made_right}
use Rattle.lemmas.proofs.Lists.{all_append, any_append}
use Rattle.lemmas.proofs.Numbers.{eq_itself}
use Rattle.model.specs.Types.{At, Canc, Cont, Deadline, Dep, Events, FollowsJob, FollowsStream, Global, Job, Needs, Net}
use Rattle.model.specs.Types.{Obj, Outside, Own, Prompt, PromptDef, Resource, Stream, StreamDoc, Suppr, Until}
use Rattle.model.specs.Words.{is_yes, nth}
use Rattle.model.specs.History.{View}
use Rattle.model.specs.Catalogue.{StreamJob, jobs_of_stream}
use Rattle.model.specs.Facts.{global_reply, is_due, is_open, open_launch, total}
use Rattle.model.specs.Dependencies.{NumberedDep, has_units, is_met, is_only_shown, prompt_is_answered, unwaived_deps, used}
use Rattle.model.specs.OwnMembers.{lets_stream_end}
use Rattle.waiting.specs.Claims.{dependency_holds_back, holds_back, holds_end_back, holds_release_back}
use Rattle.waiting.specs.Lacks.{dep_lack, dep_row, dep_rows, end_first_rows, end_row, end_rows, job_rows, last_rows}
use Rattle.waiting.specs.Lacks.{own_rows, prompt_lack, release_first_rows, release_rows, stream_rows, units_lack}
use Rattle.waiting.specs.Rows.{failing}
use Rattle.waiting.specs.declared.lacks.Lack.{Lack}
use Rattle.waiting.specs.declared.lacks.Lack.TheVariants as lack

-- where the condition of a row fails, its name claims what is so
abbrev Tells : (Lack → Bool) → Bool × Lack → Type 0
Tells claims row = row.0 ≡ false → claims row.1 ≡ true

-- each name of what fails of rows that tell
named_tell : (claims : Lack → Bool) (rows : List (Bool × Lack)) → AllByRecursion (Tells claims) rows
    → AllByRecursion (λ (x : Lack). claims x ≡ true) (failing rows)
named_tell claims [] h = tt
named_tell claims (row ∷ rows) h = go row.0 h.0 (named_tell claims rows h.1)
  where
    go : (b : Bool) → (b ≡ false → claims row.1 ≡ true)
        → AllByRecursion (λ (x : Lack). claims x ≡ true) (failing rows)
        → AllByRecursion (λ (x : Lack). claims x ≡ true) (cond b (failing rows) (row.1 ∷ failing rows))
    go true f k = k
    go false f k = (f refl, k)

-- the second of two alternatives that both fail
right_fails : (a b : Bool) → (a || b) ≡ false → not b ≡ true
right_fails a b e = not_made b (neither_right a b e)

units_tell : (net : Net) (V : View) (v : ℕ) (o : Obj) (i r n : ℕ) → has_units net V v r n ≡ false
    → dependency_holds_back net V v o (units_lack net V v i r n) ≡ true
unfolding has_units units_lack
units_tell net V v o i r n = go (nth net.resources r) refl
  where
    here : (q : Resource) (b : Bool) → nth net.resources r ≡ Some q → (q.ws == v) ≡ b
        → (b && nat_le (used V v r + n) (total r q.total (V (Events v)))) ≡ false
        → dependency_holds_back net V v o
        (cond b (lack.Units i r n (used V v r) (total r q.total (V (Events v)))) (lack.NoUnits i r))
        ≡ true
    here q true is same e = not_made _ e
    here q false is same e =
        ap (λ (a : Option Resource). not (option_map_or (λ (x : Resource). x.ws == v) a false)) is ∙ ap not same

    go : (a : Option Resource) → nth net.resources r ≡ a
        → option_map_or
        (λ (q : Resource). (q.ws == v) && nat_le (used V v r + n) (total r q.total (V (Events v)))) a false
        ≡ false
        → dependency_holds_back net V v o
        (option_map_or
        (λ (q : Resource).
        cond (q.ws == v) (lack.Units i r n (used V v r) (total r q.total (V (Events v)))) (lack.NoUnits i r))
        a (lack.NoUnits i r))
        ≡ true
    go None is e = ap (λ (a : Option Resource). not (option_map_or (λ (x : Resource). x.ws == v) a false)) is
    go (Some q) is e = here q (q.ws == v) is refl e

prompt_tells : (net : Net) (V : View) (v : ℕ) (o : Obj) (i q : ℕ) → prompt_is_answered net V q ≡ false
    → dependency_holds_back net V v o (prompt_lack net V i q) ≡ true
unfolding prompt_is_answered prompt_lack
prompt_tells net V v o i q = go (nth net.prompts q) refl
  where
    go : (a : Option PromptDef) → nth net.prompts q ≡ a
        → option_map_or
        (λ (t : PromptDef). is_only_shown t.text || is_yes (global_reply q (V (Events 0)))) a false
        ≡ false
        → dependency_holds_back net V v o
        (option_map_or (λ (t : PromptDef). lack.Prompt i q (global_reply q (V (Events 0)))) a (lack.NoPrompt i q))
        ≡ true
    go None is e = rw is refl
    go (Some t) is e = right_fails _ _ e

-- a dependency that is not met
dep_tells : (net : Net) (V : View) (v : ℕ) (o : Obj) (i : ℕ) (d : Dep) → is_met net V v o i d ≡ false
    → dependency_holds_back net V v o (dep_lack net V v o i d) ≡ true
unfolding is_met dep_lack
dep_tells net V v o i (FollowsJob j) e = not_made _ e
dep_tells net V v o i (FollowsStream s) e = not_made _ e
dep_tells net V v o i (Needs r n) e = units_tell net V v o i r n e
dep_tells net V v o i (Prompt (Global q)) e = prompt_tells net V v o i q e
dep_tells net V v o i (Prompt (Own text)) e = right_fails _ _ e
dep_tells net V v o i (At t) e = not_made _ e
dep_tells net V v o i (Until t Cont) e = cc
dep_tells net V v o i (Until t Suppr) e = not_made _ e
dep_tells net V v o i (Until t Canc) e = not_made _ e
dep_tells net V v o i (Outside path) e = not_made _ e
dep_tells net V v o i (Deadline t) e = cc

-- what a dependency claims is the same of the object as of a job, and of a release
as_job : (net : Net) (V : View) (w : ℕ) (p : StreamJob) (x : Lack)
    → dependency_holds_back net V p.doc.ws (Job p.doc.no) x ≡ true → holds_back net V w p x ≡ true
as_job net V w p (lack.Elsewhere v) e = cc
as_job net V w p (lack.NotPlanned s) e = cc
as_job net V w p (lack.NotReleased s) e = cc
as_job net V w p (lack.StreamCancelled s) e = cc
as_job net V w p lack.Cancelled e = cc
as_job net V w p lack.Stopped e = cc
as_job net V w p (lack.Launched n) e = cc
as_job net V w p (lack.Open n) e = cc
as_job net V w p (lack.Fenced f rank) e = cc
as_job net V w p (lack.Limited n) e = cc
as_job net V w p (lack.StreamLimited n) e = cc
as_job net V w p _ e = e

as_release : (net : Net) (V : View) (w : ℕ) (d : StreamDoc) (x : Lack)
    → dependency_holds_back net V d.ws (Stream d.no) x ≡ true → holds_release_back net V w d x ≡ true
as_release net V w d (lack.Elsewhere v) e = cc
as_release net V w d (lack.NotPlanned s) e = cc
as_release net V w d lack.Released e = cc
as_release net V w d lack.Cancelled e = cc
as_release net V w d _ e = e

-- the dependencies of an object, by any table that says of them what the dependencies' says
deps_tell : (net : Net) (V : View) (v : ℕ) (o : Obj) (claims : Lack → Bool)
    → ((x : Lack) → dependency_holds_back net V v o x ≡ true → claims x ≡ true) → (ds : List NumberedDep)
    → AllByRecursion (Tells claims) (map (dep_row net V v o) ds)
deps_tell net V v o claims lifted [] = tt
deps_tell net V v o claims lifted (d ∷ ds) = (
  λ e. lifted (dep_lack net V v o d.number d.dep) (dep_tells net V v o d.number d.dep e),
  deps_tell net V v o claims lifted ds,
)

stream_tells : (net : Net) (V : View) (w : ℕ) (p : StreamJob)
    → AllByRecursion (Tells (holds_back net V w p)) (stream_rows V p)
stream_tells net V w p = (not_made _, (not_made _, (not_fails _, tt)))

-- the number of an open launch
open_tells : (o : Option ℕ) → not (is_some o) ≡ false
    → option_map_or (λ (m : ℕ). m == unwrap_or o 0) o false ≡ true
open_tells None e = cc
open_tells (Some m) e = eq_itself m

own_tells : (net : Net) (V : View) (w : ℕ) (p : StreamJob)
    → AllByRecursion (Tells (holds_back net V w p)) (own_rows V p.doc.ws p.doc.no)
unfolding is_due is_open
own_tells net V w p =
    (not_fails _, (not_fails _, (not_made _, (open_tells (open_launch p.doc.no (V (Events p.doc.ws))), tt))))

last_tells : (net : Net) (V : View) (w : ℕ) (p : StreamJob)
    → AllByRecursion (Tells (holds_back net V w p)) (last_rows V p.doc.ws p)
last_tells net V w p = (not_made _, (right_fails _ _, (not_made _, tt)))

-- what is named of a job holds it back
pub job_held : (net : Net) (V : View) (w : ℕ) (p : StreamJob)
    → AllByRecursion (λ (x : Lack). holds_back net V w p x ≡ true) (failing (job_rows net V w p))
job_held net V w p =
    named_tell (holds_back net V w p) (job_rows net V w p) (
      not_made _,
      all_append T
          (stream_rows V p ++ own_rows V p.doc.ws p.doc.no ++ dep_rows net V p.doc.ws (Job p.doc.no))
          (last_rows V p.doc.ws p)
          (all_append T (stream_rows V p ++ own_rows V p.doc.ws p.doc.no) (dep_rows net V p.doc.ws (Job p.doc.no))
          (all_append T (stream_rows V p) (own_rows V p.doc.ws p.doc.no) (stream_tells net V w p) (own_tells net V w p))
          (deps_tell net V p.doc.ws (Job p.doc.no) (holds_back net V w p) (as_job net V w p)
          (unwaived_deps V (Job p.doc.no))))
          (last_tells net V w p),
    )
  where
    T : Bool × Lack → Type 0
    T = Tells (holds_back net V w p)

-- what is named of a release holds it back
pub release_held : (net : Net) (V : View) (w : ℕ) (d : StreamDoc)
    → AllByRecursion (λ (x : Lack). holds_release_back net V w d x ≡ true) (failing (release_rows net V w d))
release_held net V w d =
    named_tell (holds_release_back net V w d) (release_rows net V w d)
    (all_append (Tells (holds_release_back net V w d)) (release_first_rows V w d) (dep_rows net V d.ws (Stream d.no))
    (not_made _, (not_made _, (not_fails _, (not_fails _, tt))))
    (deps_tell net V d.ws (Stream d.no) (holds_release_back net V w d) (as_release net V w d)
    (unwaived_deps V (Stream d.no))))

-- the jobs of a stream that let it not end, as far as a walk over them has come
jobs_tell : (V : View) (w : ℕ) (d : StreamDoc) (before left : List StreamJob)
    → before ++ left ≡ jobs_of_stream V d.no
    → AllByRecursion (Tells (holds_end_back V w d)) (map (end_row V) left)
jobs_tell V w d before [] e = tt
jobs_tell V w d before (p ∷ left) e = (
  λ fails.
      ap (list_any claim) (sym e) ∙ any_append claim before (p ∷ left)
      ∙ or_made_right (list_any claim before) (list_any claim (p ∷ left))
      (or_made_left (claim p) (list_any claim left) (both fails)),
  jobs_tell V w d (before ++ p ∷ []) left (append_assoc before (p ∷ []) left ∙ e),
)
  where
    claim : StreamJob → Bool
    claim q = (q.doc.no == p.doc.no) && not (lets_stream_end V q)

    both : lets_stream_end V p ≡ false → claim p ≡ true
    both fails = and_made (p.doc.no == p.doc.no) (not (lets_stream_end V p)) (eq_itself p.doc.no) (not_made _ fails)

-- what is named of an end holds it back
pub end_held : (V : View) (w : ℕ) (d : StreamDoc)
    → AllByRecursion (λ (x : Lack). holds_end_back V w d x ≡ true) (failing (end_rows V w d))
end_held V w d =
    named_tell (holds_end_back V w d) (end_rows V w d)
    (all_append (Tells (holds_end_back V w d)) (end_first_rows V w d) (map (end_row V) (jobs_of_stream V d.no))
    (not_made _, (not_made _, (not_made _, (not_fails _, (not_fails _, tt)))))
    (jobs_tell V w d [] (jobs_of_stream V d.no) refl))
