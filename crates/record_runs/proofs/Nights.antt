-- Lines that are taken one after the other.
use Rattle.std.proofs.Common.{◌≡◌, ◌∙◌, ◌∷◌, ◌+◌, ◌<◌, [], ℕ, Bool, List, Option, Some, None, ap, arith, drop, drop-cons, false, get_or}
use Rattle.std.proofs.Common.{length, not, refl, suc, subst, sym, true}
use Rattle.std.proofs.lemmas.List.Elements.{recursion_from_All}
use Rattle.std.proofs.lemmas.List.Sums.{AllPass-from_list_all}
use Rattle.std.proofs.lemmas.Option.{slice_get_read}
use Rattle.std.specs.Prelude.{Err, IfOk, IfSome, IsTrue, Ok, Result, slice_get}
use Rattle.std.specs.List.{list_all}
use Rattle.model.specs.Types.{Net, StreamDraft}
use Rattle.model.specs.World.{World, empty_world}
use Rattle.model_laws.proofs.Options.{slice_get_all}
use Rattle.network_world.specs.Stations.{WorldState}
use Rattle.network_world.specs.Standing.{StandsFor}
use Rattle.record_script.specs.declared.Script.{Script}
use Rattle.record_script.specs.declared.ScriptStep.{ScriptStep}
use Rattle.record_runs.specs.Causes.{Cause, told}
use Rattle.record_runs.specs.Lines.{Day, are_inside, asks_day, left_after}
use Rattle.record_script.specs.Inside.{is_inside, ws_in}
use Rattle.record_runs.specs.Runs.{run_lines, run_of, stopped, take_line, went_on}
use Rattle.record_runs.specs.Ends.{AreLinesInside, AskNoDay, IsDone, IsStopped, asks_no_day}
use Rattle.record_runs.specs.Taken.{HaltsFor, IsStopIn, Leads, LeadsAll, StopsAt, StopsIn}
use Rattle.base_types.specs.declared.NoMemory.{NoMemory}
use Rattle.record_runs.specs.declared.stops.Halt.{Halt}
use Rattle.record_runs.specs.declared.stops.Halt.TheVariants as halt
use Rattle.record_runs.specs.declared.stops.Stop.{Stop}

-- so far: what is left of the lines, taken from the world that stands now, completes the whole
pub record IsAsFar (old : WorldState) (day : Day) (net : Net) (plans : List (List StreamDraft)) (lines : List ScriptStep)
    (now : WorldState) (left : List (List StreamDraft)) (others : List ScriptStep) : Type 0 where
  pub far : (x : World) → StandsFor old x
      → (y : World) × StandsFor now y × (run_lines day net x plans lines ≡ run_lines day net y left others)

-- at the beginning
pub begins : (old : WorldState) (day : Day) (net : Net) (plans : List (List StreamDraft)) (lines : List ScriptStep)
    → IsAsFar old day net plans lines old plans lines
begins old day net plans lines = record { far = λ x s. (x, s, refl) }

line_taken : (day : Day) (net : Net) (x y : World) (left : List (List StreamDraft)) (s : ScriptStep) (others : List ScriptStep)
    → take_line day net left s.form x ≡ Ok y
    → run_lines day net x left (s ∷ others) ≡ run_lines day net y (left_after left s.form) others
line_taken day net x y left s others h =
    ap (λ (r : Result World Cause). went_on s.line r (λ z. run_lines day net z (left_after left s.form) others)) h

line_not_taken : (day : Day) (net : Net) (x : World) (c : Cause) (left : List (List StreamDraft)) (s : ScriptStep)
    (others : List ScriptStep) → take_line day net left s.form x ≡ Err c
    → run_lines day net x left (s ∷ others) ≡ stopped s.line c
line_not_taken day net x c left s others h =
    ap (λ (r : Result World Cause). went_on s.line r (λ z. run_lines day net z (left_after left s.form) others)) h

-- one line further
pub goes_further : (old : WorldState) (day : Day) (net : Net) (plans : List (List StreamDraft)) (lines : List ScriptStep)
    (now next : WorldState) (left behind : List (List StreamDraft)) (s : ScriptStep) (others : List ScriptStep)
    → now.net ≡ net → IsAsFar old day net plans lines now left (s ∷ others)
    → Leads now (take_line day now.net left s.form) next → behind ≡ left_after left s.form
    → IsAsFar old day net plans lines next behind others
goes_further old day net plans lines now next left behind s others same h taken is =
    record {
      far = λ x b.
          let t = h.far x b in
          let u = over t.0 t.1 in (
            u.0,
            u.2,
            t.2 ∙ (line_taken day net t.0 u.0 left s others u.1
                ∙ ap (λ (l : List (List StreamDraft)). run_lines day net u.0 l others) (sym is)),
          );
    }
  where
    over : (x : World) → StandsFor now x → (y : World) × (take_line day net left s.form x ≡ Ok y) × StandsFor next y
    over = subst (λ (n : Net). (x : World) → StandsFor now x
        → (y : World) × (take_line day n left s.form x ≡ Ok y) × StandsFor next y) same taken.leads_

-- at the end
pub all_taken : (old : WorldState) (day : Day) (net : Net) (plans : List (List StreamDraft)) (lines : List ScriptStep)
    (now : WorldState) (left : List (List StreamDraft)) (others : List ScriptStep) → others ≡ []
    → IsAsFar old day net plans lines now left others → LeadsAll old day net plans lines now
all_taken old day net plans lines now left others none h = λ x b.
    let t = h.far x b in
    (t.0, t.2 ∙ ap (λ (l : List ScriptStep). run_lines day net t.0 left l) none, t.1)

-- or in a line
pub stops_here : (old : WorldState) (day : Day) (net : Net) (plans : List (List StreamDraft)) (lines : List ScriptStep)
    (now : WorldState) (left : List (List StreamDraft)) (s : ScriptStep) (others : List ScriptStep) (stop : Stop)
    → now.net ≡ net → IsAsFar old day net plans lines now left (s ∷ others)
    → StopsAt now (take_line day now.net left s.form) stop → StopsIn old day net plans lines (s.line, stop)
stops_here old day net plans lines now left s others stop same h stops = λ x b.
    let t = h.far x b in
    let u = over t.0 t.1 in
    (u.0, t.2 ∙ line_not_taken day net t.0 u.0 left s others u.1, u.2)
  where
    over : (x : World) → StandsFor now x → (c : Cause) × (take_line day net left s.form x ≡ Err c) × (told c ≡ stop)
    over = subst (λ (n : Net). (x : World) → StandsFor now x
        → (c : Cause) × (take_line day n left s.form x ≡ Err c) × (told c ≡ stop)) same stops

-- the line at an index, and those behind it
pub rest_is : (lines : List ScriptStep) (i : ℕ) (s : ScriptStep) → i < length lines → s ≡ get_or lines i s
    → drop i lines ≡ s ∷ drop (i + 1) lines
rest_is lines i s h is =
    let one : suc i ≡ i + 1 = omega arith in
    drop-cons lines i s h
    ∙ (ap (λ (t : ScriptStep). t ∷ drop (suc i) lines) (sym is) ∙ ap (λ (k : ℕ). s ∷ drop k lines) one)

pub as_far_as : (old : WorldState) (day : Day) (net : Net) (plans : List (List StreamDraft)) (lines : List ScriptStep)
    (now : WorldState) (left : List (List StreamDraft)) (others same : List ScriptStep) → others ≡ same
    → IsAsFar old day net plans lines now left others → IsAsFar old day net plans lines now left same
as_far_as old day net plans lines now left others same e h =
    subst (λ (l : List ScriptStep). IsAsFar old day net plans lines now left l) e h

-- what holds of each line holds of this one
passes : (p : ScriptStep → Bool) (lines : List ScriptStep) (i : ℕ) (s : ScriptStep) → list_all p lines ≡ true
    → i < length lines → s ≡ get_or lines i s → p s ≡ true
passes p lines i s h lt is =
    go (slice_get lines i) (slice_get_read lines (length lines) i s refl lt is)
    (slice_get_all (λ (t : ScriptStep). p t ≡ true) lines i
    (recursion_from_All (λ (t : ScriptStep). p t ≡ true) lines (AllPass-from_list_all p lines h)))
  where
    go : (o : Option ScriptStep) → o ≡ Some s → IfSome o (λ (t : ScriptStep). p t ≡ true) → p s ≡ true
    go (Some t) e k =
        let same : t ≡ s = cc in
        subst (λ (v : ScriptStep). p v ≡ true) same k
    go None e k = absurd (cc)

pub line_inside : (net : Net) (now : WorldState) (lines : List ScriptStep) (i : ℕ) (s : ScriptStep)
    → AreLinesInside net lines → now.net ≡ net → i < length lines → s ≡ get_or lines i s
    → IsTrue (are_inside now.net (ws_in s.form))
line_inside net now lines i s h same lt is =
    subst (λ (n : Net). are_inside n (ws_in s.form) ≡ true) (sym same) (passes (is_inside net) lines i s h lt is)

pub no_day_here : (lines : List ScriptStep) (i : ℕ) (s : ScriptStep) → AskNoDay lines → i < length lines
    → s ≡ get_or lines i s → asks_day s.form ≡ false
no_day_here lines i s h lt is = go (asks_day s.form) (passes asks_no_day lines i s h lt is)
  where
    go : (b : Bool) → not b ≡ true → b ≡ false
    go true e = cc
    go false e = refl

-- the run of a script
pub script_done : (day : Day) (script : Script) (begun now : WorldState) (net : Net) (plans : List (List StreamDraft))
    (lines : List ScriptStep) → net ≡ script.net → plans ≡ script.plans → lines ≡ script.steps
    → StandsFor begun empty_world → LeadsAll begun day net plans lines now → IsDone day script now
unfolding run_of
script_done day script begun now net plans lines a b c stands h =
    let t = h empty_world stands in
    (t.0, sym (λ i. run_lines day (a i) empty_world (b i) (c i)) ∙ t.1, t.2)

pub script_stopped : (day : Day) (script : Script) (begun : WorldState) (net : Net) (plans : List (List StreamDraft))
    (lines : List ScriptStep) (at_ : ℕ × Stop) → net ≡ script.net → plans ≡ script.plans → lines ≡ script.steps
    → StandsFor begun empty_world → StopsIn begun day net plans lines at_ → IsStopped day script at_.0 at_.1
unfolding run_of
script_stopped day script begun net plans lines at_ a b c stands h =
    let t = h empty_world stands in
    (t.0, sym (λ i. run_lines day (a i) empty_world (b i) (c i)) ∙ t.1, t.2)

-- a stop is told, and no end of all lines
pub stop_told : (now : WorldState) (made : World → Result World Cause) (line : ℕ) (h : Halt)
    (r : Result (Option (ℕ × Stop)) NoMemory) (P : ℕ × Stop → Type 0) → IsStopIn line h r → HaltsFor now made h
    → ((s : Stop) → StopsAt now made s → P (line, s)) → IfOk r (λ (o : Option (ℕ × Stop)). IfSome o P)
stop_told now made line halt.NoMemory (Ok o) P is stops f = absurd is
stop_told now made line halt.NoMemory (Err e) P is stops f = tt
stop_told now made line (halt.At s) r P is stops f =
    subst (λ (q : Result (Option (ℕ × Stop)) NoMemory). IfOk q (λ (o : Option (ℕ × Stop)). IfSome o P)) (sym is)
    (f s stops)

pub no_end : (line : ℕ) (h : Halt) (r : Result (Option (ℕ × Stop)) NoMemory) (Q : Type 0) → IsStopIn line h r
    → IfOk r (λ (o : Option (ℕ × Stop)). o ≡ None → Q)
no_end line halt.NoMemory (Ok o) Q is = absurd is
no_end line halt.NoMemory (Err e) Q is = tt
no_end line (halt.At s) r Q is =
    subst (λ (q : Result (Option (ℕ × Stop)) NoMemory). IfOk q (λ (o : Option (ℕ × Stop)). o ≡ None → Q)) (sym is)
    (λ e. absurd (not_there e))
  where
    not_there : {t : ℕ × Stop} → Some t ≡ None → ⊥
    not_there e = cc

-- what is told of the whole, where something is told
pub all_of_it : (o : Option (ℕ × Stop)) (Q : Type 0) → o ≡ None → (o ≡ None → Q) → Q
all_of_it o Q e f = f e

pub some_of_it : (o : Option (ℕ × Stop)) (t : ℕ × Stop) (P : ℕ × Stop → Type 0) → o ≡ Some t → IfSome o P → P t
some_of_it o t P e h = subst (λ (q : Option (ℕ × Stop)). IfSome q P) e h
