-- A file is told directly behind the probe that found it, and no other is told.
use Rattle.std.proofs.Common.{[], ◌++◌, ◌<◌, ◌≡◌, ◌∙◌, ◌∷◌, ◌⊎◌, ℕ, Bool, List, None, Option, Some, ap, append_assoc, false, inl, inr, refl, subst, sym, true}
use Rattle.std.specs.Prelude.{Err, Ok, Result}
use Rattle.base_types.specs.declared.LimitName.TheVariants.{Places}
use Rattle.lemmas.proofs.Options.{map_some, some_is}
use Rattle.composer_parser.specs.declared.Defs.{Defs}
use Rattle.model.specs.Types.{Entry, Events, Fulfil, Fulfilled, Input, Local, Net, Obj, StartFailed, Turn, Unlinked}
use Rattle.model.specs.History.{View}
use Rattle.model.specs.Network.{node_count}
use Rattle.model.specs.NewEntry.{next_entry}
use Rattle.outside.specs.declared.Failed.{Failed}
use Rattle.agent_core.specs.Nodes.{NodeState, present_in, session_in, view_in}
use Rattle.entry_codec.specs.Entries.{entry_in}
use Rattle.mail_frames.specs.declared.frames.Frame.{Frame}
use Rattle.mail_frames.specs.declared.frames.Frame.TheVariants as frame
use Rattle.file_watch.specs.Circle.{DepPlace}
use Rattle.file_watch.specs.Probes.{next_probe, path_at}
use Rattle.file_watch.proofs.Due.{probe_may_be_told}
use Rattle.node_inputs.specs.Traces.{Event, Trace}
use Rattle.node_inputs.specs.declared.ends.NodeEnd.{NodeEnd}
use Rattle.node_inputs.specs.declared.ends.NodeEnd.TheVariants.{Limit, NoMemory}
use Rattle.node_inputs.specs.Actions.{IfThere, Nothing, Action}
use Rattle.node_inputs.specs.Inputs.{Take}
use Rattle.run_laws.specs.Held.{held_after}
use Rattle.run_laws.specs.Files.{EndsWithItsProbe, FollowsFile, IsLookedFor, TellsFile}
use Rattle.node_loop.specs.Frames.{entry_of, input_of}
use Rattle.node_loop.specs.Runs.{Advise, Found, Looks, Probing, Run, Running}
use Rattle.run_laws.proofs.Rules.{Gives, IsJoined, nothing_gives}
use Rattle.run_laws.proofs.Splits.{IsFurther, IsHere, IsOnly, only_one, split_cons}
use Rattle.run_laws.proofs.Taking.{IsRule, IsTold, Steps, StepsOrParts, take_gives, takes_parts, telling_gives}
use Rattle.run_laws.proofs.Tracing.{StepTrace, step_trace}
use Rattle.run_laws.proofs.Marks.{Follows, IsMark, Mark, Marks, MarksAll, StepEvent, held_first, held_joined, marks_joined, marks_rest, one_marked, step_event, step_marked}
use Rattle.run_laws.proofs.Keeping.{step_made}
use Rattle.run_laws.proofs.Made.{IsNoFulfil, made_file}
use Rattle.run_laws.proofs.Faults.{only_places, passes_quietly, told_entry}
use Rattle.run_laws.proofs.Listening.{IsHeard}
use Rattle.run_laws.proofs.Turning.{Lifted, advise_gives, behind_gives, come_gives, event_then, lifted_joined, on_gives, reports_gives, run_gives, turn_gives}

-- an entry that tells of a file stands behind its probe, and what follows a probe tells of the file or ends the run
abbrev pub OfFiles : Mark
OfFiles a front (Event.Keeps e) back end = (o : Obj) (i : ℕ) → TellsFile a.me e o i → EndsWithItsProbe a front o i
OfFiles a front (Event.Looks path (Ok true)) back end = a.me < node_count a.net → FollowsFile a front path back end
OfFiles a front event back end = Unit {0}

none_is_no_end : {why : NodeEnd} → None ≡ Some why → ⊥
none_is_no_end q = cc

more_follows : (a : NodeState) (front : Trace) (path : List ℕ) (rest more : Trace) (end : Option NodeEnd)
    → FollowsFile a front path rest None → FollowsFile a front path (rest ++ more) end
more_follows a front path rest more end (FollowsFile.told o i e back at tells split) =
    FollowsFile.told o i e (back ++ more) at tells (ap (λ (t : Trace). t ++ more) split)
more_follows a front path rest more end (FollowsFile.refused o i e why at tells split is) = absurd (none_is_no_end is)
more_follows a front path rest more end (FollowsFile.stopped_at_once nothing (inl is)) = absurd (none_is_no_end is)
more_follows a front path rest more end (FollowsFile.stopped_at_once nothing (inr is)) = absurd (none_is_no_end is)

lower : (a : NodeState) (front : Trace) (event : Event) (rest more : Trace) (end : Option NodeEnd)
    → OfFiles a front event rest None → OfFiles a front event (rest ++ more) end
lower a front (Event.Keeps e) rest more end h = h
lower a front (Event.Looks path (Ok true)) rest more end h = λ inside. more_follows a front path rest more end (h inside)
lower a front event rest more end h = tt

tells_there : (a b : NodeState) (e : Entry) (o : Obj) (i : ℕ) → b.me ≡ a.me → TellsFile a.me e o i → TellsFile b.me e o i
tells_there a b e o i same h = subst (λ (m : ℕ). TellsFile m e o i) (sym same) h

looked_there : (a b : NodeState) (front more : Trace) (o : Obj) (i : ℕ) (path : List ℕ) → Follows a front b
    → IsLookedFor b more o i path → IsLookedFor a (front ++ more) o i path
looked_there a b front more o i path f h = record {
  last = h.last;
  its_turn =
      subst (λ (m : ℕ). next_probe (held_after a (front ++ more)) m h.last ≡ Some (o, i)) f.me_
      (subst (λ (V : View). next_probe V b.me h.last ≡ Some (o, i)) (held_joined a b front more f) h.its_turn);
  its_path = subst (λ (V : View). path_at V o i ≡ Some path) (held_joined a b front more f) h.its_path;
}

follows_there : (a b : NodeState) (front more : Trace) (path : List ℕ) (back : Trace) (end : Option NodeEnd) → Follows a front b
    → FollowsFile b more path back end → FollowsFile a (front ++ more) path back end
follows_there a b front more path back end f (FollowsFile.told o i e rest at tells split) =
    FollowsFile.told o i e rest (looked_there a b front more o i path f at) (tells_there b a e o i (sym f.me_) tells) split
follows_there a b front more path back end f (FollowsFile.refused o i e why at tells split is) =
    FollowsFile.refused o i e why (looked_there a b front more o i path f at) (tells_there b a e o i (sym f.me_) tells) split is
follows_there a b front more path back end f (FollowsFile.stopped_at_once nothing is) = FollowsFile.stopped_at_once nothing is

upper : (a b : NodeState) (front more : Trace) (event : Event) (back : Trace) (end : Option NodeEnd) → Follows a front b
    → OfFiles b more event back end → OfFiles a (front ++ more) event back end
upper a b front more (Event.Keeps e) back end f h = λ o i tells.
    let it : EndsWithItsProbe b more o i = h o i (tells_there a b e o i f.me_ tells) in
    record {
      before = front ++ it.before;
      path = it.path;
      probed =
          ap (λ (t : Trace). front ++ t) it.probed ∙ sym (append_assoc front it.before (Event.Looks it.path (Ok true) ∷ []));
      looked_for = looked_there a b front it.before o i it.path f it.looked_for;
    }
upper a b front more (Event.Looks path (Ok true)) back end f h = λ inside.
    follows_there a b front more path back end f
    (h (subst (λ (n : Net). b.me < node_count n) (sym f.net_) (subst (λ (m : ℕ). m < node_count a.net) (sym f.me_) inside)))
upper a b front more event back end f h = tt

files_mark : IsMark OfFiles
files_mark = record { lower = lower; upper = upper }

-- inputs that tell of no file
step_files : (input : Input) → IsNoFulfil input → Gives (λ o t e n. Steps input o t e n) (MarksAll OfFiles)
step_files input q old trace end new h = step_marked OfFiles input old trace end new h each
  where
    entry_is : (d e : Entry) → Event.Keeps d ≡ Event.Keeps e → e ≡ d
    entry_is d e same = cc

    each : (front : Trace) (event : Event) (back : Trace) → StepEvent h.step.kept front event back end
        → OfFiles old front event back end
    each front (Event.Keeps d) back (StepEvent.keeps e is none same done) = λ o i tells.
        absurd (made_file old.net old.me (view_in old) (session_in old) input d q
        (step_made old new input h.step h.taken ∙ is ∙ ap Some (entry_is d e same)) o i tells.its_feed tells.its_body)
    each front (Event.Keeps d) back (StepEvent.refuses e why r is none same nothing ends) = cc
    each front (Event.Keeps d) back (StepEvent.does done) = absurd done
    each front (Event.Looks path (Ok true)) back (StepEvent.keeps e is none same done) = cc
    each front (Event.Looks path (Ok true)) back (StepEvent.refuses e why r is none same nothing ends) = cc
    each front (Event.Looks path (Ok true)) back (StepEvent.does done) = absurd done
    each front event back k = tt

told_are_none : (input : Input) → IsTold input → IsNoFulfil input
told_are_none (Input.Local (Local.Started j)) h = tt
told_are_none (Input.Local (StartFailed j)) h = tt
told_are_none (Input.Local (Unlinked x)) h = tt
told_are_none input h = absurd h

heard_are_none : (input : Input) → IsHeard input → IsNoFulfil input
heard_are_none (Input.Local (Fulfil o i)) h = absurd h
heard_are_none input h = tt

brought_are_none : (x : ℕ) (f : Frame) (input : Input) → input_of x f ≡ Some input → IsNoFulfil input
brought_are_none x (frame.Mail bytes) input is =
    let it = map_some (λ (e : Entry). Input.Mail x e) (entry_of (entry_in bytes)) input is in subst IsNoFulfil it.2 tt
brought_are_none x (frame.Ack f n) input is = subst IsNoFulfil (some_is is) tt
brought_are_none x (frame.Command text) input is = cc
brought_are_none x (frame.Reply text) input is = cc

files_rule : IsRule IsNoFulfil (MarksAll OfFiles)
files_rule = record {
  joined = marks_joined OfFiles files_mark;
  spent = λ s end input due is. marks_rest OfFiles files_mark s end;
  asks = λ s call. one_marked OfFiles s (Event.Asks call) refl tt;
  replies = λ s call. one_marked OfFiles s (Event.Replies call) refl tt;
  steps = step_files;
  told = told_are_none;
}

-- a probe that found a file, and the step that tells of it
module _ (old : NodeState) (o : Obj) (i : ℕ) (path : List ℕ) (its_path : path_at (view_in old) o i ≡ Some path)
    (last : Option DepPlace) (next : next_probe (view_in old) old.me last ≡ Some (o, i)) where
  found : Event
  found = Event.Looks path (Ok true)

  its_entry : Entry
  its_entry = next_entry (view_in old) (Events old.me) (Fulfilled o i)

  looked_before : IsLookedFor old [] o i path
  looked_before = record {
    last = last;
    its_turn = subst (λ (V : View). next_probe V old.me last ≡ Some (o, i)) (held_first old) next;
    its_path = subst (λ (V : View). path_at V o i ≡ Some path) (held_first old) its_path;
  }

  tells_it : TellsFile old.me its_entry o i
  unfolding its_entry
  tells_it = record { its_feed = refl; its_body = refl }

  entry_is : (new : NodeState) (trace : Trace) (end : Option NodeEnd) (h : Steps (Input.Local (Fulfil o i)) old trace end new)
      → Some its_entry ≡ h.step.kept
  unfolding its_entry
  entry_is new trace end h =
      sym (told_entry (present_in old) old.me (view_in old) (session_in old) o i)
      ∙ step_made old new (Input.Local (Fulfil o i)) h.step h.taken

  tells_as : (e : Entry) → Some its_entry ≡ Some e → TellsFile old.me e o i
  tells_as e same = subst (λ (d : Entry). TellsFile old.me d o i) (inside same) tells_it
    where
      inside : Some its_entry ≡ Some e → its_entry ≡ e
      inside q = cc

  behind : (new : NodeState) (trace : Trace) (end : Option NodeEnd) (h : Steps (Input.Local (Fulfil o i)) old trace end new)
      → FollowsFile old [] path trace end
  behind new trace end h = go (step_trace (Input.Local (Fulfil o i)) old trace end new h)
    where
      go : StepTrace h.step.kept trace end → FollowsFile old [] path trace end
      go (StepTrace.none is done) = absurd (clash (entry_is new trace end h ∙ is))
        where
          clash : Some its_entry ≡ None → ⊥
          clash q = cc
      go (StepTrace.one e rest is split done) =
          FollowsFile.told o i e rest looked_before (tells_as e (entry_is new trace end h ∙ is)) split
      go (StepTrace.refused e why is r split ends) =
          FollowsFile.refused o i e why looked_before (tells_as e (entry_is new trace end h ∙ is)) split ends
      go (StepTrace.spent e is split ends) = FollowsFile.stopped_at_once split (inl ends)

  place_is : (e : Entry) (p : Obj) (k : ℕ) → TellsFile old.me e o i → TellsFile old.me e p k → (o ≡ p) × (i ≡ k)
  place_is e p k h t =
      let same : Fulfilled o i ≡ Fulfilled p k = sym h.its_body ∙ t.its_body in (first same, second same)
    where
      first : Fulfilled o i ≡ Fulfilled p k → o ≡ p
      first q = cc

      second : Fulfilled o i ≡ Fulfilled p k → i ≡ k
      second q = cc

  its_probe : (p : Obj) (k : ℕ) → (o ≡ p) × (i ≡ k) → EndsWithItsProbe old (found ∷ []) p k
  unfolding found
  its_probe p k same = record {
    before = [];
    path = path;
    probed = refl;
    looked_for = subst (λ (q : Obj). IsLookedFor old [] q k path) same.0
        (subst (λ (n : ℕ). IsLookedFor old [] o n path) same.1 looked_before);
  }

  file_step : (new : NodeState) (trace : Trace) (end : Option NodeEnd) → Steps (Input.Local (Fulfil o i)) old trace end new
      → Marks OfFiles old (Event.Looks path (Ok true) ∷ trace) end new
  unfolding found
  file_step new trace end h = record { me_ = plain.me_; net_ = plain.net_; grows = plain.grows; each = each }
    where
      -- the step with no mark
      plain : Marks (λ a front event back x. Unit {0}) old trace end new
      plain = step_marked (λ a front event back x. Unit {0}) (Input.Local (Fulfil o i)) old trace end new h (λ front event back k. tt)

      of_step : (middle : Trace) (event : Event) (back : Trace) → StepEvent h.step.kept middle event back end
          → OfFiles old (found ∷ middle) event back end
      of_step middle (Event.Keeps d) back (StepEvent.keeps e is none same done) = λ p k tells.
          subst (λ (t : Trace). EndsWithItsProbe old (found ∷ t) p k) (sym none)
          (its_probe p k (place_is d p k (tells_as d (entry_is new trace end h ∙ is ∙ ap Some (there d e same))) tells))
        where
          there : (d e : Entry) → Event.Keeps d ≡ Event.Keeps e → e ≡ d
          there d e same = cc
      of_step middle (Event.Keeps d) back (StepEvent.refuses e why r is none same nothing ends) = cc
      of_step middle (Event.Keeps d) back (StepEvent.does done) = absurd done
      of_step middle (Event.Looks p (Ok true)) back (StepEvent.keeps e is none same done) = cc
      of_step middle (Event.Looks p (Ok true)) back (StepEvent.refuses e why r is none same nothing ends) = cc
      of_step middle (Event.Looks p (Ok true)) back (StepEvent.does done) = absurd done
      of_step middle event back k = tt

      each : (front : Trace) (event : Event) (back : Trace) → found ∷ trace ≡ front ++ event ∷ back → OfFiles old front event back end
      each front event back split = go (split_cons found trace front back event split)
        where
          go : IsHere found trace front back event ⊎ IsFurther found trace front back event → OfFiles old front event back end
          go (inl here) =
              subst (λ (t : Trace). OfFiles old t event back end) (sym here.none_before)
              (subst (λ (x : Event). OfFiles old [] x back end) here.is
              (λ inside. subst (λ (t : Trace). FollowsFile old [] path t end) here.behind (behind new trace end h)))
          go (inr further) =
              subst (λ (t : Trace). OfFiles old t event back end) (sym further.first)
              (of_step further.middle event back
              (step_event (Input.Local (Fulfil o i)) old trace end new h further.middle event back further.second))

  -- or the run ends at once, or the fault cannot be where the node is in its network
  at_once : (new : NodeState) (trace : Trace) (end : Option NodeEnd) → trace ≡ [] → new ≡ old
      → (old.me < node_count old.net → (end ≡ Some NoMemory) ⊎ (end ≡ Some (Limit Places)))
      → Marks OfFiles old (Event.Looks path (Ok true) ∷ trace) end new
  unfolding found
  at_once new trace end none same ends =
      subst (λ (t : Trace). Marks OfFiles old (found ∷ t) end new) (sym none)
      (subst (λ (n : NodeState). Marks OfFiles old (found ∷ []) end n) (sym same)
      (record { me_ = plain.me_; net_ = plain.net_; grows = λ h. plain.grows refl; each = each }))
    where
      plain : Marks (λ a front event back x. Unit {0}) old (found ∷ []) None old
      plain = one_marked (λ a front event back x. Unit {0}) old found refl tt

      each : (front : Trace) (event : Event) (back : Trace) → found ∷ [] ≡ front ++ event ∷ back → OfFiles old front event back end
      each front event back split =
          let only : IsOnly found front back event = only_one found front back event split in
          subst (λ (t : Trace). OfFiles old t event back end) (sym only.none_before)
          (subst (λ (x : Event). OfFiles old [] x back end) only.is
          (λ inside. FollowsFile.stopped_at_once only.none_behind (ends inside)))

  pub file_marked : (trace : Trace) (end : Option NodeEnd) (new : NodeState)
      → Take (Input.Local (Fulfil o i)) old trace end new → Marks OfFiles old (Event.Looks path (Ok true) ∷ trace) end new
  file_marked trace end new (inl (inl h)) = go (takes_parts (Input.Local (Fulfil o i)) old trace end new h)
    where
      go : StepsOrParts (Input.Local (Fulfil o i)) old trace end new → Marks OfFiles old (Event.Looks path (Ok true) ∷ trace) end new
      go (inl p) =
          subst (λ (t : Trace). Marks OfFiles old (Event.Looks path (Ok true) ∷ t) end new) (sym p.split)
          ((marks_joined OfFiles files_mark).joins old p.middle new (Event.Looks path (Ok true) ∷ p.front) p.back end
          (file_step p.middle p.front None p.begins)
          (telling_gives IsNoFulfil (MarksAll OfFiles) files_rule p.became p.middle p.back end new p.goes_on))
      go (inr s) = file_step new trace end s
  file_marked trace end new (inl (inr h)) =
      let rest : (trace ≡ []) × (new ≡ old) = passes_quietly h.0 old trace end new h.3 in
      at_once new trace end rest.0 rest.1
      (λ inside. inr (only_places old new o i inside (probe_may_be_told (view_in old) old.me last o i next) h.0 trace end h.1 h.2 h.3).its_end)
  file_marked trace end new (inr h) = at_once new trace end h.0 h.2 (λ inside. inl h.1)

-- what is looked for
looking : (place : DepPlace) (old : Running) → next_probe (view_in old.node) old.node.me old.asked ≡ Some place
    → (trace : Trace) (end : Option NodeEnd) (new : Running) → Looks place old trace end new
    → Lifted (MarksAll OfFiles) old trace end new
looking place old next trace end new h = go h.answer h.split h.acts.acts
  where
    quiet : (answer : Result Bool Failed) → OfFiles old.node [] (Event.Looks h.path answer) [] None
        → trace ≡ Event.Looks h.path answer ∷ h.rest → Nothing old.node h.rest end new.node
        → Marks OfFiles old.node trace end new.node
    quiet answer none split k =
        event_then (MarksAll OfFiles) (marks_joined OfFiles files_mark) (Event.Looks h.path answer) old.node h.rest trace end new.node
        split (one_marked OfFiles old.node (Event.Looks h.path answer) refl none)
        (nothing_gives (MarksAll OfFiles) (marks_joined OfFiles files_mark) old.node h.rest end new.node k)

    go : (answer : Result Bool Failed) → trace ≡ Event.Looks h.path answer ∷ h.rest → Found place answer old.node h.rest end new.node
        → Marks OfFiles old.node trace end new.node
    go (Ok true) split k =
        subst (λ (t : Trace). Marks OfFiles old.node t end new.node) (sym split)
        (file_marked old.node place.0 place.1 h.path h.its_path old.asked next h.rest end new.node k)
    go (Ok false) split k = quiet (Ok false) tt split k
    go (Err failed) split k = quiet (Err failed) tt split k

probing_files : Gives Probing (Lifted (MarksAll OfFiles))
probing_files old trace end new h = go (next_probe (view_in old.node) old.node.me old.asked) refl h
  where
    go : (o : Option DepPlace) → next_probe (view_in old.node) old.node.me old.asked ≡ o
        → IfThere o (λ (place : DepPlace). λ a b c d. Looks place a b c d) Nothing old trace end new
        → Lifted (MarksAll OfFiles) old trace end new
    go None is k = nothing_gives (Lifted (MarksAll OfFiles)) (lifted_joined (MarksAll OfFiles) (marks_joined OfFiles files_mark)) old trace end new k
    go (Some place) is k = looking place old is trace end new k

-- each run tells the files that it found, and no other
pub run_files : (defs : Defs) (turns : ℕ) → Gives (Run defs turns) (Lifted (MarksAll OfFiles))
run_files defs turns =
    run_gives (Lifted P) j defs
    (turn_gives (Lifted P) j defs (λ s t. one_marked OfFiles s.node (Event.Reads t) refl tt)
    (come_gives IsNoFulfil P files_rule heard_are_none brought_are_none (λ s a. one_marked OfFiles s (Event.Comes a) refl tt) defs)
    (behind_gives (Lifted P) j defs
    (on_gives _ P (reports_gives IsNoFulfil P files_rule (λ s answer. one_marked OfFiles s (Event.Reports answer) refl tt) (λ k rc. tt)))
    probing_files
    (on_gives Advise P (advise_gives IsNoFulfil P files_rule (λ to c. tt)))
    (λ t. on_gives (Take (Input.Local (Turn t))) P (take_gives IsNoFulfil P files_rule (Input.Local (Turn t)) tt)))) turns
  where
    P : Action NodeState
    P = MarksAll OfFiles

    j : IsJoined (Lifted P)
    j = lifted_joined P (marks_joined OfFiles files_mark)
