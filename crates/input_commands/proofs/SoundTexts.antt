-- The text of a world's history is read to a sound one.
use Rattle.std.proofs.Common.{◌≡◌, ◌≤◌, ◌∙◌, ℕ, List, None, Option, Result, Ok, Err, sym, ap, subst, length, arith}
use Rattle.std.specs.List.{All, list_all}
use Rattle.std.specs.Prelude.{IsTrue, IsUtf8}
use Rattle.std.specs.Result.{IfOk}
use Rattle.std.proofs.lemmas.Str.{utf8_valid_len-IsUtf8}
use Rattle.definition_texts.specs.Refusals.{IsText}
use Rattle.record_laws.proofs.Records.{history_fit}
use Rattle.history_laws.specs.Returns.{AreTold}
use Rattle.history_laws.proofs.Sound.{sound_printed}
use Rattle.history_laws.proofs.Whole.{history_back, history_is_text}
use Rattle.history_laws.proofs.Worlds.{history_inside, starts_inside}
use Rattle.history_script.specs.Histories.{is_inside, is_start_inside, read_of}
use Rattle.history_script.specs.Printed.{IsStartInRange, history_text}
use Rattle.model.specs.Fit.{AreFitEntries}
use Rattle.model.specs.Ranges.{InRange}
use Rattle.model.specs.Sound.{IsSound}
use Rattle.model.specs.Types.{Entry, Net, Start}
use Rattle.model.specs.World as model
use Rattle.model.specs.World.{empty_world, run}
use Rattle.history_laws.specs.Printables.{IsPrintable, as_printed}
use Rattle.network_tree.specs.Faults.{net_fault}
use Rattle.network_world.specs.Stations.{WorldState}
use Rattle.night_records.specs.Days.{ArePlans}
use Rattle.night_records.specs.declared.Record.{Record}
use Rattle.record_laws.proofs.Networks.{printable}
use Rattle.record_runs.specs.Ends.{IsDone}
use Rattle.record_runs.specs.Lines.{Day}
use Rattle.record_runs.specs.Runs.{done}
use Rattle.replies.specs.declared.statuses.Status.{Status}
use Rattle.replies.specs.declared.statuses.Status.TheVariants.{Success}
use Rattle.input_commands.specs.Audits.{AreHistory, IsSoundText, WritesHistory}
use Rattle.replies.specs.Sayings.{Says}
use Rattle.input_commands.specs.Nights.{AreRead, IsRun, IsTellable, ReachesFit}
use Rattle.input_commands.proofs.Stops.{success_is_0}

-- the world that a run reaches
pub tellable : (recorded : Record) (days : Day) (w : WorldState) → ArePlans recorded.workload days
    → IsDone days recorded.script w → w.net ≡ recorded.script.net → ReachesFit recorded
    → IsPrintable recorded.script.net → net_fault recorded.script.net ≡ None → IsTellable w
tellable recorded days w are h over fit printable accepted =
    let ran : IsRun recorded (done h.0) = record { days = days; are_plans = are; ends = h.1 } in record {
      fit = subst AreFitEntries (sym h.2.journal_.history_) (fit h.0 ran);
      printable = subst IsPrintable (sym over) printable;
      accepted = ap net_fault over ∙ accepted;
      is_world = record { world = h.0; stands = h.2 };
    }

-- what the run of a record reaches
pub reaches_fit : (bytes : List ℕ) (r : Record) → length bytes ≤ 16777216 → AreRead bytes (Ok r) → ReachesFit r
reaches_fit bytes r few (AreRead.text is read) = λ x run.
    history_fit bytes r run.days x (omega (arith, few)) read run.are_plans run.ends

pub has_printable : (bytes : List ℕ) (r : Record) → AreRead bytes (Ok r) → IsPrintable r.script.net
has_printable bytes r (AreRead.text is read) = printable bytes r is read

-- the text of a world's history
told_whole : (w : WorldState) → IsTellable w → All InRange w.journal.history → All IsStartInRange w.journal.starts
    → AreTold w.net w.journal.history w.journal.starts
told_whole w t in_range starts =
    let x = t.is_world.world in
    let stands = t.is_world.stands in
    let steps = stands.reached.steps in
    let made : x ≡ run w.net steps empty_world = stands.reached.by_them in
    let entries_are : w.journal.history ≡ (run w.net steps empty_world).history =
    stands.journal_.history_ ∙ ap (λ (y : model.World). y.history) made in
    let starts_are : w.journal.starts ≡ (run w.net steps empty_world).starts =
    stands.journal_.starts_ ∙ ap (λ (y : model.World). y.starts) made in record {
      fit = t.fit;
      in_range = in_range;
      starts_in_range = starts;
      inside =
          subst (λ (es : List Entry). IsTrue (list_all (is_inside w.net) es)) (sym entries_are) (history_inside w.net steps);
      starts_inside =
          subst (λ (ss : List Start). IsTrue (list_all (is_start_inside w.net) ss)) (sym starts_are)
          (starts_inside w.net steps);
    }

told_text : (w : WorldState) (text : List ℕ) → IsTellable w → IsSound w.net w.journal.history w.journal.starts
    → All InRange w.journal.history → All IsStartInRange w.journal.starts
    → text ≡ history_text w.net w.journal.history w.journal.starts → IsSoundText text
told_text w text t sound in_range starts is =
    let told = told_whole w t in_range starts in
    let utf8 : IsText text =
    utf8_valid_len-IsUtf8 text
    (subst IsUtf8 (sym is) (history_is_text w.net w.journal.history w.journal.starts t.printable t.accepted told)) in
    record {
      told = record { net = as_printed w.net; entries = w.journal.history; starts = w.journal.starts };
      reads =
          AreHistory.text utf8
          (ap read_of is ∙ history_back w.net w.journal.history w.journal.starts t.printable t.accepted told);
      sound = sound_printed w.net w.journal.history w.journal.starts sound;
    }

pub sound_text : {E : Type 0} (w : WorldState) (net : Net) (entries : List Entry) (starts : List Start)
    (r : Result (List ℕ) E) → net ≡ w.net → entries ≡ w.journal.history → starts ≡ w.journal.starts → IsTellable w
    → IsSound w.net w.journal.history w.journal.starts → IfOk r (λ text. text ≡ history_text net entries starts)
    → IfOk r (λ text. All InRange entries × All IsStartInRange starts) → IfOk r IsSoundText
sound_text w net entries starts (Ok text) over es ss t sound is ranges =
    told_text w text t sound (subst (All InRange) es ranges.0) (subst (All IsStartInRange) ss ranges.1)
    (is ∙ ap (λ n. history_text n entries starts) over ∙ ap (λ e. history_text w.net e starts) es
    ∙ ap (λ s. history_text w.net w.journal.history s) ss)
sound_text w net entries starts (Err e) over es ss t sound is ranges = tt

-- a status of 0 is that of success, and its text was written
pub history_written : (status : Status) (text : List ℕ) (n : ℕ) (written written' : Option (List ℕ)) (faults faults' : ℕ)
    → Says status text n written written' faults faults' → n ≡ 0 → (status ≡ Success → IsSoundText text)
    → WritesHistory written written'
history_written status text n written written' faults faults' says zero sound =
    let said = says.all (λ e. let never : ⊥ = omega (arith, zero, e) in never) in
    record { text = text; wrote = said.1; is_sound = sound (success_is_0 status (sym said.0 ∙ zero)) }
