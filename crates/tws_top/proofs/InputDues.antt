-- Of words that the input alone answers one status and one text are due, and it is what was said.
use Rattle.std.proofs.Common.{◌≡◌, ◌≤◌, ◌⊎◌, ℕ, List, Option, Some, None, Result, Ok, Err, inl, inr}
use Rattle.std.proofs.Common.{sym, ap, ◌∙◌, subst, refl, length, arith}
use Rattle.composer_parser.specs.declared.Defs.{Defs}
use Rattle.composer_print.specs.Printed.{printed}
use Rattle.input_commands.specs.Replies.{ComesOf}
use Rattle.input_commands.specs.declared.wishes.Outcome.TheVariants.{Text}
use Rattle.input_commands.specs.declared.wishes.Wish.{Wish}
use Rattle.input_commands.specs.declared.wishes.Wish.TheVariants.{CanonicalText, Plan}
use Rattle.definition_texts.specs.Refusals.{AreChecked}
use Rattle.outside.specs.Causes.{Rose}
use Rattle.outside.specs.Streams.{Stream, TakesAll}
use Rattle.whole_io.proofs.Lefts.{left_long, left_read}
use Rattle.whole_io.specs.Whole.{TakesCount}
use Rattle.model.specs.World as model
use Rattle.network_world.specs.Stations.{WorldState}
use Rattle.plan_builder.specs.Limits.{plan_fault}
use Rattle.night_records.specs.Readings.{At}
use Rattle.night_records.specs.declared.Record.{Record}
use Rattle.record_faults.specs.declared.kinds.ScriptKind.{ScriptKind}
use Rattle.record_runs.specs.Causes.{told}
use Rattle.record_runs.specs.Runs as runs
use Rattle.sample_record.specs.Samples.{sample_of}
use Rattle.replies.specs.declared.statuses.Status.{Status}
use Rattle.replies.specs.declared.statuses.Status.TheVariants.{Success}
use Rattle.input_commands.specs.declared.words.Telling.{Telling}
use Rattle.input_commands.specs.declared.words.Wanted.{Wanted}
use Rattle.input_commands.specs.declared.words.Wanted.TheVariants as wants
use Rattle.input_commands.specs.declared.words.Asked.TheVariants as asks
use Rattle.input_commands.specs.Lines.{refused_line, kind_word, stop_status, stop_line, outcome_status, outcome_text}
use Rattle.input_commands.specs.Nights.{Night, AreRead, IsRun, told_at}
use Rattle.input_commands.specs.Words.{asked_of}
use Rattle.input_commands.specs.Dues.{RunCallsFor, RecordCallsFor, DefinitionsCallFor, CallsFor, ReadCallsFor}
use Rattle.replies.specs.Sayings.{Says}
use Rattle.input_commands.specs.Dues.{Due, IsAnswer, LeftCallsFor}
use Rattle.history_script.specs.declared.histories.HistoryText.{HistoryText}
use Rattle.model.specs.Sound.{IsSound}
use Rattle.input_commands.specs.Audits.{AreHistory}
use Rattle.replies.specs.Statuses.{number_of}
use Rattle.night_records.proofs.Once.{one_answer}
use Rattle.input_commands.proofs.Saying.{says_other}
use Rattle.tws_top.proofs.Comings.{has_plan, one_coming}
use Rattle.tws_top.proofs.Histories.{Verdict, audit_one, audit_verdict}
use Rattle.tws_top.proofs.OneRun.{one_run}

-- bytes are read to one thing
one_reading : (bytes : List ℕ) (a b : Result Record At) → AreRead bytes a → AreRead bytes b → a ≡ b
one_reading bytes a b (AreRead.no_text ne) (AreRead.no_text other) = refl
one_reading bytes a b (AreRead.no_text ne) (AreRead.text is h) = absurd (ne is)
one_reading bytes a b (AreRead.text is h) (AreRead.no_text ne) = absurd (ne is)
one_reading bytes a b (AreRead.text is h) (AreRead.text also k) = one_answer bytes a b h k

-- what the run of a record calls for is one status and one text
run_one : (telling : Telling) (r : Record) (a b : Status) (x y : List ℕ) (n m : Option Night)
    → RunCallsFor telling r a x n → RunCallsFor telling r b y m → (a ≡ b) × (x ≡ y)
run_one telling r a b x y n m (RunCallsFor.stopped l c is) (RunCallsFor.stopped l' c' also) =
    let same : runs.stopped l c ≡ runs.stopped l' c' = one_run r (runs.stopped l c) (runs.stopped l' c') is also in
    let line : l ≡ l' = cc in
    let cause : c ≡ c' = cc in (
      ap (λ z. stop_status (told z)) cause,
      ap (λ z. stop_line z (told c)) line ∙ ap (λ z. stop_line l' (told z)) cause,
    )
run_one telling r a b x y n m (RunCallsFor.stopped l c is) (RunCallsFor.ran w also) =
    let clash : runs.stopped l c ≡ runs.done w = one_run r (runs.stopped l c) (runs.done w) is also in cc
run_one telling r a b x y n m (RunCallsFor.ran w is) (RunCallsFor.stopped l c also) =
    let clash : runs.done w ≡ runs.stopped l c = one_run r (runs.done w) (runs.stopped l c) is also in cc
run_one telling r a b x y n m (RunCallsFor.ran w is) (RunCallsFor.ran v also) =
    let same : runs.done w ≡ runs.done v = one_run r (runs.done w) (runs.done v) is also in
    let world : w ≡ v = cc in
    (refl, ap (told_at telling r.script.net) world)

-- what the bytes of a record call for is one status and one text
record_one : (telling : Telling) (bytes : List ℕ) (a b : Status) (x y : List ℕ) (n m : Option Night)
    → RecordCallsFor telling bytes a x n → RecordCallsFor telling bytes b y m → (a ≡ b) × (x ≡ y)
record_one telling bytes a b x y n m (RecordCallsFor.no_record l k e) (RecordCallsFor.no_record l' k' e') =
    let same : ◌≡◌ {A = Result Record At} (Err (l, k)) (Err (l', k')) =
    one_reading bytes (Err (l, k)) (Err (l', k')) e e' in
    let pair : (l, k) ≡ (l', k') = cc in
    (refl, ap (λ (p : ℕ × ScriptKind). refused_line p.0 (kind_word p.1)) pair)
record_one telling bytes a b x y n m (RecordCallsFor.no_record l k e) (RecordCallsFor.read r e' run) =
    let clash : ◌≡◌ {A = Result Record At} (Err (l, k)) (Ok r) = one_reading bytes (Err (l, k)) (Ok r) e e' in cc
record_one telling bytes a b x y n m (RecordCallsFor.read r e run) (RecordCallsFor.no_record l k e') =
    let clash : ◌≡◌ {A = Result Record At} (Ok r) (Err (l, k)) = one_reading bytes (Ok r) (Err (l, k)) e e' in cc
record_one telling bytes a b x y n m (RecordCallsFor.read r e run) (RecordCallsFor.read s e' other) =
    let same : ◌≡◌ {A = Result Record At} (Ok r) (Ok s) = one_reading bytes (Ok r) (Ok s) e e' in
    let one : r ≡ s = cc in
    let P : Record → Type 0 = λ q. RunCallsFor telling q a x n in
    run_one telling s a b x y n m (subst P one run) other

-- of definitions, and of any input
definitions_one : (wish : Wish) (bytes : List ℕ) (a b : Status) (x y : List ℕ) (n m : Option Night)
    → DefinitionsCallFor wish bytes a x n → DefinitionsCallFor wish bytes b y m → (a ≡ b) × (x ≡ y)
definitions_one wish bytes a b x y n m (DefinitionsCallFor.comes o one) (DefinitionsCallFor.comes p other) =
    let same = one_coming wish bytes o p one other in (ap outcome_status same, ap outcome_text same)

calls_one : (wanted : Wanted) (bytes : List ℕ) (a b : Status) (x y : List ℕ) (n m : Option Night)
    → CallsFor wanted bytes a x n → CallsFor wanted bytes b y m → (a ≡ b) × (x ≡ y)
calls_one (wants.Night telling) bytes a b x y n m one other =
    record_one telling bytes a b x y n m one other
calls_one (wants.Definitions wish) bytes a b x y n m one other = definitions_one wish bytes a b x y n m one other
calls_one wants.Audit bytes a b x y n m one other = audit_one bytes a b x y n m one other

-- what was read calls for what was left calls for
read_left : (wanted : Wanted) (source : Stream) (new : Option Stream) (a b : Status) (x y : List ℕ) (n m : Option Night)
    → ReadCallsFor wanted (Some source) new a x n → LeftCallsFor wanted source.left b y m → (a ≡ b) × (x ≡ y)
read_left wanted source new a b x y n m (ReadCallsFor.too_long h) (LeftCallsFor.too_long long) = (refl, refl)
read_left wanted source new a b x y n m (ReadCallsFor.too_long h) (LeftCallsFor.read short k) =
    let long = left_long source new h in absurd (let never : ⊥ = omega arith in never)
read_left wanted source new a b x y n m (ReadCallsFor.read bytes all short h) (LeftCallsFor.too_long long) =
    let same : length source.left ≡ length bytes = ap length (left_read source new bytes all) in
    absurd (let never : ⊥ = omega arith in never)
read_left wanted source new a b x y n m (ReadCallsFor.read bytes all short h) (LeftCallsFor.read few k) =
    let P : List ℕ → Type 0 = λ l. CallsFor wanted l b y m in
    calls_one wanted bytes a b x y n m h (subst P (left_read source new bytes all) k)

-- of words that ask for the input, what was read calls for what was said
pub input_due : (words : List (List ℕ)) (old new : Option Stream) (wanted : Wanted) (status : Status) (text : List ℕ) (night : Option Night)
    → asked_of words ≡ Some (asks.Input wanted) → Due words old new status text night
    → ReadCallsFor wanted old new status text night
input_due words old new wanted status text night asked (Due.other_words e) =
    let clash : None ≡ Some (asks.Input wanted) = sym e ∙ asked in cc
input_due words old new wanted status text night asked (Due.sampled jobs seed e) =
    let clash : Some (asks.Sample jobs seed) ≡ Some (asks.Input wanted) = sym e ∙ asked in cc
input_due words old new wanted status text night asked (Due.by_input w e read) =
    let same : Some (asks.Input w) ≡ Some (asks.Input wanted) = sym e ∙ asked in
    let one : w ≡ wanted = cc in
    let P : Wanted → Type 0 = λ z. ReadCallsFor z old new status text night in subst P one read

-- what is answered
module _ (words : List (List ℕ)) (old new : Option Stream) (result : ℕ) (handed : Option WorldState)
    (written written' : Option (List ℕ)) (faults faults' : ℕ) where
  pub exact_said : (source : Stream) (wanted : Wanted) → old ≡ Some source
      → asked_of words ≡ Some (asks.Input wanted) → (status : Status) (text : List ℕ) (night : Option Night)
      → LeftCallsFor wanted source.left status text night
      → IsAnswer words old new result handed written written' faults faults'
      → Says status text result written written' faults faults'
  exact_said source wanted told_ asked status text night left a =
      let read = input_due words old new wanted a.status a.text a.night asked a.due in
      let P : Option Stream → Type 0 = λ o. ReadCallsFor wanted o new a.status a.text a.night in
      says_other a.status status a.text text result written written' faults faults'
      (read_left wanted source new a.status status a.text text a.night night (subst P told_ read) left) a.says

  -- what is said with success and is not withheld
  success_said : (text : List ℕ) → (Rose faults faults' → ⊥) → Says Success text result written written' faults faults'
      → result ≡ 0
  success_said text calm says = (says.all (λ e. calm (says.fault e))).0

  pub complete_said : (source : Stream) (telling : Telling) (r : Record) (x : model.World) → old ≡ Some source
      → asked_of words ≡ Some (asks.Input (wants.Night telling)) → length source.left ≤ 16777216
      → AreRead source.left (Ok r) → IsRun r (runs.done x) → (Rose faults faults' → ⊥)
      → IsAnswer words old new result handed written written' faults faults' → result ≡ 0
  complete_said source telling r x told_ asked short is run calm a =
      success_said (told_at telling r.script.net x) calm
      (exact_said source (wants.Night telling) told_ asked Success (told_at telling r.script.net x)
      (Some (record { net = r.script.net; world = x }))
      (LeftCallsFor.read short (RecordCallsFor.read r is (RunCallsFor.ran x run))) a)

  pub compiles_said : (source : Stream) (d : Defs) → old ≡ Some source
      → asked_of words ≡ Some (asks.Input (wants.Definitions CanonicalText)) → length source.left ≤ 16777216
      → AreChecked source.left d → (Rose faults faults' → ⊥)
      → IsAnswer words old new result handed written written' faults faults' → result ≡ 0
  compiles_said source d told_ asked short are calm a =
      success_said (printed d) calm
      (exact_said source (wants.Definitions CanonicalText) told_ asked Success (printed d) None
      (LeftCallsFor.read short (DefinitionsCallFor.comes (Text (printed d)) (ComesOf.read d are refl))) a)

  -- whatever was read of the definitions, it is the plan
  plan_called : (day : ℕ) (bytes : List ℕ) (d : Defs) (status : Status) (text : List ℕ) (night : Option Night)
      → AreChecked bytes d → plan_fault d day ≡ None → DefinitionsCallFor (Plan day) bytes status text night
      → status ≡ Success
  plan_called day bytes d status text night are none (DefinitionsCallFor.comes o comes) =
      ap outcome_status (has_plan day bytes d o are none comes).1

  plan_read : (source : Stream) (day : ℕ) (d : Defs) (status : Status) (text : List ℕ) (night : Option Night)
      → old ≡ Some source → length source.left ≤ 16777216 → AreChecked source.left d → plan_fault d day ≡ None
      → ReadCallsFor (wants.Definitions (Plan day)) old new status text night → status ≡ Success
  plan_read source day d status text night told_ short are none (ReadCallsFor.too_long h) =
      let P : Option Stream → Type 0 = λ o. TakesCount 16777217 o new in
      let long = left_long source new (subst P told_ h) in absurd (let never : ⊥ = omega arith in never)
  plan_read source day d status text night told_ short are none (ReadCallsFor.read bytes all few called) =
      let P : Option Stream → Type 0 = λ s. TakesAll s new bytes in
      let Q : List ℕ → Type 0 = λ l. AreChecked l d in
      let read = left_read source new bytes (subst P told_ all) in
      plan_called day bytes d status text night (subst Q read are) none called

  pub plans_said : (source : Stream) (day : ℕ) (d : Defs) → old ≡ Some source
      → asked_of words ≡ Some (asks.Input (wants.Definitions (Plan day))) → length source.left ≤ 16777216
      → AreChecked source.left d → plan_fault d day ≡ None → (Rose faults faults' → ⊥)
      → IsAnswer words old new result handed written written' faults faults' → result ≡ 0
  plans_said source day d told_ asked short are none calm a =
      let read = input_due words old new (wants.Definitions (Plan day)) a.status a.text a.night asked a.due in
      let is = plan_read source day d a.status a.text a.night told_ short are none read in
      success_said a.text calm
      (says_other a.status Success a.text a.text result written written' faults faults' (is, refl) a.says)

  -- a history is judged
  audit_read : (source : Stream) (h : HistoryText) (status : Status) (text : List ℕ) (night : Option Night)
      → old ≡ Some source → length source.left ≤ 16777216 → AreHistory source.left (Ok h)
      → ReadCallsFor wants.Audit old new status text night → Verdict h status
  audit_read source h status text night told_ short is (ReadCallsFor.too_long takes) =
      let P : Option Stream → Type 0 = λ o. TakesCount 16777217 o new in
      let long = left_long source new (subst P told_ takes) in absurd (let never : ⊥ = omega arith in never)
  audit_read source h status text night told_ short is (ReadCallsFor.read bytes all few called) =
      let P : Option Stream → Type 0 = λ s. TakesAll s new bytes in
      let Q : List ℕ → Type 0 = λ l. AreHistory l (Ok h) in
      audit_verdict bytes h status text night (subst Q (left_read source new bytes (subst P told_ all)) is) called

  by_verdict : (h : HistoryText) (status : Status) → Verdict h status → result ≡ number_of status
      → ((result ≡ 0) × IsSound h.net h.entries h.starts)
      ⊎ ((result ≡ 11) × (IsSound h.net h.entries h.starts → ⊥))
  by_verdict h status (Verdict.sound is) e = inl (e, is)
  by_verdict h status (Verdict.wrong is) e = inr (e, is)

  pub audit_said : (source : Stream) (h : HistoryText) → old ≡ Some source
      → asked_of words ≡ Some (asks.Input wants.Audit) → length source.left ≤ 16777216
      → AreHistory source.left (Ok h) → (Rose faults faults' → ⊥)
      → IsAnswer words old new result handed written written' faults faults'
      → ((result ≡ 0) × IsSound h.net h.entries h.starts)
      ⊎ ((result ≡ 11) × (IsSound h.net h.entries h.starts → ⊥))
  audit_said source h told_ asked short is calm a =
      let read = input_due words old new wants.Audit a.status a.text a.night asked a.due in
      by_verdict h a.status (audit_read source h a.status a.text a.night told_ short is read)
      (a.says.all (λ e. calm (a.says.fault e))).0

  -- of words that ask for a sample
  sample_due : (jobs seed : ℕ) (status : Status) (text : List ℕ) (night : Option Night)
      → asked_of words ≡ Some (asks.Sample jobs seed) → Due words old new status text night
      → (status ≡ Success) × (text ≡ sample_of jobs seed)
  sample_due jobs seed status text night asked (Due.other_words e) =
      let clash : None ≡ Some (asks.Sample jobs seed) = sym e ∙ asked in cc
  sample_due jobs seed status text night asked (Due.sampled j k e) =
      let same : Some (asks.Sample j k) ≡ Some (asks.Sample jobs seed) = sym e ∙ asked in
      let one : j ≡ jobs = cc in
      let other : k ≡ seed = cc in
      (refl, ap (λ z. sample_of z k) one ∙ ap (sample_of jobs) other)
  sample_due jobs seed status text night asked (Due.by_input w e read) =
      let clash : Some (asks.Input w) ≡ Some (asks.Sample jobs seed) = sym e ∙ asked in cc

  pub sample_said : (jobs seed : ℕ) → asked_of words ≡ Some (asks.Sample jobs seed)
      → IsAnswer words old new result handed written written' faults faults'
      → Says Success (sample_of jobs seed) result written written' faults faults'
  sample_said jobs seed asked a =
      says_other a.status Success a.text (sample_of jobs seed) result written written' faults faults'
      (sample_due jobs seed a.status a.text a.night asked a.due) a.says
