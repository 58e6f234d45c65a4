-- The statuses one by one, of words that the input alone answers.
use Rattle.std.proofs.Common.{◌≡◌, ◌≢◌, ◌==◌, ◌≤◌, ◌⊎◌, ℕ, Bool, true, false, List, Option, Some, None, Ok, inl, inr}
use Rattle.std.proofs.Common.{sym, ap, ◌∙◌, refl, length, arith}
use Rattle.std.specs.Io.KnownBytes.{Appends}
use Rattle.std.proofs.lemmas.Bool.Decides.{Decides-eqb}
use Rattle.input_commands.specs.declared.wishes.Wish.{Wish}
use Rattle.input_commands.specs.declared.wishes.Wish.TheVariants.{CanonicalText, Plan}
use Rattle.outside.specs.Causes.{Rose}
use Rattle.outside.specs.Streams.{Stream, TakesAll}
use Rattle.model.specs.World as model
use Rattle.network_world.specs.Stations.{WorldState}
use Rattle.night_records.specs.declared.Record.{Record}
use Rattle.record_runs.specs.Causes.{told}
use Rattle.record_runs.specs.Runs as runs
use Rattle.replies.specs.declared.statuses.Status.{Status}
use Rattle.input_commands.specs.declared.words.Telling.{Telling}
use Rattle.input_commands.specs.declared.words.Wanted.{Wanted}
use Rattle.input_commands.specs.declared.words.Wanted.TheVariants as wants
use Rattle.input_commands.specs.declared.words.Asked.TheVariants as asks
use Rattle.input_commands.specs.Lines.{stop_status}
use Rattle.input_commands.specs.Nights.{Night, AreRead, IsRun, told_at}
use Rattle.replies.specs.Statuses.{number_of}
use Rattle.input_commands.specs.Words.{asked_of}
use Rattle.input_commands.specs.Dues.{RunCallsFor, RecordCallsFor, CallsFor, ReadCallsFor, Due}
use Rattle.input_commands.specs.Dues.{IsOf, IsThatOf, IsAnswer}
use Rattle.tws_top.specs.InputRows.{Tells, Compiles, Plans, IsRefused, Refuses, RefusesDefinitions, PassesLimit}
use Rattle.tws_top.specs.InputRows.{FindsSound, FindsWrong, RefusesHistory}
use Rattle.input_commands.proofs.Calling.{IsOfInput, success, definitions_, refused, limit_, wrong_, stop_of_input, read_of_input}
use Rattle.input_commands.proofs.Stops.{stop_is_no_success}
use Rattle.tws_top.proofs.Histories as histories
use Rattle.tws_top.proofs.Outcomes.{compiles_read, plans_read, refused_called, plan_limit, not_3, not_11}
use Rattle.tws_top.proofs.InputDues.{input_due}
use Rattle.tws_top.proofs.Stops.{record_or_limit, stop_not_1, stop_not_11}
use Rattle.tws_top.proofs.Worlds.{WorldIsFor, no_world, world_due}

-- what was read, and what was written
module _ (old new : Option Stream) (written written' : Option (List ℕ)) (handed : Option WorldState) where
  tells_world : (telling : Telling) (bytes : List ℕ) (r : Record) (x : model.World) (h : Option WorldState) → handed ≡ h
      → TakesAll old new bytes → length bytes ≤ 16777216 → AreRead bytes (Ok r) → IsRun r (runs.done x)
      → Appends written written' (told_at telling r.script.net x)
      → IsOf h (Some (record { net = r.script.net; world = x })) → Tells telling old new written written' handed
  tells_world telling bytes r x None e all short is run wrote of = absurd of
  tells_world telling bytes r x (Some w) e all short is run wrote of =
      let that : IsThatOf w (record { net = r.script.net; world = x }) = of in record {
        bytes = bytes;
        recorded = r;
        reached = x;
        world = w;
        read = all;
        short = short;
        is_record = is;
        run = run;
        wrote = wrote;
        handed_ = e;
        net_ = that.net_;
        stands = that.stands;
        sound = that.sound;
      }

  tells_run : (telling : Telling) (bytes : List ℕ) (r : Record) (status : Status) (text : List ℕ) (night : Option Night)
      → TakesAll old new bytes → length bytes ≤ 16777216 → AreRead bytes (Ok r)
      → RunCallsFor telling r status text night → number_of status ≡ 0 → Appends written written' text
      → IsOf handed night → Tells telling old new written written' handed
  tells_run telling bytes r status text night all short is (RunCallsFor.stopped line cause run) zero wrote of =
      absurd (stop_is_no_success (told cause) zero)
  tells_run telling bytes r status text night all short is (RunCallsFor.ran x run) zero wrote of =
      tells_world telling bytes r x handed refl all short is run wrote of

  tells_called : (telling : Telling) (bytes : List ℕ) (status : Status) (text : List ℕ) (night : Option Night)
      → TakesAll old new bytes → length bytes ≤ 16777216 → RecordCallsFor telling bytes status text night
      → number_of status ≡ 0 → Appends written written' text → IsOf handed night
      → Tells telling old new written written' handed
  tells_called telling bytes status text night all short (RecordCallsFor.no_record line kind e) zero wrote of =
      absurd (let never : ⊥ = omega arith in never)
  tells_called telling bytes status text night all short (RecordCallsFor.read r is run) zero wrote of =
      tells_run telling bytes r status text night all short is run zero wrote of

  tells_read : (telling : Telling) (status : Status) (text : List ℕ) (night : Option Night)
      → ReadCallsFor (wants.Night telling) old new status text night → number_of status ≡ 0
      → Appends written written' text → IsOf handed night → Tells telling old new written written' handed
  tells_read telling status text night (ReadCallsFor.too_long takes) zero wrote of =
      absurd (let never : ⊥ = omega arith in never)
  tells_read telling status text night (ReadCallsFor.read bytes all short called) zero wrote of =
      tells_called telling bytes status text night all short called zero wrote of

  refuses_run : (telling : Telling) (bytes : List ℕ) (r : Record) (status : Status) (text : List ℕ) (night : Option Night)
      → TakesAll old new bytes → AreRead bytes (Ok r) → RunCallsFor telling r status text night
      → number_of status ≡ 3 → Appends written written' text → Refuses old new written written'
  refuses_run telling bytes r status text night all e (RunCallsFor.stopped line cause run) three wrote =
      let is = (record_or_limit (stop_status (told cause)) (stop_of_input (told cause))).0 three in record {
        bytes = bytes;
        line = text;
        read = all;
        refused = IsRefused.bad_step r line cause e run is;
        wrote = wrote;
      }
  refuses_run telling bytes r status text night all e (RunCallsFor.ran x run) three wrote =
      absurd (let never : ⊥ = omega arith in never)

  refuses_called : (telling : Telling) (bytes : List ℕ) (status : Status) (text : List ℕ) (night : Option Night)
      → TakesAll old new bytes → RecordCallsFor telling bytes status text night → number_of status ≡ 3
      → Appends written written' text → Refuses old new written written'
  refuses_called telling bytes status text night all (RecordCallsFor.no_record line kind e) three wrote =
      record { bytes = bytes; line = text; read = all; refused = IsRefused.no_record line kind e; wrote = wrote }
  refuses_called telling bytes status text night all (RecordCallsFor.read r e run) three wrote =
      refuses_run telling bytes r status text night all e run three wrote

  limit_run : (telling : Telling) (bytes : List ℕ) (r : Record) (status : Status) (text : List ℕ) (night : Option Night)
      → TakesAll old new bytes → AreRead bytes (Ok r) → RunCallsFor telling r status text night
      → number_of status ≡ 10 → Appends written written' text → PassesLimit old new written written'
  limit_run telling bytes r status text night all e (RunCallsFor.stopped line cause run) ten wrote =
      let is = (record_or_limit (stop_status (told cause)) (stop_of_input (told cause))).1 ten in
      PassesLimit.of_run bytes r line cause all e run is wrote
  limit_run telling bytes r status text night all e (RunCallsFor.ran x run) ten wrote =
      absurd (let never : ⊥ = omega arith in never)

  limit_called : (telling : Telling) (bytes : List ℕ) (status : Status) (text : List ℕ) (night : Option Night)
      → TakesAll old new bytes → RecordCallsFor telling bytes status text night → number_of status ≡ 10
      → Appends written written' text → PassesLimit old new written written'
  limit_called telling bytes status text night all (RecordCallsFor.no_record line kind e) ten wrote =
      absurd (let never : ⊥ = omega arith in never)
  limit_called telling bytes status text night all (RecordCallsFor.read r e run) ten wrote =
      limit_run telling bytes r status text night all e run ten wrote

  not_1_run : (telling : Telling) (r : Record) (status : Status) (text : List ℕ) (night : Option Night)
      → RunCallsFor telling r status text night → number_of status ≡ 1 → ⊥
  not_1_run telling r status text night (RunCallsFor.stopped line cause run) one = stop_not_1 (told cause) one
  not_1_run telling r status text night (RunCallsFor.ran x run) one = omega arith

  not_1 : (telling : Telling) (bytes : List ℕ) (status : Status) (text : List ℕ) (night : Option Night)
      → RecordCallsFor telling bytes status text night → number_of status ≡ 1 → ⊥
  not_1 telling bytes status text night (RecordCallsFor.no_record line kind e) one = omega arith
  not_1 telling bytes status text night (RecordCallsFor.read r e run) one =
      not_1_run telling r status text night run one

  -- and of any input, by what is wanted of it
  refuses_read : (wanted : Wanted) (bytes : List ℕ) (status : Status) (text : List ℕ) (night : Option Night)
      → TakesAll old new bytes → CallsFor wanted bytes status text night → number_of status ≡ 3
      → Appends written written' text → wanted ≢ wants.Audit → Refuses old new written written'
  refuses_read (wants.Night telling) bytes status text night all called three wrote other =
      refuses_called telling bytes status text night all called three wrote
  refuses_read (wants.Definitions wish) bytes status text night all called three wrote other =
      absurd (not_3 wish bytes status text night called three)
  refuses_read wants.Audit bytes status text night all called three wrote other = absurd (other refl)

  limit_read : (wanted : Wanted) (bytes : List ℕ) (status : Status) (text : List ℕ) (night : Option Night)
      → TakesAll old new bytes → CallsFor wanted bytes status text night → number_of status ≡ 10
      → Appends written written' text → PassesLimit old new written written'
  limit_read (wants.Night telling) bytes status text night all called ten wrote =
      limit_called telling bytes status text night all called ten wrote
  limit_read (wants.Definitions wish) bytes status text night all called ten wrote =
      plan_limit old new written written' wish bytes status text night all called ten wrote
  limit_read wants.Audit bytes status text night all called ten wrote =
      absurd (histories.not_1_or_10 bytes status text night called (inr ten))

  refused_read : (wanted : Wanted) (bytes : List ℕ) (status : Status) (text : List ℕ) (night : Option Night)
      → TakesAll old new bytes → CallsFor wanted bytes status text night → number_of status ≡ 1
      → Appends written written' text
      → (wish : Wish) × (wanted ≡ wants.Definitions wish) × RefusesDefinitions wish old new written written'
  refused_read (wants.Night telling) bytes status text night all called one wrote =
      absurd (not_1 telling bytes status text night called one)
  refused_read (wants.Definitions wish) bytes status text night all called one wrote =
      (wish, refl, refused_called old new written written' wish bytes status text night all called one wrote)
  refused_read wants.Audit bytes status text night all called one wrote =
      absurd (histories.not_1_or_10 bytes status text night called (inl one))

  wrong_record : (telling : Telling) (bytes : List ℕ) (status : Status) (text : List ℕ) (night : Option Night)
      → RecordCallsFor telling bytes status text night → number_of status ≡ 11 → ⊥
  wrong_record telling bytes status text night (RecordCallsFor.no_record line kind e) eleven = omega arith
  wrong_record telling bytes status text night (RecordCallsFor.read r e (RunCallsFor.stopped line cause run)) eleven =
      stop_not_11 (told cause) eleven
  wrong_record telling bytes status text night (RecordCallsFor.read r e (RunCallsFor.ran x run)) eleven = omega arith

  wrong_read : (wanted : Wanted) (bytes : List ℕ) (status : Status) (text : List ℕ) (night : Option Night)
      → TakesAll old new bytes → CallsFor wanted bytes status text night → number_of status ≡ 11
      → Appends written written' text → (wanted ≡ wants.Audit) × FindsWrong old new written written'
  wrong_read (wants.Night telling) bytes status text night all called eleven wrote =
      absurd (wrong_record telling bytes status text night called eleven)
  wrong_read (wants.Definitions wish) bytes status text night all called eleven wrote =
      absurd (not_11 wish bytes status text night called eleven)
  wrong_read wants.Audit bytes status text night all called eleven wrote =
      (refl, histories.wrong_called old new written written' bytes status text night all called eleven wrote)

-- what is due for these words
module _ (old new : Option Stream) (written written' : Option (List ℕ)) (handed : Option WorldState)
    (words : List (List ℕ)) where
  refuses_due : (status : Status) (text : List ℕ) (night : Option Night) → Due words old new status text night
      → number_of status ≡ 3 → Appends written written' text → asked_of words ≢ Some (asks.Input wants.Audit)
      → Refuses old new written written'
  refuses_due status text night (Due.other_words e) three wrote other =
      absurd (let never : ⊥ = omega arith in never)
  refuses_due status text night (Due.sampled jobs seed e) three wrote other =
      absurd (let never : ⊥ = omega arith in never)
  refuses_due status text night (Due.by_input w e (ReadCallsFor.too_long takes)) three wrote other =
      absurd (let never : ⊥ = omega arith in never)
  refuses_due status text night (Due.by_input w e (ReadCallsFor.read bytes all short called)) three wrote other =
      refuses_read old new written written' handed w bytes status text night all called three wrote
      (λ is. other (e ∙ ap (λ x. Some (asks.Input x)) is))

  -- of a history
  refuses_history_due : (status : Status) (text : List ℕ) (night : Option Night)
      → asked_of words ≡ Some (asks.Input wants.Audit) → Due words old new status text night
      → number_of status ≡ 3 → Appends written written' text → RefusesHistory old new written written'
  refuses_history_due status text night asked due three wrote =
      histories.refused_read old new written written' status text night
      (input_due words old new wants.Audit status text night asked due) three wrote

  sound_due : (status : Status) (text : List ℕ) (night : Option Night)
      → asked_of words ≡ Some (asks.Input wants.Audit) → Due words old new status text night
      → number_of status ≡ 0 → Appends written written' text → FindsSound old new written written'
  sound_due status text night asked due zero wrote =
      histories.sound_read old new written written' status text night
      (input_due words old new wants.Audit status text night asked due) zero wrote

  wrong_due : (status : Status) (text : List ℕ) (night : Option Night) → Due words old new status text night
      → number_of status ≡ 11 → Appends written written' text
      → (asked_of words ≡ Some (asks.Input wants.Audit)) × FindsWrong old new written written'
  wrong_due status text night (Due.other_words e) eleven wrote = absurd (let never : ⊥ = omega arith in never)
  wrong_due status text night (Due.sampled jobs seed e) eleven wrote =
      absurd (let never : ⊥ = omega arith in never)
  wrong_due status text night (Due.by_input w e (ReadCallsFor.too_long takes)) eleven wrote =
      absurd (let never : ⊥ = omega arith in never)
  wrong_due status text night (Due.by_input w e (ReadCallsFor.read bytes all short called)) eleven wrote =
      let is = wrong_read old new written written' handed w bytes status text night all called eleven wrote in
      (e ∙ ap (λ x. Some (asks.Input x)) is.0, is.1)

  limit_due : (status : Status) (text : List ℕ) (night : Option Night) → Due words old new status text night
      → number_of status ≡ 10 → Appends written written' text → PassesLimit old new written written'
  limit_due status text night (Due.other_words e) ten wrote = absurd (let never : ⊥ = omega arith in never)
  limit_due status text night (Due.sampled jobs seed e) ten wrote = absurd (let never : ⊥ = omega arith in never)
  limit_due status text night (Due.by_input w e (ReadCallsFor.too_long takes)) ten wrote =
      PassesLimit.of_input takes wrote
  limit_due status text night (Due.by_input w e (ReadCallsFor.read bytes all short called)) ten wrote =
      limit_read old new written written' handed w bytes status text night all called ten wrote

  refused_due : (status : Status) (text : List ℕ) (night : Option Night) → Due words old new status text night
      → number_of status ≡ 1 → Appends written written' text → (wish : Wish)
      × (asked_of words ≡ Some (asks.Input (wants.Definitions wish))) × RefusesDefinitions wish old new written written'
  refused_due status text night (Due.other_words e) one wrote = absurd (let never : ⊥ = omega arith in never)
  refused_due status text night (Due.sampled jobs seed e) one wrote = absurd (let never : ⊥ = omega arith in never)
  refused_due status text night (Due.by_input w e (ReadCallsFor.too_long takes)) one wrote =
      absurd (let never : ⊥ = omega arith in never)
  refused_due status text night (Due.by_input w e (ReadCallsFor.read bytes all short called)) one wrote =
      let is = refused_read old new written written' handed w bytes status text night all called one wrote in
      (is.0, e ∙ ap (λ x. Some (asks.Input x)) is.1, is.2)

  -- with 0, by what is asked for
  tells_due : (telling : Telling) (status : Status) (text : List ℕ) (night : Option Night)
      → asked_of words ≡ Some (asks.Input (wants.Night telling)) → Due words old new status text night
      → number_of status ≡ 0 → Appends written written' text → IsOf handed night
      → Tells telling old new written written' handed
  tells_due telling status text night asked due zero wrote of =
      tells_read old new written written' handed telling status text night (input_due words old new (wants.Night telling) status text night asked due)
      zero wrote of

  compiles_due : (status : Status) (text : List ℕ) (night : Option Night)
      → asked_of words ≡ Some (asks.Input (wants.Definitions CanonicalText)) → Due words old new status text night
      → number_of status ≡ 0 → Appends written written' text → Compiles old new written written'
  compiles_due status text night asked due zero wrote =
      compiles_read old new written written' status text night
      (input_due words old new (wants.Definitions CanonicalText) status text night asked due) zero wrote

  plans_due : (day : ℕ) (status : Status) (text : List ℕ) (night : Option Night)
      → asked_of words ≡ Some (asks.Input (wants.Definitions (Plan day))) → Due words old new status text night
      → number_of status ≡ 0 → Appends written written' text → Plans day old new written written'
  plans_due day status text night asked due zero wrote =
      plans_read old new written written' day status text night
      (input_due words old new (wants.Definitions (Plan day)) status text night asked due) zero wrote

words_due : (words : List (List ℕ)) (old new : Option Stream) (status : Status) (text : List ℕ) (night : Option Night)
    → Due words old new status text night → number_of status ≡ 2 → asked_of words ≡ None
words_due words old new status text night (Due.other_words e) two = e
words_due words old new status text night (Due.sampled jobs seed e) two = absurd (let never : ⊥ = omega arith in never)
words_due words old new status text night (Due.by_input w e read) two =
    absurd (by_status status (read_of_input w old new status text night read) two)
  where
    by_status : (s : Status) → IsOfInput s → number_of s ≡ 2 → ⊥
    by_status s success f = omega arith
    by_status s definitions_ f = omega arith
    by_status s refused f = omega arith
    by_status s limit_ f = omega arith
    by_status s wrong_ f = omega arith

-- the statuses that are said
pub data IsSaid : ℕ → Type 0 where
  said_0 : IsSaid 0
  said_1 : IsSaid 1
  said_2 : IsSaid 2
  said_3 : IsSaid 3
  said_10 : IsSaid 10
  said_11 : IsSaid 11

said_due : (words : List (List ℕ)) (old new : Option Stream) (status : Status) (text : List ℕ) (night : Option Night)
    → Due words old new status text night → IsSaid (number_of status)
said_due words old new status text night (Due.other_words e) = said_2
said_due words old new status text night (Due.sampled jobs seed e) = said_0
said_due words old new status text night (Due.by_input w e read) =
    by_status status (read_of_input w old new status text night read)
  where
    by_status : (s : Status) → IsOfInput s → IsSaid (number_of s)
    by_status s success = said_0
    by_status s definitions_ = said_1
    by_status s refused = said_3
    by_status s limit_ = said_10
    by_status s wrong_ = said_11

-- what holds of an answer
module _ (words : List (List ℕ)) (old new : Option Stream) (result : ℕ) (handed : Option WorldState)
    (written written' : Option (List ℕ)) (faults faults' : ℕ)
    (a : IsAnswer words old new result handed written written' faults faults') where
  answered : (n : ℕ) → n ≢ 5 → result ≡ n → (number_of a.status ≡ n) × Appends written written' a.text
  answered n other is = let all = a.says.all (λ e. other (sym is ∙ e)) in (sym all.0 ∙ is, all.1)

  pub done_said : result ≡ 0 → (telling : Telling) → asked_of words ≡ Some (asks.Input (wants.Night telling))
      → Tells telling old new written written' handed
  done_said e telling asked =
      let said = answered 0 (λ f. omega arith) e in
      tells_due old new written written' handed words telling a.status a.text a.night asked a.due said.0 said.1
      (a.whole (λ f. let never : 0 ≡ 5 = sym e ∙ f in omega arith))

  pub compiled_said : result ≡ 0 → asked_of words ≡ Some (asks.Input (wants.Definitions CanonicalText))
      → Compiles old new written written'
  compiled_said e asked =
      let said = answered 0 (λ f. omega arith) e in
      compiles_due old new written written' handed words a.status a.text a.night asked a.due said.0 said.1

  pub planned_said : result ≡ 0 → (day : ℕ) → asked_of words ≡ Some (asks.Input (wants.Definitions (Plan day)))
      → Plans day old new written written'
  planned_said e day asked =
      let said = answered 0 (λ f. omega arith) e in
      plans_due old new written written' handed words day a.status a.text a.night asked a.due said.0 said.1

  pub definitions_said : result ≡ 1 → (wish : Wish) × (asked_of words ≡ Some (asks.Input (wants.Definitions wish)))
      × RefusesDefinitions wish old new written written'
  definitions_said e =
      let said = answered 1 (λ f. omega arith) e in
      refused_due old new written written' handed words a.status a.text a.night a.due said.0 said.1

  pub words_said : result ≡ 2 → asked_of words ≡ None
  words_said e =
      let said = answered 2 (λ f. omega arith) e in words_due words old new a.status a.text a.night a.due said.0

  pub refused_said : result ≡ 3 → asked_of words ≢ Some (asks.Input wants.Audit) → Refuses old new written written'
  refused_said e other =
      let said = answered 3 (λ f. omega arith) e in
      refuses_due old new written written' handed words a.status a.text a.night a.due said.0 said.1 other

  pub history_refused_said : result ≡ 3 → asked_of words ≡ Some (asks.Input wants.Audit)
      → RefusesHistory old new written written'
  history_refused_said e asked =
      let said = answered 3 (λ f. omega arith) e in
      refuses_history_due old new written written' handed words a.status a.text a.night asked a.due said.0 said.1

  pub sound_said : result ≡ 0 → asked_of words ≡ Some (asks.Input wants.Audit) → FindsSound old new written written'
  sound_said e asked =
      let said = answered 0 (λ f. omega arith) e in
      sound_due old new written written' handed words a.status a.text a.night asked a.due said.0 said.1

  pub wrong_said : result ≡ 11 → (asked_of words ≡ Some (asks.Input wants.Audit)) × FindsWrong old new written written'
  wrong_said e =
      let said = answered 11 (λ f. omega arith) e in
      wrong_due old new written written' handed words a.status a.text a.night a.due said.0 said.1

  pub limit_said : result ≡ 10 → PassesLimit old new written written'
  limit_said e =
      let said = answered 10 (λ f. omega arith) e in
      limit_due old new written written' handed words a.status a.text a.night a.due said.0 said.1

  by_5 : (Q : Type 0) → (result ≡ 5 → Q) → (result ≢ 5 → Q) → Q
  by_5 Q is other = go (result == 5) refl
    where
      go : (b : Bool) → (result == 5) ≡ b → Q
      go true e = is ((Decides-eqb result 5).0 e)
      go false e = other (λ f. let same = (Decides-eqb result 5).1 f in cc)

  pub said_statuses : (result ≡ 5) ⊎ IsSaid result
  said_statuses =
      by_5 ((result ≡ 5) ⊎ IsSaid result) (λ e. inl e)
      (λ other. inr (rw (a.says.all other).0 (said_due words old new a.status a.text a.night a.due)))

  pub world_said : WorldIsFor (asked_of words) result handed
  world_said =
      by_5 (WorldIsFor (asked_of words) result handed)
      (λ e. no_world (asked_of words) result handed (a.alone e) (λ f. let never : 5 ≡ 0 = sym e ∙ f in omega arith))
      (λ other. rw (a.says.all other).0 (world_due words old new a.status a.text a.night handed a.due (a.whole other)))

  pub sink_said : result ≡ 5 → Rose faults faults'
  sink_said e = a.says.fault e

-- a number is one of those with which nothing is said, or neither
pub by_silence : (result : ℕ) (Q : Type 0) → (result ≡ 4 → Q) → (result ≡ 9 → Q) → (result ≢ 4 → result ≢ 9 → Q) → Q
by_silence result Q four nine other = go (result == 4) (result == 9) refl refl
  where
    go : (a b : Bool) → (result == 4) ≡ a → (result == 9) ≡ b → Q
    go true b e f = four ((Decides-eqb result 4).0 e)
    go false true e f = nine ((Decides-eqb result 9).0 f)
    go false false e f =
        other (λ i. let same = (Decides-eqb result 4).1 i in cc) (λ i. let same = (Decides-eqb result 9).1 i in cc)

-- a number of words that the input alone answers: nothing is said, or the sink failed, or it is said
abbrev pub IsOfTexts : ℕ → Type 0
IsOfTexts n = (n ≡ 4) ⊎ (n ≡ 9) ⊎ (n ≡ 5) ⊎ IsSaid n

pub text_number : {words : List (List ℕ)} {old new : Option Stream} {result : ℕ} {handed : Option WorldState}
    {written written' : Option (List ℕ)} {faults faults' : ℕ}
    → (result ≢ 4 → result ≢ 9 → IsAnswer words old new result handed written written' faults faults') → IsOfTexts result
text_number {words} {old} {new} {result} {handed} {written} {written'} {faults} {faults'} due =
    by_silence result (IsOfTexts result) (λ e. inl e) (λ e. inr (inl e))
    (λ other_4 other_9. inr
    (inr (said_statuses words old new result handed written written' faults faults' (due other_4 other_9))))
