-- What a service came to, by the status.
use Rattle.std.proofs.Common.{◌<◌, ◌≡◌, ◌≢◌, ◌≤◌, ◌∙◌, ℕ, List, None, Option, Some, ap, arith, inl, inr, length, refl, subst, sym}
use Rattle.lemmas.proofs.Options.{none_some}
use Rattle.composer_parser.specs.declared.Defs.{Defs}
use Rattle.definition_texts.proofs.Readings.{not_refused, one_checked, one_refusal}
use Rattle.definition_texts.specs.Kinds.{word_of}
use Rattle.definition_texts.specs.Refusals.{AreChecked, IsRefused}
use Rattle.definition_texts.specs.declared.refusals.Refusal.{Refusal}
use Rattle.replies.specs.Sayings.{Says}
use Rattle.replies.specs.Texts.{definitions_line}
use Rattle.replies.specs.declared.statuses.Status.{Status}
use Rattle.network_world.specs.Stations.{WorldState}
use Rattle.outside.specs.Streams.{Stream}
use Rattle.node_commands.specs.Ends.{answer_status, answer_text, end_status, end_text}
use Rattle.node_commands.specs.Forms.{Request, name_in, request_of}
use Rattle.node_commands.specs.Services.{Asking, IsService, ReadsDefs, RefusesDefs, Serving, UnservedCallsFor}
use Rattle.input_commands.specs.Dues.{IsOf}
use Rattle.input_commands.specs.Dues as texts
use Rattle.whole_io.proofs.Lefts.{left_long, left_read}
use Rattle.whole_io.specs.Whole.{TakesCount}
use Rattle.workload_defs.specs.Stations.{number_of as number_of_station}
use Rattle.tws_top.specs.Dues.{Due, IsAnswer, LeftCallsFor, ServiceCallsFor}

-- what was read of a source is what it had
read_defs : (source : Stream) (new : Option Stream) (defs : Defs) → ReadsDefs defs (Some source) new
    → (length source.left ≤ 16777216) × AreChecked source.left defs
read_defs source new defs r =
    let same : source.left ≡ r.bytes = left_read source new r.bytes r.read in (
      subst (λ (l : List ℕ). length l ≤ 16777216) (sym same) r.short,
      subst (λ (l : List ℕ). AreChecked l defs) (sym same) r.are,
    )

pub same_defs : (source : Stream) (new : Option Stream) (d e : Defs) → ReadsDefs d (Some source) new → AreChecked source.left e
    → d ≡ e
same_defs source new d e r are = one_checked source.left d e (read_defs source new d r).1 are

-- of one source one thing is due before a service
module _ (S : Serving) (A : Asking) (request : Request) (source : Stream) (new : Option Stream) where
  too_long_not : 16777216 < length source.left → (defs : Defs) → ReadsDefs defs (Some source) new → ⊥
  too_long_not long defs r = let short = (read_defs source new defs r).0 in omega (arith, long, short)

  refused_not : (r : Refusal) → IsRefused source.left r → (defs : Defs) → ReadsDefs defs (Some source) new → ⊥
  refused_not r is defs reads = not_refused source.left defs r (read_defs source new defs reads).1 is

  pub unknown_not : (d e : Defs) (name : List ℕ) (me : ℕ) → AreChecked source.left e → number_of_station e name ≡ None
      → ReadsDefs d (Some source) new → number_of_station d name ≡ Some me → ⊥
  unknown_not d e name me are none reads there =
      let same : d ≡ e = same_defs source new d e reads are in
      none_some (sym none ∙ ap (λ (x : Defs). number_of_station x name) (sym same) ∙ there)

  -- what is left of the source and what was read of it
  refused_is : (r q : Refusal) → RefusesDefs r (Some source) new → IsRefused source.left q → r ≡ q
  refused_is r q reads is =
      one_refusal source.left r q
      (subst (λ (l : List ℕ). IsRefused l r) (sym (left_read source new reads.bytes reads.read)) reads.refused) is

  refuses_long : (r : Refusal) → RefusesDefs r (Some source) new → 16777216 < length source.left → ⊥
  refuses_long r reads long =
      let same : length source.left ≡ length reads.bytes = ap length (left_read source new reads.bytes reads.read) in
      omega (arith, long, same, reads.short)

  pub refuses_checked : (r : Refusal) (defs : Defs) → RefusesDefs r (Some source) new → AreChecked source.left defs → ⊥
  refuses_checked r defs reads are =
      not_refused source.left defs r are
      (subst (λ (l : List ℕ). IsRefused l r) (sym (left_read source new reads.bytes reads.read)) reads.refused)

  pub long_short : TakesCount 16777217 (Some source) new → length source.left ≤ 16777216 → ⊥
  long_short takes short = let long = left_long source new takes in omega (arith, long, short)

  unserved_one : (a b : Status) (x y : List ℕ) → UnservedCallsFor request (Some source) new a x
      → LeftCallsFor request source.left b y → (a ≡ b) × (x ≡ y)
  unserved_one a b x y (UnservedCallsFor.too_long takes) (LeftCallsFor.too_long long) = (refl, refl)
  unserved_one a b x y (UnservedCallsFor.too_long takes) (LeftCallsFor.refused q short is) = absurd (long_short takes short)
  unserved_one a b x y (UnservedCallsFor.too_long takes) (LeftCallsFor.unknown d short are none) =
      absurd (long_short takes short)
  unserved_one a b x y (UnservedCallsFor.refused r reads) (LeftCallsFor.too_long long) = absurd (refuses_long r reads long)
  unserved_one a b x y (UnservedCallsFor.refused r reads) (LeftCallsFor.refused q short is) =
      (refl, ap (λ (z : Refusal). definitions_line z.line (word_of z.kind)) (refused_is r q reads is))
  unserved_one a b x y (UnservedCallsFor.refused r reads) (LeftCallsFor.unknown d short are none) =
      absurd (refuses_checked r d reads are)
  unserved_one a b x y (UnservedCallsFor.unknown d reads none) (LeftCallsFor.too_long long) =
      absurd (too_long_not long d reads)
  unserved_one a b x y (UnservedCallsFor.unknown d reads none) (LeftCallsFor.refused q short is) =
      absurd (refused_not q is d reads)
  unserved_one a b x y (UnservedCallsFor.unknown d reads none) (LeftCallsFor.unknown e short are also) = (refl, refl)

  -- a service was reached, and so the input called for it
  reached_not : (d : Defs) (name : List ℕ) (me : ℕ) → ReadsDefs d (Some source) new → number_of_station d name ≡ Some me
      → name_in request ≡ name → (b : Status) (y : List ℕ) → LeftCallsFor request source.left b y → ⊥
  reached_not d name me reads there is b y (LeftCallsFor.too_long long) = too_long_not long d reads
  reached_not d name me reads there is b y (LeftCallsFor.refused q short refused) = refused_not q refused d reads
  reached_not d name me reads there is b y (LeftCallsFor.unknown e short are none) =
      unknown_not d e name me are (subst (λ (n : List ℕ). number_of_station e n ≡ None) is none) reads there

  left_alone : {same but_link : Type 0} {faults faults' result : ℕ} {written written' : Option (List ℕ)} {sink sink' : ℕ}
      (b : Status) (y : List ℕ) → LeftCallsFor request source.left b y
      → IsService S A same but_link request (Some source) new faults faults' result written written' sink sink' → same
  left_alone b y left (IsService.silent all why keeps) = all
  left_alone b y left (IsService.unserved due text all row told) = all
  left_alone b y left (IsService.served end is told) =
      absurd (reached_not is.defs is.name is.me is.read is.there (ap name_in is.is) b y left)
  left_alone b y left (IsService.asked answer others is told) =
      absurd (reached_not is.defs is.name is.me is.read is.there (ap name_in is.is) b y left)

  service_one : (a b : Status) (x y : List ℕ) → ServiceCallsFor S A request (Some source) new a x
      → LeftCallsFor request source.left b y → (a ≡ b) × (x ≡ y)
  service_one a b x y (ServiceCallsFor.unserved row) left = unserved_one a b x y row left
  service_one a b x y (ServiceCallsFor.served end is) left =
      absurd (reached_not is.defs is.name is.me is.read is.there (ap name_in is.is) b y left)
  service_one a b x y (ServiceCallsFor.asked answer is) left =
      absurd (reached_not is.defs is.name is.me is.read is.there (ap name_in is.is) b y left)

  pub exact_said : (a b : Status) (x y : List ℕ) (result : ℕ) (written written' : Option (List ℕ)) (faults faults' : ℕ)
      → ServiceCallsFor S A request (Some source) new a x → LeftCallsFor request source.left b y
      → Says a x result written written' faults faults' → Says b y result written written' faults faults'
  exact_said a b x y result written written' faults faults' row left says =
      let one = service_one a b x y row left in rw (← one.0, ← one.1) says

-- a service from the words on
module _ (S : Serving) (A : Asking) (same but_link : Type 0) (request : Request) (old new : Option Stream)
    (source source' result : ℕ) (written written' : Option (List ℕ)) (sink sink' : ℕ) where
  abbrev Came : Type 0
  Came = IsService S A same but_link request old new source source' result written written' sink sink'

  -- what is due for it was said
  pub record WasDue : Type 0 where
    pub status : Status
    pub text : List ℕ
    pub row : ServiceCallsFor S A request old new status text
    pub says : Says status text result written written' sink sink'

  pub service_due : Came → result ≢ 4 → result ≢ 9 → WasDue
  service_due (IsService.silent all (inl four) keeps) other_4 other_9 = absurd (other_4 four.0)
  service_due (IsService.silent all (inr nine) keeps) other_4 other_9 = absurd (other_9 nine)
  service_due (IsService.unserved due text all row told) other_4 other_9 =
      record { status = due; text = text; row = ServiceCallsFor.unserved row; says = told.said other_9 }
  service_due (IsService.served end is told) other_4 other_9 =
      record { status = end_status end; text = end_text end; row = ServiceCallsFor.served end is; says = told.said other_9 }
  service_due (IsService.asked answer others is told) other_4 other_9 = record {
    status = answer_status answer;
    text = answer_text answer;
    row = ServiceCallsFor.asked answer is;
    says = told.said other_9;
  }

  pub service_answer : (words : List (List ℕ)) (handed : Option WorldState) → request_of words ≡ Some request
      → handed ≡ None → Came → result ≢ 4 → result ≢ 9
      → IsAnswer S A words old new result handed written written' sink sink'
  service_answer words handed asked none came other_4 other_9 =
      let due = service_due came other_4 other_9 in
      record {
        status = due.status;
        text = due.text;
        night = None;
        due = Due.by_request request asked due.row;
        says = due.says;
        whole = λ other. subst (λ (o : Option WorldState). IsOf o None) (sym none) tt;
        alone = λ five. none;
      }

-- of words without a request the same is due as of those that the input alone answers
pub text_answer : {S : Serving} {A : Asking} {words : List (List ℕ)} {old new : Option Stream} {result : ℕ}
    {handed : Option WorldState} {written written' : Option (List ℕ)} {faults faults' : ℕ} → request_of words ≡ None
    → texts.IsAnswer words old new result handed written written' faults faults'
    → IsAnswer S A words old new result handed written written' faults faults'
text_answer none a = record {
  status = a.status;
  text = a.text;
  night = a.night;
  due = Due.by_texts none a.due;
  says = a.says;
  whole = a.whole;
  alone = a.alone;
}

-- what is left of a source that tells it calls for what is said
pub exact_of : {S : Serving} {A : Asking} {request : Request} {old new : Option Stream} (source : Stream)
    {a b : Status} {x y : List ℕ} {result : ℕ} {written written' : Option (List ℕ)} {faults faults' : ℕ}
    → old ≡ Some source → ServiceCallsFor S A request old new a x → LeftCallsFor request source.left b y
    → Says a x result written written' faults faults' → Says b y result written written' faults faults'
exact_of {S} {A} {request} {old} {new} source {a} {b} {x} {y} {result} {written} {written'} {faults} {faults'} told row left says =
    exact_said S A request source new a b x y result written written' faults faults'
    (subst (λ (o : Option Stream). ServiceCallsFor S A request o new a x) told row) left says

-- and where that calls for no service, none is reached
pub left_untouched : {S : Serving} {A : Asking} {same but_link : Type 0} {request : Request} {old new : Option Stream}
    {faults faults' result : ℕ} {written written' : Option (List ℕ)} {sink sink' : ℕ} (source : Stream) (b : Status)
    (y : List ℕ) → old ≡ Some source → LeftCallsFor request source.left b y
    → IsService S A same but_link request old new faults faults' result written written' sink sink' → same
left_untouched {S} {A} {same} {but_link} {request} {old} {new} {faults} {faults'} {result} {written} {written'} {sink} {sink'} source b y told left h =
    left_alone S A request source new b y left
    (subst
    (λ (o : Option Stream). IsService S A same but_link request o new faults faults' result written written' sink sink') told h)
