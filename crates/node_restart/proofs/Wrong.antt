-- The first wrong body, by the entries before it.
use Rattle.std.proofs.Common.{◌≡◌, ◌∙◌, ◌+◌, ◌<◌, ◌≤◌, ◌++◌, ◌∷◌, [], ℕ, zero, suc, Bool, true, false, List, length, map, take}
use Rattle.std.proofs.Common.{cond, refl, sym, ap, subst, arith, append_assoc, length-append, Ok, Some, None, Result, IfSome}
use Rattle.std.proofs.Common.{get_or, option_map, slice_get}
use Rattle.std.proofs.lemmas.Bool.{lt-ltb}
use Rattle.std.specs.declared.option.Option.{Option}
use Rattle.std.proofs.lemmas.List.{append-nil, take_all, take_at}
use Rattle.std.proofs.lemmas.Option.{slice_get-get_or}
use Rattle.lemmas.proofs.Lists.{take_less}
use Rattle.model.specs.Types.{Entry, Net}
use Rattle.model.specs.Restore as model
use Rattle.model.specs.Restore.{first_wrong, first_wrong_from, follows_on, restore_fault}
use Rattle.model.specs.Network.{node_count}
use Rattle.outside.specs.Kept.{Bodies}
use Rattle.entry_codec.specs.declared.EntryFault.{EntryFault}
use Rattle.entry_codec.specs.Entries.{entry_in}
use Rattle.message_file.specs.Files.{place_behind}
use Rattle.agent_core.proofs.Restored.{restore_inside}
use Rattle.node_restart.specs.Restarting.{AreEntries, AreHeld, IsFirstWrong, IsWrongAt}
use Rattle.node_restart.specs.Reading.{AreFront}
use Rattle.node_restart.proofs.Fronts.{entries_front}

-- a test that comes out one way
passed : {X : Type 0} (b : Bool) (x y : X) → b ≡ true → cond b x y ≡ x
passed b x y is = rw is refl

failed : {X : Type 0} (b : Bool) (x y : X) → b ≡ false → cond b x y ≡ y
failed b x y is = rw is refl

-- Entries up to the first that does not follow on behind those before.
pub record Stops (net : Net) (before es : List Entry) (i k : ℕ) : Type 0 where
  pub front : List Entry
  pub bad : Entry
  pub rest : List Entry
  pub stands : es ≡ front ++ bad ∷ rest
  pub number : k ≡ i + length front
  pub fine : first_wrong_from net before i front ≡ None
  pub wrong : follows_on net (before ++ front) bad ≡ false

module _ (net : Net) where
  abbrev wrong_from : List Entry → ℕ → List Entry → Option ℕ
  wrong_from before i es = first_wrong_from net before i es

  -- the test of the first entry
  stop_at : (before : List Entry) (e : Entry) (es : List Entry) (i k : ℕ) (b : Bool) → follows_on net before e ≡ b
      → (wrong_from (before ++ e ∷ []) (i + 1) es ≡ Some k → Stops net (before ++ e ∷ []) es (i + 1) k)
      → wrong_from before i (e ∷ es) ≡ Some k → Stops net before (e ∷ es) i k
  stop_at before e es i k true is later h =
      let s = later (sym (passed (follows_on net before e) (wrong_from (before ++ e ∷ []) (i + 1) es) (Some i) is) ∙ h) in
      record {
        front = e ∷ s.front;
        bad = s.bad;
        rest = s.rest;
        stands = ap (λ (l : List Entry). e ∷ l) s.stands;
        number = omega (arith, s.number);
        fine = passed (follows_on net before e) (wrong_from (before ++ e ∷ []) (i + 1) s.front) (Some i) is ∙ s.fine;
        wrong = subst (λ (l : List Entry). follows_on net l s.bad ≡ false) (append_assoc before (e ∷ []) s.front) s.wrong;
      }
  stop_at before e es i k false is later h =
      let here : Some i ≡ Some k = sym (failed (follows_on net before e) (wrong_from (before ++ e ∷ []) (i + 1) es) (Some i) is) ∙ h in
      let same : i ≡ k = cc here in
      record {
        front = [];
        bad = e;
        rest = es;
        stands = refl;
        number = omega (arith, same);
        fine = refl;
        wrong = subst (λ (l : List Entry). follows_on net l e ≡ false) (sym (append-nil before)) is;
      }

  stops : (before es : List Entry) (i k : ℕ) → wrong_from before i es ≡ Some k → Stops net before es i k
  stops before [] i k h = absurd (cc h)
  stops before (e ∷ es) i k h =
      stop_at before e es i k (follows_on net before e) refl (λ g. stops (before ++ e ∷ []) es (i + 1) k g) h

  -- where all follow on, each does
  follow_at : (before front : List Entry) (e : Entry) (rest : List Entry) (i : ℕ) (b : Bool) (f : Entry)
      → follows_on net before f ≡ b
      → (wrong_from (before ++ f ∷ []) (i + 1) (front ++ e ∷ rest) ≡ None → follows_on net ((before ++ f ∷ []) ++ front) e ≡ true)
      → wrong_from before i (f ∷ front ++ e ∷ rest) ≡ None → follows_on net (before ++ f ∷ front) e ≡ true
  follow_at before front e rest i true f is later h =
      subst (λ (l : List Entry). follows_on net l e ≡ true) (append_assoc before (f ∷ []) front)
      (later (sym (passed (follows_on net before f) (wrong_from (before ++ f ∷ []) (i + 1) (front ++ e ∷ rest)) (Some i) is) ∙ h))
  follow_at before front e rest i false f is later h =
      absurd (cc (sym (failed (follows_on net before f) (wrong_from (before ++ f ∷ []) (i + 1) (front ++ e ∷ rest)) (Some i) is) ∙ h))

  follows_first : (before : List Entry) (e : Entry) (rest : List Entry) (i : ℕ) (b : Bool) → follows_on net before e ≡ b
      → wrong_from before i (e ∷ rest) ≡ None → follows_on net before e ≡ true
  follows_first before e rest i true is h = is
  follows_first before e rest i false is h =
      absurd (cc (sym (failed (follows_on net before e) (wrong_from (before ++ e ∷ []) (i + 1) rest) (Some i) is) ∙ h))

  follows_each : (before front : List Entry) (e : Entry) (rest : List Entry) (i : ℕ)
      → wrong_from before i (front ++ e ∷ rest) ≡ None → follows_on net (before ++ front) e ≡ true
  follows_each before [] e rest i h =
      subst (λ (l : List Entry). follows_on net l e ≡ true) (sym (append-nil before))
      (follows_first before e rest i (follows_on net before e) refl h)
  follows_each before (f ∷ front) e rest i h =
      follow_at before front e rest i (follows_on net before f) f refl (λ g. follows_each (before ++ f ∷ []) front e rest (i + 1) g) h

  pub stops_of : (es : List Entry) (k : ℕ) → first_wrong net es ≡ Some k → Stops net [] es 0 k
  unfolding first_wrong
  stops_of es k h = stops [] es 0 k h

  pub fine_of : (es : List Entry) (k : ℕ) (s : Stops net [] es 0 k) → first_wrong net s.front ≡ None
  unfolding first_wrong
  fine_of es k s = s.fine

  pub each_of : (front : List Entry) (e : Entry) (rest : List Entry) → first_wrong net (front ++ e ∷ rest) ≡ None → follows_on net front e ≡ true
  unfolding first_wrong
  each_of front e rest h = follows_each [] front e rest 0 h

-- within the network the entries decide
unmapped_none : (o : Option ℕ) → option_map model.RestoreFault.NotNext o ≡ None → o ≡ None
unmapped_none None is = refl
unmapped_none (Some k) is = absurd (cc is)

unmapped_some : (o : Option ℕ) (k : ℕ) → option_map model.RestoreFault.NotNext o ≡ Some (model.RestoreFault.NotNext k) → o ≡ Some k
unmapped_some None k is = absurd (cc is)
unmapped_some (Some j) k is = cc is

pub inside_follow : (net : Net) (me : ℕ) (kept : List Entry) → me < node_count net → restore_fault net me kept ≡ None
    → first_wrong net kept ≡ None
inside_follow net me kept inside h =
    unmapped_none (first_wrong net kept) (sym (restore_inside net me kept (lt-ltb me (node_count net) inside)) ∙ h)

pub inside_wrong : (net : Net) (me : ℕ) (kept : List Entry) (k : ℕ) → me < node_count net
    → restore_fault net me kept ≡ Some (model.RestoreFault.NotNext k) → first_wrong net kept ≡ Some k
inside_wrong net me kept k inside h =
    unmapped_some (first_wrong net kept) k (sym (restore_inside net me kept (lt-ltb me (node_count net) inside)) ∙ h)

pub inside_named : (net : Net) (me : ℕ) (kept : List Entry) → me < node_count net
    → restore_fault net me kept ≡ Some model.RestoreFault.NotInNetwork → ⊥
inside_named net me kept inside h =
    not_named (first_wrong net kept) (sym (restore_inside net me kept (lt-ltb me (node_count net) inside)) ∙ h)
  where
    not_named : (o : Option ℕ) → option_map model.RestoreFault.NotNext o ≡ Some model.RestoreFault.NotInNetwork → ⊥
    not_named None is = cc is
    not_named (Some j) is = cc is

-- the body of an entry
pub body_over : (bodies : Bodies) (front : List Entry) (bad : Entry) (rest : List Entry)
    → map entry_in bodies ≡ map Ok (front ++ bad ∷ rest)
    → (body : List ℕ) × (slice_get bodies (length front) ≡ Some body) × (entry_in body ≡ Ok bad)
body_over [] [] bad rest m = absurd (cc m)
body_over [] (f ∷ front) bad rest m = absurd (cc m)
body_over (b ∷ bodies) [] bad rest m = (b, refl, cc m)
body_over (b ∷ bodies) (f ∷ front) bad rest m = body_over bodies front bad rest (cc m)

-- what is in a front is in the whole
pub get_whole : {X : Type 0} (n k : ℕ) (xs : List X) (x : X) → slice_get (take n xs) k ≡ Some x → slice_get xs k ≡ Some x
get_whole zero k xs x is = absurd (cc is)
get_whole (suc n) k [] x is = is
get_whole (suc n) zero (y ∷ xs) x is = is
get_whole (suc n) (suc k) (y ∷ xs) x is = get_whole n k xs x is

pub get_front : {X : Type 0} (n k : ℕ) (xs : List X) (x : X) → k < n → slice_get xs k ≡ Some x → slice_get (take n xs) k ≡ Some x
get_front zero k xs x lt is = absurd (omega (arith, lt))
get_front (suc n) k [] x lt is = is
get_front (suc n) zero (y ∷ xs) x lt is = is
get_front (suc n) (suc k) (y ∷ xs) x lt is = get_front n k xs x (omega (arith, lt)) is

-- the entry that does not follow on is one of them
pub wrong_within : (net : Net) (entries : List Entry) (k : ℕ) → first_wrong net entries ≡ Some k → k < length entries
wrong_within net entries k h =
    let s = stops_of net entries k h in
    omega (arith, s.number, ap length s.stands, length-append s.front (s.bad ∷ s.rest))

module _ (net : Net) (entries : List Entry) (bodies : Bodies) (front : AreFront entries bodies) where
  -- an entry that does not follow on
  pub wrong_entry : (k : ℕ) → first_wrong net entries ≡ Some k → IsFirstWrong net k bodies
  wrong_entry k h =
      let s = stops_of net entries k h in
      let is : k ≡ length s.front = omega (arith, s.number) in
      let within : k ≤ length entries = omega (arith, is, ap length s.stands, length-append s.front (s.bad ∷ s.rest)) in
      let o = body_over (take (length entries) bodies) s.front s.bad s.rest (front.are.read ∙ ap (map Ok) s.stands) in
      let before : take k entries ≡ s.front = ap (take k) s.stands ∙ take_at s.front (s.bad ∷ s.rest) k (sym is) in
      let same : take k (take (length entries) bodies) ≡ take k bodies = take_less k (length entries) bodies within in
      record {
        before = s.front;
        held =
            record {
              are =
                  subst (λ (l : List Entry). AreEntries l (take k bodies)) before
                  (subst (AreEntries (take k entries)) same (entries_front entries (take (length entries) bodies) k front.are));
              follow = fine_of net entries k s;
            };
        body = o.0;
        stands =
            subst (λ (n : ℕ). slice_get bodies n ≡ Some o.0) (sym is)
            (get_whole (length entries) (length s.front) bodies o.0 o.1);
        wrong = λ e read. subst (λ (x : Entry). follows_on net s.front x ≡ false) (one_value o.2 read) s.wrong;
      }
    where
      one_value : {bad e : Entry} {r : Result Entry EntryFault} → r ≡ Ok bad → r ≡ Ok e → bad ≡ e
      one_value a b = cc

  -- a body that is no entry
  pub no_entry : first_wrong net entries ≡ None → length entries < length bodies → IsFirstWrong net (length entries) bodies
  no_entry fine lt =
      let there : slice_get bodies (length entries) ≡ Some (get_or bodies (length entries) []) =
      slice_get-get_or bodies (length entries) [] lt in
      record {
        before = entries;
        held = record { are = front.are; follow = fine };
        body = get_or bodies (length entries) [];
        stands = there;
        wrong = λ e read. absurd (front.end (get_or bodies (length entries) []) there e read);
      }

  -- no body is wrong
  pub all_held : first_wrong net entries ≡ None → length bodies ≤ length entries → AreHeld net entries bodies
  all_held fine le =
      record { are = subst (AreEntries entries) (take_all (length entries) bodies le) front.are; follow = fine }

-- the same, where the bodies are told
module _ (net : Net) (entries : List Entry) where
  wrong_at : (bodies now : Bodies) (k place : ℕ) → now ≡ bodies → IsFirstWrong net k bodies
      → place ≡ place_behind (take k now) → IsWrongAt net place bodies
  wrong_at bodies now k place same first gate =
      record { number = k; first = first; gate = gate ∙ ap (λ (l : Bodies). place_behind (take k l)) same }

  pub told_entry : (told now : Option Bodies) (k place : ℕ) → now ≡ told → first_wrong net entries ≡ Some k
      → IfSome told (AreFront entries) → IfSome now (λ bodies. place ≡ place_behind (take k bodies))
      → IfSome told (IsWrongAt net place)
  told_entry None now k place same h front gate = tt
  told_entry (Some bodies) None k place same h front gate = absurd (cc same)
  told_entry (Some bodies) (Some n) k place same h front gate =
      wrong_at bodies n k place (cc same) (wrong_entry net entries bodies front k h) gate

  pub told_none : (told now : Option Bodies) (number place : ℕ) → now ≡ told → first_wrong net entries ≡ None
      → length entries < number → IfSome now (λ bodies. length bodies ≡ number) → IfSome told (AreFront entries)
      → IfSome now (λ bodies. place ≡ place_behind (take (length entries) bodies)) → IfSome told (IsWrongAt net place)
  told_none None now number place same fine lt size front gate = tt
  told_none (Some bodies) None number place same fine lt size front gate = absurd (cc same)
  told_none (Some bodies) (Some n) number place same fine lt size front gate =
      let is : n ≡ bodies = cc same in
      wrong_at bodies n (length entries) place is
      (no_entry net entries bodies front fine (omega (arith, lt, size, ap length is))) gate

  pub told_held : (told now : Option Bodies) (number : ℕ) → now ≡ told → first_wrong net entries ≡ None
      → number ≤ length entries → IfSome now (λ bodies. length bodies ≡ number) → IfSome told (AreFront entries)
      → IfSome told (AreHeld net entries)
  told_held None now number same fine le size front = tt
  told_held (Some bodies) None number same fine le size front = absurd (cc same)
  told_held (Some bodies) (Some n) number same fine le size front =
      let is : n ≡ bodies = cc same in
      all_held net entries bodies front fine (omega (arith, le, size, ap length is))
