-- What is told of a text is what it is read to.
use Rattle.std.proofs.Common.{◌≡◌, ◌∙◌, ◌-◌, arith, take, ℕ, List, [], Option, Some, None, Result, Ok, Err, refl, ap, sym, subst}
use Rattle.std.specs.Prelude.{IfOk, drop, length, map, true}
use Rattle.std.specs.List.{list_all}
use Rattle.std.proofs.lemmas.List.{drop-map, length-drop, length-map, take_all}
use Rattle.composer_parser.specs.declared.Defs.{Defs}
use Rattle.definition_texts.specs.Refusals.{AreChecked, IsRefused}
use Rattle.definition_texts.specs.declared.Refusal.{Refusal}
use Rattle.model.specs.Network.{node_count}
use Rattle.model.specs.Types.{Net, Node}
use Rattle.record_faults.specs.Faults.{first_fault}
use Rattle.record_faults.specs.Known.{named_by}
use Rattle.record_faults.specs.declared.kinds.ScriptKind.{ScriptKind}
use Rattle.record_rows.specs.declared.rows.Row.{Row}
use Rattle.record_script.proofs.Elsewhere.{steps_inside}
use Rattle.record_script.specs.Inside.{is_inside}
use Rattle.record_script.specs.Steps.{steps_by}
use Rattle.record_script.specs.Scripts.{placed, read_of}
use Rattle.record_script.specs.declared.Script.{Script}
use Rattle.record_script.specs.declared.ScriptStep.{ScriptStep}
use Rattle.record_script.specs.declared.ScriptFault.{ScriptFault}
use Rattle.record_script.specs.declared.ScriptFault.TheVariants as told
use Rattle.night_records.specs.Composers.{composer_text, definitions_place}
use Rattle.night_records.specs.Readings.{At, IsRead, IsTold, IsToldOf, Tells, defined, node_names, defined_record, faulty, lower, names_of, own_fault, plain}
use Rattle.night_records.specs.Readings.{refusal_at, refused, without_definitions}
use Rattle.night_records.specs.declared.records.Record.{Record}
use Rattle.workload_defs.specs.Nets.{net_of}

-- what holds of an answer for two reasons
pub both_ok : {T E : Type 0} (P Q : T → Type 0) (R : T → Type 0) (r : Result T E) → ((t : T) → P t → Q t → R t)
    → IfOk r P → IfOk r Q → IfOk r R
both_ok P Q R (Ok t) f h k = f t h k
both_ok P Q R (Err e) f h k = tt

-- what stands behind a place, seen in another way
pub behind_is : {X : Type 0} (f : X → List ℕ) (xs : List X) (n : ℕ) (lines : List (List ℕ)) → map f xs ≡ lines
    → map f (take (length xs - n) (drop n xs)) ≡ drop n lines
behind_is f xs n lines is =
    let long = length-drop n xs in
    ap (map f) (take_all (length xs - n) (drop n xs) (omega (arith, long))) ∙ (sym (drop-map f n xs) ∙ ap (drop n) is)

-- a record without definitions
pub plain_read : (text : List ℕ) (s : Script) → definitions_place text ≡ None → read_of text ≡ Ok s
    → IsRead text (Ok (record { script = s; workload = None }))
plain_read text s none is = subst (λ r. IsRead text (without_definitions r)) is (plain none)

pub plain_tells : (text : List ℕ) (f : ScriptFault) → definitions_place text ≡ None
    → ((n : ℕ) (k : _) → f ≡ told.At n k → read_of text ≡ Err (n, k)) → Tells text f
plain_tells text (told.At n k) none is = subst (λ r. IsRead text (without_definitions r)) (is n k refl) (plain none)
plain_tells text told.NoMemory none is = tt

-- a fault that may be there
pub told_of : (o : Option At) (at_ : At) (f : ScriptFault) → o ≡ Some at_ → IsTold at_ f → IsToldOf o f
told_of o at_ (told.At n k) is h = is ∙ ap Some h
told_of o at_ told.NoMemory is h = tt

-- a record with these definitions
pub defined_read : (text bytes : List ℕ) (place : ℕ) (d : Defs) (r : Record) → definitions_place text ≡ Some place
    → bytes ≡ composer_text text place → AreChecked bytes d → own_fault (names_of d) text ≡ None
    → r ≡ defined_record d text → IsRead text (Ok r)
defined_read text bytes place d r at_ is reading none same =
    subst (λ x. IsRead text (Ok x)) (sym same) (defined place d at_ (subst (λ b. AreChecked b d) is reading) none)

pub defined_tells : (text bytes : List ℕ) (place : ℕ) (d : Defs) (f : ScriptFault) → definitions_place text ≡ Some place
    → bytes ≡ composer_text text place → AreChecked bytes d → IsToldOf (own_fault (names_of d) text) f → Tells text f
defined_tells text bytes place d (told.At n k) at_ is reading own =
    faulty place d (n, k) at_ (subst (λ b. AreChecked b d) is reading) own
defined_tells text bytes place d told.NoMemory at_ is reading own = tt

-- one whose definitions have a fault
pub refused_tells : (text bytes : List ℕ) (place : ℕ) (r : Refusal) (f : ScriptFault)
    → definitions_place text ≡ Some place → bytes ≡ composer_text text place → IsRefused bytes r
    → IsTold (lower (own_fault [] text) (refusal_at place r)) f → Tells text f
refused_tells text bytes place r (told.At n k) at_ is why own =
    subst (λ a. IsRead text (Err a)) own (refused place r at_ (subst (λ b. IsRefused b r) is why))
refused_tells text bytes place r told.NoMemory at_ is why own = tt

-- the faults of lines that are no definitions
pub own_is : (text : List ℕ) (rows : List Row) (names all : List (List ℕ)) (o : Option At) → rows ≡ placed text
    → names ≡ all → o ≡ first_fault (named_by names) rows → own_fault all text ≡ o
own_is text rows names all o rows_ names_ is =
    ap (λ l. first_fault (named_by l) (placed text)) (sym names_)
    ∙ (ap (first_fault (named_by names)) (sym rows_) ∙ sym is)

pub refused_is : (text : List ℕ) (rows : List Row) (o : Option At) (n m : ℕ) (k j : ScriptKind) (f : ScriptFault)
    → rows ≡ placed text → o ≡ first_fault (named_by []) rows → n ≡ m → k ≡ j → IsTold (lower o (n, k)) f
    → IsTold (lower (own_fault [] text) (m, j)) f
refused_is text rows o n m k j f rows_ is line kind_ h =
    let own : o ≡ own_fault [] text = is ∙ ap (first_fault (named_by [])) rows_ in
    let same : lower o (n, k) ≡ lower (own_fault [] text) (m, j) = λ i. lower (own i) (line i, kind_ i) in
    subst (λ (a : At). IsTold a f) same h

-- the record that definitions give
pub defined_is : (d : Defs) (text : List ℕ) (s : Script) (net : Net) (steps : List ScriptStep) → s.net ≡ net → s.plans ≡ []
    → s.steps ≡ steps → net ≡ net_of d → steps ≡ steps_by (node_names net) (placed text)
    → record { script = s; workload = Some d } ≡ defined_record d text
defined_is d text s net steps a b c e f =
    λ i.
    record {
      script = record {
        net = (a ∙ e) i;
        plans = b i;
        steps = (c ∙ (f ∙ ap (λ n. steps_by (node_names n) (placed text)) e)) i;
      };
      workload = Some d;
    }

-- whose steps stay inside its network
pub inside_of : (net : Net) (names : List (List ℕ)) (rows : List Row) (o : Option At) (steps : List ScriptStep)
    → names ≡ node_names net → o ≡ first_fault (named_by names) rows → o ≡ None → steps ≡ steps_by names rows
    → list_all (is_inside net) steps ≡ true
inside_of net names rows o steps names_ is none steps_ =
    let many : node_count net ≡ length names = sym (ap length names_ ∙ length-map net.nodes (λ (n : Node). n.name)) in
    ap (list_all (is_inside net)) steps_ ∙ steps_inside names net rows many (sym is ∙ none)
