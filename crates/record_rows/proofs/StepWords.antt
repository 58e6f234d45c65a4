-- The words of steps stand in the table of steps alone.
use Rattle.std.proofs.Common.{◌≡◌, ℕ, Bool, true, false, cond, ◌||◌, List, Option, Some, option_map, ap, sym, ◌∙◌, refl}
use Rattle.std.specs.Prelude.{codes}
use Rattle.std.specs.Str.{bytes_eq}
use Rattle.std.proofs.lemmas.Slice.Eq.{bytes_eq-Decides}
use Rattle.syntax.specs.Splits.{first_word, after_word, words_of}
use Rattle.record_rows.specs.Plans.{part_of, dep_of}
use Rattle.record_rows.specs.Rows.{◌else_◌, network_row, plan_row, form_below}
use Rattle.record_rows.specs.Steps.{is_own_word, is_frequent, own_step, pair_of, packet_of, reap_of, step_of, step_of_word}
use Rattle.record_rows.specs.declared.rows.Row.{Row}
use Rattle.record_rows.specs.declared.rows.Row.TheVariants as row
use Rattle.record_rows.specs.declared.rows.StepRow.TheVariants as step

by_word : {A : Type 0} (f g : List ℕ → A) (word k : List ℕ) → f k ≡ g k → bytes_eq word k ≡ true → f word ≡ g word
by_word f g word k e h = let same = (bytes_eq-Decides word k).0 h in rw same e

-- what holds where either test does
by_either : {A : Type 0} (a b : Bool) → (a ≡ true → A) → (b ≡ true → A) → (a || b) ≡ true → A
by_either true b f g h = f refl
by_either false b f g h = g h

-- what is left of four tests
left_over : (a b c d : Bool) → a ≡ false → b ≡ false → c ≡ false → (a || b || c || d) ≡ true → d ≡ true
left_over false false false d x y z h = h
left_over true b c d x y z h = cc
left_over false true c d x y z h = cc
left_over false false true d x y z h = cc

-- what holds of each word of a workstation's own steps
by_own : {A : Type 0} (f g : List ℕ → A) (word : List ℕ) → f (codes "turn") ≡ g (codes "turn")
    → f (codes "type") ≡ g (codes "type") → f (codes "ended") ≡ g (codes "ended")
    → f (codes "started") ≡ g (codes "started") → f (codes "failed") ≡ g (codes "failed")
    → is_own_word word ≡ true → f word ≡ g word
by_own f g word a b c d e =
    let turn : Bool = bytes_eq word (codes "turn") in
    let type_ : Bool = bytes_eq word (codes "type") in
    let ended : Bool = bytes_eq word (codes "ended") in
    let started : Bool = bytes_eq word (codes "started") in
    let failed : Bool = bytes_eq word (codes "failed") in
    by_either (turn || type_ || ended || started) failed
    (by_either (turn || type_ || ended) started
    (by_either (turn || type_) ended
    (by_either turn type_ (by_word f g word (codes "turn") a) (by_word f g word (codes "type") b))
    (by_word f g word (codes "ended") c))
    (by_word f g word (codes "started") d))
    (by_word f g word (codes "failed") e)

pub flow_first : (word rest : List ℕ) → bytes_eq word (codes "flow") ≡ true
    → step_of_word word rest ≡ option_map (λ p. step.Flow p.0 p.1) (pair_of rest)
unfolding step_of_word
flow_first word rest h =
    by_word (λ w. step_of_word w rest) (λ w. option_map (λ p. step.Flow p.0 p.1) (pair_of rest)) word (codes "flow")
    refl h

pub reap_first : (word rest : List ℕ) → bytes_eq word (codes "reap") ≡ true → step_of_word word rest ≡ reap_of rest
unfolding step_of_word
reap_first word rest h = by_word (λ w. step_of_word w rest) (λ w. reap_of rest) word (codes "reap") refl h

pub deliver_first : (word rest : List ℕ) → bytes_eq word (codes "deliver") ≡ true
    → step_of_word word rest ≡ option_map (λ p. step.Deliver p.0 p.1 p.2) (packet_of (words_of rest))
unfolding step_of_word
deliver_first word rest h =
    by_word (λ w. step_of_word w rest) (λ w. option_map (λ p. step.Deliver p.0 p.1 p.2) (packet_of (words_of rest))) word
    (codes "deliver") refl h

-- the last of the frequent steps
pub own_first : (word rest : List ℕ) → is_frequent word ≡ true → bytes_eq word (codes "flow") ≡ false
    → bytes_eq word (codes "reap") ≡ false → bytes_eq word (codes "deliver") ≡ false
    → step_of_word word rest ≡ own_step word rest
unfolding step_of_word
own_first word rest h a b c =
    by_own (λ w. step_of_word w rest) (λ w. own_step w rest) word refl refl refl refl refl
    (left_over (bytes_eq word (codes "flow")) (bytes_eq word (codes "reap")) (bytes_eq word (codes "deliver"))
    (is_own_word word) a b c h)

-- the tables above that of the steps, and what is found where none of them has the word
abbrev above : List ℕ → Option Row → List ℕ → Option Row
above rest found word =
    network_row word rest else_ plan_row word rest else_ option_map row.Part (part_of word rest)
    else_ option_map row.Dep (dep_of word rest) else_ found

none_above : (word rest : List ℕ) (found : Option Row) → is_frequent word ≡ true → above rest found word ≡ found
unfolding network_row plan_row part_of dep_of
none_above word rest found =
    let f = above rest found in
    let g = λ (w : List ℕ). found in
    let flow : Bool = bytes_eq word (codes "flow") in
    let reap : Bool = bytes_eq word (codes "reap") in
    let deliver : Bool = bytes_eq word (codes "deliver") in
    by_either (flow || reap || deliver) (is_own_word word)
    (by_either (flow || reap) deliver
    (by_either flow reap (by_word f g word (codes "flow") refl) (by_word f g word (codes "reap") refl))
    (by_word f g word (codes "deliver") refl))
    (by_own f g word refl refl refl refl refl)

-- `next` alone does not begin with one of these words
step_is : (text : List ℕ) (b : Bool) → bytes_eq text (codes "next") ≡ b → is_frequent (first_word text) ≡ true
    → step_of text ≡ step_of_word (first_word text) (after_word text)
unfolding step_of
step_is text true e h =
    let same = (bytes_eq-Decides text (codes "next")).0 e in
    let none : false ≡ true = ap (λ (t : List ℕ). is_frequent (first_word t)) (sym same) ∙ h in
    cc
step_is text false e h =
    ap (λ b. cond b (Some step.Next) (step_of_word (first_word text) (after_word text))) e

-- a line that begins with one of these words is that step, or has no form
pub frequent_form : (text : List ℕ) → is_frequent (first_word text) ≡ true
    → form_below text ≡ option_map row.Step (step_of_word (first_word text) (after_word text))
unfolding form_below
frequent_form text h =
    none_above (first_word text) (after_word text) (option_map row.Step (step_of text)) h
    ∙ ap (option_map row.Step) (step_is text (bytes_eq text (codes "next")) refl h)
