-- A text is read to one answer.
use Rattle.std.proofs.Common.{◌≡◌, ◌∙◌, ℕ, List, [], Option, Some, None, Result, Ok, Err, refl, ap, sym, subst}
use Rattle.composer_parser.specs.declared.Defs.{Defs}
use Rattle.definition_texts.proofs.Readings.{not_refused, one_checked, one_refusal}
use Rattle.definition_texts.specs.Refusals.{AreChecked, IsRefused}
use Rattle.definition_texts.specs.declared.Refusal.{Refusal}
use Rattle.record_script.specs.Scripts.{read_of}
use Rattle.night_records.specs.Composers.{composer_text, definitions_place}
use Rattle.night_records.specs.Readings.{At, IsRead, defined, defined_record, faulty, lower, names_of, own_fault, plain, refused}
use Rattle.night_records.specs.Readings.{refusal_at, without_definitions}
use Rattle.night_records.specs.declared.records.Record.{Record}

-- what stands for a text whose definitions are read to this
abbrev Over : List ℕ → ℕ → Result Defs Refusal → Result Record At → Type 0
Over text place (Err r) a = a ≡ Err (lower (own_fault [] text) (refusal_at place r))
Over text place (Ok d) (Ok r) = (own_fault (names_of d) text ≡ None) × (r ≡ defined_record d text)
Over text place (Ok d) (Err at_) = own_fault (names_of d) text ≡ Some at_

one_over : (text : List ℕ) (place : ℕ) (r : Result Defs Refusal) (a b : Result Record At) → Over text place r a
    → Over text place r b → a ≡ b
one_over text place (Err r) a b h k = h ∙ sym k
one_over text place (Ok d) (Ok x) (Ok y) h k = ap Ok (h.1 ∙ sym k.1)
one_over text place (Ok d) (Ok x) (Err y) h k = absurd (let both : None ≡ Some y = sym h.0 ∙ k in cc)
one_over text place (Ok d) (Err x) (Ok y) h k = absurd (let both : None ≡ Some x = sym k.0 ∙ h in cc)
one_over text place (Ok d) (Err x) (Err y) h k =
    let both : Some x ≡ Some y = sym h ∙ k in
    let same : x ≡ y = cc in ap Err same

-- what bytes are read to
abbrev Are : List ℕ → Result Defs Refusal → Type 0
Are bytes (Ok d) = AreChecked bytes d
Are bytes (Err r) = IsRefused bytes r

one_are : (bytes : List ℕ) (a b : Result Defs Refusal) → Are bytes a → Are bytes b → a ≡ b
one_are bytes (Ok d) (Ok e) h k = ap Ok (one_checked bytes d e h k)
one_are bytes (Ok d) (Err r) h k = absurd (not_refused bytes d r h k)
one_are bytes (Err r) (Ok d) h k = absurd (not_refused bytes d r k h)
one_are bytes (Err r) (Err s) h k = ap Err (one_refusal bytes r s h k)

record Place (text : List ℕ) (place : ℕ) (a : Result Record At) : Type 0 where
  reading : Result Defs Refusal
  is_read : Are (composer_text text place) reading
  over : Over text place reading a

same_place : (text : List ℕ) (p q : ℕ) → definitions_place text ≡ Some p → definitions_place text ≡ Some q → p ≡ q
same_place text p q e h = let both : Some p ≡ Some q = sym e ∙ h in cc

at_place : (text : List ℕ) (p : ℕ) (a : Result Record At) → definitions_place text ≡ Some p → IsRead text a → Place text p a
at_place text p _ e (plain none) = absurd (let both : None ≡ Some p = sym none ∙ e in cc)
at_place text p _ e (refused place r is h) =
    subst (λ q. Place text q (Err (lower (own_fault [] text) (refusal_at place r)))) (same_place text place p is e)
    (record { reading = Err r; is_read = h; over = refl })
at_place text p _ e (faulty place d at_ is h fault) =
    subst (λ q. Place text q (Err at_)) (same_place text place p is e)
    (record { reading = Ok d; is_read = h; over = fault })
at_place text p _ e (defined place d is h none) =
    subst (λ q. Place text q (Ok (defined_record d text))) (same_place text place p is e)
    (record { reading = Ok d; is_read = h; over = (none, refl) })

without : (text : List ℕ) (a : Result Record At) → definitions_place text ≡ None → IsRead text a
    → a ≡ without_definitions (read_of text)
without text _ e (plain none) = refl
without text _ e (refused place r is h) = absurd (let both : None ≡ Some place = sym e ∙ is in cc)
without text _ e (faulty place d at_ is h fault) = absurd (let both : None ≡ Some place = sym e ∙ is in cc)
without text _ e (defined place d is h none) = absurd (let both : None ≡ Some place = sym e ∙ is in cc)

pub one_answer : (text : List ℕ) (a b : Result Record At) → IsRead text a → IsRead text b → a ≡ b
one_answer text a b h k = go (definitions_place text) refl
  where
    go : (o : Option ℕ) → definitions_place text ≡ o → a ≡ b
    go None e = without text a e h ∙ sym (without text b e k)
    go (Some p) e =
        let left = at_place text p a e h in
        let right = at_place text p b e k in
        let same = one_are (composer_text text p) right.reading left.reading right.is_read left.is_read in
        one_over text p left.reading a b left.over (subst (λ r. Over text p r b) same right.over)
