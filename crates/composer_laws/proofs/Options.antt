-- Options that are read back.
use Rattle.std.proofs.Common.{◌≡◌, ℕ, true, false, List, [], ◌∷◌, ◌++◌, codes, arith, Option, Some, None, refl, ap, sym, ◌∙◌, append_assoc, append-nil}
use Rattle.std.proofs.lemmas.Grind.{common_steps}
use Rattle.base_types.specs.declared.network.Carry.{Carry}
use Rattle.base_types.specs.declared.network.Carry.TheVariants.{Yes, No, All}
use Rattle.composer_parser.specs.Composer as grammar
use Rattle.composer_print.specs.Texts.{item_of}
use Rattle.syntax.specs.Quotes.{quoted_text}
use Rattle.composer_print.specs.Days.{time_text}
use Rattle.composer_print.specs.Stations.{carry_word, start_texts, zone_texts, carry_texts, options_of, options_text}
use Rattle.composer_laws.specs.Written.{IsText, IsTime, WhenGiven}
use Rattle.composer_laws.proofs.Readings.{Reads, made_reads, app, left_reads, right_reads, ended, as_text}
use Rattle.composer_laws.proofs.Words.{key_reads, key_begins, time_reads, text_reads}

-- each option, at the beginning of the line and behind another one
start_begins : (t : ℕ) → IsTime t
    → Reads true false grammar.start_of_day (codes "STARTOFDAY" ++ (32 ∷ time_text t)) (λ x. item_of x ≡ Some t)
unfolding grammar.start_of_day
start_begins t h =
    left_reads (app (app (made_reads true (λ x a v e. ap Some e)) (key_begins (codes "STARTOFDAY") refl refl)) (time_reads t h))

zone_begins : (z : List ℕ) → IsText z
    → Reads true false grammar.time_zone (codes "TIMEZONE" ++ (32 ∷ quoted_text z)) (λ x. item_of x ≡ Some z)
unfolding grammar.time_zone
zone_begins z h =
    left_reads (app (app (made_reads true (λ x a v e. ap Some e)) (key_begins (codes "TIMEZONE") refl refl)) (text_reads z h))

abbrev zone_part : Option (List ℕ) → List ℕ
zone_part None = []
zone_part (Some z) = (32 ∷ codes "TIMEZONE") ++ (32 ∷ quoted_text z)

zone_reads : (z : Option (List ℕ)) → WhenGiven IsText z
    → Reads false false grammar.time_zone (zone_part z) (λ y. item_of y ≡ z)
unfolding grammar.time_zone
zone_reads None h = right_reads (made_reads false refl)
zone_reads (Some z) h =
    left_reads (app (app (made_reads false (λ y a v f. ap Some f)) (key_reads (codes "TIMEZONE") refl)) (text_reads z h))

word_reads : (c : Carry) → Reads false false grammar.carry_word (32 ∷ carry_word c) (λ x. x ≡ c)
unfolding grammar.carry_word
word_reads Yes = left_reads (app (made_reads false (λ x a. refl)) (key_reads (codes "YES") refl))
word_reads No = right_reads (left_reads (app (made_reads false (λ x a. refl)) (key_reads (codes "NO") refl)))
word_reads All = right_reads (right_reads (app (made_reads false (λ x a. refl)) (key_reads (codes "ALL") refl)))

carry_begins : (c : Carry)
    → Reads true false grammar.carry_forward (codes "ENCARRYFORWARD" ++ (32 ∷ carry_word c)) (λ x. item_of x ≡ Some c)
unfolding grammar.carry_forward
carry_begins c =
    left_reads (app (app (made_reads true (λ x a v e. ap Some e)) (key_begins (codes "ENCARRYFORWARD") refl refl)) (word_reads c))

abbrev carry_part : Option Carry → List ℕ
carry_part None = []
carry_part (Some c) = (32 ∷ codes "ENCARRYFORWARD") ++ (32 ∷ carry_word c)

carry_reads : (c : Option Carry) → Reads false false grammar.carry_forward (carry_part c) (λ x. item_of x ≡ c)
unfolding grammar.carry_forward
carry_reads None = right_reads (made_reads false refl)
carry_reads (Some c) =
    left_reads (app (app (made_reads false (λ x a v e. ap Some e)) (key_reads (codes "ENCARRYFORWARD") refl)) (word_reads c))

no_start : Reads true true grammar.start_of_day [] (λ x. item_of x ≡ None)
unfolding grammar.start_of_day
no_start = right_reads (made_reads true refl)

no_zone : Reads true true grammar.time_zone [] (λ x. item_of x ≡ None)
unfolding grammar.time_zone
no_zone = right_reads (made_reads true refl)

-- all of them
start_bytes : (t : ℕ) (z : Option (List ℕ)) (c : Option Carry)
    → codes "$OPTIONS" ++ 10 ∷ [] ++ (codes "STARTOFDAY" ++ (32 ∷ time_text t)) ++ zone_part z ++ carry_part c ++ 10 ∷ []
    ≡ options_text (Some t) z c
unfolding options_text start_texts zone_texts carry_texts options_of
start_bytes t None None = grind (arith, common_steps)
start_bytes t None (Some c) = grind (arith, common_steps)
start_bytes t (Some z) None = grind (arith, common_steps)
start_bytes t (Some z) (Some c) =
    let zone = (32 ∷ codes "TIMEZONE") ++ (32 ∷ quoted_text z) in
    let carry = (32 ∷ codes "ENCARRYFORWARD") ++ (32 ∷ carry_word c) in
    let all : time_text t ++ zone ++ carry ≡ time_text t ++ (zone ++ (carry ++ [])) =
    append_assoc (time_text t) zone carry ∙ ap (λ xs. time_text t ++ (zone ++ xs)) (sym (append-nil carry)) in
    ap (λ xs. codes "$OPTIONS\nSTARTOFDAY " ++ (xs ++ 10 ∷ [])) all

zone_bytes : (z : List ℕ) (c : Option Carry)
    → codes "$OPTIONS" ++ 10 ∷ [] ++ [] ++ (codes "TIMEZONE" ++ (32 ∷ quoted_text z)) ++ carry_part c ++ 10 ∷ []
    ≡ options_text None (Some z) c
unfolding options_text start_texts zone_texts carry_texts options_of
zone_bytes z None = grind (arith, common_steps)
zone_bytes z (Some c) = grind (arith, common_steps)

carry_bytes : (c : Carry)
    → codes "$OPTIONS" ++ 10 ∷ [] ++ [] ++ [] ++ (codes "ENCARRYFORWARD" ++ (32 ∷ carry_word c)) ++ 10 ∷ []
    ≡ options_text None None (Some c)
unfolding options_text start_texts zone_texts carry_texts options_of
carry_bytes c = grind (arith, common_steps)

no_bytes : [] ≡ options_text None None None
unfolding options_text start_texts zone_texts carry_texts options_of
no_bytes = refl

with_start : (t : ℕ) (z : Option (List ℕ)) (c : Option Carry) → IsTime t → WhenGiven IsText z
    → Reads true true grammar.options
    (codes "$OPTIONS" ++ 10 ∷ [] ++ (codes "STARTOFDAY" ++ (32 ∷ time_text t)) ++ zone_part z ++ carry_part c ++ 10 ∷ [])
    (λ o. (item_of o.start ≡ Some t) × (item_of o.zone ≡ z) × (item_of o.carry ≡ c))
unfolding grammar.options
with_start t z c h k =
    left_reads
    (ended
    (app
    (app
    (app
    (ended (app (made_reads true (λ x a s b y d w e. (b, d, e))) (key_begins (codes "$OPTIONS") refl refl)))
    (start_begins t h))
    (zone_reads z k))
    (carry_reads c)))

with_zone : (z : List ℕ) (c : Option Carry) → IsText z
    → Reads true true grammar.options
    (codes "$OPTIONS" ++ 10 ∷ [] ++ [] ++ (codes "TIMEZONE" ++ (32 ∷ quoted_text z)) ++ carry_part c ++ 10 ∷ [])
    (λ o. (item_of o.start ≡ None) × (item_of o.zone ≡ Some z) × (item_of o.carry ≡ c))
unfolding grammar.options
with_zone z c k =
    left_reads
    (ended
    (app
    (app
    (app
    (ended (app (made_reads true (λ x a s b y d w e. (b, d, e))) (key_begins (codes "$OPTIONS") refl refl)))
    no_start)
    (zone_begins z k))
    (carry_reads c)))

with_carry : (c : Carry)
    → Reads true true grammar.options
    (codes "$OPTIONS" ++ 10 ∷ [] ++ [] ++ [] ++ (codes "ENCARRYFORWARD" ++ (32 ∷ carry_word c)) ++ 10 ∷ [])
    (λ o. (item_of o.start ≡ None) × (item_of o.zone ≡ None) × (item_of o.carry ≡ Some c))
unfolding grammar.options
with_carry c =
    left_reads
    (ended
    (app
    (app
    (app
    (ended (app (made_reads true (λ x a s b y d w e. (b, d, e))) (key_begins (codes "$OPTIONS") refl refl)))
    no_start)
    no_zone)
    (carry_begins c)))

with_none : Reads true true grammar.options [] (λ o. (item_of o.start ≡ None) × (item_of o.zone ≡ None) × (item_of o.carry ≡ None))
unfolding grammar.options
with_none = right_reads (made_reads true (refl, refl, refl))

pub options_reads : (s : Option ℕ) (z : Option (List ℕ)) (c : Option Carry) → WhenGiven IsTime s → WhenGiven IsText z
    → Reads true true grammar.options (options_text s z c)
    (λ o. (item_of o.start ≡ s) × (item_of o.zone ≡ z) × (item_of o.carry ≡ c))
options_reads (Some t) z c h k = as_text (with_start t z c h k) (start_bytes t z c)
options_reads None (Some z) c h k = as_text (with_zone z c k) (zone_bytes z c)
options_reads None None (Some c) h k = as_text (with_carry c) (carry_bytes c)
options_reads None None None h k = as_text with_none no_bytes
