-- Run cycles that are read back.
use Rattle.std.proofs.Common.{◌≡◌, ◌<◌, ℕ, zero, suc, Bool, true, false, List, [], ◌∷◌, ◌++◌, map, codes, arith, Option, Some, None, refl, ap, append-nil}
use Rattle.composer_parser.specs.declared.schedules.OnItem.{OnItem}
use Rattle.composer_parser.specs.declared.schedules.OnItem.TheVariants.{Weekday, EveryDay, Weekdays, Workdays, FreeDays, Request, Date, Rule, Calendar}
use Rattle.composer_parser.specs.declared.schedules.OnDef.{OnDef}
use Rattle.composer_parser.specs.declared.schedules.Shift.{Shift}
use Rattle.composer_parser.specs.declared.schedules.Shift.TheVariants.{Ignore, Next, Prev}
use Rattle.composer_parser.specs.declared.schedules.Offset.{Offset}
use Rattle.composer_parser.specs.declared.schedules.OffsetUnit.{OffsetUnit}
use Rattle.composer_parser.specs.declared.schedules.OffsetUnit.TheVariants as unit
use Rattle.composer_parser.specs.declared.schedules.CycleDef.{CycleDef}
use Rattle.composer_parser.specs.Kinds.{a_rule, quoted}
use Rattle.composer_parser.specs.Schedules as grammar
use Rattle.calendars.specs.Dates.{IsDay}
use Rattle.composer_print.specs.Streams.{weekday_text, unit_text, offset_text, item_text, from_text, to_text, cycle_text, shift_text, on_word, on_text}
use Rattle.composer_laws.specs.Written.{IsName, IsNumber, WhenGiven, IsList, IsItem, IsCycle, IsOffset, IsOn}
use Rattle.composer_laws.proofs.Phrases.{led_text}
use Rattle.composer_laws.proofs.Readings.{Reads, one_reads, made_reads, app, skip, left_reads, right_reads, as_text}
use Rattle.composer_laws.proofs.Words.{Any, key_reads, name_reads, date_reads, ahead_reads, back_reads}
use Rattle.composer_laws.proofs.Stations.{no_description}
use Rattle.composer_laws.proofs.Lists.{comma_reads, commas_reads, behind_blank}

day_reads : (n : ℕ) → n < 7 → Reads false false grammar.weekday (32 ∷ weekday_text n) (λ x. x ≡ Weekday n)
unfolding grammar.weekday weekday_text
day_reads zero h = left_reads (app (made_reads false (λ x a. refl)) (key_reads (codes "MO") refl))
day_reads (suc zero) h = right_reads (left_reads (app (made_reads false (λ x a. refl)) (key_reads (codes "TU") refl)))
day_reads (suc (suc zero)) h =
    right_reads (right_reads (left_reads (app (made_reads false (λ x a. refl)) (key_reads (codes "WE") refl))))
day_reads (suc (suc (suc zero))) h =
    right_reads (right_reads (right_reads (left_reads (app (made_reads false (λ x a. refl)) (key_reads (codes "TH") refl)))))
day_reads (suc (suc (suc (suc zero)))) h =
    right_reads (right_reads (right_reads (right_reads (left_reads (app (made_reads false (λ x a. refl)) (key_reads (codes "FR") refl))))))
day_reads (suc (suc (suc (suc (suc zero))))) h =
    right_reads (right_reads (right_reads (right_reads (right_reads (left_reads (app (made_reads false (λ x a. refl)) (key_reads (codes "SA") refl)))))))
day_reads (suc (suc (suc (suc (suc (suc zero)))))) h =
    right_reads (right_reads (right_reads (right_reads (right_reads (right_reads (app (made_reads false (λ x a. refl)) (key_reads (codes "SU") refl)))))))
day_reads (suc (suc (suc (suc (suc (suc (suc n))))))) h = absurd (omega (arith, h))

unit_reads : (u : OffsetUnit) → Reads false false grammar.offset_unit (unit_text u) (λ x. x ≡ u)
unfolding grammar.offset_unit
unit_reads unit.Days = left_reads (app (made_reads false (λ x a. refl)) (key_reads (codes "DAYS") refl))
unit_reads unit.Weekdays = right_reads (left_reads (app (made_reads false (λ x a. refl)) (key_reads (codes "WEEKDAYS") refl)))
unit_reads unit.Workdays = right_reads (right_reads (app (made_reads false (λ x a. refl)) (key_reads (codes "WORKDAYS") refl)))

offset_by : (b : Bool) (n : ℕ) (u : OffsetUnit) → IsNumber n
    → Reads false false grammar.offset (offset_text (Some (record { plus = b; n = n; unit = u })))
    (λ x. x ≡ Some (record { plus = b; n = n; unit = u }))
unfolding grammar.offset offset_text
offset_by true n u h =
    left_reads
    (app (app (made_reads false (λ s e v f i. Some (record { plus = e.0 i; n = e.1 i; unit = f i }))) (ahead_reads n h)) (unit_reads u))
offset_by false n u h =
    left_reads
    (app (app (made_reads false (λ s e v f i. Some (record { plus = e.0 i; n = e.1 i; unit = f i }))) (back_reads n h)) (unit_reads u))

no_offset : Reads false false grammar.offset [] (λ x. x ≡ None)
unfolding grammar.offset
no_offset = right_reads (made_reads false refl)

offset_reads : (o : Option Offset) → WhenGiven IsOffset o → Reads false false grammar.offset (offset_text o) (λ x. x ≡ o)
unfolding offset_text
offset_reads None h = no_offset
offset_reads (Some o) h = offset_by o.plus o.n o.unit h

calendar_reads : (n : List ℕ) (o : Option Offset) → IsName n → WhenGiven IsOffset o
    → Reads false false grammar.calendar_item ((32 ∷ n) ++ offset_text o) (λ x. x ≡ Calendar n o)
unfolding grammar.calendar_item
calendar_reads n o h k =
    app (app (made_reads false (λ m e p f i. Calendar (e i) (f i))) (name_reads n h)) (offset_reads o k)

item_reads : (x : OnItem) → IsItem x → Reads false false grammar.item (32 ∷ item_text x) (λ v. v ≡ x)
unfolding grammar.item grammar.days grammar.rule item_text
item_reads (Weekday n) h = left_reads (day_reads n h)
item_reads EveryDay h =
    right_reads (left_reads (left_reads (app (made_reads false (λ x a. refl)) (key_reads (codes "EVERYDAY") refl))))
item_reads Weekdays h =
    right_reads (left_reads (right_reads (left_reads (app (made_reads false (λ x a. refl)) (key_reads (codes "WEEKDAYS") refl)))))
item_reads Workdays h =
    right_reads (left_reads (right_reads (right_reads (left_reads (app (made_reads false (λ x a. refl)) (key_reads (codes "WORKDAYS") refl))))))
item_reads FreeDays h =
    right_reads (left_reads (right_reads (right_reads (right_reads (left_reads (app (made_reads false (λ x a. refl)) (key_reads (codes "FREEDAYS") refl)))))))
item_reads Request h =
    right_reads (left_reads (right_reads (right_reads (right_reads (right_reads (app (made_reads false (λ x a. refl)) (key_reads (codes "REQUEST") refl)))))))
item_reads (Date day) h = right_reads (right_reads (left_reads (app (made_reads false (λ x e. ap Date e)) (date_reads day h))))
item_reads (Calendar n o) h = right_reads (right_reads (right_reads (left_reads (calendar_reads n o h.0 h.1))))
item_reads (Rule v) h =
    right_reads (right_reads (right_reads (right_reads (left_reads (one_reads a_rule _ (quoted v) (led_text v h.0) h.1 (λ line. refl))))))

next_item_reads : (x : OnItem) → IsItem x → Reads false false grammar.next_item (44 ∷ 32 ∷ item_text x) (λ v. v ≡ x)
unfolding grammar.next_item
next_item_reads x h = app (app (made_reads false (λ u a v e. e)) comma_reads) (item_reads x h)

items_reads : (xs : List OnItem) → IsList IsItem xs
    → Reads false false grammar.items (behind_blank (codes " ") (map item_text xs)) (λ v. v ≡ xs)
unfolding grammar.items grammar.next_item
items_reads xs h = commas_reads (codes " ") item_text _ _ IsItem item_reads next_item_reads refl xs h

from_reads : (d : Option ℕ) → WhenGiven IsDay d → Reads false false grammar.valid_from (from_text d) (λ x. x ≡ d)
unfolding grammar.valid_from from_text
from_reads None h = right_reads (made_reads false refl)
from_reads (Some day) h =
    left_reads (app (app (made_reads false (λ x a v e. ap Some e)) (key_reads (codes "VALIDFROM") refl)) (date_reads day h))

to_reads : (d : Option ℕ) → WhenGiven IsDay d → Reads false false grammar.valid_to (to_text d) (λ x. x ≡ d)
unfolding grammar.valid_to to_text
to_reads None h = right_reads (made_reads false refl)
to_reads (Some day) h =
    left_reads (app (app (made_reads false (λ x a v e. ap Some e)) (key_reads (codes "VALIDTO") refl)) (date_reads day h))

cycle_bytes : (c : CycleDef)
    → (32 ∷ codes "RUNCYCLE") ++ (32 ∷ c.name) ++ from_text c.first ++ to_text c.last ++ [] ≡ cycle_text (Some c)
unfolding cycle_text
cycle_bytes c = append-nil _

some_cycle : (c : CycleDef) → IsCycle c
    → Reads false false grammar.cycle ((32 ∷ codes "RUNCYCLE") ++ (32 ∷ c.name) ++ from_text c.first ++ to_text c.last ++ []) (λ x. x ≡ Some c)
unfolding grammar.cycle
some_cycle c h =
    left_reads
    (skip
    (app
    (app
    (app (app (made_reads false (λ x a n b f d l e i. Some (record { name = b i; first = d i; last = e i }))) (key_reads (codes "RUNCYCLE") refl))
    (name_reads c.name h.name))
    (from_reads c.first h.first))
    (to_reads c.last h.last))
    no_description)

no_cycle : Reads false false grammar.cycle [] (λ x. x ≡ None)
unfolding grammar.cycle
no_cycle = right_reads (made_reads false refl)

cycle_reads : (c : Option CycleDef) → WhenGiven IsCycle c → Reads false false grammar.cycle (cycle_text c) (λ x. x ≡ c)
unfolding cycle_text
cycle_reads None h = no_cycle
cycle_reads (Some c) h = as_text (some_cycle c h) (cycle_bytes c)

shift_reads : (s : Option Shift) → Reads false false grammar.shift (shift_text s) (λ x. x ≡ s)
unfolding grammar.shift shift_text
shift_reads (Some Ignore) = left_reads (app (made_reads false (λ x a. refl)) (key_reads (codes "FDIGNORE") refl))
shift_reads (Some Next) = right_reads (left_reads (app (made_reads false (λ x a. refl)) (key_reads (codes "FDNEXT") refl)))
shift_reads (Some Prev) = right_reads (right_reads (left_reads (app (made_reads false (λ x a. refl)) (key_reads (codes "FDPREV") refl))))
shift_reads None = right_reads (right_reads (right_reads (made_reads false refl)))

no_times_reads : Reads false false grammar.no_times [] Any
unfolding grammar.no_times
no_times_reads = right_reads (made_reads false tt)

word_reads : (b : Bool) → Reads false false grammar.on_key (on_word b) (λ k. k.0 ≡ b)
unfolding grammar.on_key
word_reads false = left_reads (app (made_reads false (λ x a. refl)) (key_reads (codes "ON") refl))
word_reads true = right_reads (app (made_reads false (λ x a. refl)) (key_reads (codes "EXCEPT") refl))

on_by : (b : Bool) (c : Option CycleDef) (xs : List OnItem) (s : Option Shift) → WhenGiven IsCycle c → IsList IsItem xs
    → Reads false false grammar.on (on_word b ++ cycle_text c ++ behind_blank (codes " ") (map item_text xs) ++ shift_text s ++ [])
    (λ x. x.item ≡ record { except = b; cycle = c; items = xs; shift = s })
unfolding grammar.on
on_by b c xs s h k =
    skip
    (app
    (app
    (app (app (made_reads false (λ w a x d v e y f i. record { except = a i; cycle = d i; items = e i; shift = f i })) (word_reads b))
    (cycle_reads c h))
    (items_reads xs k))
    (shift_reads s))
    no_times_reads

on_bytes : (b : Bool) (c : Option CycleDef) (x : OnItem) (xs : List OnItem) (s : Option Shift)
    → on_word b ++ cycle_text c ++ behind_blank (codes " ") (map item_text (x ∷ xs)) ++ shift_text s ++ []
    ≡ on_text (record { except = b; cycle = c; items = x ∷ xs; shift = s })
unfolding on_text
on_bytes b c x xs s = append-nil _

on_from : (b : Bool) (c : Option CycleDef) (xs : List OnItem) (s : Option Shift) → WhenGiven IsCycle c → IsList IsItem xs
    → Reads false false grammar.on (on_text (record { except = b; cycle = c; items = xs; shift = s }))
    (λ x. x.item ≡ record { except = b; cycle = c; items = xs; shift = s })
on_from b c [] s h k = absurd k
on_from b c (x ∷ xs) s h k = as_text (on_by b c (x ∷ xs) s h k) (on_bytes b c x xs s)

pub on_reads : (o : OnDef) → IsOn o → Reads false false grammar.on (on_text o) (λ x. x.item ≡ o)
on_reads o h = on_from o.except o.cycle o.items o.shift h.cycle h.items
