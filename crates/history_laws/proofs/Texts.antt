-- The text of a history is UTF-8.
use Rattle.std.proofs.Common.{◌≡◌, ◌<◌, ◌≤◌, ◌+◌, ◌/◌, ◌%◌, ◌^◌, ℕ, zero, suc, Bool, true, false, ◌&&◌, ltb, leb, List}
use Rattle.std.proofs.Common.{[]}
use Rattle.std.proofs.Common.{◌∷◌, ◌++◌, length, get_or, flat_map, codes, Option, Some, None, slice_get, is_none, IsUtf8}
use Rattle.std.proofs.Common.{refl, arith, decimal, if◌then◌else◌}
use Rattle.std.specs.List.{AllByRecursion, list_all}
use Rattle.std.specs.Option.{option_map_or}
use Rattle.std.specs.Str.{is_utf8}
use Rattle.std.proofs.lemmas.Bool.{and_from, and_parts, lt-ltb, ltb-true}
use Rattle.std.proofs.lemmas.Bool.Decides.{nat_tests}
use Rattle.std.proofs.lemmas.Fmt.{IsAscii-decimal}
use Rattle.std.proofs.lemmas.Str.{IsUtf8-append, IsUtf8-from_ascii, IsUtf8-from_is_utf8}
use Rattle.std.proofs.lemmas.Str.{IsUtf8-nil}
use Rattle.syntax.proofs.Escapes.{escaped_utf8}
use Rattle.lemmas.proofs.Lists.{all_get}
use Rattle.base_types.specs.Name.{is_name_byte, starts_with_letter}
use Rattle.base_types.specs.declared.Carry.TheVariants as carry
use Rattle.model.specs.Fit.{IsFit}
use Rattle.model.specs.Ranges.{InRange}
use Rattle.model.specs.Spelling.{entry_bytes}
use Rattle.model.specs.Types.{Carry, Entry, Net, Node, PromptDef, Resource, Start}
use Rattle.plan_listing.specs.Networks.{carry_line, hop_gap, hop_name, mark, network_text, node_line, prompt_line, resource_line}
use Rattle.report_text.specs.Names.{name_of}
use Rattle.syntax.specs.Quotes.{escaped, quoted_text}
use Rattle.history_script.specs.Digits.{digit, digits_of, is_byte}
use Rattle.history_script.specs.Printed.{IsStartInRange, entry_line, head_text, history_text, start_line}
use Rattle.history_laws.specs.Printables.{IsKeptName, IsNamedNode, IsNamedPrompt, IsNamedResource, IsPrintable}
use Rattle.history_laws.proofs.Accepted.{IsGood}
use Rattle.history_laws.proofs.Words.{kept_form}
use Rattle.history_laws.proofs.Bytes.{AreBytes, entry_small}

-- Bytes that are characters.

is_low : ℕ → Bool
is_low b = ltb b 128

low_at : (w : List ℕ) → list_all is_low w ≡ true → (i : ℕ) → get_or w i 0 < 128
unfolding is_low
low_at [] h i = omega arith
low_at (b ∷ w) h zero = ltb-true b 128 (and_parts (is_low b) (list_all is_low w) h).0
low_at (b ∷ w) h (suc i) = low_at w (and_parts (is_low b) (list_all is_low w) h).1 i

low_utf8 : (w : List ℕ) → list_all is_low w ≡ true → IsUtf8 w
low_utf8 w h = IsUtf8-from_ascii w (low_at w h)

pub word_utf8 : (w : List ℕ) → list_all (λ b. ltb b 128) w ≡ true → IsUtf8 w
unfolding is_low
word_utf8 w h = low_utf8 w h

follow : (p : ℕ → Bool) → ((b : ℕ) → p b ≡ true → is_low b ≡ true) → (w : List ℕ) → list_all p w ≡ true
    → list_all is_low w ≡ true
follow p each [] h = refl
follow p each (b ∷ w) h =
    let parts = and_parts (p b) (list_all p w) h in
    and_from (is_low b) (list_all is_low w) (each b parts.0) (follow p each w parts.1)

name_low : (b : ℕ) → is_name_byte b ≡ true → is_low b ≡ true
unfolding is_low
name_low b h = grind (arith, nat_tests)

pub name_utf8 : (n : List ℕ) → IsKeptName n → IsUtf8 n
name_utf8 n h =
    low_utf8 n
    (follow is_name_byte name_low n
    (and_parts (starts_with_letter n && leb (length n) 40) (list_all is_name_byte n) (kept_form n h)).1)

pub number_utf8 : (n : ℕ) → n < 2 ^ 64 → IsUtf8 (decimal n)
number_utf8 n h = IsUtf8-from_ascii (decimal n) (IsAscii-decimal n h)

digit_low : (n : ℕ) → n < 16 → is_low (digit n) ≡ true
unfolding is_low
digit_low n h = go (ltb n 10)
  where
    go : (b : Bool) → ltb (if b then 48 + n else (87 + n)) 128 ≡ true
    go true = lt-ltb (48 + n) 128 (omega (arith, h))
    go false = lt-ltb (87 + n) 128 (omega (arith, h))

digits_low : (bytes : List ℕ) → AreBytes bytes → list_all is_low (digits_of bytes) ≡ true
unfolding digits_of
digits_low [] all = refl
digits_low (b ∷ bytes) all =
    let parts = and_parts (ltb b 256) (list_all is_byte bytes) all in
    let small = ltb-true b 256 parts.0 in
    let high = digit_low (b / 16) (omega (arith, small)) in
    let low = digit_low (b % 16) (omega arith) in
    let rest = digits_low bytes parts.1 in
    rw (high, low, rest) refl

-- Texts in quotes.

quoted_utf8 : (v : List ℕ) → is_utf8 v ≡ true → IsUtf8 (quoted_text v)
unfolding quoted_text
quoted_utf8 v h =
    IsUtf8-append (34 ∷ flat_map escaped v) (34 ∷ [])
    (IsUtf8-append (34 ∷ []) (flat_map escaped v) (word_utf8 (34 ∷ []) refl) (escaped_utf8 [] v (IsUtf8-from_is_utf8 v h)))
    (word_utf8 (34 ∷ []) refl)

-- Lines.

pub each_utf8 : {A : Type 0} (P : A → Type 0) (f : A → List ℕ) → ((x : A) → P x → IsUtf8 (f x)) → (xs : List A)
    → AllByRecursion P xs → IsUtf8 (flat_map f xs)
each_utf8 P f each [] all = IsUtf8-nil
each_utf8 P f each (x ∷ xs) all =
    IsUtf8-append (f x) (flat_map f xs) (each x all.0) (each_utf8 P f each xs all.1)

-- a text with a word behind it
ended_by : (text word : List ℕ) → IsUtf8 text → list_all (λ b. ltb b 128) word ≡ true → IsUtf8 (text ++ word)
ended_by text word u low = IsUtf8-append text word u (word_utf8 word low)

module _ (net : Net) (all : AllByRecursion IsNamedNode net.nodes) where
  ws_utf8 : (w : ℕ) → IsUtf8 (name_of net w)
  unfolding name_of
  ws_utf8 w = go (slice_get net.nodes w) refl
    where
      go : (o : Option Node) → slice_get net.nodes w ≡ o → IsUtf8 (option_map_or (λ (n : Node). n.name) o [])
      go None e = IsUtf8-nil
      go (Some n) e = name_utf8 n.name (all_get IsNamedNode net.nodes w n all e)

  gap_utf8 : (o : Option ℕ) → IsUtf8 (option_map_or (λ h. codes " ") o (codes ""))
  gap_utf8 None = IsUtf8-nil
  gap_utf8 (Some h) = word_utf8 (codes " ") refl

  hop_utf8 : (o : Option ℕ) → IsUtf8 (option_map_or (name_of net) o (codes ""))
  hop_utf8 None = IsUtf8-nil
  hop_utf8 (Some h) = ws_utf8 h

  mark_utf8 : (none manager full : Bool)
      → IsUtf8 (if none then codes "" else if manager then codes " manager" else if full then codes " on" else codes "")
  mark_utf8 true manager full = IsUtf8-nil
  mark_utf8 false true full = word_utf8 (codes " manager") refl
  mark_utf8 false false true = word_utf8 (codes " on") refl
  mark_utf8 false false false = IsUtf8-nil

  node_utf8 : (n : Node) → IsNamedNode n → IsUtf8 (node_line net n)
  unfolding node_line
  node_utf8 n h =
      ended_by (codes "ws " ++ n.name ++ hop_gap n ++ hop_name net n ++ mark n) (codes "\n")
      (IsUtf8-append (codes "ws " ++ n.name ++ hop_gap n ++ hop_name net n) (mark n)
      (IsUtf8-append (codes "ws " ++ n.name ++ hop_gap n) (hop_name net n)
      (IsUtf8-append (codes "ws " ++ n.name) (hop_gap n)
      (IsUtf8-append (codes "ws ") n.name (word_utf8 (codes "ws ") refl) (name_utf8 n.name h))
      (gap_utf8 n.hop)) (hop_utf8 n.hop)) (mark_utf8 (is_none n.hop) n.manager n.full)) refl

  -- a resource with a name, and with a total within its range
  record IsTold (r : Resource) : Type 0 where
    name : IsKeptName r.name
    total : r.total ≤ 1024

  resource_utf8 : (r : Resource) → IsTold r → IsUtf8 (resource_line net r)
  unfolding resource_line
  resource_utf8 r h =
      ended_by (codes "res " ++ name_of net r.ws ++ codes " " ++ r.name ++ codes " " ++ decimal r.total) (codes "\n")
      (IsUtf8-append (codes "res " ++ name_of net r.ws ++ codes " " ++ r.name ++ codes " ") (decimal r.total)
      (ended_by (codes "res " ++ name_of net r.ws ++ codes " " ++ r.name) (codes " ")
      (IsUtf8-append (codes "res " ++ name_of net r.ws ++ codes " ") r.name
      (ended_by (codes "res " ++ name_of net r.ws) (codes " ")
      (IsUtf8-append (codes "res ") (name_of net r.ws) (word_utf8 (codes "res ") refl) (ws_utf8 r.ws)) refl)
      (name_utf8 r.name h.name)) refl) (number_utf8 r.total (let low = h.total in omega (arith, low)))) refl

  told : (rs : List Resource) → AllByRecursion IsNamedResource rs → AllByRecursion (IsGood net) rs → AllByRecursion IsTold rs
  told [] named good = tt
  told (r ∷ rs) named good = (record { name = named.0; total = good.0.total }, told rs named.1 good.1)

  start_utf8 : (s : Start) → IsStartInRange s → IsUtf8 (start_line net s)
  unfolding start_line
  start_utf8 s h =
      ended_by (codes "start " ++ name_of net s.ws ++ codes " " ++ decimal s.job ++ codes " " ++ decimal s.number) (codes "\n")
      (IsUtf8-append (codes "start " ++ name_of net s.ws ++ codes " " ++ decimal s.job ++ codes " ") (decimal s.number)
      (ended_by (codes "start " ++ name_of net s.ws ++ codes " " ++ decimal s.job) (codes " ")
      (IsUtf8-append (codes "start " ++ name_of net s.ws ++ codes " ") (decimal s.job)
      (ended_by (codes "start " ++ name_of net s.ws) (codes " ")
      (IsUtf8-append (codes "start ") (name_of net s.ws) (word_utf8 (codes "start ") refl) (ws_utf8 s.ws)) refl)
      (number_utf8 s.job (let low = h.0 in omega (arith, low)))) refl)
      (number_utf8 s.number (let low = h.1 in omega (arith, low)))) refl

prompt_utf8 : (p : PromptDef) → IsNamedPrompt p → IsUtf8 (prompt_line p)
unfolding prompt_line
prompt_utf8 p h =
    ended_by (codes "prompt " ++ p.name ++ codes " " ++ quoted_text p.text) (codes "\n")
    (IsUtf8-append (codes "prompt " ++ p.name ++ codes " ") (quoted_text p.text)
    (ended_by (codes "prompt " ++ p.name) (codes " ")
    (IsUtf8-append (codes "prompt ") p.name (word_utf8 (codes "prompt ") refl) (name_utf8 p.name h.name)) refl)
    (quoted_utf8 p.text h.text.utf8)) refl

carry_utf8 : (c : Carry) → IsUtf8 (carry_line c)
carry_utf8 carry.Yes = IsUtf8-nil
carry_utf8 carry.No = word_utf8 (codes "carryforward no\n") refl
carry_utf8 carry.All = word_utf8 (codes "carryforward all\n") refl

network_utf8 : (net : Net) → IsPrintable net → AllByRecursion (IsGood net) net.resources → IsUtf8 (network_text net)
unfolding network_text
network_utf8 net h good =
    IsUtf8-append
    (codes "$NETWORK\n" ++ flat_map (node_line net) net.nodes ++ flat_map (resource_line net) net.resources
    ++ flat_map prompt_line net.prompts) (carry_line net.carry)
    (IsUtf8-append
    (codes "$NETWORK\n" ++ flat_map (node_line net) net.nodes ++ flat_map (resource_line net) net.resources)
    (flat_map prompt_line net.prompts)
    (IsUtf8-append (codes "$NETWORK\n" ++ flat_map (node_line net) net.nodes) (flat_map (resource_line net) net.resources)
    (IsUtf8-append (codes "$NETWORK\n") (flat_map (node_line net) net.nodes) (word_utf8 (codes "$NETWORK\n") refl)
    (each_utf8 IsNamedNode (node_line net) (node_utf8 net h.nodes) net.nodes h.nodes))
    (each_utf8 (IsTold net h.nodes) (resource_line net) (resource_utf8 net h.nodes) net.resources
    (told net h.nodes net.resources h.resources good)))
    (each_utf8 IsNamedPrompt prompt_line prompt_utf8 net.prompts h.prompts)) (carry_utf8 net.carry)

-- an entry that can be written
pub record IsWritten (e : Entry) : Type 0 where
  pub fit : IsFit e
  pub in_range : InRange e

entry_utf8 : (e : Entry) → IsWritten e → IsUtf8 (entry_line e)
unfolding entry_line
entry_utf8 e h =
    ended_by (codes "entry " ++ digits_of (entry_bytes e)) (codes "\n")
    (IsUtf8-append (codes "entry ") (digits_of (entry_bytes e)) (word_utf8 (codes "entry ") refl)
    (low_utf8 (digits_of (entry_bytes e)) (digits_low (entry_bytes e) (entry_small e h.fit h.in_range)))) refl

pub history_utf8 : (net : Net) (entries : List Entry) (starts : List Start) → IsPrintable net
    → AllByRecursion (IsGood net) net.resources → AllByRecursion IsWritten entries → AllByRecursion IsStartInRange starts
    → IsUtf8 (history_text net entries starts)
unfolding history_text head_text
history_utf8 net entries starts h good written in_range =
    IsUtf8-append (network_text net ++ codes "$HISTORY\n" ++ flat_map entry_line entries) (flat_map (start_line net) starts)
    (IsUtf8-append (network_text net ++ codes "$HISTORY\n") (flat_map entry_line entries)
    (ended_by (network_text net) (codes "$HISTORY\n") (network_utf8 net h good) refl)
    (each_utf8 IsWritten entry_line entry_utf8 entries written))
    (each_utf8 IsStartInRange (start_line net) (start_utf8 net h.nodes) starts in_range)
