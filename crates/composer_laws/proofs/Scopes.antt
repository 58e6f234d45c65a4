-- Names with their workstations that are read back.
use Rattle.std.proofs.Common.{◌≡◌, ◌≤◌, ◌<◌, ◌+◌, not, ℕ, suc, Bool, true, false, List, [], ◌∷◌, ◌++◌, length, drop}
use Rattle.std.proofs.Common.{get_or, codes, eqb, ltb}
use Rattle.std.proofs.Common.{Option, Some, None, refl, ap, sym, subst, ◌∙◌, arith, append_assoc, append-nil, length-append}
use Rattle.std.specs.List.{list_all, position_or_len}
use Rattle.std.specs.Str.{bytes_eq}
use Rattle.std.proofs.lemmas.List.{take_at, drop_at}
use Rattle.std.proofs.lemmas.Bool.Decides.{nat_tests}
use Rattle.lemmas.proofs.Booleans.{and_made, and_parts, or_made_right}
use Rattle.base_types.specs.Name.{is_name_byte, starts_with_letter}
use Rattle.composer_lexer.specs.Tokens.{is_word_byte}
use Rattle.composer_parser.specs.declared.clauses.Pred.{Pred}
use Rattle.composer_parser.specs.declared.clauses.PredPart.{PredPart}
use Rattle.composer_parser.specs.declared.clauses.PredPart.TheVariants as part
use Rattle.composer_parser.specs.Words.{holds, before, behind}
use Rattle.composer_parser.specs.Kinds.{word, a_placed, a_scoped, a_pred, is_free_name, is_placed, is_scoped, is_pred}
use Rattle.composer_parser.specs.Grammars.{one}
use Rattle.composer_parser.specs.Parts.{bytes_of, upper, ws_of, own_of, pred, pred_of}
use Rattle.composer_print.specs.Clauses.{name_text, part_text, pred_text}
use Rattle.composer_laws.specs.Written.{IsWord, IsName, WhenGiven, IsPart, IsPred}
use Rattle.composer_laws.proofs.Phrases.{head_word, led_word}
use Rattle.composer_laws.proofs.Readings.{Reads, one_reads}
use Rattle.composer_laws.proofs.Words.{all_follow, all_both, name_byte, free_parts, lettered}

abbrev pub other_than : ℕ → ℕ → Bool
other_than c b = not (eqb b c)

at_mark : (c : ℕ) (w n : List ℕ) → list_all (other_than c) w ≡ true
    → position_or_len (λ b. eqb b c) (w ++ c ∷ n) ≡ length w
at_mark c [] n h = let same : eqb c c ≡ true = grind (arith, nat_tests) in rw same refl
at_mark c (b ∷ w) n h =
    let parts = and_parts (other_than c b) (list_all (other_than c) w) h in
    let one : 1 + length w ≡ suc (length w) = omega arith in
    rw (parts.0, at_mark c w n parts.1) one

no_mark : (c : ℕ) (w : List ℕ) → list_all (other_than c) w ≡ true → position_or_len (λ b. eqb b c) w ≡ length w
no_mark c [] h = refl
no_mark c (b ∷ w) h =
    let parts = and_parts (other_than c b) (list_all (other_than c) w) h in
    let one : 1 + length w ≡ suc (length w) = omega arith in
    rw (parts.0, no_mark c w parts.1) one

pub holds_not : (c : ℕ) (w : List ℕ) → list_all (other_than c) w ≡ true → holds c w ≡ false
holds_not c w h = let same : ltb (length w) (length w) ≡ false = grind (arith, nat_tests) in rw (no_mark c w h) same

holds_at : (c : ℕ) (w n : List ℕ) → list_all (other_than c) w ≡ true → holds c (w ++ c ∷ n) ≡ true
holds_at c w n h =
    let long = length-append w (c ∷ n) in
    let less : ltb (length w) (length (w ++ c ∷ n)) ≡ true = grind (arith, nat_tests) in rw (at_mark c w n h) less

before_at : (c : ℕ) (w n : List ℕ) → list_all (other_than c) w ≡ true → before c (w ++ c ∷ n) ≡ w
before_at c w n h = rw (at_mark c w n h) (take_at w (c ∷ n) (length w) refl)

behind_at : (c : ℕ) (w n : List ℕ) → list_all (other_than c) w ≡ true → behind c (w ++ c ∷ n) ≡ n
behind_at c w n h =
    let cut : w ++ c ∷ n ≡ (w ++ c ∷ []) ++ n = sym (append_assoc w (c ∷ []) n) in
    ap (λ k. drop (k + 1) (w ++ c ∷ n)) (at_mark c w n h) ∙ ap (λ xs. drop (length w + 1) xs) cut
    ∙ drop_at (w ++ c ∷ []) n (length w + 1) (length-append w (c ∷ []))

pub no_hash : (b : ℕ) → is_name_byte b ≡ true → other_than 35 b ≡ true
no_hash b h = grind (arith, nat_tests)

pub no_dot : (b : ℕ) → is_name_byte b ≡ true → other_than 46 b ≡ true
no_dot b h = grind (arith, nat_tests)

-- what holds of a name with its workstation, and without one
pub record IsScope (ws : Option (List ℕ)) (n x : List ℕ) : Type 0 where
  pub scoped : is_scoped x ≡ true
  pub place : ws_of x ≡ ws
  pub own : own_of x ≡ n
  pub word : IsWord x
  pub small : length x ≤ 81
  pub dotless : list_all (other_than 46) x ≡ true
  pub plain : eqb (get_or x 0 0) 35 ≡ false

plain_scope : (n : List ℕ) → IsName n → IsScope None n n
unfolding is_scoped ws_of own_of
plain_scope n h =
    let parts = free_parts n h.free in
    let hashless = holds_not 35 n (all_follow is_name_byte (other_than 35) no_hash n parts.2) in
    let first = lettered n parts.0 in
    record {
      scoped = rw h.free refl;
      place = rw hashless refl;
      own = rw hashless h.high;
      word = record {
        bytes = all_follow is_name_byte is_word_byte name_byte n parts.2;
        some = first.0;
        room = omega (arith, parts.1);
      };
      small = omega (arith, parts.1);
      dotless = all_follow is_name_byte (other_than 46) no_dot n parts.2;
      plain = first.1;
    }

first_kept : (w n : List ℕ) → 0 < length w → eqb (get_or w 0 0) 35 ≡ false → eqb (get_or (w ++ n) 0 0) 35 ≡ false
first_kept [] n some h = absurd (omega (arith, some))
first_kept (b ∷ w) n some h = h

pub placed_is : (w n : List ℕ) → IsName w → IsName n → is_placed (w ++ 35 ∷ n) ≡ true
unfolding is_placed
placed_is w n h k =
    let free = all_follow is_name_byte (other_than 35) no_hash w (free_parts w h.free).2 in
    rw (holds_at 35 w n free, before_at 35 w n free, behind_at 35 w n free)
    (and_made (is_free_name w) (is_free_name n) h.free k.free)

placed_scope : (w n : List ℕ) → IsName w → IsName n → IsScope (Some w) n (w ++ 35 ∷ n)
unfolding is_scoped ws_of own_of
placed_scope w n h k =
    let first = free_parts w h.free in
    let second = free_parts n k.free in
    let free = all_follow is_name_byte (other_than 35) no_hash w first.2 in
    let letter = lettered w first.0 in
    let holding = holds_at 35 w n free in
    let left = before_at 35 w n free in
    let right = behind_at 35 w n free in
    let size : length (w ++ 35 ∷ n) ≤ 81 = omega (arith, length-append w (35 ∷ n), first.1, second.1) in
    record {
      scoped = or_made_right (is_free_name (w ++ 35 ∷ n)) (is_placed (w ++ 35 ∷ n)) (placed_is w n h k);
      place = rw (holding, left) (ap (λ x. Some x) h.high);
      own = rw (holding, right) k.high;
      word = record {
        bytes =
            all_both is_word_byte w (35 ∷ n) (all_follow is_name_byte is_word_byte name_byte w first.2)
            (all_follow is_name_byte is_word_byte name_byte n second.2);
        some = omega (arith, length-append w (35 ∷ n));
        room = omega (arith, size);
      };
      small = size;
      dotless =
          all_both (other_than 46) w (35 ∷ n) (all_follow is_name_byte (other_than 46) no_dot w first.2)
          (all_follow is_name_byte (other_than 46) no_dot n second.2);
      plain = first_kept w (35 ∷ n) letter.0 letter.1;
    }

pub scope_is : (ws : Option (List ℕ)) (n : List ℕ) → WhenGiven IsName ws → IsName n → IsScope ws n (name_text ws n)
unfolding name_text
scope_is None n h k = plain_scope n k
scope_is (Some w) n h k =
    let P : List ℕ → Type 0 = λ x. IsScope (Some w) n x in
    subst P (sym (append_assoc w (35 ∷ []) n)) (placed_scope w n h k)

-- a token with both, of which a statement or an entry is
abbrev pub IsOf : Option (List ℕ) → List ℕ → List ℕ → Type 0
IsOf ws n x = (ws_of x ≡ ws) × (own_of x ≡ n)

pub scope_reads : (ws : Option (List ℕ)) (n : List ℕ) → WhenGiven IsName ws → IsName n
    → Reads false false (one a_scoped (λ t. t)) (32 ∷ name_text ws n) (λ t. IsOf ws n (bytes_of t.shape))
scope_reads ws n h k =
    let is = scope_is ws n h k in
    one_reads a_scoped (λ t. t) (word (name_text ws n)) (led_word (name_text ws n) is.word) is.scoped (λ line. (is.place, is.own))

pub scope_bytes_reads : (ws : Option (List ℕ)) (n : List ℕ) → WhenGiven IsName ws → IsName n
    → Reads false false (one a_scoped (λ t. bytes_of t.shape)) (32 ∷ name_text ws n) (λ x. IsOf ws n x)
scope_bytes_reads ws n h k =
    let is = scope_is ws n h k in
    one_reads a_scoped (λ t. bytes_of t.shape) (word (name_text ws n)) (led_word (name_text ws n) is.word) is.scoped (λ line. (is.place, is.own))

pub scope_begins : (ws : Option (List ℕ)) (n : List ℕ) → WhenGiven IsName ws → IsName n
    → Reads true false (one a_scoped (λ t. t)) (name_text ws n) (λ t. IsOf ws n (bytes_of t.shape))
scope_begins ws n h k =
    let is = scope_is ws n h k in
    one_reads a_scoped (λ t. t) (word (name_text ws n)) (head_word (name_text ws n) is.word is.plain) is.scoped (λ line. (is.place, is.own))

-- `WS#NAME` at the beginning of a line
pub placed_begins : (w n : List ℕ) → IsName w → IsName n
    → Reads true false (one a_placed (λ t. t)) (w ++ 35 ∷ n) (λ t. (upper (before 35 (bytes_of t.shape)) ≡ w) × (own_of (bytes_of t.shape) ≡ n))
placed_begins w n h k =
    let is = placed_scope w n h k in
    let free = all_follow is_name_byte (other_than 35) no_hash w (free_parts w h.free).2 in
    one_reads a_placed (λ t. t) (word (w ++ 35 ∷ n)) (head_word (w ++ 35 ∷ n) is.word is.plain) (placed_is w n h k)
    (λ line. (ap (λ x. upper x) (before_at 35 w n free) ∙ h.high, is.own))

-- what is followed
pub no_at : (j : List ℕ) → starts_with_letter j ≡ true → eqb (get_or j 0 0) 64 ≡ false
no_at [] h = cc
no_at (b ∷ j) h = grind (arith, nat_tests)

pred_word : (ws : Option (List ℕ)) (n : List ℕ) (q : PredPart) (x : List ℕ) → IsScope ws n x → IsPart q
    → IsWord (x ++ part_text q)
unfolding part_text
pred_word ws n part.Plain x is h = let P : List ℕ → Type 0 = λ w. IsWord w in subst P (sym (append-nil x)) is.word
pred_word ws n part.All x is h =
    record {
      bytes = all_both is_word_byte x (46 ∷ 64 ∷ []) is.word.bytes refl;
      some = omega (arith, length-append x (46 ∷ 64 ∷ []));
      room = omega (arith, length-append x (46 ∷ 64 ∷ []), is.small);
    }
pred_word ws n (part.Job j) x is h =
    let parts = free_parts j h.free in
    record {
      bytes = all_both is_word_byte x (46 ∷ j) is.word.bytes (all_follow is_name_byte is_word_byte name_byte j parts.2);
      some = omega (arith, length-append x (46 ∷ j));
      room = omega (arith, length-append x (46 ∷ j), is.small, parts.1);
    }

pred_kind : (ws : Option (List ℕ)) (n : List ℕ) (q : PredPart) (x : List ℕ) → IsScope ws n x → IsPart q
    → is_pred (x ++ part_text q) ≡ true
unfolding part_text is_pred
pred_kind ws n part.Plain x is h = rw (append-nil x, is.scoped) refl
pred_kind ws n part.All x is h =
    or_made_right (is_scoped (x ++ 46 ∷ 64 ∷ [])) _
    (rw (holds_at 46 x (64 ∷ []) is.dotless, before_at 46 x (64 ∷ []) is.dotless, behind_at 46 x (64 ∷ []) is.dotless, is.scoped) refl)
pred_kind ws n (part.Job j) x is h =
    or_made_right (is_scoped (x ++ 46 ∷ j)) _
    (rw (holds_at 46 x j is.dotless, before_at 46 x j is.dotless, behind_at 46 x j is.dotless, is.scoped)
    (or_made_right (bytes_eq j (codes "@")) (is_free_name j) h.free))

pred_value : (ws : Option (List ℕ)) (n : List ℕ) (q : PredPart) (x : List ℕ) → IsScope ws n x → IsPart q
    → pred_of (x ++ part_text q) ≡ record { ws = ws; name = n; part = q }
unfolding part_text pred_of
pred_value ws n part.Plain x is h =
    rw (append-nil x, holds_not 46 x is.dotless) (λ i. record { ws = is.place i; name = is.own i; part = part.Plain })
pred_value ws n part.All x is h =
    rw (holds_at 46 x (64 ∷ []) is.dotless, before_at 46 x (64 ∷ []) is.dotless, behind_at 46 x (64 ∷ []) is.dotless)
    (λ i. record { ws = is.place i; name = is.own i; part = part.All })
pred_value ws n (part.Job j) x is h =
    let letter = no_at j (free_parts j h.free).0 in
    rw (holds_at 46 x j is.dotless, before_at 46 x j is.dotless, behind_at 46 x j is.dotless, letter)
    (λ i. record { ws = is.place i; name = is.own i; part = part.Job (h.high i) })

pub pred_reads : (p : Pred) → IsPred p → Reads false false pred (32 ∷ pred_text p) (λ x. x ≡ p)
unfolding pred_text
pred_reads p h =
    let is = scope_is p.ws p.name h.ws h.name in
    one_reads a_pred (λ t. pred_of (bytes_of t.shape)) (word (name_text p.ws p.name ++ part_text p.part))
    (led_word (name_text p.ws p.name ++ part_text p.part) (pred_word p.ws p.name p.part (name_text p.ws p.name) is h.part))
    (pred_kind p.ws p.name p.part (name_text p.ws p.name) is h.part)
    (λ line. pred_value p.ws p.name p.part (name_text p.ws p.name) is h.part)
