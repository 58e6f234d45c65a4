-- The answer against the grammar.
use Rattle.std.proofs.Common.{◌≡◌, ◌≤◌, ◌<◌, ◌⊎◌, inl, inr, ◌-◌, ◌||◌, cond, ℕ, Bool, true, false, List, [], ◌∷◌, ◌++◌, Result, Ok, Err, length, take, drop}
use Rattle.std.proofs.Common.{refl, ap, sym, subst, ◌∙◌, arith, length-append}
use Rattle.std.proofs.lemmas.List.{length-map, drop-map}
use Rattle.std.specs.List.{take-map}
use Rattle.std.proofs.Math.Seq.{drop-append_seam, take-append_seam}
use Rattle.lemmas.proofs.Booleans.{and_parts, or_made_left, or_made_right}
use Rattle.base_types.specs.declared.reports.Token.{Token}
use Rattle.composer_parser.specs.declared.definitions.Defs.{Defs}
use Rattle.composer_parser.specs.declared.stops.Why.{Why}
use Rattle.composer_parser.specs.declared.stops.Why.TheVariants.{NotExpected, IsLeftOut}
use Rattle.composer_parser.specs.declared.faults.SyntaxFault.{SyntaxFault}
use Rattle.composer_parser.specs.declared.faults.SyntaxFault.TheVariants.{Expected, LeftOut, NotBuilt, NoMemory}
use Rattle.composer_parser.specs.Kinds.{Spelled}
use Rattle.composer_parser.specs.Grammars.{Grammar, Spells, LeavesOut}
use Rattle.composer_parser.specs.Reading.{Outcome, done, stuck, read, decided, has}
use Rattle.composer_parser.specs.Answers.{whole, read_whole, StopsAt}
use Rattle.composer_parser.specs.Composer.{defs}
use Rattle.composer_parser.specs.Faults.{answer, fault_of, before_rest, is_left, is_left_word, IsLeft, HasUnexpected, HasLeftOut}
use Rattle.composer_parser.specs.Tokens.{all_spelled, spelled, StopsWith}
use Rattle.composer_parser.proofs.Exactly.{reads_exactly}
use Rattle.composer_parser.proofs.Leaves.{left_sound, left_complete}
use Rattle.composer_parser.proofs.Sound.{defs_sound}

-- what stands before the rest
before_is : (ts before rest : List Spelled) → ts ≡ before ++ rest → before_rest ts rest ≡ before
before_is ts before rest split =
    let long = ap (λ (zs : List Spelled). length zs) split in
    let count : length ts - length rest ≡ length before = omega (arith, long, length-append before rest) in
    ap (λ n. take n ts) count ∙ ap (λ zs. take (length before) zs) split ∙ take-append_seam before rest

whole_answer : (last : ℕ) (ts : List Spelled) (o : Outcome Defs) → answer last ts o ≡ answer last ts (whole o)
whole_answer last ts (done d []) = refl
whole_answer last ts (done d (t ∷ rest)) = refl
whole_answer last ts (stuck w rest) = refl

left_read : {C : Type 0} (o : Outcome C) (rest : List Spelled) → whole o ≡ stuck IsLeftOut rest → o ≡ stuck IsLeftOut rest
left_read (done d []) rest h = cc
left_read (done d (t ∷ us)) rest h = cc
left_read (stuck w us) rest h = h

-- whether the token at which reading stops is left out
tells_left : {C : Type 0} (g : Grammar C) (ts before : List Spelled) (t : Spelled) (rest : List Spelled) (w : Why)
    → decided g ≡ true → ts ≡ before ++ t ∷ rest → read_whole g ts ≡ stuck w (t ∷ rest)
    → (is_left w || is_left_word before t) ≡ true → IsLeft g before t
tells_left g ts before t rest NotExpected d split e h = inl h
tells_left {C = C} g ts before t rest IsLeftOut d split e h =
    let found = left_sound g d ts t rest (left_read (read g ts) (t ∷ rest) e) in
    let same : found.0 ≡ before =
    sym (before_is ts found.0 (t ∷ rest) found.1) ∙ before_is ts before (t ∷ rest) split in
    let P : List Spelled → Type 0 = λ zs. LeavesOut g zs t in inr (subst P same found.2)

is_told_left : {C : Type 0} (g : Grammar C) (ts before : List Spelled) (t : Spelled) (rest : List Spelled) (w : Why)
    → decided g ≡ true → ts ≡ before ++ t ∷ rest → read_whole g ts ≡ stuck w (t ∷ rest) → IsLeft g before t
    → (is_left w || is_left_word before t) ≡ true
is_told_left g ts before t rest w d split e (inl h) = or_made_right (is_left w) (is_left_word before t) h
is_told_left {C = C} g ts before t rest w d split e (inr h) =
    let here = ap (λ zs. read_whole g zs) split ∙ ap (λ (o : Outcome C). whole o) (left_complete g d before t rest h) in
    let both : stuck w (t ∷ rest) ≡ stuck IsLeftOut (t ∷ rest) = sym e ∙ here in
    let same : w ≡ IsLeftOut = cc in
    or_made_left (is_left w) (is_left_word before t) (ap (λ x. is_left x) same)

abbrev pub Answered : ℕ → List Spelled → Result Defs SyntaxFault → Type 0
Answered last ts r = (r ≡ answer last ts (read (defs last) ts)) ⊎ (r ≡ Err NoMemory)

parts : (last : ℕ) → (decided (defs last) ≡ true) × (has (defs last) ≡ true)
parts last = and_parts (decided (defs last)) (has (defs last)) (defs_sound last)

value_of : (last : ℕ) (ts : List Spelled) (o : Outcome Defs) (d : Defs) → answer last ts o ≡ Ok d → whole o ≡ done d []
value_of last ts (done x []) d h = let same : x ≡ d = cc in ap (λ y. done y []) same
value_of last ts (done x (t ∷ rest)) d h = cc
value_of last ts (stuck w rest) d h = cc

pub found : (last : ℕ) (ts : List Spelled) (r : Result Defs SyntaxFault) → Answered last ts r → (d : Defs) → r ≡ Ok d
    → Spells (defs last) ts d
found last ts r (inl is) d h =
    (reads_exactly (defs last) ts (defs_sound last)).value d (value_of last ts (read (defs last) ts) d (sym is ∙ h))
found last ts r (inr is) d h = let no : Err NoMemory ≡ Ok d = sym is ∙ h in cc

pub all : (last : ℕ) (ts : List Spelled) (r : Result Defs SyntaxFault) → Answered last ts r → (d : Defs)
    → Spells (defs last) ts d → (r ≡ Ok d) ⊎ (r ≡ Err NoMemory)
all last ts r (inl is) d s =
    inl (is ∙ whole_answer last ts (read (defs last) ts)
    ∙ ap (λ o. answer last ts o) ((reads_exactly (defs last) ts (defs_sound last)).all_values d s))
all last ts r (inr is) d s = inr is

-- the fault of a stop
by_kind : (b : Bool) (t : Spelled) (n : ℕ) → cond b (LeftOut t.line) (Expected t.line) ≡ Expected n
    → (b ≡ false) × (n ≡ t.line)
by_kind true t n h = cc
by_kind false t n h = (refl, cc)

by_left : (b : Bool) (t : Spelled) (n : ℕ) → cond b (LeftOut t.line) (Expected t.line) ≡ LeftOut n
    → (b ≡ true) × (n ≡ t.line)
by_left true t n h = (refl, cc)
by_left false t n h = cc

same_err : (r : Result Defs SyntaxFault) (e f : SyntaxFault) → r ≡ Err e → r ≡ Err f → e ≡ f
same_err r e f first second = let both : Err e ≡ Err f = sym first ∙ second in cc

expected_stop : (last : ℕ) (ts : List Spelled) (w : Why) (rest : List Spelled) (n : ℕ)
    → read_whole (defs last) ts ≡ stuck w rest → fault_of w last (before_rest ts rest) rest ≡ Expected n
    → HasUnexpected (defs last) last ts n
expected_stop last ts w [] n e h =
    let cut = (reads_exactly (defs last) ts (defs_sound last)).stops w [] e in
    let line : n ≡ last = cc in (cut.0, [], cut.1, cut.2, tt, line)
expected_stop last ts w (t ∷ rest) n e h =
    let cut = (reads_exactly (defs last) ts (defs_sound last)).stops w (t ∷ rest) e in
    let same = before_is ts cut.0 (t ∷ rest) cut.1 in
    let told = by_kind (is_left w || is_left_word (before_rest ts (t ∷ rest)) t) t n h in
    let none : (is_left w || is_left_word cut.0 t) ≡ false =
    ap (λ zs. is_left w || is_left_word zs t) (sym same) ∙ told.0 in (
      cut.0,
      t ∷ rest,
      cut.1,
      cut.2,
      (λ left.
          (let yes = is_told_left (defs last) ts cut.0 t rest w (parts last).0 cut.1 e left in
          let no : true ≡ false = sym yes ∙ none in cc)),
      told.1,
    )

left_stop : (last : ℕ) (ts : List Spelled) (w : Why) (rest : List Spelled) (n : ℕ)
    → read_whole (defs last) ts ≡ stuck w rest → fault_of w last (before_rest ts rest) rest ≡ LeftOut n
    → HasLeftOut (defs last) ts n
left_stop last ts w [] n e h = cc
left_stop last ts w (t ∷ rest) n e h =
    let cut = (reads_exactly (defs last) ts (defs_sound last)).stops w (t ∷ rest) e in
    let same = before_is ts cut.0 (t ∷ rest) cut.1 in
    let told = by_left (is_left w || is_left_word (before_rest ts (t ∷ rest)) t) t n h in
    let here : (is_left w || is_left_word cut.0 t) ≡ true =
    ap (λ zs. is_left w || is_left_word zs t) (sym same) ∙ told.0 in
    (cut.0, t, rest, cut.1, cut.2, tells_left (defs last) ts cut.0 t rest w (parts last).0 cut.1 e here, told.1)

built_stop : (last : ℕ) (w : Why) (before rest : List Spelled) (n : ℕ) → fault_of w last before rest ≡ NotBuilt n → ⊥
built_stop last w before [] n h = cc
built_stop last w before (t ∷ rest) n h = by_bool (is_left w || is_left_word before t) h
  where
    by_bool : (b : Bool) → cond b (LeftOut t.line) (Expected t.line) ≡ NotBuilt n → ⊥
    by_bool true k = cc
    by_bool false k = cc

memory_stop : (last : ℕ) (w : Why) (before rest : List Spelled) → fault_of w last before rest ≡ NoMemory → ⊥
memory_stop last w before [] h = cc
memory_stop last w before (t ∷ rest) h = by_bool (is_left w || is_left_word before t) h
  where
    by_bool : (b : Bool) → cond b (LeftOut t.line) (Expected t.line) ≡ NoMemory → ⊥
    by_bool true k = cc
    by_bool false k = cc

-- each fault of an answer is one of a stop
stop_of : (last : ℕ) (ts : List Spelled) (o : Outcome Defs) (f : SyntaxFault) → answer last ts o ≡ Err f
    → (w : Why) × (rest : List Spelled) × (whole o ≡ stuck w rest) × (fault_of w last (before_rest ts rest) rest ≡ f)
stop_of last ts (done d []) f h = cc
stop_of last ts (done d (t ∷ rest)) f h =
    (NotExpected, t ∷ rest, refl, same_err (answer last ts (done d (t ∷ rest))) (fault_of NotExpected last (before_rest ts (t ∷ rest)) (t ∷ rest)) f refl h)
stop_of last ts (stuck w rest) f h = (w, rest, refl, same_err (answer last ts (stuck w rest)) (fault_of w last (before_rest ts rest) rest) f refl h)

pub expected : (last : ℕ) (ts : List Spelled) (r : Result Defs SyntaxFault) → Answered last ts r → (n : ℕ)
    → r ≡ Err (Expected n) → HasUnexpected (defs last) last ts n
expected last ts r (inl is) n h =
    let at = stop_of last ts (read (defs last) ts) (Expected n) (sym is ∙ h) in expected_stop last ts at.0 at.1 n at.2 at.3
expected last ts r (inr is) n h = let other : NoMemory ≡ Expected n = same_err r NoMemory (Expected n) is h in cc

pub left_out : (last : ℕ) (ts : List Spelled) (r : Result Defs SyntaxFault) → Answered last ts r → (n : ℕ)
    → r ≡ Err (LeftOut n) → HasLeftOut (defs last) ts n
left_out last ts r (inl is) n h =
    let at = stop_of last ts (read (defs last) ts) (LeftOut n) (sym is ∙ h) in left_stop last ts at.0 at.1 n at.2 at.3
left_out last ts r (inr is) n h = let other : NoMemory ≡ LeftOut n = same_err r NoMemory (LeftOut n) is h in cc

pub built : (last : ℕ) (ts : List Spelled) (r : Result Defs SyntaxFault) → Answered last ts r → (n : ℕ)
    → r ≡ Err (NotBuilt n) → ⊥
built last ts r (inl is) n h =
    let at = stop_of last ts (read (defs last) ts) (NotBuilt n) (sym is ∙ h) in
    built_stop last at.0 (before_rest ts at.1) at.1 n at.3
built last ts r (inr is) n h = let other : NoMemory ≡ NotBuilt n = same_err r NoMemory (NotBuilt n) is h in cc

-- the answer where reading stops behind these tokens
stopped : (last : ℕ) (ts before rest : List Spelled) → ts ≡ before ++ rest → StopsAt (defs last) before rest
    → (w : Why) × (read_whole (defs last) ts ≡ stuck w rest)
    × (answer last ts (read (defs last) ts) ≡ Err (fault_of w last before rest))
stopped last ts before rest split stop =
    let at = (reads_exactly (defs last) ts (defs_sound last)).all_stops before rest split stop in (
      at.0,
      at.1,
      whole_answer last ts (read (defs last) ts) ∙ ap (λ o. answer last ts o) at.1
          ∙ ap (λ zs. Err (fault_of at.0 last zs rest)) (before_is ts before rest split),
    )

pub all_expected : (last : ℕ) (ts : List Spelled) (r : Result Defs SyntaxFault) → Answered last ts r → (n : ℕ)
    → HasUnexpected (defs last) last ts n → (r ≡ Err (Expected n)) ⊎ (r ≡ Err NoMemory)
all_expected last ts r (inl is) n (before, [], split, stop, none, line) =
    let at = stopped last ts before [] split stop in inl (is ∙ at.2 ∙ ap (λ k. Err (Expected k)) (sym line))
all_expected last ts r (inl is) n (before, t ∷ rest, split, stop, none, line) =
    let at = stopped last ts before (t ∷ rest) split stop in
    inl (is ∙ at.2
    ∙ ap (λ f. Err f)
    (by_bool at.0 (is_left at.0 || is_left_word before t) refl
    (λ h. none (tells_left (defs last) ts before t rest at.0 (parts last).0 split at.1 h))))
  where
    by_bool : (w : Why) (b : Bool) → (is_left w || is_left_word before t) ≡ b
        → ((is_left w || is_left_word before t) ≡ true → ⊥)
        → cond (is_left w || is_left_word before t) (LeftOut t.line) (Expected t.line) ≡ Expected n
    by_bool w true e never = absurd (never e)
    by_bool w false e never = rw (e, line) refl
all_expected last ts r (inr is) n h = inr is

pub all_left_out : (last : ℕ) (ts : List Spelled) (r : Result Defs SyntaxFault) → Answered last ts r → (n : ℕ)
    → HasLeftOut (defs last) ts n → (r ≡ Err (LeftOut n)) ⊎ (r ≡ Err NoMemory)
all_left_out last ts r (inl is) n (before, t, rest, split, stop, left, line) =
    let at = stopped last ts before (t ∷ rest) split stop in
    let told = is_told_left (defs last) ts before t rest at.0 (parts last).0 split at.1 left in
    inl (is ∙ at.2 ∙ rw (told, line) refl)
all_left_out last ts r (inr is) n h = inr is

-- what is left behind so many tokens
left_behind : (text : List ℕ) (ts : List Token) (before rest : List Spelled) (n : ℕ)
    → all_spelled text ts ≡ before ++ rest → n ≡ length rest
    → (n ≤ length ts) × (all_spelled text (drop (length ts - n) ts) ≡ rest)
    × (all_spelled text (take (length ts - n) ts) ≡ before)
left_behind text ts before rest n split is =
    let long = ap (λ (zs : List Spelled). length zs) split in
    let count : length ts - n ≡ length before =
    omega (arith, is, long, length-append before rest, length-map ts (spelled text)) in (
      omega (arith, is, long, length-append before rest, length-map ts (spelled text)),
      sym (drop-map (spelled text) (length ts - n) ts) ∙ ap (λ zs. drop (length ts - n) zs) split
          ∙ ap (λ k. drop k (before ++ rest)) count ∙ drop-append_seam before rest,
      sym (take-map (spelled text) (length ts - n) ts) ∙ ap (λ zs. take (length ts - n) zs) split
          ∙ ap (λ k. take k (before ++ rest)) count ∙ take-append_seam before rest,
    )

-- where reading stopped
stopped_at : (last : ℕ) (ts : List Spelled) (w : Why) (rest : List Spelled) → read_whole (defs last) ts ≡ stuck w rest
    → (before : List Spelled) × (ts ≡ before ++ rest)
stopped_at last ts w rest h =
    let cut = (reads_exactly (defs last) ts (defs_sound last)).stops w rest h in (cut.0, cut.1)

fault_answer : (last : ℕ) (text : List ℕ) (ts : List Token) (w : Why) (n : ℕ) (f : SyntaxFault) (rest : List Spelled)
    → read_whole (defs last) (all_spelled text ts) ≡ stuck w rest → n ≡ length rest
    → (n ≤ length ts → f ≡ fault_of w last (all_spelled text (take (length ts - n) ts)) (all_spelled text (drop (length ts - n) ts)))
    → Err f ≡ answer last (all_spelled text ts) (read (defs last) (all_spelled text ts))
fault_answer last text ts w n f rest e count is =
    let cut = stopped_at last (all_spelled text ts) w rest e in
    let behind = left_behind text ts cut.0 rest n cut.1 count in
    ap (λ x. Err x) (is behind.0
    ∙ ap (λ us. fault_of w last us (all_spelled text (drop (length ts - n) ts))) behind.2
    ∙ ap (λ us. fault_of w last cut.0 us) behind.1
    ∙ ap (λ us. fault_of w last us rest) (sym (before_is (all_spelled text ts) cut.0 rest cut.1)))
    ∙ ap (λ o. answer last (all_spelled text ts) o) (sym e)
    ∙ sym (whole_answer last (all_spelled text ts) (read (defs last) (all_spelled text ts)))

pub stop_answer : (last : ℕ) (text : List ℕ) (ts : List Token) (w : Why) (n : ℕ) (f : SyntaxFault)
    → StopsWith w n (read (defs last) (all_spelled text ts))
    → (n ≤ length ts → f ≡ fault_of w last (all_spelled text (take (length ts - n) ts)) (all_spelled text (drop (length ts - n) ts)))
    → Err f ≡ answer last (all_spelled text ts) (read (defs last) (all_spelled text ts))
stop_answer last text ts w n f stops is = by_outcome (read (defs last) (all_spelled text ts)) refl stops
  where
    by_outcome : (o : Outcome Defs) → read (defs last) (all_spelled text ts) ≡ o → StopsWith w n o
        → Err f ≡ answer last (all_spelled text ts) (read (defs last) (all_spelled text ts))
    by_outcome (done d rest) e h = absurd h
    by_outcome (stuck v rest) e (why, count) =
        let P : Why → Type 0 = λ x. read_whole (defs last) (all_spelled text ts) ≡ stuck x rest in
        fault_answer last text ts w n f rest (subst P (sym why) (ap (λ (o : Outcome Defs). whole o) e)) count is

rest_answer : (last : ℕ) (text : List ℕ) (ts : List Token) (d : Defs) (t : Token) (rest : List Token) (n : ℕ)
    (f : SyntaxFault) → read (defs last) (all_spelled text ts) ≡ done d (all_spelled text (t ∷ rest))
    → n ≡ length (t ∷ rest)
    → (n ≤ length ts → f ≡ fault_of NotExpected last (all_spelled text (take (length ts - n) ts)) (all_spelled text (drop (length ts - n) ts)))
    → Err f ≡ answer last (all_spelled text ts) (read (defs last) (all_spelled text ts))
rest_answer last text ts d t rest n f e count is =
    fault_answer last text ts NotExpected n f (all_spelled text (t ∷ rest)) (ap (λ (o : Outcome Defs). whole o) e)
    (count ∙ sym (length-map (t ∷ rest) (spelled text))) is

-- definitions behind which no token is left
pub whole_found : (last : ℕ) (text : List ℕ) (ts : List Token) (d : Defs) (rest : List Token)
    → read (defs last) (all_spelled text ts) ≡ done d (all_spelled text rest) → length rest ≡ 0
    → Ok d ≡ answer last (all_spelled text ts) (read (defs last) (all_spelled text ts))
whole_found last text ts d [] e none = ap (λ o. answer last (all_spelled text ts) o) (sym e)
whole_found last text ts d (t ∷ rest) e none = absurd (omega arith)

-- and behind which some are
pub some_left : (last : ℕ) (text : List ℕ) (ts : List Token) (d : Defs) (rest : List Token) (n : ℕ) (f : SyntaxFault)
    → read (defs last) (all_spelled text ts) ≡ done d (all_spelled text rest) → 0 < length rest → n ≡ length rest
    → (n ≤ length ts → f ≡ fault_of NotExpected last (all_spelled text (take (length ts - n) ts)) (all_spelled text (drop (length ts - n) ts)))
    → Err f ≡ answer last (all_spelled text ts) (read (defs last) (all_spelled text ts))
some_left last text ts d [] n f e some count is = absurd (omega arith)
some_left last text ts d (t ∷ rest) n f e some count is = rest_answer last text ts d t rest n f e count is
