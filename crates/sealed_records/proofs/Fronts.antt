-- What is taken is a front of what was put; an honest wire brings what was made.
use Rattle.std.proofs.Common.{Bool, true, false, if◌then◌else◌, ◌≡◌, ℕ, suc, ◌+◌, ◌≤◌, inl, inr, List, [], ◌∷◌, ◌++◌, Some, Result, Ok, Err, OnErr, length, take, drop, slice_get, refl, sym, ◌∙◌, ap, subst, append_assoc, arith, length-append, length-drop}
use Rattle.std.proofs.Math.Seq.{take-append_seam, drop-append_seam, drop-append-add}
use Rattle.std.proofs.lemmas.List.{take-append-drop, take-append-le}
use Rattle.std.proofs.lemmas.Nat.{from_be_bytes-to_be_bytes_2}
use Rattle.std.specs.Int.{w16, to_be_bytes, from_be_bytes}
use Rattle.sealed_records.specs.Records.{Direction, AreMade, AreMadeAnywhere, Accepts, AreShort, IsAccepted, IsNext, IsUnfinished, IsWrong, behind, code_of_record, next, record_of, told_of, wire}

-- a direction behind some records, one further
abbrev numbered : List ℕ → ℕ → Direction
numbered key number = record { key = key; number = number }

shifted : (n : ℕ) (d : Direction) → behind (suc n) d ≡ behind n (next d)
shifted n d = ap (numbered d.key) (omega arith)

unmoved : (d : Direction) → behind 0 d ≡ d
unmoved d = ap (numbered d.key) (omega arith)

-- what is accepted is accepted with more behind it
further : (d : Direction) (come bytes rest later : List ℕ) → IsAccepted d come bytes rest → IsAccepted d (come ++ later) bytes (rest ++ later)
further d come bytes rest later is = record {
  head = is.head;
  code = is.code;
  two = is.two;
  told = is.told;
  short = is.short;
  size = is.size;
  own = is.own;
  whole = ap (λ l. l ++ later) is.whole ∙ append_assoc ((is.head ++ bytes) ++ is.code) rest later;
}

all_further : (from : Direction) (taken : List (List ℕ)) (come rest later : List ℕ) → Accepts from come taken rest
    → Accepts from (come ++ later) taken (rest ++ later)
all_further from [] come rest later takes = ap (λ l. l ++ later) takes
all_further from (bytes ∷ more) come rest later takes = (
  takes.0 ++ later,
  further from come bytes takes.0 later takes.1,
  all_further (next from) more takes.0 rest later takes.2,
)

-- what holds of the whole wire holds behind its first record
made_behind : (from : Direction) (first : List ℕ) (put : List (List ℕ)) (come bytes rest : List ℕ)
    → IsAccepted from come bytes rest → AreMade from (first ∷ put) come → AreMade (next from) put rest
made_behind from first put come bytes rest is made = λ before here takes b r it.
    made (bytes ∷ before) here (rest, is, takes) b r (subst (λ d. IsAccepted d here b r) (sym (shifted (length before) from)) it)

none_there : (bytes : List ℕ) → slice_get {X = List ℕ} [] 0 ≡ Some bytes → ⊥
none_there bytes same = cc

first_there : (first bytes : List ℕ) (put : List (List ℕ)) → slice_get (first ∷ put) 0 ≡ Some bytes → first ≡ bytes
first_there first bytes put same = cc

all_in_order : (from : Direction) (put taken : List (List ℕ)) (come rest : List ℕ)
    → AreMade from put come → Accepts from come taken rest
    → (more : List (List ℕ)) × (put ≡ taken ++ more)
all_in_order from put [] come rest made takes = (put, refl)
all_in_order from [] (bytes ∷ more) come rest made takes = absurd (none_there bytes
    (made [] come refl bytes takes.0 (subst (λ d. IsAccepted d come bytes takes.0) (sym (unmoved from)) takes.1)))
all_in_order from (first ∷ put) (bytes ∷ more) come rest made takes =
    let it : first ≡ bytes = first_there first bytes put
    (made [] come refl bytes takes.0 (subst (λ d. IsAccepted d come bytes takes.0) (sym (unmoved from)) takes.1)) in
    let later = all_in_order (next from) put more takes.0 rest
    (made_behind from first put come bytes takes.0 takes.1 made) takes.2 in
    (later.0, ap (λ x. x ∷ put) it ∙ ap (λ l. bytes ∷ l) later.1)

pub in_order : (from : Direction) (put taken : List (List ℕ)) (come later rest : List ℕ)
    → AreMade from put (come ++ later) → Accepts from come taken rest
    → (more : List (List ℕ)) × (put ≡ taken ++ more)
in_order from put taken come later rest made takes =
    all_in_order from put taken (come ++ later) (rest ++ later) made (all_further from taken come rest later takes)

-- where records end is a place
place_of : (from : Direction) (before : List (List ℕ)) (come here : List ℕ) → Accepts from come before here
    → (front : List ℕ) × (come ≡ front ++ here)
place_of from [] come here takes = ([], takes)
place_of from (bytes ∷ more) come here takes =
    let is = takes.1 in
    let own : List ℕ = (is.head ++ bytes) ++ is.code in
    let it = place_of (next from) more takes.0 here takes.2 in
    (own ++ it.0, is.whole ∙ ap (λ l. own ++ l) it.1 ∙ sym (append_assoc own it.0 here))

pub made_at_ends : (from : Direction) (put : List (List ℕ)) (come : List ℕ) → AreMadeAnywhere from put come → AreMade from put come
made_at_ends from put come made = λ before here takes bytes rest is.
    let it = place_of from before come here takes in
    made (length before) it.0 here it.1 bytes rest is

-- two fronts of one length are the same, and so is what stands behind them
pub same_front : (a b c d : List ℕ) → length a ≡ length c → a ++ b ≡ c ++ d → a ≡ c
same_front a b c d long same =
    sym (take-append_seam a b) ∙ ap (λ n. take n (a ++ b)) long ∙ ap (take (length c)) same ∙ take-append_seam c d

pub same_back : (a b c d : List ℕ) → length a ≡ length c → a ++ b ≡ c ++ d → b ≡ d
same_back a b c d long same =
    sym (drop-append_seam a b) ∙ ap (λ n. drop n (a ++ b)) long ∙ ap (drop (length c)) same ∙ drop-append_seam c d

-- a wire that begins with this record is accepted with no other bytes, and leaves what stands behind it
pub only_one : (d : Direction) (made more bytes rest : List ℕ) → length made ≤ 16384
    → IsAccepted d (record_of d made ++ more) bytes rest → (bytes ≡ made) × (rest ≡ more)
only_one d made more bytes rest short is =
    let head : List ℕ = is.head in
    let own : List ℕ = to_be_bytes w16 (length made) in
    let code : List ℕ = code_of_record d (own ++ made) in
    let two : length own ≡ length head = sym is.two in
    let spread : own ++ (made ++ (code ++ more)) ≡ head ++ (bytes ++ (is.code ++ rest)) =
    sym (append_assoc (own ++ made) code more ∙ append_assoc own made (code ++ more)) ∙ is.whole ∙ append_assoc (head ++ bytes) is.code rest ∙ append_assoc head bytes (is.code ++ rest) in
    let heads : own ≡ head = same_front own (made ++ (code ++ more)) head (bytes ++ (is.code ++ rest)) two spread in
    let behind : made ++ (code ++ more) ≡ bytes ++ (is.code ++ rest) =
    same_back own (made ++ (code ++ more)) head (bytes ++ (is.code ++ rest)) two spread in
    let long : length made ≡ length bytes =
    sym (from_be_bytes-to_be_bytes_2 (length made) (omega (arith, short))) ∙ ap (from_be_bytes w16) heads ∙ sym is.told in
    let bodies : made ≡ bytes = same_front made (code ++ more) bytes (is.code ++ rest) long behind in
    let codes : code ≡ is.code =
    ap (λ h. code_of_record d (h ++ made)) heads ∙ ap (λ b. code_of_record d (head ++ b)) bodies ∙ sym is.own in
    let backs : code ++ more ≡ is.code ++ rest = same_back made (code ++ more) bytes (is.code ++ rest) long behind in
    (sym bodies, sym (same_back code more is.code rest (ap length codes) backs))

-- nothing is accepted where nothing has come
none_of_nothing : (bytes code rest head : List ℕ) → length head ≡ 2 → [] ≡ ((head ++ bytes) ++ code) ++ rest → ⊥
none_of_nothing bytes code rest [] two same = cc
none_of_nothing bytes code rest (x ∷ head) two same = cc

-- what is accepted of a front of nothing
none_of_front : (d : Direction) (come later bytes rest : List ℕ) → [] ≡ come ++ later → IsAccepted d come bytes rest → ⊥
unfolding further
none_of_front d come later bytes rest same is =
    none_of_nothing bytes is.code (rest ++ later) is.head is.two (same ∙ (further d come bytes rest later is).whole)

-- what is accepted of a front that begins with this record
one_of_front : (d : Direction) (made more come later bytes rest : List ℕ) → length made ≤ 16384
    → record_of d made ++ more ≡ come ++ later → IsAccepted d come bytes rest → (bytes ≡ made) × (rest ++ later ≡ more)
one_of_front d made more come later bytes rest short same is = only_one d made more bytes (rest ++ later) short
    (subst (λ l. IsAccepted d l bytes (rest ++ later)) (sym same) (further d come bytes rest later is))

-- what is accepted of any front of an honest wire was made
pub honest : (from : Direction) (put : List (List ℕ)) (come later : List ℕ) → AreShort put → wire from put ≡ come ++ later
    → AreMade from put come
honest from [] come later short same [] here takes bytes rest is =
    absurd (none_of_front (behind 0 from) here later bytes rest (same ∙ ap (λ l. l ++ later) takes) is)
honest from [] come later short same (first ∷ before) here takes bytes rest is =
    absurd (none_of_front from come later first takes.0 same takes.1)
honest from (made ∷ more) come later short same [] here takes bytes rest is =
    let own = subst (λ d. IsAccepted d here bytes rest) (unmoved from) is in
    let one = one_of_front from made (wire (next from) more) here later bytes rest short.0
    (same ∙ ap (λ l. l ++ later) takes) own in
    ap Some (sym one.0)
honest from (made ∷ more) come later short same (first ∷ before) here takes bytes rest is =
    let one = one_of_front from made (wire (next from) more) come later first takes.0 short.0 same takes.1 in
    honest (next from) more takes.0 later short.1 (sym one.1) before here takes.2 bytes rest
    (subst (λ d. IsAccepted d here bytes rest) (shifted (length before) from) is)

-- the first two bytes tell the same as all
pub told_first : (come : List ℕ) → 2 ≤ length come → from_be_bytes w16 come ≡ from_be_bytes w16 (take 2 come)
told_first [] low = absurd (omega (arith, low))
told_first (x ∷ []) low = absurd (omega (arith, low))
told_first (x ∷ y ∷ more) low = refl

-- what is accepted tells its length at its front
pub told_length : (d : Direction) (come bytes rest : List ℕ) → IsAccepted d come bytes rest → length bytes ≡ from_be_bytes w16 (take 2 come)
told_length d come bytes rest is =
    let behind : List ℕ = bytes ++ (is.code ++ rest) in
    let front : take 2 come ≡ is.head =
    ap (take 2) (is.whole ∙ append_assoc (is.head ++ bytes) is.code rest ∙ append_assoc is.head bytes (is.code ++ rest)) ∙ ap (λ n. take n (is.head ++ behind)) (sym is.two)
    ∙ take-append_seam is.head behind in
    is.told ∙ ap (from_be_bytes w16) (sym front)

-- what is accepted has the code of the next record behind what it tells
pub told_code : (d : Direction) (come bytes rest told behind : List ℕ) → IsAccepted d come bytes rest
    → come ≡ told ++ behind → length told ≡ 2 + from_be_bytes w16 (take 2 come) → code_of_record d told ≡ take 32 behind
told_code d come bytes rest told behind is cut long =
    let own : List ℕ = is.head ++ bytes in
    let same : told ++ behind ≡ own ++ (is.code ++ rest) = sym cut ∙ is.whole ∙ append_assoc own is.code rest in
    let alike : length told ≡ length own =
    omega (arith, long, told_length d come bytes rest is, is.two, length-append is.head bytes) in
    let fronts : told ≡ own = same_front told behind own (is.code ++ rest) alike same in
    let backs : behind ≡ is.code ++ rest = same_back told behind own (is.code ++ rest) alike same in
    ap (code_of_record d) fronts ∙ sym is.own
    ∙ sym (ap (take 32) backs ∙ ap (λ n. take n (is.code ++ rest)) (sym is.size) ∙ take-append_seam is.code rest)

-- what stands before this place, with the code of the next record behind it, is accepted
pub taken_record : (d : Direction) (come told behind : List ℕ) (count : ℕ) → come ≡ told ++ behind → length told ≡ 2 + count
    → count ≡ from_be_bytes w16 (take 2 come) → count ≤ 16384 → 32 ≤ length behind → code_of_record d told ≡ take 32 behind
    → IsAccepted d come (drop 2 told) (drop (2 + count + 32) come)
taken_record d come told behind count cut long tells low enough is =
    let head : List ℕ = take 2 told in
    let bytes : List ℕ = drop 2 told in
    let code : List ℕ = take 32 behind in
    let rest : List ℕ = drop (2 + count + 32) come in
    let whole : head ++ bytes ≡ told = take-append-drop 2 told in
    let size : length bytes ≡ count = omega (arith, long, length-drop 2 told) in
    let two : length head ≡ 2 = omega (arith, long, size, sym (length-append head bytes) ∙ ap length whole) in
    let front : take 2 come ≡ head = ap (take 2) cut ∙ take-append-le 2 told behind (omega (arith, long)) in
    let far : 2 + count + 32 ≡ length told + 32 = omega (arith, long) in
    let left : rest ≡ drop 32 behind =
    ap (λ n. drop n come) far ∙ ap (drop (length told + 32)) cut ∙ drop-append-add told behind 32 in
    let parts : code ++ drop 32 behind ≡ behind = take-append-drop 32 behind in
    let digest : length code ≡ 32 =
    omega (arith, enough, length-drop 32 behind, sym (length-append code (drop 32 behind)) ∙ ap length parts) in
    record {
      head = head;
      code = code;
      two = two;
      told = size ∙ tells ∙ ap (from_be_bytes w16) front;
      short = omega (arith, size, low);
      size = digest;
      own = sym is ∙ ap (code_of_record d) (sym whole);
      whole = cut ∙ ap (λ l. told ++ l) (sym parts) ∙ sym (append_assoc told code (drop 32 behind))
          ∙ ap (λ l. (l ++ code) ++ drop 32 behind) (sym whole) ∙ ap (λ l. ((head ++ bytes) ++ code) ++ l) (sym left);
    }

-- both parts of what has come, by the length of the first
pub cut_at : (n : ℕ) (come told behind : List ℕ) → come ≡ told ++ behind → length told ≡ n → (take n come ≡ told) × (drop n come ≡ behind)
cut_at n come told behind cut long = (
  ap (λ k. take k come) (sym long) ∙ ap (take (length told)) cut ∙ take-append_seam told behind,
  ap (λ k. drop k come) (sym long) ∙ ap (drop (length told)) cut ∙ drop-append_seam told behind,
)

-- where the length alone was put, a front of the record was
pub front_put : {T E : Type 0} (r : Result T E) (d : Direction) (bytes old between new : List ℕ)
    → between ≡ old ++ to_be_bytes w16 (length bytes) → new ≡ between
    → OnErr r ((more rest : List ℕ) × (new ≡ old ++ more) × (record_of d bytes ≡ more ++ rest))
front_put (Ok x) d bytes old between new first same = tt
front_put (Err y) d bytes old between new first same =
    let told : List ℕ = to_be_bytes w16 (length bytes) in
    let code : List ℕ = code_of_record d (told ++ bytes) in
    (told, bytes ++ code, same ∙ first, append_assoc told bytes code)

-- how long it is what begins with an accepted record
long_enough : (d : Direction) (come bytes rest : List ℕ) → IsAccepted d come bytes rest
    → length come ≡ 34 + told_of come + length rest
long_enough d come bytes rest is =
    let own : List ℕ = is.head ++ bytes in
    omega (
      arith,
      told_length d come bytes rest is,
      is.two,
      is.size,
      ap length is.whole ∙ length-append (own ++ is.code) rest,
      length-append own is.code,
      length-append is.head bytes,
    )

pub whole_one : (d : Direction) (come bytes rest : List ℕ) → IsNext d come bytes rest → IsUnfinished d come → ⊥
whole_one d come bytes rest is (inl low) = omega (arith, low, long_enough d come bytes rest is.0)
whole_one d come bytes rest is (inr more) = omega (arith, more.2, long_enough d come bytes rest is.0)

-- both parts of what has come, behind the bytes that the head tells
cut_length : (n : ℕ) (come : List ℕ) → n ≤ length come → length (take n come) ≡ n
cut_length n come low = omega (
  arith,
  low,
  length-drop n come,
  ap length (take-append-drop n come),
  length-append (take n come) (drop n come),
)

pub right_one : (d : Direction) (come bytes rest : List ℕ) → IsNext d come bytes rest → IsWrong d come → ⊥
right_one d come bytes rest is (two, inl long) = omega (arith, long, is.0.short, told_length d come bytes rest is.0)
right_one d come bytes rest is (two, inr (inl spent)) = omega (arith, spent, is.1)
right_one d come bytes rest is (two, inr (inr other)) =
    let n : ℕ = 2 + told_of come in
    other.1 (told_code d come bytes rest (take n come) (drop n come) is.0 (sym (take-append-drop n come))
    (cut_length n come (omega (arith, other.0))))

pub apart : (d : Direction) (come : List ℕ) → IsUnfinished d come → IsWrong d come → ⊥
apart d come (inl low) wrong = omega (arith, low, wrong.0)
apart d come (inr more) (two, inl long) = omega (arith, long, more.0)
apart d come (inr more) (two, inr (inl spent)) = omega (arith, spent, more.1)
apart d come (inr more) (two, inr (inr other)) = omega (arith, other.0, more.2)

-- what a call that succeeded has appended
pub grown : (b : Bool) (new old more : List ℕ) → new ≡ (if b then old ++ more else old) → b ≡ true → new ≡ old ++ more
grown true new old more is done = is
grown false new old more is done = cc

-- what a call that failed has left
pub left : (b : Bool) (new old more : List ℕ) → new ≡ (if b then old ++ more else old) → b ≡ false → new ≡ old
left true new old more is done = cc
left false new old more is done = is
