-- A file of its owner is not refused, and any other for one cause at one place.
use Rattle.std.proofs.Common.{◌≡◌, ◌≢◌, ◌⊎◌, inl, inr, ℕ, ◌+◌, ◌<◌, ◌≤◌, List, [], ◌∷◌, ◌++◌, length, take, drop, refl}
use Rattle.std.proofs.Common.{sym, ◌∙◌, ap, subst, arith, append_assoc, length-append, Some, None}
use Rattle.std.specs.declared.option.Option.{Option}
use Rattle.std.specs.List.{AllByRecursion}
use Rattle.std.specs.Int.{w32, from_be_bytes}
use Rattle.std.proofs.lemmas.Nat.{from_be_bytes-to_be_bytes_4}
use Rattle.std.proofs.lemmas.Bool.{cases_lt}
use Rattle.std.proofs.lemmas.List.{take_at, drop_at, take-append-le}
use Rattle.lemmas.proofs.Lists.{take_less}
use Rattle.model.specs.Fields.{u32_bytes}
use Rattle.outside.specs.Records.{longest_body, longest_file}
use Rattle.outside.specs.Kept.{Bodies}
use Rattle.message_file.specs.Files.{head_of, record_of, records, IsFileOf, IsNoRecord, DiffersAt, BreaksAt, first_record}
use Rattle.message_file.specs.Refusals.{RefusesFile}
use Rattle.message_file.specs.declared.attaches.AttachFault.{AttachFault}
use Rattle.message_file.specs.declared.attaches.AttachFault.TheVariants.{NotAMessageFile, OtherOwner, Disk, NoMemory}
use Rattle.message_file.proofs.Reading.{record_front, length-record}

abbrev Short : Bodies → Type 0
Short bodies = AllByRecursion (λ (body : List ℕ). length body ≤ longest_body) bodies

-- where a record stands with room behind it, there is one
is_record : (place : ℕ) (body tail : List ℕ) → length body ≤ longest_body → place + 5 + length body < longest_file → IsNoRecord place (record_of body ++ tail) → ⊥
is_record place body tail short low none =
    let is : record_of body ++ tail ≡ 1 ∷ (u32_bytes (length body) ++ (body ++ tail)) = append_assoc (1 ∷ u32_bytes (length body)) body tail in
    let no_record : IsNoRecord place (1 ∷ (u32_bytes (length body) ++ (body ++ tail))) = subst (IsNoRecord place) is none in
    let rest_is : drop 4 (u32_bytes (length body) ++ (body ++ tail)) ≡ body ++ tail = drop_at (u32_bytes (length body)) (body ++ tail) 4 refl in
    elim no_record.1 [
      | inl few ↦ omega (arith, few, length-append (u32_bytes (length body)) (body ++ tail), four)
      | inr (inl long) ↦ omega (arith, long, length_is, short)
      | inr (inr (inl cut_off)) ↦ omega (arith, cut_off, length_is, ap length rest_is, length-append body tail)
      | inr (inr (inr far)) ↦ omega (arith, far, length_is, low)
    ]
  where
    four : length (u32_bytes (length body)) ≡ 4
    four = refl

    length_is : from_be_bytes w32 (take 4 (u32_bytes (length body) ++ (body ++ tail))) ≡ length body
    length_is = ap (λ (l : List ℕ). from_be_bytes w32 l) (take_at (u32_bytes (length body)) (body ++ tail) 4 refl) ∙ from_be_bytes-to_be_bytes_4 (length body) (omega (arith, short))

-- a record that was read, and what stands behind it
abbrev front_body : Option (List ℕ × List ℕ) → List ℕ
front_body None = []
front_body (Some r) = r.0

abbrev front_rest : Option (List ℕ × List ℕ) → List ℕ
front_rest None = []
front_rest (Some r) = r.1

-- what stands behind the records goes one way: a closed gate, or no record
one_way : (place : ℕ) (K other : Bodies) (gate : ℕ) (rest tail : List ℕ) → Short K → Short other → gate ≢ 1 → place + length (records K) < longest_file
    → records K ++ gate ∷ rest ≡ records other ++ tail → IsNoRecord (place + length (records other)) tail → ⊥
one_way place [] [] gate rest tail each each_other shut low same none =
    let here : IsNoRecord (place + 0) (gate ∷ rest) = subst (IsNoRecord (place + 0)) (sym same) none in shut here.0
one_way place [] (o ∷ other) gate rest tail each each_other shut low same none =
    let e : gate ≡ 1 = cc same in shut e
one_way place (b ∷ K) [] gate rest tail each each_other shut low same none =
    let there : tail ≡ record_of b ++ (records K ++ gate ∷ rest) = sym same ∙ append_assoc (record_of b) (records K) (gate ∷ rest) in
    is_record (place + 0) b (records K ++ gate ∷ rest) each.0 (omega (arith, low, length-append (record_of b) (records K), length-record b)) (subst (IsNoRecord (place + 0)) there none)
one_way place (b ∷ K) (o ∷ other) gate rest tail each each_other shut low same none =
    let X = records K ++ gate ∷ rest in
    let Y = records other ++ tail in
    let both : record_of b ++ X ≡ record_of o ++ Y = sym (append_assoc (record_of b) (records K) (gate ∷ rest)) ∙ same ∙ append_assoc (record_of o) (records other) tail in
    let read : Some (b, X) ≡ Some (o, Y) = sym (record_front b X (omega (arith, each.0))) ∙ ap first_record both ∙ record_front o Y (omega (arith, each_other.0)) in
    let body : b ≡ o = ap front_body read in
    let next : X ≡ Y = ap front_rest read in
    let size : length (record_of o) ≡ 5 + length b = length-record o ∙ ap (λ (l : List ℕ). 5 + length l) (sym body) in
    one_way (place + (5 + length b)) K other gate rest tail each.1 each_other.1 shut (omega (arith, low, length-append (record_of b) (records K), length-record b)) next
    (subst (λ (n : ℕ). IsNoRecord n tail) (at size) none)
  where
    at : length (record_of o) ≡ 5 + length b → place + length (records (o ∷ other)) ≡ place + (5 + length b) + length (records other)
    at size = omega (arith, size, length-append (record_of o) (records other))

-- what stands behind the head
behind_head : (owner : ℕ) (bodies : Bodies) (tail file : List ℕ) → file ≡ head_of owner ++ records bodies ++ tail → drop 8 file ≡ records bodies ++ tail
behind_head owner bodies tail file is =
    ap (λ (l : List ℕ). drop 8 l) (is ∙ append_assoc (head_of owner) (records bodies) tail) ∙ drop_at (head_of owner) (records bodies ++ tail) 8 refl

not_broken : (owner : ℕ) (file : List ℕ) (bodies : Bodies) (place : ℕ) → IsFileOf owner file bodies → BreaksAt owner file place → ⊥
not_broken owner file bodies place is breaks =
    one_way 8 bodies breaks.bodies is.gate is.rest (drop place file) is.room.each breaks.room.each is.closed is.room.all
    (sym (behind_head owner bodies (is.gate ∷ is.rest) file is.stands) ∙ behind_head owner breaks.bodies (drop place file) file breaks.stands)
    (subst (λ (n : ℕ). IsNoRecord n (drop place file)) breaks.behind breaks.broken)

-- a file with its owner's head differs nowhere in it
has_head : (owner : ℕ) (file tail : List ℕ) (place : ℕ) → file ≡ head_of owner ++ tail → DiffersAt owner file place → ⊥
has_head owner file tail place whole differs =
    differs.differs (ap (λ (l : List ℕ). take (place + 1) l) whole ∙ take-append-le (place + 1) (head_of owner) tail (omega (arith, differs.within, eight)))
  where
    eight : length (head_of owner) ≡ 8
    eight = refl

not_differing : (owner : ℕ) (file : List ℕ) (bodies : Bodies) (place : ℕ) → IsFileOf owner file bodies → DiffersAt owner file place → ⊥
not_differing owner file bodies place is =
    has_head owner file (records bodies ++ is.gate ∷ is.rest) place (is.stands ∙ append_assoc (head_of owner) (records bodies) (is.gate ∷ is.rest))

pub not_refused : (owner : ℕ) (file : List ℕ) (bodies : Bodies) (fault : AttachFault) → IsFileOf owner file bodies → RefusesFile owner fault (Some file) → fault ≡ Disk
not_refused owner file bodies (NotAMessageFile place) is refuses = elim refuses [
  | inl differs ↦ absurd (not_differing owner file bodies place is differs.0)
  | inr breaks ↦ absurd (not_broken owner file bodies place is breaks)
]
not_refused owner file bodies (OtherOwner place) is refuses = absurd (not_differing owner file bodies place is refuses.0)
not_refused owner file bodies Disk is refuses = refl
not_refused owner file bodies NoMemory is refuses = absurd refuses

-- behind records that break off nothing goes on
two_ways : (place : ℕ) (K other : Bodies) (tail behind : List ℕ) → Short K → Short other → place + length (records K) < longest_file → place + length (records other) < longest_file
    → records K ++ tail ≡ records other ++ behind → IsNoRecord (place + length (records K)) tail → IsNoRecord (place + length (records other)) behind → length (records K) ≡ length (records other)
two_ways place [] [] tail behind each each_other low low_other same none none_other = refl
two_ways place [] (o ∷ other) tail behind each each_other low low_other same none none_other =
    let there : tail ≡ record_of o ++ (records other ++ behind) = same ∙ append_assoc (record_of o) (records other) behind in
    absurd (is_record (place + 0) o (records other ++ behind) each_other.0 (omega (arith, low_other, length-append (record_of o) (records other), length-record o)) (subst (IsNoRecord (place + 0)) there none))
two_ways place (b ∷ K) [] tail behind each each_other low low_other same none none_other =
    let there : behind ≡ record_of b ++ (records K ++ tail) = sym same ∙ append_assoc (record_of b) (records K) tail in
    absurd (is_record (place + 0) b (records K ++ tail) each.0 (omega (arith, low, length-append (record_of b) (records K), length-record b)) (subst (IsNoRecord (place + 0)) there none_other))
two_ways place (b ∷ K) (o ∷ other) tail behind each each_other low low_other same none none_other =
    let X = records K ++ tail in
    let Y = records other ++ behind in
    let both : record_of b ++ X ≡ record_of o ++ Y = sym (append_assoc (record_of b) (records K) tail) ∙ same ∙ append_assoc (record_of o) (records other) behind in
    let read : Some (b, X) ≡ Some (o, Y) = sym (record_front b X (omega (arith, each.0))) ∙ ap first_record both ∙ record_front o Y (omega (arith, each_other.0)) in
    let body : b ≡ o = ap front_body read in
    let next : X ≡ Y = ap front_rest read in
    let size : length (record_of o) ≡ 5 + length b = length-record o ∙ ap (λ (l : List ℕ). 5 + length l) (sym body) in
    let rest = two_ways (place + (5 + length b)) K other tail behind each.1 each_other.1 (omega (arith, low, length-append (record_of b) (records K), length-record b)) (omega (arith, low_other, length-append (record_of o) (records other), size)) next
    (subst (λ (n : ℕ). IsNoRecord n tail) (at b K (length-record b)) none) (subst (λ (n : ℕ). IsNoRecord n behind) (at o other size) none_other) in
    omega (arith, rest, length-append (record_of b) (records K), length-record b, length-append (record_of o) (records other), size)
  where
    at : (x : List ℕ) (xs : Bodies) → length (record_of x) ≡ 5 + length b → place + length (records (x ∷ xs)) ≡ place + (5 + length b) + length (records xs)
    at x xs size = omega (arith, size, length-append (record_of x) (records xs))

one_break : (owner : ℕ) (file : List ℕ) (p q : ℕ) → BreaksAt owner file p → BreaksAt owner file q → p ≡ q
one_break owner file p q first second =
    let same = two_ways 8 first.bodies second.bodies (drop p file) (drop q file) first.room.each second.room.each first.room.all second.room.all
    (sym (behind_head owner first.bodies (drop p file) file first.stands) ∙ behind_head owner second.bodies (drop q file) file second.stands)
    (subst (λ (n : ℕ). IsNoRecord n (drop p file)) first.behind first.broken) (subst (λ (n : ℕ). IsNoRecord n (drop q file)) second.behind second.broken) in
    omega (arith, same, first.behind, second.behind)

breaks_differs : (owner : ℕ) (file : List ℕ) (p q : ℕ) → BreaksAt owner file p → DiffersAt owner file q → ⊥
breaks_differs owner file p q breaks differs =
    has_head owner file (records breaks.bodies ++ drop p file) q (breaks.stands ∙ append_assoc (head_of owner) (records breaks.bodies) (drop p file)) differs

not_before : (owner : ℕ) (file : List ℕ) (p q : ℕ) → DiffersAt owner file p → DiffersAt owner file q → p < q → ⊥
not_before owner file p q first second lt =
    first.differs (sym (take_less (p + 1) q file (omega (arith, lt))) ∙ ap (λ (l : List ℕ). take (p + 1) l) second.same ∙ take_less (p + 1) q (head_of owner) (omega (arith, lt)))

one_difference : (owner : ℕ) (file : List ℕ) (p q : ℕ) → DiffersAt owner file p → DiffersAt owner file q → p ≡ q
one_difference owner file p q first second = elim (cases_lt p q) [
  | inl lt ↦ absurd (not_before owner file p q first second lt)
  | inr ge ↦ elim (cases_lt q p) [
    | inl gt ↦ absurd (not_before owner file q p second first gt)
    | inr le ↦ omega (arith, ge, le)
  ]
]

mixed : (owner : ℕ) (file : List ℕ) (p q : ℕ) → ((DiffersAt owner file p × (p < 6)) ⊎ BreaksAt owner file p) → (DiffersAt owner file q × (6 ≤ q)) → ⊥
mixed owner file p q (inl a) b = omega (arith, one_difference owner file p q a.0 b.0, a.1, b.1)
mixed owner file p q (inr a) b = breaks_differs owner file p q a b.0

pub one_refusal : (owner : ℕ) (file : List ℕ) (a b : AttachFault) → RefusesFile owner a (Some file) → RefusesFile owner b (Some file) → a ≢ Disk → b ≢ Disk → a ≡ b
one_refusal owner file Disk b first second not other = absurd (not refl)
one_refusal owner file NoMemory b first second not other = absurd first
one_refusal owner file a Disk first second not other = absurd (other refl)
one_refusal owner file a NoMemory first second not other = absurd second
one_refusal owner file (OtherOwner p) (OtherOwner q) first second not other = ap OtherOwner (one_difference owner file p q first.0 second.0)
one_refusal owner file (NotAMessageFile p) (OtherOwner q) first second not other = absurd (mixed owner file p q first second)
one_refusal owner file (OtherOwner p) (NotAMessageFile q) first second not other = absurd (mixed owner file q p second first)
one_refusal owner file (NotAMessageFile p) (NotAMessageFile q) first second not other = ap NotAMessageFile (places first second)
  where
    places : ((DiffersAt owner file p × (p < 6)) ⊎ BreaksAt owner file p) → ((DiffersAt owner file q × (q < 6)) ⊎ BreaksAt owner file q) → p ≡ q
    places (inl a) (inl b) = one_difference owner file p q a.0 b.0
    places (inl a) (inr b) = absurd (breaks_differs owner file q p b a.0)
    places (inr a) (inl b) = absurd (breaks_differs owner file p q a b.0)
    places (inr a) (inr b) = one_break owner file p q a b
