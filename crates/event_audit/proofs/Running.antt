-- Numbers that go on from one another, one stream or job further.
use Rattle.std.proofs.Common.{[], ℕ, ◌+◌, ◌++◌, ◌∷◌, ◌∙◌, ◌≡◌, ◌≤◌, List, Some, ap, arith, drop, length, map, refl}
use Rattle.std.proofs.Common.{subst, suc, sym, zero}
use Rattle.std.proofs.lemmas.List.{length-append, map-append}
use Rattle.std.specs.Prelude.{slice_get}
use Rattle.model_laws.proofs.Numbers.{numbers-length}
use Rattle.lemmas.proofs.Lists.{drop_at_end}
use Rattle.model.specs.Types.{JobDoc, StreamDoc}
use Rattle.model.specs.Words.{numbers_from}
use Rattle.model.specs.Sound.{jobs_in_docs}
use Rattle.event_audit.specs.Numbers.{GoOnFrom, GoOnTo}
use Rattle.event_audit.proofs.Behind.{left_some}

-- the items have the numbers after the last one, in order
abbrev pub GoesOn : {X : Type 0} → (X → ℕ) → ℕ → List X → Type 0
GoesOn number last xs = map number xs ≡ numbers_from (1 + last) (length xs)

head : {a b : ℕ} {ps qs : List ℕ} → a ∷ ps ≡ b ∷ qs → a ≡ b
head e = cc

tail : {a b : ℕ} {ps qs : List ℕ} → a ∷ ps ≡ b ∷ qs → ps ≡ qs
tail e = cc

module _ {X : Type 0} (number : X → ℕ) where
  step : (last : ℕ) (x : X) (xs : List X) → number x ≡ 1 + last
      → numbers_from (1 + last) (length (x ∷ xs)) ≡ number x ∷ numbers_from (1 + number x) (length xs)
  step last x xs e =
      let more : 1 + last + 1 ≡ 1 + number x = omega (arith, e) in
      ap (λ n. n ∷ numbers_from (1 + last + 1) (length xs)) (sym e)
      ∙ ap (λ n. number x ∷ numbers_from n (length xs)) more

  pub one_forth : (last : ℕ) (xs : List X) (i : ℕ) (x : X) → slice_get xs i ≡ Some x → number x ≡ 1 + last
      → GoesOn number last (drop i xs) → GoesOn number (number x) (drop (i + 1) xs)
  one_forth last xs i x there e h =
      go (subst (λ (l : List X). GoesOn number last l) (left_some xs i x there) h)
    where
      go : GoesOn number last (x ∷ drop (i + 1) xs) → GoesOn number (number x) (drop (i + 1) xs)
      go g = tail (g ∙ step last x (drop (i + 1) xs) e)

  pub one_back : (last : ℕ) (xs : List X) (i : ℕ) (x : X) → slice_get xs i ≡ Some x → number x ≡ 1 + last
      → GoesOn number (number x) (drop (i + 1) xs) → GoesOn number last (drop i xs)
  one_back last xs i x there e h =
      subst (λ (l : List X). GoesOn number last l) (sym (left_some xs i x there))
      (ap (λ (ns : List ℕ). number x ∷ ns) h ∙ sym (step last x (drop (i + 1) xs) e))

  -- another number does not go on
  pub one_wrong : (last : ℕ) (xs : List X) (i : ℕ) (x : X) → slice_get xs i ≡ Some x → (number x ≡ 1 + last → ⊥)
      → GoesOn number last (drop i xs) → ⊥
  one_wrong last xs i x there apart h =
      go (subst (λ (l : List X). GoesOn number last l) (left_some xs i x there) h)
    where
      go : GoesOn number last (x ∷ drop (i + 1) xs) → ⊥
      go g = apart (head g)

  -- nothing is left
  pub none_wrong : (last : ℕ) (xs : List X) (i : ℕ) → length xs ≤ i → GoesOn number last (drop i xs)
  none_wrong last xs i h = subst (λ (l : List X). GoesOn number last l) (sym (drop_at_end xs i h)) refl

-- the number of a stream, of a job
abbrev pub stream_no : StreamDoc → ℕ
stream_no d = d.no

abbrev pub job_no : JobDoc → ℕ
job_no j = j.no

-- the streams have the numbers after the last one, in order
abbrev pub StreamsGoOn : ℕ → List StreamDoc → Type 0
StreamsGoOn last docs = map (λ (d : StreamDoc). d.no) docs ≡ numbers_from (1 + last) (length docs)

-- the jobs of the streams have them
abbrev pub JobsGoOn : ℕ → List StreamDoc → Type 0
JobsGoOn last docs =
    map (λ (j : JobDoc). j.no) (jobs_in_docs docs) ≡ numbers_from (1 + last) (length (jobs_in_docs docs))

-- two lists that are joined are those of another joining where the first ones have one length
joined : (a b c d : List ℕ) → a ++ b ≡ c ++ d → length a ≡ length c → (a ≡ c) × (b ≡ d)
joined [] b [] d e l = (refl, e)
joined [] b (y ∷ c) d e l = absurd (omega (arith, l))
joined (x ∷ a) b [] d e l = absurd (omega (arith, l))
joined (x ∷ a) b (y ∷ c) d e l =
    let rest : (a ≡ c) × (b ≡ d) = joined a b c d (tail e) (omega (arith, l)) in
    let first : x ≡ y = head e in
    (rw (first, rest.0) refl, rest.1)

numbers_append : (n a b : ℕ) → numbers_from n (a + b) ≡ numbers_from n a ++ numbers_from (n + a) b
numbers_append n zero b =
    let count : 0 + b ≡ b = omega arith in
    let from : n ≡ n + 0 = omega arith in
    ap (λ (c : ℕ). numbers_from n c) count ∙ ap (λ (m : ℕ). numbers_from m b) from
numbers_append n (suc a) b =
    let count : suc a + b ≡ suc (a + b) = omega arith in
    let from : n + 1 + a ≡ n + suc a = omega arith in
    ap (λ (c : ℕ). numbers_from n c) count ∙ ap (λ (l : List ℕ). n ∷ l) (numbers_append (n + 1) a b)
    ∙ ap (λ (m : ℕ). n ∷ (numbers_from (n + 1) a ++ numbers_from m b)) from

map_length : (js : List JobDoc) → length (map job_no js) ≡ length js
map_length [] = refl
map_length (j ∷ js) = ap suc (map_length js)

-- jobs in two parts
both_forth : (last : ℕ) (js ks : List JobDoc) → GoOnFrom last (js ++ ks)
    → GoOnFrom last js × GoOnFrom (last + length js) ks
both_forth last js ks h =
    let more : 1 + last + length js ≡ 1 + (last + length js) = omega arith in
    let all : map job_no js ++ map job_no ks
    ≡ numbers_from (1 + last) (length js) ++ numbers_from (1 + (last + length js)) (length ks) =
    sym (map-append job_no js ks) ∙ h
    ∙ ap (λ n. numbers_from (1 + last) n) (length-append js ks)
    ∙ numbers_append (1 + last) (length js) (length ks)
    ∙ ap (λ n. numbers_from (1 + last) (length js) ++ numbers_from n (length ks)) more
    in
    joined (map job_no js) (map job_no ks) (numbers_from (1 + last) (length js))
    (numbers_from (1 + (last + length js)) (length ks)) all
    (map_length js ∙ sym (numbers-length (1 + last) (length js)))

both_back : (last : ℕ) (js ks : List JobDoc) → GoOnFrom last js → GoOnFrom (last + length js) ks
    → GoOnFrom last (js ++ ks)
both_back last js ks h k =
    let more : 1 + (last + length js) ≡ 1 + last + length js = omega arith in
    map-append job_no js ks
    ∙ ap (λ l. l ++ map job_no ks) h
    ∙ ap (λ l. numbers_from (1 + last) (length js) ++ l) (k ∙ ap (λ n. numbers_from n (length ks)) more)
    ∙ sym (numbers_append (1 + last) (length js) (length ks))
    ∙ ap (λ n. numbers_from (1 + last) n) (sym (length-append js ks))

pub jobs_forth : (last next : ℕ) (docs : List StreamDoc) (i : ℕ) (d : StreamDoc) → slice_get docs i ≡ Some d
    → GoOnTo last d.jobs next → JobsGoOn last (drop i docs) → JobsGoOn next (drop (i + 1) docs)
jobs_forth last next docs i d there go_ h =
    subst (λ (n : ℕ). JobsGoOn n (drop (i + 1) docs)) (sym go_.end_)
    (both_forth last d.jobs (jobs_in_docs (drop (i + 1) docs))
    (subst (λ (l : List StreamDoc). JobsGoOn last l) (left_some docs i d there) h)).1

pub jobs_back : (last next : ℕ) (docs : List StreamDoc) (i : ℕ) (d : StreamDoc) → slice_get docs i ≡ Some d
    → GoOnTo last d.jobs next → JobsGoOn next (drop (i + 1) docs) → JobsGoOn last (drop i docs)
jobs_back last next docs i d there go_ h =
    subst (λ (l : List StreamDoc). JobsGoOn last l) (sym (left_some docs i d there))
    (both_back last d.jobs (jobs_in_docs (drop (i + 1) docs)) go_.go_on
    (subst (λ (n : ℕ). JobsGoOn n (drop (i + 1) docs)) go_.end_ h))

pub jobs_wrong : (last : ℕ) (docs : List StreamDoc) (i : ℕ) (d : StreamDoc) → slice_get docs i ≡ Some d
    → (GoOnFrom last d.jobs → ⊥) → JobsGoOn last (drop i docs) → ⊥
jobs_wrong last docs i d there apart h =
    apart
    (both_forth last d.jobs (jobs_in_docs (drop (i + 1) docs))
    (subst (λ (l : List StreamDoc). JobsGoOn last l) (left_some docs i d there) h)).0

pub jobs_none : (last : ℕ) (docs : List StreamDoc) (i : ℕ) → length docs ≤ i → JobsGoOn last (drop i docs)
jobs_none last docs i h = subst (λ (l : List StreamDoc). JobsGoOn last l) (sym (drop_at_end docs i h)) refl
