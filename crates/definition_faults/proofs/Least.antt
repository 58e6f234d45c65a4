-- The least of the lines of some kind, one line further.
use Rattle.std.proofs.Common.{◌≡◌, ◌⊎◌, ℕ, ◌≤◌, Bool, true, false, cond, List, [], ◌∷◌, ◌++◌, Contains, Option, Some, None, filter_map, flat_map}
use Rattle.std.proofs.Common.{zero, suc, ◌+◌, take, get_or, length, ◌<◌, option_map, refl, sym, ap, subst, ◌∙◌, inl, inr, arith}
use Rattle.std.proofs.lemmas.Bool.Decides.{nat_tests}
use Rattle.std.proofs.lemmas.Grind.{flat_map-append}
use Rattle.std.proofs.lemmas.List.{take_more, append-nil, append_assoc}
use Rattle.std.proofs.lemmas.List.Elements.{filter_map-append, Contains-append_left, Contains-append_right, Contains-append_cases}
use Rattle.std.specs.Prelude.{nat_le}
use Rattle.std.specs.List.{cons_option}
use Rattle.composer_parser.specs.declared.Lined.{Lined}
use Rattle.composer_parser.specs.declared.EntryDef.{EntryDef}
use Rattle.composer_parser.specs.declared.JobDef.{JobDef}
use Rattle.composer_parser.specs.declared.ScheduleDef.{ScheduleDef}
use Rattle.definition_faults.specs.Conditions.{IsLeastOf, IsLeastBadLineOf, IsNoted, lesser_of, HasBad, IsRefused, IsRefusedOf}
use Rattle.definition_faults.specs.Conditions.{cond_of_entry, condition_of_entry, condition_of_job, conditions_of, conditions_of_stream as stream_conditions}

-- the same lines
pub least_same : (Has Had : ℕ → Type 0) (o : Option ℕ) → IsLeastOf Had o → ((line : ℕ) → Has line → Had line)
    → ((line : ℕ) → Had line → Has line) → IsLeastOf Has o
least_same Has Had None h to from = λ line there. h line (to line there)
least_same Has Had (Some least) h to from = (from least h.0, λ line there. h.1 line (to line there))

-- and one line besides
pub least_more : (Has Had : ℕ → Type 0) (o : Option ℕ) (new : ℕ) → IsLeastOf Had o
    → ((line : ℕ) → Has line → Had line ⊎ (line ≡ new)) → ((line : ℕ) → Had line → Has line) → Has new
    → IsLeastOf Has (lesser_of o new)
least_more Has Had None new h to from there =
    (there, λ line has. elim (to line has) [ inl had ↦ absurd (h line had) | inr is ↦ omega (arith, is) ])
least_more Has Had (Some least) new h to from there = go (nat_le least new) refl
  where
    go : (b : Bool) → nat_le least new ≡ b → IsLeastOf Has (cond b (Some least) (Some new))
    go true e = (
      from least h.0,
      λ line has.
          elim (to line has) [ inl had ↦ h.1 line had | inr is ↦ (let low : least ≤ new = grind (arith, nat_tests) in omega (arith, is, low)) ],
    )
    go false e = (
      there,
      λ line has.
          elim (to line has) [
            | inl had ↦
                let low : least ≤ line = h.1 line had in
                let high : new ≤ least = grind (arith, nat_tests) in
                omega (arith, low, high)
            | inr is ↦ omega (arith, is)
          ],
    )

-- bad conditions of two lists
pub bad_either : (xs ys : List (ℕ × List ℕ)) (line : ℕ) → HasBad (xs ++ ys) line → HasBad xs line ⊎ HasBad ys line
bad_either xs ys line h =
    elim (Contains-append_cases xs ys (line, h.0) h.1) [ inl l ↦ inl (h.0, l, h.2) | inr r ↦ inr (h.0, r, h.2) ]

pub bad_left : (xs ys : List (ℕ × List ℕ)) (line : ℕ) → HasBad xs line → HasBad (xs ++ ys) line
bad_left xs ys line h = (h.0, Contains-append_left xs ys (line, h.0) h.1, h.2)

pub bad_right : (xs ys : List (ℕ × List ℕ)) (line : ℕ) → HasBad ys line → HasBad (xs ++ ys) line
bad_right xs ys line h = (h.0, Contains-append_right xs ys (line, h.0) h.1, h.2)

-- the condition of one item
abbrev pub told : ℕ → Option (List ℕ) → List (ℕ × List ℕ)
told line None = []
told line (Some text) = (line, text) ∷ []

first_pair : (line l : ℕ) (text other : List ℕ) → Contains {X = ℕ × List ℕ} ((line, text) ∷ []) (l, other) → (l ≡ line) × (other ≡ text)
first_pair line l text other (zero, less, is) =
    (ap (λ (p : ℕ × List ℕ). p.0) (sym is), ap (λ (p : ℕ × List ℕ). p.1) (sym is))
first_pair line l text other (suc k, less, is) = absurd (omega (arith, less))

-- it is told exactly where it is none
pub told_bad : (line : ℕ) (cond : Option (List ℕ)) (l : ℕ) → HasBad (told line cond) l → (l ≡ line) × IsRefusedOf cond
told_bad line None l (text, (k, less, is), bad) = absurd (omega (arith, less))
told_bad line (Some own) l (text, here, bad) =
    let same = first_pair line l own text here in
    (same.0, subst IsRefused same.1 bad)

pub bad_told : (line : ℕ) (cond : Option (List ℕ)) → IsRefusedOf cond → HasBad (told line cond) line
bad_told line None bad = absurd bad
bad_told line (Some own) bad = (own, (0, omega arith, refl), bad)

-- one condition further
pub least_noted : (Has Had : ℕ → Type 0) (before found : Option ℕ) (line : ℕ) (cond : Option (List ℕ))
    → ((l : ℕ) → Has l → Had l ⊎ HasBad (told line cond) l) → ((l : ℕ) → Had l → Has l)
    → ((l : ℕ) → HasBad (told line cond) l → Has l)
    → IsLeastOf Had before → IsNoted before line cond found → IsLeastOf Has found
least_noted Has Had before found line cond to from put h (inl bad) =
    subst (IsLeastOf Has) (sym bad.1)
    (least_more Has Had before line h
    (λ l has. elim (to l has) [ inl had ↦ inl had | inr new ↦ inr (told_bad line cond l new).0 ])
    from (put line (bad_told line cond bad.0)))
least_noted Has Had before found line cond to from put h (inr good) =
    subst (IsLeastOf Has) (sym good.1)
    (least_same Has Had before h
    (λ l has. elim (to l has) [ inl had ↦ had | inr new ↦ absurd (good.0 (told_bad line cond l new).1) ])
    from)

-- of one item of a list
told_one : (line : ℕ) (cond : Option (List ℕ)) → cons_option (option_map (λ text. (line, text)) cond) [] ≡ told line cond
told_one line None = refl
told_one line (Some text) = refl

one_more : {X : Type 0} (f : X → Option (ℕ × List ℕ)) (xs : List X) (i : ℕ) (x : X) (line : ℕ) (cond : Option (List ℕ))
    → i < length xs → x ≡ get_or xs i x → f x ≡ option_map (λ text. (line, text)) cond
    → filter_map f (take (i + 1) xs) ≡ filter_map f (take i xs) ++ told line cond
one_more f xs i x line cond low at own =
    ap (filter_map f) (take_more xs i x low ∙ ap (λ y. take i xs ++ y ∷ []) (sym at))
    ∙ (filter_map-append f (take i xs) (x ∷ [])
    ∙ ap (λ l. filter_map f (take i xs) ++ l) (ap (λ o. cons_option o []) own ∙ told_one line cond))

-- one job further
pub job_more : (jobs : List (Lined JobDef)) (i : ℕ) (job : Lined JobDef) (before found : Option ℕ)
    → i < length jobs → job ≡ get_or jobs i job
    → IsLeastOf (HasBad (filter_map condition_of_job (take i jobs))) before
    → IsNoted before job.line job.item.work.cond found
    → IsLeastOf (HasBad (filter_map condition_of_job (take (i + 1) jobs))) found
job_more jobs i job before found low at h noted =
    let done = filter_map condition_of_job (take i jobs) in
    let new = told job.line job.item.work.cond in
    subst (λ (l : List (ℕ × List ℕ)). IsLeastOf (HasBad l) found)
    (sym (one_more condition_of_job jobs i job job.line job.item.work.cond low at refl))
    (least_noted (HasBad (done ++ new)) (HasBad done) before found job.line job.item.work.cond
    (λ l has. bad_either done new l has) (λ l had. bad_left done new l had) (λ l there. bad_right done new l there) h noted)

-- one entry further
pub entry_more : (first : Option ℕ) (entries : List (Lined EntryDef)) (i : ℕ) (entry : Lined EntryDef) (before found : Option ℕ)
    → i < length entries → entry ≡ get_or entries i entry
    → IsLeastBadLineOf first (take i entries) before
    → IsNoted before entry.line (cond_of_entry entry.item) found
    → IsLeastBadLineOf first (take (i + 1) entries) found
entry_more first entries i entry before found low at h noted =
    let done = conditions_of (take i entries) in
    let new = told entry.line (cond_of_entry entry.item) in
    subst (λ (all : List (ℕ × List ℕ)). IsLeastOf (λ line. (Some line ≡ first) ⊎ HasBad all line) found)
    (sym (one_more condition_of_entry entries i entry entry.line (cond_of_entry entry.item) low at refl))
    (least_noted (λ line. (Some line ≡ first) ⊎ HasBad (done ++ new) line) (λ line. (Some line ≡ first) ⊎ HasBad done line)
    before found entry.line (cond_of_entry entry.item)
    (λ l has.
    elim has [
      | inl is ↦ inl (inl is)
      | inr there ↦ elim (bad_either done new l there) [ inl had ↦ inl (inr had) | inr more ↦ inr more ]
    ])
    (λ l had. elim had [ inl is ↦ inl is | inr there ↦ inr (bad_left done new l there) ])
    (λ l there. inr (bad_right done new l there)) h noted)

-- one stream further
pub stream_more : (jobs : List (ℕ × List ℕ)) (schedules : List (Lined ScheduleDef)) (i : ℕ) (s : Lined ScheduleDef) (before found : Option ℕ)
    → i < length schedules → s ≡ get_or schedules i s
    → IsLeastOf (HasBad (jobs ++ flat_map stream_conditions (take i schedules))) before
    → IsLeastBadLineOf before s.item.entries found
    → IsLeastOf (HasBad (jobs ++ flat_map stream_conditions (take (i + 1) schedules))) found
stream_more jobs schedules i s before found low at h more =
    let done = jobs ++ flat_map stream_conditions (take i schedules) in
    let new = conditions_of s.item.entries in
    let all : flat_map stream_conditions (take (i + 1) schedules)
    ≡ flat_map stream_conditions (take i schedules) ++ new =
    ap (flat_map stream_conditions) (take_more schedules i s low ∙ ap (λ y. take i schedules ++ y ∷ []) (sym at))
    ∙ (flat_map-append stream_conditions (take i schedules) (s ∷ [])
    ∙ ap (λ l. flat_map stream_conditions (take i schedules) ++ l) (append-nil new)) in
    subst (λ (l : List (ℕ × List ℕ)). IsLeastOf (HasBad l) found)
    (append_assoc jobs (flat_map stream_conditions (take i schedules)) new ∙ ap (λ l. jobs ++ l) (sym all))
    (least_both before found done new h more)
  where
    least_both : (before found : Option ℕ) (done new : List (ℕ × List ℕ)) → IsLeastOf (HasBad done) before
        → IsLeastOf (λ line. (Some line ≡ before) ⊎ HasBad new line) found → IsLeastOf (HasBad (done ++ new)) found
    least_both None found done new h more =
        least_same (HasBad (done ++ new)) (λ line. (Some line ≡ None) ⊎ HasBad new line) found more
        (λ l has. elim (bad_either done new l has) [ inl had ↦ absurd (h l had) | inr there ↦ inr there ])
        (λ l has. elim has [ inl is ↦ cc | inr there ↦ bad_right done new l there ])
    least_both (Some least) None done new h more = absurd (more least (inl refl))
    least_both (Some least) (Some f) done new h more = (
      elim more.0 [
        | inl is ↦ bad_left done new f (subst (HasBad done) (let e : least ≡ f = cc in e) h.0)
        | inr there ↦ bad_right done new f there
      ],
      λ l has.
          elim (bad_either done new l has) [
            | inl had ↦
                let low : f ≤ least = more.1 least (inl refl) in
                let high : least ≤ l = h.1 l had in
                omega (arith, low, high)
            | inr there ↦ more.1 l (inr there)
          ],
    )
