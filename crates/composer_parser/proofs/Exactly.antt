-- The answer of reading all tokens has its cause, and comes where its cause is there.
use Rattle.std.proofs.Common.{◌≡◌, ◌⊎◌, inl, inr, true, List, [], ◌∷◌, ◌++◌}
use Rattle.std.proofs.Common.{refl, ap, sym, subst, ◌∙◌, append_assoc, append-nil}
use Rattle.lemmas.proofs.Booleans.{and_parts}
use Rattle.composer_parser.specs.Kinds.{Spelled}
use Rattle.composer_parser.specs.declared.stops.Why.{Why}
use Rattle.composer_parser.specs.Grammars.{Grammar, Spells}
use Rattle.composer_parser.specs.Reading.{Outcome, done, stuck, read, decided, has}
use Rattle.composer_parser.specs.Answers.{Begins, StopsAt, whole, read_whole, ReadsExactly, is_sound}
use Rattle.composer_parser.proofs.Halts.{Good, good, CanGoOn, sentence_of}
use Rattle.composer_parser.proofs.Completes.{complete}

-- a sentence is read whole
sentence_read : {C : Type 0} (g : Grammar C) (ts : List Spelled) (c : C) → decided g ≡ true → Spells g ts c
    → read g ts ≡ done c []
sentence_read g ts c d s = ap (λ zs. read g zs) (sym (append-nil ts)) ∙ complete g d ts [] c s refl

can_begin : {C : Type 0} (g : Grammar C) (xs : List Spelled) → has g ≡ true → CanGoOn (Spells g) xs → Begins g xs
can_begin g xs h (inl none) =
    let s = sentence_of g h in
    let P : List Spelled → Type 0 = λ zs. Spells g (zs ++ s.0) s.1 in (s.0, s.1, subst P (sym none) s.2)
can_begin g xs h (inr (more, c, s)) = (more, c, s)

-- what is left of a list that is cut at two places
two_cuts : (xs us ys vs : List Spelled) → xs ++ us ≡ ys ++ vs
    → ((zs : List Spelled) × (ys ≡ xs ++ zs) × (us ≡ zs ++ vs)) ⊎ ((zs : List Spelled) × (xs ≡ ys ++ zs) × (vs ≡ zs ++ us))
two_cuts [] us ys vs h = inl (ys, refl, h)
two_cuts (x ∷ xs) us [] vs h = inr (x ∷ xs, refl, sym h)
two_cuts (x ∷ xs) us (y ∷ ys) vs h = longer (two_cuts xs us ys vs tails)
  where
    tails : xs ++ us ≡ ys ++ vs
    tails = cc

    heads : x ≡ y
    heads = cc

    longer : ((zs : List Spelled) × (ys ≡ xs ++ zs) × (us ≡ zs ++ vs)) ⊎ ((zs : List Spelled) × (xs ≡ ys ++ zs) × (vs ≡ zs ++ us))
        → ((zs : List Spelled) × (y ∷ ys ≡ (x ∷ xs) ++ zs) × (us ≡ zs ++ vs))
        ⊎ ((zs : List Spelled) × (x ∷ xs ≡ (y ∷ ys) ++ zs) × (vs ≡ zs ++ us))
    longer (inl (zs, a, b)) = inl (zs, rw (heads, a) refl, b)
    longer (inr (zs, a, b)) = inr (zs, rw (heads, a) refl, b)

-- the stop of an outcome that is no whole one
stop_by : {C : Type 0} (g : Grammar C) (ts : List Spelled) → decided g ≡ true → has g ≡ true → (o : Outcome C)
    → Good (Spells g) (read g) ts o → (w : Why) (rest : List Spelled) → whole o ≡ stuck w rest
    → (before : List Spelled) × (ts ≡ before ++ rest) × StopsAt g before rest
stop_by g ts d h (done c []) good_one w rest e = cc
stop_by g ts d h (done c (t ∷ last)) (xs, split, s, near) w rest e =
    let same : t ∷ last ≡ rest = cc in
    let P : List Spelled → Type 0 = λ us. (before : List Spelled) × (ts ≡ before ++ us) × StopsAt g before us in
    subst P same (
      xs,
      split,
      (
        ([], c, (let Q : List Spelled → Type 0 = λ us. Spells g us c in subst Q (sym (append-nil xs)) s)),
        λ b.
            (let more = near (t ∷ b.0) refl in
            let full = sentence_read g ((xs ++ t ∷ []) ++ b.0) b.1 d b.2 in
            let re = ap (λ zs. read g zs) (append_assoc xs (t ∷ []) b.0) in
            let no : done c (t ∷ b.0) ≡ done b.1 [] = sym more ∙ sym re ∙ full in cc),
      ),
    )
stop_by g ts d h (stuck v []) (xs, split, can, near) w rest e =
    let same : [] ≡ rest = cc in
    let P : List Spelled → Type 0 = λ us. (before : List Spelled) × (ts ≡ before ++ us) × StopsAt g before us in
    subst P same (
      xs,
      split,
      (
        can_begin g xs h can,
        λ c s.
            (let more = near [] refl in
            let full = sentence_read g xs c d s in
            let re = ap (λ zs. read g zs) (append-nil xs) in
            let no : stuck v [] ≡ done c [] = sym more ∙ re ∙ full in cc),
      ),
    )
stop_by g ts d h (stuck v (t ∷ last)) (xs, split, can, near) w rest e =
    let same : t ∷ last ≡ rest = cc in
    let P : List Spelled → Type 0 = λ us. (before : List Spelled) × (ts ≡ before ++ us) × StopsAt g before us in
    subst P same (
      xs,
      split,
      (
        can_begin g xs h can,
        λ b.
            (let more = near (t ∷ b.0) refl in
            let full = sentence_read g ((xs ++ t ∷ []) ++ b.0) b.1 d b.2 in
            let re = ap (λ zs. read g zs) (append_assoc xs (t ∷ []) b.0) in
            let no : stuck v (t ∷ b.0) ≡ done b.1 [] = sym more ∙ sym re ∙ full in cc),
      ),
    )

value_by : {C : Type 0} (g : Grammar C) (ts : List Spelled) (o : Outcome C) → Good (Spells g) (read g) ts o → (c : C)
    → whole o ≡ done c [] → Spells g ts c
value_by g ts (done x []) (xs, split, s, near) c e =
    let value : x ≡ c = cc in
    let P : List Spelled → Type 0 = λ us. Spells g us x in
    let here = subst P (sym (split ∙ append-nil xs)) s in
    let Q = λ (y : _). Spells g ts y in subst Q value here
value_by g ts (done x (t ∷ rest)) (xs, split, s, near) c e = cc
value_by g ts (stuck w rest) (xs, split, s, near) c e = cc

-- tokens with which a sentence begins, without the last of them
begins_less : {C : Type 0} (g : Grammar C) (xs : List Spelled) (z : Spelled) (zs : List Spelled)
    → Begins g (xs ++ z ∷ zs) → Begins g (xs ++ z ∷ [])
begins_less g xs z zs (more, c, s) =
    let P : List Spelled → Type 0 = λ us. Spells g us c in
    (zs ++ more, c, subst P (append_assoc xs (z ∷ zs) more ∙ sym (append_assoc xs (z ∷ []) (zs ++ more))) s)

stops_less : {C : Type 0} (g : Grammar C) (xs : List Spelled) (z : Spelled) (zs : List Spelled) (c : C)
    → Spells g (xs ++ z ∷ zs) c → Begins g (xs ++ z ∷ [])
stops_less g xs z zs c s =
    let P : List Spelled → Type 0 = λ us. Spells g us c in
    (zs, c, subst P (sym (append_assoc xs (z ∷ []) zs)) s)

stops_begin : {C : Type 0} (g : Grammar C) (xs rest : List Spelled) → StopsAt g xs rest → Begins g xs
stops_begin g xs [] h = h.0
stops_begin g xs (t ∷ rest) h = h.0

-- a sentence has no stop
no_stop : {C : Type 0} (g : Grammar C) (before rest : List Spelled) (c : C) → Spells g (before ++ rest) c
    → StopsAt g before rest → ⊥
no_stop g before [] c s h =
    let P : List Spelled → Type 0 = λ us. Spells g us c in h.1 c (subst P (append-nil before) s)
no_stop g before (t ∷ rest) c s h = h.1 (stops_less g before t rest c s)

-- two stops are one
one_stop : {C : Type 0} (g : Grammar C) (xs us ys vs zs : List Spelled) → ys ≡ xs ++ zs → us ≡ zs ++ vs
    → StopsAt g xs us → StopsAt g ys vs → us ≡ vs
one_stop g xs us ys vs [] e k first second = k
one_stop g xs us ys vs (z ∷ zs) e k first second =
    let P : List Spelled → Type 0 = λ ws. StopsAt g xs ws in
    let Q : List Spelled → Type 0 = λ ws. Begins g ws in
    let here = subst P k first in
    absurd (here.1 (begins_less g xs z zs (subst Q e (stops_begin g ys vs second))))

all_stops_by : {C : Type 0} (g : Grammar C) (ts : List Spelled) → decided g ≡ true → has g ≡ true → (o : Outcome C)
    → Good (Spells g) (read g) ts o → (before rest : List Spelled) → ts ≡ before ++ rest → StopsAt g before rest
    → (r : Outcome C) → whole o ≡ r → (w : Why) × (r ≡ stuck w rest)
all_stops_by g ts d h o good_one before rest split stop (done c (t ∷ last)) e = absurd (never o e)
  where
    never : (x : Outcome _) → whole x ≡ done c (t ∷ last) → ⊥
    never (done y []) k = cc
    never (done y (u ∷ us)) k = cc
    never (stuck w us) k = cc
all_stops_by g ts d h o good_one before rest split stop (done c []) e =
    let P : List Spelled → Type 0 = λ us. Spells g us c in
    absurd (no_stop g before rest c (subst P split (value_by g ts o good_one c e)) stop)
all_stops_by g ts d h o good_one before rest split stop (stuck w last) e =
    let found = stop_by g ts d h o good_one w last e in
    (w, ap (λ us. stuck w us) (by_cut found.0 found.2 (two_cuts found.0 last before rest (sym found.1 ∙ split))))
  where
    by_cut : (xs : List Spelled) → StopsAt g xs last
        → ((zs : List Spelled) × (before ≡ xs ++ zs) × (last ≡ zs ++ rest))
        ⊎ ((zs : List Spelled) × (xs ≡ before ++ zs) × (rest ≡ zs ++ last)) → last ≡ rest
    by_cut xs first (inl (zs, a, b)) = one_stop g xs last before rest zs a b first stop
    by_cut xs first (inr (zs, a, b)) = sym (one_stop g before rest xs last zs a b stop first)

pub reads_exactly : {C : Type 0} (g : Grammar C) (ts : List Spelled) → is_sound g ≡ true → ReadsExactly g ts
reads_exactly g ts sound =
    let parts = and_parts (decided g) (has g) sound in
    let good_one = good g ts parts.0 in
    record {
      value = λ c e. value_by g ts (read g ts) good_one c e;
      all_values = λ c s. ap whole (sentence_read g ts c parts.0 s);
      stops = λ w rest e. stop_by g ts parts.0 parts.1 (read g ts) good_one w rest e;
      all_stops = λ before rest split stop.
          all_stops_by g ts parts.0 parts.1 (read g ts) good_one before rest split stop (read_whole g ts) refl;
    }

-- no sentence has two values
pub one_value : {C : Type 0} (g : Grammar C) (ts : List Spelled) → is_sound g ≡ true → (a b : C) → Spells g ts a
    → Spells g ts b → a ≡ b
one_value g ts sound a b left right =
    let exact = reads_exactly g ts sound in
    let same : done a [] ≡ done b [] = sym (exact.all_values a left) ∙ exact.all_values b right in cc
