-- A timeline, one element further.
use Rattle.std.proofs.Common.{[], ℕ, ◌+◌, ◌++◌, ◌<◌, ◌∙◌, ◌∷◌, ◌≡◌, ◌≤◌, ◌⊎◌, List, ap, arith, inl, inr, length}
use Rattle.std.proofs.Common.{length-append, refl, subst, sym, take}
use Rattle.std.proofs.Math.Path.{fun_ext}
use Rattle.std.proofs.lemmas.List.{take-append-le}
use Rattle.model.specs.Types.{Body}
use Rattle.counted_facts.specs.Timelines.{IsTimelineOf, IsValueAt}

whole : {A : Type 0} (xs : List A) → take (length xs) xs ≡ xs
whole [] = refl
whole (x ∷ xs) = ap (λ l. x ∷ l) (whole xs)

which : (n m : ℕ) → n ≤ m + 1 → (n ≤ m) ⊎ (n ≡ m + 1)
which n m h = grind arith

longer : (xs : List Body) (b : Body) → length (xs ++ b ∷ []) ≡ length xs + 1
longer xs b = length-append xs (b ∷ [])

module _ {X : Type 0} (fact : List Body → X) where
  -- the value at a count
  pub value_told : (count : ℕ) (change : ℕ → ℕ × X) (events : List Body) (n : ℕ) (value : X)
      → IsTimelineOf fact count change events → IsValueAt count change n value → n ≤ length events
      → value ≡ fact (take n events)
  value_told count change events n value h v less =
      v.is_it ∙ sym (h.tells n v.found less v.within v.here v.next)

  -- the fact stays
  pub stays : (count : ℕ) (change : ℕ → ℕ × X) (xs : List Body) (b : Body) → IsTimelineOf fact count change xs
      → fact (xs ++ b ∷ []) ≡ fact xs → IsTimelineOf fact count change (xs ++ b ∷ [])
  stays count change xs b h same =
      let more : length (xs ++ b ∷ []) ≡ length xs + 1 = longer xs b in
      record {
        begins = h.begins;
        within = λ i less. let w = h.within i less in omega (arith, more, w);
        tells = λ n i less here by next. elim (which n (length xs) (omega (arith, more, less))) [
          | inl early ↦ ap fact (take-append-le n xs (b ∷ []) early) ∙ h.tells n i early here by next
          | inr last ↦ (
              let all : take n (xs ++ b ∷ []) ≡ xs ++ b ∷ [] =
              ap (λ m. take m (xs ++ b ∷ [])) (last ∙ sym more) ∙ whole (xs ++ b ∷ []) in
              ap fact all ∙ same ∙ sym (ap fact (whole xs))
              ∙ h.tells (length xs) i (omega arith) here (h.within i here)
              (λ f. let k = next f in omega (arith, k, last)))
        ];
      }

  -- it changes, or is told again, at the end of a longer list
  module _ (count more : ℕ) (change new : ℕ → ℕ × X) (zs ys : List Body) (h : IsTimelineOf fact count change zs)
      (short : length zs ≤ length ys)
      (front : (n : ℕ) → n < length ys → (n ≤ length zs) × (take n ys ≡ take n zs)) (is : more ≡ count + 1)
      (same : (i : ℕ) → i ≤ count → new i ≡ change i) (at_end : new (count + 1) ≡ (length ys, fact ys)) where
    from_before : (i : ℕ) → i ≤ count → (new i).0 ≡ (change i).0
    from_before i less = ap (λ (p : ℕ × X). p.0) (same i less)

    from_last : (i : ℕ) → i ≡ count + 1 → (new i).0 ≡ length ys
    from_last i last = ap (λ (p : ℕ × X). p.0) (ap new last ∙ at_end)

    all_within : (i : ℕ) → i ≤ more → (new i).0 ≤ length ys
    all_within i less = elim (which i count (omega (arith, is, less))) [
      | inl early ↦ (let w = h.within i early in let e = from_before i early in omega (arith, w, e, short))
      | inr last ↦ (let e = from_last i last in omega (arith, e))
    ]

    told_before : (n i : ℕ) → i ≤ count → (new i).0 ≤ n → (i < more → n < (new (i + 1)).0) → fact (take n ys) ≡ (new i).1
    told_before n i early by next =
        let k : n < (new (i + 1)).0 = next (omega (arith, is, early)) in
        let w : (new (i + 1)).0 ≤ length ys = all_within (i + 1) (omega (arith, is, early)) in
        let f = front n (omega (arith, k, w)) in
        let e = from_before i early in
        ap fact f.1
        ∙ h.tells n i f.0 early (omega (arith, e, by))
        (λ less. let d = from_before (i + 1) (omega (arith, less)) in omega (arith, d, k))
        ∙ sym (ap (λ (p : ℕ × X). p.1) (same i early))

    told_last : (n i : ℕ) → n ≤ length ys → i ≡ count + 1 → (new i).0 ≤ n → fact (take n ys) ≡ (new i).1
    told_last n i less last by =
        let e = from_last i last in
        let all : n ≡ length ys = omega (arith, e, by, less) in
        ap (λ m. fact (take m ys)) all ∙ ap fact (whole ys)
        ∙ sym (ap (λ (p : ℕ × X). p.1) (ap new last ∙ at_end))

    pub pushed : IsTimelineOf fact more new ys
    pushed =
        record {
          begins = from_before 0 (omega arith) ∙ h.begins;
          within = all_within;
          tells = λ n i less here by next. elim (which i count (omega (arith, is, here))) [
            | inl early ↦ told_before n i early by next
            | inr last ↦ told_last n i less last by
          ];
        }

  -- the same changes of the same list
  pub alike : (count more : ℕ) (change new : ℕ → ℕ × X) (zs ys : List Body) → IsTimelineOf fact count change zs
      → more ≡ count → ((i : ℕ) → new i ≡ change i) → ys ≡ zs → IsTimelineOf fact more new ys
  alike count more change new zs ys h e same f =
      subst (λ (m : ℕ). IsTimelineOf fact m new ys) (sym e)
      (subst (λ (g : ℕ → ℕ × X). IsTimelineOf fact count g ys) (sym (fun_ext same))
      (subst (λ (l : List Body). IsTimelineOf fact count change l) (sym f) h))
