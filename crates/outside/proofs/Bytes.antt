-- Lists byte by byte: what a front and what a rest says of single bytes, and back.
use Rattle.std.proofs.Common.{◌≡◌, ◌+◌, ◌-◌, ◌<◌, ◌≤◌, min, ℕ, zero, suc, List, [], ◌∷◌, ◌++◌, length, get_or, take, drop, refl, sym, ◌∙◌, ap, subst, arith, length-append}
use Rattle.std.proofs.lemmas.List.{get_or-take, get_or-drop, get_or_append_left, length-take-le, length-drop}
use Rattle.std.proofs.lemmas.List.{get_or-append_right}

-- equal fronts have equal bytes
pub front_byte : (n : ℕ) (xs ys : List ℕ) (i : ℕ) → take n xs ≡ take n ys → i < n → get_or xs i 0 ≡ get_or ys i 0
front_byte n xs ys i same lt = sym (get_or-take n xs i 0 lt) ∙ ap (λ (l : List ℕ). get_or l i 0) same ∙ get_or-take n ys i 0 lt

-- equal rests have equal bytes
pub rest_byte : (n : ℕ) (xs ys : List ℕ) (i : ℕ) → drop n xs ≡ drop n ys → n ≤ i → get_or xs i 0 ≡ get_or ys i 0
rest_byte n xs ys i same le =
    let at : n + (i - n) ≡ i = omega (arith, le) in
    subst (λ (k : ℕ). get_or xs k 0 ≡ get_or ys k 0) at (sym (get_or-drop n xs (i - n) 0) ∙ ap (λ (l : List ℕ). get_or l (i - n) 0) same ∙ get_or-drop n ys (i - n) 0)

cons : (x y : ℕ) (xs ys : List ℕ) → x ≡ y → xs ≡ ys → x ∷ xs ≡ y ∷ ys
cons x y xs ys p q = ap (λ (z : ℕ). z ∷ xs) p ∙ ap (λ (l : List ℕ). y ∷ l) q

-- fronts with equal bytes are equal
pub front_same : (n : ℕ) (xs ys : List ℕ) → min n (length xs) ≡ min n (length ys) → ((i : ℕ) → i < n → get_or xs i 0 ≡ get_or ys i 0) → take n xs ≡ take n ys
front_same zero xs ys size bytes = refl
front_same (suc n) [] [] size bytes = refl
front_same (suc n) [] (y ∷ ys) size bytes = absurd (omega (arith, size))
front_same (suc n) (x ∷ xs) [] size bytes = absurd (omega (arith, size))
front_same (suc n) (x ∷ xs) (y ∷ ys) size bytes = cons x y (take n xs) (take n ys) (bytes 0 (omega arith)) (front_same n xs ys (omega (arith, size)) (λ i lt. bytes (suc i) (omega (arith, lt))))

-- rests with equal bytes are equal
pub rest_same : (n : ℕ) (xs ys : List ℕ) → length xs ≡ length ys → ((i : ℕ) → n ≤ i → get_or xs i 0 ≡ get_or ys i 0) → drop n xs ≡ drop n ys
rest_same zero [] [] size bytes = refl
rest_same (suc n) [] [] size bytes = refl
rest_same n [] (y ∷ ys) size bytes = absurd (omega (arith, size))
rest_same n (x ∷ xs) [] size bytes = absurd (omega (arith, size))
rest_same zero (x ∷ xs) (y ∷ ys) size bytes = cons x y xs ys (bytes 0 (omega arith)) (rest_same zero xs ys (omega (arith, size)) (λ i le. bytes (suc i) (omega arith)))
rest_same (suc n) (x ∷ xs) (y ∷ ys) size bytes = rest_same n xs ys (omega (arith, size)) (λ i le. bytes (suc i) (omega (arith, le)))

-- xs with the bytes of ys from a to m
abbrev pub patched : ℕ → ℕ → List ℕ → List ℕ → List ℕ
patched a m ys xs = take a xs ++ (take (m - a) (drop a ys) ++ drop m xs)

module _ (a m : ℕ) (ys xs : List ℕ) (low : a ≤ m) (long : m ≤ length ys) (front : a ≤ length xs) where
  abbrev middle : List ℕ
  middle = take (m - a) (drop a ys)

  front_size : length (take a xs) ≡ a
  front_size = length-take-le a xs front

  middle_size : length middle ≡ m - a
  middle_size = length-take-le (m - a) (drop a ys) (omega (arith, length-drop a ys, long, low))

  pub patched_size : length (patched a m ys xs) ≡ m + (length xs - m)
  patched_size = omega (arith, low, front_size, middle_size, length-append (take a xs) (middle ++ drop m xs), length-append middle (drop m xs), length-drop m xs)

  pub patched_front : (i : ℕ) → i < a → get_or (patched a m ys xs) i 0 ≡ get_or xs i 0
  patched_front i lt = get_or_append_left (take a xs) (middle ++ drop m xs) 0 i (omega (arith, front_size, lt)) ∙ get_or-take a xs i 0 lt

  pub patched_middle : (i : ℕ) → a ≤ i → i < m → get_or (patched a m ys xs) i 0 ≡ get_or ys i 0
  patched_middle i le lt =
      let at : a + (i - a) ≡ i = omega (arith, le) in
      get_or-append_right (take a xs) (middle ++ drop m xs) a i 0 front_size le
      ∙ get_or_append_left middle (drop m xs) 0 (i - a) (omega (arith, middle_size, le, lt))
      ∙ get_or-take (m - a) (drop a ys) (i - a) 0 (omega (arith, le, lt))
      ∙ get_or-drop a ys (i - a) 0
      ∙ ap (λ (k : ℕ). get_or ys k 0) at

  pub patched_rest : (i : ℕ) → m ≤ i → get_or (patched a m ys xs) i 0 ≡ get_or xs i 0
  patched_rest i le =
      let at : m + (i - a - (m - a)) ≡ i = omega (arith, le, low) in
      get_or-append_right (take a xs) (middle ++ drop m xs) a i 0 front_size (omega (arith, le, low))
      ∙ get_or-append_right middle (drop m xs) (m - a) (i - a) 0 middle_size (omega (arith, le, low))
      ∙ get_or-drop m xs (i - a - (m - a)) 0
      ∙ ap (λ (k : ℕ). get_or xs k 0) at
