-- What stands at a place of a file, by the bytes that were read there.
use Rattle.std.proofs.Common.{◌≡◌, inl, inr, ℕ, ◌+◌, ◌<◌, ◌≤◌, ◌^◌, List, [], ◌∷◌, ◌++◌, length, get_or, take, drop, refl, sym, ◌∙◌, ap, subst, arith, length-drop, take-append-drop, Some, None, IfSome}
use Rattle.std.specs.declared.option.Option.{Option}
use Rattle.std.proofs.lemmas.List.{drop-drop, drop_all, append-nil, length-take-le}
use Rattle.std.specs.Int.{w32, from_be_bytes}
use Rattle.std.proofs.lemmas.Nat.{from_be_bytes-to_be_bytes_4}
use Rattle.model.specs.Fields.{u32_bytes}
use Rattle.outside.specs.Records.{longest_body, longest_file}
use Rattle.message_file.specs.Files.{IsNoRecord}
use Rattle.byte_fields.specs.Places.{StandsAt}
use Rattle.message_file.specs.declared.records.Found.{Found}
use Rattle.message_file.specs.Attaching.{IsFound, IsRecordAt}

-- the bytes at a place, and what stands behind them
ahead : (file : List ℕ) (place n : ℕ) (bytes : List ℕ) → bytes ≡ take n (drop place file) → drop place file ≡ bytes ++ drop (place + n) file
ahead file place n bytes is =
    sym (take-append-drop n (drop place file)) ∙ ap (λ (l : List ℕ). l ++ drop n (drop place file)) (sym is) ∙ ap (λ (l : List ℕ). bytes ++ l) (drop-drop n place file)

one_cell : (bytes : List ℕ) → length bytes ≡ 1 → get_or bytes 0 0 ≡ 1 → bytes ≡ 1 ∷ []
one_cell [] size is = absurd (omega (arith, size))
one_cell (a ∷ []) size is = ap (λ (x : ℕ). x ∷ []) is
one_cell (a ∷ b ∷ bytes) size is = absurd (omega (arith, size))

module _ (file : List ℕ) (place : ℕ) (gate : List ℕ) (size : length gate ≡ 1) (is_open : get_or gate 0 0 ≡ 1) (read : gate ≡ take 1 (drop place file)) where
  pub front : drop place file ≡ 1 ∷ drop (place + 1) file
  front = ahead file place 1 gate read ∙ ap (λ (l : List ℕ). l ++ drop (place + 1) file) (one_cell gate size is_open)

  pub too_short : length file < place + 5 → place ≤ length file → IsNoRecord place (drop place file)
  too_short few within = subst (IsNoRecord place) (sym front) (refl, inl (omega (arith, few, within, length-drop (place + 1) file, ap length front, length-drop place file)))

  module _ (bytes : List ℕ) (number : ℕ) (spelled : bytes ≡ u32_bytes number) (fits : number < 2 ^ 32) (read_length : bytes ≡ take 4 (drop (place + 1) file)) where
    pub told : from_be_bytes w32 (take 4 (drop (place + 1) file)) ≡ number
    told = ap (λ (l : List ℕ). from_be_bytes w32 l) (sym read_length ∙ spelled) ∙ from_be_bytes-to_be_bytes_4 number fits

    pub too_long : longest_body < number → IsNoRecord place (drop place file)
    too_long long = subst (IsNoRecord place) (sym front) (refl, inr (inl (omega (arith, long, told))))

    pub cut_short : length file < place + 5 + number → place + 5 ≤ length file → IsNoRecord place (drop place file)
    cut_short few enough = subst (IsNoRecord place) (sym front) (refl, inr (inr (inl (omega (arith, few, enough, told, length-drop 4 (drop (place + 1) file), length-drop (place + 1) file)))))

    pub too_far : longest_file ≤ place + 5 + number → IsNoRecord place (drop place file)
    too_far far = subst (IsNoRecord place) (sym front) (refl, inr (inr (inr (omega (arith, far, told)))))

    pub record_there : number ≤ longest_body → place + 5 + number ≤ length file → IsRecordAt file place (place + 5 + number)
    record_there short enough =
        let behind = drop (place + 5) file in
        let body = take number behind in
        let size : length body ≡ number = length-take-le number behind (omega (arith, enough, length-drop (place + 5) file)) in
        let five : place + 1 + 4 ≡ place + 5 = omega arith in
        let head : drop (place + 1) file ≡ u32_bytes number ++ behind =
        ahead file (place + 1) 4 (u32_bytes number) (sym spelled ∙ read_length) ∙ ap (λ (k : ℕ). u32_bytes number ++ drop k file) five in
        let last : behind ≡ body ++ drop (place + 5 + number) file = ahead file (place + 5) number body refl in (
          body,
          omega (arith, size, short),
          omega (arith, size),
          front ∙ ap (λ (l : List ℕ). 1 ∷ l) (head ∙ ap (λ (n : ℕ). u32_bytes n ++ behind) (sym size) ∙ ap (λ (l : List ℕ). u32_bytes (length body) ++ l) last),
        )

-- where the file is told
pub told_of : (P : List ℕ → Type 0) (told : Option (List ℕ)) (file : List ℕ) → told ≡ Some file → IfSome told P → P file
told_of P None file is p = absurd (cc is)
told_of P (Some f) file is p = let same : f ≡ file = cc is in subst P same p

pub on_told : (told : Option (List ℕ)) (found : Found) (place : ℕ) → ((file : List ℕ) → told ≡ Some file → IsFound found place (Some file)) → IsFound found place told
on_told None found place here = tt
on_told (Some file) found place here = here file refl

-- four bytes that were taken as a number
pub spelled_by : (bytes : List ℕ) (number next : ℕ) → length bytes ≡ 4 → StandsAt (u32_bytes number) bytes 0 next → bytes ≡ u32_bytes number
spelled_by bytes number next size stands =
    let four : length (u32_bytes number) ≡ 4 = refl in
    let none : drop next bytes ≡ [] = drop_all next bytes (omega (arith, size, stands.1, four)) in
    stands.0 ∙ ap (λ (l : List ℕ). u32_bytes number ++ l) none ∙ append-nil (u32_bytes number)
