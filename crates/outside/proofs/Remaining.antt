-- What a stop may leave, told call by call and told at once, is the same.
use Rattle.std.proofs.Common.{◌≡◌, inl, inr, ◌+◌, ◌-◌, ◌<◌, ◌≤◌, min, max, ℕ, List, [], ◌∷◌, ◌++◌, length, get_or, take, drop, sym, ◌∙◌, ap, arith, length-append, append_assoc}
use Rattle.std.proofs.lemmas.List.{length-take, length-drop, take_all, take_min, drop_all, drop_at, drop-drop, take_at, get_or-take, get_or_past}
use Rattle.std.proofs.lemmas.Bool.{cases_lt}
use Rattle.outside.specs.Files.{Torn, Cut}
use Rattle.outside.specs.Images.{Change, length_now, least, greatest, AreWithin, IsWritten, MayRemain, Remains}
use Rattle.outside.specs.Images.Change.{Write, CutTo}
use Rattle.outside.proofs.Bytes.{front_byte, rest_byte, front_same, rest_same, patched, patched_size, patched_front, patched_middle, patched_rest}

least_now : (len : ℕ) (calls : List Change) → least len calls ≤ length_now len calls
least_now len [] = omega arith
least_now len (Write place n ∷ before) = omega arith
least_now len (CutTo n ∷ before) = omega arith

now_greatest : (len : ℕ) (calls : List Change) → length_now len calls ≤ greatest len calls
now_greatest len [] = omega arith
now_greatest len (Write place n ∷ before) = omega arith
now_greatest len (CutTo n ∷ before) = omega arith

least_first : (len : ℕ) (calls : List Change) → least len calls ≤ len
least_first len [] = omega arith
least_first len (Write place n ∷ before) = omega (arith, least_first len before)
least_first len (CutTo n ∷ before) = omega (arith, least_first len before)

-- a write lengthens a file up to its own end
grown : (place n : ℕ) (was file : List ℕ) → Torn place n was file → length file ≤ max (length was) (place + n)
grown place n was file torn = omega (arith, ap (λ (l : List ℕ). length l) torn.after, length-drop (place + n) file, length-drop (place + n) was)

-- a byte outside a write's range stays
outside_write : (place n : ℕ) (was file : List ℕ) (i : ℕ) → Torn place n was file → i < length was → (((place ≤ i) × (i < place + n)) → ⊥) → get_or file i 0 ≡ get_or was i 0
outside_write place n was file i torn within not = elim (cases_lt i place) [
  | inl lt ↦ sym (get_or-take (min place (length was)) file i 0 (omega (arith, lt, within))) ∙ ap (λ (l : List ℕ). get_or l i 0) torn.before ∙ get_or-take place was i 0 lt
  | inr ge ↦ elim (cases_lt i (place + n)) [
    | inl lt ↦ absurd (not (ge, lt))
    | inr le ↦ rest_byte (place + n) file was i torn.after le
  ]
]

pub nothing_else : (synced : List ℕ) (calls : List Change) (file : List ℕ) → Remains synced calls file → MayRemain synced calls file
nothing_else synced [] file is = record {
  no_shorter = omega (arith, ap (λ (l : List ℕ). length l) is);
  no_longer = omega (arith, ap (λ (l : List ℕ). length l) is);
  others_stay = λ i lt not. ap (λ (l : List ℕ). get_or l i 0) is;
}
nothing_else synced (Write place n ∷ before) file (was, remains, torn) =
    let may = nothing_else synced before was remains in record {
      no_shorter = omega (arith, may.no_shorter, torn.no_shorter);
      no_longer = omega (arith, may.no_longer, grown place n was file torn);
      others_stay = λ i lt not.
          outside_write place n was file i torn (omega (arith, lt, may.no_shorter)) (λ here_in. not (inl here_in)) ∙ may.others_stay i (omega (arith, lt)) (λ w. not (inr w));
    }
nothing_else synced (CutTo n ∷ before) file (was, remains, cut) =
    let may = nothing_else synced before was remains in
    let size = ap (λ (l : List ℕ). length l) cut.before in record {
      no_shorter = omega (arith, may.no_shorter, size, length-take n file, length-take n was);
      no_longer = omega (arith, may.no_longer, cut.no_longer);
      others_stay = λ i lt not. front_byte n file was i cut.before (omega (arith, lt)) ∙ may.others_stay i (omega (arith, lt)) not;
    }

-- What stood there before a write that left this file: the synced bytes where it wrote, in front of the least length.
module _ (synced : List ℕ) (before : List Change) (place n : ℕ) (file : List ℕ) (here : place ≤ length_now (length synced) before) (may : MayRemain synced (Write place n ∷ before) file) where
  abbrev l : ℕ
  l = least (length synced) before

  abbrev g : ℕ
  g = greatest (length synced) before

  abbrev a : ℕ
  a = min place l

  abbrev m : ℕ
  m = min (place + n) l

  less : l ≤ length_now (length synced) before
  less = least_now (length synced) before

  more : length_now (length synced) before ≤ g
  more = now_greatest (length synced) before

  low : a ≤ m
  low = omega arith

  long : m ≤ length synced
  long = omega (arith, least_first (length synced) before)

  front : a ≤ length file
  front = omega (arith, may.no_shorter, less)

  abbrev whole : List ℕ
  whole = patched a m synced file

  whole_size : length whole ≡ length file
  whole_size = omega (arith, patched_size a m synced file low long front, may.no_shorter, less)

  abbrev pub write_was : List ℕ
  write_was = take g whole

  was_size : length write_was ≡ min g (length file)
  was_size = omega (arith, length-take g whole, whole_size)

  was_byte : (i : ℕ) → i < l → (IsWritten i before → ⊥) → get_or whole i 0 ≡ get_or synced i 0
  was_byte i lt not = elim (cases_lt i a) [
    | inl lt_a ↦ patched_front a m synced file low long front i lt_a ∙ may.others_stay i (omega (arith, lt, less)) (λ w. elim w [ inl here_in ↦ absurd (omega (arith, here_in.0, lt_a)) | inr w2 ↦ not w2 ])
    | inr ge_a ↦ elim (cases_lt i m) [
      | inl lt_m ↦ patched_middle a m synced file low long front i ge_a lt_m
      | inr ge_m ↦ patched_rest a m synced file low long front i ge_m ∙ may.others_stay i (omega (arith, lt, less)) (λ w. elim w [ inl here_in ↦ absurd (omega (arith, here_in.1, ge_m, lt)) | inr w2 ↦ not w2 ])
    ]
  ]

  pub write_may : MayRemain synced before write_was
  write_may = record {
    no_shorter = omega (arith, was_size, may.no_shorter, less, more);
    no_longer = omega (arith, was_size);
    others_stay = λ i lt not. get_or-take g whole i 0 (omega (arith, lt, less, more)) ∙ was_byte i lt not;
  }

  -- outside the write's range the file has the same bytes
  same_byte : (i : ℕ) → (((place ≤ i) × (i < place + n)) → ⊥) → get_or file i 0 ≡ get_or whole i 0
  same_byte i not = elim (cases_lt i a) [
    | inl lt_a ↦ sym (patched_front a m synced file low long front i lt_a)
    | inr ge_a ↦ elim (cases_lt i m) [
      | inl lt_m ↦ absurd (not (omega (arith, ge_a, lt_m), omega (arith, lt_m)))
      | inr ge_m ↦ sym (patched_rest a m synced file low long front i ge_m)
    ]
  ]

  pub write_torn : Torn place n write_was file
  write_torn = record {
    before = ap (λ (k : ℕ). take k file) (let e : min place (length write_was) ≡ min place (length file) = omega (arith, was_size, here, more) in e)
        ∙ take_min place file
        ∙ front_same place file write_was (omega (arith, was_size, here, more)) (λ i lt. same_byte i (λ here_in. omega (arith, here_in.0, lt)) ∙ sym (get_or-take g whole i 0 (omega (arith, lt, here, more))));
    after = elim (cases_lt g (length file)) [
      | inl lt ↦ drop_all (place + n) file (omega (arith, lt, may.no_longer, here, more)) ∙ sym (drop_all (place + n) write_was (omega (arith, lt, may.no_longer, here, more, was_size)))
      | inr ge ↦ rest_same (place + n) file whole (sym whole_size) (λ i le. same_byte i (λ here_in. omega (arith, here_in.1, le))) ∙ ap (λ (x : List ℕ). drop (place + n) x) (sym (take_all g whole (omega (arith, whole_size, ge))))
    ];
    no_shorter = omega (arith, was_size);
  }

-- What stood there before a cut that left this file: the synced bytes behind the new length.
module _ (synced : List ℕ) (before : List Change) (n : ℕ) (file : List ℕ) (here : n ≤ length_now (length synced) before) (may : MayRemain synced (CutTo n ∷ before) file) where
  abbrev cl : ℕ
  cl = least (length synced) before

  abbrev ca : ℕ
  ca = min n cl

  cless : cl ≤ length_now (length synced) before
  cless = least_now (length synced) before

  cmore : length_now (length synced) before ≤ greatest (length synced) before
  cmore = now_greatest (length synced) before

  clow : ca ≤ cl
  clow = omega arith

  clong : cl ≤ length synced
  clong = least_first (length synced) before

  cfront : ca ≤ length file
  cfront = omega (arith, may.no_shorter)

  abbrev pub cut_was : List ℕ
  cut_was = patched ca cl synced file

  cut_size : length cut_was ≡ cl + (length file - cl)
  cut_size = patched_size ca cl synced file clow clong cfront

  cut_byte : (i : ℕ) → i < cl → (IsWritten i before → ⊥) → get_or cut_was i 0 ≡ get_or synced i 0
  cut_byte i lt not = elim (cases_lt i ca) [
    | inl lt_a ↦ patched_front ca cl synced file clow clong cfront i lt_a ∙ may.others_stay i (omega (arith, lt_a)) not
    | inr ge_a ↦ patched_middle ca cl synced file clow clong cfront i ge_a lt
  ]

  pub cut_may : MayRemain synced before cut_was
  cut_may = record {
    no_shorter = omega (arith, cut_size);
    no_longer = omega (arith, cut_size, may.no_longer, here, cless, cmore);
    others_stay = cut_byte;
  }

  same_front : (i : ℕ) → i < n → get_or file i 0 ≡ get_or cut_was i 0
  same_front i lt = elim (cases_lt i ca) [
    | inl lt_a ↦ sym (patched_front ca cl synced file clow clong cfront i lt_a)
    | inr ge_a ↦ sym (patched_rest ca cl synced file clow clong cfront i (omega (arith, ge_a, lt)))
  ]

  pub cut_cut : Cut n cut_was file
  cut_cut = record {
    before = front_same n file cut_was (omega (arith, cut_size, may.no_shorter)) same_front;
    no_longer = omega (arith, cut_size);
  }

every : (synced file : List ℕ) → length file ≡ length synced → ((i : ℕ) → i < length synced → get_or file i 0 ≡ get_or synced i 0) → (i : ℕ) → get_or file i 0 ≡ get_or synced i 0
every synced file size same i = elim (cases_lt i (length synced)) [
  | inl lt ↦ same i lt
  | inr ge ↦ get_or_past file i 0 (omega (arith, size, ge)) ∙ sym (get_or_past synced i 0 ge)
]

pub each_of_them : (synced : List ℕ) (calls : List Change) (file : List ℕ) → AreWithin (length synced) calls → MayRemain synced calls file → Remains synced calls file
each_of_them synced [] file within may =
    let size : length file ≡ length synced = omega (arith, may.no_shorter, may.no_longer) in
    rest_same 0 file synced size (λ i le. every synced file size (λ j lt. may.others_stay j lt (λ w. w)) i)
each_of_them synced (Write place n ∷ before) file (here, within) may = (
  write_was synced before place n file here may,
  each_of_them synced before (write_was synced before place n file here may) within (write_may synced before place n file here may),
  write_torn synced before place n file here may,
)
each_of_them synced (CutTo n ∷ before) file (here, within) may = (
  cut_was synced before n file here may,
  each_of_them synced before (cut_was synced before n file here may) within (cut_may synced before n file here may),
  cut_cut synced before n file here may,
)

-- a front of a piece over what was there
pub any_front : (place k : ℕ) (piece old : List ℕ) → Torn place (length piece) old (take place old ++ take k piece ++ drop (place + length (take k piece)) old)
any_front place k piece old = record { before = front; after = rest; no_shorter = omega (arith, size, tail_size, length-take place old) }
  where
    part : List ℕ
    part = take k piece

    tail : List ℕ
    tail = drop (place + length part) old

    new : List ℕ
    new = take place old ++ part ++ tail

    tail_size : length tail ≡ length old - (place + length part)
    tail_size = length-drop (place + length part) old

    size : length new ≡ length (take place old) + (length part + length tail)
    size = omega (arith, length-append (take place old ++ part) tail, length-append (take place old) part)

    front : take (min place (length old)) new ≡ take place old
    front = ap (λ (l : List ℕ). take (min place (length old)) l) (append_assoc (take place old) part tail)
        ∙ take_at (take place old) (part ++ tail) (min place (length old)) (length-take place old)

    short : length part ≤ length piece
    short = omega (arith, length-take k piece)

    jump : (xs : List ℕ) → drop (place + length piece) xs ≡ drop (length piece - length part) (drop (place + length part) xs)
    jump xs =
        let at : (place + length part) + (length piece - length part) ≡ place + length piece = omega (arith, short) in
        ap (λ (j : ℕ). drop j xs) (sym at) ∙ sym (drop-drop (length piece - length part) (place + length part) xs)

    rest : drop (place + length piece) new ≡ drop (place + length piece) old
    rest = elim (cases_lt (length old) place) [
      | inl lt ↦ drop_all (place + length piece) new (omega (arith, size, lt, short, length-take place old, tail_size)) ∙ sym (drop_all (place + length piece) old (omega (arith, lt)))
      | inr ge ↦ jump new ∙ ap (λ (l : List ℕ). drop (length piece - length part) l)
          (drop_at (take place old ++ part) tail (place + length part) (omega (arith, ge, length-append (take place old) part, length-take place old)))
          ∙ sym (jump old)
    ]
