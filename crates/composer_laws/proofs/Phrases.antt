-- Pieces of a line, and lines, that are cut into tokens.
use Rattle.std.proofs.Common.{◌≡◌, ℕ, Bool, true, false, List, [], ◌∷◌, ◌++◌, get_or, refl, sym, subst, arith, append_assoc, append-nil, eqb}
use Rattle.composer_parser.specs.Kinds.{Shape, mark, quoted, word}
use Rattle.syntax.specs.Quotes.{quoted_text}
use Rattle.composer_laws.specs.Written.{IsText, IsWord}
use Rattle.composer_laws.proofs.Cuts.{Cut, Ends, cut_word, cut_mark, cut_blank, cut_feed, cut_quoted}

-- What may stand behind bytes: anything at the beginning of a line, and else what ends a word.
abbrev pub Fits : Bool → List ℕ → Type 0
Fits true rest = Unit {0}
Fits false rest = Ends rest

-- The bytes have tokens of these shapes. They begin at the beginning of a line or behind other bytes of it, and end so.
pub record Phrase (from to : Bool) (bytes : List ℕ) (shapes : List Shape) : Type 0 where
  pub fits : (rest : List ℕ) → Fits to rest → Fits from (bytes ++ rest)
  pub cut : (past rest : List ℕ) (more : List Shape) → Fits to rest → Cut (past ++ bytes) to rest more
      → Cut past from (bytes ++ rest) (shapes ++ more)

pub empty_phrase : (at : Bool) → Phrase at at [] []
empty_phrase at = record {
  fits = λ rest h. h;
  cut = λ past rest more h c.
      let P : List ℕ → Type 0 = λ xs. Cut xs at rest more in subst P (append-nil past) c;
}

pub joined : {a b c : Bool} {x y : List ℕ} {s t : List Shape} → Phrase a b x s → Phrase b c y t
    → Phrase a c (x ++ y) (s ++ t)
joined {a = a} {c = c} {x = x} {y = y} {s = s} {t = t} p q = record {
  fits = λ rest h.
      let P : List ℕ → Type 0 = λ xs. Fits a xs in
      subst P (sym (append_assoc x y rest)) (p.fits (y ++ rest) (q.fits rest h));
  cut = λ past rest more h cut.
      let P : List ℕ → Type 0 = λ xs. Cut xs c rest more in
      let here = q.cut (past ++ x) rest more h (subst P (sym (append_assoc past x y)) cut) in
      let all = p.cut past (y ++ rest) (t ++ more) (q.fits rest h) here in
      let Q : List ℕ → Type 0 = λ xs. Cut past a xs (s ++ (t ++ more)) in
      let R : List Shape → Type 0 = λ us. Cut past a ((x ++ y) ++ rest) us in
      subst R (sym (append_assoc s t more)) (subst Q (sym (append_assoc x y rest)) all);
}

pub same_phrase : {a b : Bool} {x y : List ℕ} {s : List Shape} → x ≡ y → Phrase a b x s → Phrase a b y s
same_phrase {a = a} {b = b} {s = s} e p = let P : List ℕ → Type 0 = λ xs. Phrase a b xs s in subst P e p

-- a word at the beginning of a line, which is no comment
pub head_word : (w : List ℕ) → IsWord w → eqb (get_or w 0 0) 35 ≡ false → Phrase true false w (word w ∷ [])
head_word w h plain = record {
  fits = λ rest e. tt;
  cut = λ past rest more e c. cut_word past w rest true more h.bytes h.some plain h.room e c;
}

-- a word behind a blank
pub led_word : (w : List ℕ) → IsWord w → Phrase false false (32 ∷ w) (word w ∷ [])
led_word w h = record {
  fits = λ rest e. refl;
  cut = λ past rest more e c.
      let P : List ℕ → Type 0 = λ xs. Cut xs false rest more in
      cut_blank past (w ++ rest) (word w ∷ more)
      (cut_word (past ++ 32 ∷ []) w rest false more h.bytes h.some refl h.room e
      (subst P (sym (append_assoc past (32 ∷ []) w)) c));
}

-- a text behind a blank
pub led_text : (v : List ℕ) → IsText v → Phrase false false (32 ∷ quoted_text v) (quoted v ∷ [])
led_text v h = record {
  fits = λ rest e. refl;
  cut = λ past rest more e c.
      let P : List ℕ → Type 0 = λ xs. Cut xs false rest more in
      cut_blank past (quoted_text v ++ rest) (quoted v ∷ more)
      (cut_quoted (past ++ 32 ∷ []) v rest more h (subst P (sym (append_assoc past (32 ∷ []) (quoted_text v))) c));
}

-- a comma, and a colon behind a blank
pub comma_phrase : Phrase false false (44 ∷ []) (mark 44 ∷ [])
comma_phrase = record {
  fits = λ rest e. refl;
  cut = λ past rest more e c. cut_mark past rest 44 more refl (omega arith) c;
}

pub colon_phrase : Phrase false false (32 ∷ 58 ∷ []) (mark 58 ∷ [])
colon_phrase = record {
  fits = λ rest e. refl;
  cut = λ past rest more e c.
      let P : List ℕ → Type 0 = λ xs. Cut xs false rest more in
      cut_blank past (58 ∷ rest) (mark 58 ∷ more)
      (cut_mark (past ++ 32 ∷ []) rest 58 more refl (omega arith) (subst P (sym (append_assoc past (32 ∷ []) (58 ∷ []))) c));
}

-- the end of a line
pub line_end : Phrase false true (10 ∷ []) []
line_end = record { fits = λ rest e. refl; cut = λ past rest more e c. cut_feed past rest more c }
