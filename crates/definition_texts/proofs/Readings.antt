-- Bytes are checked definitions of one value, or refused at one line for one kind.
use Rattle.std.proofs.Common.{◌≡◌, ◌∙◌, ◌<◌, ◌⊎◌, ◌==◌, ℕ, List, Result, Ok, Err, inl, inr, sym, ap, subst, refl, arith}
use Rattle.std.proofs.Common.{length, if◌then◌else◌}
use Rattle.std.specs.Str.{IsValidUpTo}
use Rattle.std.specs.Str.Lossy.{utf8_valid_len}
use Rattle.std.proofs.lemmas.Str.{utf8_valid_len-IsValidUpTo}
use Rattle.workload_defs.proofs.Told.{rank_tells}
use Rattle.base_types.specs.declared.Token.{Token}
use Rattle.composer_lexer.specs.Places.{line_of}
use Rattle.composer_lexer.specs.Tokens.{tokens_of}
use Rattle.composer_lexer.specs.declared.LexFault.{LexFault}
use Rattle.composer_lexer.specs.declared.LexFault.TheVariants as lex
use Rattle.composer_parser.specs.Composer.{defs}
use Rattle.composer_parser.specs.Faults.{last_line_of, HasUnexpected, HasLeftOut}
use Rattle.composer_parser.specs.Grammars.{Spells}
use Rattle.composer_parser.specs.Tokens.{all_spelled}
use Rattle.composer_parser.specs.declared.Defs.{Defs}
use Rattle.definition_faults.specs.Faults.{IsFirstFault}
use Rattle.definition_faults.specs.Orders.{IsNoLater, rank, told}
use Rattle.definition_faults.specs.declared.Fault.{Fault}
use Rattle.definition_faults.specs.declared.Kind.{Kind}
use Rattle.definition_faults.specs.declared.Kind.TheVariants as found
use Rattle.definition_faults.specs.declared.DefFault.{DefFault}
use Rattle.definition_faults.specs.declared.DefFault.TheVariants as def
use Rattle.definition_texts.specs.Refusals.{IsText, HasTokens, AreDefinitions, AreChecked, AreNoDefinitions, IsRefused}
use Rattle.definition_texts.specs.Refusals.{IsReading, IsChecking}
use Rattle.definition_texts.specs.Told.{refusal, refused_at, lexed, checked, kind_of}
use Rattle.definition_texts.specs.declared.kinds.RefusalKind.TheVariants as kind
use Rattle.definition_texts.specs.declared.refusals.Refusal.{Refusal}
use Rattle.definition_texts.specs.declared.refusals.NotRead.{NotRead}
use Rattle.definition_texts.specs.declared.refusals.NotRead.TheVariants.{Refused, NoMemory}
use Rattle.definition_texts.proofs.Stops.{one_sentence, not_unexpected, not_left_out, one_unexpected, one_left_out, not_both}

-- a kind by its rank
abbrev kind_at : ℕ → Kind
kind_at n =
    if n == 0 then found.Duplicate else
    if n == 1 then found.UnknownName else
    if n == 2 then found.OutOfRange else
    if n == 3 then found.ForeignResource else if n == 4 then found.FollowsCycle else found.Tree

at_rank : (k : Kind) → kind_at (rank k) ≡ k
at_rank found.Duplicate = refl
at_rank found.UnknownName = refl
at_rank found.OutOfRange = refl
at_rank found.ForeignResource = refl
at_rank found.FollowsCycle = refl
at_rank found.Tree = refl

-- two faults of which neither is later are one
one_place : (f g : Fault) → IsNoLater f g → IsNoLater g f → (f.line ≡ g.line) × (f.kind ≡ g.kind)
one_place f g (inl below) (inl above) = absurd (let never : ⊥ = omega arith in never)
one_place f g (inl below) (inr (line, later)) = absurd (let never : ⊥ = omega arith in never)
one_place f g (inr (line, later)) (inl above) = absurd (let never : ⊥ = omega arith in never)
one_place f g (inr (line, later)) (inr (back, earlier)) =
    (line, rank_tells f.kind g.kind (let same : rank f.kind ≡ rank g.kind = omega arith in same))

module _ (bytes : List ℕ) where
  one_tokens : (ts us : List Token) → HasTokens bytes ts → HasTokens bytes us → ts ≡ us
  one_tokens ts us one other = let both : Ok ts ≡ Ok us = sym one.are ∙ other.are in cc

  -- the tokens are these definitions
  spelled_by : (ts : List Token) (d : Defs) → HasTokens bytes ts → AreDefinitions bytes d
      → Spells (defs (last_line_of bytes)) (all_spelled bytes ts) d
  spelled_by ts d has are =
      let P : List Token → Type 0 = λ us. Spells (defs (last_line_of bytes)) (all_spelled bytes us) d in
      subst P (one_tokens are.tokens ts are.has has) are.spelled

  one_definitions : (d e : Defs) → AreDefinitions bytes d → AreDefinitions bytes e → d ≡ e
  one_definitions d e one other =
      one_sentence (last_line_of bytes) (all_spelled bytes other.tokens) d e (spelled_by other.tokens d other.has one)
      other.spelled

  pub one_checked : (d e : Defs) → AreChecked bytes d → AreChecked bytes e → d ≡ e
  one_checked d e one other = one_definitions d e one.are other.are

  no_tokens_then : (f : LexFault) (ts : List Token) → tokens_of bytes ≡ Err f → HasTokens bytes ts → ⊥
  no_tokens_then f ts none has = let clash : Err f ≡ Ok ts = sym none ∙ has.are in cc

  none_spelled : (ts : List Token) (r : Refusal) (d : Defs) → HasTokens bytes ts → AreNoDefinitions bytes ts r
      → AreDefinitions bytes d → ⊥
  none_spelled ts r d has (AreNoDefinitions.unexpected line at) are =
      not_unexpected (last_line_of bytes) (all_spelled bytes ts) d line (spelled_by ts d has are) at
  none_spelled ts r d has (AreNoDefinitions.left_out line at) are =
      not_left_out (last_line_of bytes) (all_spelled bytes ts) d line (spelled_by ts d has are) at

  one_misspelling : (ts : List Token) (r s : Refusal) → AreNoDefinitions bytes ts r → AreNoDefinitions bytes ts s → r ≡ s
  one_misspelling ts r s (AreNoDefinitions.unexpected n at) (AreNoDefinitions.unexpected m here) =
      ap (λ line. refusal line kind.Expected)
      (one_unexpected (last_line_of bytes) (all_spelled bytes ts) n m at here)
  one_misspelling ts r s (AreNoDefinitions.unexpected n at) (AreNoDefinitions.left_out m here) =
      absurd (not_both (last_line_of bytes) (all_spelled bytes ts) n m at here)
  one_misspelling ts r s (AreNoDefinitions.left_out n at) (AreNoDefinitions.unexpected m here) =
      absurd (not_both (last_line_of bytes) (all_spelled bytes ts) m n here at)
  one_misspelling ts r s (AreNoDefinitions.left_out n at) (AreNoDefinitions.left_out m here) =
      ap (λ line. refusal line kind.LeftOut)
      (one_left_out (last_line_of bytes) (all_spelled bytes ts) n m at here)

  one_fault : (d e : Defs) (f g : Fault) → AreDefinitions bytes d → AreDefinitions bytes e → IsFirstFault d f
      → IsFirstFault e g → refusal f.line (kind_of f.kind) ≡ refusal g.line (kind_of g.kind)
  one_fault d e f g are those first one =
      let P : Defs → Type 0 = λ x. IsFirstFault x g in
      let back = subst P (sym (one_definitions d e are those)) one in
      let place = one_place f g (first.1 g back.0) (back.1 f first.0) in
      ap (λ line. refusal line (kind_of f.kind)) place.0 ∙ ap (λ k. refusal g.line (kind_of k)) place.1

  one_lexed : (f g : LexFault) (r s : Refusal) → tokens_of bytes ≡ Err f → tokens_of bytes ≡ Err g
      → lexed f ≡ Refused r → lexed g ≡ Refused s → r ≡ s
  one_lexed f g r s e h told other =
      let both : Err f ≡ Err g = sym e ∙ h in
      let same : f ≡ g = cc in
      let refused : Refused r ≡ Refused s = sym told ∙ ap lexed same ∙ other in cc

  -- bytes are refused at one line for one kind
  pub one_refusal : (r s : Refusal) → IsRefused bytes r → IsRefused bytes s → r ≡ s
  one_refusal r s (IsRefused.no_text ne) (IsRefused.no_text other) = refl
  one_refusal r s (IsRefused.no_text ne) (IsRefused.no_tokens f q text e told) = absurd (ne text)
  one_refusal r s (IsRefused.no_text ne) (IsRefused.no_definitions ts q has at) = absurd (ne has.text)
  one_refusal r s (IsRefused.no_text ne) (IsRefused.faulty d f are first) = absurd (ne are.has.text)
  one_refusal r s (IsRefused.no_tokens f q text e told) (IsRefused.no_text ne) = absurd (ne text)
  one_refusal r s (IsRefused.no_tokens f q text e told) (IsRefused.no_tokens g p also h other) =
      one_lexed f g q p e h told other
  one_refusal r s (IsRefused.no_tokens f q text e told) (IsRefused.no_definitions ts p has at) =
      absurd (no_tokens_then f ts e has)
  one_refusal r s (IsRefused.no_tokens f q text e told) (IsRefused.faulty d g are first) =
      absurd (no_tokens_then f are.tokens e are.has)
  one_refusal r s (IsRefused.no_definitions ts q has at) (IsRefused.no_text ne) = absurd (ne has.text)
  one_refusal r s (IsRefused.no_definitions ts q has at) (IsRefused.no_tokens f p text e told) =
      absurd (no_tokens_then f ts e has)
  one_refusal r s (IsRefused.no_definitions ts q has at) (IsRefused.no_definitions us p have here) =
      let P : List Token → Type 0 = λ zs. AreNoDefinitions bytes zs q in
      one_misspelling us q p (subst P (one_tokens ts us has have) at) here
  one_refusal r s (IsRefused.no_definitions ts q has at) (IsRefused.faulty d f are first) =
      absurd (none_spelled ts q d has at are)
  one_refusal r s (IsRefused.faulty d f are first) (IsRefused.no_text ne) = absurd (ne are.has.text)
  one_refusal r s (IsRefused.faulty d f are first) (IsRefused.no_tokens g q text e told) =
      absurd (no_tokens_then g are.tokens e are.has)
  one_refusal r s (IsRefused.faulty d f are first) (IsRefused.no_definitions ts q has at) =
      absurd (none_spelled ts q d has at are)
  one_refusal r s (IsRefused.faulty d f are first) (IsRefused.faulty e g those one) = one_fault d e f g are those first one

  -- and checked definitions are not refused
  pub not_refused : (d : Defs) (r : Refusal) → AreChecked bytes d → IsRefused bytes r → ⊥
  not_refused d r are (IsRefused.no_text ne) = ne are.are.has.text
  not_refused d r are (IsRefused.no_tokens f q text e told) = no_tokens_then f are.are.tokens e are.are.has
  not_refused d r are (IsRefused.no_definitions ts q has at) = none_spelled ts q d has at are.are
  not_refused d r are (IsRefused.faulty e f those first) =
      let P : Defs → Type 0 = λ x. IsFirstFault x f in
      are.faultless f (subst P (one_definitions e d those are.are) first).0

  -- so an answer that has its cause is the only one
  pub is_checked : (a : Result Defs NotRead) → IsReading bytes a → (d : Defs) → AreChecked bytes d
      → (a ≡ Ok d) ⊎ (a ≡ Err NoMemory)
  is_checked (Ok e) is d are = inl (ap (λ x. Ok x) (one_checked e d is are))
  is_checked (Err (Refused r)) is d are = absurd (not_refused d r are is)
  is_checked (Err NoMemory) is d are = inr refl

  pub is_refused : (a : Result Defs NotRead) → IsReading bytes a → (r : Refusal) → IsRefused bytes r
      → (a ≡ Err (Refused r)) ⊎ (a ≡ Err NoMemory)
  is_refused (Ok e) is r of = absurd (not_refused e r is of)
  is_refused (Err (Refused s)) is r of = inl (ap (λ x. Err (Refused x)) (one_refusal s r is of))
  is_refused (Err NoMemory) is r of = inr refl

  pub told_refused : (a : Result Defs NotRead) → IsReading bytes a → (r : Refusal) → a ≡ Err (Refused r)
      → IsRefused bytes r
  told_refused a is r e = let P : Result Defs NotRead → Type 0 = λ x. IsReading bytes x in subst P e is

  -- what each step tells
  pub no_text_reading : (n line : ℕ) → IsValidUpTo bytes n → line ≡ line_of bytes n
      → IsReading bytes (Err (refused_at line kind.BadChar))
  no_text_reading n line valid is =
      let len : utf8_valid_len bytes ≡ n = utf8_valid_len-IsValidUpTo bytes n valid in
      let short : n < length bytes = valid.short in
      let P : ℕ → Type 0 = λ l. IsRefused bytes (refusal l kind.BadChar) in
      subst P (ap (λ m. line_of bytes m) len ∙ sym is)
      (IsRefused.no_text (λ e. let never : ⊥ = omega arith in never))

  pub lexed_reading : (f : LexFault) (a : Result (List Token) LexFault) → IsText bytes → a ≡ Err f
      → (a ≡ tokens_of bytes) ⊎ (a ≡ Err lex.NoMemory) → IsReading bytes (Err (lexed f))
  lexed_reading (lex.BadChar line) a text is (inl e) =
      IsRefused.no_tokens (lex.BadChar line) (refusal line kind.BadChar) text (sym e ∙ is) refl
  lexed_reading (lex.OpenText line) a text is (inl e) =
      IsRefused.no_tokens (lex.OpenText line) (refusal line kind.OpenText) text (sym e ∙ is) refl
  lexed_reading (lex.TooLong line) a text is (inl e) =
      IsRefused.no_tokens (lex.TooLong line) (refusal line kind.TooLong) text (sym e ∙ is) refl
  lexed_reading lex.NoMemory a text is (inl e) = tt
  lexed_reading (lex.BadChar line) a text is (inr e) = absurd (let never : ⊥ = cc in never)
  lexed_reading (lex.OpenText line) a text is (inr e) = absurd (let never : ⊥ = cc in never)
  lexed_reading (lex.TooLong line) a text is (inr e) = absurd (let never : ⊥ = cc in never)
  lexed_reading lex.NoMemory a text is (inr e) = tt

  pub unexpected_reading : (ts : List Token) (line : ℕ) → HasTokens bytes ts
      → HasUnexpected (defs (last_line_of bytes)) (last_line_of bytes) (all_spelled bytes ts) line
      → IsReading bytes (Err (refused_at line kind.Expected))
  unexpected_reading ts line has at =
      IsRefused.no_definitions ts (refusal line kind.Expected) has (AreNoDefinitions.unexpected line at)

  pub left_out_reading : (ts : List Token) (line : ℕ) → HasTokens bytes ts
      → HasLeftOut (defs (last_line_of bytes)) (all_spelled bytes ts) line
      → IsReading bytes (Err (refused_at line kind.LeftOut))
  left_out_reading ts line has at =
      IsRefused.no_definitions ts (refusal line kind.LeftOut) has (AreNoDefinitions.left_out line at)

  pub checked_reading : (d : Defs) (a : Result Defs NotRead) → AreDefinitions bytes d → IsChecking d a → IsReading bytes a
  checked_reading d (Ok e) are (same, faultless) =
      let P : Defs → Type 0 = λ x. AreChecked bytes x in
      subst P (sym same) (record { are = are; faultless = faultless })
  checked_reading d (Err (Refused r)) are (f, first, told) =
      let P : Refusal → Type 0 = λ x. IsRefused bytes x in subst P (sym told) (IsRefused.faulty d f are first)
  checked_reading d (Err NoMemory) are is = tt

-- a fault of definitions, as it is told
pub checked_fault : (d : Defs) (e : DefFault) → ((f : Fault) → e ≡ told f → IsFirstFault d f)
    → IsChecking d (Err (checked e))
checked_fault d (def.Duplicate line) causes =
    let f : Fault = record { line = line; kind = found.Duplicate } in (f, causes f refl, refl)
checked_fault d (def.UnknownName line) causes =
    let f : Fault = record { line = line; kind = found.UnknownName } in (f, causes f refl, refl)
checked_fault d (def.OutOfRange line) causes =
    let f : Fault = record { line = line; kind = found.OutOfRange } in (f, causes f refl, refl)
checked_fault d (def.ForeignResource line) causes =
    let f : Fault = record { line = line; kind = found.ForeignResource } in (f, causes f refl, refl)
checked_fault d (def.FollowsCycle line) causes =
    let f : Fault = record { line = line; kind = found.FollowsCycle } in (f, causes f refl, refl)
checked_fault d (def.Tree line) causes =
    let f : Fault = record { line = line; kind = found.Tree } in (f, causes f refl, refl)
checked_fault d def.NoMemory causes = tt
