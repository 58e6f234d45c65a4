-- What is read from a text, and from its canonical text.
use Rattle.std.proofs.Common.{◌≡◌, ℕ, List, None, sym, subst}
use Rattle.std.specs.Prelude.{Ok}
use Rattle.base_types.specs.declared.Token.{Token}
use Rattle.model.specs.Types.{StreamDraft}
use Rattle.composer_lexer.specs.Tokens.{tokens_of}
use Rattle.composer_parser.specs.declared.Defs.{Defs}
use Rattle.composer_parser.specs.Composer.{defs}
use Rattle.composer_parser.specs.Faults.{last_line_of}
use Rattle.composer_parser.specs.Grammars.{Spells}
use Rattle.composer_parser.specs.Tokens.{all_spelled}
use Rattle.composer_parser.proofs.Exactly.{one_value}
use Rattle.composer_parser.proofs.Sound.{defs_sound}
use Rattle.composer_print.specs.Normal.{normal}
use Rattle.composer_print.specs.Printed.{text_of, printed}
use Rattle.composer_laws.specs.Lines.{without_lines}
use Rattle.composer_laws.specs.Returns.{IsReadBack}
use Rattle.composer_laws.specs.Written.{AreDefs}
use Rattle.composer_laws.proofs.KeptDefs.{read_defs}
use Rattle.composer_laws.proofs.Normals.{defs_normal}
use Rattle.composer_laws.proofs.Returns.{read_back}
use Rattle.definition_faults.specs.Faults.{IsFaultless}
use Rattle.definition_texts.specs.Refusals.{IsText, AreDefinitions}
use Rattle.std.proofs.lemmas.Str.{utf8_valid_len-IsUtf8}
use Rattle.plan_builder.specs.Drafts.{AreDrafts}
use Rattle.plan_builder.specs.Limits.{time_fault}
use Rattle.canonical_laws.proofs.Faultless.{one_form}
use Rattle.canonical_laws.proofs.Lines.{read_form}
use Rattle.canonical_laws.proofs.Lists.{Both}
use Rattle.canonical_laws.proofs.Meanings.{timed_together, one_list_of_drafts}
use Rattle.canonical_laws.proofs.Printed.{text_utf8}

-- definitions that were read are as a reader gives them
pub are_read : (text : List ℕ) (d : Defs) → AreDefinitions text d → AreDefs d
are_read text d a = read_defs text a.tokens (last_line_of text) d a.has.are a.spelled

-- what is read from bytes is read from them in one way
one_reading : (bytes : List ℕ) (ts us : List Token) (d e : Defs) → tokens_of bytes ≡ Ok ts → tokens_of bytes ≡ Ok us
    → Spells (defs (last_line_of bytes)) (all_spelled bytes ts) d
    → Spells (defs (last_line_of bytes)) (all_spelled bytes us) e → d ≡ e
one_reading bytes ts us d e left right one other =
    let same : ts ≡ us = cc in
    let last : ℕ = last_line_of bytes in
    let there_ : Spells (defs last) (all_spelled bytes us) d =
    subst (λ (xs : List Token). Spells (defs last) (all_spelled bytes xs) d) same one in
    one_value (defs last) (all_spelled bytes us) (defs_sound last) d e there_ other

-- what is read from the canonical text has the normal form of what was read
pub form_of_read : (text : List ℕ) (d e : Defs) → AreDefinitions text d → AreDefinitions (printed d) e
    → normal d ≡ normal e
form_of_read text d e a b =
    let back : IsReadBack d = read_back d (defs_normal d (are_read text d a)) in
    let same : back.2.0 ≡ e =
    one_reading (printed d) back.0 b.tokens back.2.0 e back.1 b.has.are back.2.1 b.spelled in
    read_form d e (subst (λ (x : Defs). without_lines x ≡ normal d) same back.2.2)

pub faultless_read : (d e : Defs) → normal d ≡ normal e → Both (IsFaultless d) (IsFaultless e)
faultless_read d e same = (λ none. one_form d e same none, λ none. one_form e d (sym same) none)

pub timed_read : (d e : Defs) → normal d ≡ normal e → (day : ℕ)
    → Both (time_fault d day ≡ None) (time_fault e day ≡ None)
timed_read d e same day = (λ none. timed_together d e same day none, λ none. timed_together e d (sym same) day none)

pub drafted_read : (text : List ℕ) (d e : Defs) → AreDefinitions text d → AreDefinitions (printed d) e → (day : ℕ)
    (drafts : List StreamDraft) → Both (AreDrafts d day drafts) (AreDrafts e day drafts)
drafted_read text d e a b day drafts =
    let same = form_of_read text d e a b in
    let left = are_read text d a in
    let right = are_read (printed d) e b in (
      λ are. one_list_of_drafts d e left right same day drafts are,
      λ are. one_list_of_drafts e d right left (sym same) day drafts are,
    )

-- the canonical text is a text that is read
printed_text : (d : Defs) → AreDefs (normal d) → IsText (printed d)
unfolding printed
printed_text d h = utf8_valid_len-IsUtf8 (text_of (normal d)) (text_utf8 (normal d) h)

pub text_read : (text : List ℕ) (d : Defs) → AreDefinitions text d → (e : Defs) × AreDefinitions (printed d) e
text_read text d a =
    let is : AreDefs (normal d) = defs_normal d (are_read text d a) in
    let back : IsReadBack d = read_back d is in (
      back.2.0,
      record { tokens = back.0; has = record { text = printed_text d is; are = back.1 }; spelled = back.2.1 },
    )
