-- Whether a stream is meant by its name, told by the first fresh and the last carried stream of that name.
use Rattle.std.proofs.Common.{[], ℕ, ◌+◌, ◌∙◌, ◌∷◌, ◌≡◌, ◌||◌, Bool, List, None, Option, Some, ap, cond, drop}
use Rattle.std.proofs.Common.{false, filter_map, find, refl, reverse, sym, true}
use Rattle.std.specs.List.{list_any}
use Rattle.std.specs.Option.{option_map_or}
use Rattle.std.specs.Prelude.{◌==◌, slice_get}
use Rattle.lemmas.proofs.Numbers.{eq_turned}
use Rattle.model_laws.proofs.Documents.{text_turned}
use Rattle.model.specs.Types.{StreamDoc}
use Rattle.model.specs.History.{View}
use Rattle.model.specs.Catalogue.{stream}
use Rattle.model.specs.Sound.{have_one_name, is_meant}
use Rattle.event_audit.specs.Meanings.{is_called}
use Rattle.event_audit.proofs.Passing.{any_given, any_skipped}

-- the documents of these streams
abbrev pub known : View → List ℕ → List StreamDoc
known V carried = filter_map (stream V) carried

-- its own name is what others are called by
called_so : (d e : StreamDoc) → have_one_name d e ≡ is_called d.ws d.name e
called_so d e = rw (eq_turned d.ws e.ws, text_turned d.name e.name) refl

found_so : (d : StreamDoc) (docs : List StreamDoc) → find (have_one_name d) docs ≡ find (is_called d.ws d.name) docs
found_so d [] = refl
found_so d (e ∷ docs) =
    ap (λ (b : Bool). cond b (Some e) (find (have_one_name d) docs)) (called_so d e)
    ∙ ap (λ o. cond (is_called d.ws d.name e) (Some e) o) (found_so d docs)

named_so : (w : ℕ) (n : List ℕ) (d : StreamDoc) (docs : List StreamDoc) → w ≡ d.ws → n ≡ d.name
    → find (have_one_name d) docs ≡ find (is_called w n) docs
named_so w n d docs e f = rw (e, f) (found_so d docs)

pub meant_fresh : (fresh carried : List StreamDoc) (d e : StreamDoc) (w m k : ℕ) (n : List ℕ) → w ≡ d.ws → n ≡ d.name
    → m ≡ e.no → k ≡ d.no → Some e ≡ find (is_called w n) fresh → (m == k) ≡ is_meant fresh carried d
meant_fresh fresh carried d e w m k n at_w so its own first =
    rw (its, own, named_so w n d fresh at_w so, ← first) refl

pub meant_carried : (fresh carried : List StreamDoc) (d e : StreamDoc) (w m k : ℕ) (n : List ℕ) → w ≡ d.ws
    → n ≡ d.name → m ≡ e.no → k ≡ d.no → None ≡ find (is_called w n) fresh
    → Some e ≡ find (is_called w n) (reverse carried) → (m == k) ≡ is_meant fresh carried d
meant_carried fresh carried d e w m k n at_w so its own none last =
    rw (its, own, named_so w n d fresh at_w so, ← none, named_so w n d (reverse carried) at_w so, ← last) refl

pub meant_nowhere : (fresh carried : List StreamDoc) (d : StreamDoc) (w : ℕ) (n : List ℕ) → w ≡ d.ws → n ≡ d.name
    → None ≡ find (is_called w n) fresh → None ≡ find (is_called w n) (reverse carried)
    → false ≡ is_meant fresh carried d
meant_nowhere fresh carried d w n at_w so none nor =
    rw (named_so w n d fresh at_w so, ← none, named_so w n d (reverse carried) at_w so, ← nor) refl

-- an earlier stream is known and passes a test, or it is not so
any_known : (V : View) (test : StreamDoc → Bool) (carried : List ℕ) (i s : ℕ) (o : Option StreamDoc)
    → slice_get carried i ≡ Some s → stream V s ≡ o
    → list_any test (filter_map (stream V) (drop i carried))
    ≡ (option_map_or test o false || list_any test (filter_map (stream V) (drop (i + 1) carried)))
any_known V test carried i s None there is = any_skipped (stream V) test carried i s there is
any_known V test carried i s (Some d) there is = any_given (stream V) test carried i s d there is

pub any_found : (V : View) (test : StreamDoc → Bool) (carried : List ℕ) (i s : ℕ) (all here : Bool)
    → all ≡ list_any test (filter_map (stream V) (drop i carried)) → slice_get carried i ≡ Some s
    → here ≡ option_map_or test (stream V s) false → here ≡ true → true ≡ all
any_found V test carried i s all here so_far there is yes_ =
    sym (so_far ∙ any_known V test carried i s (stream V s) there refl
    ∙ ap (λ (b : Bool). b || list_any test (filter_map (stream V) (drop (i + 1) carried))) (sym is ∙ yes_))

pub any_passed : (V : View) (test : StreamDoc → Bool) (carried : List ℕ) (i s : ℕ) (all here : Bool)
    → all ≡ list_any test (filter_map (stream V) (drop i carried)) → slice_get carried i ≡ Some s
    → here ≡ option_map_or test (stream V s) false → here ≡ false
    → all ≡ list_any test (filter_map (stream V) (drop (i + 1) carried))
any_passed V test carried i s all here so_far there is not_ =
    so_far ∙ any_known V test carried i s (stream V s) there refl
    ∙ ap (λ (b : Bool). b || list_any test (filter_map (stream V) (drop (i + 1) carried))) (sym is ∙ not_)
