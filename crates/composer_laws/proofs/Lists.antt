-- Lists that are read back.
use Rattle.std.proofs.Common.{◌≡◌, ℕ, Bool, true, false, not, ◌&&◌, List, [], ◌∷◌, ◌++◌, map, flat_map, codes, refl, ap, sym, ◌∙◌, append_assoc, append-nil}
use Rattle.std.proofs.lemmas.List.{map-append, map-id}
use Rattle.composer_parser.specs.Kinds.{a_mark, mark}
use Rattle.composer_parser.specs.Grammars.{Grammar}
use Rattle.composer_parser.specs.Reading.{empty}
use Rattle.composer_parser.specs.Parts.{put, always, any_number, comma, with_commas}
use Rattle.composer_print.specs.Texts.{texts_from}
use Rattle.composer_laws.specs.Written.{Each, IsList}
use Rattle.composer_laws.proofs.Phrases.{comma_phrase}
use Rattle.composer_laws.proofs.Readings.{Reads, one_reads, made_reads, app, weaker, many_reads, Runs, no_runs, any_run, more_runs, runs_to, as_text}
use Rattle.composer_laws.proofs.Words.{Any}

-- a flag that stands is no hindrance to another one
pub other : (b : Bool) → not (b && false) ≡ true
other true = refl
other false = refl

list_run : {A X K : Type 0} {at : Bool} (tie : A → K) (key : X → K) (text : X → List ℕ) (g : Grammar A) (Good : X → Type 0)
    → empty g ≡ false → ((x : X) → Good x → Reads at at g (text x) (λ a. tie a ≡ key x)) → (done : List K) (xs : List X)
    → Each Good xs
    → Runs at at put always g (λ s. map tie s ≡ done) (flat_map text xs) (λ s. map tie s ≡ done ++ map key xs)
list_run tie key text g Good some read done [] h = runs_to no_runs (λ st e. e ∙ sym (append-nil done))
list_run tie key text g Good some read done (x ∷ xs) h =
    more_runs
    (any_run (read x h.0) some (λ st a e r. map-append tie st (a ∷ []) ∙ (λ i. e i ++ r i ∷ [])) (λ st t. refl))
    (runs_to (list_run tie key text g Good some read (done ++ key x ∷ []) xs h.1)
    (λ st e. e ∙ append_assoc done (key x ∷ []) (map key xs)))

-- any number of what has a value by something that is known of it
pub list_reads_by : {A X K : Type 0} {at : Bool} (tie : A → K) (key : X → K) (text : X → List ℕ) (g : Grammar A)
    (Good : X → Type 0) → empty g ≡ false → ((x : X) → Good x → Reads at at g (text x) (λ a. tie a ≡ key x))
    → (xs : List X) → Each Good xs → Reads at at (any_number g) (flat_map text xs) (λ vs. map tie vs ≡ map key xs)
list_reads_by tie key text g Good some read xs h =
    many_reads [] (λ vs. vs) (list_run tie key text g Good some read [] xs h) refl (λ last e. e)

pub list_reads : {A X : Type 0} {at : Bool} (tie : A → X) (text : X → List ℕ) (g : Grammar A) (Good : X → Type 0)
    → empty g ≡ false → ((x : X) → Good x → Reads at at g (text x) (λ a. tie a ≡ x)) → (xs : List X) → Each Good xs
    → Reads at at (any_number g) (flat_map text xs) (λ vs. map tie vs ≡ xs)
list_reads tie text g Good some read xs h =
    weaker (list_reads_by tie (λ x. x) text g Good some read xs h) (λ vs e. e ∙ map-id xs)

pub comma_reads : Reads false false comma (44 ∷ []) Any
comma_reads = one_reads (a_mark 44) (λ t. tt) (mark 44) comma_phrase refl (λ line. tt)

commas_text : {X : Type 0} (text : X → List ℕ) (k : List ℕ) (xs : List X)
    → flat_map (λ y. 44 ∷ 32 ∷ text y) xs ≡ texts_from (codes ", ") k true (map text xs)
commas_text text k [] = refl
commas_text text k (x ∷ xs) = ap (λ t. 44 ∷ 32 ∷ (text x ++ t)) (commas_text text k xs)

-- a list behind a blank, where this is the keyword before it
abbrev pub behind_blank : List ℕ → List (List ℕ) → List ℕ
behind_blank k [] = []
behind_blank k (t ∷ ts) = 32 ∷ (t ++ texts_from (codes ", ") k true ts)

pub commas_reads : {X : Type 0} (k : List ℕ) (text : X → List ℕ) (g further : Grammar X) (Good : X → Type 0)
    → ((x : X) → Good x → Reads false false g (32 ∷ text x) (λ v. v ≡ x))
    → ((x : X) → Good x → Reads false false further (44 ∷ 32 ∷ text x) (λ v. v ≡ x)) → empty further ≡ false
    → (xs : List X) → IsList Good xs → Reads false false (with_commas g further) (behind_blank k (map text xs)) (λ vs. vs ≡ xs)
commas_reads k text g further Good read next some [] h = absurd h
commas_reads k text g further Good read next some (x ∷ xs) h =
    as_text
    (app (app (made_reads false (λ a e more d i. e i ∷ d i)) (read x h.0))
    (weaker (list_reads (λ v. v) (λ y. 44 ∷ 32 ∷ text y) further Good some next xs h.1) (λ vs e. sym (map-id vs) ∙ e)))
    (ap (λ t. 32 ∷ (text x ++ t)) (commas_text text k xs))
