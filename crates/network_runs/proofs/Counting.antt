-- What a night tells of each workstation, one happening further.
use Rattle.std.proofs.Common.{[], ◌++◌, ◌≡◌, ◌≢◌, ◌∙◌, ◌∷◌, ◌⊎◌, ℕ, List, None, Option, Some, ap, false, inl, inr, refl, sym, true}
use Rattle.std.proofs.lemmas.Bool.Decides.{eqb_tells}
use Rattle.std.proofs.lemmas.List.{append-nil}
use Rattle.std.proofs.lemmas.List.Elements.{filter_map-append}
use Rattle.std.proofs.lemmas.List.Sums.{fold-append}
use Rattle.std.specs.Prelude.{◌==◌, filter_map, if◌then◌else◌, option_map}
use Rattle.model.specs.Types.{Entry}
use Rattle.node_inputs.specs.Traces.{Event, Trace, kept_by, refusals, refused_by}
use Rattle.network_runs.specs.Happenings.{Begins, Does, Happening, Night, Stops, kept_at, kept_in, left_at_stop, made, of_its_maker, of_workstation, since, since_with, start_of, started, until_stop}

-- at which workstation it is
abbrev pub place_of : Happening → ℕ
place_of (Begins v entries) = v
place_of (Does v event) = v
place_of (Stops v left) = v

since_next : (w : ℕ) (before : Night) (h : Happening) → since w (before ++ h ∷ []) ≡ since_with w (since w before) h
since_next w before h = fold-append (since_with w) None before (h ∷ [])

pub apart : {X : Type 0} (v w : ℕ) (a b : X) → w ≢ v → (if v == w then a else b) ≡ b
apart v w a b other = go (eqb_tells v w)
  where
    go : ((v == w) ≡ true) × (v ≡ w) ⊎ ((v == w) ≡ false) × (v ≢ w) → (if v == w then a else b) ≡ b
    go (inl t) = absurd (other (sym t.1))
    go (inr t) = rw t.0 refl

pub together : {X : Type 0} (w : ℕ) (a b : X) → (if w == w then a else b) ≡ a
together w a b = go (eqb_tells w w)
  where
    go : ((w == w) ≡ true) × (w ≡ w) ⊎ ((w == w) ≡ false) × (w ≢ w) → (if w == w then a else b) ≡ a
    go (inl t) = rw t.0 refl
    go (inr t) = absurd (t.1 refl)

pub since_other : (w : ℕ) (before : Night) (h : Happening) → w ≢ place_of h → since w (before ++ h ∷ []) ≡ since w before
since_other w before (Begins v entries) other =
    since_next w before (Begins v entries) ∙ apart v w (Some []) (since w before) other
since_other w before (Does v event) other =
    since_next w before (Does v event) ∙ apart v w (option_map (λ (t : Trace). t ++ event ∷ []) (since w before)) (since w before) other
since_other w before (Stops v left) other = since_next w before (Stops v left) ∙ apart v w None (since w before) other

pub since_begins : (w : ℕ) (before : Night) (entries : List Entry) → since w (before ++ Begins w entries ∷ []) ≡ Some []
since_begins w before entries = since_next w before (Begins w entries) ∙ together w (Some []) (since w before)

pub since_does : (w : ℕ) (before : Night) (event : Event) (past : Trace) → since w before ≡ Some past
    → since w (before ++ Does w event ∷ []) ≡ Some (past ++ event ∷ [])
since_does w before event past is =
    since_next w before (Does w event)
    ∙ together w (option_map (λ (t : Trace). t ++ event ∷ []) (since w before)) (since w before)
    ∙ ap (option_map (λ (t : Trace). t ++ event ∷ [])) is

pub since_stops : (w : ℕ) (before : Night) (left : Option Entry) → since w (before ++ Stops w left ∷ []) ≡ None
since_stops w before left = since_next w before (Stops w left) ∙ together w None (since w before)

pub until_other : (w : ℕ) (h : Happening) (behind : Night) → w ≢ place_of h → until_stop w (h ∷ behind) ≡ until_stop w behind
until_other w (Begins v entries) behind other = apart v w [] (until_stop w behind) other
until_other w (Does v event) behind other = apart v w (event ∷ until_stop w behind) (until_stop w behind) other
until_other w (Stops v left) behind other = apart v w [] (until_stop w behind) other

pub until_does : (w : ℕ) (event : Event) (behind : Night) → until_stop w (Does w event ∷ behind) ≡ event ∷ until_stop w behind
until_does w event behind = together w (event ∷ until_stop w behind) (until_stop w behind)

pub until_stops : (w : ℕ) (left : Option Entry) (behind : Night) → until_stop w (Stops w left ∷ behind) ≡ []
until_stops w left behind = together w [] (until_stop w behind)

pub left_other : (w : ℕ) (h : Happening) (behind : Night) → w ≢ place_of h → left_at_stop w (h ∷ behind) ≡ left_at_stop w behind
left_other w (Begins v entries) behind other = apart v w None (left_at_stop w behind) other
left_other w (Does v event) behind other = refl
left_other w (Stops v left) behind other = apart v w left (left_at_stop w behind) other

pub left_stops : (w : ℕ) (left : Option Entry) (behind : Night) → left_at_stop w (Stops w left ∷ behind) ≡ left
left_stops w left behind = together w left (left_at_stop w behind)

pub kept_next : (w : ℕ) (before : Night) (h : Happening) → kept_at w (before ++ h ∷ []) ≡ kept_at w before ++ kept_at w (h ∷ [])
kept_next w before h =
    ap (filter_map (of_workstation w)) (filter_map-append kept_in before (h ∷ []))
    ∙ filter_map-append (of_workstation w) (filter_map kept_in before) (filter_map kept_in (h ∷ []))

none_of : (w v : ℕ) (m : Option Entry) → w ≢ v
    → filter_map (of_workstation w) (filter_map (λ (o : Option (ℕ × Entry)). o) (option_map (λ (e : Entry). (v, e)) m ∷ [])) ≡ []
none_of w v None other = refl
none_of w v (Some e) other = ap (λ (o : Option Entry). filter_map (λ (p : Option Entry). p) (o ∷ [])) (apart v w (Some e) None other)

pub kept_other : (w : ℕ) (before : Night) (h : Happening) → w ≢ place_of h → kept_at w (before ++ h ∷ []) ≡ kept_at w before
kept_other w before h other = kept_next w before h ∙ ap (λ (l : List Entry). kept_at w before ++ l) (go h other) ∙ append-nil (kept_at w before)
  where
    go : (h : Happening) → w ≢ place_of h → kept_at w (h ∷ []) ≡ []
    go (Begins v entries) other = refl
    go (Does v event) other = none_of w v (kept_by event) other
    go (Stops v left) other = none_of w v left other

pub made_next : (before : Night) (h : Happening) → made (before ++ h ∷ []) ≡ made before ++ made (h ∷ [])
made_next before h =
    ap (filter_map of_its_maker) (filter_map-append kept_in before (h ∷ []))
    ∙ filter_map-append of_its_maker (filter_map kept_in before) (filter_map kept_in (h ∷ []))

pub started_next : (before : Night) (h : Happening) → started (before ++ h ∷ []) ≡ started before ++ started (h ∷ [])
started_next before h = filter_map-append start_of before (h ∷ [])

pub refusals_next : (past : Trace) (event : Event) → refusals (past ++ event ∷ []) ≡ refusals past ++ refusals (event ∷ [])
refusals_next past event = filter_map-append refused_by past (event ∷ [])
