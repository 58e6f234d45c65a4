-- What came whole was sent.
use Rattle.std.proofs.Common.{[], lit<, ◌++◌, ◌≡◌, ◌≢◌, ◌∙◌, ◌∷◌, ◌⊎◌, Bool, Contains, IfSome, List, None, Option, Some, ap, append-nil, append_assoc, false, fold, inl, inr, option_map, refl, subst, sym, true, ℕ}
use Rattle.std.proofs.lemmas.Bool.Decides.{eqb_tells}
use Rattle.std.proofs.lemmas.List.Elements.{Contains-append_left}
use Rattle.std.proofs.lemmas.List.Sums.{fold-append}
use Rattle.std.specs.List.{list_all}
use Rattle.std.specs.Prelude.{◌&&◌, ◌==◌, if◌then◌else◌}
use Rattle.lemmas.proofs.Booleans.{and_parts}
use Rattle.lemmas.proofs.Lists.{same_head, same_tail}
use Rattle.mail_frames.specs.declared.frames.Frame.{Frame}
use Rattle.mail_frames.specs.Spelling.{frame_bytes}
use Rattle.mail_frames.specs.Streams.{AreFramesOf}
use Rattle.outside.specs.declared.links.Arrival.TheVariants as arrival
use Rattle.node_inputs.specs.Traces.{Event, Trace}
use Rattle.network_runs.specs.Happenings.{Begins, Does, Happening, Night, Stops, heard_from, heard_with, since, since_with}
use Rattle.network_runs.specs.Nights.{IsForNodes, IsSent, StandsIn}
use Rattle.worked_night.specs.Happened.{before_mail, behind_mail, mail, night, sent}
use Rattle.worked_night.proofs.Frames.{mail_frame, none_whole, only_one}

-- no bytes of a workstation come in it
abbrev pub is_quiet_event : Event → Bool
is_quiet_event (Event.Comes (arrival.Bytes y bytes)) = false
is_quiet_event _ = true

abbrev pub is_quiet : Happening → Bool
is_quiet (Does v event) = is_quiet_event event
is_quiet _ = true

-- a workstation heard nothing of another, or the mail
abbrev pub HeardSo : ℕ → ℕ → Bool → List ℕ → Type 0
HeardSo w x true bytes = (bytes ≡ []) ⊎ ((w ≡ 1) × (x ≡ 0) × (bytes ≡ frame_bytes mail))
HeardSo w x false bytes = bytes ≡ []

nothing_so : (w x : ℕ) (came : Bool) → HeardSo w x came []
nothing_so w x true = inl refl
nothing_so w x false = refl

abbrev pub IsHeardSo : ℕ → ℕ → Bool → Option Trace → Type 0
IsHeardSo w x came s = IfSome s (λ (past : Trace). HeardSo w x came (heard_from x past))

either_so : (w x : ℕ) (came t : Bool) (bytes : List ℕ) → HeardSo w x came bytes → HeardSo w x came (if t then [] else bytes)
either_so w x came true bytes so = nothing_so w x came
either_so w x came false bytes so = so

event_so : (w x : ℕ) (came : Bool) (bytes : List ℕ) (event : Event) → is_quiet_event event ≡ true → HeardSo w x came bytes
    → HeardSo w x came (heard_with x bytes event)
event_so w x came bytes (Event.Comes (arrival.Bytes y more)) quiet so = cc
event_so w x came bytes (Event.Comes (arrival.Up y)) quiet so = either_so w x came (x == y) bytes so
event_so w x came bytes (Event.Comes (arrival.Down y)) quiet so = either_so w x came (x == y) bytes so
event_so w x came bytes (Event.Comes (arrival.Client more)) quiet so = so
event_so w x came bytes (Event.Comes arrival.Nothing) quiet so = so
event_so w x came bytes (Event.Comes arrival.NoMemory) quiet so = so
event_so w x came bytes (Event.Keeps e) quiet so = so
event_so w x came bytes (Event.Refuses e why) quiet so = so
event_so w x came bytes (Event.Reads t) quiet so = so
event_so w x came bytes (Event.Reports r) quiet so = so
event_so w x came bytes (Event.Looks p a) quiet so = so
event_so w x came bytes (Event.Starts c) quiet so = so
event_so w x came bytes (Event.Kills j n) quiet so = so
event_so w x came bytes (Event.Sends c) quiet so = so
event_so w x came bytes (Event.Replies c) quiet so = so
event_so w x came bytes (Event.Asks c) quiet so = so

heard_further : (x : ℕ) (past : Trace) (event : Event) → heard_from x (past ++ event ∷ []) ≡ heard_with x (heard_from x past) event
heard_further x past event = fold-append (heard_with x) [] past (event ∷ [])

if_so : (w x : ℕ) (came t : Bool) (a b : Option Trace) → IsHeardSo w x came a → IsHeardSo w x came b
    → IsHeardSo w x came (if t then a else b)
if_so w x came true a b h k = h
if_so w x came false a b h k = k

does_so : (w x : ℕ) (came : Bool) (s : Option Trace) (event : Event) → is_quiet_event event ≡ true → IsHeardSo w x came s
    → IsHeardSo w x came (option_map (λ (t : Trace). t ++ event ∷ []) s)
does_so w x came None event quiet so = tt
does_so w x came (Some past) event quiet so =
    subst (HeardSo w x came) (sym (heard_further x past event)) (event_so w x came (heard_from x past) event quiet so)

one_so : (w x : ℕ) (came : Bool) (s : Option Trace) (h : Happening) → is_quiet h ≡ true → IsHeardSo w x came s
    → IsHeardSo w x came (since_with w s h)
one_so w x came s (Begins v entries) quiet so = if_so w x came (v == w) (Some []) s (nothing_so w x came) so
one_so w x came s (Does v event) quiet so =
    if_so w x came (v == w) (option_map (λ (t : Trace). t ++ event ∷ []) s) s (does_so w x came s event quiet so) so
one_so w x came s (Stops v left) quiet so = if_so w x came (v == w) None s tt so

pub all_so : (w x : ℕ) (came : Bool) (s : Option Trace) (some : Night) → list_all is_quiet some ≡ true → IsHeardSo w x came s
    → IsHeardSo w x came (fold (since_with w) s some)
all_so w x came s [] quiet so = so
all_so w x came s (h ∷ some) quiet so =
    let both = and_parts (is_quiet h) (list_all is_quiet some) quiet in
    all_so w x came (since_with w s h) some both.1 (one_so w x came s h both.0 so)

-- the mail comes
abbrev comes : Happening
comes = Does 1 (Event.Comes (arrival.Bytes 0 (frame_bytes mail)))

mail_so : (w x : ℕ) → IsHeardSo w x true (since w (before_mail ++ comes ∷ []))
mail_so w x = go (eqb_tells 1 w) (eqb_tells x 0)
  where
    further : since w (before_mail ++ comes ∷ []) ≡ since_with w (since w before_mail) (comes)
    further = fold-append (since_with w) None before_mail (comes ∷ [])

    before_so : IsHeardSo w x true (since w before_mail)
    before_so = all_so w x true None before_mail refl tt

    go : ((1 == w) ≡ true) × (1 ≡ w) ⊎ ((1 == w) ≡ false) × (1 ≢ w) → ((x == 0) ≡ true) × (x ≡ 0) ⊎ ((x == 0) ≡ false) × (x ≢ 0)
        → IsHeardSo w x true (since w (before_mail ++ comes ∷ []))
    go (inl here) (inl there) =
        subst (λ (u : ℕ). IsHeardSo u x true (since u (before_mail ++ comes ∷ []))) here.1
        (subst (λ (y : ℕ). IsHeardSo 1 y true (since 1 (before_mail ++ comes ∷ []))) (sym there.1)
        (inr (refl, refl, refl)))
    go (inl here) (inr other) =
        subst (λ (u : ℕ). IsHeardSo u x true (since u (before_mail ++ comes ∷ []))) here.1
        (inl (ap (λ (t : Bool). if t then frame_bytes mail else []) other.0))
    go (inr other) k =
        subst (IsHeardSo w x true)
        (sym (further ∙ ap (λ (t : Bool). if t then option_map (λ (p : Trace). p ++ Event.Comes (arrival.Bytes 0 (frame_bytes mail)) ∷ []) (since w before_mail) else since w before_mail) other.0))
        before_so

-- a front of two lists is one of the first, or has the first whole
front_of : {X : Type 0} (xs ys before behind : List X) → xs ++ ys ≡ before ++ behind
    → ((more : List X) × (xs ≡ before ++ more)) ⊎ ((front : List X) × (before ≡ xs ++ front) × (ys ≡ front ++ behind))
front_of xs ys [] behind e = inl (xs, refl)
front_of [] ys (b ∷ before) behind e = inr (b ∷ before, refl, e)
front_of {X} (x ∷ xs) ys (b ∷ before) behind e = go (front_of xs ys before behind (same_tail e)) (same_head e)
  where
    go : ((more : List X) × (xs ≡ before ++ more)) ⊎ ((front : List X) × (before ≡ xs ++ front) × (ys ≡ front ++ behind)) → x ≡ b
        → ((more : List X) × (x ∷ xs ≡ b ∷ before ++ more)) ⊎ ((front : List X) × (b ∷ before ≡ x ∷ xs ++ front) × (ys ≡ front ++ behind))
    go (inl h) same = inl (h.0, ap (λ z. z ∷ xs) same ∙ ap (λ l. b ∷ l) h.1)
    go (inr h) same = inr (h.0, ap (λ z. z ∷ before) (sym same) ∙ ap (λ l. x ∷ l) h.1, h.2)

pub all_front : (front back : Night) → list_all is_quiet (front ++ back) ≡ true → list_all is_quiet front ≡ true
all_front [] back h = refl
all_front (one ∷ front) back h =
    let both = and_parts (is_quiet one) (list_all is_quiet (front ++ back)) h in
    ap (λ (t : Bool). t && list_all is_quiet front) both.0 ∙ all_front front back both.1

-- it is sent before
is_sent : Contains before_mail (Does 0 (Event.Sends sent))
is_sent = (14, lit< tt, refl)

pub none_heard : (before : Night) (w x : ℕ) (past : Trace) (f : Frame) → IsHeardSo w x false (since w before) → since w before ≡ Some past
    → StandsIn (heard_from x past) f → ⊥
none_heard before w x past f so some stands =
    none_whole stands.frames
    (subst (λ (b : List ℕ). AreFramesOf b stands.frames) none stands.are) f stands.among
  where
    none : heard_from x past ≡ []
    none = subst (IsHeardSo w x false) some so

behind_so : (front : Night) (w x : ℕ) → list_all is_quiet front ≡ true → IsHeardSo w x true (since w ((before_mail ++ comes ∷ []) ++ front))
behind_so front w x quiet =
    subst (IsHeardSo w x true) (sym (fold-append (since_with w) None (before_mail ++ comes ∷ []) front))
    (all_so w x true (since w (before_mail ++ comes ∷ [])) front quiet (mail_so w x))

sent_mail : (before : Night) (w x : ℕ) (past : Trace) (f : Frame) → Contains before (Does 0 (Event.Sends sent))
    → IsHeardSo w x true (since w before) → since w before ≡ Some past → StandsIn (heard_from x past) f → IsSent before x w f
sent_mail before w x past f among so some stands = go (subst (IsHeardSo w x true) some so)
  where
    go : (heard_from x past ≡ []) ⊎ ((w ≡ 1) × (x ≡ 0) × (heard_from x past ≡ frame_bytes mail)) → IsSent before x w f
    go (inl none) =
        absurd (none_whole stands.frames (subst (λ (b : List ℕ). AreFramesOf b stands.frames) none stands.are) f stands.among)
    go (inr its) =
        let same : mail ≡ f =
        only_one mail mail_frame stands.frames
        (subst (λ (b : List ℕ). AreFramesOf b stands.frames) its.2 stands.are) f stands.among in
        subst (λ (g : Frame). IsSent before x w g) same
        (subst (λ (u : ℕ). IsSent before x u mail) (sym its.0)
        (subst (λ (y : ℕ). IsSent before y 1 mail) (sym its.1) (true, among)))

pub links : (before behind : Night) (w x : ℕ) (past : Trace) (f : Frame) → night ≡ before ++ behind → since w before ≡ Some past
    → StandsIn (heard_from x past) f → IsForNodes f → IsSent before x w f
links before behind w x past f is some stands is_for = go (front_of before_mail (comes ∷ behind_mail) before behind is)
  where
    go : ((more : Night) × (before_mail ≡ before ++ more))
        ⊎ ((front : Night) × (before ≡ before_mail ++ front) × (comes ∷ behind_mail ≡ front ++ behind)) → IsSent before x w f
    go (inl h) =
        absurd (none_heard before w x past f
        (all_so w x false None before (all_front before h.0 (subst (λ (l : Night). list_all is_quiet l ≡ true) h.1 refl)) tt) some stands)
    go (inr (front, whole, rest)) = at_front front whole rest
      where
        at_front : (front : Night) → before ≡ before_mail ++ front → comes ∷ behind_mail ≡ front ++ behind → IsSent before x w f
        at_front [] whole rest =
            absurd (none_heard before w x past f
            (subst (λ (l : Night). IsHeardSo w x false (since w l)) (sym (whole ∙ append-nil before_mail))
            (all_so w x false None before_mail refl tt)) some stands)
        at_front (one ∷ front) whole rest =
            let same : before ≡ (before_mail ++ comes ∷ []) ++ front =
            whole ∙ ap (λ (h : Happening). before_mail ++ h ∷ front) (sym (same_head rest)) ∙ sym (append_assoc before_mail (comes ∷ []) front) in
            sent_mail before w x past f
            (subst (λ (l : Night). Contains l (Does 0 (Event.Sends sent))) (sym whole)
            (Contains-append_left before_mail (one ∷ front) (Does 0 (Event.Sends sent)) is_sent))
            (subst (λ (l : Night). IsHeardSo w x true (since w l)) (sym same)
            (behind_so front w x (all_front front behind (subst (λ (l : Night). list_all is_quiet l ≡ true) (same_tail rest) refl))))
            some stands
