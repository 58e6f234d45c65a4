-- In a night no launch is started twice.
use Rattle.std.proofs.Common.{[], ◌++◌, ◌<◌, ◌≡◌, ◌≢◌, ◌∙◌, ◌∷◌, ◌⊎◌, ℕ, List, None, Option, Some, ap, append_assoc, arith, false, inl, inr, refl, subst, sym, true}
use Rattle.std.proofs.lemmas.Bool.Decides.{eqb_tells}
use Rattle.std.proofs.lemmas.List.{append-nil}
use Rattle.std.proofs.lemmas.List.Elements.{filter_map-append}
use Rattle.std.specs.Prelude.{◌==◌, filter_map, if◌then◌else◌, option_map}
use Rattle.lemmas.proofs.Lists.{take_whole}
use Rattle.composer_parser.specs.declared.Defs.{Defs}
use Rattle.model.specs.Types.{Entry, Events, Net, Start}
use Rattle.model.specs.History.{list_of}
use Rattle.model.specs.Network.{node_count}
use Rattle.model.specs.World.{World}
use Rattle.outside.specs.Calls.{StartCall}
use Rattle.workload_defs.specs.Nets.{net_of}
use Rattle.agent_core.specs.Nodes.{NodeState}
use Rattle.node_inputs.specs.Traces.{Event, Trace, kept, kept_by}
use Rattle.node_inputs.specs.declared.ends.NodeEnd.{NodeEnd}
use Rattle.node_loop.specs.Runs.{Run, Running, running}
use Rattle.run_laws.specs.Launches.{launch_in, launch_of, launches_kept, launches_started}
use Rattle.run_laws.proofs.Starting.{started-append}
use Rattle.network_runs.specs.Happenings.{Begins, Does, Happening, Night, Stops, kept_at, kept_in, made, of_workstation, since, started, until_stop}
use Rattle.network_runs.specs.Nights.{IsLife, IsNight}
use Rattle.network_runs.proofs.Worlds.{invariant}
use Rattle.network_runs.proofs.Members.{IsIn, in_either, in_left, in_right}
use Rattle.network_runs.proofs.Counting.{kept_next, kept_other, place_of, since_begins, since_does, since_other, since_stops, started_next, until_does, until_other}
use Rattle.network_runs.proofs.Uniques.{Launch, launches_listed, no_launch_again, no_launch_elsewhere}
use Rattle.network_runs.proofs.Whole.{IsSoFar, not_up}

-- when a job starts its launch is the last that the run kept, and all others of them were started
abbrev pub StartsLaw : Type 0
StartsLaw =
    (defs : Defs) (turns : ℕ) (node : NodeState) (trace : Trace) (end : Option NodeEnd) (new : Running)
    → Run defs turns (running node) trace end new
    → (front back : Trace) (call : StartCall) → trace ≡ front ++ Event.Starts call ∷ back
    → launches_kept node.me front ≡ launches_started front ++ (call.job, call.number) ∷ []

abbrev start_at : ℕ → ℕ → ℕ → Start
start_at w j n = record { ws = w; job = j; number = n }

abbrev pub launches_of : ℕ → List Entry → List Launch
launches_of w K = filter_map (launch_of w) K

abbrev FrontLaw : ℕ → Trace → Type 0
FrontLaw w trace =
    (front back : Trace) (call : StartCall) → trace ≡ front ++ Event.Starts call ∷ back
    → launches_kept w front ≡ launches_started front ++ (call.job, call.number) ∷ []

data Busy (net : Net) (before behind : Night) (w : ℕ) : Type 0 where
  idle : since w before ≡ None → Busy net before behind w
  busy : (past rest : Trace) (base : List Entry) → w < node_count net → since w before ≡ Some past → kept_at w before ≡ base ++ kept past
      → ((j n : ℕ) → IsIn (start_at w j n) (started before) → IsIn (j, n) (launches_of w base ++ launches_started past))
      → FrontLaw w (past ++ (until_stop w behind ++ rest)) → Busy net before behind w

record Marks (net : Net) (before behind : Night) : Type 0 where
  pub was : (v j n : ℕ) → IsIn (start_at v j n) (started before)
      → (v < node_count net) × IsIn (j, n) (launches_of v (kept_at v before))
  pub runs : (w : ℕ) → Busy net before behind w

-- what starts in a happening
record IsStartOf (w : ℕ) (event : Event) (s : Start) : Type 0 where
  pub call : StartCall
  pub is : event ≡ Event.Starts call
  pub its : start_at w call.job call.number ≡ s

starts_in : (w : ℕ) (event : Event) (s : Start) → IsIn s (started (Does w event ∷ [])) → IsStartOf w event s
starts_in w (Event.Starts call) s (inl same) = record { call = call; is = refl; its = same }
starts_in w (Event.Starts call) s (inr none) = absurd none
starts_in w (Event.Sends call) s h = absurd h
starts_in w (Event.Keeps e) s h = absurd h
starts_in w (Event.Refuses e why) s h = absurd h
starts_in w (Event.Reads t) s h = absurd h
starts_in w (Event.Comes a) s h = absurd h
starts_in w (Event.Reports a) s h = absurd h
starts_in w (Event.Looks p a) s h = absurd h
starts_in w (Event.Kills j n) s h = absurd h
starts_in w (Event.Replies c) s h = absurd h
starts_in w (Event.Asks c) s h = absurd h

starts_place : (h : Happening) (s : Start) → IsIn s (started (h ∷ [])) → s.ws ≡ place_of h
starts_place (Begins v entries) s k = absurd k
starts_place (Does v event) s k = ap (λ (t : Start). t.ws) (sym (starts_in v event s k).its)
starts_place (Stops v left) s k = absurd k

in_next : (before : Night) (h : Happening) (s : Start) → IsIn s (started (before ++ h ∷ []))
    → IsIn s (started before) ⊎ IsIn s (started (h ∷ []))
in_next before h s k = in_either s (started before) (started (h ∷ [])) (subst (IsIn s) (started_next before h) k)

busy_on : (net : Net) (before behind : Night) (h : Happening) (w : ℕ) → w ≢ place_of h → Busy net before (h ∷ behind) w
    → Busy net (before ++ h ∷ []) behind w
busy_on net before behind h w other (Busy.idle none) = Busy.idle (since_other w before h other ∙ none)
busy_on net before behind h w other (Busy.busy past rest base inside some same from law) =
    Busy.busy past rest base inside (since_other w before h other ∙ some) (kept_other w before h other ∙ same)
    (λ j n k.
    elim (in_next before h (start_at w j n) k) [
      | inl old ↦ from j n old
      | inr new ↦ absurd (other (starts_place h (start_at w j n) new))
    ])
    (subst (λ (t : Trace). FrontLaw w (past ++ (t ++ rest))) (until_other w h behind other) law)

pub launches_next : (w : ℕ) (before : Night) (h : Happening)
    → launches_of w (kept_at w (before ++ h ∷ [])) ≡ launches_of w (kept_at w before) ++ launches_of w (kept_at w (h ∷ []))
launches_next w before h =
    ap (filter_map (launch_of w)) (kept_next w before h) ∙ filter_map-append (launch_of w) (kept_at w before) (kept_at w (h ∷ []))

marks_on : (net : Net) (before behind : Night) (h : Happening) → Marks net before (h ∷ behind)
    → ((s : Start) → IsIn s (started (h ∷ [])) → (s.ws < node_count net) × IsIn (s.job, s.number) (launches_of s.ws (kept_at s.ws before)))
    → Busy net (before ++ h ∷ []) behind (place_of h) → Marks net (before ++ h ∷ []) behind
marks_on net before behind h m fresh here = record {
  was = λ v j n k. grown v j n
      (elim (in_next before h (start_at v j n) k) [ inl old ↦ m.was v j n old | inr new ↦ fresh (start_at v j n) new ]);
  runs = λ w.
      elim (eqb_tells w (place_of h)) [
        | inl same ↦ subst (λ (v : ℕ). Busy net (before ++ h ∷ []) behind v) (sym same.1) here
        | inr other ↦ busy_on net before behind h w other.1 (m.runs w)
      ];
}
  where
    grown : (v j n : ℕ) → (v < node_count net) × IsIn (j, n) (launches_of v (kept_at v before))
        → (v < node_count net) × IsIn (j, n) (launches_of v (kept_at v (before ++ h ∷ [])))
    grown v j n old = (
      old.0,
      subst (IsIn (j, n)) (sym (launches_next v before h))
          (in_left (j, n) (launches_of v (kept_at v before)) (launches_of v (kept_at v (h ∷ []))) old.1),
    )

begin_marks : (law : StartsLaw) (defs : Defs) (night before behind : Night) (w : ℕ) (entries : List Entry) → IsNight defs night
    → night ≡ before ++ Begins w entries ∷ behind → Marks (net_of defs) before (Begins w entries ∷ behind)
    → Marks (net_of defs) (before ++ Begins w entries ∷ []) behind
begin_marks law defs night before behind w entries n is m =
    let life : IsLife defs w entries (until_stop w behind) _ = n.runs before behind w entries is in
    marks_on (net_of defs) before behind (Begins w entries) m (λ s k. absurd k)
    (Busy.busy [] life.rest (kept_at w before) (n.inside before behind w entries is) (since_begins w before entries)
    (kept_next w before (Begins w entries))
    (λ j k h. in_left (j, k) (launches_of w (kept_at w before)) []
    (m.was w j k (subst (IsIn (start_at w j k)) (started_next before (Begins w entries) ∙ append-nil (started before)) h)).1)
    (λ front back call split.
    subst (λ (v : ℕ). launches_kept v front ≡ launches_started front ++ (call.job, call.number) ∷ []) life.begun.me_
    (law defs life.turns life.start (until_stop w behind ++ life.rest) life.end life.new life.runs front back call split)))

pub kept_event : (w : ℕ) (event : Event) → kept_at w (Does w event ∷ []) ≡ kept (event ∷ [])
kept_event w event = go (kept_by event)
  where
    go : (o : Option Entry)
        → filter_map (of_workstation w) (filter_map (λ (p : Option (ℕ × Entry)). p) (option_map (λ (e : Entry). (w, e)) o ∷ []))
        ≡ filter_map (λ (p : Option Entry). p) (o ∷ [])
    go None = refl
    go (Some e) = at (eqb_tells w w)
      where
        at : ((w == w) ≡ true) × (w ≡ w) ⊎ ((w == w) ≡ false) × (w ≢ w)
            → filter_map (λ (p : Option Entry). p) ((if w == w then Some e else None) ∷ []) ≡ e ∷ []
        at (inl t) = rw t.0 refl
        at (inr t) = absurd (t.1 refl)

-- the launches so far, where the next event starts one
launches_then : (w : ℕ) (before : Night) (base : List Entry) (past : Trace) (p : Launch) → kept_at w before ≡ base ++ kept past
    → launches_kept w past ≡ launches_started past ++ p ∷ []
    → launches_of w (kept_at w before) ≡ (launches_of w base ++ launches_started past) ++ p ∷ []
launches_then w before base past p same kept_ =
    ap (filter_map (launch_of w)) same ∙ filter_map-append (launch_of w) base (kept past)
    ∙ ap (λ (l : List Launch). launches_of w base ++ l) kept_
    ∙ sym (append_assoc (launches_of w base) (launches_started past) (p ∷ []))

front_now : (w : ℕ) (event : Event) (behind : Night) (past rest : Trace)
    → past ++ (until_stop w (Does w event ∷ behind) ++ rest) ≡ past ++ event ∷ (until_stop w behind ++ rest)
front_now w event behind past rest = ap (λ (t : Trace). past ++ (t ++ rest)) (until_does w event behind)

does_marks : (defs : Defs) (night before behind : Night) (w : ℕ) (event : Event) → IsNight defs night
    → night ≡ before ++ Does w event ∷ behind → Marks (net_of defs) before (Does w event ∷ behind)
    → Busy (net_of defs) before (Does w event ∷ behind) w → Marks (net_of defs) (before ++ Does w event ∷ []) behind
does_marks defs night before behind w event n is m (Busy.idle none) =
    let it = n.acts before behind w event is in not_up none it.1
does_marks defs night before behind w event n is m (Busy.busy past rest base inside some same from law) =
    marks_on (net_of defs) before behind (Does w event) m fresh
    (Busy.busy (past ++ event ∷ []) rest base inside (since_does w before event past some)
    (kept_next w before (Does w event) ∙ ap (λ (l : List Entry). l ++ kept_at w (Does w event ∷ [])) same
    ∙ append_assoc base (kept past) (kept_at w (Does w event ∷ []))
    ∙ ap (λ (l : List Entry). base ++ (kept past ++ l)) (kept_event w event)
    ∙ ap (λ (l : List Entry). base ++ l) (sym (filter_map-append kept_by past (event ∷ []))))
    (λ j k h. subst (IsIn (j, k)) (sym all_started) (next j k (in_next before (Does w event) (start_at w j k) h)))
    (λ front back call split. law front back call
    (front_now w event behind past rest ∙ sym (append_assoc past (event ∷ []) (until_stop w behind ++ rest)) ∙ split)))
  where
    all_started : launches_of w base ++ launches_started (past ++ event ∷ [])
        ≡ (launches_of w base ++ launches_started past) ++ launches_started (event ∷ [])
    all_started =
        ap (λ (l : List Launch). launches_of w base ++ l) (started-append past (event ∷ []))
        ∙ sym (append_assoc (launches_of w base) (launches_started past) (launches_started (event ∷ [])))

    begun : (s : Start) (i : IsStartOf w event s) → IsIn {X = Launch} (s.job, s.number) (launches_started (event ∷ []))
    begun s i =
        subst (λ (d : Event). IsIn {X = Launch} (s.job, s.number) (launches_started (d ∷ []))) (sym i.is)
        (subst (λ (t : Start). IsIn {X = Launch} (t.job, t.number) ((i.call.job, i.call.number) ∷ [])) i.its (inl refl))

    next : (j k : ℕ) → IsIn (start_at w j k) (started before) ⊎ IsIn (start_at w j k) (started (Does w event ∷ []))
        → IsIn (j, k) ((launches_of w base ++ launches_started past) ++ launches_started (event ∷ []))
    next j k (inl old) = in_left (j, k) (launches_of w base ++ launches_started past) (launches_started (event ∷ [])) (from j k old)
    next j k (inr new) =
        in_right (j, k) (launches_of w base ++ launches_started past) (launches_started (event ∷ []))
        (begun (start_at w j k) (starts_in w event (start_at w j k) new))

    fresh : (s : Start) → IsIn s (started (Does w event ∷ []))
        → (s.ws < node_count (net_of defs)) × IsIn (s.job, s.number) (launches_of s.ws (kept_at s.ws before))
    fresh s k =
        let i : IsStartOf w event s = starts_in w event s k in
        let now : launches_kept w past ≡ launches_started past ++ (i.call.job, i.call.number) ∷ [] =
        law past (until_stop w behind ++ rest) i.call
        (front_now w event behind past rest ∙ ap (λ (d : Event). past ++ d ∷ (until_stop w behind ++ rest)) i.is) in
        subst (λ (t : Start). (t.ws < node_count (net_of defs)) × IsIn (t.job, t.number) (launches_of t.ws (kept_at t.ws before))) i.its (
          inside,
          subst (IsIn (i.call.job, i.call.number)) (sym (launches_then w before base past (i.call.job, i.call.number) same now))
              (in_right (i.call.job, i.call.number) (launches_of w base ++ launches_started past) ((i.call.job, i.call.number) ∷ []) (inl refl)),
        )

any_marks : (law : StartsLaw) (defs : Defs) (night before behind : Night) (h : Happening) → IsNight defs night
    → night ≡ before ++ h ∷ behind → Marks (net_of defs) before (h ∷ behind) → Marks (net_of defs) (before ++ h ∷ []) behind
any_marks law defs night before behind (Begins w entries) n is m = begin_marks law defs night before behind w entries n is m
any_marks law defs night before behind (Does w event) n is m = does_marks defs night before behind w event n is m (m.runs w)
any_marks law defs night before behind (Stops w left) n is m =
    marks_on (net_of defs) before behind (Stops w left) m (λ s k. absurd k) (Busy.idle (since_stops w before left))

marks_at : (law : StartsLaw) (defs : Defs) (night before front behind : Night) → IsNight defs night
    → night ≡ before ++ (front ++ behind) → Marks (net_of defs) before (front ++ behind) → Marks (net_of defs) (before ++ front) behind
marks_at law defs night before [] behind n is m =
    subst (λ (b : Night). Marks (net_of defs) b behind) (sym (append-nil before)) m
marks_at law defs night before (h ∷ front) behind n is m =
    subst (λ (b : Night). Marks (net_of defs) b behind) (append_assoc before (h ∷ []) front)
    (marks_at law defs night (before ++ h ∷ []) front behind n (is ∙ sym (append_assoc before (h ∷ []) (front ++ behind)))
    (any_marks law defs night before (front ++ behind) h n is m))

first_marks : (net : Net) (night : Night) → Marks net [] night
first_marks net night = record { was = λ v j n k. absurd k; runs = λ w. Busy.idle refl }

-- what a disk has of launches is what the history has
pub history_launches : (net : Net) (night : Night) → IsSoFar net night → (w : ℕ) → w < node_count net
    → launches_of w (kept_at w night) ≡ launches_of w (made night)
history_launches net night h w inside =
    let x : World = h.world in
    let own = (invariant net x h.reached).own w (Events w) refl in
    launches_listed w (kept_at w night)
    ∙ ap (filter_map launch_in)
    ((h.kept_ w inside).holds_them (Events w)
    ∙ take_whole (list_of x.history (Events w)) (x.holdings w (Events w)) (omega (arith, own))
    ∙ ap (λ (G : List Entry). list_of G (Events w)) h.history_)
    ∙ sym (launches_listed w (made night))

kept_apart : (w : ℕ) (a b : Night) → launches_of w (kept_at w (a ++ b)) ≡ launches_of w (kept_at w a) ++ launches_of w (kept_at w b)
kept_apart w a b =
    ap (filter_map (launch_of w))
    (ap (filter_map (of_workstation w)) (filter_map-append kept_in a b) ∙ filter_map-append (of_workstation w) (filter_map kept_in a) (filter_map kept_in b))
    ∙ filter_map-append (launch_of w) (kept_at w a) (kept_at w b)

-- where a process is asked for, its launch is the last that its workstation kept
pub asked_last : (law : StartsLaw) (defs : Defs) (night : Night) → IsNight defs night → (before behind : Night) (w : ℕ) (call : StartCall)
    → night ≡ before ++ Does w (Event.Starts call) ∷ behind
    → (earlier : List Launch) × (launches_of w (kept_at w before) ≡ earlier ++ (call.job, call.number) ∷ [])
asked_last law defs night n before behind w call is = go (marks.runs w)
  where
    marks : Marks (net_of defs) before (Does w (Event.Starts call) ∷ behind)
    marks =
        marks_at law defs night [] before (Does w (Event.Starts call) ∷ behind) n is
        (first_marks (net_of defs) (before ++ Does w (Event.Starts call) ∷ behind))

    go : Busy (net_of defs) before (Does w (Event.Starts call) ∷ behind) w
        → (earlier : List Launch) × (launches_of w (kept_at w before) ≡ earlier ++ (call.job, call.number) ∷ [])
    go (Busy.idle none) = let it = n.acts before behind w (Event.Starts call) is in not_up none it.1
    go (Busy.busy past rest base inside some same from front) = (
      launches_of w base ++ launches_started past,
      launches_then w before base past (call.job, call.number) same
          (front past (until_stop w behind ++ rest) call (front_now w (Event.Starts call) behind past rest)),
    )

-- it is a workstation of the network
pub asked_inside : (law : StartsLaw) (defs : Defs) (night : Night) → IsNight defs night → (w : ℕ) (s : Start) → s.ws ≡ w
    → IsIn s (started night) → w < node_count (net_of defs)
asked_inside law defs night n w s is among =
    subst (λ (v : ℕ). v < node_count (net_of defs)) is
    ((marks_at law defs night [] night [] n (sym (append-nil night)) (first_marks (net_of defs) (night ++ []))).was s.ws s.job s.number among).0

-- a process that is asked for was never asked for before
pub started_once : (law : StartsLaw) (defs : Defs) (night : Night) → IsNight defs night → IsSoFar (net_of defs) night
    → (before behind : Night) (w : ℕ) (call : StartCall) (s : Start) → night ≡ before ++ Does w (Event.Starts call) ∷ behind
    → IsIn s (started before) → s.job ≡ call.job → s.number ≡ call.number → ⊥
started_once law defs night n so_far before behind w call s is among same_job same_number =
    go (marks.runs w)
  where
    net : Net
    net = net_of defs

    p : Launch
    p = (call.job, call.number)

    later : Night
    later = Does w (Event.Starts call) ∷ behind

    marks : Marks (net_of defs) before (Does w (Event.Starts call) ∷ behind)
    marks = marks_at law defs night [] before later n is (first_marks net (before ++ later))

    is_p : ◌≡◌ {A = Launch} (s.job, s.number) p
    is_p = λ i. (same_job i, same_number i)

    go : Busy (net_of defs) before (Does w (Event.Starts call) ∷ behind) w → ⊥
    go (Busy.idle none) = let it = n.acts before behind w (Event.Starts call) is in not_up none it.1
    go (Busy.busy past rest base inside some same from front) = at (eqb_tells s.ws w)
      where
        now : launches_kept w past ≡ launches_started past ++ p ∷ []
        now = front past (until_stop w behind ++ rest) call (front_now w (Event.Starts call) behind past rest)

        whole : launches_of w (made night) ≡ (launches_of w base ++ launches_started past) ++ p ∷ launches_of w (kept_at w later)
        whole =
            sym (history_launches net night so_far w inside)
            ∙ ap (λ (l : Night). launches_of w (kept_at w l)) is ∙ kept_apart w before later
            ∙ ap (λ (l : List Launch). l ++ launches_of w (kept_at w later)) (launches_then w before base past p same now)
            ∙ append_assoc (launches_of w base ++ launches_started past) (p ∷ []) (launches_of w (kept_at w later))

        at : ((s.ws == w) ≡ true) × (s.ws ≡ w) ⊎ ((s.ws == w) ≡ false) × (s.ws ≢ w) → ⊥
        at (inl t) =
            no_launch_again net (made night) so_far.sound.prefixes w (launches_of w base ++ launches_started past)
            (launches_of w (kept_at w later)) p whole
            (subst (λ (q : Launch). IsIn q (launches_of w base ++ launches_started past)) is_p
            (from s.job s.number (subst (λ (v : ℕ). IsIn (start_at v s.job s.number) (started before)) t.1 among)))
        at (inr t) =
            let old = marks.was s.ws s.job s.number among in
            no_launch_elsewhere net (made night) so_far.sound.prefixes s.ws w p t.1
            (subst (IsIn p)
            (sym (kept_apart s.ws before later) ∙ ap (λ (l : Night). launches_of s.ws (kept_at s.ws l)) (sym is)
            ∙ history_launches net night so_far s.ws old.0)
            (in_left p (launches_of s.ws (kept_at s.ws before)) (launches_of s.ws (kept_at s.ws later))
            (subst (λ (q : Launch). IsIn q (launches_of s.ws (kept_at s.ws before))) is_p old.1)))
            (subst (IsIn p) (sym whole)
            (in_right p (launches_of w base ++ launches_started past) (p ∷ launches_of w (kept_at w later)) (inl refl)))
