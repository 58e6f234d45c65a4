-- The services of a network's nodes are a night.
use Rattle.std.proofs.Common.{[], drop, take, take-append-drop, ◌++◌, ◌<◌, ◌≡◌, ◌≤◌, ◌∙◌, ◌∷◌, ◌⊎◌, ℕ, Bool, IfSome, List, None, Option, Some, ap, append-nil, append_assoc, arith, inl, inr, refl, subst, sym, true}
use Rattle.std.proofs.lemmas.List.Elements.{recursion_from_All}
use Rattle.std.specs.List.{All, AllByRecursion}
use Rattle.std.specs.Prelude.{◌==◌, if◌then◌else◌, option_map}
use Rattle.lemmas.proofs.Lists.{no_middle, same_head, same_tail}
use Rattle.lemmas.proofs.Numbers.{eq_itself}
use Rattle.lemmas.proofs.Options.{some_is}
use Rattle.composer_parser.specs.declared.Defs.{Defs}
use Rattle.model.specs.Network.{node_count}
use Rattle.model.specs.Types.{Entry}
use Rattle.workload_defs.specs.Nets.{net_of}
use Rattle.node_inputs.specs.Keeping as keeping
use Rattle.node_inputs.specs.Traces.{Event, Trace, kept, kept_by, tried}
use Rattle.node_inputs.specs.declared.ends.NodeEnd.{NodeEnd}
use Rattle.node_loop.specs.Runs.{Run, running}
use Rattle.node_service.proofs.Joining.{tried_front}
use Rattle.network_runs.specs.Happenings.{Begins, Does, Happening, Night, Stops, kept_at, kept_in, left_at_stop, since, until_stop}
use Rattle.network_runs.specs.Nights.{IsLeftAtStop, IsLife, IsNight, IsWritten}
use Rattle.service_nights.specs.Services.{Acts, Fails, Leaves, Occurrence, Opens, Services, disk_next, first_behind, happens, held, made_next, night_between, night_of, plain}
use Rattle.service_nights.specs.Served.{AreServices, BringsWhatWasSent, HasServed}
use Rattle.service_nights.proofs.Between.{held_further, since_same, until_same}
use Rattle.service_nights.proofs.Disks.{idle_running}
use Rattle.service_nights.proofs.Fronts.{in_hand_holds, kept_holds}
use Rattle.service_nights.proofs.Standing.{RefusalLaw, Standing, StopLeaves, served_left, stands_at, stop_leaves}
use Rattle.service_nights.proofs.Stops.{NextStop, left_is, left_of, next_stop}

-- where a happening of the night stands among the occurrences
pub record SplitOf {D : Type 0} (b m : Services D) (front : Night) (h : Happening) (back : Night) : Type 0 where
  pub first : Services D
  pub one : Occurrence D
  pub rest : Services D
  pub split : m ≡ first ++ one ∷ rest
  pub front_ : front ≡ night_between b first (one ∷ rest)
  pub its : happens (b ++ first) one rest ≡ h ∷ []
  pub back_ : back ≡ night_between (b ++ (first ++ one ∷ [])) rest []

module _ {D : Type 0} where
  later : (b m : Services D) (one : Occurrence D) (front : Night) (h : Happening) (back : Night)
      → SplitOf (b ++ one ∷ []) m front h back → SplitOf b (one ∷ m) (happens b one (m ++ []) ++ front) h back
  later b m one front h back s = record {
    first = one ∷ s.first;
    one = s.one;
    rest = s.rest;
    split = ap (λ (l : Services D). one ∷ l) s.split;
    front_ =
        ap (λ (l : Night). happens b one (m ++ []) ++ l) s.front_
        ∙ ap (λ (l : Services D). happens b one l ++ night_between (b ++ one ∷ []) s.first (s.one ∷ s.rest)) (append-nil m ∙ s.split);
    its = ap (λ (l : Services D). happens l s.one s.rest) (sym (append_assoc b (one ∷ []) s.first)) ∙ s.its;
    back_ =
        s.back_
        ∙ ap (λ (l : Services D). night_between l s.rest []) (append_assoc b (one ∷ []) (s.first ++ s.one ∷ []));
  }

  here : (b m : Services D) (one : Occurrence D) (h x : Happening) (back : Night) → happens b one (m ++ []) ≡ x ∷ [] → x ≡ h
      → night_between (b ++ one ∷ []) m [] ≡ back → SplitOf b (one ∷ m) [] h back
  here b m one h x back is same behind = record {
    first = [];
    one = one;
    rest = m;
    split = refl;
    front_ = refl;
    its =
        ap (λ (l : Services D). happens l one m) (append-nil b) ∙ ap (λ (l : Services D). happens b one l) (sym (append-nil m)) ∙ is
        ∙ ap (λ (g : Happening). g ∷ []) same;
    back_ = sym behind;
  }

  -- an occurrence that happens
  one_split : (b m : Services D) (one : Occurrence D) (h x : Happening) (back : Night) → happens b one (m ++ []) ≡ x ∷ []
      → ((front : Night) → night_between (b ++ one ∷ []) m [] ≡ front ++ h ∷ back → SplitOf (b ++ one ∷ []) m front h back)
      → (front : Night) → x ∷ night_between (b ++ one ∷ []) m [] ≡ front ++ h ∷ back → SplitOf b (one ∷ m) front h back
  one_split b m one h x back is go [] e = here b m one h x back is (same_head e) (same_tail e)
  one_split b m one h x back is go (y ∷ front) e =
      subst (λ (l : Night). SplitOf b (one ∷ m) l h back)
      (ap (λ (l : Night). l ++ front) is ∙ ap (λ (g : Happening). g ∷ front) (same_head e))
      (later b m one front h back (go front (same_tail e)))

  pub split_of : (b m : Services D) (front : Night) (h : Happening) (back : Night) → night_between b m [] ≡ front ++ h ∷ back
      → SplitOf b m front h back
  split_of b [] front h back e = absurd (no_middle front back h e)
  split_of b (Fails v disk left ∷ m) front h back e =
      later b m (Fails v disk left) front h back (split_of (b ++ Fails v disk left ∷ []) m front h back e)
  split_of b (Opens v disk entries ∷ m) front h back e =
      one_split b m (Opens v disk entries) h (Begins v entries) back refl
      (λ f q. split_of (b ++ Opens v disk entries ∷ []) m f h back q) front e
  split_of b (Acts v event ∷ m) front h back e =
      one_split b m (Acts v event) h (Does v event) back refl (λ f q. split_of (b ++ Acts v event ∷ []) m f h back q) front e
  split_of b (Leaves v disk ∷ m) front h back e =
      one_split b m (Leaves v disk) h (Stops v (first_behind (held v b) (made_next v (m ++ [])))) back refl
      (λ f q. split_of (b ++ Leaves v disk ∷ []) m f h back q) front e

  -- which occurrence it is
  opens_is : (b : Services D) (one : Occurrence D) (rest : Services D) (w : ℕ) (entries : List Entry)
      → happens b one rest ≡ Begins w entries ∷ [] → (disk : D) × (one ≡ Opens w disk entries)
  opens_is b (Fails v disk left) rest w entries e = cc
  opens_is b (Opens v disk es) rest w entries e = (disk, go (same_head e))
    where
      go : Begins v es ≡ Begins w entries → Opens v disk es ≡ Opens w disk entries
      go q = cc
  opens_is b (Acts v event) rest w entries e = cc
  opens_is b (Leaves v disk) rest w entries e = cc

  acts_is : (b : Services D) (one : Occurrence D) (rest : Services D) (w : ℕ) (event : Event)
      → happens b one rest ≡ Does w event ∷ [] → one ≡ Acts w event
  acts_is b (Fails v disk left) rest w event e = cc
  acts_is b (Opens v disk es) rest w event e = cc
  acts_is b (Acts v other) rest w event e = go (same_head e)
    where
      go : Does v other ≡ Does w event → ◌≡◌ {A = Occurrence D} (Acts v other) (Acts w event)
      go q = cc
  acts_is b (Leaves v disk) rest w event e = cc

  leaves_is : (b : Services D) (one : Occurrence D) (rest : Services D) (w : ℕ) (left : Option Entry)
      → happens b one rest ≡ Stops w left ∷ []
      → (disk : D) × (one ≡ Leaves w disk) × (left ≡ first_behind (held w b) (made_next w rest))
  leaves_is b (Fails v disk other) rest w left e = cc
  leaves_is b (Opens v disk es) rest w left e = cc
  leaves_is b (Acts v other) rest w left e = cc
  leaves_is b (Leaves v disk) rest w left e = go (same_head e)
    where
      go : Stops v (first_behind (held v b) (made_next v rest)) ≡ Stops w left
          → (last : D) × (Leaves v disk ≡ Leaves w last) × (left ≡ first_behind (held w b) (made_next w rest))
      go q = (disk, ap (λ (u : ℕ). Leaves u disk) same, sym its ∙ ap (λ (u : ℕ). first_behind (held u b) (made_next u rest)) same)
        where
          same : v ≡ w
          same = cc

          its : first_behind (held v b) (made_next v rest) ≡ left
          its = cc

written_so : (e : Entry) → keeping.IsWritten e → IsWritten e
written_so e w = record { fit = w.fit; in_range = w.in_range }

module _ {D : Type 0} (seen : D → Option (List ℕ)) (faults moment : D → ℕ) (may_leave : D → List ℕ → Type 0)
    (left_since : D → ℕ → List ℕ → Type 0) (defs : Defs) where
  -- what a service was to keep can be written down
  service_written : (w : ℕ) (disk : D) (entries : List Entry) (past : Trace) (left : Option D)
      (served : HasServed seen faults moment may_leave left_since defs w disk entries past left)
      → AllByRecursion keeping.IsWritten (tried past)
  service_written w disk entries past left served =
      subst (λ (t : Trace). AllByRecursion keeping.IsWritten (tried t)) (sym served.front)
      (recursion_from_All keeping.IsWritten (tried (take served.count served.run.trace)) (tried_front served.count served.run.trace served.run.written))

  -- a service is a life
  life_of : (w : ℕ) (disk : D) (entries : List Entry) (past : Trace) (left : Option D)
      (served : HasServed seen faults moment may_leave left_since defs w disk entries past left) (hand : Option Entry)
      → IsLeftAtStop past (drop served.count served.run.trace) hand → IsLife defs w entries past hand
  life_of w disk entries past left served hand is = record {
    start = served.run.start;
    begun = record {
      net_ = served.run.made.net_;
      me_ = served.run.made.me_;
      kept_ = served.holds;
      session_ = served.run.made.session_;
    };
    turns = served.turns;
    rest = drop served.count served.run.trace;
    end = Some served.why;
    new = served.run.after;
    runs =
        subst (λ (t : Trace). Run defs served.turns (running served.run.start) t (Some served.why) served.run.after)
        (sym (ap (λ (t : Trace). t ++ drop served.count served.run.trace) served.front ∙ take-append-drop served.count served.run.trace))
        served.run.runs;
    left_ = is;
  }

  module _ (services : Services D) (are : AreServices seen faults moment may_leave left_since defs services) (law : RefusalLaw defs) where
    abbrev Stands : ℕ → Services D → Services D → Type 0
    Stands w before behind = Standing seen faults moment may_leave left_since defs w before behind

    stands : (w : ℕ) (before behind : Services D) → services ≡ before ++ behind → Stands w before behind
    stands w before behind is = stands_at seen faults moment may_leave left_since defs services are law w before behind is

    leaves : (w : ℕ) (disk last : D) (entries : List Entry) (past : Trace)
        (served : HasServed seen faults moment may_leave left_since defs w disk entries past (Some last))
        (before behind : Services D) → services ≡ before ++ Leaves w last ∷ behind
        → StopLeaves entries past (drop served.count served.run.trace) (made_next w behind)
    leaves = stop_leaves seen faults moment may_leave left_since defs services are law

    -- where a node begins
    pub record OpensAt (w : ℕ) (entries : List Entry) (front back : Night) : Type 0 where
      pub disk : D
      pub before : Services D
      pub behind : Services D
      pub split : services ≡ before ++ Opens w disk entries ∷ behind
      pub front_ : front ≡ night_between [] before (Opens w disk entries ∷ behind)
      pub back_ : back ≡ night_between (before ++ Opens w disk entries ∷ []) behind []

    opens_at : (front back : Night) (w : ℕ) (entries : List Entry) → night_of services ≡ front ++ Begins w entries ∷ back
        → OpensAt w entries front back
    opens_at front back w entries e = record {
      disk = it.0;
      before = s.first;
      behind = s.rest;
      split = s.split ∙ ap (λ (one : Occurrence D). s.first ++ one ∷ s.rest) it.1;
      front_ = s.front_ ∙ ap (λ (one : Occurrence D). night_between [] s.first (one ∷ s.rest)) it.1;
      back_ = s.back_ ∙ ap (λ (one : Occurrence D). night_between (s.first ++ one ∷ []) s.rest []) it.1;
    }
      where
        s : SplitOf [] services front (Begins w entries) back
        s = split_of [] services front (Begins w entries) back e

        it : (disk : D) × (s.one ≡ Opens w disk entries)
        it = opens_is s.first s.one s.rest w entries s.its

    -- where an event is done
    pub record ActsAt (w : ℕ) (event : Event) (front : Night) : Type 0 where
      pub before : Services D
      pub behind : Services D
      pub split : services ≡ before ++ Acts w event ∷ behind
      pub front_ : front ≡ night_between [] before (Acts w event ∷ behind)

    acts_at : (front back : Night) (w : ℕ) (event : Event) → night_of services ≡ front ++ Does w event ∷ back → ActsAt w event front
    acts_at front back w event e = record {
      before = s.first;
      behind = s.rest;
      split = s.split ∙ ap (λ (one : Occurrence D). s.first ++ one ∷ s.rest) it;
      front_ = s.front_ ∙ ap (λ (one : Occurrence D). night_between [] s.first (one ∷ s.rest)) it;
    }
      where
        s : SplitOf [] services front (Does w event) back
        s = split_of [] services front (Does w event) back e

        it : s.one ≡ Acts w event
        it = acts_is s.first s.one s.rest w event s.its

    -- where a service is left
    pub record LeavesAt (w : ℕ) (left : Option Entry) (front : Night) : Type 0 where
      pub disk : D
      pub before : Services D
      pub behind : Services D
      pub split : services ≡ before ++ Leaves w disk ∷ behind
      pub front_ : front ≡ night_between [] before (Leaves w disk ∷ behind)
      pub left_ : left ≡ first_behind (held w before) (made_next w behind)

    leaves_at : (front back : Night) (w : ℕ) (left : Option Entry) → night_of services ≡ front ++ Stops w left ∷ back
        → LeavesAt w left front
    leaves_at front back w left e = record {
      disk = it.0;
      before = s.first;
      behind = s.rest;
      split = s.split ∙ ap (λ (one : Occurrence D). s.first ++ one ∷ s.rest) it.1;
      front_ = s.front_ ∙ ap (λ (one : Occurrence D). night_between [] s.first (one ∷ s.rest)) it.1;
      left_ = it.2;
    }
      where
        s : SplitOf [] services front (Stops w left) back
        s = split_of [] services front (Stops w left) back e

        it : (disk : D) × (s.one ≡ Leaves w disk) × (left ≡ first_behind (held w s.first) (made_next w s.rest))
        it = leaves_is s.first s.one s.rest w left s.its

    -- the premises of a night, one by one
    inside_ : (front back : Night) (w : ℕ) (entries : List Entry) → night_of services ≡ front ++ Begins w entries ∷ back
        → w < node_count (net_of defs)
    inside_ front back w entries e =
        let o = opens_at front back w entries e in (are.each o.before o.behind (Opens w o.disk entries) o.split).0

    stood_ : (front back : Night) (w : ℕ) (entries : List Entry) → night_of services ≡ front ++ Begins w entries ∷ back
        → since w front ≡ None
    stood_ front back w entries e =
        let o = opens_at front back w entries e in
        ap (since w) o.front_ ∙ since_same w o.before (Opens w o.disk entries ∷ o.behind)
        ∙ (are.each o.before o.behind (Opens w o.disk entries) o.split).1

    files_ : (front back : Night) (w : ℕ) (entries : List Entry) → night_of services ≡ front ++ Begins w entries ∷ back
        → entries ≡ kept_at w front
    files_ front back w entries e =
        let o = opens_at front back w entries e in
        go o.disk o.before o.behind o.split (stands w o.before (Opens w o.disk entries ∷ o.behind) o.split)
        ∙ ap (kept_at w) (sym o.front_)
      where
        go : (disk : D) (before behind : Services D) → services ≡ before ++ Opens w disk entries ∷ behind
            → Stands w before (Opens w disk entries ∷ behind)
            → entries ≡ kept_at w (night_between [] before (Opens w disk entries ∷ behind))
        go disk before behind is (Standing.idle none next) =
            subst (λ (o : Option (List Entry)). IfSome o (λ (es : List Entry). es ≡ kept_at w (night_between [] before (Opens w disk entries ∷ behind))))
            (ap (λ (t : Bool). if t then Some entries else made_next w behind) (eq_itself w)) next
        go disk before behind is (Standing.serving past es last some has holds served) =
            idle_running (are.each before behind (Opens w disk entries) is).1 some

    -- what the next stop leaves was in hand
    left_in_hand : (w : ℕ) (disk : D) (entries : List Entry) (before behind : Services D)
        → services ≡ before ++ Opens w disk entries ∷ behind
        → (served : HasServed seen faults moment may_leave left_since defs w disk entries (until_stop w (plain behind)) (disk_next w behind))
        → IsLeftAtStop (until_stop w (plain behind)) (drop served.count served.run.trace) (left_of w entries behind)
    left_in_hand w disk entries before behind is served = go (next_stop w entries behind)
      where
        rest : Trace
        rest = drop served.count served.run.trace

        at_stop : (last : D) (front back : Services D) → behind ≡ front ++ Leaves w last ∷ back → disk_next w behind ≡ Some last
            → IsLeftAtStop (until_stop w (plain behind)) rest
            (first_behind (entries ++ kept (until_stop w (plain behind))) (made_next w back))
        at_stop last front back split next =
            hand (disk_next w behind) next served
          where
            whole : services ≡ (before ++ Opens w disk entries ∷ front) ++ Leaves w last ∷ back
            whole =
                is ∙ ap (λ (l : Services D). before ++ Opens w disk entries ∷ l) split
                ∙ sym (append_assoc before (Opens w disk entries ∷ front) (Leaves w last ∷ back))

            hand : (o : Option D) → o ≡ Some last
                → (h : HasServed seen faults moment may_leave left_since defs w disk entries (until_stop w (plain behind)) o)
                → IsLeftAtStop (until_stop w (plain behind)) (drop h.count h.run.trace)
                (first_behind (entries ++ kept (until_stop w (plain behind))) (made_next w back))
            hand None none h = cc
            hand (Some d) some h =
                (leaves w disk d entries (until_stop w (plain behind)) h (before ++ Opens w disk entries ∷ front) back
                (whole ∙ ap (λ (u : D). (before ++ Opens w disk entries ∷ front) ++ Leaves w u ∷ back) (sym (some_is some)))).hand

        go : NextStop w entries behind → IsLeftAtStop (until_stop w (plain behind)) rest (left_of w entries behind)
        go (NextStop.runs_on none left) = subst (λ (o : Option Entry). IsLeftAtStop (until_stop w (plain behind)) rest o) (sym left) tt
        go (NextStop.stops last front back split next left) =
            subst (λ (o : Option Entry). IsLeftAtStop (until_stop w (plain behind)) rest o) (sym left) (at_stop last front back split next)

    runs_ : (front back : Night) (w : ℕ) (entries : List Entry) → night_of services ≡ front ++ Begins w entries ∷ back
        → IsLife defs w entries (until_stop w back) (left_at_stop w back)
    runs_ front back w entries e =
        let o = opens_at front back w entries e in
        let it = are.each o.before o.behind (Opens w o.disk entries) o.split in
        let b : Services D = o.before ++ Opens w o.disk entries ∷ [] in
        let left : left_at_stop w back ≡ left_of w entries o.behind =
        ap (left_at_stop w) o.back_ ∙ left_is w b o.behind
        ∙ ap (λ (l : List Entry). left_of w l o.behind)
        (held_further w o.before (Opens w o.disk entries) ∙ ap (λ (t : Bool). if t then entries else held w o.before) (eq_itself w)) in
        let trace : until_stop w back ≡ until_stop w (plain o.behind) = ap (until_stop w) o.back_ ∙ until_same w b o.behind [] in
        subst (λ (t : Trace). IsLife defs w entries t (left_at_stop w back)) (sym trace)
        (subst (λ (l : Option Entry). IsLife defs w entries (until_stop w (plain o.behind)) l) (sym left)
        (life_of w o.disk entries (until_stop w (plain o.behind)) (disk_next w o.behind) it.3 (left_of w entries o.behind)
        (left_in_hand w o.disk entries o.before o.behind o.split it.3)))

    acts_ : (front back : Night) (w : ℕ) (event : Event) → night_of services ≡ front ++ Does w event ∷ back
        → (past : Trace) × (since w front ≡ Some past)
    acts_ front back w event e =
        let a = acts_at front back w event e in
        let it = are.each a.before a.behind (Acts w event) a.split in
        (it.0, ap (since w) a.front_ ∙ since_same w a.before (Acts w event ∷ a.behind) ∙ it.1)

    stops_ : (front back : Night) (w : ℕ) (left : Option Entry) → night_of services ≡ front ++ Stops w left ∷ back
        → (past : Trace) × (since w front ≡ Some past)
    stops_ front back w left e =
        let l = leaves_at front back w left e in
        let it = are.each l.before l.behind (Leaves w l.disk) l.split in
        (it.0, ap (since w) l.front_ ∙ since_same w l.before (Leaves w l.disk ∷ l.behind) ∙ it.1)

    -- what is kept can be written down
    act_written : (w : ℕ) (event : Event) (e : Entry) (before behind : Services D) → services ≡ before ++ Acts w event ∷ behind
        → kept_by event ≡ Some e → Stands w before (Acts w event ∷ behind) → keeping.IsWritten e
    act_written w event e before behind is its (Standing.idle none next) =
        let it = are.each before behind (Acts w event) is in idle_running none it.1
    act_written w event e before behind is its (Standing.serving past entries disk some has holds served) =
        kept_holds keeping.IsWritten past (until_stop w (plain behind)) event e its
        (subst (λ (t : Trace). AllByRecursion keeping.IsWritten (tried t))
        (ap (λ (t : Bool). past ++ (if t then event ∷ until_stop w (plain behind) else until_stop w (plain behind))) (eq_itself w))
        (service_written w disk entries (past ++ until_stop w (plain (Acts w event ∷ behind))) (disk_next w behind) served))

    stop_written : (w : ℕ) (last : D) (e : Entry) (before behind : Services D) → services ≡ before ++ Leaves w last ∷ behind
        → Some e ≡ first_behind (held w before) (made_next w behind) → Stands w before (Leaves w last ∷ behind) → keeping.IsWritten e
    stop_written w last e before behind is its (Standing.idle none next) =
        let it = are.each before behind (Leaves w last) is in idle_running none it.1
    stop_written w last e before behind is its (Standing.serving past entries disk some has holds served) =
        let left : HasServed seen faults moment may_leave left_since defs w disk entries past (Some last) =
        served_left seen faults moment may_leave left_since defs services are law w last disk entries past behind served in
        in_hand_holds keeping.IsWritten past (drop left.count left.run.trace) e
        (subst (λ (o : Option Entry). IsLeftAtStop past (drop left.count left.run.trace) o)
        (sym (its ∙ ap (λ (l : List Entry). first_behind l (made_next w behind)) holds))
        (leaves w disk last entries past left before behind is).hand)
        (subst (λ (t : Trace). AllByRecursion keeping.IsWritten (tried t))
        (sym (ap (λ (t : Trace). t ++ drop left.count left.run.trace) left.front ∙ take-append-drop left.count left.run.trace))
        (recursion_from_All keeping.IsWritten (tried left.run.trace) left.run.written))

    of_both : (v w : ℕ) (a b : Entry) → ◌≡◌ {A = Option (ℕ × Entry)} (Some (v, a)) (Some (w, b)) → a ≡ b
    of_both v w a b q = ap second q
      where
        second : Option (ℕ × Entry) → Entry
        second None = a
        second (Some p) = p.1

    written_ : (front back : Night) (h : Happening) (v : ℕ) (e : Entry) → night_of services ≡ front ++ h ∷ back
        → kept_in h ≡ Some (v, e) → IsWritten e
    written_ front back (Begins w entries) v e is its = cc
    written_ front back (Does w event) v e is its =
        let a = acts_at front back w event is in
        written_so e
        (act_written w event e a.before a.behind a.split (go (kept_by event) refl its) (stands w a.before (Acts w event ∷ a.behind) a.split))
      where
        go : (o : Option Entry) → kept_by event ≡ o → option_map {U = ℕ × Entry} (λ (d : Entry). (w, d)) o ≡ Some (v, e) → kept_by event ≡ Some e
        go None same q = cc
        go (Some d) same q = same ∙ ap Some (of_both w v d e q)
    written_ front back (Stops w None) v e is its = cc
    written_ front back (Stops w (Some d)) v e is its =
        let l = leaves_at front back w (Some d) is in
        written_so e
        (stop_written w l.disk e l.before l.behind l.split (ap Some (sym (of_both w v d e its)) ∙ l.left_)
        (stands w l.before (Leaves w l.disk ∷ l.behind) l.split))

    few_ : (front back : Night) (w : ℕ) (entries : List Entry) → night_of services ≡ front ++ Begins w entries ∷ back
        → node_count (net_of defs) ≤ 65536
    few_ front back w entries e =
        let o = opens_at front back w entries e in
        let it = are.each o.before o.behind (Opens w o.disk entries) o.split in
        omega (arith, it.3.run.made.few_)

    pub are_night : BringsWhatWasSent (night_of services) → IsNight defs (night_of services)
    are_night links = record {
      few = few_;
      inside = inside_;
      stood = stood_;
      files = files_;
      runs = runs_;
      acts = acts_;
      stops = stops_;
      links = links;
      written = written_;
    }
