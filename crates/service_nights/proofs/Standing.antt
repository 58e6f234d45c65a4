-- How a workstation stands in the night of its services, between what occurred and what comes.
use Rattle.std.proofs.Common.{[], take, drop, length, slice_get, zero, suc, ◌+◌, ◌++◌, ◌≡◌, ◌≢◌, ◌≤◌, ◌∙◌, ◌∷◌, ◌⊎◌, ℕ, All, Bool, IfSome, List, None, Option, Some, ap, append-nil, append_assoc, arith, false, inl, inr, refl, subst, sym, true}
use Rattle.std.proofs.lemmas.Bool.Decides.{eqb_tells}
use Rattle.std.proofs.lemmas.List.Elements.{All-nil, filter_map-append}
use Rattle.std.specs.Option.{option_to_list}
use Rattle.std.specs.Prelude.{◌==◌, if◌then◌else◌, option_map}
use Rattle.lemmas.proofs.Lists.{take_whole}
use Rattle.lemmas.proofs.Numbers.{eq_itself}
use Rattle.lemmas.proofs.Options.{some_is}
use Rattle.composer_parser.specs.declared.Defs.{Defs}
use Rattle.model.specs.Restore.{first_wrong}
use Rattle.model.specs.Types.{Entry, Net}
use Rattle.outside.specs.Kept.{Bodies}
use Rattle.message_file.specs.Files.{kept_of}
use Rattle.workload_defs.specs.Nets.{net_of}
use Rattle.agent_core.specs.Nodes.{NodeState}
use Rattle.node_inputs.specs.Keeping.{IsLeftWith, IsWritten, bodies}
use Rattle.node_inputs.specs.Traces.{Event, Trace, kept, kept_by, tried}
use Rattle.node_inputs.specs.declared.ends.NodeEnd.{NodeEnd}
use Rattle.node_loop.specs.Runs.{Run, Running, running}
use Rattle.node_restart.specs.Restarting.{Restarts}
use Rattle.node_service.specs.Serving.{told_kept}
use Rattle.node_service.proofs.Joining.{first_held, goes_on, left_held, tried_front}
use Rattle.network_runs.specs.Happenings.{kept_at, since, until_stop}
use Rattle.network_runs.specs.Nights.{IsLeftAtStop}
use Rattle.service_nights.specs.Services.{Acts, Fails, Leaves, Occurrence, Opens, Services, disk_left, disk_next, first_behind, held, made_next, night_between, plain}
use Rattle.service_nights.specs.Served.{AreServices, HasOnly, HasServed, IsItsDisk, LeftBehind}
use Rattle.service_nights.proofs.Between.{IsElsewhere, disk_further, elsewhere, failed_elsewhere, held_further, kept_event_here, kept_further, kept_stop_here, place_of, since_further}
use Rattle.service_nights.proofs.Disks.{BeginsSo, IsMadeOf, Shows, idle_running, next_made, so_left}
use Rattle.service_nights.proofs.Fronts.{EndsRefused, IsFrontWith, front_with}

-- what is known of each run
abbrev pub RefusalLaw : Defs → Type 0
RefusalLaw defs =
    (turns : ℕ) (node : NodeState) (trace : Trace) (end : Option NodeEnd) (new : Running) → Run defs turns (running node) trace end new
    → EndsRefused trace

-- what a stop leaves was in hand behind this front, and the next node has it behind all that was held
pub record StopLeaves (entries : List Entry) (past rest : Trace) (next : Option (List Entry)) : Type 0 where
  pub hand : IsLeftAtStop past rest (first_behind (entries ++ kept past) next)
  pub goes : IfSome next (λ (more : List Entry). more ≡ (entries ++ kept past) ++ option_to_list (first_behind (entries ++ kept past) next))

-- what stands behind these entries is found
behind_is : (es : List Entry) (o : Option Entry) → slice_get (es ++ option_to_list o) (length es) ≡ o
behind_is [] None = refl
behind_is [] (Some e) = refl
behind_is (e ∷ es) o = behind_is es o

leaves_with : (entries : List Entry) (past front rest : Trace) (some more : List Entry) → past ≡ front → more ≡ entries ++ some
    → IsFrontWith front rest some → StopLeaves entries past rest (Some more)
leaves_with entries past front rest some more same is it = record {
  hand = subst (λ (o : Option Entry). IsLeftAtStop past rest o) (sym found) (subst (λ (t : Trace). IsLeftAtStop t rest it.hand) (sym same) it.left_);
  goes = whole ∙ ap (λ (o : Option Entry). (entries ++ kept past) ++ option_to_list o) (sym found);
}
  where
    whole : more ≡ (entries ++ kept past) ++ option_to_list it.hand
    whole =
        is ∙ ap (λ (l : List Entry). entries ++ l) it.are
        ∙ ap (λ (t : Trace). entries ++ (kept t ++ option_to_list it.hand)) (sym same)
        ∙ sym (append_assoc entries (kept past) (option_to_list it.hand))

    found : first_behind (entries ++ kept past) (Some more) ≡ it.hand
    found = ap (λ (l : List Entry). slice_get l (length (entries ++ kept past))) whole ∙ behind_is (entries ++ kept past) it.hand

-- an empty file restarts as nothing
nothing_restarts : (net : Net) (me : ℕ) → Restarts net me [] []
unfolding first_wrong
nothing_restarts net me = ([], inr (refl, refl), record { are = record { read = refl; written = refl }; follow = refl })

-- nothing is kept of it
abbrev KeepsNone : Bodies → Type 0
KeepsNone b = IsLeftWith 0 [] (Some (bodies [])) b

none_kept : (file : List ℕ) → file ≡ [] → KeepsNone (kept_of file)
unfolding kept_of
none_kept file none = (0, omega arith, omega arith, ap kept_of none)

none_of_none : (n : ℕ) (es : List Entry) → es ≡ take n [] → es ≡ []
none_of_none zero es is = is
none_of_none (suc n) es is = is

module _ {D : Type 0} (seen : D → Option (List ℕ)) (faults moment : D → ℕ) (may_leave : D → List ℕ → Type 0)
    (left_since : D → ℕ → List ℕ → Type 0) (defs : Defs) where
  -- the bodies of a file that a stop behind a front may leave
  abbrev IsBehind : {me : ℕ} {old : D} {entries : List Entry} {past : Trace} {left : Option D}
      → HasServed seen faults moment may_leave left_since defs me old entries past left → Bodies → Type 0
  IsBehind served b =
      IsLeftWith (length (kept (take served.count served.run.trace))) (take (suc served.count) served.run.trace)
      (Some (bodies served.run.start.kept)) b

  left_behind : (me : ℕ) (old : D) (entries : List Entry) (past : Trace) (left : Option D)
      (served : HasServed seen faults moment may_leave left_since defs me old entries past left) (file : List ℕ)
      → LeftBehind seen faults moment may_leave left_since defs served.run served.count file → IsBehind served (kept_of file)
  left_behind me old entries past left served file (inl was) =
      left_held (length (kept (take served.count served.run.trace))) (take (suc served.count) served.run.trace)
      served.run.start.kept (seen old) served.file (kept_of file) served.reads
      (served.run.stands.between served.count (suc served.count) file (omega arith) was)
  left_behind me old entries past left served file (inr was) =
      left_held (length (kept (take served.count served.run.trace))) (take (suc served.count) served.run.trace)
      served.run.start.kept (seen old) served.file (kept_of file) served.reads
      (subst (λ (t : Trace). IsLeftWith (length (kept (take served.count served.run.trace))) t (told_kept (seen old) served.run.start.kept) (kept_of file))
      (sym (take_whole served.run.trace (suc served.count) (omega (arith, was.0)))) (served.run.stands.later served.count file was.1))

  -- how it stands
  pub data Standing (w : ℕ) (before behind : Services D) : Type 0 where
    idle : since w (plain before) ≡ None
        → IfSome (made_next w behind) (λ (es : List Entry). es ≡ kept_at w (night_between [] before behind)) → Standing w before behind
    serving : (past : Trace) (entries : List Entry) (disk : D) → since w (plain before) ≡ Some past
        → kept_at w (night_between [] before behind) ≡ entries ++ kept past → held w before ≡ entries ++ kept past
        → HasServed seen faults moment may_leave left_since defs w disk entries (past ++ until_stop w (plain behind)) (disk_next w behind)
        → Standing w before behind

  served_same : (w : ℕ) (disk : D) (entries : List Entry) (a b : Trace) (l m : Option D) → a ≡ b → l ≡ m
      → HasServed seen faults moment may_leave left_since defs w disk entries a l
      → HasServed seen faults moment may_leave left_since defs w disk entries b m
  served_same w disk entries a b l m p q served =
      subst (λ (t : Trace). HasServed seen faults moment may_leave left_since defs w disk entries t m) p
      (subst (λ (o : Option D). HasServed seen faults moment may_leave left_since defs w disk entries a o) q served)

  -- what occurs elsewhere changes nothing of it
  elsewhere_on : (w : ℕ) (before behind : Services D) (one : Occurrence D) → IsElsewhere w before one behind
      → Standing w before (one ∷ behind) → Standing w (before ++ one ∷ []) behind
  elsewhere_on w before behind one out (idle none next) =
      idle (out.since_ ∙ none)
      (subst (λ (k : List Entry). IfSome (made_next w behind) (λ (es : List Entry). es ≡ k)) (sym out.kept_)
      (subst (λ (o : Option (List Entry)). IfSome o (λ (es : List Entry). es ≡ kept_at w (night_between [] before (one ∷ behind)))) out.made_ next))
  elsewhere_on w before behind one out (serving past entries disk some has holds served) =
      serving past entries disk (out.since_ ∙ some) (out.kept_ ∙ has) (out.held_ ∙ holds)
      (served_same w disk entries (past ++ until_stop w (plain (one ∷ behind))) (past ++ until_stop w (plain behind))
      (disk_next w (one ∷ behind)) (disk_next w behind) (ap (λ (t : Trace). past ++ t) out.until_) out.next_ served)

  module _ (services : Services D) (are : AreServices seen faults moment may_leave left_since defs services) (law : RefusalLaw defs) where
    -- a stop of a service leaves what a stop leaves
    pub stop_leaves : (w : ℕ) (disk last : D) (entries : List Entry) (past : Trace)
        (served : HasServed seen faults moment may_leave left_since defs w disk entries past (Some last))
        (before behind : Services D) → services ≡ before ++ Leaves w last ∷ behind
        → StopLeaves entries past (drop served.count served.run.trace) (made_next w behind)
    stop_leaves w disk last entries past served before behind is =
        go (made_next w behind)
        (next_made seen faults moment may_leave left_since defs services are (IsBehind served) w behind (before ++ Leaves w last ∷ [])
        (is ∙ sym (append_assoc before (Leaves w last ∷ []) behind))
        (since_further w before (Leaves w last) ∙ ap (λ (t : Bool). if t then None else since w (plain before)) (eq_itself w))
        (so_left seen faults moment may_leave left_since defs services are (IsBehind served) w before (Leaves w last) last
        (disk_further w before (Leaves w last) ∙ ap (λ (t : Bool). if t then Some last else disk_left w before) (eq_itself w)) shows))
      where
        shows : Shows seen faults moment may_leave left_since defs (IsBehind served) last
        shows = record {
          file = served.leaves.file;
          reads = served.leaves.reads;
          its = left_behind w disk entries past (Some last) served served.leaves.file served.leaves.its;
          rest = λ file may. left_behind w disk entries past (Some last) served file (served.leaves.rest file may);
        }

        go : (next : Option (List Entry)) → IfSome next (IsMadeOf seen faults moment may_leave left_since defs (IsBehind served) w)
            → StopLeaves entries past (drop served.count served.run.trace) next
        go None h = record { hand = tt; goes = tt }
        go (Some more) h =
            let trace : Trace = served.run.trace in
            let on = goes_on (net_of defs) w (length (kept (take served.count trace))) served.run.start.kept more
            (take (suc served.count) trace) served.file h.0
            (first_held (net_of defs) w served.run.start.kept (seen disk) served.file served.reads served.run.made.holds)
            (tried_front (suc served.count) trace served.run.written) h.2 h.1 in
            leaves_with entries past (take served.count trace) (drop served.count trace) (take on.0 (tried (take (suc served.count) trace))) more
            served.front (on.3 ∙ ap (λ (l : List Entry). l ++ take on.0 (tried (take (suc served.count) trace))) served.holds)
            (front_with served.count trace on.0 (law served.turns served.run.start trace (Some served.why) served.run.after served.run.runs) on.1 on.2)

    -- its own occurrences
    opens_on : (w : ℕ) (disk : D) (entries : List Entry) (before behind : Services D) → services ≡ before ++ Opens w disk entries ∷ behind
        → Standing w before (Opens w disk entries ∷ behind) → Standing w (before ++ Opens w disk entries ∷ []) behind
    opens_on w disk entries before behind is (serving past held_first last some has holds served) =
        let it = are.each before behind (Opens w disk entries) is in idle_running it.1 some
    opens_on w disk entries before behind is (idle none next) =
        let it = are.each before behind (Opens w disk entries) is in
        serving [] entries disk
        (since_further w before (Opens w disk entries) ∙ ap (λ (t : Bool). if t then Some [] else since w (plain before)) (eq_itself w))
        (kept_further w before behind (Opens w disk entries)
        ∙ append-nil (kept_at w (night_between [] before (Opens w disk entries ∷ behind))) ∙ sym held_same ∙ sym (append-nil entries))
        (held_further w before (Opens w disk entries) ∙ ap (λ (t : Bool). if t then entries else held w before) (eq_itself w)
        ∙ sym (append-nil entries))
        it.3
      where
        held_same : entries ≡ kept_at w (night_between [] before (Opens w disk entries ∷ behind))
        held_same =
            subst (λ (o : Option (List Entry)). IfSome o (λ (es : List Entry). es ≡ kept_at w (night_between [] before (Opens w disk entries ∷ behind))))
            (ap (λ (t : Bool). if t then Some entries else made_next w behind) (eq_itself w)) next

    acts_on : (w : ℕ) (event : Event) (before behind : Services D) → services ≡ before ++ Acts w event ∷ behind
        → Standing w before (Acts w event ∷ behind) → Standing w (before ++ Acts w event ∷ []) behind
    acts_on w event before behind is (idle none next) =
        let it = are.each before behind (Acts w event) is in idle_running none it.1
    acts_on w event before behind is (serving past entries disk some has holds served) =
        serving (past ++ event ∷ []) entries disk
        (since_further w before (Acts w event)
        ∙ ap (λ (t : Bool). if t then option_map (λ (t : Trace). t ++ event ∷ []) (since w (plain before)) else since w (plain before)) (eq_itself w)
        ∙ ap (option_map (λ (t : Trace). t ++ event ∷ [])) some)
        (kept_further w before behind (Acts w event)
        ∙ ap (λ (l : List Entry). kept_at w (night_between [] before (Acts w event ∷ behind)) ++ l) (kept_event_here w w event (eq_itself w))
        ∙ ap (λ (l : List Entry). l ++ kept (event ∷ [])) has ∙ one_more)
        (held_further w before (Acts w event)
        ∙ ap (λ (t : Bool). if t then held w before ++ kept (event ∷ []) else held w before) (eq_itself w)
        ∙ ap (λ (l : List Entry). l ++ kept (event ∷ [])) holds ∙ one_more)
        (served_same w disk entries (past ++ until_stop w (plain (Acts w event ∷ behind))) ((past ++ event ∷ []) ++ until_stop w (plain behind))
        (disk_next w behind) (disk_next w behind)
        (ap (λ (t : Bool). past ++ (if t then event ∷ until_stop w (plain behind) else until_stop w (plain behind))) (eq_itself w)
        ∙ sym (append_assoc past (event ∷ []) (until_stop w (plain behind)))) refl served)
      where
        one_more : (entries ++ kept past) ++ kept (event ∷ []) ≡ entries ++ kept (past ++ event ∷ [])
        one_more =
            append_assoc entries (kept past) (kept (event ∷ []))
            ∙ ap (λ (l : List Entry). entries ++ l) (sym (filter_map-append kept_by past (event ∷ [])))

    -- a service that leaves its disk, up to this
    pub served_left : (w : ℕ) (last disk : D) (entries : List Entry) (past : Trace) (behind : Services D)
        → HasServed seen faults moment may_leave left_since defs w disk entries (past ++ until_stop w (plain (Leaves w last ∷ behind)))
        (disk_next w (Leaves w last ∷ behind)) → HasServed seen faults moment may_leave left_since defs w disk entries past (Some last)
    served_left w last disk entries past behind served =
        served_same w disk entries (past ++ until_stop w (plain (Leaves w last ∷ behind))) past (disk_next w (Leaves w last ∷ behind)) (Some last)
        (ap (λ (t : Bool). past ++ (if t then [] else until_stop w (plain behind))) (eq_itself w) ∙ append-nil past)
        (ap (λ (t : Bool). if t then Some last else disk_next w behind) (eq_itself w)) served

    leaves_on : (w : ℕ) (last : D) (before behind : Services D) → services ≡ before ++ Leaves w last ∷ behind
        → Standing w before (Leaves w last ∷ behind) → Standing w (before ++ Leaves w last ∷ []) behind
    leaves_on w last before behind is (idle none next) =
        let it = are.each before behind (Leaves w last) is in idle_running none it.1
    leaves_on w last before behind is (serving past entries disk some has holds served) =
        idle
        (since_further w before (Leaves w last) ∙ ap (λ (t : Bool). if t then None else since w (plain before)) (eq_itself w))
        (go (made_next w behind) refl
        (stop_leaves w disk last entries past (served_left w last disk entries past behind served) before behind is).goes)
      where
        now : (next : Option (List Entry)) → made_next w behind ≡ next
            → kept_at w (night_between [] (before ++ Leaves w last ∷ []) behind)
            ≡ (entries ++ kept past) ++ option_to_list (first_behind (entries ++ kept past) next)
        now next same =
            kept_further w before behind (Leaves w last)
            ∙ ap (λ (l : List Entry). kept_at w (night_between [] before (Leaves w last ∷ behind)) ++ l)
            (kept_stop_here w w (first_behind (held w before) (made_next w behind)) (eq_itself w))
            ∙ ap (λ (l : List Entry). l ++ option_to_list (first_behind (held w before) (made_next w behind))) has
            ∙ ap (λ (l : List Entry). (entries ++ kept past) ++ option_to_list (first_behind l (made_next w behind))) holds
            ∙ ap (λ (o : Option (List Entry)). (entries ++ kept past) ++ option_to_list (first_behind (entries ++ kept past) o)) same

        go : (next : Option (List Entry)) → made_next w behind ≡ next
            → IfSome next (λ (more : List Entry). more ≡ (entries ++ kept past) ++ option_to_list (first_behind (entries ++ kept past) next))
            → IfSome next (λ (es : List Entry). es ≡ kept_at w (night_between [] (before ++ Leaves w last ∷ []) behind))
        go None same h = tt
        go (Some more) same h = h ∙ sym (now (Some more) same)

    -- one occurrence further
    here_on : (before behind : Services D) (one : Occurrence D) → services ≡ before ++ one ∷ behind
        → Standing (place_of one) before (one ∷ behind) → Standing (place_of one) (before ++ one ∷ []) behind
    here_on before behind (Fails w disk left) is s = elsewhere_on w before behind (Fails w disk left) (failed_elsewhere w w before behind disk left) s
    here_on before behind (Opens w disk entries) is s = opens_on w disk entries before behind is s
    here_on before behind (Acts w event) is s = acts_on w event before behind is s
    here_on before behind (Leaves w last) is s = leaves_on w last before behind is s

    standing_on : (w : ℕ) (before behind : Services D) (one : Occurrence D) → services ≡ before ++ one ∷ behind
        → Standing w before (one ∷ behind) → Standing w (before ++ one ∷ []) behind
    standing_on w before behind one is s =
        elim (eqb_tells (place_of one) w) [
          | inl same ↦ subst (λ (u : ℕ). Standing u before (one ∷ behind) → Standing u (before ++ one ∷ []) behind) same.1
              (here_on before behind one is) s
          | inr other ↦ elsewhere_on w before behind one (elsewhere w before behind one other.0) s
        ]

    stands_on : (w : ℕ) (front before behind : Services D) → services ≡ before ++ (front ++ behind) → Standing w before (front ++ behind)
        → Standing w (before ++ front) behind
    stands_on w [] before behind is s = subst (λ (l : Services D). Standing w l behind) (sym (append-nil before)) s
    stands_on w (one ∷ front) before behind is s =
        subst (λ (l : Services D). Standing w l behind) (append_assoc before (one ∷ []) front)
        (stands_on w front (before ++ one ∷ []) behind (is ∙ sym (append_assoc before (one ∷ []) (front ++ behind)))
        (standing_on w before (front ++ behind) one is s))

    -- at the beginning the first node of a workstation holds nothing
    first_standing : (w : ℕ) → Standing w [] services
    first_standing w =
        idle refl (go (made_next w services) (next_made seen faults moment may_leave left_since defs services are KeepsNone w services [] refl refl begins))
      where
        begins : BeginsSo seen faults moment may_leave left_since defs services are KeepsNone w []
        begins = λ disk its. record {
          file = its.file;
          reads = its.reads;
          its = none_kept its.file its.its;
          rest = λ file may. none_kept file (its.rest file may);
        }

        go : (next : Option (List Entry)) → IfSome next (IsMadeOf seen faults moment may_leave left_since defs KeepsNone w)
            → IfSome next (λ (es : List Entry). es ≡ [])
        go None h = tt
        go (Some es) h =
            let on = goes_on (net_of defs) w 0 [] es [] [] h.0 (nothing_restarts (net_of defs) w) (All-nil IsWritten) h.2 h.1 in
            none_of_none on.0 es on.3

    pub stands_at : (w : ℕ) (before behind : Services D) → services ≡ before ++ behind → Standing w before behind
    stands_at w before behind is =
        stands_on w before [] behind is (subst (λ (l : Services D). Standing w [] l) is (first_standing w))
