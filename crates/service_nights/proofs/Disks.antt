-- What the disks show with which the services of a workstation begin.
use Rattle.std.proofs.Common.{[], take, ◌++◌, ◌≡◌, ◌≢◌, ◌≤◌, ◌∙◌, ◌∷◌, ◌⊎◌, ℕ, Bool, IfSome, List, None, Option, Some, ap, append-nil, append_assoc, arith, false, inl, inr, refl, subst, sym, true, zero, suc, length}
use Rattle.std.proofs.lemmas.Bool.Decides.{eqb_tells}
use Rattle.std.specs.Prelude.{◌==◌, if◌then◌else◌}
use Rattle.lemmas.proofs.Options.{none_some}
use Rattle.composer_parser.specs.declared.Defs.{Defs}
use Rattle.model.specs.Types.{Entry, Net}
use Rattle.outside.specs.Kept.{Bodies}
use Rattle.message_file.specs.Attaching.{KeepSame, LeftAttaching}
use Rattle.message_file.specs.Files.{kept_of}
use Rattle.message_file.specs.State.{KeptLeft}
use Rattle.message_file.proofs.Beginning.{few_keep_nothing}
use Rattle.message_file.proofs.Reading.{kept_is}
use Rattle.workload_defs.specs.Nets.{net_of}
use Rattle.node_inputs.specs.Keeping.{bodies}
use Rattle.node_inputs.specs.Tellings.{Told}
use Rattle.node_inputs.specs.Traces.{Trace}
use Rattle.node_restart.specs.Restarting.{Restarts}
use Rattle.node_service.specs.Serving.{LeftServing, Serves}
use Rattle.node_service.specs.declared.services.ServiceEnd.{ServiceEnd}
use Rattle.node_service.specs.declared.services.ServiceEnd.TheVariants.{Ran, Unmade}
use Rattle.node_service.proofs.Joining.{first_held, some_held}
use Rattle.network_runs.specs.Happenings.{since, until_stop}
use Rattle.service_nights.specs.Services.{Acts, Fails, Leaves, Occurrence, Opens, Services, disk_left, disk_next, made_next, plain}
use Rattle.service_nights.specs.Served.{AreServices, HasFailed, HasOnly, HasServed, IsItsDisk, LeftUnmade}
use Rattle.service_nights.proofs.Between.{IsElsewhere, disk_further, elsewhere, failed_elsewhere}

-- nothing is kept of an empty file
empty_keeps : (file : List ℕ) → file ≡ [] → kept_of file ≡ []
unfolding kept_of
empty_keeps file none = ap kept_of none

same_kept : (owner : ℕ) (old new : List ℕ) → KeepSame owner old new → kept_of old ≡ kept_of new
same_kept owner old new same = kept_is owner old same.bodies same.before ∙ sym (kept_is owner new same.bodies same.after)

-- a file of which a node was made keeps what the node held
made_keeps : (net : Net) (me : ℕ) (entries : List Entry) (file : List ℕ) → Restarts net me entries file → kept_of file ≡ bodies entries
made_keeps net me entries file (b, inl is, held) = kept_is me file b is ∙ held.are.written
made_keeps net me entries file (b, inr none, held) = empty_keeps file none.0 ∙ sym none.1 ∙ held.are.written

with_none : (n : ℕ) (b : Bodies) → b ++ bodies (take n []) ≡ b
with_none zero b = append-nil b
with_none (suc n) b = append-nil b

pub idle_running : {X P : Type 0} {x : X} {o : Option X} → o ≡ None → o ≡ Some x → P
idle_running none some = absurd (none_some (sym none ∙ some))

module _ {D : Type 0} (seen : D → Option (List ℕ)) (faults moment : D → ℕ) (may_leave : D → List ℕ → Type 0)
    (left_since : D → ℕ → List ℕ → Type 0) (defs : Defs) where
  -- what is read of the disk, and what a stop may leave of it, keeps such bodies
  abbrev pub Shows : (Bodies → Type 0) → D → Type 0
  Shows Q disk = HasOnly seen may_leave (λ (file : List ℕ). Q (kept_of file)) disk

  -- attaching leaves what was there
  attached_shows : (Q : Bodies → Type 0) (me : ℕ) (old : D) (left : Bodies) → Shows Q old
      → KeptLeft (LeftAttaching me (seen old) (may_leave old)) left → Q left
  attached_shows Q me old left shows by =
      subst Q (sym by.2) (go (subst (λ (o : Option (List ℕ)). LeftAttaching me o (may_leave old) by.0) shows.reads by.1))
    where
      go : LeftAttaching me (Some shows.file) (may_leave old) by.0 → Q (kept_of by.0)
      go (inl begun) = subst Q (empty_keeps shows.file begun.0 ∙ sym (few_keep_nothing by.0 begun.1)) shows.its
      go (inr (inl may)) = shows.rest by.0 may
      go (inr (inr same)) = subst Q (same_kept me shows.file by.0 same) shows.its

  -- and so does a service up to the first event
  serving_shows : (Q : Bodies → Type 0) (me : ℕ) (old : D) (entries : List Entry) (left : Bodies) → Shows Q old
      → IfSome (seen old) (Restarts (net_of defs) me entries) → LeftServing me (seen old) (may_leave old) entries [] left → Q left
  serving_shows Q me old entries left shows held (inl by) = attached_shows Q me old left shows by
  serving_shows Q me old entries left shows held (inr none) =
      let first = first_held (net_of defs) me entries (seen old) shows.file shows.reads held in
      let by = some_held [] entries (seen old) shows.file left shows.reads none in
      subst Q (made_keeps (net_of defs) me entries shows.file first ∙ sym (with_none by.0 (bodies entries)) ∙ sym by.3) shows.its

  -- a service that failed leaves what was there
  left_shows : (Q : Bodies → Type 0) (me turns : ℕ) (end : ServiceEnd) (old new : D) (told now : Told)
      (serves : Serves seen faults moment may_leave left_since defs me turns end old new told now) (file : List ℕ) → Shows Q old
      → LeftUnmade seen faults moment may_leave left_since defs me turns end old new told now serves file → Q (kept_of file)
  left_shows Q me turns (Unmade fault) old new told now serves file shows left =
      attached_shows Q me old (kept_of file) shows (serves.0.any_moment.each (kept_of file) (file, left, refl))
  left_shows Q me turns (Ran why) old new told now run file shows left =
      serving_shows Q me old run.start.kept (kept_of file) shows run.made.holds
      (run.stands.first.each (kept_of file) (file, left, refl))

  failed_shows : (Q : Bodies → Type 0) (me : ℕ) (old left : D) → HasFailed seen faults moment may_leave left_since defs me old left
      → Shows Q old → Shows Q left
  failed_shows Q me old left f shows = record {
    file = f.leaves.file;
    reads = f.leaves.reads;
    its = left_shows Q me f.turns f.end old f.new f.told f.now f.serves f.leaves.file shows f.leaves.its;
    rest = λ file may. left_shows Q me f.turns f.end old f.new f.told f.now f.serves file shows (f.leaves.rest file may);
  }

  -- a node is made of a file that keeps such bodies
  abbrev pub IsMadeOf : (Bodies → Type 0) → ℕ → List Entry → Type 0
  IsMadeOf Q w entries = (file : List ℕ) × Restarts (net_of defs) w entries file × Q (kept_of file)

  made_of : (Q : Bodies → Type 0) (w : ℕ) (old : D) (entries : List Entry) (trace : Trace) (left : Option D)
      → HasServed seen faults moment may_leave left_since defs w old entries trace left → Shows Q old → IsMadeOf Q w entries
  made_of Q w old entries trace left served shows = (
    shows.file,
    subst (λ (es : List Entry). Restarts (net_of defs) w es shows.file) served.holds
        (first_held (net_of defs) w served.run.start.kept (seen old) shows.file shows.reads served.run.made.holds),
    shows.its,
  )

  module _ (services : Services D) (are : AreServices seen faults moment may_leave left_since defs services)
      (Q : Bodies → Type 0) (w : ℕ) where
    -- the disk with which the next service of the workstation begins keeps such bodies
    abbrev pub BeginsSo : Services D → Type 0
    BeginsSo before = (disk : D) → IsItsDisk seen may_leave (disk_left w before) disk → Shows Q disk

    so_on : (before : Services D) (one : Occurrence D) → disk_left w (before ++ one ∷ []) ≡ disk_left w before → BeginsSo before
        → BeginsSo (before ++ one ∷ [])
    so_on before one same so =
        subst (λ (o : Option D). (disk : D) → IsItsDisk seen may_leave o disk → Shows Q disk) (sym same) so

    pub so_left : (before : Services D) (one : Occurrence D) (left : D) → disk_left w (before ++ one ∷ []) ≡ Some left → Shows Q left
        → BeginsSo (before ++ one ∷ [])
    so_left before one left is shows =
        subst (λ (o : Option D). (disk : D) → IsItsDisk seen may_leave o disk → Shows Q disk) (sym is)
        (λ disk same. subst (Shows Q) (sym same) shows)

    -- so the next node of the workstation is made of such a file
    pub next_made : (behind before : Services D) → services ≡ before ++ behind → since w (plain before) ≡ None → BeginsSo before
        → IfSome (made_next w behind) (IsMadeOf Q w)
    next_made [] before is idle so = tt
    next_made (Fails v disk left ∷ behind) before is idle so =
        next_made behind (before ++ Fails v disk left ∷ []) (is ∙ sym (append_assoc before (Fails v disk left ∷ []) behind))
        ((failed_elsewhere w v before behind disk left).since_ ∙ idle) (go (eqb_tells v w))
      where
        go : ((v == w) ≡ true) × (v ≡ w) ⊎ ((v == w) ≡ false) × (v ≢ w) → BeginsSo (before ++ Fails v disk left ∷ [])
        go (inl same) =
            let it = are.each before behind (Fails v disk left) is in
            so_left before (Fails v disk left) left
            (disk_further w before (Fails v disk left) ∙ ap (λ (t : Bool). if t then Some left else disk_left w before) same.0)
            (failed_shows Q v disk left it.2
            (so disk (subst (λ (u : ℕ). IsItsDisk seen may_leave (disk_left u before) disk) same.1 it.1)))
        go (inr other) =
            so_on before (Fails v disk left)
            (disk_further w before (Fails v disk left) ∙ ap (λ (t : Bool). if t then Some left else disk_left w before) other.0) so
    next_made (Opens v disk entries ∷ behind) before is idle so =
        go (eqb_tells v w)
        (next_made behind (before ++ Opens v disk entries ∷ []) (is ∙ sym (append_assoc before (Opens v disk entries ∷ []) behind)))
      where
        go : ((v == w) ≡ true) × (v ≡ w) ⊎ ((v == w) ≡ false) × (v ≢ w)
            → (since w (plain (before ++ Opens v disk entries ∷ [])) ≡ None → BeginsSo (before ++ Opens v disk entries ∷ [])
            → IfSome (made_next w behind) (IsMadeOf Q w))
            → IfSome (made_next w (Opens v disk entries ∷ behind)) (IsMadeOf Q w)
        go (inl same) later =
            let it = are.each before behind (Opens v disk entries) is in
            subst (λ (o : Option (List Entry)). IfSome o (IsMadeOf Q w))
            (sym (ap (λ (t : Bool). if t then Some entries else made_next w behind) same.0))
            (subst (λ (u : ℕ). IsMadeOf Q u entries) same.1
            (made_of Q v disk entries (until_stop v (plain behind)) (disk_next v behind) it.3
            (so disk (subst (λ (u : ℕ). IsItsDisk seen may_leave (disk_left u before) disk) same.1 it.2))))
        go (inr other) later =
            let out = elsewhere w before behind (Opens v disk entries) other.0 in
            subst (λ (o : Option (List Entry)). IfSome o (IsMadeOf Q w)) (sym out.made_)
            (later (out.since_ ∙ idle) (so_on before (Opens v disk entries) (disk_further w before (Opens v disk entries)) so))
    next_made (Acts v event ∷ behind) before is idle so =
        go (eqb_tells v w)
        (next_made behind (before ++ Acts v event ∷ []) (is ∙ sym (append_assoc before (Acts v event ∷ []) behind)))
      where
        go : ((v == w) ≡ true) × (v ≡ w) ⊎ ((v == w) ≡ false) × (v ≢ w)
            → (since w (plain (before ++ Acts v event ∷ [])) ≡ None → BeginsSo (before ++ Acts v event ∷ [])
            → IfSome (made_next w behind) (IsMadeOf Q w))
            → IfSome (made_next w behind) (IsMadeOf Q w)
        go (inl same) later =
            let it = are.each before behind (Acts v event) is in
            idle_running idle (subst (λ (u : ℕ). since u (plain before) ≡ Some it.0) same.1 it.1)
        go (inr other) later =
            later ((elsewhere w before behind (Acts v event) other.0).since_ ∙ idle)
            (so_on before (Acts v event) (disk_further w before (Acts v event)) so)
    next_made (Leaves v disk ∷ behind) before is idle so =
        go (eqb_tells v w)
        (next_made behind (before ++ Leaves v disk ∷ []) (is ∙ sym (append_assoc before (Leaves v disk ∷ []) behind)))
      where
        go : ((v == w) ≡ true) × (v ≡ w) ⊎ ((v == w) ≡ false) × (v ≢ w)
            → (since w (plain (before ++ Leaves v disk ∷ [])) ≡ None → BeginsSo (before ++ Leaves v disk ∷ [])
            → IfSome (made_next w behind) (IsMadeOf Q w))
            → IfSome (made_next w behind) (IsMadeOf Q w)
        go (inl same) later =
            let it = are.each before behind (Leaves v disk) is in
            idle_running idle (subst (λ (u : ℕ). since u (plain before) ≡ Some it.0) same.1 it.1)
        go (inr other) later =
            later ((elsewhere w before behind (Leaves v disk) other.0).since_ ∙ idle)
            (so_on before (Leaves v disk)
            (disk_further w before (Leaves v disk) ∙ ap (λ (t : Bool). if t then Some disk else disk_left w before) other.0) so)
