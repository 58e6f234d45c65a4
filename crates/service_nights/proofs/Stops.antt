-- What the next stop of a workstation leaves in a night of services, seen from its occurrences.
use Rattle.std.proofs.Common.{[], length, slice_get, ◌++◌, ◌≡◌, ◌≢◌, ◌∙◌, ◌∷◌, ◌⊎◌, ℕ, Bool, List, None, Option, Some, ap, append-nil, append_assoc, false, inl, inr, refl, subst, sym, true}
use Rattle.std.proofs.lemmas.Bool.Decides.{eqb_tells}
use Rattle.std.proofs.lemmas.List.Elements.{filter_map-append}
use Rattle.std.specs.Prelude.{◌==◌, if◌then◌else◌}
use Rattle.model.specs.Types.{Entry}
use Rattle.node_inputs.specs.Traces.{Event, Trace, kept, kept_by}
use Rattle.network_runs.specs.Happenings.{left_at_stop, until_stop}
use Rattle.service_nights.specs.Services.{Acts, Fails, Leaves, Occurrence, Opens, Services, disk_next, first_behind, held, held_with, made_next, night_between, plain}
use Rattle.service_nights.proofs.Between.{held_further}

module _ {D : Type 0} where
  -- what the next stop leaves behind these entries
  abbrev pub left_of : ℕ → List Entry → Services D → Option Entry
  left_of w entries [] = None
  left_of w entries (Fails v disk left ∷ m) = left_of w entries m
  left_of w entries (Opens v disk more ∷ m) = if v == w then None else left_of w (held_with w entries (Opens v disk more)) m
  left_of w entries (Acts v event ∷ m) = left_of w (held_with {D = D} w entries (Acts v event)) m
  left_of w entries (Leaves v disk ∷ m) = if v == w then first_behind entries (made_next w m) else left_of w entries m

  pub left_is : (w : ℕ) (b m : Services D) → left_at_stop w (night_between b m []) ≡ left_of w (held w b) m
  left_is w b [] = refl
  left_is w b (Fails v disk left ∷ m) =
      left_is w (b ++ Fails v disk left ∷ []) m ∙ ap (λ (l : List Entry). left_of w l m) (held_further w b (Fails v disk left))
  left_is w b (Opens v disk more ∷ m) =
      ap (λ (o : Option Entry). if v == w then None else o)
      (left_is w (b ++ Opens v disk more ∷ []) m ∙ ap (λ (l : List Entry). left_of w l m) (held_further w b (Opens v disk more)))
  left_is w b (Acts v event ∷ m) =
      left_is w (b ++ Acts v event ∷ []) m ∙ ap (λ (l : List Entry). left_of w l m) (held_further w b (Acts v event))
  left_is w b (Leaves v disk ∷ m) =
      ap (λ (o : Option Entry). if v == w then first_behind (held v b) (made_next v (m ++ [])) else o)
      (left_is w (b ++ Leaves v disk ∷ []) m ∙ ap (λ (l : List Entry). left_of w l m) (held_further w b (Leaves v disk)))
      ∙ here (eqb_tells v w)
    where
      here : ((v == w) ≡ true) × (v ≡ w) ⊎ ((v == w) ≡ false) × (v ≢ w)
          → (if v == w then first_behind (held v b) (made_next v (m ++ [])) else left_of w (held w b) m)
          ≡ (if v == w then first_behind (held w b) (made_next w m) else left_of w (held w b) m)
      here (inl same) =
          ap (λ (u : ℕ). if v == w then first_behind (held u b) (made_next u (m ++ [])) else left_of w (held w b) m) same.1
          ∙ ap (λ (l : Services D). if v == w then first_behind (held w b) (made_next w l) else left_of w (held w b) m) (append-nil m)
      here (inr other) =
          ap (λ (t : Bool). if t then first_behind (held v b) (made_next v (m ++ [])) else left_of w (held w b) m) other.0
          ∙ sym (ap (λ (t : Bool). if t then first_behind (held w b) (made_next w m) else left_of w (held w b) m) other.0)

  -- a workstation runs on to the end, or it leaves its disk at the next stop
  pub data NextStop (w : ℕ) (entries : List Entry) (m : Services D) : Type 0 where
    runs_on : disk_next w m ≡ None → left_of w entries m ≡ None → NextStop w entries m
    stops : (disk : D) (front back : Services D) → m ≡ front ++ Leaves w disk ∷ back → disk_next w m ≡ Some disk
        → left_of w entries m ≡ first_behind (entries ++ kept (until_stop w (plain m))) (made_next w back) → NextStop w entries m

  -- an occurrence in front that is elsewhere
  further : (w : ℕ) (entries : List Entry) (one : Occurrence D) (m : Services D) → disk_next w (one ∷ m) ≡ disk_next w m
      → left_of w entries (one ∷ m) ≡ left_of w entries m → until_stop w (plain (one ∷ m)) ≡ until_stop w (plain m)
      → NextStop w entries m → NextStop w entries (one ∷ m)
  further w entries one m disks lefts until_ (runs_on none left) = runs_on (disks ∙ none) (lefts ∙ left)
  further w entries one m disks lefts until_ (stops disk front back is next left) =
      stops disk (one ∷ front) back (ap (λ (l : Services D). one ∷ l) is) (disks ∙ next)
      (lefts ∙ left ∙ ap (λ (t : Trace). first_behind (entries ++ kept t) (made_next w back)) (sym until_))

  -- an event of its own
  acts_first : (w v : ℕ) (entries : List Entry) (event : Event) (m : Services D) → (v == w) ≡ true
      → NextStop w (entries ++ kept (event ∷ [])) m → NextStop w entries (Acts v event ∷ m)
  acts_first w v entries event m here (runs_on none left) =
      runs_on none (ap (λ (t : Bool). left_of w (if t then entries ++ kept (event ∷ []) else entries) m) here ∙ left)
  acts_first w v entries event m here (stops disk front back is next left) =
      stops disk (Acts v event ∷ front) back (ap (λ (l : Services D). Acts v event ∷ l) is) next
      (ap (λ (t : Bool). left_of w (if t then entries ++ kept (event ∷ []) else entries) m) here ∙ left
      ∙ ap (λ (l : List Entry). first_behind l (made_next w back))
      (append_assoc entries (kept (event ∷ [])) (kept (until_stop w (plain m)))
      ∙ ap (λ (l : List Entry). entries ++ l)
      (sym (filter_map-append kept_by (event ∷ []) (until_stop w (plain m)))
      ∙ ap kept (sym (ap (λ (t : Bool). if t then event ∷ until_stop w (plain m) else until_stop w (plain m)) here)))))

  leaves_first : (w v : ℕ) (entries : List Entry) (disk : D) (m : Services D) → (v == w) ≡ true → v ≡ w
      → NextStop w entries (Leaves v disk ∷ m)
  leaves_first w v entries disk m here same =
      stops disk [] m (ap (λ (u : ℕ). Leaves u disk ∷ m) same)
      (ap (λ (t : Bool). if t then Some disk else disk_next w m) here)
      (ap (λ (t : Bool). if t then first_behind entries (made_next w m) else left_of w entries m) here
      ∙ ap (λ (l : List Entry). first_behind l (made_next w m))
      (sym (append-nil entries)
      ∙ ap (λ (t : Trace). entries ++ kept t) (sym (ap (λ (t : Bool). if t then [] else until_stop w (plain m)) here))))

  pub next_stop : (w : ℕ) (entries : List Entry) (m : Services D) → NextStop w entries m
  next_stop w entries [] = runs_on refl refl
  next_stop w entries (Fails v disk left ∷ m) = further w entries (Fails v disk left) m refl refl refl (next_stop w entries m)
  next_stop w entries (Opens v disk more ∷ m) = go (eqb_tells v w) (next_stop w entries m)
    where
      go : ((v == w) ≡ true) × (v ≡ w) ⊎ ((v == w) ≡ false) × (v ≢ w) → NextStop w entries m
          → NextStop w entries (Opens v disk more ∷ m)
      go (inl same) h =
          runs_on (ap (λ (t : Bool). if t then None else disk_next w m) same.0)
          (ap (λ (t : Bool). if t then None else left_of w (held_with w entries (Opens v disk more)) m) same.0)
      go (inr other) h =
          further w entries (Opens v disk more) m (ap (λ (t : Bool). if t then None else disk_next w m) other.0)
          (ap (λ (t : Bool). if t then None else left_of w (held_with w entries (Opens v disk more)) m) other.0
          ∙ ap (λ (t : Bool). left_of w (if t then more else entries) m) other.0)
          (ap (λ (t : Bool). if t then [] else until_stop w (plain m)) other.0) h
  next_stop w entries (Acts v event ∷ m) =
      go (eqb_tells v w) (next_stop w (entries ++ kept (event ∷ [])) m) (next_stop w entries m)
    where
      go : ((v == w) ≡ true) × (v ≡ w) ⊎ ((v == w) ≡ false) × (v ≢ w) → NextStop w (entries ++ kept (event ∷ [])) m
          → NextStop w entries m → NextStop w entries (Acts v event ∷ m)
      go (inl same) h k = acts_first w v entries event m same.0 h
      go (inr other) h k =
          further w entries (Acts v event) m refl
          (ap (λ (t : Bool). left_of w (if t then entries ++ kept (event ∷ []) else entries) m) other.0)
          (ap (λ (t : Bool). if t then event ∷ until_stop w (plain m) else until_stop w (plain m)) other.0) k
  next_stop w entries (Leaves v disk ∷ m) = go (eqb_tells v w) (next_stop w entries m)
    where
      go : ((v == w) ≡ true) × (v ≡ w) ⊎ ((v == w) ≡ false) × (v ≢ w) → NextStop w entries m
          → NextStop w entries (Leaves v disk ∷ m)
      go (inl same) h = leaves_first w v entries disk m same.0 same.1
      go (inr other) h =
          further w entries (Leaves v disk) m (ap (λ (t : Bool). if t then Some disk else disk_next w m) other.0)
          (ap (λ (t : Bool). if t then first_behind entries (made_next w m) else left_of w entries m) other.0)
          (ap (λ (t : Bool). if t then [] else until_stop w (plain m)) other.0) h
