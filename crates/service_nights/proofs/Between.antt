-- The happenings of what occurs between two places of a list of services, and one occurrence further.
use Rattle.std.proofs.Common.{[], ◌++◌, ◌≡◌, ◌∙◌, ◌∷◌, ℕ, Bool, List, None, Option, Some, ap, append-nil, append_assoc, false, refl, sym, true}
use Rattle.std.proofs.lemmas.List.Elements.{filter_map-append}
use Rattle.std.proofs.lemmas.List.Sums.{fold-append}
use Rattle.std.specs.List.{cons_option}
use Rattle.std.specs.Option.{option_to_list}
use Rattle.std.specs.Prelude.{◌==◌, filter_map, fold, if◌then◌else◌, option_map}
use Rattle.model.specs.Types.{Entry, Start}
use Rattle.node_inputs.specs.Traces.{Event, Trace, kept, kept_by}
use Rattle.network_runs.specs.Happenings.{Begins, Does, Happening, Night, Stops, kept_at, kept_in, of_workstation, since, since_with, start_of, started, until_stop}
use Rattle.service_nights.specs.Services.{Acts, Fails, Leaves, Occurrence, Opens, Services, disk_next, disk_left, disk_with, first_behind, happens, held, held_with, made_next, night_between, plain, plain_of}

-- at which workstation it is
abbrev pub place_of : {D : Type 0} → Occurrence D → ℕ
place_of (Fails w disk left) = w
place_of (Opens w disk entries) = w
place_of (Acts w event) = w
place_of (Leaves w disk) = w

module _ {D : Type 0} where
  pub between_both : (b m n e : Services D)
      → night_between b (m ++ n) e ≡ night_between b m (n ++ e) ++ night_between (b ++ m) n e
  between_both b [] n e = ap (λ (l : Services D). night_between l n e) (sym (append-nil b))
  between_both b (one ∷ m) n e =
      ap (λ (l : Services D). happens b one l ++ night_between (b ++ one ∷ []) (m ++ n) e) (append_assoc m n e)
      ∙ ap (λ (l : Night). happens b one (m ++ (n ++ e)) ++ l) (between_both (b ++ one ∷ []) m n e)
      ∙ ap (λ (l : Services D). happens b one (m ++ (n ++ e)) ++ (night_between (b ++ one ∷ []) m (n ++ e) ++ night_between l n e))
      (append_assoc b (one ∷ []) m)
      ∙ sym (append_assoc (happens b one (m ++ (n ++ e))) (night_between (b ++ one ∷ []) m (n ++ e)) (night_between (b ++ one ∷ m) n e))

  -- one occurrence further
  pub between_next : (b e : Services D) (one : Occurrence D)
      → night_between [] (b ++ one ∷ []) e ≡ night_between [] b (one ∷ e) ++ happens b one e
  between_next b e one =
      between_both [] b (one ∷ []) e
      ∙ ap (λ (l : Night). night_between [] b (one ∷ e) ++ l) (append-nil (happens b one e))

  -- what a stop leaves does not tell who runs, what it did, and what was started
  since_from : (w : ℕ) (s : Option Trace) (b m e : Services D)
      → fold (since_with w) s (night_between b m e) ≡ fold (since_with w) s (plain m)
  since_from w s b [] e = refl
  since_from w s b (Fails v disk left ∷ m) e = since_from w s (b ++ Fails v disk left ∷ []) m e
  since_from w s b (Opens v disk entries ∷ m) e =
      since_from w (since_with w s (Begins v entries)) (b ++ Opens v disk entries ∷ []) m e
  since_from w s b (Acts v event ∷ m) e = since_from w (since_with w s (Does v event)) (b ++ Acts v event ∷ []) m e
  since_from w s b (Leaves v disk ∷ m) e = since_from w (since_with w s (Stops v None)) (b ++ Leaves v disk ∷ []) m e

  pub since_same : (w : ℕ) (m e : Services D) → since w (night_between [] m e) ≡ since w (plain m)
  since_same w m e = since_from w None [] m e

  pub until_same : (w : ℕ) (b m e : Services D) → until_stop w (night_between b m e) ≡ until_stop w (plain m)
  until_same w b [] e = refl
  until_same w b (Fails v disk left ∷ m) e = until_same w (b ++ Fails v disk left ∷ []) m e
  until_same w b (Opens v disk entries ∷ m) e =
      ap (λ (t : Trace). if v == w then [] else t) (until_same w (b ++ Opens v disk entries ∷ []) m e)
  until_same w b (Acts v event ∷ m) e =
      ap (λ (t : Trace). if v == w then event ∷ t else t) (until_same w (b ++ Acts v event ∷ []) m e)
  until_same w b (Leaves v disk ∷ m) e =
      ap (λ (t : Trace). if v == w then [] else t) (until_same w (b ++ Leaves v disk ∷ []) m e)

  pub started_same : (b m e : Services D) → started (night_between b m e) ≡ started (plain m)
  started_same b [] e = refl
  started_same b (Fails v disk left ∷ m) e = started_same (b ++ Fails v disk left ∷ []) m e
  started_same b (Opens v disk entries ∷ m) e = started_same (b ++ Opens v disk entries ∷ []) m e
  started_same b (Acts v event ∷ m) e =
      ap (λ (l : List Start). cons_option (start_of (Does v event)) l) (started_same (b ++ Acts v event ∷ []) m e)
  started_same b (Leaves v disk ∷ m) e = started_same (b ++ Leaves v disk ∷ []) m e

  -- one occurrence further in what was before
  pub since_further : (w : ℕ) (b : Services D) (one : Occurrence D)
      → since w (plain (b ++ one ∷ [])) ≡ fold (since_with w) (since w (plain b)) (plain (one ∷ []))
  since_further w b one =
      ap (since w) (filter_map-append plain_of b (one ∷ []))
      ∙ fold-append (since_with w) None (plain b) (plain (one ∷ []))

  pub held_further : (w : ℕ) (b : Services D) (one : Occurrence D) → held w (b ++ one ∷ []) ≡ held_with w (held w b) one
  held_further w b one = fold-append (held_with w) [] b (one ∷ [])

  pub disk_further : (w : ℕ) (b : Services D) (one : Occurrence D)
      → disk_left w (b ++ one ∷ []) ≡ disk_with w (disk_left w b) one
  disk_further w b one = fold-append (disk_with w) None b (one ∷ [])

  pub kept_further : (w : ℕ) (b e : Services D) (one : Occurrence D)
      → kept_at w (night_between [] (b ++ one ∷ []) e) ≡ kept_at w (night_between [] b (one ∷ e)) ++ kept_at w (happens b one e)
  kept_further w b e one =
      ap (kept_at w) (between_next b e one)
      ∙ ap (filter_map (of_workstation w)) (filter_map-append kept_in (night_between [] b (one ∷ e)) (happens b one e))
      ∙ filter_map-append (of_workstation w) (filter_map kept_in (night_between [] b (one ∷ e))) (filter_map kept_in (happens b one e))

-- what one happening keeps at a workstation
kept_of_one : (w v : ℕ) (o : Option Entry) (t : Bool) → (v == w) ≡ t
    → filter_map (of_workstation w) (cons_option (option_map (λ (e : Entry). (v, e)) o) []) ≡ (if t then cons_option o [] else [])
kept_of_one w v None true e = refl
kept_of_one w v None false e = refl
kept_of_one w v (Some d) true e = ap (λ (t : Bool). cons_option (if t then Some d else None) []) e
kept_of_one w v (Some d) false e = ap (λ (t : Bool). cons_option (if t then Some d else None) []) e

pub kept_event_here : (w v : ℕ) (event : Event) → (v == w) ≡ true → kept_at w (Does v event ∷ []) ≡ kept (event ∷ [])
kept_event_here w v event here = kept_of_one w v (kept_by event) true here

pub kept_stop_here : (w v : ℕ) (o : Option Entry) → (v == w) ≡ true → kept_at w (Stops v o ∷ []) ≡ option_to_list o
kept_stop_here w v o here = kept_of_one w v o true here ∙ go o
  where
    go : (o : Option Entry) → cons_option o [] ≡ option_to_list o
    go None = refl
    go (Some e) = refl

-- nothing of this occurrence is the workstation's, but for a disk that a service of it left which failed
pub record IsElsewhere {D : Type 0} (w : ℕ) (b : Services D) (one : Occurrence D) (m : Services D) : Type 0 where
  pub since_ : since w (plain (b ++ one ∷ [])) ≡ since w (plain b)
  pub kept_ : kept_at w (night_between [] (b ++ one ∷ []) m) ≡ kept_at w (night_between [] b (one ∷ m))
  pub held_ : held w (b ++ one ∷ []) ≡ held w b
  pub until_ : until_stop w (plain (one ∷ m)) ≡ until_stop w (plain m)
  pub next_ : disk_next w (one ∷ m) ≡ disk_next w m
  pub made_ : made_next w (one ∷ m) ≡ made_next w m

pub failed_elsewhere : {D : Type 0} (w v : ℕ) (b m : Services D) (disk left : D) → IsElsewhere w b (Fails v disk left) m
failed_elsewhere w v b m disk left = record {
  since_ = since_further w b (Fails v disk left);
  kept_ = kept_further w b m (Fails v disk left) ∙ append-nil (kept_at w (night_between [] b (Fails v disk left ∷ m)));
  held_ = held_further w b (Fails v disk left);
  until_ = refl;
  next_ = refl;
  made_ = refl;
}

pub elsewhere : {D : Type 0} (w : ℕ) (b m : Services D) (one : Occurrence D) → (place_of one == w) ≡ false → IsElsewhere w b one m
elsewhere w b m (Fails v disk left) other = failed_elsewhere w v b m disk left
elsewhere w b m (Opens v disk entries) other = record {
  since_ = since_further w b (Opens v disk entries) ∙ ap (λ (t : Bool). if t then Some [] else since w (plain b)) other;
  kept_ = kept_further w b m (Opens v disk entries) ∙ append-nil (kept_at w (night_between [] b (Opens v disk entries ∷ m)));
  held_ = held_further w b (Opens v disk entries) ∙ ap (λ (t : Bool). if t then entries else held w b) other;
  until_ = ap (λ (t : Bool). if t then [] else until_stop w (plain m)) other;
  next_ = ap (λ (t : Bool). if t then None else disk_next w m) other;
  made_ = ap (λ (t : Bool). if t then Some entries else made_next w m) other;
}
elsewhere w b m (Acts v event) other = record {
  since_ =
      since_further w b (Acts v event)
      ∙ ap (λ (t : Bool). if t then option_map (λ (past : Trace). past ++ event ∷ []) (since w (plain b)) else since w (plain b)) other;
  kept_ =
      kept_further w b m (Acts v event)
      ∙ ap (λ (l : List Entry). kept_at w (night_between [] b (Acts v event ∷ m)) ++ l) (kept_of_one w v (kept_by event) false other)
      ∙ append-nil (kept_at w (night_between [] b (Acts v event ∷ m)));
  held_ = held_further w b (Acts v event) ∙ ap (λ (t : Bool). if t then held w b ++ kept (event ∷ []) else held w b) other;
  until_ = ap (λ (t : Bool). if t then event ∷ until_stop w (plain m) else until_stop w (plain m)) other;
  next_ = refl;
  made_ = refl;
}
elsewhere w b m (Leaves v disk) other = record {
  since_ = since_further w b (Leaves v disk) ∙ ap (λ (t : Bool). if t then None else since w (plain b)) other;
  kept_ =
      kept_further w b m (Leaves v disk)
      ∙ ap (λ (l : List Entry). kept_at w (night_between [] b (Leaves v disk ∷ m)) ++ l)
      (kept_of_one w v (first_behind (held v b) (made_next v m)) false other)
      ∙ append-nil (kept_at w (night_between [] b (Leaves v disk ∷ m)));
  held_ = held_further w b (Leaves v disk);
  until_ = ap (λ (t : Bool). if t then [] else until_stop w (plain m)) other;
  next_ = ap (λ (t : Bool). if t then Some disk else disk_next w m) other;
  made_ = refl;
}
