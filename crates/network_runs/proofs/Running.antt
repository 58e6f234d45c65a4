-- A workstation that runs does a front of a run, and what its node holds behind it is what its workstation has.
use Rattle.std.proofs.Common.{[], ◌++◌, ◌<◌, ◌≡◌, ◌≢◌, ◌∙◌, ◌∷◌, ℕ, List, None, Option, Some, ap, append_assoc, inl, inr, refl, subst, sym}
use Rattle.std.proofs.lemmas.Bool.Decides.{eqb_tells}
use Rattle.std.proofs.lemmas.List.{append-nil}
use Rattle.std.proofs.lemmas.List.Elements.{filter_map-append}
use Rattle.lemmas.proofs.Options.{none_some, some_is}
use Rattle.composer_parser.specs.declared.Defs.{Defs}
use Rattle.model.specs.Types.{Entry}
use Rattle.model.specs.History.{list_of}
use Rattle.model.specs.Network.{node_count}
use Rattle.workload_defs.specs.Nets.{net_of}
use Rattle.node_inputs.specs.Traces.{Event, Trace, kept, kept_by}
use Rattle.network_runs.specs.Happenings.{Begins, Does, Happening, Night, Stops, kept_at, left_at_stop, since, until_stop}
use Rattle.network_runs.specs.Nights.{IsLife, IsNight, RunsIn}
use Rattle.network_runs.proofs.Counting.{kept_next, kept_other, left_other, place_of, since_begins, since_does, since_other, since_stops, until_does, until_other}
use Rattle.network_runs.proofs.Once.{kept_event}
use Rattle.network_runs.proofs.Whole.{IsSoFar, last_first, not_up}

-- a workstation does not run, or what it did and what it does up to its stop is its life
data Lives (defs : Defs) (before behind : Night) (w : ℕ) : Type 0 where
  idle : since w before ≡ None → Lives defs before behind w
  lives : (past : Trace) (entries : List Entry) → w < node_count (net_of defs) → since w before ≡ Some past
      → kept_at w before ≡ entries ++ kept past → IsLife defs w entries (past ++ until_stop w behind) (left_at_stop w behind)
      → Lives defs before behind w

life_same : (defs : Defs) (w : ℕ) (entries : List Entry) (a b : Trace) (l m : Option Entry) → a ≡ b → l ≡ m
    → IsLife defs w entries a l → IsLife defs w entries b m
life_same defs w entries a b l m p q life =
    subst (λ (t : Trace). IsLife defs w entries t m) p (subst (λ (o : Option Entry). IsLife defs w entries a o) q life)

others_live : (defs : Defs) (before behind : Night) (h : Happening) (w : ℕ) → w ≢ place_of h → Lives defs before (h ∷ behind) w
    → Lives defs (before ++ h ∷ []) behind w
others_live defs before behind h w other (Lives.idle none) = Lives.idle (since_other w before h other ∙ none)
others_live defs before behind h w other (Lives.lives past entries inside some same life) =
    Lives.lives past entries inside (since_other w before h other ∙ some) (kept_other w before h other ∙ same)
    (life_same defs w entries (past ++ until_stop w (h ∷ behind)) (past ++ until_stop w behind) (left_at_stop w (h ∷ behind))
    (left_at_stop w behind) (ap (λ (t : Trace). past ++ t) (until_other w h behind other)) (left_other w h behind other) life)

module _ (defs : Defs) (night : Night) (n : IsNight defs night) where
  does_live : (before behind : Night) (w : ℕ) (event : Event) → night ≡ before ++ Does w event ∷ behind
      → Lives defs before (Does w event ∷ behind) w → Lives defs (before ++ Does w event ∷ []) behind w
  does_live before behind w event is (Lives.idle none) = let it = n.acts before behind w event is in not_up none it.1
  does_live before behind w event is (Lives.lives past entries inside some same life) =
      Lives.lives (past ++ event ∷ []) entries inside (since_does w before event past some)
      (kept_next w before (Does w event) ∙ ap (λ (l : List Entry). l ++ kept_at w (Does w event ∷ [])) same
      ∙ append_assoc entries (kept past) (kept_at w (Does w event ∷ []))
      ∙ ap (λ (l : List Entry). entries ++ (kept past ++ l)) (kept_event w event)
      ∙ ap (λ (l : List Entry). entries ++ l) (sym (filter_map-append kept_by past (event ∷ []))))
      (subst (λ (t : Trace). IsLife defs w entries t (left_at_stop w behind))
      (ap (λ (t : Trace). past ++ t) (until_does w event behind) ∙ last_first past (until_stop w behind) event) life)

  here_live : (before behind : Night) (h : Happening) → night ≡ before ++ h ∷ behind → Lives defs before (h ∷ behind) (place_of h)
      → Lives defs (before ++ h ∷ []) behind (place_of h)
  here_live before behind (Begins w entries) is l =
      Lives.lives [] entries (n.inside before behind w entries is) (since_begins w before entries)
      (kept_next w before (Begins w entries) ∙ ap (λ (k : List Entry). k ++ []) (sym (n.files before behind w entries is)))
      (n.runs before behind w entries is)
  here_live before behind (Does w event) is l = does_live before behind w event is l
  here_live before behind (Stops w left) is l = Lives.idle (since_stops w before left)

  all_live : (behind before : Night) → night ≡ before ++ behind → ((w : ℕ) → Lives defs before behind w) → (w : ℕ) → Lives defs night [] w
  all_live [] before is so_far w =
      subst (λ (l : Night). Lives defs l [] w) (sym (is ∙ append-nil before)) (so_far w)
  all_live (h ∷ behind) before is so_far w =
      all_live behind (before ++ h ∷ []) (is ∙ sym (append_assoc before (h ∷ []) behind)) one_further w
    where
      one_further : (v : ℕ) → Lives defs (before ++ h ∷ []) behind v
      one_further v =
          elim (eqb_tells v (place_of h)) [
            | inl same ↦ subst (λ (u : ℕ). Lives defs (before ++ h ∷ []) behind u) (sym same.1)
                (here_live before behind h is (so_far (place_of h)))
            | inr other ↦ others_live defs before behind h v other.1 (so_far v)
          ]

  pub runs_in : (k : IsSoFar (net_of defs) night) (w : ℕ) (past : Trace) → since w night ≡ Some past
      → RunsIn defs k.world w past
  runs_in k w past running_ = go (all_live night [] refl (λ v. Lives.idle refl) w)
    where
      go : Lives defs night [] w → RunsIn defs k.world w past
      go (Lives.idle none) = absurd (none_some (sym none ∙ running_))
      go (Lives.lives done entries inside some same life) =
          let is : done ≡ past = some_is (sym some ∙ running_) in
          let mine : IsLife defs w entries past None =
          life_same defs w entries (done ++ []) past None None (append-nil done ∙ is) refl life in
          record {
            entries = entries;
            life = mine;
            holds = λ f.
                ap (λ (l : List Entry). list_of l f)
                (ap (λ (l : List Entry). l ++ kept past) mine.begun.kept_
                ∙ ap (λ (t : Trace). entries ++ kept t) (sym is) ∙ sym same)
                ∙ (k.kept_ w inside).holds_them f;
          }
