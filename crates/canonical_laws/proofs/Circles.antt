-- What streams and entries follow, as it is written and in normal form, and the circles of these.
use Rattle.std.proofs.Common.{◌≡◌, ◌+◌, ℕ, Bool, true, false, List, [], ◌∷◌, ◌++◌, map, filter_map, flat_map, take}
use Rattle.std.proofs.Common.{length, fold, Contains}
use Rattle.std.proofs.Common.{Option, Some, None, refl, ap, sym, subst, ◌∙◌, slice_get, option_map}
use Rattle.std.proofs.lemmas.List.{length-map, take-map}
use Rattle.std.proofs.lemmas.List.Folds.{fold-map}
use Rattle.std.proofs.lemmas.Option.{slice_get-map}
use Rattle.std.specs.List.{enumerate_from, sum_by}
use Rattle.std.specs.Option.{option_map_or}
use Rattle.composer_parser.specs.declared.Lined.{Lined}
use Rattle.composer_parser.specs.declared.Defs.{Defs}
use Rattle.composer_parser.specs.declared.Clause.{Clause}
use Rattle.composer_parser.specs.declared.Clause.TheVariants.{Follows}
use Rattle.composer_parser.specs.declared.EntryDef.{EntryDef}
use Rattle.composer_parser.specs.declared.Pred.{Pred}
use Rattle.composer_parser.specs.declared.ScheduleDef.{ScheduleDef}
use Rattle.composer_print.specs.Normal as forms
use Rattle.composer_print.specs.Normal.{all_unlined, entry_names, normal_entry, normal_schedule}
use Rattle.composer_print.specs.Scopes.{or_home, preds_in, normal_pred, normal_clauses}
use Rattle.composer_print.specs.Streams.{items}
use Rattle.composer_print.proofs.Joins.{items_unlined}
use Rattle.definition_names.specs.declared.Target.{Target}
use Rattle.definition_names.specs.declared.Target.TheVariants.{Stream, Job}
use Rattle.definition_faults.specs.Graphs.{begin_of, place_of, preds_of, followed_by, followed, entry_object}
use Rattle.definition_faults.specs.Graphs.{stream_objects, graph_of}
use Rattle.follow_circles.specs.Circles.{follows_of, IsWay, IsOnCircle}
use Rattle.follow_circles.specs.declared.circles.Follower.{Follower}
use Rattle.canonical_laws.proofs.Lists.{Both, picks_same, pieces_same}
use Rattle.canonical_laws.proofs.Homes.{home_of, master_same}
use Rattle.canonical_laws.proofs.Targets.{AreEntries, target_kept}
use Rattle.canonical_laws.proofs.Named.{preds_named}
use Rattle.canonical_laws.proofs.Streams.{IsPlaced, placed, home_at, no_entry, no_header}
use Rattle.canonical_laws.proofs.Forms.{IsForm}

preds_are : (c : Clause) → preds_of c ≡ preds_in c
unfolding preds_in
preds_are (Follows ps) = refl
preds_are c = refl

preds_items : (cs : List (Lined Clause))
    → flat_map (λ (c : Lined Clause). preds_of c.item) cs ≡ flat_map preds_in (items cs)
preds_items [] = refl
preds_items (c ∷ cs) = λ i. preds_are c.item i ++ preds_items cs i

-- places of streams
abbrev size : Lined ScheduleDef → ℕ
size s = length s.item.entries + 1

size_same : (m : Option (List ℕ)) (s : Lined ScheduleDef) → size (normal_schedule m s) ≡ size s
unfolding normal_schedule
size_same m s =
    ap (λ n. n + 1) (length-map s.item.entries (normal_entry (entry_names s.item.entries) (or_home s.item.ws m)))

begin_same : (d e : Defs) → IsForm d e → (n : ℕ) → begin_of e n ≡ begin_of d n
begin_same d e form n =
    let m : Option (List ℕ) = forms.master_of d.domains in
    ap (λ (ss : List (Lined ScheduleDef)). sum_by size (take n ss)) form.schedules
    ∙ ap (λ (ss : List (Lined ScheduleDef)). sum_by size ss) (take-map (normal_schedule m) n d.schedules)
    ∙ fold-map (λ a s. a + size s) (normal_schedule m) 0 (take n d.schedules)
    ∙ (λ i. fold (λ a s. a + size_same m s i) 0 (take n d.schedules))

place_same : (d e : Defs) → IsForm d e → (t : Target) → place_of e t ≡ place_of d t
place_same d e form (Stream n) = begin_same d e form n
place_same d e form (Job n k) = ap (λ b. b + k + 1) (begin_same d e form n)

-- what the clauses of an object follow
module _ (d e : Defs) (form : IsForm d e) where
  followed_same : (n : ℕ) (inside : Bool) (names : List (List ℕ)) (home own : Option (List ℕ))
      → AreEntries d n inside names
      → home_of d n ≡ home → (cs : List (Lined Clause))
      → followed e n inside (all_unlined (normal_clauses names home own (items cs))) ≡ followed d n inside cs
  followed_same n inside names home own k eh cs =
      let all : List Clause = normal_clauses names home own (items cs) in
      let preds : List Pred = flat_map preds_in (items cs) in
      let one : (p : Pred) → followed_by e n inside (normal_pred names home p) ≡ followed_by d n inside p =
      λ p. λ i. option_map (λ t. place_same d e form t i) (target_kept d e form.names n inside names home k eh p i) in
      ap (filter_map (followed_by e n inside))
      (preds_items (all_unlined all) ∙ ap (flat_map preds_in) (items_unlined all)
      ∙ preds_named names home own (items cs))
      ∙ picks_same (followed_by d n inside) (followed_by e n inside) (normal_pred names home) one preds
      ∙ ap (filter_map (followed_by d n inside)) (sym (preds_items cs))

  entry_follows : (n : ℕ) (s : Lined ScheduleDef) → IsPlaced d e n (forms.master_of d.domains) s → (x : Lined EntryDef)
      → (entry_object e n
      (normal_entry (entry_names s.item.entries) (or_home s.item.ws (forms.master_of d.domains)) x)).follows
      ≡ (entry_object d n x).follows
  unfolding normal_entry
  entry_follows n s here x =
      let m : Option (List ℕ) = forms.master_of d.domains in
      followed_same n true (entry_names s.item.entries) (or_home s.item.ws m) (or_home x.item.ws (or_home s.item.ws m))
      (no_entry d e form.names n m s here) (home_at d e form.names n m s here) x.item.clauses

  entries_follow : (n : ℕ) (s : Lined ScheduleDef) → IsPlaced d e n (forms.master_of d.domains) s
      → (xs : List (Lined EntryDef))
      → map (λ (f : Follower). f.follows)
      (map (entry_object e n)
      (map (normal_entry (entry_names s.item.entries) (or_home s.item.ws (forms.master_of d.domains))) xs))
      ≡ map (λ (f : Follower). f.follows) (map (entry_object d n) xs)
  entries_follow n s here [] = refl
  entries_follow n s here (x ∷ xs) = λ i. entry_follows n s here x i ∷ entries_follow n s here xs i

  stream_follows : (n : ℕ) (s : Lined ScheduleDef) → IsPlaced d e n (forms.master_of d.domains) s
      → map (λ (f : Follower). f.follows) (stream_objects e (n, normal_schedule (forms.master_of d.domains) s))
      ≡ map (λ (f : Follower). f.follows) (stream_objects d (n, s))
  unfolding normal_schedule
  stream_follows n s here =
      let m : Option (List ℕ) = forms.master_of d.domains in
      let home : Option (List ℕ) = or_home s.item.ws m in
      λ i. followed_same n false [] home home (no_header d e form.names n m s here)
      (home_at d e form.names n m s here) s.item.clauses i
      ∷ entries_follow n s here s.item.entries i

  graph_follows : map (λ (f : Follower). f.follows) (graph_of e) ≡ map (λ (f : Follower). f.follows) (graph_of d)
  unfolding graph_of
  graph_follows =
      let m : Option (List ℕ) = forms.master_of d.domains in
      ap (λ (ss : List (Lined ScheduleDef)). map (λ (f : Follower). f.follows)
      (flat_map (stream_objects e) (enumerate_from 0 ss)))
      form.schedules
      ∙ pieces_same (stream_objects d) (stream_objects e) (λ (f : Follower). f.follows) (normal_schedule m) d.schedules
      (λ n s at. stream_follows n s (placed d e form.names n m (master_same d.domains) s at)) 0 d.schedules refl

-- objects that follow the same
follows_by : (o : Option Follower)
    → option_map_or (λ (f : Follower). f.follows) o [] ≡ option_map_or (λ (l : List ℕ). l)
    (option_map (λ (f : Follower). f.follows) o) []
follows_by None = refl
follows_by (Some f) = refl

follows_in : (xs : List Follower) (v : ℕ)
    → follows_of xs v ≡ option_map_or (λ (l : List ℕ). l) (slice_get (map (λ (f : Follower). f.follows) xs) v) []
follows_in xs v =
    follows_by (slice_get xs v)
    ∙ ap (λ (o : Option (List ℕ)). option_map_or (λ l. l) o []) (sym (slice_get-map (λ (f : Follower). f.follows) xs v))

follows_same : (xs ys : List Follower) → map (λ (f : Follower). f.follows) xs ≡ map (λ (f : Follower). f.follows) ys
    → (v : ℕ)
    → follows_of xs v ≡ follows_of ys v
follows_same xs ys e v =
    follows_in xs v ∙ ap (λ (l : List (List ℕ)). option_map_or (λ (m : List ℕ). m) (slice_get l v) []) e
    ∙ sym (follows_in ys v)

way_kept : (xs ys : List Follower) → ((v : ℕ) → follows_of xs v ≡ follows_of ys v) → (v : ℕ) (more : List ℕ) (w : ℕ)
    → IsWay xs v more w → IsWay ys v more w
way_kept xs ys e v [] w h = h
way_kept xs ys e v (x ∷ more) w h = (subst (λ (l : List ℕ). Contains l x) (e v) h.0, way_kept xs ys e x more w h.1)

circle_kept : (xs ys : List Follower) → ((v : ℕ) → follows_of xs v ≡ follows_of ys v) → (v : ℕ) → IsOnCircle xs v
    → IsOnCircle ys v
circle_kept xs ys e v (x, more, there_, way) =
    (x, more, subst (λ (l : List ℕ). Contains l x) (e v) there_, way_kept xs ys e x more v way)

-- on circles are the same objects
pub circles_both : (d e : Defs) → IsForm d e → (v : ℕ) → Both (IsOnCircle (graph_of d) v) (IsOnCircle (graph_of e) v)
circles_both d e form v =
    let same = graph_follows d e form in (
      circle_kept (graph_of d) (graph_of e) (follows_same (graph_of d) (graph_of e) (sym same)) v,
      circle_kept (graph_of e) (graph_of d) (follows_same (graph_of e) (graph_of d) same) v,
    )
