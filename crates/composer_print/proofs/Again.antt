-- The normal form of a normal form.
use Rattle.std.proofs.Common.{◌≡◌, ℕ, Bool, true, false, cond, eqb, List, [], ◌∷◌, ◌++◌, Option, Some, None, option_map, map, flat_map, filter_map, refl, ap, ◌∙◌, append-nil, codes}
use Rattle.std.specs.Str.{bytes_eq}
use Rattle.std.specs.List.{cons_option}
use Rattle.std.proofs.lemmas.List.Concat.{flat_map-append}
use Rattle.std.proofs.lemmas.List.Elements.{filter-append}
use Rattle.base_types.specs.declared.network.Carry.{Carry}
use Rattle.base_types.specs.declared.network.Carry.TheVariants.{Yes, No, All}
use Rattle.composer_parser.specs.declared.definitions.Lined.{Lined}
use Rattle.composer_parser.specs.declared.definitions.Defs.{Defs}
use Rattle.composer_parser.specs.declared.definitions.CpuDef.{CpuDef}
use Rattle.composer_parser.specs.declared.definitions.DomainDef.{DomainDef}
use Rattle.composer_parser.specs.declared.clauses.Clause.{Clause}
use Rattle.composer_parser.specs.declared.clauses.Pred.{Pred}
use Rattle.composer_parser.specs.declared.clauses.PredPart.{PredPart}
use Rattle.composer_parser.specs.declared.clauses.PredPart.TheVariants as part
use Rattle.composer_parser.specs.declared.clauses.Need.{Need}
use Rattle.composer_parser.specs.declared.schedules.EntryDef.{EntryDef}
use Rattle.composer_parser.specs.declared.schedules.ScheduleDef.{ScheduleDef}
use Rattle.composer_print.specs.declared.kinds.Once.{Once}
use Rattle.composer_print.specs.declared.kinds.Once.TheVariants as once
use Rattle.composer_print.specs.Texts.{unless, item_of}
use Rattle.composer_print.specs.Stations.{unless_utc, unless_yes, unless_on, unless_off, normal_cpu}
use Rattle.composer_print.specs.Scopes.{or_home, has_name, is_of, normal_pred, normal_need, normal_clauses, those, preds_in, needs_in, prompts_in, files_in, follows_of, needs_of, prompt_of, opens_of}
use Rattle.composer_print.specs.Streams.{items}
use Rattle.composer_print.specs.Normal.{unlined, bare, bare_cpu, all_unlined, manager_of, only, master_of, entry_names, normal_entry, normal_schedule, normal}
use Rattle.composer_print.proofs.Joins.{items_unlined, item_unlined}
use Rattle.composer_print.proofs.Chosen.{pick, no_follows, no_needs, no_prompts, no_opens, preds_once, needs_once, prompts_once, files_once, preds_follows, preds_needs, preds_prompts, preds_opens, needs_follows, needs_needs, needs_prompts, needs_opens, prompts_follows, prompts_needs, prompts_prompts, prompts_opens, files_follows, files_needs, files_prompts, files_opens, ten_parts}

mapped_again : {A : Type 0} (f : A → A) → ((x : A) → f (f x) ≡ f x) → (xs : List A) → map f (map f xs) ≡ map f xs
mapped_again f h [] = refl
mapped_again f h (x ∷ xs) = λ i. h x i ∷ mapped_again f h xs i

-- defaults
unless_test : (k n : ℕ) (b : Bool) → eqb n k ≡ b → unless k (cond b None (Some n)) ≡ cond b None (Some n)
unless_test k n true h = refl
unless_test k n false h = rw h refl

pub unless_again : (k : ℕ) (o : Option ℕ) → unless k (unless k o) ≡ unless k o
unless_again k None = refl
unless_again k (Some n) = unless_test k n (eqb n k) refl

utc_test : (z : List ℕ) (b : Bool) → bytes_eq z (codes "UTC") ≡ b → unless_utc (cond b None (Some z)) ≡ cond b None (Some z)
utc_test z true h = refl
utc_test z false h = rw h refl

utc_again : (o : Option (List ℕ)) → unless_utc (unless_utc o) ≡ unless_utc o
utc_again None = refl
utc_again (Some z) = utc_test z (bytes_eq z (codes "UTC")) refl

yes_again : (o : Option Carry) → unless_yes (unless_yes o) ≡ unless_yes o
yes_again None = refl
yes_again (Some Yes) = refl
yes_again (Some No) = refl
yes_again (Some All) = refl

on_again : (o : Option Bool) → unless_on (unless_on o) ≡ unless_on o
on_again None = refl
on_again (Some true) = refl
on_again (Some false) = refl

off_again : (o : Option Bool) → unless_off (unless_off o) ≡ unless_off o
off_again None = refl
off_again (Some true) = refl
off_again (Some false) = refl

cpu_again : (c : CpuDef) → normal_cpu (normal_cpu c) ≡ normal_cpu c
cpu_again c =
    λ i. record {
      name = c.name;
      os = c.os;
      host = c.host;
      port = unless_again 31111 c.port i;
      domain = c.domain;
      manager = c.manager;
      autolink = on_again c.autolink i;
      full = off_again c.full i;
    }

cpus_again : (cs : List (Lined CpuDef)) → map bare_cpu (map bare_cpu cs) ≡ map bare_cpu cs
cpus_again cs = mapped_again bare_cpu (λ c. ap unlined (cpu_again c.item)) cs

bare_again : {A : Type 0} (xs : List (Lined A)) → map bare (map bare xs) ≡ map bare xs
bare_again xs = mapped_again bare (λ x. refl) xs

-- workstations
home_again : (w home : Option (List ℕ)) → or_home (or_home w home) home ≡ or_home w home
home_again (Some w) home = refl
home_again None None = refl
home_again None (Some h) = refl

own_test : (names : List (List ℕ)) (home : Option (List ℕ)) (n : List ℕ) (b : Bool) → has_name names n ≡ b
    → normal_pred names home (normal_pred names home (record { ws = None; name = n; part = part.Plain }))
    ≡ normal_pred names home (record { ws = None; name = n; part = part.Plain })
unfolding normal_pred
own_test names home n true h = rw h refl
own_test names None n false h = rw h refl
own_test names (Some w) n false h = rw h refl

pred_by : (names : List (List ℕ)) (home ws : Option (List ℕ)) (n : List ℕ) (q : PredPart)
    → normal_pred names home (normal_pred names home (record { ws = ws; name = n; part = q }))
    ≡ normal_pred names home (record { ws = ws; name = n; part = q })
unfolding normal_pred
pred_by names home None n part.Plain = own_test names home n (has_name names n) refl
pred_by names home (Some w) n part.Plain = refl
pred_by names None None n part.All = refl
pred_by names (Some h) None n part.All = refl
pred_by names home (Some w) n part.All = refl
pred_by names None None n (part.Job j) = refl
pred_by names (Some h) None n (part.Job j) = refl
pred_by names home (Some w) n (part.Job j) = refl

pred_again : (names : List (List ℕ)) (home : Option (List ℕ)) (p : Pred)
    → normal_pred names home (normal_pred names home p) ≡ normal_pred names home p
pred_again names home p = pred_by names home p.ws p.name p.part

need_again : (own : Option (List ℕ)) (n : Need) → normal_need own (normal_need own n) ≡ normal_need own n
unfolding normal_need
need_again own n = λ i. record { units = unless_again 1 n.units i; ws = home_again n.ws own i; name = n.name }

-- clauses: the ten kinds of a normal form
abbrev Blocks : List (List ℕ) → Option (List ℕ) → Option (List ℕ) → List Clause → List Clause
Blocks names home own cs =
    those once.At cs ++ (those once.Until cs ++ (those once.Deadline cs ++ (those once.Priority cs
    ++ (those once.Limit cs ++ (those once.CarryForward cs
    ++ (follows_of (map (normal_pred names home) (flat_map preds_in cs))
    ++ (needs_of (map (normal_need own) (flat_map needs_in cs))
    ++ (prompt_of (flat_map prompts_in cs) ++ opens_of (flat_map files_in cs)))))))))

kinds_cut : {B : Type 0} (choose : List Clause → List B)
    → ((xs ys : List Clause) → choose (xs ++ ys) ≡ choose xs ++ choose ys)
    → (names : List (List ℕ)) (home own : Option (List ℕ)) (cs : List Clause) (A B1 C D E F G H I J : List B)
    → choose (those once.At cs) ≡ A → choose (those once.Until cs) ≡ B1 → choose (those once.Deadline cs) ≡ C
    → choose (those once.Priority cs) ≡ D → choose (those once.Limit cs) ≡ E
    → choose (those once.CarryForward cs) ≡ F
    → choose (follows_of (map (normal_pred names home) (flat_map preds_in cs))) ≡ G
    → choose (needs_of (map (normal_need own) (flat_map needs_in cs))) ≡ H
    → choose (prompt_of (flat_map prompts_in cs)) ≡ I → choose (opens_of (flat_map files_in cs)) ≡ J
    → choose (Blocks names home own cs) ≡ A ++ (B1 ++ (C ++ (D ++ (E ++ (F ++ (G ++ (H ++ (I ++ J))))))))
kinds_cut choose cuts names home own cs A B1 C D E F G H I J a b c d e f g h i j =
    ten_parts choose cuts (those once.At cs) (those once.Until cs) (those once.Deadline cs) (those once.Priority cs)
    (those once.Limit cs) (those once.CarryForward cs) (follows_of (map (normal_pred names home) (flat_map preds_in cs)))
    (needs_of (map (normal_need own) (flat_map needs_in cs))) (prompt_of (flat_map prompts_in cs))
    (opens_of (flat_map files_in cs)) A B1 C D E F G H I J a b c d e f g h i j

once_cut : (k : Once) (names : List (List ℕ)) (home own : Option (List ℕ)) (cs : List Clause) (A B C D E F : List Clause)
    → those k (those once.At cs) ≡ A → those k (those once.Until cs) ≡ B → those k (those once.Deadline cs) ≡ C
    → those k (those once.Priority cs) ≡ D → those k (those once.Limit cs) ≡ E
    → those k (those once.CarryForward cs) ≡ F
    → those k (Blocks names home own cs) ≡ A ++ (B ++ (C ++ (D ++ (E ++ (F ++ [])))))
once_cut k names home own cs A B C D E F a b c d e f =
    kinds_cut (λ xs. those k xs) (λ xs ys. filter-append (is_of k) xs ys) names home own cs A B C D E F [] [] [] [] a b c d e f
    (no_follows k (map (normal_pred names home) (flat_map preds_in cs)))
    (no_needs k (map (normal_need own) (flat_map needs_in cs))) (no_prompts k (flat_map prompts_in cs))
    (no_opens k (flat_map files_in cs))

once_again : (k : Once) (names : List (List ℕ)) (home own : Option (List ℕ)) (cs : List Clause)
    → those k (Blocks names home own cs) ≡ those k cs
once_again once.At names home own cs =
    once_cut once.At names home own cs (those once.At cs) [] [] [] [] [] (pick once.At once.At cs)
    (pick once.At once.Until cs) (pick once.At once.Deadline cs) (pick once.At once.Priority cs)
    (pick once.At once.Limit cs) (pick once.At once.CarryForward cs) ∙ append-nil (those once.At cs)
once_again once.Until names home own cs =
    once_cut once.Until names home own cs [] (those once.Until cs) [] [] [] [] (pick once.Until once.At cs)
    (pick once.Until once.Until cs) (pick once.Until once.Deadline cs) (pick once.Until once.Priority cs)
    (pick once.Until once.Limit cs) (pick once.Until once.CarryForward cs) ∙ append-nil (those once.Until cs)
once_again once.Deadline names home own cs =
    once_cut once.Deadline names home own cs [] [] (those once.Deadline cs) [] [] [] (pick once.Deadline once.At cs)
    (pick once.Deadline once.Until cs) (pick once.Deadline once.Deadline cs) (pick once.Deadline once.Priority cs)
    (pick once.Deadline once.Limit cs) (pick once.Deadline once.CarryForward cs) ∙ append-nil (those once.Deadline cs)
once_again once.Priority names home own cs =
    once_cut once.Priority names home own cs [] [] [] (those once.Priority cs) [] [] (pick once.Priority once.At cs)
    (pick once.Priority once.Until cs) (pick once.Priority once.Deadline cs) (pick once.Priority once.Priority cs)
    (pick once.Priority once.Limit cs) (pick once.Priority once.CarryForward cs) ∙ append-nil (those once.Priority cs)
once_again once.Limit names home own cs =
    once_cut once.Limit names home own cs [] [] [] [] (those once.Limit cs) [] (pick once.Limit once.At cs)
    (pick once.Limit once.Until cs) (pick once.Limit once.Deadline cs) (pick once.Limit once.Priority cs)
    (pick once.Limit once.Limit cs) (pick once.Limit once.CarryForward cs) ∙ append-nil (those once.Limit cs)
once_again once.CarryForward names home own cs =
    once_cut once.CarryForward names home own cs [] [] [] [] [] (those once.CarryForward cs)
    (pick once.CarryForward once.At cs) (pick once.CarryForward once.Until cs)
    (pick once.CarryForward once.Deadline cs) (pick once.CarryForward once.Priority cs)
    (pick once.CarryForward once.Limit cs) (pick once.CarryForward once.CarryForward cs)
    ∙ append-nil (those once.CarryForward cs)

preds_again : (names : List (List ℕ)) (home own : Option (List ℕ)) (cs : List Clause)
    → flat_map preds_in (Blocks names home own cs) ≡ map (normal_pred names home) (flat_map preds_in cs)
preds_again names home own cs =
    kinds_cut (λ xs. flat_map preds_in xs) (λ xs ys. flat_map-append preds_in xs ys) names home own cs [] [] [] [] [] []
    (map (normal_pred names home) (flat_map preds_in cs)) [] [] [] (preds_once once.At cs) (preds_once once.Until cs)
    (preds_once once.Deadline cs) (preds_once once.Priority cs) (preds_once once.Limit cs)
    (preds_once once.CarryForward cs) (preds_follows (map (normal_pred names home) (flat_map preds_in cs)))
    (preds_needs (map (normal_need own) (flat_map needs_in cs))) (preds_prompts (flat_map prompts_in cs))
    (preds_opens (flat_map files_in cs))
    ∙ append-nil (map (normal_pred names home) (flat_map preds_in cs))

needs_again : (names : List (List ℕ)) (home own : Option (List ℕ)) (cs : List Clause)
    → flat_map needs_in (Blocks names home own cs) ≡ map (normal_need own) (flat_map needs_in cs)
needs_again names home own cs =
    kinds_cut (λ xs. flat_map needs_in xs) (λ xs ys. flat_map-append needs_in xs ys) names home own cs [] [] [] [] [] []
    [] (map (normal_need own) (flat_map needs_in cs)) [] [] (needs_once once.At cs) (needs_once once.Until cs)
    (needs_once once.Deadline cs) (needs_once once.Priority cs) (needs_once once.Limit cs)
    (needs_once once.CarryForward cs) (needs_follows (map (normal_pred names home) (flat_map preds_in cs)))
    (needs_needs (map (normal_need own) (flat_map needs_in cs))) (needs_prompts (flat_map prompts_in cs))
    (needs_opens (flat_map files_in cs))
    ∙ append-nil (map (normal_need own) (flat_map needs_in cs))

prompts_again : (names : List (List ℕ)) (home own : Option (List ℕ)) (cs : List Clause)
    → flat_map prompts_in (Blocks names home own cs) ≡ flat_map prompts_in cs
prompts_again names home own cs =
    kinds_cut (λ xs. flat_map prompts_in xs) (λ xs ys. flat_map-append prompts_in xs ys) names home own cs [] [] [] [] []
    [] [] [] (flat_map prompts_in cs) [] (prompts_once once.At cs) (prompts_once once.Until cs)
    (prompts_once once.Deadline cs) (prompts_once once.Priority cs) (prompts_once once.Limit cs)
    (prompts_once once.CarryForward cs) (prompts_follows (map (normal_pred names home) (flat_map preds_in cs)))
    (prompts_needs (map (normal_need own) (flat_map needs_in cs))) (prompts_prompts (flat_map prompts_in cs))
    (prompts_opens (flat_map files_in cs))
    ∙ append-nil (flat_map prompts_in cs)

files_again : (names : List (List ℕ)) (home own : Option (List ℕ)) (cs : List Clause)
    → flat_map files_in (Blocks names home own cs) ≡ flat_map files_in cs
files_again names home own cs =
    kinds_cut (λ xs. flat_map files_in xs) (λ xs ys. flat_map-append files_in xs ys) names home own cs [] [] [] [] [] []
    [] [] [] (flat_map files_in cs) (files_once once.At cs) (files_once once.Until cs) (files_once once.Deadline cs)
    (files_once once.Priority cs) (files_once once.Limit cs) (files_once once.CarryForward cs)
    (files_follows (map (normal_pred names home) (flat_map preds_in cs)))
    (files_needs (map (normal_need own) (flat_map needs_in cs))) (files_prompts (flat_map prompts_in cs))
    (files_opens (flat_map files_in cs))

blocks_again : (names : List (List ℕ)) (home own : Option (List ℕ)) (cs : List Clause)
    → Blocks names home own (Blocks names home own cs) ≡ Blocks names home own cs
blocks_again names home own cs =
    let preds : map (normal_pred names home) (flat_map preds_in (Blocks names home own cs)) ≡ map (normal_pred names home) (flat_map preds_in cs) =
    ap (map (normal_pred names home)) (preds_again names home own cs)
    ∙ mapped_again (normal_pred names home) (pred_again names home) (flat_map preds_in cs)
    in
    let needs : map (normal_need own) (flat_map needs_in (Blocks names home own cs)) ≡ map (normal_need own) (flat_map needs_in cs) =
    ap (map (normal_need own)) (needs_again names home own cs)
    ∙ mapped_again (normal_need own) (need_again own) (flat_map needs_in cs)
    in
    λ i. once_again once.At names home own cs i
    ++ (once_again once.Until names home own cs i ++ (once_again once.Deadline names home own cs i
    ++ (once_again once.Priority names home own cs i ++ (once_again once.Limit names home own cs i
    ++ (once_again once.CarryForward names home own cs i
    ++ (follows_of (preds i) ++ (needs_of (needs i)
    ++ (prompt_of (prompts_again names home own cs i) ++ opens_of (files_again names home own cs i)))))))))

clauses_again : (names : List (List ℕ)) (home own : Option (List ℕ)) (cs : List Clause)
    → normal_clauses names home own (normal_clauses names home own cs) ≡ normal_clauses names home own cs
unfolding normal_clauses
clauses_again names home own cs = blocks_again names home own cs

-- a list of clauses of an object whose workstations are the same again
lined_again : (names : List (List ℕ)) (h1 h2 o1 o2 : Option (List ℕ)) (cs : List Clause) → h1 ≡ h2 → o1 ≡ o2
    → all_unlined (normal_clauses names h1 o1 (items (all_unlined (normal_clauses names h2 o2 cs))))
    ≡ all_unlined (normal_clauses names h2 o2 cs)
lined_again names h1 h2 o1 o2 cs eh eo =
    (λ i. all_unlined (normal_clauses names (eh i) (eo i) (items_unlined (normal_clauses names h2 o2 cs) i)))
    ∙ ap (λ xs. all_unlined xs) (clauses_again names h2 o2 cs)

-- entries
entry_again : (names : List (List ℕ)) (h1 h2 : Option (List ℕ)) (e : Lined EntryDef) → h1 ≡ h2
    → normal_entry names h1 (normal_entry names h2 e) ≡ normal_entry names h2 e
unfolding normal_entry
entry_again names h1 h2 e eh =
    let own : or_home (or_home e.item.ws h2) h1 ≡ or_home e.item.ws h2 =
    ap (λ h. or_home (or_home e.item.ws h2) h) eh ∙ home_again e.item.ws h2
    in
    λ i. unlined (record {
      ws = own i;
      name = e.item.name;
      work = e.item.work;
      clauses = lined_again names h1 h2 (or_home (or_home e.item.ws h2) h1) (or_home e.item.ws h2) (items e.item.clauses) eh own i;
    })

entries_again : (names : List (List ℕ)) (h1 h2 : Option (List ℕ)) → h1 ≡ h2 → (es : List (Lined EntryDef))
    → map (normal_entry names h1) (map (normal_entry names h2) es) ≡ map (normal_entry names h2) es
entries_again names h1 h2 eh [] = refl
entries_again names h1 h2 eh (e ∷ es) = λ i. entry_again names h1 h2 e eh i ∷ entries_again names h1 h2 eh es i

names_again : (names : List (List ℕ)) (home : Option (List ℕ)) (es : List (Lined EntryDef))
    → entry_names (map (normal_entry names home) es) ≡ entry_names es
unfolding normal_entry
names_again names home [] = refl
names_again names home (e ∷ es) = ap (λ ns. e.item.name ∷ ns) (names_again names home es)

-- streams
schedule_again : (master : Option (List ℕ)) (s : Lined ScheduleDef)
    → normal_schedule master (normal_schedule master s) ≡ normal_schedule master s
unfolding normal_schedule
schedule_again master s =
    let home = or_home s.item.ws master in
    let names = entry_names s.item.entries in
    let same : or_home home master ≡ home = home_again s.item.ws master in
    let all : map (normal_entry (entry_names (map (normal_entry names home) s.item.entries)) (or_home home master)) (map (normal_entry names home) s.item.entries)
    ≡ map (normal_entry names home) s.item.entries =
    ap (λ ns. map (normal_entry ns (or_home home master)) (map (normal_entry names home) s.item.entries)) (names_again names home s.item.entries)
    ∙ entries_again names (or_home home master) home same s.item.entries
    in
    λ i. unlined (record {
      ws = same i;
      name = s.item.name;
      free = s.item.free;
      ons = bare_again s.item.ons i;
      clauses = lined_again [] (or_home home master) home (or_home home master) home (items s.item.clauses) same same i;
      entries = all i;
    })

master_again : (ds : List (Lined DomainDef)) → master_of (map bare ds) ≡ master_of ds
unfolding master_of
master_again ds = ap only (managers ds)
  where
    managers : (xs : List (Lined DomainDef)) → filter_map manager_of (map bare xs) ≡ filter_map manager_of xs
    managers [] = refl
    managers (x ∷ xs) = ap (λ ms. cons_option (manager_of x) ms) (managers xs)

schedules_again : (m1 m2 : Option (List ℕ)) (ss : List (Lined ScheduleDef)) → m1 ≡ m2
    → map (normal_schedule m1) (map (normal_schedule m2) ss) ≡ map (normal_schedule m2) ss
schedules_again m1 m2 ss e =
    ap (λ m. map (normal_schedule m) (map (normal_schedule m2) ss)) e
    ∙ mapped_again (normal_schedule m2) (schedule_again m2) ss

option_again : {A : Type 0} (f : Option A → Option A) → ((o : Option A) → f (f o) ≡ f o) → (o : Option (Lined A))
    → option_map unlined (f (item_of (option_map unlined (f (item_of o))))) ≡ option_map unlined (f (item_of o))
option_again f h o =
    ap (λ x. option_map unlined (f x)) (item_unlined (f (item_of o))) ∙ ap (λ x. option_map unlined x) (h (item_of o))

pub normal_again : (d : Defs) → normal (normal d) ≡ normal d
unfolding normal
normal_again d =
    λ i. record {
      last_line = 0;
      start = option_again (λ o. unless 360 o) (λ o. unless_again 360 o) d.start i;
      zone = option_again (λ o. unless_utc o) utc_again d.zone i;
      carry = option_again (λ o. unless_yes o) yes_again d.carry i;
      cpus = cpus_again d.cpus i;
      domains = bare_again d.domains i;
      calendars = bare_again d.calendars i;
      prompts = bare_again d.prompts i;
      resources = bare_again d.resources i;
      jobs = bare_again d.jobs i;
      schedules = schedules_again (master_of (map bare d.domains)) (master_of d.domains) d.schedules (master_again d.domains) i;
    }
