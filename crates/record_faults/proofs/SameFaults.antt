-- The faults of a row go by names and counts, whatever the order of the names.
use Rattle.std.proofs.Common.{◌≡◌, ℕ, ◌+◌, Bool, ◌&&◌, not, List, [], ◌∷◌, ◌++◌, length, Option, Some, None, refl, ap, ◌∙◌, nat_le}
use Rattle.std.specs.Option.{option_map_or}
use Rattle.record_rows.specs.declared.rows.Row.{Row}
use Rattle.record_rows.specs.declared.rows.Row.TheVariants as row
use Rattle.record_rows.specs.declared.rows.DepRow.TheVariants as dep
use Rattle.record_faults.specs.Known.{Station, Key, has_key, has_name, Above, above_of, Named, is_next}
use Rattle.record_faults.specs.declared.kinds.ScriptKind.{ScriptKind}
use Rattle.record_faults.specs.Faults.{Placed, items_around, fault_of, fault_from, first_fault}
use Rattle.record_faults.specs.Faults.{Items, is_duplicate, is_beyond, has_no_plan, lacks_item, lacks_resource, fault_by}
use Rattle.record_faults.specs.Noted.{IsSame, IsSameNamed}

same_duplicate : (a b : Above) (r : Row) → IsSame a b → is_duplicate a r ≡ is_duplicate b r
unfolding is_duplicate
same_duplicate a b (row.Station x) s = s.stations x.name
same_duplicate a b (row.Resource w n t) s = s.resources (w, n)
same_duplicate a b (row.Prompt n t) s = s.prompts n
same_duplicate a b (row.CarryForward c) s = s.carry
same_duplicate a b (row.Stream x) s = s.streams (x.ws, x.name)
same_duplicate a b (row.Job x) s = s.jobs x.name
same_duplicate a b row.Skipped s = refl
same_duplicate a b row.NoForm s = refl
same_duplicate a b row.Network s = refl
same_duplicate a b row.Definitions s = refl
same_duplicate a b row.Plan s = refl
same_duplicate a b row.Steps s = refl
same_duplicate a b (row.Master n) s = refl
same_duplicate a b (row.Part p) s = refl
same_duplicate a b (row.Dep d) s = refl
same_duplicate a b (row.Step t) s = refl

same_beyond : (a b : Above) (r : Row) → IsSame a b → is_beyond a r ≡ is_beyond b r
unfolding is_beyond
same_beyond a b (row.Station x) s = ap (nat_le 256) s.ws_lines
same_beyond a b (row.Resource w n t) s = ap (nat_le 65535) s.resource_lines
same_beyond a b (row.Prompt n t) s = ap (nat_le 65535) s.prompt_lines
same_beyond a b (row.Dep d) s = ap (nat_le 64) s.deps
same_beyond a b (row.CarryForward c) s = refl
same_beyond a b (row.Stream x) s = refl
same_beyond a b (row.Job x) s = refl
same_beyond a b row.Skipped s = refl
same_beyond a b row.NoForm s = refl
same_beyond a b row.Network s = refl
same_beyond a b row.Definitions s = refl
same_beyond a b row.Plan s = refl
same_beyond a b row.Steps s = refl
same_beyond a b (row.Master n) s = refl
same_beyond a b (row.Part p) s = refl
same_beyond a b (row.Step t) s = refl

same_no_plan : (a b : Above) (r : Row) → IsSame a b → has_no_plan a r ≡ has_no_plan b r
same_no_plan a b r s =
    ap (λ n. is_next r && nat_le n a.taken) s.plans ∙ ap (λ n. is_next r && nat_le b.plans n) s.taken

pub same_fault : (all : List Station) (a b : Above) (i c e : Bool) (r : Row) → IsSame a b
    → fault_by all a i c e r ≡ fault_by all b i c e r
same_fault all a b i c e r s =
    let d = same_duplicate a b r s in
    let y = same_beyond a b r s in
    let p = same_no_plan a b r s in
    cc

-- the items that a row names, likewise
pub record HasSame (a b : Items) : Type 0 where
  pub jobs : (n : List ℕ) → has_name a.jobs n ≡ has_name b.jobs n
  pub resources : (k : Key) → has_key a.resources k ≡ has_key b.resources k
  pub prompts : (n : List ℕ) → has_name a.prompts n ≡ has_name b.prompts n

same_resource : (a b : List Key) (ws : Option (List ℕ)) (r : List ℕ) → ((k : Key) → has_key a k ≡ has_key b k)
    → lacks_resource a ws r ≡ lacks_resource b ws r
same_resource a b None r s = refl
same_resource a b (Some w) r s = ap not (s (w, r))

pub same_items : (a b : Items) (ws : Option (List ℕ)) (r : Row) → HasSame a b → lacks_item a ws r ≡ lacks_item b ws r
unfolding lacks_item
same_items a b ws (row.Dep (dep.FollowsOwn j)) s = ap not (s.jobs j)
same_items a b ws (row.Dep (dep.Needs n x)) s = same_resource a.resources b.resources ws x s.resources
same_items a b ws (row.Dep (dep.AskGlobal n)) s = ap not (s.prompts n)
same_items a b ws (row.Dep (dep.At t)) s = refl
same_items a b ws (row.Dep (dep.Until t o)) s = refl
same_items a b ws (row.Dep (dep.Deadline t)) s = refl
same_items a b ws (row.Dep (dep.FollowsStream w n)) s = refl
same_items a b ws (row.Dep (dep.FollowsJob w n j)) s = refl
same_items a b ws (row.Dep (dep.AskOwn t)) s = refl
same_items a b ws (row.Dep (dep.Opens t)) s = refl
same_items a b ws (row.Station x) s = refl
same_items a b ws (row.Resource w n t) s = refl
same_items a b ws (row.Prompt n t) s = refl
same_items a b ws (row.CarryForward c) s = refl
same_items a b ws (row.Stream x) s = refl
same_items a b ws (row.Job x) s = refl
same_items a b ws row.Skipped s = refl
same_items a b ws row.NoForm s = refl
same_items a b ws row.Network s = refl
same_items a b ws row.Definitions s = refl
same_items a b ws row.Plan s = refl
same_items a b ws row.Steps s = refl
same_items a b ws (row.Master n) s = refl
same_items a b ws (row.Part p) s = refl
same_items a b ws (row.Step t) s = refl

-- and so do the faults of a whole record
same_fault_of : (a b : Named) (p : Placed) → IsSameNamed a b → fault_of a p ≡ fault_of b p
unfolding fault_of
same_fault_of a b p s =
    let items : HasSame (items_around a p) (items_around b p) =
    record { jobs = λ n. refl; resources = s.resources; prompts = s.prompts } in
    let named = same_items (items_around a p) (items_around b p) (above_of p.above).ws p.here items in
    let all = s.stations in
    cc

by_first : (f g : Option ScriptKind) (line : ℕ) (x y : Option (ℕ × ScriptKind)) → f ≡ g → x ≡ y
    → option_map_or (λ k. Some (line, k)) f x ≡ option_map_or (λ k. Some (line, k)) g y
by_first f g line x y e h = cc

same_from : (a b : Named) (above below : List Row) → IsSameNamed a b → fault_from a above below ≡ fault_from b above below
same_from a b above [] s = refl
same_from a b above (r ∷ below) s =
    by_first (fault_of a (record { above = above; here = r; below = below }))
    (fault_of b (record { above = above; here = r; below = below })) (1 + length above)
    (fault_from a (above ++ r ∷ []) below) (fault_from b (above ++ r ∷ []) below)
    (same_fault_of a b (record { above = above; here = r; below = below }) s) (same_from a b (above ++ r ∷ []) below s)

pub same_first : (a b : Named) (rows : List Row) → IsSameNamed a b → first_fault a rows ≡ first_fault b rows
unfolding first_fault
same_first a b [] s = refl
same_first a b (r ∷ rows) s = same_from a b [] (r ∷ rows) s
