-- What traces keep, try and refuse, of their fronts and of two together.
use Rattle.std.proofs.Common.{◌≡◌, ℕ, ◌≤◌, List, [], ◌∷◌, ◌++◌, length, take, refl, sym, ◌∙◌, ap, arith, length-append}
use Rattle.std.proofs.Common.{drop, take-append-drop}
use Rattle.std.proofs.lemmas.List.Elements.{filter_map-append}
use Rattle.model.specs.Types.{Entry}
use Rattle.node_inputs.specs.Traces.{Event, Trace, kept, kept_by, refusals, refused_by, tried, tried_by}

pub kept-append : (front back : Trace) → kept (front ++ back) ≡ kept front ++ kept back
kept-append front back = filter_map-append kept_by front back

pub tried-append : (front back : Trace) → tried (front ++ back) ≡ tried front ++ tried back
tried-append front back = filter_map-append tried_by front back

pub refusals-append : (front back : Trace) → refusals (front ++ back) ≡ refusals front ++ refusals back
refusals-append front back = filter_map-append refused_by front back

-- where none was refused, all that were tried were kept
pub all_kept : (trace : Trace) → refusals trace ≡ [] → tried trace ≡ kept trace
all_kept [] h = refl
all_kept (Event.Keeps e ∷ rest) h = ap (λ (l : List Entry). e ∷ l) (all_kept rest h)
all_kept (Event.Refuses e why ∷ rest) h = cc
all_kept (Event.Reads t ∷ rest) h = all_kept rest h
all_kept (Event.Comes a ∷ rest) h = all_kept rest h
all_kept (Event.Reports r ∷ rest) h = all_kept rest h
all_kept (Event.Looks p a ∷ rest) h = all_kept rest h
all_kept (Event.Starts c ∷ rest) h = all_kept rest h
all_kept (Event.Kills j n ∷ rest) h = all_kept rest h
all_kept (Event.Sends c ∷ rest) h = all_kept rest h
all_kept (Event.Replies c ∷ rest) h = all_kept rest h
all_kept (Event.Asks c ∷ rest) h = all_kept rest h

-- where nothing was tried, nothing was kept and none was refused
pub none_kept : (trace : Trace) → tried trace ≡ [] → (kept trace ≡ []) × (refusals trace ≡ [])
none_kept [] h = (refl, refl)
none_kept (Event.Keeps e ∷ rest) h = cc
none_kept (Event.Refuses e why ∷ rest) h = cc
none_kept (Event.Reads t ∷ rest) h = none_kept rest h
none_kept (Event.Comes a ∷ rest) h = none_kept rest h
none_kept (Event.Reports r ∷ rest) h = none_kept rest h
none_kept (Event.Looks p a ∷ rest) h = none_kept rest h
none_kept (Event.Starts c ∷ rest) h = none_kept rest h
none_kept (Event.Kills j n ∷ rest) h = none_kept rest h
none_kept (Event.Sends c ∷ rest) h = none_kept rest h
none_kept (Event.Replies c ∷ rest) h = none_kept rest h
none_kept (Event.Asks c ∷ rest) h = none_kept rest h

-- nothing was kept in a front of what kept nothing
front_empty : {X : Type 0} (xs ys : List X) → xs ++ ys ≡ [] → xs ≡ []
front_empty [] ys h = refl
front_empty (x ∷ xs) ys h = cc

front_keeps : (k : ℕ) (trace : Trace) → kept (take k trace) ++ kept (drop k trace) ≡ kept trace
front_keeps k trace = sym (kept-append (take k trace) (drop k trace)) ∙ ap kept (take-append-drop k trace)

pub front_none : (k : ℕ) (trace : Trace) → kept trace ≡ [] → kept (take k trace) ≡ []
front_none k trace none = front_empty (kept (take k trace)) (kept (drop k trace)) (front_keeps k trace ∙ none)

pub front_fewer : (k : ℕ) (trace : Trace) → length (kept (take k trace)) ≤ length (kept trace)
front_fewer k trace =
    omega (arith, ap length (front_keeps k trace), length-append (kept (take k trace)) (kept (drop k trace)))
