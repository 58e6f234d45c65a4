-- Traces that differ in what was told and changed nothing.
use Rattle.std.proofs.Common.{[], ◌++◌, ◌≡◌, ◌∙◌, ◌∷◌, ◌⊎◌, None, ap, inl, inr, refl, sym}
use Rattle.std.specs.List.{cons_option}
use Rattle.outside.specs.Calls.{Sent}
use Rattle.node_inputs.specs.Traces.{Event, Trace, kept, kept_by, reading_of, readings}
use Rattle.network_runs.proofs.Members.{IsIn}

-- an end or a file that was told
abbrev pub IsTelling : Event → Type 0
IsTelling (Event.Reports answer) = Unit {0}
IsTelling (Event.Looks path answer) = Unit {0}
IsTelling _ = ⊥

abbrev pub LikeEvent : Event → Event → Type 0
LikeEvent a b = (a ≡ b) ⊎ (IsTelling a × IsTelling b)

abbrev pub Like : Trace → Trace → Type 0
Like [] [] = Unit {0}
Like (a ∷ s) (b ∷ t) = LikeEvent a b × Like s t
Like _ _ = ⊥

pub like_self : (t : Trace) → Like t t
like_self [] = tt
like_self (a ∷ t) = (inl refl, like_self t)

pub like_turned : (s t : Trace) → Like s t → Like t s
like_turned [] [] h = tt
like_turned (a ∷ s) (b ∷ t) h = (turned h.0, like_turned s t h.1)
  where
    turned : LikeEvent a b → LikeEvent b a
    turned (inl e) = inl (sym e)
    turned (inr k) = inr (k.1, k.0)
like_turned [] (b ∷ t) h = absurd h
like_turned (a ∷ s) [] h = absurd h

pub like_on : (s t u v : Trace) → Like s t → Like u v → Like (s ++ u) (t ++ v)
like_on [] [] u v h k = k
like_on (a ∷ s) (b ∷ t) u v h k = (h.0, like_on s t u v h.1 k)
like_on [] (b ∷ t) u v h k = absurd h
like_on (a ∷ s) [] u v h k = absurd h

telling_keeps : (a : Event) → IsTelling a → kept_by a ≡ None
telling_keeps (Event.Reports answer) h = refl
telling_keeps (Event.Looks path answer) h = refl
telling_keeps _ h = absurd h

telling_reads : (a : Event) → IsTelling a → reading_of a ≡ None
telling_reads (Event.Reports answer) h = refl
telling_reads (Event.Looks path answer) h = refl
telling_reads _ h = absurd h

telling_sends : {P : Type 0} (a : Event) (call : Sent) → IsTelling a → a ≡ Event.Sends call → P
telling_sends (Event.Reports answer) call h q = cc
telling_sends (Event.Looks path answer) call h q = cc
telling_sends _ call h q = absurd h

pub like_kept : (s t : Trace) → Like s t → kept s ≡ kept t
like_kept [] [] h = refl
like_kept (a ∷ s) (b ∷ t) h = λ i. cons_option (first h.0 i) (like_kept s t h.1 i)
  where
    first : LikeEvent a b → kept_by a ≡ kept_by b
    first (inl e) = ap kept_by e
    first (inr k) = telling_keeps a k.0 ∙ sym (telling_keeps b k.1)
like_kept [] (b ∷ t) h = absurd h
like_kept (a ∷ s) [] h = absurd h

pub like_readings : (s t : Trace) → Like s t → readings s ≡ readings t
like_readings [] [] h = refl
like_readings (a ∷ s) (b ∷ t) h = λ i. cons_option (first h.0 i) (like_readings s t h.1 i)
  where
    first : LikeEvent a b → reading_of a ≡ reading_of b
    first (inl e) = ap reading_of e
    first (inr k) = telling_reads a k.0 ∙ sym (telling_reads b k.1)
like_readings [] (b ∷ t) h = absurd h
like_readings (a ∷ s) [] h = absurd h

pub like_sends : (s t : Trace) → Like s t → (call : Sent) → IsIn (Event.Sends call) s → IsIn (Event.Sends call) t
like_sends [] [] h call k = k
like_sends (a ∷ s) (b ∷ t) h call k = go h.0 k (like_sends s t h.1 call)
  where
    go : LikeEvent a b → ((a ≡ Event.Sends call) ⊎ IsIn (Event.Sends call) s)
        → (IsIn (Event.Sends call) s → IsIn (Event.Sends call) t) → IsIn (Event.Sends call) (b ∷ t)
    go (inl e) (inl q) later = inl (sym e ∙ q)
    go (inr l) (inl q) later = telling_sends a call l.0 q
    go e (inr i) later = inr (later i)
like_sends [] (b ∷ t) h call k = absurd h
like_sends (a ∷ s) [] h call k = absurd h
