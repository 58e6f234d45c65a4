-- What a second service of one disk begins with.
use Rattle.std.proofs.Common.{arith, drop, take-append-drop, IfSome, [], length, ℕ, ◌++◌, ◌≡◌, ◌∙◌, ◌∷◌, List, Ok, Option, Result, Some, ap, inl, inr, map, refl, subst, suc, sym, take, zero}
use Rattle.std.proofs.lemmas.List.{map-append}
use Rattle.std.proofs.lemmas.List.Elements.{All-from_recursion, recursion_from_All}
use Rattle.std.specs.List.{All, AllByRecursion}
use Rattle.model.specs.Spelling.{entry_bytes}
use Rattle.model.specs.Types.{Entry, Net}
use Rattle.entry_codec.specs.Entries.{entry_in}
use Rattle.entry_codec.specs.declared.EntryFault.{EntryFault}
use Rattle.entry_codec.proofs.Whole.{whole_again}
use Rattle.outside.specs.Kept.{Bodies, IsKept}
use Rattle.message_file.specs.Files.{kept_of}
use Rattle.message_file.proofs.Reading.{kept_is}
use Rattle.node_inputs.specs.Keeping.{IsLeft, IsLeftAtEnd, IsLeftWith, IsWritten, bodies}
use Rattle.node_inputs.specs.Traces.{Event, Trace, kept, tried}
use Rattle.node_inputs.proofs.Fronts.{tried-append}
use Rattle.node_restart.specs.Restarting.{Restarts}
use Rattle.node_service.specs.Joining.{GoesOn}
use Rattle.node_service.specs.Serving.{told_kept}

abbrev okay : Entry → Result Entry EntryFault
okay e = Ok e

-- what is written is read again
all_read : (es : List Entry) → AllByRecursion IsWritten es → map entry_in (bodies es) ≡ map okay es
all_read [] w = refl
all_read (e ∷ es) w =
    ap (λ (r : Result Entry EntryFault). r ∷ map entry_in (bodies es)) (whole_again (entry_bytes e) e w.0.fit w.0.in_range refl)
    ∙ ap (λ (l : List (Result Entry EntryFault)). okay e ∷ l) (all_read es w.1)

front_written : (n : ℕ) (es : List Entry) → AllByRecursion IsWritten es → AllByRecursion IsWritten (take n es)
front_written zero es w = tt
front_written (suc n) [] w = tt
front_written (suc n) (e ∷ es) w = (w.0, front_written n es w.1)

nothing_kept : kept_of [] ≡ []
unfolding kept_of
nothing_kept = refl

same_list : (xs ys : List Entry) → map okay xs ≡ map okay ys → xs ≡ ys
same_list [] [] h = refl
same_list [] (y ∷ ys) h = cc
same_list (x ∷ xs) [] h = cc
same_list (x ∷ xs) (y ∷ ys) h = two (same_head h) (same_list xs ys (same_rest h))
  where
    same_head : okay x ∷ map okay xs ≡ okay y ∷ map okay ys → x ≡ y
    same_head q = cc

    same_rest : okay x ∷ map okay xs ≡ okay y ∷ map okay ys
        → map okay xs ≡ map okay ys
    same_rest q = cc

    two : x ≡ y → xs ≡ ys → x ∷ xs ≡ y ∷ ys
    two a b = ap (λ (e : Entry). e ∷ xs) a ∙ ap (λ (l : List Entry). y ∷ l) b

-- the entries of a file are those that its bodies are read as
file_read : (net : Net) (me : ℕ) (entries : List Entry) (file : List ℕ) → Restarts net me entries file
    → map entry_in (kept_of file) ≡ map okay entries
file_read net me entries file (b, inl is, held) = ap (map entry_in) (kept_is me file b is) ∙ held.are.read
file_read net me entries file (b, inr none, held) =
    ap (map entry_in) (ap kept_of none.0 ∙ nothing_kept ∙ sym none.1) ∙ held.are.read

own_read : (net : Net) (me : ℕ) (entries : List Entry) (file : List ℕ) → Restarts net me entries file
    → map entry_in (bodies entries) ≡ map okay entries
own_read net me entries file (b, is, held) = ap (map entry_in) (sym held.are.written) ∙ held.are.read

entries_are : (net : Net) (me : ℕ) (held entries took : List Entry) (before file : List ℕ)
    → Restarts net me held before → AllByRecursion IsWritten took → kept_of file ≡ bodies held ++ bodies took
    → Restarts net me entries file → entries ≡ held ++ took
entries_are net me held entries took before file first written left second = same_list entries (held ++ took) reads
  where
    reads : map okay entries ≡ map okay (held ++ took)
    reads =
        sym (file_read net me entries file second) ∙ ap (map entry_in) left ∙ map-append entry_in (bodies held) (bodies took)
        ∙ ap (λ (l : List (Result Entry EntryFault)). l ++ map entry_in (bodies took)) (own_read net me held before first)
        ∙ ap (λ (l : List (Result Entry EntryFault)). map okay held ++ l) (all_read took written)
        ∙ sym (map-append okay held took)

pub goes_on : (net : Net) (me least : ℕ) (held entries : List Entry) (trace : Trace) (before file : List ℕ)
    → Restarts net me held before → All IsWritten (tried trace) → IsLeftWith least trace (Some (bodies held)) (kept_of file)
    → Restarts net me entries file → GoesOn held trace least entries
goes_on net me least held entries trace before file first written left second = (
  left.0,
  left.1,
  left.2,
  entries_are net me held entries (take left.0 (tried trace)) before file first
      (front_written left.0 (tried trace) (recursion_from_All IsWritten (tried trace) written)) left.3 second,
)

-- what was told of all is told of a front
first_of : (xs ys : List Entry) → AllByRecursion IsWritten (xs ++ ys) → AllByRecursion IsWritten xs
first_of [] ys w = tt
first_of (x ∷ xs) ys w = (w.0, first_of xs ys w.1)

pub tried_front : (k : ℕ) (trace : Trace) → All IsWritten (tried trace) → All IsWritten (tried (take k trace))
tried_front k trace w =
    All-from_recursion IsWritten (tried (take k trace))
    (first_of (tried (take k trace)) (tried (drop k trace))
    (subst (λ (l : List Entry). AllByRecursion IsWritten l) (sym (ap tried (take-append-drop k trace)) ∙ tried-append (take k trace) (drop k trace))
    (recursion_from_All IsWritten (tried trace) w)))

-- what was kept was tried
kept_written : (trace : Trace) → AllByRecursion IsWritten (tried trace) → AllByRecursion IsWritten (kept trace)
kept_written [] w = tt
kept_written (Event.Keeps e ∷ rest) w = (w.0, kept_written rest w.1)
kept_written (Event.Refuses e why ∷ rest) w = kept_written rest w.1
kept_written (Event.Reads t ∷ rest) w = kept_written rest w
kept_written (Event.Comes a ∷ rest) w = kept_written rest w
kept_written (Event.Reports r ∷ rest) w = kept_written rest w
kept_written (Event.Looks p a ∷ rest) w = kept_written rest w
kept_written (Event.Starts c ∷ rest) w = kept_written rest w
kept_written (Event.Kills j n ∷ rest) w = kept_written rest w
kept_written (Event.Sends c ∷ rest) w = kept_written rest w
kept_written (Event.Replies c ∷ rest) w = kept_written rest w
kept_written (Event.Asks c ∷ rest) w = kept_written rest w

pub goes_just : (net : Net) (me : ℕ) (held entries : List Entry) (trace : Trace) (before file : List ℕ)
    → Restarts net me held before → All IsWritten (tried trace) → kept_of file ≡ bodies (held ++ kept trace)
    → Restarts net me entries file → entries ≡ held ++ kept trace
goes_just net me held entries trace before file first written left second =
    entries_are net me held entries (kept trace) before file first
    (kept_written trace (recursion_from_All IsWritten (tried trace) written))
    (left ∙ map-append entry_bytes held (kept trace)) second

-- the same where it is told
pub first_held : (net : Net) (me : ℕ) (held : List Entry) (told : Option (List ℕ)) (before : List ℕ) → told ≡ Some before
    → IfSome told (Restarts net me held) → Restarts net me held before
first_held net me held told before is h = subst (λ (o : Option (List ℕ)). IfSome o (Restarts net me held)) is h

pub left_held : (least : ℕ) (trace : Trace) (held : List Entry) (told : Option (List ℕ)) (before : List ℕ) (left : Bodies)
    → told ≡ Some before → IsLeftWith least trace (told_kept told held) left → IsLeftWith least trace (Some (bodies held)) left
left_held least trace held told before left is h =
    subst (λ (o : Option (List ℕ)). IsLeftWith least trace (told_kept o held) left) is h

pub end_held : (trace : Trace) (held : List Entry) (told : Option (List ℕ)) (before : List ℕ) (left : Bodies)
    → told ≡ Some before → IsLeftAtEnd trace (told_kept told held) left
    → IsLeftWith (length (kept trace)) trace (Some (bodies held)) left
end_held trace held told before left is h =
    subst (λ (o : Option (List ℕ)). IsLeftAtEnd trace (told_kept o held) left) is h

pub some_held : (trace : Trace) (held : List Entry) (told : Option (List ℕ)) (before : List ℕ) (left : Bodies)
    → told ≡ Some before → IsLeft trace (told_kept told held) left → IsLeftWith 0 trace (Some (bodies held)) left
some_held trace held told before left is h =
    let l : IsLeft trace (Some (bodies held)) left = subst (λ (o : Option (List ℕ)). IsLeft trace (told_kept o held) left) is h in
    (l.0, omega arith, l.1, l.2)

pub just_held : (all : List Entry) (told : Option (List ℕ)) (before : List ℕ) (left : Bodies) → told ≡ Some before
    → IsKept (told_kept told all) left → left ≡ bodies all
just_held all told before left is h = subst (λ (o : Option (List ℕ)). IsKept (told_kept o all) left) is h
