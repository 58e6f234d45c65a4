-- The frames that stand in the bytes of one.
use Rattle.std.proofs.Common.{[], codes, length, length-append, lit≤, ltb-true, ◌++◌, ◌≡◌, ◌≤◌, ◌∙◌, ◌∷◌, Contains, List, None, append-nil, append_assoc, ap, arith, refl, subst, suc, sym, true, zero, ℕ}
use Rattle.std.specs.List.{AllByRecursion, list_all}
use Rattle.std.specs.Prelude.{nat_lt}
use Rattle.lemmas.proofs.Booleans.{and_parts}
use Rattle.lemmas.proofs.Numbers.{le_true}
use Rattle.mail_frames.specs.declared.frames.Frame.{Frame}
use Rattle.mail_frames.specs.Spelling.{IsFrame, frame_bytes}
use Rattle.mail_frames.specs.Streams.{AreAllWhole, AreFramesOf, Begins, IsBadAt, IsLongest, spelling}
use Rattle.mail_frames.proofs.Spelled.{frame_length, no_frame_begins_another}
use Rattle.model.specs.Everything.{everything}
use Rattle.model.specs.Ranges.{IsU8}
use Rattle.model.specs.Spelling.{entry_bytes}
use Rattle.worked_night.specs.Happened.{mail, order, plan}

-- a frame has bytes
no_bytes : (f : Frame) (more : List ℕ) → [] ≡ frame_bytes f ++ more → ⊥
no_bytes f more e = omega (arith, ap length e, length-append (frame_bytes f) more, frame_length f)

begins_one : (f : Frame) → IsFrame f → Begins (frame_bytes f)
begins_one f is = (f ∷ [], [], (is, tt), refl)

pub good_one : (f : Frame) → IsFrame f → IsBadAt (frame_bytes f) None
good_one f is = begins_one f is

longest_one : (f : Frame) → IsFrame f → IsLongest (frame_bytes f) (frame_bytes f)
longest_one f is = record {
  rest = [];
  stands = sym (append-nil (frame_bytes f));
  begins = begins_one f is;
  longest = λ longer more split begins. omega (arith, ap length split, length-append longer more);
}

whole_one : (f : Frame) → IsFrame f → AreAllWhole (frame_bytes f) (f ∷ [])
whole_one f is = record {
  rest = [];
  each = (is, tt);
  stand = sym (append-nil (frame_bytes f ++ []) ∙ append-nil (frame_bytes f));
  last = λ g more its e. no_bytes g more e;
}

pub are_one : (f : Frame) → IsFrame f → AreFramesOf (frame_bytes f) (f ∷ [])
are_one f is = (frame_bytes f, longest_one f is, whole_one f is)

-- no other stands there
in_one : (d g : Frame) → Contains (d ∷ []) g → d ≡ g
in_one d g (zero, low, e) = e
in_one d g (suc k, low, e) = absurd (omega (arith, low))

nothing_more : (ds : List Frame) (rest more : List ℕ) → [] ≡ (spelling ds ++ rest) ++ more → ds ≡ []
nothing_more [] rest more e = refl
nothing_more (d ∷ ds) rest more e =
    absurd
    (no_bytes d (spelling ds ++ (rest ++ more))
    (e ∙ append_assoc (frame_bytes d ++ spelling ds) rest more ∙ append_assoc (frame_bytes d) (spelling ds) (rest ++ more)))

pub only_one : (f : Frame) → IsFrame f → (frames : List Frame) → AreFramesOf (frame_bytes f) frames → (g : Frame)
    → Contains frames g → f ≡ g
only_one f is [] are g among = let low = among.1 in absurd (omega (arith, low))
only_one f is (d ∷ ds) are g among =
    let rest : List ℕ = are.2.rest in
    let more : List ℕ = are.1.rest in
    let split : frame_bytes f ++ [] ≡ frame_bytes d ++ ((spelling ds ++ rest) ++ more) =
    append-nil (frame_bytes f) ∙ are.1.stands ∙ ap (λ (b : List ℕ). b ++ more) are.2.stand
    ∙ ap (λ (b : List ℕ). b ++ more) (append_assoc (frame_bytes d) (spelling ds) rest)
    ∙ append_assoc (frame_bytes d) (spelling ds ++ rest) more in
    let same = no_frame_begins_another f d [] ((spelling ds ++ rest) ++ more) is are.2.each.0 split in
    same.0 ∙ in_one d g (alone (nothing_more ds rest more same.1) among)
  where
    alone : ds ≡ [] → Contains (d ∷ ds) g → Contains (d ∷ []) g
    alone none there = subst (λ (l : List Frame). Contains (d ∷ l) g) none there

pub none_whole : (frames : List Frame) → AreFramesOf [] frames → (g : Frame) → Contains frames g → ⊥
none_whole [] are g among = let low = among.1 in absurd (omega (arith, low))
none_whole (d ∷ ds) are g among =
    no_bytes d ((spelling ds ++ are.2.rest) ++ are.1.rest)
    (are.1.stands ∙ ap (λ (b : List ℕ). b ++ are.1.rest) are.2.stand
    ∙ ap (λ (b : List ℕ). b ++ are.1.rest) (append_assoc (frame_bytes d) (spelling ds) are.2.rest)
    ∙ append_assoc (frame_bytes d) (spelling ds ++ are.2.rest) are.1.rest)

-- the frames of the night
all_bytes : (bs : List ℕ) → list_all (λ b. nat_lt b 256) bs ≡ true → AllByRecursion IsU8 bs
all_bytes [] h = tt
all_bytes (b ∷ bs) h =
    let both = and_parts (nat_lt b 256) (list_all (λ b. nat_lt b 256) bs) h in (ltb-true b 256 both.0, all_bytes bs both.1)

plan_bytes : list_all (λ b. nat_lt b 256) (entry_bytes plan) ≡ true
unfolding everything
plan_bytes = refl

plan_short : length (entry_bytes plan) ≤ 4194304
unfolding everything
plan_short = le_true (length (entry_bytes plan)) 4194304 refl

pub mail_frame : IsFrame mail
mail_frame = (all_bytes (entry_bytes plan) plan_bytes, plan_short)

pub order_frame : IsFrame order
unfolding lib.Utf8.encode
order_frame = ((codes "jnextplan 01/01/1970", (refl, refl)), lit≤ tt)
