-- One file, one answer.
use Rattle.std.proofs.Common.{◌≡◌, ◌≢◌, ◌∙◌, inl, inr, ◌<◌, ◌++◌, ◌∷◌, [], ℕ, zero, suc, true, false, List, length, map, take}
use Rattle.std.proofs.Common.{refl, sym, ap, subst, arith, length-append, Ok, Some, Result, slice_get}
use Rattle.std.proofs.lemmas.Bool.{cases_lt, false≢true}
use Rattle.std.proofs.lemmas.List.{take_all, take-map}
use Rattle.std.proofs.lemmas.Option.{slice_get_within}
use Rattle.lemmas.proofs.Lists.{take_less}
use Rattle.model.specs.Types.{Entry, Net}
use Rattle.model.specs.Restore.{first_wrong, follows_on}
use Rattle.outside.specs.Kept.{Bodies}
use Rattle.entry_codec.specs.declared.EntryFault.{EntryFault}
use Rattle.entry_codec.specs.Entries.{entry_in}
use Rattle.message_file.specs.Files.{place_behind, head_of, records, IsFileOf}
use Rattle.message_file.specs.Refusals.{RefusesFile}
use Rattle.message_file.specs.State.{IsOwn, KeepsOf}
use Rattle.message_file.specs.declared.attaches.AttachFault.{AttachFault}
use Rattle.message_file.specs.declared.attaches.AttachFault.TheVariants.{NotAMessageFile, OtherOwner, Disk}
use Rattle.message_file.proofs.Again.{not_refused, one_refusal}
use Rattle.message_file.proofs.Reading.{kept_is}
use Rattle.node_restart.specs.Restarting.{AreHeld, IsFirstWrong, IsNoFile, IsRefused, IsWrongAt, Restarts}
use Rattle.node_restart.proofs.Wrong.{each_of, get_front}

abbrev oks : List Entry → List (Result Entry EntryFault)
oks entries = map Ok entries

-- lists that are read alike
same_entries : (a b : List Entry) → oks a ≡ oks b → a ≡ b
same_entries [] [] is = refl
same_entries [] (e ∷ b) is = absurd (cc is)
same_entries (d ∷ a) [] is = absurd (cc is)
same_entries (d ∷ a) (e ∷ b) is =
    let one : d ≡ e = cc is in
    let others : oks a ≡ oks b = cc is in
    ap (λ (x : Entry). x ∷ a) one ∙ ap (λ (l : List Entry). e ∷ l) (same_entries a b others)

-- the entry of a body, between those before it and those behind
record Under (bodies : Bodies) (entries : List Entry) (i : ℕ) (body : List ℕ) : Type 0 where
  entry : Entry
  rest : List Entry
  stands : entries ≡ take i entries ++ entry ∷ rest
  read : entry_in body ≡ Ok entry

under_more : (b : List ℕ) (bodies : Bodies) (e : Entry) (entries : List Entry) (i : ℕ) (body : List ℕ)
    → Under bodies entries i body → Under (b ∷ bodies) (e ∷ entries) (suc i) body
under_more b bodies e entries i body u =
    record { entry = u.entry; rest = u.rest; stands = ap (λ (l : List Entry). e ∷ l) u.stands; read = u.read }

under_first : (b : List ℕ) (bodies : Bodies) (e : Entry) (entries : List Entry) (body : List ℕ) → b ≡ body
    → entry_in b ≡ Ok e → Under (b ∷ bodies) (e ∷ entries) zero body
under_first b bodies e entries body same first =
    record { entry = e; rest = entries; stands = refl; read = subst (λ (l : List ℕ). entry_in l ≡ Ok e) same first }

under : (bodies : Bodies) (entries : List Entry) (i : ℕ) (body : List ℕ) → map entry_in bodies ≡ oks entries
    → slice_get bodies i ≡ Some body → Under bodies entries i body
under [] entries i body m is = absurd (cc is)
under (b ∷ bodies) [] i body m is = absurd (cc m)
under (b ∷ bodies) (e ∷ entries) zero body m is = under_first b bodies e entries body (cc is) (cc m)
under (b ∷ bodies) (e ∷ entries) (suc i) body m is =
    under_more b bodies e entries i body (under bodies entries i body (cc m) is)

-- a body that follows on is not the first wrong one
module _ (net : Net) (bodies : Bodies) (entries : List Entry) (i n : ℕ) (lt : i < n) (held : AreHeld net entries (take n bodies)) where
  not_wrong : IsFirstWrong net i bodies → ⊥
  not_wrong w =
      let u = under (take n bodies) entries i w.body held.are.read (get_front n i bodies w.body lt w.stands) in
      let same : w.before ≡ take i entries =
      same_entries w.before (take i entries)
      (sym w.held.are.read
      ∙ ap (map entry_in) (sym (take_less i n bodies (omega (arith, lt))))
      ∙ sym (take-map entry_in i (take n bodies))
      ∙ ap (take i) held.are.read ∙ take-map Ok i entries) in
      let good : follows_on net (take i entries) u.entry ≡ true =
      each_of net (take i entries) u.entry u.rest (ap (first_wrong net) (sym u.stands) ∙ held.follow) in
      let bad : follows_on net (take i entries) u.entry ≡ false =
      subst (λ (l : List Entry). follows_on net l u.entry ≡ false) same (w.wrong u.entry u.read) in
      false≢true (sym bad ∙ good)

-- there is one first wrong body
one_wrong : (net : Net) (bodies : Bodies) (a b : ℕ) → IsFirstWrong net a bodies → IsFirstWrong net b bodies → a ≡ b
one_wrong net bodies a b v w =
    elim (cases_lt a b) [
      | inl lt ↦ absurd (not_wrong net bodies w.before a b lt w.held v)
      | inr le ↦ elim (cases_lt b a) [
        | inl lt ↦ absurd (not_wrong net bodies v.before b a lt v.held w)
        | inr ge ↦ omega (arith, le, ge)
      ]
    ]

one_gate : (net : Net) (bodies : Bodies) (a b : ℕ) → IsWrongAt net a bodies → IsWrongAt net b bodies → a ≡ b
one_gate net bodies a b v w =
    v.gate ∙ ap (λ (n : ℕ). place_behind (take n bodies)) (one_wrong net bodies v.number w.number v.first w.first) ∙ sym w.gate

-- where every body follows on, none is wrong
held_not_wrong : (net : Net) (bodies : Bodies) (entries : List Entry) (place : ℕ) → AreHeld net entries bodies
    → IsWrongAt net place bodies → ⊥
held_not_wrong net bodies entries place held w =
    let lt : w.number < length bodies = slice_get_within bodies w.number w.first.body w.first.stands in
    not_wrong net bodies entries w.number (length bodies) lt
    (subst (AreHeld net entries) (sym (take_all (length bodies) bodies (omega arith))) held) w.first

-- a file of its owner is refused for the disk alone
module _ (me : ℕ) (file : List ℕ) where
  own_not_refused : (bodies : Bodies) (fault : AttachFault) → IsFileOf me file bodies → fault ≢ Disk
      → RefusesFile me fault (Some file) → ⊥
  own_not_refused bodies fault is other refuses = other (not_refused me file bodies fault is refuses)

  pub own_is_file : (bodies : Bodies) (place : ℕ) → IsFileOf me file bodies → IsNoFile me place file → ⊥
  own_is_file bodies place is none = elim none.1 [
    | inl refuses ↦ own_not_refused bodies (NotAMessageFile place) is (λ e. cc e) refuses
    | inr refuses ↦ own_not_refused bodies (OtherOwner place) is (λ e. cc e) refuses
  ]

  same_fault : (a b : AttachFault) → a ≢ Disk → b ≢ Disk → RefusesFile me a (Some file) → RefusesFile me b (Some file) → a ≡ b
  same_fault a b not_a not_b first second = one_refusal me file a b first second not_a not_b

  one_no_file : (a b : ℕ) → IsNoFile me a file → IsNoFile me b file → a ≡ b
  one_no_file a b first second = elim first.1 [
    | inl f ↦ elim second.1 [
      | inl s ↦ cc (same_fault (NotAMessageFile a) (NotAMessageFile b) (λ e. cc e) (λ e. cc e) f s)
      | inr s ↦ absurd (cc (same_fault (NotAMessageFile a) (OtherOwner b) (λ e. cc e) (λ e. cc e) f s))
    ]
    | inr f ↦ elim second.1 [
      | inl s ↦ absurd (cc (same_fault (OtherOwner a) (NotAMessageFile b) (λ e. cc e) (λ e. cc e) f s))
      | inr s ↦ cc (same_fault (OtherOwner a) (OtherOwner b) (λ e. cc e) (λ e. cc e) f s)
    ]
  ]

-- no bytes are no file
filled : (me : ℕ) (file : List ℕ) (bodies : Bodies) → IsFileOf me file bodies → file ≡ [] → ⊥
filled me file bodies is none =
    omega
    (arith, ap length (sym none ∙ is.stands), length-append (head_of me ++ records bodies) (is.gate ∷ is.rest))

pub own_filled : (me : ℕ) (file : List ℕ) → IsOwn me file → file ≡ [] → ⊥
own_filled me file own none = filled me file own.0 own.1 none

-- what a file keeps is one list
one_kept : (me : ℕ) (file : List ℕ) (a b : Bodies) → KeepsOf me (Some file) (Some a) → KeepsOf me (Some file) (Some b) → a ≡ b
one_kept me file a b (inl is) (inl so) = sym (kept_is me file a is) ∙ kept_is me file b so
one_kept me file a b (inl is) (inr none) = absurd (filled me file a is none.0)
one_kept me file a b (inr none) (inl so) = absurd (filled me file b so none.0)
one_kept me file a b (inr none) (inr also) = none.1 ∙ sym also.1

module _ (net : Net) (me : ℕ) (file : List ℕ) where
  pub one_list : (a b : List Entry) → Restarts net me a file → Restarts net me b file → a ≡ b
  one_list a b first second =
      same_entries a b
      (sym first.2.are.read ∙ ap (map entry_in) (one_kept me file first.0 second.0 first.1 second.1) ∙ second.2.are.read)

  pub one_place : (a b : ℕ) → IsRefused net me a file → IsRefused net me b file → a ≡ b
  one_place a b (inl first) (inl second) = one_no_file me file a b first second
  one_place a b (inl first) (inr second) = absurd (own_is_file me file second.0 a second.1 first)
  one_place a b (inr first) (inl second) = absurd (own_is_file me file first.0 b first.1 second)
  one_place a b (inr first) (inr second) =
      one_gate net second.0 a b
      (subst (IsWrongAt net a) (one_kept me file first.0 second.0 (inl first.1) (inl second.1)) first.2) second.2

  pub not_both : (entries : List Entry) (place : ℕ) → Restarts net me entries file → IsRefused net me place file → ⊥
  not_both entries place restarts (inl none) = elim restarts.1 [
    | inl is ↦ own_is_file me file restarts.0 place is none
    | inr empty ↦ none.0 empty.0
  ]
  not_both entries place restarts (inr wrong) =
      held_not_wrong net wrong.0 entries place
      (subst (AreHeld net entries) (one_kept me file restarts.0 wrong.0 restarts.1 (inl wrong.1)) restarts.2) wrong.2
