-- What restoring answers.
use Rattle.std.proofs.Common.{◌≡◌, ◌∷◌, ◌<◌, ◌+◌, ◌++◌, ◌∙◌, [], ℕ, Bool, List, None, Option, Some, ap, arith, cond, false}
use Rattle.std.proofs.Common.{drop, drop-cons, get_or, length, option_map, refl, subst, suc, sym, take, take_all}
use Rattle.std.proofs.Common.{◌≤◌, true}
use Rattle.std.proofs.lemmas.Grind.{take_at_read}
use Rattle.std.proofs.lemmas.List.{drop_all}
use Rattle.std.specs.Prelude.{nat_lt}
use Rattle.model.specs.Types.{Entry, LiveJob, Net}
use Rattle.model.specs.Network.{node_count}
use Rattle.model.specs.History.{list_of, view_of}
use Rattle.model.specs.PresentNet.{net_by, present_net}
use Rattle.model.specs.Facts.{commands}
use Rattle.model.specs.Restore as model
use Rattle.model.specs.Restore.{first_wrong, first_wrong_from, follows_on, restore_fault}
use Rattle.model.specs.Sessions.{restarted}
use Rattle.mailman_core.specs.Mails.{acked_by, is_up}
use Rattle.ready_index.specs.declared.index.Index.{Index}
use Rattle.agent_core.specs.Standing.{IsStanding, Tracks}
use Rattle.agent_core.specs.Nodes.{NodeState, session_in}
use Rattle.agent_core.specs.Restoring.{IsEntryDue, IsNew, IsRestoreDue}
use Rattle.agent_core.specs.Steps.{HoldsOneMore}

-- no entry switches nothing
pub nothing_switched : (net : Net) → present_net net (view_of []) ≡ net
unfolding net_by list_of commands
nothing_switched net = refl

pub restore_outside : (net : Net) (me : ℕ) (kept : List Entry) → nat_lt me (node_count net) ≡ false
    → restore_fault net me kept ≡ Some model.RestoreFault.NotInNetwork
unfolding restore_fault
restore_outside net me kept e = rw e refl

-- within the network the entries decide
pub restore_inside : (net : Net) (me : ℕ) (kept : List Entry) → nat_lt me (node_count net) ≡ true
    → restore_fault net me kept ≡ option_map model.RestoreFault.NotNext (first_wrong net kept)
unfolding restore_fault
restore_inside net me kept e = rw e refl

pub restore_accepted : (net : Net) (me : ℕ) (kept : List Entry) → nat_lt me (node_count net) ≡ true
    → first_wrong net kept ≡ None → restore_fault net me kept ≡ None
restore_accepted net me kept e h =
    restore_inside net me kept e ∙ ap (option_map model.RestoreFault.NotNext) h

pub restore_refused : (net : Net) (me : ℕ) (kept : List Entry) (f : Option model.RestoreFault)
    → nat_lt me (node_count net) ≡ true → IsEntryDue (first_wrong net kept) f → IsRestoreDue net me kept f
restore_refused net me kept None e h = tt
restore_refused net me kept (Some f) e h = restore_inside net me kept e ∙ h

-- one entry more
pub new_next : (net : Net) (me : ℕ) (kept : List Entry) (e : Entry) (old new : NodeState) → IsNew net me kept old
    → HoldsOneMore old e new → IsNew net me (kept ++ e ∷ []) new
new_next net me kept e old new h k =
    record {
      net_ = k.net_ ∙ h.net_;
      me_ = k.me_ ∙ h.me_;
      kept_ = k.kept_ ∙ ap (λ (l : List Entry). l ++ e ∷ []) h.kept_;
      mail_ = k.mail_ ∙ h.mail_;
      live_ = k.live_ ∙ h.live_;
    }

-- an entry that follows on is passed
pub wrong_later : (net : Net) (before : List Entry) (i : ℕ) (e : Entry) (left : List Entry)
    → follows_on net before e ≡ true
    → first_wrong_from net before i (e ∷ left) ≡ first_wrong_from net (before ++ e ∷ []) (i + 1) left
wrong_later net before i e left h =
    ap (λ (b : Bool). cond b (first_wrong_from net (before ++ e ∷ []) (i + 1) left) (Some i)) h

-- one that does not is the first wrong one
pub wrong_here : (net : Net) (before : List Entry) (i : ℕ) (e : Entry) (left : List Entry)
    → follows_on net before e ≡ false → first_wrong_from net before i (e ∷ left) ≡ Some i
wrong_here net before i e left h =
    ap (λ (b : Bool). cond b (first_wrong_from net (before ++ e ∷ []) (i + 1) left) (Some i)) h

-- a blank node stands for no entries
pub blank_stands : (net present : Net) (me : ℕ) (kept : List Entry) (index : Option Index) (live : List LiveJob)
    → me < node_count net → present ≡ net → kept ≡ [] → index ≡ None → IsStanding net present me kept index live None
blank_stands net present me kept index live h p k i =
    record {
      inside = h;
      here = p ∙ sym (ap (λ (l : List Entry). present_net net (view_of l)) k ∙ nothing_switched net);
      tracks = subst (λ (x : Option Index). Tracks x kept me) (sym i) tt;
      idles = tt;
    }

-- a walk over the entries
take_more : (kept : List Entry) (i : ℕ) (e : Entry) → i < length kept → e ≡ get_or kept i e
    → take (i + 1) kept ≡ take i kept ++ e ∷ []
take_more kept i e h is =
    (take_at_read kept i e h).1 ∙ ap (λ (d : Entry). take i kept ++ d ∷ []) (sym is)

drop_here : (kept : List Entry) (i : ℕ) (e : Entry) → i < length kept → e ≡ get_or kept i e
    → drop i kept ≡ e ∷ drop (i + 1) kept
drop_here kept i e h is =
    drop-cons kept i e h ∙ ap (λ (d : Entry). d ∷ drop (suc i) kept) (sym is)
    ∙ ap (λ (k : ℕ). e ∷ drop k kept) (more i)
  where
    more : (k : ℕ) → suc k ≡ k + 1
    more k = omega arith

pub walk_new : (net : Net) (me : ℕ) (kept : List Entry) (i : ℕ) (e : Entry) (old new : NodeState) → i < length kept
    → e ≡ get_or kept i e → IsNew net me (take i kept) old → HoldsOneMore old e new
    → IsNew net me (take (i + 1) kept) new
walk_new net me kept i e old new h is k one =
    subst (λ (l : List Entry). IsNew net me l new) (sym (take_more kept i e h is))
    (new_next net me (take i kept) e old new k one)

-- what the node says of the entry, said of the list
follows_here : (net : Net) (me : ℕ) (kept : List Entry) (i : ℕ) (e : Entry) (old : NodeState) (b : Bool)
    → IsNew net me (take i kept) old → b ≡ follows_on old.net old.kept e → follows_on net (take i kept) e ≡ b
follows_here net me kept i e old b k f =
    sym
    (f ∙ ap (λ (n : Net). follows_on n old.kept e) k.net_
    ∙ ap (λ (l : List Entry). follows_on net l e) k.kept_)

abbrev pub LeftFrom : Net → List Entry → ℕ → Type 0
LeftFrom net kept i = first_wrong net kept ≡ first_wrong_from net (take i kept) i (drop i kept)

pub walk_left : (net : Net) (me : ℕ) (kept : List Entry) (i : ℕ) (e : Entry) (old : NodeState) (b : Bool)
    → i < length kept → e ≡ get_or kept i e → IsNew net me (take i kept) old → b ≡ follows_on old.net old.kept e
    → b ≡ true → LeftFrom net kept i → LeftFrom net kept (i + 1)
walk_left net me kept i e old b h is k f t left =
    left ∙ ap (first_wrong_from net (take i kept) i) (drop_here kept i e h is)
    ∙ wrong_later net (take i kept) i e (drop (i + 1) kept) (follows_here net me kept i e old b k f ∙ t)
    ∙ ap (λ (l : List Entry). first_wrong_from net l (i + 1) (drop (i + 1) kept)) (sym (take_more kept i e h is))

pub walk_wrong : (net : Net) (me : ℕ) (kept : List Entry) (i : ℕ) (e : Entry) (old : NodeState) (b : Bool)
    (f : Option model.RestoreFault) → i < length kept → e ≡ get_or kept i e → IsNew net me (take i kept) old
    → b ≡ follows_on old.net old.kept e → b ≡ false → LeftFrom net kept i → IsEntryDue (Some i) f
    → IsEntryDue (first_wrong net kept) f
walk_wrong net me kept i e old b f h is k n t left due =
    subst (λ (o : Option ℕ). IsEntryDue o f)
    (sym
    (left ∙ ap (first_wrong_from net (take i kept) i) (drop_here kept i e h is)
    ∙ wrong_here net (take i kept) i e (drop (i + 1) kept) (follows_here net me kept i e old b k n ∙ t))) due

pub walk_end : (net : Net) (kept : List Entry) (i : ℕ) → length kept ≤ i → LeftFrom net kept i
    → first_wrong net kept ≡ None
walk_end net kept i h left =
    left ∙ ap (first_wrong_from net (take i kept) i) (drop_all i kept h)

pub walk_all : (net : Net) (me : ℕ) (kept : List Entry) (i : ℕ) (node : NodeState) → length kept ≤ i
    → IsNew net me (take i kept) node → IsNew net me kept node
walk_all net me kept i node h k = subst (λ (l : List Entry). IsNew net me l node) (take_all i kept h) k

pub walk_begins : (net : Net) (kept : List Entry) → LeftFrom net kept 0
unfolding first_wrong
walk_begins net kept = refl

-- a new node's session
pub new_session : (net : Net) (me : ℕ) (kept : List Entry) (node : NodeState) → IsNew net me kept node
    → session_in node ≡ restarted
new_session net me kept node h =
    λ i. record { acked = acked_by (h.mail_ i); links = is_up (h.mail_ i); live = h.live_ i }

-- a new node is one over its own network
pub self_new : (net : Net) (me : ℕ) (kept : List Entry) (node : NodeState) → IsNew net me kept node
    → IsNew node.net node.me kept node
self_new net me kept node h =
    record { net_ = refl; me_ = refl; kept_ = h.kept_; mail_ = h.mail_; live_ = h.live_ }

-- what is restored
pub restored : (net : Net) (me : ℕ) (kept list : List Entry) (begun taken last : NodeState)
    → nat_lt me (node_count net) ≡ true → list ≡ kept → IsNew net me [] begun
    → IsNew begun.net begun.me list taken → first_wrong begun.net list ≡ None → last ≡ taken
    → IsNew net me kept last × (restore_fault net me kept ≡ None)
restored net me kept list begun taken last inside is h k none same = (
  record {
    net_ = (λ i. (same i).net) ∙ k.net_ ∙ h.net_;
    me_ = (λ i. (same i).me) ∙ k.me_ ∙ h.me_;
    kept_ = (λ i. (same i).kept) ∙ k.kept_ ∙ is;
    mail_ = (λ i. (same i).mail) ∙ k.mail_;
    live_ = (λ i. (same i).live) ∙ k.live_;
  },
  restore_accepted net me kept inside
      (sym (ap (λ (n : Net). first_wrong n kept) h.net_)
      ∙ sym (ap (first_wrong begun.net) is) ∙ none),
)

pub not_restored : (net : Net) (me : ℕ) (kept list : List Entry) (begun : NodeState) (f : Option model.RestoreFault)
    → nat_lt me (node_count net) ≡ true → list ≡ kept → IsNew net me [] begun
    → IsEntryDue (first_wrong begun.net list) f → IsRestoreDue net me kept f
not_restored net me kept list begun f inside is h due =
    restore_refused net me kept f inside
    (subst (λ (o : Option ℕ). IsEntryDue o f)
    (ap (first_wrong begun.net) is ∙ ap (λ (n : Net). first_wrong n kept) h.net_) due)
