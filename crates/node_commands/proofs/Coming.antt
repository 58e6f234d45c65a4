-- What a service came to, by its parts.
use Rattle.std.proofs.Common.{[], ◌<◌, ◌≡◌, ◌≤◌, ◌∙◌, ◌∷◌, ℕ, Bool, List, None, Option, Some, ap, arith, bytes_eq, codes, false, get_or, inl, inr, length, nat_le, option_map, refl, subst, sym, true}
use Rattle.std.proofs.lemmas.Bool.Decides.{nat_tests}
use Rattle.lemmas.proofs.Options.{none_some, some_is}
use Rattle.outside.specs.Causes.{Rose}
use Rattle.outside.specs.Streams.{Stream}
use Rattle.syntax.specs.Numbers.{number_of}
use Rattle.node_commands.specs.Forms.{Request, ask_of, name_in, node_of, request_of, requested, service_in, service_of}
use Rattle.node_commands.specs.Services.{Asking, IsService, Serving, UnservedCallsFor}
use Rattle.node_commands.specs.Unread.{IsToldUnread, IsUnread}
use Rattle.node_commands.specs.declared.forms.Service.{Service}
use Rattle.node_commands.specs.declared.forms.Service.TheVariants.{Ask, Node}
use Rattle.node_commands.specs.declared.reading.Unread.{Unread}
use Rattle.node_commands.specs.declared.reading.Unread.TheVariants as unread

-- three words that ask for a service request it of the name
pub request_is : (word name last : List ℕ) (service : Service) (request : Request)
    → service_in (word ∷ name ∷ last ∷ []) ≡ Some service → request_of (word ∷ name ∷ last ∷ []) ≡ Some request
    → requested name last service ≡ request
unfolding service_in request_of
request_is word name last service request asked requests =
    some_is (sym (ap (λ (o : Option Service). option_map (requested name last) o) asked) ∙ requests)

-- what asks for a service are three words
pub is_three : (words : List (List ℕ)) (service : Service) → service_in words ≡ Some service → length words ≡ 3
unfolding service_in
is_three [] service asked = absurd (none_some asked)
is_three (a ∷ []) service asked = absurd (none_some asked)
is_three (a ∷ b ∷ []) service asked = absurd (none_some asked)
is_three (a ∷ b ∷ c ∷ []) service asked = refl
is_three (a ∷ b ∷ c ∷ d ∷ more) service asked = absurd (none_some asked)

short_words : (words : List (List ℕ)) (service : Service) → service_in words ≡ Some service → length words < 3 → ⊥
short_words words service asked few = let three = is_three words service asked in omega (arith, three, few)

long_words : (a b c d : List ℕ) (more : List (List ℕ)) (service : Service)
    → service_in (a ∷ b ∷ c ∷ d ∷ more) ≡ Some service → ⊥
long_words a b c d more service asked =
    let three : length (a ∷ b ∷ c ∷ d ∷ more) ≡ 3 = is_three (a ∷ b ∷ c ∷ d ∷ more) service asked in omega (arith, three)

-- the request, by the second and the third word
pub operands : (words : List (List ℕ)) (service : Service) (name last : List ℕ) (request : Request)
    → service_in words ≡ Some service → get_or words 1 name ≡ name → get_or words 2 last ≡ last
    → request_of words ≡ Some request → requested name last service ≡ request
operands [] service name last request asked is also requests = absurd (short_words [] service asked (omega arith))
operands (a ∷ []) service name last request asked is also requests =
    absurd (short_words (a ∷ []) service asked (omega arith))
operands (a ∷ b ∷ []) service name last request asked is also requests =
    absurd (short_words (a ∷ b ∷ []) service asked (omega arith))
operands (word ∷ n ∷ l ∷ []) service name last request asked is also requests =
    ap (λ (x : List ℕ). requested x last service) (sym is) ∙ ap (λ (x : List ℕ). requested n x service) (sym also)
    ∙ request_is word n l service request asked requests
operands (a ∷ b ∷ c ∷ d ∷ more) service name last request asked is also requests =
    absurd (long_words a b c d more service asked)

-- a command that is asked is short
asked_short : (word last : List ℕ) → service_of word last ≡ Some Ask → length last ≤ 4096
unfolding service_of
asked_short word last e = go (bytes_eq word (codes "node")) refl (bytes_eq word (codes "ask")) refl
  where
    of_node : (o : Option ℕ) → node_of o ≡ Some Ask → ⊥
    of_node None e = none_some e
    of_node (Some turns) e = cc

    of_ask : (b : Bool) → nat_le (length last) 4096 ≡ b → ask_of (length last) ≡ Some Ask → length last ≤ 4096
    of_ask true is f = grind (arith, nat_tests, is)
    of_ask false is f = absurd (none_some (sym (rw is refl) ∙ f))

    go : (n : Bool) → bytes_eq word (codes "node") ≡ n → (a : Bool) → bytes_eq word (codes "ask") ≡ a → length last ≤ 4096
    go true is a other = absurd (of_node (number_of 32 last) (sym (rw is refl) ∙ e))
    go false not true is = of_ask (nat_le (length last) 4096) refl (sym (rw (not, is) refl) ∙ e)
    go false not false other = absurd (none_some (sym (rw (not, other) refl) ∙ e))

pub command_short : (words : List (List ℕ)) (last : List ℕ) → service_in words ≡ Some Ask → get_or words 2 last ≡ last
    → length last ≤ 4096
unfolding service_in
command_short [] last asked is = absurd (none_some asked)
command_short (a ∷ []) last asked is = absurd (none_some asked)
command_short (a ∷ b ∷ []) last asked is = absurd (none_some asked)
command_short (word ∷ n ∷ l ∷ []) last asked is =
    subst (λ (x : List ℕ). length x ≤ 4096) is (asked_short word l asked)
command_short (a ∷ b ∷ c ∷ d ∷ more) last asked is = absurd (none_some asked)

-- a request is of its name
pub its_name : (name last : List ℕ) (service : Service) → name_in (requested name last service) ≡ name
its_name name last (Node turns) = refl
its_name name last Ask = refl

-- the same of another name of the request
pub same_request : {S : Serving} {A : Asking} {same but_link : Type 0} {old new : Option Stream} {source source' result : ℕ}
    {written written' : Option (List ℕ)} {sink sink' : ℕ} (a b : Request) → a ≡ b
    → IsService S A same but_link a old new source source' result written written' sink sink'
    → IsService S A same but_link b old new source source' result written written' sink sink'
same_request {S} {A} {same} {but_link} {old} {new} {source} {source'} {result} {written} {written'} {sink} {sink'} a b e h =
    subst (λ (r : Request). IsService S A same but_link r old new source source' result written written' sink sink') e h

-- why no definitions were read, and what was said of it
module _ (S : Serving) (A : Asking) (same but_link : Type 0) (request : Request) (old new : Option Stream)
    (source source' result : ℕ) (written written' : Option (List ℕ)) (sink sink' : ℕ) where
  pub service_unread : (why : Unread) → same → IsUnread why old new
      → (why ≡ unread.SourceFailed → Rose source source') → IsToldUnread why result written written' sink sink'
      → IsService S A same but_link request old new source source' result written written' sink sink'
  service_unread (unread.Refused r) all is rose told =
      IsService.unserved _ _ all (UnservedCallsFor.refused r is) told
  service_unread unread.TooLong all is rose told =
      IsService.unserved _ _ all (UnservedCallsFor.too_long is) told
  service_unread unread.SourceFailed all is rose told =
      IsService.silent all (inl (told.0, rose refl)) told.1
  service_unread unread.NoMemory all is rose told = IsService.silent all (inr told.0) told.1
