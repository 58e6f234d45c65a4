-- Kinds that no token has both of.
use Rattle.std.proofs.Common.{◌≡◌, ◌||◌, ◌&&◌, not, ◌==◌, ℕ, Bool, true, false, List, [], ◌∷◌, refl, ap, sym, ◌∙◌, arith}
use Rattle.std.specs.List.{list_all, list_any}
use Rattle.std.specs.Str.{bytes_eq}
use Rattle.std.proofs.lemmas.Slice.Eq.{bytes_eq-Decides}
use Rattle.std.proofs.lemmas.Bool.Decides.{nat_tests}
use Rattle.std.proofs.lemmas.Str.Ascii.{lowercase-lowercase}
use Rattle.lemmas.proofs.Booleans.{and_parts}
use Rattle.composer_parser.specs.Words.{lower, is_one_of}
use Rattle.composer_parser.specs.Rules.{is_rule, is_foreign_rule, are_like_rule, are_known, are_formed, parts_of}
use Rattle.composer_parser.specs.Kinds.{Shape, mark, quoted, word, Spelled, is_reserved, reserved_words, is, shape_is, word_is}
use Rattle.composer_parser.specs.Kinds.{a_word_but, a_date, a_rule, a_foreign_rule}
use Rattle.composer_parser.specs.Kinds.{Kind, keyword, a_mark, a_text, a_word, a_value, a_name, a_placed, a_scoped, a_pred}
use Rattle.composer_parser.specs.Kinds.{a_number, a_time, a_plus, an_offset}
use Rattle.composer_parser.specs.Groups.{Lead, letter, digit, sign, other, lead, same_lead, apart, group_of, kinds_apart}
use Rattle.composer_parser.specs.Groups.{Group, marks, texts, rules, foreign_rules, words, others, names, led, anything, word_in, shape_in}
use Rattle.composer_parser.specs.Reading.{is_any}
use Rattle.composer_parser.proofs.Leads.{name_in, placed_in, scoped_in, pred_in, in_names, number_in}
use Rattle.composer_parser.proofs.Leads.{time_in, plus_in, offset_in, date_in}

-- a word of a kind is in its group
word_in_group : (k : Kind) (w : List ℕ) → word_is k w ≡ true → word_in (group_of k) w ≡ true
word_in_group (keyword k) w h = h
word_in_group (a_mark c) w h = cc
word_in_group a_text w h = cc
word_in_group a_word w h = refl
word_in_group (a_word_but ks) w h = h
word_in_group a_value w h = refl
word_in_group a_name w h = name_in w h
word_in_group a_placed w h = in_names w (placed_in w h)
word_in_group a_scoped w h = in_names w (scoped_in w h)
word_in_group a_pred w h = in_names w (pred_in w h)
word_in_group a_number w h = number_in w h
word_in_group a_time w h = time_in w h
word_in_group a_date w h = date_in w h
word_in_group a_plus w h = plus_in w h
word_in_group an_offset w h = offset_in w h
word_in_group a_rule w h = cc
word_in_group a_foreign_rule w h = cc

shape_in_group : (k : Kind) (s : Shape) → shape_is k s ≡ true → shape_in (group_of k) s ≡ true
shape_in_group (keyword k) (word w) h = h
shape_in_group (keyword k) (mark c) h = cc
shape_in_group (keyword k) (quoted v) h = cc
shape_in_group (a_mark c) (mark d) h = h
shape_in_group (a_mark c) (word w) h = cc
shape_in_group (a_mark c) (quoted v) h = cc
shape_in_group a_text (quoted v) h = refl
shape_in_group a_text (mark c) h = cc
shape_in_group a_text (word w) h = cc
shape_in_group a_value s h = refl
shape_in_group a_word s h = refl
shape_in_group (a_word_but ks) (word w) h = h
shape_in_group a_rule (quoted v) h = h
shape_in_group a_foreign_rule (quoted v) h = h
shape_in_group a_name (word w) h = name_in w h
shape_in_group a_placed (word w) h = in_names w (placed_in w h)
shape_in_group a_scoped (word w) h = in_names w (scoped_in w h)
shape_in_group a_pred (word w) h = in_names w (pred_in w h)
shape_in_group a_number (word w) h = number_in w h
shape_in_group a_time (word w) h = time_in w h
shape_in_group a_date (word w) h = date_in w h
shape_in_group a_plus (word w) h = plus_in w h
shape_in_group an_offset (word w) h = offset_in w h
shape_in_group a_rule (word w) h = cc
shape_in_group a_foreign_rule (word w) h = cc
shape_in_group k (mark c) h = cc
shape_in_group k (quoted v) h = cc

same_is : (l m : Lead) → same_lead l m ≡ true → l ≡ m
same_is letter letter h = refl
same_is digit digit h = refl
same_is sign sign h = refl
same_is other other h = refl
same_is l m h = cc

same_self : (l : Lead) → same_lead l l ≡ true
same_self letter = refl
same_self digit = refl
same_self sign = refl
same_self other = refl

not_true : (b : Bool) → not b ≡ true → b ≡ true → ⊥
not_true b h k = cc

-- two leads of one word
two_leads : (l m x : Lead) → same_lead l x ≡ true → same_lead m x ≡ true → not (same_lead l m) ≡ true → ⊥
two_leads l m x a b n =
    not_true (same_lead l m) n (rw (same_is l x a, same_is m x b) (same_self x))

word_led : (k w : List ℕ) (l : Lead) → bytes_eq (lower w) k ≡ true → same_lead l (lead (lower w)) ≡ true
    → not (same_lead l (lead k)) ≡ true → ⊥
word_led k w l a b n =
    let same = (bytes_eq-Decides (lower w) k).0 a in
    not_true (same_lead l (lead k)) n (ap (λ u. same_lead l (lead u)) (sym same) ∙ b)

two_words : (j k w : List ℕ) → bytes_eq (lower w) j ≡ true → bytes_eq (lower w) k ≡ true
    → not (bytes_eq j k) ≡ true → ⊥
two_words j k w a b n =
    let first = (bytes_eq-Decides (lower w) j).0 a in
    let second = (bytes_eq-Decides (lower w) k).0 b in
    not_true (bytes_eq j k) n ((bytes_eq-Decides j k).1 (sym first ∙ second))

lower_lower : (w : List ℕ) → lower (lower w) ≡ lower w
lower_lower [] = refl
lower_lower (c ∷ w) = rw (lowercase-lowercase c, lower_lower w) refl

word_name : (k w : List ℕ) → bytes_eq (lower w) k ≡ true → word_in names w ≡ true
    → (is_reserved k || not (same_lead letter (lead k))) ≡ true → ⊥
unfolding is_reserved
word_name k w a b n = by_reserved (is_reserved k) refl n
  where
    same : lower w ≡ k
    same = (bytes_eq-Decides (lower w) k).0 a

    parts : (not (is_reserved w) ≡ true) × (same_lead letter (lead (lower w)) ≡ true)
    parts = and_parts (not (is_reserved w)) (same_lead letter (lead (lower w))) b

    alike : is_reserved k ≡ is_reserved w
    alike =
        ap (λ u. list_any (λ x. bytes_eq (lower u) (lower x)) reserved_words) (sym same)
        ∙ ap (λ u. list_any (λ x. bytes_eq u (lower x)) reserved_words) (lower_lower w)

    by_reserved : (r : Bool) → is_reserved k ≡ r → (r || not (same_lead letter (lead k))) ≡ true → ⊥
    by_reserved true e h = not_true (is_reserved w) parts.0 (sym alike ∙ e)
    by_reserved false e h = word_led k w letter a parts.1 h

-- a word is none of those that are left out of a group
word_other : (k w : List ℕ) (ks : List (List ℕ)) → bytes_eq (lower w) k ≡ true → not (is_one_of ks w) ≡ true
    → is_one_of ks k ≡ true → ⊥
word_other k w ks a b n = not_true (is_one_of ks w) b (sym alike ∙ n)
  where
    same : lower w ≡ k
    same = (bytes_eq-Decides (lower w) k).0 a

    alike : is_one_of ks k ≡ is_one_of ks w
    alike =
        ap (λ u. list_any (λ x. bytes_eq (lower u) (lower x)) ks) (sym same)
        ∙ ap (λ u. list_any (λ x. bytes_eq u (lower x)) ks) (lower_lower w)

name_led : (w : List ℕ) (l : Lead) → word_in names w ≡ true → same_lead l (lead (lower w)) ≡ true
    → not (same_lead letter l) ≡ true → ⊥
name_led w l a b n =
    let parts = and_parts (not (is_reserved w)) (same_lead letter (lead (lower w))) a in
    two_leads letter l (lead (lower w)) parts.1 b n

no_shared_word : (g h : Group) (w : List ℕ) → apart g h ≡ true → word_in g w ≡ true → word_in h w ≡ true → ⊥
no_shared_word (marks c) h w n a b = cc
no_shared_word texts h w n a b = cc
no_shared_word rules h w n a b = cc
no_shared_word foreign_rules h w n a b = cc
no_shared_word (words k) (marks c) w n a b = cc
no_shared_word (words k) texts w n a b = cc
no_shared_word (words k) rules w n a b = cc
no_shared_word (words k) foreign_rules w n a b = cc
no_shared_word (words k) (words j) w n a b = two_words k j w a b n
no_shared_word (words k) (others ks) w n a b = word_other k w ks a b n
no_shared_word (words k) names w n a b = word_name k w a b n
no_shared_word (words k) (led l) w n a b = word_led k w l a b n
no_shared_word (words k) anything w n a b = cc
no_shared_word (others ks) (marks c) w n a b = cc
no_shared_word (others ks) texts w n a b = cc
no_shared_word (others ks) rules w n a b = cc
no_shared_word (others ks) foreign_rules w n a b = cc
no_shared_word (others ks) (words k) w n a b = word_other k w ks b a n
no_shared_word (others ks) (others ls) w n a b = cc
no_shared_word (others ks) names w n a b = cc
no_shared_word (others ks) (led l) w n a b = cc
no_shared_word (others ks) anything w n a b = cc
no_shared_word names (marks c) w n a b = cc
no_shared_word names texts w n a b = cc
no_shared_word names rules w n a b = cc
no_shared_word names foreign_rules w n a b = cc
no_shared_word names (words k) w n a b = word_name k w b a n
no_shared_word names (others ks) w n a b = cc
no_shared_word names names w n a b = cc
no_shared_word names (led l) w n a b = name_led w l a b n
no_shared_word names anything w n a b = cc
no_shared_word (led l) (marks c) w n a b = cc
no_shared_word (led l) texts w n a b = cc
no_shared_word (led l) rules w n a b = cc
no_shared_word (led l) foreign_rules w n a b = cc
no_shared_word (led l) (words k) w n a b = word_led k w l b a n
no_shared_word (led l) (others ks) w n a b = cc
no_shared_word (led l) names w n a b = name_led w l b a n
no_shared_word (led l) (led m) w n a b = two_leads l m (lead (lower w)) a b n
no_shared_word (led l) anything w n a b = cc
no_shared_word anything h w n a b = cc

no_shared_mark : (g h : Group) (d : ℕ) → apart g h ≡ true → shape_in g (mark d) ≡ true → shape_in h (mark d) ≡ true → ⊥
no_shared_mark (marks c) (marks e) d n a b =
    let first : d ≡ c = grind (arith, nat_tests) in
    let second : d ≡ e = grind (arith, nat_tests) in
    not_true (c == e) n (rw (sym first, sym second) (eq_self d))
  where
    eq_self : (x : ℕ) → (x == x) ≡ true
    eq_self x = grind (arith, nat_tests)
no_shared_mark (marks c) texts d n a b = cc
no_shared_mark (marks c) rules d n a b = cc
no_shared_mark (marks c) foreign_rules d n a b = cc
no_shared_mark (marks c) (words k) d n a b = cc
no_shared_mark (marks c) (others ks) d n a b = cc
no_shared_mark (marks c) names d n a b = cc
no_shared_mark (marks c) (led l) d n a b = cc
no_shared_mark (marks c) anything d n a b = cc
no_shared_mark texts h d n a b = cc
no_shared_mark rules h d n a b = cc
no_shared_mark foreign_rules h d n a b = cc
no_shared_mark (words k) h d n a b = cc
no_shared_mark (others ks) h d n a b = cc
no_shared_mark names h d n a b = cc
no_shared_mark (led l) h d n a b = cc
no_shared_mark anything h d n a b = cc

-- a rule has no part that its frequency does not have
rule_known : (v : List ℕ) → is_rule v ≡ true → is_foreign_rule v ≡ true → ⊥
unfolding is_rule is_foreign_rule
rule_known v a b =
    let formed = and_parts (are_like_rule (parts_of v)) (are_known (parts_of v) && are_formed (parts_of v)) a in
    let known = and_parts (are_known (parts_of v)) (are_formed (parts_of v)) formed.1 in
    let foreign = and_parts (are_like_rule (parts_of v)) (not (are_known (parts_of v))) b in
    not_true (are_known (parts_of v)) foreign.1 known.0

no_shared_text : (g h : Group) (v : List ℕ) → apart g h ≡ true → shape_in g (quoted v) ≡ true
    → shape_in h (quoted v) ≡ true → ⊥
no_shared_text (marks c) h v n a b = cc
no_shared_text texts (marks c) v n a b = cc
no_shared_text texts texts v n a b = cc
no_shared_text texts rules v n a b = cc
no_shared_text texts foreign_rules v n a b = cc
no_shared_text texts (words k) v n a b = cc
no_shared_text texts (others ks) v n a b = cc
no_shared_text texts names v n a b = cc
no_shared_text texts (led l) v n a b = cc
no_shared_text texts anything v n a b = cc
no_shared_text rules (marks c) v n a b = cc
no_shared_text rules texts v n a b = cc
no_shared_text rules rules v n a b = cc
no_shared_text rules foreign_rules v n a b = rule_known v a b
no_shared_text rules (words k) v n a b = cc
no_shared_text rules (others ks) v n a b = cc
no_shared_text rules names v n a b = cc
no_shared_text rules (led l) v n a b = cc
no_shared_text rules anything v n a b = cc
no_shared_text foreign_rules (marks c) v n a b = cc
no_shared_text foreign_rules texts v n a b = cc
no_shared_text foreign_rules rules v n a b = rule_known v b a
no_shared_text foreign_rules foreign_rules v n a b = cc
no_shared_text foreign_rules (words k) v n a b = cc
no_shared_text foreign_rules (others ks) v n a b = cc
no_shared_text foreign_rules names v n a b = cc
no_shared_text foreign_rules (led l) v n a b = cc
no_shared_text foreign_rules anything v n a b = cc
no_shared_text (words k) h v n a b = cc
no_shared_text (others ks) h v n a b = cc
no_shared_text names h v n a b = cc
no_shared_text (led l) h v n a b = cc
no_shared_text anything h v n a b = cc

-- a word of a shape
of_word : (g : Group) (w : List ℕ) → shape_in g (word w) ≡ true → word_in g w ≡ true
of_word (marks c) w h = cc
of_word texts w h = cc
of_word rules w h = cc
of_word foreign_rules w h = cc
of_word (words k) w h = h
of_word (others ks) w h = h
of_word names w h = h
of_word (led l) w h = h
of_word anything w h = refl

no_shared_shape : (g h : Group) (s : Shape) → apart g h ≡ true → shape_in g s ≡ true → shape_in h s ≡ true → ⊥
no_shared_shape g h (mark d) n a b = no_shared_mark g h d n a b
no_shared_shape g h (quoted v) n a b = no_shared_text g h v n a b
no_shared_shape g h (word w) n a b = no_shared_word g h w n (of_word g w a) (of_word h w b)

no_shared_one : (k : Kind) (ls : List Kind) (t : Spelled)
    → list_all (λ l. apart (group_of k) (group_of l)) ls ≡ true → is k t ≡ true → is_any ls t ≡ true → ⊥
no_shared_one k [] t n a b = cc
no_shared_one k (l ∷ ls) t n a b = by_first (is l t) refl b (λ c. no_shared_one k ls t parts.1 a c)
  where
    parts : (apart (group_of k) (group_of l) ≡ true) × (list_all (λ m. apart (group_of k) (group_of m)) ls ≡ true)
    parts = and_parts (apart (group_of k) (group_of l)) (list_all (λ m. apart (group_of k) (group_of m)) ls) n

    by_first : (x : Bool) → is l t ≡ x → (x || is_any ls t) ≡ true → (is_any ls t ≡ true → ⊥) → ⊥
    by_first true e h rec =
        no_shared_shape (group_of k) (group_of l) t.shape parts.0 (shape_in_group k t.shape a)
        (shape_in_group l t.shape e)
    by_first false e h rec = rec h

pub no_shared : (ks ls : List Kind) (t : Spelled) → kinds_apart ks ls ≡ true → is_any ks t ≡ true
    → is_any ls t ≡ true → ⊥
no_shared [] ls t n a b = cc
no_shared (k ∷ ks) ls t n a b = by_first (is k t) refl a (λ c. no_shared ks ls t parts.1 c b)
  where
    parts : (list_all (λ m. apart (group_of k) (group_of m)) ls ≡ true) × (kinds_apart ks ls ≡ true)
    parts = and_parts (list_all (λ m. apart (group_of k) (group_of m)) ls) (kinds_apart ks ls) n

    by_first : (x : Bool) → is k t ≡ x → (x || is_any ks t) ≡ true → (is_any ks t ≡ true → ⊥) → ⊥
    by_first true e h rec = no_shared_one k ls t parts.0 e b
    by_first false e h rec = rec h
