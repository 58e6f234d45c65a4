-- The first lines of streams and jobs, and which rows they are.
use Rattle.std.proofs.Common.{◌≡◌, ◌≤◌, ◌<◌, ◌^◌, ℕ, Bool, true, false, eqb, List, [], ◌∷◌, ◌++◌, Option, Some, None}
use Rattle.std.proofs.Common.{refl, ap, sym, ◌∙◌, arith, codes, option_map, append-nil, append_assoc, if◌then◌else◌, IsUtf8}
use Rattle.std.specs.Fmt.{decimal}
use Rattle.std.specs.List.{AllByRecursion}
use Rattle.lemmas.proofs.Lists.{all_append}
use Rattle.lemmas.proofs.Numbers.{eq_tells}
use Rattle.model.specs.Types.{Net, JobDraft, StreamDraft}
use Rattle.plan_listing.specs.Streams.{carry_mark, job_head, limit_part}
use Rattle.plan_listing.specs.Streams.{priority_part, stream_head}
use Rattle.record_rows.specs.Plans.{carry_of, dep_of, job_of, limit_of, part_of, priority_of, stream_of}
use Rattle.record_rows.specs.Rows.{◌else_◌, network_row, plan_row, row_of}
use Rattle.record_rows.specs.Steps.{step_of}
use Rattle.record_rows.specs.declared.rows.JobRow.{JobRow}
use Rattle.record_rows.specs.declared.rows.Ranged.{Ranged}
use Rattle.record_rows.specs.declared.rows.Ranged.TheVariants.{Within}
use Rattle.record_rows.specs.declared.rows.Row.TheVariants as row
use Rattle.record_rows.specs.declared.rows.StreamRow.{StreamRow}
use Rattle.report_text.specs.Names.{name_of}
use Rattle.syntax.specs.Splits.{words_of}
use Rattle.history_laws.specs.Printables.{IsKeptName}
use Rattle.history_laws.proofs.Lines.{Lacks, lacks_append}
use Rattle.history_laws.proofs.Words.{name_lacks_feed, name_lacks_space, number_lacks_feed, number_lacks_space, plain_first, plain_lacks_feed}
use Rattle.history_laws.proofs.Words.{total_back}
use Rattle.history_laws.proofs.Texts.{name_utf8, number_utf8, word_utf8}
use Rattle.listing_laws.specs.Listables.{IsListableLimit}
use Rattle.listing_laws.proofs.DepLines.{plain_word}
use Rattle.listing_laws.proofs.Spelled.{Spells, spells_as, spells_line}
use Rattle.listing_laws.proofs.Words.{form_in, line_by, spaced, spaced_both, spaced_lacks_feed, words_back}

-- The words that may stand behind the names.

abbrev priority_words_by : Bool → ℕ → List (List ℕ)
priority_words_by default n = if default then [] else (codes "prio" ∷ decimal n ∷ [])

abbrev pub priority_words : ℕ → List (List ℕ)
priority_words n = priority_words_by (eqb n 10) n

abbrev limit_words : Option ℕ → List (List ℕ)
limit_words None = []
limit_words (Some n) = codes "limit" ∷ decimal n ∷ []

abbrev carry_words : Bool → List (List ℕ)
carry_words carry = if carry then (codes "carry" ∷ []) else []

priority_spaced : (n : ℕ) → priority_part n ≡ spaced (priority_words n)
priority_spaced n = go (eqb n 10)
  where
    go : (b : Bool) → (if b then codes "" else codes " prio " ++ decimal n) ≡ spaced (priority_words_by b n)
    go true = refl
    go false = ap (λ l. codes " prio " ++ l) (sym (append-nil (decimal n)))

limit_spaced : (o : Option ℕ) → limit_part o ≡ spaced (limit_words o)
limit_spaced None = refl
limit_spaced (Some n) = ap (λ l. codes " limit " ++ l) (sym (append-nil (decimal n)))

carry_spaced : (b : Bool) → carry_mark b ≡ spaced (carry_words b)
carry_spaced true = refl
carry_spaced false = refl

-- they have no blanks and no line feeds, and are characters
pub record AreWords (ws : List (List ℕ)) : Type 0 where
  pub blanks : AllByRecursion (Lacks 32) ws
  pub feeds : AllByRecursion (Lacks 10) ws
  pub chars : AllByRecursion IsUtf8 ws

no_words : AreWords []
no_words = record { blanks = tt; feeds = tt; chars = tt }

words_both : (vs ws : List (List ℕ)) → AreWords vs → AreWords ws → AreWords (vs ++ ws)
words_both vs ws h k =
    record {
      blanks = all_append (Lacks 32) vs ws h.blanks k.blanks;
      feeds = all_append (Lacks 10) vs ws h.feeds k.feeds;
      chars = all_append IsUtf8 vs ws h.chars k.chars;
    }

priority_are_words : (n : ℕ) → n < 2 ^ 64 → AreWords (priority_words n)
priority_are_words n h = go (eqb n 10)
  where
    go : (b : Bool) → AreWords (priority_words_by b n)
    go true = no_words
    go false =
        record {
          blanks = (plain_word (codes "prio") refl, (number_lacks_space n h, tt));
          feeds = (plain_lacks_feed (codes "prio") refl, (number_lacks_feed n h, tt));
          chars = (word_utf8 (codes "prio") refl, (number_utf8 n h, tt));
        }

limit_are_words : (o : Option ℕ) → IsListableLimit o → AreWords (limit_words o)
limit_are_words None h = no_words
limit_are_words (Some n) h =
    record {
      blanks = (plain_word (codes "limit") refl, (number_lacks_space n (omega (arith, h)), tt));
      feeds = (plain_lacks_feed (codes "limit") refl, (number_lacks_feed n (omega (arith, h)), tt));
      chars = (word_utf8 (codes "limit") refl, (number_utf8 n (omega (arith, h)), tt));
    }

carry_are_words : (b : Bool) → AreWords (carry_words b)
carry_are_words true =
    record {
      blanks = (plain_word (codes "carry") refl, tt);
      feeds = (plain_lacks_feed (codes "carry") refl, tt);
      chars = (word_utf8 (codes "carry") refl, tt);
    }
carry_are_words false = no_words

-- Read back.

-- words behind a priority that is not given
abbrev IsRead : List (List ℕ) → Type 0
IsRead ws = priority_of ws ≡ Some (Within 10, ws)

priority_by : (b : Bool) (n : ℕ) (rest : List (List ℕ)) → eqb n 10 ≡ b → n ≤ 101 → IsRead rest
    → priority_of (priority_words_by b n ++ rest) ≡ Some (Within n, rest)
priority_by true n rest is low read = read ∙ ap (λ k. Some (Within k, rest)) (sym (eq_tells n 10 is))
priority_by false n rest is low read = ap (option_map (λ (p : Ranged ℕ). (p, rest))) (total_back n 101 low (omega (arith, low)))

priority_back : (n : ℕ) (rest : List (List ℕ)) → n ≤ 101 → IsRead rest
    → priority_of (priority_words n ++ rest) ≡ Some (Within n, rest)
priority_back n rest low read = priority_by (eqb n 10) n rest refl low read

behind_priority : (o : Option ℕ) (b : Bool) → IsRead (limit_words o ++ carry_words b)
behind_priority None true = refl
behind_priority None false = refl
behind_priority (Some n) b = refl

limit_back : (o : Option ℕ) (b : Bool) → IsListableLimit o → limit_of (limit_words o ++ carry_words b) ≡ Some (Within o, carry_words b)
limit_back None true h = refl
limit_back None false h = refl
limit_back (Some n) b h = rw (total_back n 1024 h (omega (arith, h))) refl

carry_back : (b : Bool) → carry_of (carry_words b) ≡ Some b
carry_back true = refl
carry_back false = refl

-- The first line of a stream.

abbrev pub stream_part : Net → StreamDraft → StreamRow
stream_part net s =
    record {
      ws = name_of net s.ws;
      name = s.name;
      priority = Within s.priority;
      limit = Within s.limit;
      carry = s.carry;
    }

pub record IsStreamLine (net : Net) (s : StreamDraft) : Type 0 where
  pub ws : IsKeptName (name_of net s.ws)
  pub name : IsKeptName s.name
  pub priority : s.priority ≤ 101
  pub limit : IsListableLimit s.limit

abbrev pub stream_words : StreamDraft → List (List ℕ)
stream_words s = priority_words s.priority ++ (limit_words s.limit ++ carry_words s.carry)

abbrev pub stream_line : Net → StreamDraft → List ℕ
stream_line net s = codes "stream " ++ (name_of net s.ws ++ spaced (s.name ∷ stream_words s))

pub stream_line_is : (net : Net) (s : StreamDraft) → stream_head net s ≡ stream_line net s ++ 10 ∷ []
unfolding stream_head
stream_line_is net s =
    ap (λ l. l ++ 10 ∷ [])
    (ap (λ l. (((codes "stream " ++ name_of net s.ws ++ codes " " ++ s.name) ++ l) ++ limit_part s.limit) ++ carry_mark s.carry)
    (priority_spaced s.priority)
    ∙ ap (λ l. (((codes "stream " ++ name_of net s.ws ++ codes " " ++ s.name) ++ spaced (priority_words s.priority)) ++ l) ++ carry_mark s.carry)
    (limit_spaced s.limit)
    ∙ ap (λ l. (((codes "stream " ++ name_of net s.ws ++ codes " " ++ s.name) ++ spaced (priority_words s.priority))
    ++ spaced (limit_words s.limit)) ++ l) (carry_spaced s.carry)
    ∙ gathered (codes "stream ") (name_of net s.ws) s.name (spaced (priority_words s.priority)) (spaced (limit_words s.limit))
    (spaced (carry_words s.carry))
    ∙ ap (λ l. codes "stream " ++ (name_of net s.ws ++ (codes " " ++ (s.name ++ l))))
    (ap (λ l. spaced (priority_words s.priority) ++ l) (sym (spaced_both (limit_words s.limit) (carry_words s.carry)))
    ∙ sym (spaced_both (priority_words s.priority) (limit_words s.limit ++ carry_words s.carry))))
  where
    gathered : (a w n p l c : List ℕ)
        → ((((((a ++ w) ++ codes " ") ++ n) ++ p) ++ l) ++ c) ≡ a ++ (w ++ (codes " " ++ (n ++ (p ++ (l ++ c)))))
    gathered a w n p l c = simp append_assoc

pub stream_are_words : (net : Net) (s : StreamDraft) → IsStreamLine net s → AreWords (s.name ∷ stream_words s)
stream_are_words net s h =
    let low = h.priority in
    let rest =
    words_both (priority_words s.priority) (limit_words s.limit ++ carry_words s.carry)
    (priority_are_words s.priority (omega (arith, low)))
    (words_both (limit_words s.limit) (carry_words s.carry) (limit_are_words s.limit h.limit) (carry_are_words s.carry)) in
    record {
      blanks = (name_lacks_space s.name h.name, rest.blanks);
      feeds = (name_lacks_feed s.name h.name, rest.feeds);
      chars = (name_utf8 s.name h.name, rest.chars);
    }

stream_back : (net : Net) (s : StreamDraft) → IsStreamLine net s
    → stream_of (name_of net s.ws ∷ s.name ∷ stream_words s) ≡ Some (stream_part net s)
unfolding stream_of
stream_back net s h =
    rw (
      h.ws,
      h.name,
      priority_back s.priority (limit_words s.limit ++ carry_words s.carry) h.priority (behind_priority s.limit s.carry),
      limit_back s.limit s.carry h.limit,
      carry_back s.carry,
    ) refl

stream_form : (rest text : List ℕ) → form_in (codes "stream") rest text
    ≡ (option_map row.Stream (stream_of (words_of rest)) else_ option_map row.Part (part_of (codes "stream") rest)
    else_ option_map row.Dep (dep_of (codes "stream") rest) else_ option_map row.Step (step_of text))
unfolding network_row plan_row
stream_form rest text = refl

stream_row_is : (net : Net) (s : StreamDraft) → IsStreamLine net s
    → row_of (stream_line net s) ≡ row.Stream (stream_part net s)
stream_row_is net s h =
    let words = stream_are_words net s h in
    let behind : List ℕ = name_of net s.ws ++ spaced (s.name ∷ stream_words s) in
    line_by 115 (codes "tream") behind (row.Stream (stream_part net s)) refl refl (plain_word (codes "stream") refl)
    (λ text. stream_form behind text
    ∙ ap (λ o. option_map row.Stream o else_ option_map row.Part (part_of (codes "stream") behind)
    else_ option_map row.Dep (dep_of (codes "stream") behind) else_ option_map row.Step (step_of text))
    (ap stream_of (words_back (name_of net s.ws) (s.name ∷ stream_words s) (name_lacks_space (name_of net s.ws) h.ws) words.blanks)
    ∙ stream_back net s h))

stream_lacks_feed : (net : Net) (s : StreamDraft) → IsStreamLine net s → Lacks 10 (stream_line net s)
stream_lacks_feed net s h =
    let words = stream_are_words net s h in
    plain_first (codes "stream ") (name_of net s.ws ++ spaced (s.name ∷ stream_words s)) refl
    (lacks_append 10 (name_of net s.ws) (spaced (s.name ∷ stream_words s)) (name_lacks_feed (name_of net s.ws) h.ws)
    (spaced_lacks_feed (s.name ∷ stream_words s) words.feeds))

pub head_spelled : (net : Net) (s : StreamDraft) → IsStreamLine net s
    → Spells (stream_head net s) (row.Stream (stream_part net s) ∷ [])
head_spelled net s h =
    spells_as (stream_head net s) (stream_line net s ++ 10 ∷ []) (row.Stream (stream_part net s) ∷ []) (stream_line_is net s)
    (spells_line (stream_line net s) (row.Stream (stream_part net s)) (stream_lacks_feed net s h) (stream_row_is net s h))

-- The first line of a job.

abbrev pub job_part : Net → JobDraft → JobRow
job_part net j = record { ws = name_of net j.ws; name = j.name; priority = Within j.priority }

pub record IsJobLine (net : Net) (j : JobDraft) : Type 0 where
  pub ws : IsKeptName (name_of net j.ws)
  pub name : IsKeptName j.name
  pub priority : j.priority ≤ 101

abbrev pub job_line : Net → JobDraft → List ℕ
job_line net j = codes "job " ++ (name_of net j.ws ++ spaced (j.name ∷ priority_words j.priority))

pub job_line_is : (net : Net) (j : JobDraft) → job_head net j ≡ job_line net j ++ 10 ∷ []
unfolding job_head
job_line_is net j =
    ap (λ l. l ++ 10 ∷ [])
    (ap (λ l. (codes "job " ++ name_of net j.ws ++ codes " " ++ j.name) ++ l) (priority_spaced j.priority)
    ∙ gathered (codes "job ") (name_of net j.ws) j.name (spaced (priority_words j.priority)))
  where
    gathered : (a w n p : List ℕ) → ((((a ++ w) ++ codes " ") ++ n) ++ p) ≡ a ++ (w ++ (codes " " ++ (n ++ p)))
    gathered a w n p = simp append_assoc

pub job_are_words : (net : Net) (j : JobDraft) → IsJobLine net j → AreWords (j.name ∷ priority_words j.priority)
job_are_words net j h =
    let low = h.priority in
    let rest = priority_are_words j.priority (omega (arith, low)) in
    record {
      blanks = (name_lacks_space j.name h.name, rest.blanks);
      feeds = (name_lacks_feed j.name h.name, rest.feeds);
      chars = (name_utf8 j.name h.name, rest.chars);
    }

last_priority : (n : ℕ) → n ≤ 101 → priority_of (priority_words n) ≡ Some (Within n, [])
last_priority n low = ap priority_of (sym (append-nil (priority_words n))) ∙ priority_back n [] low refl

job_back : (net : Net) (j : JobDraft) → IsJobLine net j
    → job_of (name_of net j.ws ∷ j.name ∷ priority_words j.priority) ≡ Some (job_part net j)
unfolding job_of
job_back net j h = rw (h.ws, h.name, last_priority j.priority h.priority) refl

job_form : (rest text : List ℕ) → form_in (codes "job") rest text
    ≡ (option_map row.Job (job_of (words_of rest)) else_ option_map row.Part (part_of (codes "job") rest)
    else_ option_map row.Dep (dep_of (codes "job") rest) else_ option_map row.Step (step_of text))
unfolding network_row plan_row
job_form rest text = refl

job_row_is : (net : Net) (j : JobDraft) → IsJobLine net j → row_of (job_line net j) ≡ row.Job (job_part net j)
job_row_is net j h =
    let words = job_are_words net j h in
    let behind : List ℕ = name_of net j.ws ++ spaced (j.name ∷ priority_words j.priority) in
    line_by 106 (codes "ob") behind (row.Job (job_part net j)) refl refl (plain_word (codes "job") refl)
    (λ text. job_form behind text
    ∙ ap (λ o. option_map row.Job o else_ option_map row.Part (part_of (codes "job") behind)
    else_ option_map row.Dep (dep_of (codes "job") behind) else_ option_map row.Step (step_of text))
    (ap job_of (words_back (name_of net j.ws) (j.name ∷ priority_words j.priority) (name_lacks_space (name_of net j.ws) h.ws) words.blanks)
    ∙ job_back net j h))

job_lacks_feed : (net : Net) (j : JobDraft) → IsJobLine net j → Lacks 10 (job_line net j)
job_lacks_feed net j h =
    let words = job_are_words net j h in
    plain_first (codes "job ") (name_of net j.ws ++ spaced (j.name ∷ priority_words j.priority)) refl
    (lacks_append 10 (name_of net j.ws) (spaced (j.name ∷ priority_words j.priority)) (name_lacks_feed (name_of net j.ws) h.ws)
    (spaced_lacks_feed (j.name ∷ priority_words j.priority) words.feeds))

pub title_spelled : (net : Net) (j : JobDraft) → IsJobLine net j → Spells (job_head net j) (row.Job (job_part net j) ∷ [])
title_spelled net j h =
    spells_as (job_head net j) (job_line net j ++ 10 ∷ []) (row.Job (job_part net j) ∷ []) (job_line_is net j)
    (spells_line (job_line net j) (row.Job (job_part net j)) (job_lacks_feed net j h) (job_row_is net j h))
