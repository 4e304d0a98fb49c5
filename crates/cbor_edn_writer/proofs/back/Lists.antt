-- In EDN, the members of a list are read back in order, up to what closes the list (`members_read`), if a turn takes
-- the text of each (`Takes`). The width of the count, or the `_`, after the opening is read back too (`width_read`,
-- `open_read`).
use Rattle.std.proofs.Common.{◌≡◌, ◌⊎◌, inl, inr, ℕ, zero, suc, ◌+◌, ◌<◌, ◌≤◌, List, [], ◌∷◌, ◌++◌, length, codes}
use Rattle.std.proofs.Common.{Bool, true, false, Option, Some, None, ◌==◌, ◌||◌, if◌then◌else◌, not, nat_eq, nat_lt}
use Rattle.std.proofs.Common.{drop}
use Rattle.std.proofs.Common.{◌≢◌, ◌^◌, refl, sym, ap, subst, ◌∙◌, append_assoc, arith}
use Rattle.std.proofs.lemmas.Bool.Decides.{nat_tests}
use Rattle.std.specs.List.{flat_map, starts_with}
use Rattle.cbor_grammar.specs.declared.layout.ContainerStyle.{ContainerStyle}
use Rattle.cbor_grammar.specs.declared.layout.ContainerStyle.TheVariants as style
use Rattle.cbor_grammar.specs.declared.width.IntegerWidth.{IntegerWidth}
use Rattle.cbor_grammar.specs.declared.width.IntegerWidth.TheVariants.{Unknown, Zero, Eight, Sixteen, ThirtyTwo}
use Rattle.cbor_grammar.specs.declared.width.IntegerWidth.TheVariants.{SixtyFour}
use Rattle.cbor_grammar.specs.NotationText.{line, last_line, indicator}
use Rattle.cbor_notation_writer.specs.mirror.LayoutView.{before_member, after_member}
use Rattle.cbor_notation_writer.specs.Dialect.{listed}
use Rattle.cbor_edn_grammar.specs.declared.close.Close.{Close}
use Rattle.cbor_edn_grammar.specs.declared.close.Close.TheVariants.{Bracket, Brace, Parenthesis, Angles, End}
use Rattle.cbor_edn_grammar.specs.Reading.{with_later, turns, ◌>>=◌, after_bytes}
use Rattle.cbor_edn_grammar.specs.Blank.{skip_blank}
use Rattle.cbor_edn_grammar.specs.Strings.{stated_by}
use Rattle.cbor_edn_grammar.specs.Word.{word_len, word_of, after_word}
use Rattle.cbor_edn_writer.specs.EdnLeaves.{spaced, with_gap, gap, longer}
use Rattle.cbor_edn_grammar.specs.Lists.{after_close, after_comma, closed_by, separated, members_or_close}
use Rattle.cbor_edn_grammar.specs.Lists.{read_members, read_length, ended_length}
use Rattle.cbor_edn_writer.proofs.back.Reads.{ends_item, is_ended, Follows, begins_item, IsBegun, AreNotes, IsStarted}
use Rattle.cbor_edn_grammar.proofs.Words.{skip_none}
use Rattle.cbor_edn_writer.proofs.back.Blanks.{skip_space, skip_line, skip_notes}
use Rattle.cbor_edn_writer.proofs.back.Blanks.{stop_follows, end_follows}

-- ---- what closes a list

-- this text begins with what closes the list, and goes on with the tail
pub record Closes (close : Close) (closing tail : List ℕ) : Type 0 where
  pub follows : Follows closing
  pub still : skip_blank closing ≡ closing
  pub closed : after_close close closing ≡ Some tail
  pub comma : (rest : List ℕ) → after_close close (44 ∷ rest) ≡ None

pub bracket_closes : (tail : List ℕ) → Closes Bracket (codes "]" ++ tail) tail
bracket_closes tail = record {
  follows = stop_follows 93 tail refl refl refl;
  still = skip_none (93 ∷ tail) refl;
  closed = refl;
  comma = λ rest. refl;
}

pub brace_closes : (tail : List ℕ) → Closes Brace (codes "}" ++ tail) tail
brace_closes tail = record {
  follows = stop_follows 125 tail refl refl refl;
  still = skip_none (125 ∷ tail) refl;
  closed = refl;
  comma = λ rest. refl;
}

pub parenthesis_closes : (tail : List ℕ) → Closes Parenthesis (codes ")" ++ tail) tail
parenthesis_closes tail = record {
  follows = stop_follows 41 tail refl refl refl;
  still = skip_none (41 ∷ tail) refl;
  closed = refl;
  comma = λ rest. refl;
}

pub angles_close : (tail : List ℕ) → Closes Angles (codes ">>" ++ tail) tail
angles_close tail = record {
  follows = stop_follows 62 (62 ∷ tail) refl refl refl;
  still = skip_none (62 ∷ (62 ∷ tail)) refl;
  closed = refl;
  comma = λ rest. refl;
}

pub end_closes : Closes End [] []
end_closes = record { follows = end_follows; still = skip_none [] refl; closed = refl; comma = λ rest. refl }

-- an item has other bytes in front
not_front : (b k : ℕ) (bytes text : List ℕ) → begins_item b ≡ true → begins_item k ≡ false
    → after_bytes (k ∷ bytes) (b ∷ text) ≡ None
not_front b k bytes text begins not_k =
    let differ : nat_eq k b ≡ false = either (nat_eq k b) refl in
    let front : starts_with nat_eq (b ∷ text) (k ∷ bytes) ≡ false = rw differ refl in
    ap (λ t. if t then Some (drop (length (k ∷ bytes)) (b ∷ text)) else None) front
  where
    either : (test : Bool) → nat_eq k b ≡ test → test ≡ false
    either false e = refl
    either true e =
        let same : k ≡ b = grind (arith, nat_tests, e) in
        absurd (let wrong = sym begins ∙ ap begins_item (sym same) ∙ not_k in cc)

-- an item closes nothing
pub begun_open : (close : Close) (m rest : List ℕ) → IsBegun m → after_close close (m ++ rest) ≡ None
begun_open close [] rest h = absurd h
begun_open Bracket (b ∷ m) rest h = not_front b 93 [] (m ++ rest) h refl
begun_open Brace (b ∷ m) rest h = not_front b 125 [] (m ++ rest) h refl
begun_open Parenthesis (b ∷ m) rest h = not_front b 41 [] (m ++ rest) h refl
begun_open Angles (b ∷ m) rest h = not_front b 62 (62 ∷ []) (m ++ rest) h refl
begun_open End (b ∷ m) rest h = refl

-- ---- between members

-- what follows a member, perhaps with notes, says whether there is another, and goes on there
abbrev pub Parts : Close → List ℕ → Bool → List ℕ → Type 0
Parts close rest more after =
    (flag : Bool) (note : List ℕ) → AreNotes note → separated close flag (note ++ rest) ≡ Some (more, after)

module _ {close : Close} {closing tail : List ℕ} (closes : Closes close closing tail) where
  parts_closed : (rest : List ℕ) → skip_blank rest ≡ closing → Parts close rest false tail
  unfolding separated
  parts_closed rest e flag note any =
      ap (λ t. closed_by close flag (note ++ rest) t (after_close close t)) (skip_notes note rest any ∙ e)
      ∙ ap (closed_by close flag (note ++ rest) closing) closes.closed

  comma_next : (rest next : List ℕ) → skip_blank rest ≡ 44 ∷ next → (flag : Bool) (note : List ℕ) → AreNotes note
      → separated close flag (note ++ rest) ≡ Some (after_comma close (skip_blank next))
  unfolding separated
  comma_next rest next e flag note any =
      ap (λ t. closed_by close flag (note ++ rest) t (after_close close t)) (skip_notes note rest any ∙ e)
      ∙ ap (closed_by close flag (note ++ rest) (44 ∷ next)) (closes.comma next)

  parts_last : (rest next : List ℕ) → skip_blank rest ≡ 44 ∷ next → skip_blank next ≡ closing
      → Parts close rest false tail
  parts_last rest next e ends flag note any =
      comma_next rest next e flag note any
      ∙ ap (λ t. Some (after_comma close t)) ends
      ∙ ap (λ c. Some (elim c [ Some rest ↦ (false, rest) | None ↦ (true, closing) ])) closes.closed

  parts_more : (rest next m after : List ℕ) → skip_blank rest ≡ 44 ∷ next → skip_blank next ≡ m ++ after → IsBegun m
      → Parts close rest true (m ++ after)
  parts_more rest next m after e goes begun flag note any =
      comma_next rest next e flag note any
      ∙ ap (λ t. Some (after_comma close t)) goes
      ∙ ap (λ c. Some (elim c [ Some rest ↦ (false, rest) | None ↦ (true, m ++ after) ]))
      (begun_open close m after begun)

-- ---- the texts of members

-- what follows a member: the later ones and what closes the list
abbrev pub after_text : ContainerStyle → List (List ℕ) → List ℕ → List ℕ
after_text l [] closing = after_member l ++ (last_line l ++ closing)
after_text l (m ∷ ms) closing =
    after_member l ++ (before_member (spaced l) false ++ (m ++ after_text l ms closing))

-- the members of a list and what closes it, by what follows the first one
abbrev pub list_text : ContainerStyle → List (List ℕ) → List ℕ → List ℕ
list_text l ms closing =
    listed (λ first. before_member (spaced l) first) (after_member l) ms ++ (last_line l ++ closing)

others_are : (l : ContainerStyle) (ms : List (List ℕ)) (closing : List ℕ)
    → after_member l ++ (flat_map (λ x. before_member (spaced l) false ++ (x ++ after_member l)) ms
    ++ (last_line l ++ closing)) ≡ after_text l ms closing
others_are l [] closing = refl
others_are l (m ∷ ms) closing =
    ap (λ t. after_member l ++ t) (
    append_assoc (before_member (spaced l) false ++ (m ++ after_member l))
    (flat_map (λ x. before_member (spaced l) false ++ (x ++ after_member l)) ms) (last_line l ++ closing)
    ∙ append_assoc (before_member (spaced l) false) (m ++ after_member l)
    (flat_map (λ x. before_member (spaced l) false ++ (x ++ after_member l)) ms ++ (last_line l ++ closing))
    ∙ ap (λ t. before_member (spaced l) false ++ t) (
    append_assoc m (after_member l)
    (flat_map (λ x. before_member (spaced l) false ++ (x ++ after_member l)) ms ++ (last_line l ++ closing))
    ∙ ap (λ t. m ++ t) (others_are l ms closing)))

list_is : (l : ContainerStyle) (m : List ℕ) (ms : List (List ℕ)) (closing : List ℕ)
    → list_text l (m ∷ ms) closing ≡ before_member (spaced l) true ++ (m ++ after_text l ms closing)
list_is l m ms closing =
    append_assoc (before_member (spaced l) true ++ (m ++ after_member l))
    (flat_map (λ x. before_member (spaced l) false ++ (x ++ after_member l)) ms) (last_line l ++ closing)
    ∙ append_assoc (before_member (spaced l) true) (m ++ after_member l)
    (flat_map (λ x. before_member (spaced l) false ++ (x ++ after_member l)) ms ++ (last_line l ++ closing))
    ∙ ap (λ t. before_member (spaced l) true ++ t) (
    append_assoc m (after_member l)
    (flat_map (λ x. before_member (spaced l) false ++ (x ++ after_member l)) ms ++ (last_line l ++ closing))
    ∙ ap (λ t. m ++ t) (others_are l ms closing))

-- The text of a member after the note before it, if any: blanks are passed up to there, and an item begins there.
pub record Skips (m core : List ℕ) : Type 0 where
  pub before : List ℕ
  pub parts : m ≡ before ++ core
  pub started : IsStarted m
  pub skips : (rest : List ℕ) → skip_blank (m ++ rest) ≡ core ++ rest
  pub begun : IsBegun core

-- before the first member
skip_first : (l : ContainerStyle) (rest : List ℕ) → skip_blank (before_member (spaced l) true ++ rest) ≡ skip_blank rest
skip_first style.Compact rest = refl
skip_first (style.OneLine indent) rest = refl
skip_first (style.MultiLine indent) rest = skip_line (indent + 4) rest

skip_last : (l : ContainerStyle) (rest : List ℕ) → skip_blank (last_line l ++ rest) ≡ skip_blank rest
skip_last style.Compact rest = refl
skip_last (style.OneLine indent) rest = refl
skip_last (style.MultiLine indent) rest = skip_line indent rest

module _ {close : Close} {closing tail : List ℕ} (closes : Closes close closing tail) where
  after_follows : (l : ContainerStyle) (ms : List (List ℕ)) → Follows (after_text l ms closing)
  after_follows style.Compact [] = closes.follows
  after_follows style.Compact (m ∷ ms) = stop_follows 44 _ refl refl refl
  after_follows (style.OneLine indent) [] = closes.follows
  after_follows (style.OneLine indent) (m ∷ ms) = stop_follows 44 _ refl refl refl
  after_follows (style.MultiLine indent) [] = stop_follows 44 _ refl refl refl
  after_follows (style.MultiLine indent) (m ∷ ms) = stop_follows 44 _ refl refl refl

  after_last : (l : ContainerStyle) → Parts close (after_text l [] closing) false tail
  after_last style.Compact = parts_closed closes closing closes.still
  after_last (style.OneLine indent) = parts_closed closes closing closes.still
  after_last (style.MultiLine indent) =
      parts_last closes (44 ∷ (line indent ++ closing)) (line indent ++ closing)
      (skip_none (44 ∷ (line indent ++ closing)) refl) (skip_line indent closing ∙ closes.still)

  on_a_line : (l : ContainerStyle) (m core : List ℕ) (ms : List (List ℕ)) → Skips m core
      → Parts close (codes ", " ++ (m ++ after_text l ms closing)) true (core ++ after_text l ms closing)
  on_a_line l m core ms first =
      let next = 32 ∷ (m ++ after_text l ms closing) in
      parts_more closes (44 ∷ next) next core (after_text l ms closing) (skip_none (44 ∷ next) refl)
      (skip_space (m ++ after_text l ms closing) ∙ first.skips (after_text l ms closing)) first.begun

  after_other : (l : ContainerStyle) (m core : List ℕ) (ms : List (List ℕ)) → Skips m core
      → Parts close (after_text l (m ∷ ms) closing) true (core ++ after_text l ms closing)
  after_other style.Compact m core ms first = on_a_line style.Compact m core ms first
  after_other (style.OneLine indent) m core ms first = on_a_line (style.OneLine indent) m core ms first
  after_other (style.MultiLine indent) m core ms first =
      let next = line (indent + 4) ++ (m ++ after_text (style.MultiLine indent) ms closing) in
      parts_more closes (44 ∷ next) next core (after_text (style.MultiLine indent) ms closing)
      (skip_none (44 ∷ next) refl)
      (skip_line (indent + 4) (m ++ after_text (style.MultiLine indent) ms closing)
      ∙ first.skips (after_text (style.MultiLine indent) ms closing)) first.begun

-- ---- turns

-- a turn takes the text of a member as this value, whatever follows, once blanks are passed
pub record Takes {X : Type 0} (turn : List ℕ → Option (List X × Bool × List ℕ)) (close : Close) (m : List ℕ) (x : X)
    : Type 0 where
  pub core : List ℕ
  pub first : Skips m core
  pub takes : (rest after : List ℕ) (more : Bool) → Follows rest → Parts close rest more after
      → turn (core ++ rest) ≡ Some (x ∷ [], more, after)

abbrev pub AllTaken : {X : Type 0} → (List ℕ → Option (List X × Bool × List ℕ)) → Close → List (List ℕ) → List X
    → Type 0
AllTaken turn close [] [] = Unit {0}
AllTaken turn close [] (x ∷ xs) = ⊥
AllTaken turn close (m ∷ ms) [] = ⊥
AllTaken turn close (m ∷ ms) (x ∷ xs) = Takes turn close m x × AllTaken turn close ms xs

suffix_length : (a b : List ℕ) → length b ≤ length (a ++ b)
suffix_length [] b = omega arith
suffix_length (c ∷ a) b = let le = suffix_length a b in omega arith

begun_length : (m rest : List ℕ) → IsBegun m → length rest < length (m ++ rest)
begun_length [] rest h = absurd h
begun_length (b ∷ m) rest h = let le = suffix_length m rest in omega arith

pub started_length : (m rest : List ℕ) → IsStarted m → length rest < length (m ++ rest)
started_length [] rest h = absurd h
started_length (b ∷ m) rest h = let le = suffix_length m rest in omega arith

module _ {X : Type 0} (turn : List ℕ → Option (List X × Bool × List ℕ)) {close : Close} {closing tail : List ℕ}
    (closes : Closes close closing tail) (l : ContainerStyle) where
  -- each member has a byte at least
  enough : (ms : List (List ℕ)) (xs : List X) → AllTaken turn close ms xs
      → length ms ≤ length (after_text l ms closing)
  enough [] xs h = omega arith
  enough (m ∷ ms) [] h = absurd h
  enough (m ∷ ms) (x ∷ xs) h =
      let later = enough ms xs h.1 in
      let one = started_length m (after_text l ms closing) h.0.first.started in
      let two = suffix_length (before_member (spaced l) false) (m ++ after_text l ms closing) in
      let three = suffix_length (after_member l)
      (before_member (spaced l) false ++ (m ++ after_text l ms closing)) in
      omega arith

  turns_read : (n : ℕ) (m : List ℕ) (ms : List (List ℕ)) (x : X) (xs : List X) (first : Takes turn close m x)
      → AllTaken turn close ms xs → length ms < n
      → turns turn n (first.core ++ after_text l ms closing) ≡ Some (x ∷ xs, tail)
  unfolding turns
  turns_read zero m ms x xs first later lt = absurd (omega arith)
  turns_read (suc n) m [] x [] first later lt =
      ap (λ t. t >>= with_later (turns turn n))
      (first.takes (after_text l [] closing) tail false (after_follows closes l []) (after_last closes l))
  turns_read (suc n) m [] x (y ∷ xs) first later lt = absurd later
  turns_read (suc n) m (m2 ∷ ms) x [] first later lt = absurd later
  turns_read (suc n) m (m2 ∷ ms) x (y ∷ xs) first later lt =
      ap (λ t. t >>= with_later (turns turn n))
      (first.takes (after_text l (m2 ∷ ms) closing) (later.0.core ++ after_text l ms closing) true
      (after_follows closes l (m2 ∷ ms)) (after_other closes l m2 later.0.core ms later.0.first))
      ∙ ap (λ r. r >>= λ more. Some ((x ∷ []) ++ more.0, more.1))
      (turns_read n m2 ms y xs later.0 later.1 (omega arith))

  pub members_first : (m core : List ℕ) (ms : List (List ℕ)) → Skips m core
      → skip_blank (list_text l (m ∷ ms) closing) ≡ core ++ after_text l ms closing
  members_first m core ms first =
      ap skip_blank (list_is l m ms closing) ∙ skip_first l (m ++ after_text l ms closing)
      ∙ first.skips (after_text l ms closing)

  -- the members of a list are read, after blanks
  pub members_read : (text : List ℕ) (ms : List (List ℕ)) (xs : List X) → AllTaken turn close ms xs
      → skip_blank text ≡ skip_blank (list_text l ms closing) → read_members turn close text ≡ Some (xs, tail)
  unfolding read_members
  members_read text [] [] taken e =
      ap (λ t. members_or_close turn t (after_close close t)) (e ∙ skip_last l closing ∙ closes.still)
      ∙ ap (members_or_close turn closing) closes.closed
  members_read text [] (x ∷ xs) taken e = absurd taken
  members_read text (m ∷ ms) [] taken e = absurd taken
  members_read text (m ∷ ms) (x ∷ xs) taken e =
      let core = taken.0.core in
      let begun = taken.0.first.begun in
      let first = core ++ after_text l ms closing in
      let room = enough ms xs taken.1 in
      let one = begun_length core (after_text l ms closing) begun in
      ap (λ t. members_or_close turn t (after_close close t))
      (e ∙ members_first m core ms taken.0.first)
      ∙ ap (members_or_close turn first) (begun_open close core (after_text l ms closing) begun)
      ∙ turns_read (suc (length first)) m ms x xs taken.0 taken.1 (omega arith)

-- ---- what states the length

-- no mark of a length is at the front
abbrev pub is_unmarked : List ℕ → Bool
is_unmarked [] = true
is_unmarked (b ∷ text) = not (b == 95)

started_unmarked : (m rest : List ℕ) → IsStarted m → is_unmarked (m ++ rest) ≡ true
started_unmarked [] rest h = absurd h
started_unmarked (b ∷ m) rest h = either (b == 95) refl
  where
    either : (test : Bool) → (b == 95) ≡ test → not test ≡ true
    either false e = refl
    either true e =
        let same : b ≡ 95 = grind (arith, nat_tests, e) in
        absurd (let wrong = sym h ∙ ap (λ b. begins_item b || (b == 47)) same in cc)

ended_unmarked : (rest : List ℕ) → is_ended rest ≡ true → is_unmarked rest ≡ true
ended_unmarked [] h = refl
ended_unmarked (b ∷ rest) h = either (b == 95) refl
  where
    either : (test : Bool) → (b == 95) ≡ test → not test ≡ true
    either false e = refl
    either true e =
        let same : b ≡ 95 = grind (arith, nat_tests, e) in
        absurd (let wrong = sym h ∙ ap ends_item same in cc)

-- the members of a list and what closes it, with no mark at the front
pub list_unmarked : {X : Type 0} (turn : List ℕ → Option (List X × Bool × List ℕ)) {close : Close}
    {closing tail : List ℕ} → Closes close closing tail → (l : ContainerStyle) (ms : List (List ℕ)) (xs : List X)
    → AllTaken turn close ms xs → is_unmarked (list_text l ms closing) ≡ true
list_unmarked turn {closing = closing} closes style.Compact [] xs h = ended_unmarked closing closes.follows.ended
list_unmarked turn {closing = closing} closes (style.OneLine i) [] xs h = ended_unmarked closing closes.follows.ended
list_unmarked turn closes (style.MultiLine i) [] xs h = refl
list_unmarked turn closes l (m ∷ ms) [] h = absurd h
list_unmarked turn {closing = closing} closes style.Compact (m ∷ ms) (x ∷ xs) h =
    ap is_unmarked (list_is style.Compact m ms closing)
    ∙ started_unmarked m (after_text style.Compact ms closing) h.0.first.started
list_unmarked turn {closing = closing} closes (style.OneLine i) (m ∷ ms) (x ∷ xs) h =
    ap is_unmarked (list_is (style.OneLine i) m ms closing)
    ∙ started_unmarked m (after_text (style.OneLine i) ms closing) h.0.first.started
list_unmarked turn closes (style.MultiLine i) (m ∷ ms) (x ∷ xs) h = refl

-- a space or a line end is at the front
abbrev pub IsApart : List ℕ → Type 0
IsApart text = (rest : List ℕ) × ((text ≡ 32 ∷ rest) ⊎ (text ≡ 10 ∷ rest))

-- so it is before the members
pub gap_apart : (l : ContainerStyle) (ms : List (List ℕ)) (closing : List ℕ) → IsApart (gap l ++ list_text l ms closing)
gap_apart style.Compact ms closing = (list_text style.Compact ms closing, inl refl)
gap_apart (style.OneLine i) ms closing = (list_text (style.OneLine i) ms closing, inl refl)
gap_apart (style.MultiLine i) [] closing = (_, inr refl)
gap_apart (style.MultiLine i) (m ∷ ms) closing = (_, inr refl)

pub skip_gap : (l : ContainerStyle) (rest : List ℕ) → skip_blank (gap l ++ rest) ≡ skip_blank rest
skip_gap style.Compact rest = skip_space rest
skip_gap (style.OneLine i) rest = skip_space rest
skip_gap (style.MultiLine i) rest = refl

-- a fact that holds before a space and before a line end
by_apart : (P : List ℕ → Type 0) → ((rest : List ℕ) → P (32 ∷ rest)) → ((rest : List ℕ) → P (10 ∷ rest))
    → (text : List ℕ) → IsApart text → P text
by_apart P space feed text (rest, inl e) = subst P (sym e) (space rest)
by_apart P space feed text (rest, inr e) = subst P (sym e) (feed rest)

-- no width, where there is no mark
unmarked_length : (close : Close) (text : List ℕ) → is_unmarked text ≡ true
    → read_length close text ≡ Some (Some Unknown, text)
unmarked_length close [] h = refl
unmarked_length close (b ∷ text) h = either (b == 95) h
  where
    either : (test : Bool) → not test ≡ true
        → (if test then (stated_by (word_of (b ∷ text)) >>= λ width. ended_length close width (after_word (b ∷ text)))
        else Some (Some Unknown, b ∷ text)) ≡ Some (Some Unknown, b ∷ text)
    either true h = absurd cc
    either false h = refl

-- the width of a count, with the blank after it, and what is read of it
abbrev pub LengthRead : Close → Option IntegerWidth → List ℕ → List ℕ → Type 0
LengthRead close width text body =
    (rest : List ℕ) × (read_length close text ≡ Some (width, rest)) × (skip_blank rest ≡ skip_blank body)

mark_read : (close : Close) (l : ContainerStyle) (mark body : List ℕ) (width : Option IntegerWidth)
    → ((rest : List ℕ) → read_length close (mark ++ (32 ∷ rest)) ≡ Some (width, 32 ∷ rest))
    → ((rest : List ℕ) → read_length close (mark ++ (10 ∷ rest)) ≡ Some (width, 10 ∷ rest)) → IsApart (gap l ++ body)
    → LengthRead close width ((mark ++ gap l) ++ body) body
mark_read close l mark body width space feed apart = (
  gap l ++ body,
  ap (read_length close) (append_assoc mark (gap l) body)
      ∙ by_apart (λ t. read_length close (mark ++ t) ≡ Some (width, t)) space feed (gap l ++ body) apart,
  skip_gap l body,
)

pub width_read : (close : Close) (l : ContainerStyle) (w : IntegerWidth) (body : List ℕ) → w ≢ Zero
    → is_unmarked body ≡ true → IsApart (gap l ++ body)
    → LengthRead close (Some w) (with_gap l (indicator w) ++ body) body
unfolding word_len
width_read close l Unknown body shown plain apart = (body, unmarked_length close body plain, refl)
width_read close l Zero body shown plain apart = absurd (shown refl)
width_read close l Eight body shown plain apart =
    mark_read close l (codes "_0") body (Some Eight) (λ rest. refl) (λ rest. refl) apart
width_read close l Sixteen body shown plain apart =
    mark_read close l (codes "_1") body (Some Sixteen) (λ rest. refl) (λ rest. refl) apart
width_read close l ThirtyTwo body shown plain apart =
    mark_read close l (codes "_2") body (Some ThirtyTwo) (λ rest. refl) (λ rest. refl) apart
width_read close l SixtyFour body shown plain apart =
    mark_read close l (codes "_3") body (Some SixtyFour) (λ rest. refl) (λ rest. refl) apart

pub open_read : (close : Close) (l : ContainerStyle) (body : List ℕ) → IsApart (gap l ++ body)
    → LengthRead close None (with_gap l (codes "_") ++ body) body
unfolding word_len
open_read close l body apart = mark_read close l (codes "_") body None (λ rest. refl) (λ rest. refl) apart

either_shown : (test : Bool) (w : IntegerWidth) → w ≢ Zero → (if test then w else Unknown) ≢ Zero
either_shown true w h e = h e
either_shown false w h e = cc

-- the width that is shown is none of a number below 24 in its head
pub longer_shown : (n : ℕ) (w : IntegerWidth) → longer n w ≢ Zero
longer_shown n Unknown e = cc
longer_shown n Zero e = cc
longer_shown n Eight e = either_shown (nat_lt n 24) Eight (λ e. cc) e
longer_shown n Sixteen e = either_shown (nat_lt n (2 ^ 8)) Sixteen (λ e. cc) e
longer_shown n ThirtyTwo e = either_shown (nat_lt n (2 ^ 16)) ThirtyTwo (λ e. cc) e
longer_shown n SixtyFour e = either_shown (nat_lt n (2 ^ 32)) SixtyFour (λ e. cc) e
