-- In EDN, the texts of several items, each with a line feed after it, are read back as the encodings of these items in
-- order (`items_back`), if each item is well formed and has no simple value from 24 to 31 in it.
use Rattle.std.proofs.Common.{◌≡◌, inl, inr, ℕ, zero, suc, ◌-◌, ◌<◌, ◌≤◌, List, [], ◌∷◌, ◌++◌, length, take, Option}
use Rattle.std.proofs.Common.{Some, None, Bool, true, false, ◌&&◌, ◌||◌, if◌then◌else◌, not, nat_eq}
use Rattle.std.proofs.Common.{refl, sym, ap, subst, ◌∙◌, append_assoc, length-append, arith}
use Rattle.std.proofs.lemmas.List.{take_at}
use Rattle.std.proofs.lemmas.List.Folds.{list_any-append}
use Rattle.std.specs.List.{AllByRecursion, flat_map, list_any}
use Rattle.cbor_grammar.specs.Item.{Item, Items, no_items, item, items_of}
use Rattle.cbor_grammar.specs.WellFormed.{WellFormed, WellFormedItems, levels_left}
use Rattle.cbor_grammar.specs.Written.{encoded_items}
use Rattle.cbor_notation_writer.specs.Dialect.{TextsOf, TextsAt}
use Rattle.cbor_edn_grammar.specs.declared.close.Close.TheVariants.{End}
use Rattle.cbor_edn_grammar.specs.Reserved.{NoneReserved, NoneReservedItems}
use Rattle.cbor_edn_writer.specs.declared.print.place.EdnPlace.{EdnPlace}
use Rattle.cbor_edn_writer.specs.declared.style.EdnStyle.{EdnStyle}
use Rattle.cbor_edn_grammar.specs.Blank.{skip_blank, is_apart}
use Rattle.cbor_edn_grammar.specs.Edn.{bytes_of_edn}
use Rattle.cbor_edn_writer.specs.EdnLeaves.{edn_leaves}
use Rattle.cbor_edn_writer.proofs.Comments.{AnyNote}
use Rattle.cbor_edn_grammar.specs.Items.{item_turn, read_item}
use Rattle.cbor_edn_writer.specs.Lines.{AreEdnLines}
use Rattle.cbor_edn_grammar.specs.Lists.{after_close, ends_line, separated_by, closed_by, separated, members_or_close}
use Rattle.cbor_edn_grammar.specs.Lists.{read_members}
use Rattle.cbor_edn_grammar.specs.Reading.{Read, ◌>>=◌, after_byte, with_later, turns}
use Rattle.cbor_edn_grammar.specs.Strings.{is_sign_of, joins, begins_string}
use Rattle.cbor_edn_writer.proofs.back.Reads.{AreNotes, Follows, IsBegun}
use Rattle.cbor_edn_grammar.proofs.Words.{skip_none}
use Rattle.cbor_edn_writer.proofs.back.Blanks.{skip_feed, skip_notes, joined_if, begun_not}
use Rattle.cbor_edn_writer.proofs.back.Lists.{begun_open, Parts, Skips, Takes, AllTaken}
use Rattle.cbor_edn_writer.proofs.back.Containers.{ItemsRead, no_items_read, more_items_read}
use Rattle.cbor_edn_writer.proofs.back.Items.{reads_back}

-- ---- between lines

-- a line ends between a text and what comes after its line feed and a note
ends_after : (front note next : List ℕ) → ends_line (front ++ (10 ∷ (note ++ next))) next ≡ true
ends_after front note next =
    let text = front ++ (10 ∷ (note ++ next)) in
    let parts = append_assoc front (10 ∷ note) next in
    ap (λ t. list_any (λ b. nat_eq b 10) (take (length text - length next) t)) (sym parts)
    ∙ ap (list_any (λ b. nat_eq b 10))
    (take_at (front ++ 10 ∷ note) next (length text - length next)
    (omega (arith, ap length parts, length-append (front ++ 10 ∷ note) next)))
    ∙ list_any-append (λ b. nat_eq b 10) front (10 ∷ note) ∙ either (list_any (λ b. nat_eq b 10) front)
  where
    either : (test : Bool) → (test || true) ≡ true
    either true = refl
    either false = refl

-- a blank is before the line's end, or the line feed is one
note_apart : (note rest : List ℕ) → AnyNote note → is_apart rest ≡ true → is_apart (note ++ rest) ≡ true
note_apart note rest (inl none) h = ap (λ t. is_apart (t ++ rest)) none ∙ h
note_apart note rest (inr some) h = ap (λ t. is_apart (t ++ rest)) some.2

line_apart : (notes rest : List ℕ) → AreNotes notes → is_apart (notes ++ (10 ∷ rest)) ≡ true
line_apart notes rest (a, b, first, second, is) =
    ap (λ t. is_apart (t ++ (10 ∷ rest))) is ∙ ap is_apart (append_assoc a b (10 ∷ rest))
    ∙ note_apart a (b ++ (10 ∷ rest)) first (note_apart b (10 ∷ rest) second refl)

-- the first byte of an item is no sign that joins it, and no comma
begun_alone : (text m rest : List ℕ) → IsBegun m → (joins text (m ++ rest)).0 ≡ false
begun_alone text [] rest h = absurd h
begun_alone text (b ∷ m) rest h =
    ap (λ t. (joined_if (t && not (is_sign_of (m ++ rest))) (m ++ rest) text).0) (begun_not b 43 h refl)

no_comma : (m rest : List ℕ) → IsBegun m → after_byte 44 (m ++ rest) ≡ None
no_comma [] rest h = absurd h
no_comma (b ∷ m) rest h = ap (λ t. if t then Some (m ++ rest) else None) (begun_not b 44 h refl)

skip_to : (m core rest : List ℕ) → Skips m core → skip_blank (10 ∷ (m ++ rest)) ≡ core ++ rest
skip_to m core rest first = skip_feed (m ++ rest) ∙ first.skips rest

next_line : (m core rest : List ℕ) (first : Skips m core) → m ++ rest ≡ first.before ++ (core ++ rest)
next_line m core rest first = ap (λ m. m ++ rest) first.parts ∙ append_assoc first.before core rest

next_follows : (m core rest : List ℕ) → Skips m core → Follows (10 ∷ (m ++ rest))
next_follows m core rest first = record {
  ended = refl;
  alone = ap (λ t. (joins (10 ∷ (m ++ rest)) t).0) (skip_to m core rest first)
      ∙ begun_alone (10 ∷ (m ++ rest)) core rest first.begun;
}

-- another item follows, where it is apart enough
abbrev if_apart : Bool → List ℕ → Read Bool
if_apart test next = if test then Some (true, next) else None

-- the next line's item is another one, without a comma, and even where both are strings
next_parts : (m core rest : List ℕ) → Skips m core → Parts End (10 ∷ (m ++ rest)) true (core ++ rest)
unfolding separated
next_parts m core rest first is_string note any =
    let line = m ++ rest in
    let next = core ++ rest in
    let text = note ++ (10 ∷ line) in
    ap (λ t. closed_by End is_string text t (after_close End t))
    (skip_notes note (10 ∷ line) any ∙ skip_to m core rest first)
    ∙ ap (closed_by End is_string text next) (begun_open End core rest first.begun)
    ∙ ap (separated_by End is_string text next) (no_comma core rest first.begun)
    ∙ ap (λ t. if_apart (t && not (is_string && (begins_string next && not (ends_line text next)))) next)
    (line_apart note line any)
    ∙ ap (λ t. if_apart (not (is_string && (begins_string next && not t))) next)
    (ap (λ m. ends_line (note ++ (10 ∷ m)) next) (next_line m core rest first) ∙ ends_after note first.before next)
    ∙ either is_string (begins_string next)
  where
    either : (a b : Bool) → if_apart (not (a && (b && false))) (core ++ rest) ≡ Some (true, core ++ rest)
    either true true = refl
    either true false = refl
    either false b = refl

-- after the last line feed nothing is left
skip_last : skip_blank (10 ∷ []) ≡ []
skip_last = skip_feed [] ∙ skip_none [] refl

last_follows : Follows (10 ∷ [])
last_follows = record { ended = refl; alone = ap (λ t. (joins (10 ∷ []) t).0) skip_last }

last_parts : Parts End (10 ∷ []) false []
unfolding separated
last_parts is_string note any =
    ap (λ t. closed_by End is_string (note ++ (10 ∷ [])) t (after_close End t))
    (skip_notes note (10 ∷ []) any ∙ skip_last)

-- ---- lines

-- these texts, each with a line feed after it
abbrev pub lines_of : List (List ℕ) → List ℕ
lines_of ts = flat_map (λ t. t ++ 10 ∷ []) ts

first_line : (t : List ℕ) (ts : List (List ℕ)) → lines_of (t ∷ ts) ≡ t ++ (10 ∷ lines_of ts)
first_line t ts = append_assoc t (10 ∷ []) (lines_of ts)

-- each line has a byte at least
enough : (ts : List (List ℕ)) → length ts ≤ length (lines_of ts)
enough [] = omega arith
enough (t ∷ ts) =
    omega (arith, enough ts, ap length (first_line t ts), length-append t (10 ∷ lines_of ts))

module _ {X : Type 0} (turn : List ℕ → Option (List X × Bool × List ℕ)) where
  line_turns : (n : ℕ) (t : List ℕ) (ts : List (List ℕ)) (x : X) (xs : List X) (first : Takes turn End t x)
      → AllTaken turn End ts xs → length ts < n → turns turn n (first.core ++ (10 ∷ lines_of ts)) ≡ Some (x ∷ xs, [])
  unfolding turns
  line_turns zero t ts x xs first later lt = absurd (omega arith)
  line_turns (suc n) t [] x [] first later lt =
      ap (λ r. r >>= with_later (turns turn n)) (first.takes (10 ∷ []) [] false last_follows last_parts)
  line_turns (suc n) t [] x (y ∷ xs) first later lt = absurd later
  line_turns (suc n) t (t2 ∷ ts) x [] first later lt = absurd later
  line_turns (suc n) t (t2 ∷ ts) x (y ∷ xs) first later lt =
      let rest = 10 ∷ lines_of ts in
      let next = later.0.core in
      ap (λ r. turns turn (suc n) (first.core ++ (10 ∷ r))) (first_line t2 ts)
      ∙ ap (λ r. r >>= with_later (turns turn n))
      (first.takes (10 ∷ (t2 ++ rest)) (next ++ rest) true (next_follows t2 next rest later.0.first)
      (next_parts t2 next rest later.0.first))
      ∙ ap (λ r. r >>= λ more. Some ((x ∷ []) ++ more.0, more.1))
      (line_turns n t2 ts y xs later.0 later.1 (omega arith))

  pub lines_read : (ts : List (List ℕ)) (xs : List X) → AllTaken turn End ts xs
      → read_members turn End (lines_of ts) ≡ Some (xs, [])
  unfolding read_members
  lines_read [] [] taken = ap (λ t. members_or_close turn t (after_close End t)) (skip_none [] refl)
  lines_read [] (x ∷ xs) taken = absurd taken
  lines_read (t ∷ ts) [] taken = absurd taken
  lines_read (t ∷ ts) (x ∷ xs) taken =
      let rest = 10 ∷ lines_of ts in
      let core = taken.0.core in
      ap (λ t. members_or_close turn t (after_close End t))
      (ap skip_blank (first_line t ts) ∙ taken.0.first.skips rest)
      ∙ ap (members_or_close turn (core ++ rest)) (begun_open End core rest taken.0.first.begun)
      ∙ line_turns (suc (length (core ++ rest))) t ts x xs taken.0 taken.1
      (omega (arith, enough ts, length-append core rest))

-- ---- items

-- each text is one of its item, at a place where an outermost item stands
abbrev pub AreTextsOf : Items → List (List ℕ) → Type 0
AreTextsOf no_items [] = Unit {0}
AreTextsOf no_items (t ∷ ts) = ⊥
AreTextsOf (item i is) [] = ⊥
AreTextsOf (item i is) (t ∷ ts) =
    ((p : EdnPlace) × (p.level ≡ 1) × TextsAt edn_leaves p i t) × AreTextsOf is ts

texts_read : (is : Items) (ts : List (List ℕ)) → WellFormedItems 1 is → NoneReservedItems is → AreTextsOf is ts
    → ItemsRead 128 End is ts
texts_read no_items [] well free h = no_items_read 128 End
texts_read no_items (t ∷ ts) well free h = absurd h
texts_read (item i is) [] well free h = absurd h
texts_read (item i is) (t ∷ ts) well free ((p, at, text), more) =
    let here : TextsOf edn_leaves 128 p i t = subst (λ n. TextsOf edn_leaves (levels_left n) p i t) at text in
    more_items_read 128 End i is t ts (reads_back 1 128 refl p at i t well.0 free.0 here)
    (texts_read is ts well.1 free.1 more)

-- texts on lines are read back as the encoding of the items that they were written for, one after the other
pub lines_back : (is : Items) (ts : List (List ℕ)) → WellFormedItems 1 is → NoneReservedItems is → AreTextsOf is ts
    → bytes_of_edn (lines_of ts) ≡ Some (encoded_items is)
lines_back is ts well free h =
    let rs = texts_read is ts well free h in
    ap (λ x. (x >>= λ is. Some is.0) >>= λ items. Some (encoded_items (items_of items)))
    (lines_read (item_turn (read_item 128) End) ts rs.items rs.taken)
    ∙ ap (λ e. Some e) rs.same

-- ---- items in a style

pub all_well : (is : List Item) → AllByRecursion (WellFormed 1) is → WellFormedItems 1 (items_of is)
all_well [] well = tt
all_well (i ∷ is) well = (well.0, all_well is well.1)

pub all_free : (is : List Item) → AllByRecursion NoneReserved is → NoneReservedItems (items_of is)
all_free [] free = tt
all_free (i ∷ is) free = (free.0, all_free is free.1)

-- the texts of the items on lines
record Split (is : List Item) (text : List ℕ) : Type 0 where
  pub texts : List (List ℕ)
  pub whole : text ≡ lines_of texts
  pub each : AreTextsOf (items_of is) texts

split : (style : EdnStyle) (is : List Item) (text : List ℕ) → AreEdnLines style is text → Split is text
split style [] text is = record { texts = []; whole = is; each = tt }
split style (i ∷ is) text (first, more, whole, written, later) =
    let rest = split style is more later in
    record {
      texts = first ∷ rest.texts;
      whole = whole ∙ ap (λ t. first ++ (10 ∷ t)) rest.whole ∙ sym (first_line first rest.texts);
      each = ((written.place, written.outermost.level, written.written), rest.each);
    }

pub items_back : (style : EdnStyle) (is : List Item) (text : List ℕ) → AllByRecursion (WellFormed 1) is
    → AllByRecursion NoneReserved is → AreEdnLines style is text → bytes_of_edn text
    ≡ Some (encoded_items (items_of is))
items_back style is text well free written =
    let parts = split style is text written in
    ap bytes_of_edn parts.whole ∙ lines_back (items_of is) parts.texts (all_well is well) (all_free is free)
    parts.each
