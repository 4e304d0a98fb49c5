-- A text that `edn_leaves` has for an item that was read is an `IsNotedText`: no character in it is hidden, line feeds
-- are outside of quotes and comments, and it is read back as the bytes of the item, if no simple value from 24 to 31 is
-- in the item. The text of an item by RFC 8949 is read back as the input of `bytes_to_edn`.
use Rattle.std.proofs.Common.{◌≡◌, ◌≢◌, ℕ, suc, ◌-◌, List, [], ◌∷◌, ◌++◌, length, true, false, Bool, Result, Ok, Err}
use Rattle.std.proofs.Common.{IfOk, MatchResult, Some, Global, refl, sym, ap, subst, ◌∙◌, inr}
use Rattle.std.specs.String.{string_bytes}
use Rattle.std.specs.declared.string.String.{String}
use Rattle.cbor_grammar.specs.Facts.{IsItem}
use Rattle.cbor_grammar.proofs.bytes.Strict.{strict_only}
use Rattle.cbor_grammar.specs.Item.{Item}
use Rattle.cbor_grammar.specs.Reading.{read_item}
use Rattle.cbor_grammar.specs.WellFormed.{WellFormed}
use Rattle.cbor_grammar.proofs.bytes.Heads.{IsBytes}
use Rattle.cbor_grammar.proofs.bytes.Laws.{AllBytes, all_bytes-front, bytes_at}
use Rattle.cbor_grammar.proofs.bytes.Resolved.{spells_well}
use Rattle.cbor_grammar.proofs.bytes.Found.{item_takes}
use Rattle.cbor_grammar.specs.WellFormed.{levels_left}
use Rattle.cbor_notation_writer.specs.Dialect.{TextsOf, TextsAt, located, anywhere}
use Rattle.cbor_notation_writer.specs.mirror.Straight.{Written}
use Rattle.cbor_notation_writer.proofs.straight.Located.{texts_plain}
use Rattle.cbor_edn_grammar.specs.Edn.{bytes_of_edn}
use Rattle.cbor_edn_grammar.specs.Reserved.{IsItem8949}
use Rattle.cbor_edn_writer.specs.EdnLeaves.{LaidOut, NotedAt, edn_leaves, layout_of}
use Rattle.cbor_edn_writer.specs.Written.{TextsFrom, IsOutermost, IsNotedFrom, IsEdnText}
use Rattle.cbor_notes.specs.declared.note.Note.{Note}
use Rattle.cbor_edn_writer.specs.declared.print.place.EdnPlace.{EdnPlace}
use Rattle.cbor_edn_writer.specs.declared.style.EdnStyle.{EdnStyle}
use Rattle.cbor_edn_writer.proofs.back.Items.{edn_back}
use Rattle.cbor_edn_writer.proofs.writing.Runs.{is_shown}
use Rattle.cbor_edn_writer.proofs.writing.Texts.{AllowsLayout, texts_apart}

all_bytes : (b : List ℕ) → IsBytes b → AllBytes b
all_bytes [] h = tt
all_bytes (x ∷ b) h = (h 0, all_bytes b (λ i. h (suc i)))

-- an item that is read is well formed
pub read_well : (b : List ℕ) (i : Item) (rest : List ℕ) → IsBytes b → read_item 128 b ≡ Ok (i, rest) → WellFormed 1 i
read_well b i rest bytes is =
    let s = item_takes 1 128 b i rest refl bytes is in
    let both = all_bytes (s.front ++ rest) (subst IsBytes s.parts bytes) in
    spells_well 1 s.front i (bytes_at s.front (all_bytes-front s.front rest both)) s.spells

allowed : (lines : Bool) → AllowsLayout lines (layout_of lines)
allowed true = refl
allowed false = tt

-- an item that may get a note is laid out like any other
noted_may : (p : EdnPlace) (left : ℕ) (q : EdnPlace) → NotedAt p left q → LaidOut p q
noted_may p left q (line, found) = (line, inr (p.end - left, found))

-- a text of an item at its place is one of the item
pub text_from : (notes : List Note) (p : EdnPlace) (b : List ℕ) (i : Item) (t : List ℕ) → TextsFrom notes p b i t
    → TextsAt edn_leaves p i t
text_from [] p b i t h = h
text_from (n ∷ ns) p b i t h = texts_plain edn_leaves NotedAt noted_may (levels_left p.level) (p, b) i t h

-- what is written without notes, and with some
none_from : (notes : List Note) (p : EdnPlace) (b : List ℕ) (i : Item) (t : List ℕ) → length notes ≡ 0
    → TextsAt edn_leaves p i t → TextsFrom notes p b i t
none_from [] p b i t none h = h
none_from (n ∷ ns) p b i t none h = absurd cc

some_from : (notes : List Note) (p : EdnPlace) (b : List ℕ) (i : Item) (t : List ℕ) → length notes ≢ 0
    → TextsAt (located edn_leaves NotedAt) (p, b) i t → TextsFrom notes p b i t
some_from [] p b i t some h = absurd (some refl)
some_from (n ∷ ns) p b i t some h = h

module _ (style : EdnStyle) (notes : List Note) (p : EdnPlace) (b : List ℕ)
    (outermost : IsOutermost style notes (length b) p) (bytes : IsBytes b) where
  is_edn : (i : Item) (rest t : List ℕ) → read_item 128 b ≡ Ok (i, rest) → TextsFrom notes p b i t
      → IsNotedFrom b style notes i t
  is_edn i rest t is from =
      let text = text_from notes p b i t from in
      let well = read_well b i rest bytes is in
      let apart = texts_apart style.lines 1 128 refl p i t
      (subst (AllowsLayout style.lines) (sym outermost.layout) (allowed style.lines)) well
      (subst (λ l. TextsOf edn_leaves (levels_left l) p i t) outermost.level text) in (
        record {
          place = p;
          bytes = b;
          rest = rest;
          read = is;
          outermost = outermost;
          written = from;
          read_back = λ free. edn_back p i t outermost.level well free text;
          shown = is_shown apart;
          breaks = apart.breaks;
        },
        refl,
      )

  pub edn_so : {A E : Type 0} (r : Result A E) (f : A → List ℕ) (old new : List ℕ) → length notes ≡ 0
      → IfOk r (λ x. Written (TextsAt (located edn_leaves (anywhere edn_leaves)) (p, b)) (read_item 128 b) (f x) old
      new)
      → IfOk r (λ x. Written (IsNotedFrom b style notes) (read_item 128 b) (f x) old new)
  edn_so (Ok x) f old new none (i, is, t, text, written) =
      let plain = texts_plain edn_leaves (anywhere edn_leaves) (λ p left q at. at) (levels_left p.level) (p, b) i t
      text in
      (i, is, t, is_edn i (f x) t is (none_from notes p b i t none plain), written)
  edn_so (Err e) f old new none h = tt

  pub noted_so : {A E : Type 0} (r : Result A E) (f : A → List ℕ) (old new : List ℕ) → length notes ≢ 0
      → IfOk r (λ x. Written (TextsAt (located edn_leaves NotedAt) (p, b)) (read_item 128 b) (f x) old new)
      → IfOk r (λ x. Written (IsNotedFrom b style notes) (read_item 128 b) (f x) old new)
  noted_so (Ok x) f old new some (i, is, t, text, written) =
      (i, is, t, is_edn i (f x) t is (some_from notes p b i t some text), written)
  noted_so (Err e) f old new some h = tt

-- of an item by RFC 8949 the text is read back as its bytes
pub kept : {E : Type 0} (style : EdnStyle) (b : List ℕ) (i : Item) (r : Result (String Global) E) (other : E → Type 0)
    → ((i : Item) → IsItem b i → MatchResult r (λ s. IsEdnText style i (string_bytes s)) other) → IsItem8949 b i
    → IfOk r (λ s. bytes_of_edn (string_bytes s) ≡ Some b)
kept style b i (Ok s) other every is =
    (every i is.0).read_back is.2 ∙ sym (ap Some (strict_only 1 b i is.1))
kept style b i (Err e) other every is = tt
