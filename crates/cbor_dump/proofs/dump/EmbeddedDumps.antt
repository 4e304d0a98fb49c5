-- For `embedded_sequence`: after each item, its note is written and the notes on the rest of the bytes are left
-- (`SequenceLeft`); if no bytes are left, or the rest begins with no item and its error is noted, all notes are
-- written. For `embedded_item`: `whole_note` has the dump of an item that is all of the bytes, or the error of reading.
use Rattle.std.proofs.Common.{◌≡◌, ℕ, zero, suc, ◌<◌, ◌≤◌, List, [], ◌∷◌, ◌++◌, length}
use Rattle.std.proofs.Common.{codes, Ok, Err, refl, ap, subst, ◌∙◌, arith}
use Rattle.std.specs.List.{flat_map}
use Rattle.cbor_notes.specs.Layout.{DumpLine}
use Rattle.cbor_grammar.specs.declared.error.Error.{Error}
use Rattle.cbor_grammar.specs.declared.error.Error.TheVariants as refusal
use Rattle.cbor_dump.specs.declared.writer.Writer.{Writer}
use Rattle.cbor_grammar.specs.Item.{Item}
use Rattle.cbor_grammar.specs.Embedded.{and_then, sequence_of, before as item_before}
use Rattle.cbor_grammar.specs.WellFormed.{levels_left}
use Rattle.cbor_dump.specs.Notes.{Note}
use Rattle.cbor_dump.specs.Dump.{note_lines, sequence_notes, failed_note, embedded_note, lines_at}
use Rattle.cbor_dump.specs.Dump.{lines_at_level, top, whole_note}
use Rattle.cbor_grammar.specs.Reading.{Read, read_item}
use Rattle.cbor_dump.specs.mirror.Dumped.{Wrote}
use Rattle.cbor_grammar.proofs.bytes.Found.{item_takes}
use Rattle.cbor_grammar.proofs.bytes.Heads.{IsBytes}
use Rattle.cbor_grammar.proofs.bytes.Refusals.{item_nothing}
use Rattle.cbor_grammar.proofs.bytes.Shorter.{item_shorter}
use Rattle.cbor_dump.proofs.dump.Walks.{Left, left_less, left_none}

-- ---- a sequence

abbrev pub sequence_dumps : ℕ → List ℕ → ℕ → List Note
sequence_dumps level rest steps = sequence_notes (levels_left level) (lines_at_level level top 0)
    (sequence_of (read_item (levels_left level)) steps rest)

-- Of a sequence, these bytes are left, and the items before are written.
pub record SequenceLeft (level depth : ℕ) (old now : Writer) (rest : List ℕ) (all : List DumpLine) : Type 0 where
  pub steps : ℕ
  pub enough : length rest ≤ steps
  pub bytes : IsBytes rest
  pub left : Left old now (flat_map (note_lines depth) (sequence_dumps level rest steps)) all

module _ (level depth : ℕ) (le : level ≤ 129) (old now : Writer) (rest : List ℕ) (all : List DumpLine) where
  abbrev left : ℕ
  left = levels_left level

  abbrev dump : Item → List DumpLine
  dump = lines_at left top 0

  -- an item more was read
  more_of : (steps : ℕ) (i : Item) (after : List ℕ) → length rest ≤ steps → length after < length rest
      → read_item left rest ≡ Ok (i, after)
      → (m : ℕ) × (length after ≤ m)
      × (sequence_of (read_item left) steps rest ≡ item_before i (sequence_of (read_item left) m after))
  unfolding sequence_of
  more_of zero i after enough shorter e = absurd (omega arith)
  more_of (suc m) i after enough shorter e = (m, omega arith, rw e refl)

  pub sequence_more : SequenceLeft level depth old now rest all → (i : Item) (after : List ℕ) (next : Writer)
      → read_item left rest ≡ Ok (i, after) → Wrote now next (note_lines depth (embedded_note (dump i)))
      → SequenceLeft level depth old next after all × (length after < length rest)
  sequence_more s i after next e wrote =
      let shorter = item_shorter left rest i after e in
      let m = more_of s.steps i after s.enough shorter e in
      let others = flat_map (note_lines depth) (sequence_dumps level after m.0) in
      let split = ap (λ x. flat_map (note_lines depth) (sequence_notes left dump x)) m.2 in (
        record {
          steps = m.0;
          enough = m.1;
          bytes = (item_takes level left rest i after (omega arith) s.bytes e).rest_bytes;
          left = left_less (flat_map (note_lines depth) (sequence_dumps level rest s.steps))
              (note_lines depth (embedded_note (dump i))) others split old now next all wrote s.left;
        },
        shorter,
      )

  -- none more can be
  none_of : (steps : ℕ) (e : Error) → read_item left rest ≡ Err e
      → sequence_dumps level rest steps ≡ sequence_notes left dump (sequence_of (read_item left) zero rest)
  unfolding sequence_of
  none_of zero e h = refl
  none_of (suc n) e h = ap (λ read. sequence_notes left dump
      (and_then (sequence_of (read_item left) n) rest read)) h

  nothing_left : rest ≡ []
      → flat_map (note_lines depth) (sequence_notes left dump (sequence_of (read_item left) zero rest)) ≡ []
  unfolding sequence_of
  nothing_left empty = rw empty refl

  pub sequence_empty : SequenceLeft level depth old now rest all → rest ≡ [] → Wrote old now all
  sequence_empty s empty =
      let ends : read_item left rest ≡ Err refusal.CutShort = ap (read_item left) empty ∙ item_nothing left in
      let none = ap (flat_map (note_lines depth)) (none_of s.steps refusal.CutShort ends) ∙ nothing_left empty in
      left_none old now all (subst (λ ls. Left old now ls all) none s.left)

  failed_of : (bytes : List ℕ) (e : Error) → 0 < length bytes → read_item left bytes ≡ Err e
      → flat_map (note_lines depth) (sequence_notes left dump (sequence_of (read_item left) zero bytes))
      ≡ note_lines depth (failed_note (codes "failed to parse remaining encoded cbor sequence") e) ++ []
  unfolding sequence_of
  failed_of [] e some h = absurd (omega arith)
  failed_of (b ∷ bytes) e some h = rw h refl

  pub sequence_failed : SequenceLeft level depth old now rest all → (e : Error) (next : Writer) → 0 < length rest
      → read_item left rest ≡ Err e
      → Wrote now next (note_lines depth (failed_note (codes "failed to parse remaining encoded cbor sequence") e))
      → Wrote old next all
  sequence_failed s e next some h wrote =
      let last = ap (flat_map (note_lines depth)) (none_of s.steps e h) ∙ failed_of rest e some h in
      left_none old next all (left_less _
      (note_lines depth (failed_note (codes "failed to parse remaining encoded cbor sequence") e)) [] last old now next
      all wrote s.left)

-- ---- one item

module _ (dump : Item → List DumpLine) where
  pub whole_dumped : (read : Read Item) (i : Item) → read ≡ Ok (i, []) → whole_note dump read ≡ embedded_note (dump i)
  whole_dumped read i e = ap (whole_note dump) e

  pub whole_failed : (read : Read Item) (e : Error) → read ≡ Err e
      → whole_note dump read ≡ failed_note (codes "failed to parse encoded cbor data item") e
  whole_failed read e h = ap (whole_note dump) h
