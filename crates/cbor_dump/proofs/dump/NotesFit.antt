-- All lines of the notes on a well-formed item (`notes_lines`) are good (`IsGood`), if the dumps of well-formed
-- embedded items are and the depth is below 139. A plain line of an embedded dump, as a text (`row`), has no line feed.
use Rattle.std.proofs.Common.{◌≡◌, ℕ, suc, ◌+◌, ◌-◌, ◌*◌, ◌==◌, ◌<◌, true, false, cond, IfSome, Ok, Err, List, [], ◌∷◌}
use Rattle.std.proofs.Common.{◌++◌, map, length, codes, Option, Some, None, refl, ap, arith}
use Rattle.std.specs.List.{AllByRecursion, flat_map}
use Rattle.std.specs.Option.{option_to_list}
use Rattle.cbor_notes.specs.Layout.{DumpLine, blanks, left_column, reach, row, width_of}
use Rattle.cbor_notes.specs.Columns.{IsPlain}
use Rattle.cbor_tokens.specs.Uncommented.{Lacks}
use Rattle.cbor_notes.proofs.columns.OneLine.{Free, from_test, free_both, free_cond, free_same, lacks_of}
use Rattle.cbor_tokens.proofs.texts.HexLemmas.{IsAscii-from_test}
use Rattle.cbor_notes.proofs.columns.Trees.{all_both}
use Rattle.cbor_grammar.specs.declared.error.Error.{Error}
use Rattle.cbor_grammar.specs.declared.error.Error.TheVariants as refusal
use Rattle.cbor_grammar.specs.Item.{string, Item, atom, Items, no_items, item}
use Rattle.cbor_grammar.specs.declared.strings.StringKind.TheVariants.{Bytes}
use Rattle.cbor_grammar.specs.WellFormed.{WellFormed, WellFormedItems}
use Rattle.cbor_dump.specs.Dump.{note_line, note_lines, notes, notes_lines, embedded_note, failed_note, whole_note}
use Rattle.cbor_dump.specs.Dump.{items_notes, rest_note, sequence_notes, bytes_in, encoded_item_note}
use Rattle.cbor_dump.specs.Dump.{encoded_sequence_notes}
use Rattle.cbor_grammar.specs.Embedded.{if_whole, sequence_at}
use Rattle.cbor_dump.specs.Notes.{Note, value_note}
use Rattle.cbor_grammar.specs.Reading.{Read, read_item}
use Rattle.cbor_grammar.specs.Refusals.{text_of}
use Rattle.cbor_grammar.proofs.shared.EmbeddedItems.{embedded_spells, sequence_spells}
use Rattle.cbor_grammar.proofs.bytes.Laws.{AllBytes, bytes_at}
use Rattle.cbor_bytes.proofs.bytes.WellFormed.{items_well}
use Rattle.cbor_grammar.proofs.bytes.Resolved.{spells_well}
use Rattle.cbor_dump.proofs.dump.NoteTexts.{FreeNote, value_note_line}
use Rattle.cbor_dump.proofs.dump.Fits.{IsGood, blank_feed}

note_fits : (depth : ℕ) (text : List ℕ) → depth < 140 → Free 10 text → IsGood (note_line depth text)
note_fits depth text low said = record {
  fit = record { level = low; short = omega arith; ascii = IsAscii-from_test [] refl };
  plain = record { no_hash = lacks_of 35 [] tt; no_feed = lacks_of 10 [] tt; one_line = lacks_of 10 text said };
}

texts_fit : (depth : ℕ) (texts : List (List ℕ)) → depth < 140 → AllByRecursion (Free 10) texts
    → AllByRecursion IsGood (map (note_line depth) texts)
texts_fit depth [] low said = tt
texts_fit depth (text ∷ texts) low said = (note_fits depth text low said.0, texts_fit depth texts low said.1)

one_note_fits : (depth : ℕ) (note : Note) → depth + 1 < 140 → FreeNote note
    → AllByRecursion IsGood (note_lines depth note)
one_note_fits depth note low said =
    (note_fits depth note.text (omega arith) said.0, texts_fit (depth + 1) note.below low said.1)

all_notes_fit : (depth : ℕ) (all : List Note) → depth + 1 < 140
    → AllByRecursion FreeNote all → AllByRecursion IsGood (flat_map (note_lines depth) all)
all_notes_fit depth [] low said = tt
all_notes_fit depth (n ∷ ns) low said =
    all_both IsGood (note_lines depth n) (flat_map (note_lines depth) ns) (one_note_fits depth n low said.0)
    (all_notes_fit depth ns low said.1)

free_option : (note : Option Note) → IfSome note FreeNote → AllByRecursion FreeNote (option_to_list note)
free_option (Some note) said = (said, tt)
free_option None said = tt

-- ---- what is embedded

free_of : (c : ℕ) (text : List ℕ) → Lacks c text → Free c text
free_of c [] h = tt
free_of c (b ∷ text) h = (h 0 0 (omega arith), free_of c text (λ k d below. h (suc k) d (omega arith)))

-- a line of a dump, as a text
pub row_line : (width : ℕ) (line : DumpLine) → IsPlain line → Free 10 (row width line)
row_line width line plain =
    let hex = free_of 10 line.hex plain.no_feed in
    let left = free_cond 10 (length line.hex == 0) (blanks width)
    ((blanks (3 * line.depth) ++ line.hex) ++ blanks (width - reach line)) (free_same 10 32 width blank_feed)
    (free_both 10 (blanks (3 * line.depth) ++ line.hex) (blanks (width - reach line))
    (free_both 10 (blanks (3 * line.depth)) line.hex (free_same 10 32 (3 * line.depth) blank_feed) hex)
    (free_same 10 32 (width - reach line) blank_feed)) in
    free_both 10 ((left_column width line ++ codes " # ") ++ blanks (2 * line.depth)) line.comment
    (free_both 10 (left_column width line ++ codes " # ") (blanks (2 * line.depth))
    (free_both 10 (left_column width line) (codes " # ") left (from_test 10 (codes " # ") refl))
    (free_same 10 32 (2 * line.depth) blank_feed))
    (free_of 10 line.comment plain.one_line)

rows_line : (width : ℕ) (lines : List DumpLine) → AllByRecursion IsGood lines
    → AllByRecursion (Free 10) (map (row width) lines)
rows_line width [] good = tt
rows_line width (line ∷ lines) good = (row_line width line good.0.plain, rows_line width lines good.1)

embedded_line : (lines : List DumpLine) → AllByRecursion IsGood lines → FreeNote (embedded_note lines)
embedded_line lines good = (from_test 10 (codes "encoded cbor data item") refl, rows_line (width_of lines) lines good)

error_line : (e : Error) → Free 10 (text_of e)
error_line refusal.Memory = from_test 10 (text_of refusal.Memory) refl
error_line refusal.CutShort = from_test 10 (text_of refusal.CutShort) refl
error_line refusal.Head = from_test 10 (text_of refusal.Head) refl
error_line refusal.Utf8 = from_test 10 (text_of refusal.Utf8) refl
error_line refusal.TooDeep = from_test 10 (text_of refusal.TooDeep) refl
error_line refusal.Remaining = from_test 10 (text_of refusal.Remaining) refl
error_line refusal.OddHex = from_test 10 (text_of refusal.OddHex) refl
error_line refusal.BadHex = from_test 10 (text_of refusal.BadHex) refl
error_line refusal.Notation = from_test 10 (text_of refusal.Notation) refl
error_line refusal.PastWidth = from_test 10 (text_of refusal.PastWidth) refl

failed_line : (what : List ℕ) (e : Error) → Free 10 what → FreeNote (failed_note what e)
failed_line what e said = (said, (error_line e, tt))

item_failed : (e : Error) → FreeNote (failed_note (codes "failed to parse encoded cbor data item") e)
item_failed e = failed_line (codes "failed to parse encoded cbor data item") e
    (from_test 10 (codes "failed to parse encoded cbor data item") refl)

whole_line : (dump : Item → List DumpLine) (read : Read Item)
    → ((e : Item) → read ≡ Ok (e, []) → AllByRecursion IsGood (dump e))
    → FreeNote (whole_note dump read)
whole_line dump (Ok (i, [])) good = embedded_line (dump i) (good i refl)
whole_line dump (Ok (i, b ∷ rest)) good = item_failed refusal.Remaining
whole_line dump (Err e) good = item_failed e

rest_line : (rest : List ℕ) (read : Read Item) → IfSome (rest_note rest read) FreeNote
rest_line [] read = tt
rest_line (b ∷ rest) (Ok x) = tt
rest_line (b ∷ rest) (Err e) =
    failed_line (codes "failed to parse remaining encoded cbor sequence") e
    (from_test 10 (codes "failed to parse remaining encoded cbor sequence") refl)

-- a byte string that is well formed has bytes
bytes_well : (level : ℕ) (i : Item) → WellFormed level i → IfSome (bytes_in i) AllBytes
bytes_well level (atom (string Bytes c)) well = well.1.bytes
bytes_well level i well = tt

-- what is embedded is at a level, and its dump is good
module _ (level left : ℕ) (levels : level + left ≡ 129) (dump : Item → List DumpLine) (each : (e : Item)
    → WellFormed level e → AllByRecursion IsGood (dump e)) where
  item_embedded : (b : List ℕ) → AllBytes b → FreeNote (whole_note dump (read_item left b))
  item_embedded b all =
      whole_line dump (read_item left b) (λ e is. each e
      (spells_well level b e (bytes_at b all)
      (embedded_spells level left b e levels (bytes_at b all) (ap if_whole is))))

  items_embedded : (is : Items) → WellFormedItems level is → (rest : Option Note) → IfSome rest FreeNote
      → AllByRecursion FreeNote (items_notes dump is ++ option_to_list rest)
  items_embedded no_items well rest said = free_option rest said
  items_embedded (item i is) well rest said =
      (embedded_line (dump i) (each i well.0), items_embedded is well.1 rest said)

  sequence_embedded : (b : List ℕ) → AllBytes b
      → AllByRecursion FreeNote (sequence_notes left dump (sequence_at left b))
  sequence_embedded b all =
      let s = sequence_at left b in
      let so = sequence_spells level left levels (length b) b (omega arith) (bytes_at b all) in
      items_embedded s.0 (items_well level s.0 b s.1 all so.spelled_so).0 (rest_note s.1 (read_item left s.1))
      (rest_line s.1 (read_item left s.1))

  encoded_item_line : (bytes : Option (List ℕ)) → IfSome bytes AllBytes
      → FreeNote (encoded_item_note left dump bytes)
  encoded_item_line (Some b) all = item_embedded b all
  encoded_item_line None all = (from_test 10 (codes "invalid type for encoded cbor data item") refl, tt)

  encoded_sequence_line : (bytes : Option (List ℕ)) → IfSome bytes AllBytes
      → AllByRecursion FreeNote (encoded_sequence_notes left dump bytes)
  encoded_sequence_line (Some b) all = sequence_embedded b all
  encoded_sequence_line None all = ((from_test 10 (codes "invalid type for encoded cbor sequence") refl, tt), tt)

  notes_line : (above known t : ℕ) (i : Item) → WellFormed above i
      → AllByRecursion FreeNote (notes left dump known t i)
  notes_line above known t i well =
      let of_item : AllByRecursion FreeNote (encoded_item_note left dump (bytes_in i) ∷ []) =
      (encoded_item_line (bytes_in i) (bytes_well above i well), tt) in
      let of_value : AllByRecursion FreeNote (option_to_list (value_note known t i)) =
      free_option (value_note known t i) (value_note_line known t i) in
      elim (t == 24) as (λ v. AllByRecursion FreeNote
      (cond v (encoded_item_note left dump (bytes_in i) ∷ [])
      (cond (t == 63) (encoded_sequence_notes left dump (bytes_in i)) (option_to_list (value_note known t i))))) [
        | true ↦ of_item
        | false ↦
            elim (t == 63) as (λ v. AllByRecursion FreeNote
            (cond v (encoded_sequence_notes left dump (bytes_in i)) (option_to_list (value_note known t i)))) [
              | true ↦ encoded_sequence_line (bytes_in i) (bytes_well above i well)
              | false ↦ of_value
            ]
      ]

  pub notes_fit : (depth above known : ℕ) (tag : Option ℕ) (i : Item) → depth + 1 < 140 → WellFormed above i
      → AllByRecursion IsGood (notes_lines depth left dump known tag i)
  notes_fit depth above known None i low well = tt
  notes_fit depth above known (Some t) i low well =
      all_notes_fit depth (notes left dump known t i) low (notes_line above known t i well)
