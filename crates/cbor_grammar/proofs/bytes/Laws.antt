-- The encoding of a well formed item (`encoded`), and of well formed items in sequence (`encoded_items`), consists of
-- numbers below 256 (`AllBytes`).
use Rattle.std.proofs.Common.{◌≡◌, ℕ, ◌+◌, ◌<◌, ◌≤◌, true, false, nat_lt, inl, inr, List, [], ◌∷◌, ◌++◌, length}
use Rattle.std.proofs.Common.{zero, suc, Option, Some, None, arith, lit<}
use Rattle.std.specs.List.{AllByRecursion, flat_map}
use Rattle.std.specs.Int.{w64, to_be_bytes}
use Rattle.std.proofs.lemmas.Bool.Decides.{nat_tests}
use Rattle.std.proofs.lemmas.Bool.{cases_lt}
use Rattle.hex.specs.Hex.{IsBytes}
use Rattle.cbor_grammar.specs.declared.width.IntegerWidth.{IntegerWidth}
use Rattle.cbor_grammar.specs.declared.width.IntegerWidth.TheVariants as width
use Rattle.cbor_grammar.specs.declared.width.FloatWidth.{FloatWidth}
use Rattle.cbor_grammar.specs.declared.width.FloatWidth.TheVariants as float_width
use Rattle.cbor_grammar.specs.Item as spec
use Rattle.cbor_grammar.specs.Item.{Chunk, Atom, integer, negative, string, chunked_string, float, simple, Item, atom}
use Rattle.cbor_grammar.specs.Item.{array, tagged, Items, no_items, item, Pairs, no_pairs, pair, item_count, pair_count}
use Rattle.cbor_grammar.specs.Head.{head, stated, break_byte, FitsWidth, FitsStated}
use Rattle.cbor_grammar.specs.declared.strings.StringKind.{StringKind}
use Rattle.cbor_grammar.specs.declared.strings.StringKind.TheVariants.{Bytes, Text}
use Rattle.cbor_grammar.specs.StringKind.{major_of}
use Rattle.cbor_grammar.specs.WellFormed.{WellFormed, WellFormedItems, WellFormedPairs, WellFormedAtom, FitsCount}
use Rattle.cbor_grammar.specs.WellFormed.{IsChunk}
use Rattle.cbor_grammar.specs.Written.{encoded_head, encoded_chunk, encoded_float, encoded_simple, encoded_atom}
use Rattle.cbor_grammar.specs.Written.{encoded_open, encoded_close, encoded, encoded_items, encoded_pairs}
use Rattle.cbor_grammar.proofs.bytes.Strict.{stated_fits}

abbrev pub AllBytes : List ℕ → Type 0
AllBytes b = AllByRecursion (λ x. x < 256) b

pub all_bytes-append : (a b : List ℕ) → AllBytes a → AllBytes b → AllBytes (a ++ b)
all_bytes-append [] b h k = k
all_bytes-append (x ∷ a) b h k = (h.0, all_bytes-append a b h.1 k)

pub all_bytes-front : (a b : List ℕ) → AllBytes (a ++ b) → AllBytes a
all_bytes-front [] b h = tt
all_bytes-front (x ∷ a) b h = (h.0, all_bytes-front a b h.1)

pub all_bytes-rest : (a b : List ℕ) → AllBytes (a ++ b) → AllBytes b
all_bytes-rest [] b h = h
all_bytes-rest (x ∷ a) b h = all_bytes-rest a b h.1

pub bytes_at : (b : List ℕ) → AllBytes b → IsBytes b
bytes_at [] h i = omega arith
bytes_at (x ∷ b) h zero = h.0
bytes_at (x ∷ b) h (suc i) = bytes_at b h.1 i

pub wide_bytes : (n : ℕ) → AllBytes (to_be_bytes w64 n)
wide_bytes n = (
  omega arith,
  (omega arith, (omega arith, (omega arith, (omega arith, (omega arith, (omega arith, (omega arith, tt))))))),
)

head_bytes : (major n : ℕ) (w : IntegerWidth) → major ≤ 6 → FitsStated w n → AllBytes (head major n w)
head_bytes major n width.Unknown low fits = tt
head_bytes major n width.Zero low fits = (omega arith, tt)
head_bytes major n width.Eight low fits = (omega arith, (omega arith, tt))
head_bytes major n width.Sixteen low fits = (omega arith, (omega arith, (omega arith, tt)))
head_bytes major n width.ThirtyTwo low fits =
    (omega arith, (omega arith, (omega arith, (omega arith, (omega arith, tt)))))
head_bytes major n width.SixtyFour low fits = (omega arith, wide_bytes n)

written_bytes : (major n : ℕ) (w : IntegerWidth) → major ≤ 6 → FitsWidth w n → AllBytes (encoded_head major n w)
written_bytes major n w low fits = head_bytes major n (stated w n) low (stated_fits w n fits)

float_bytes : (bits : ℕ) (w : FloatWidth) → AllBytes (encoded_float bits w)
float_bytes bits float_width.Unknown = (lit< tt, wide_bytes bits)
float_bytes bits float_width.Sixteen = (lit< tt, (omega arith, (omega arith, tt)))
float_bytes bits float_width.ThirtyTwo = (lit< tt, (omega arith, (omega arith, (omega arith, (omega arith, tt)))))
float_bytes bits float_width.SixtyFour = (lit< tt, wide_bytes bits)

simple_bytes : (n : ℕ) → n < 256 → AllBytes (encoded_simple n)
simple_bytes n fits =
    elim (cases_lt n 24) [
      | inl low ↦ let small : nat_lt n 24 ≡ true = grind (arith, nat_tests) in rw small (omega arith, tt)
      | inr high ↦ let large : nat_lt n 24 ≡ false = grind (arith, nat_tests) in rw large (lit< tt, (fits, tt))
    ]

chunk_bytes : (major : ℕ) (c : Chunk) → major ≤ 6 → FitsWidth c.width (length c.bytes) → AllBytes c.bytes
    → AllBytes (encoded_chunk major c)
chunk_bytes major c low fits bytes = all_bytes-append (encoded_head major (length c.bytes) c.width) c.bytes
    (written_bytes major (length c.bytes) c.width low fits) bytes

low_major : (kind : StringKind) → major_of kind ≤ 6
low_major Bytes = omega arith
low_major Text = omega arith

chunks_bytes : (kind : StringKind) (cs : List Chunk) → AllByRecursion (IsChunk kind) cs
    → AllBytes (flat_map (encoded_chunk (major_of kind)) cs)
chunks_bytes kind [] all = tt
chunks_bytes kind (c ∷ cs) all =
    let major = major_of kind in
    all_bytes-append (encoded_chunk major c) (flat_map (encoded_chunk major) cs)
    (chunk_bytes major c (low_major kind) all.0.fits all.0.bytes) (chunks_bytes kind cs all.1)

break_bytes : AllBytes (break_byte ∷ [])
break_bytes = (lit< tt, tt)

atom_bytes : (a : Atom) → WellFormedAtom a → AllBytes (encoded_atom a)
atom_bytes (integer n w) well = written_bytes 0 n w (omega arith) well
atom_bytes (negative n w) well = written_bytes 1 n w (omega arith) well
atom_bytes (string kind c) well = chunk_bytes (major_of kind) c (low_major kind) well.fits well.bytes
atom_bytes (chunked_string kind cs) well = (
  omega (arith, low_major kind),
  all_bytes-append (flat_map (encoded_chunk (major_of kind)) cs) (break_byte ∷ []) (chunks_bytes kind cs well)
      break_bytes,
)
atom_bytes (float bits w) well = float_bytes bits w
atom_bytes (simple n) well = simple_bytes n well

open_bytes : (major n : ℕ) (w : Option IntegerWidth) → major ≤ 6 → FitsCount w n → AllBytes (encoded_open major n w)
open_bytes major n (Some w) low fits = written_bytes major n w low fits
open_bytes major n None low fits = (omega arith, tt)

close_bytes : (w : Option IntegerWidth) → AllBytes (encoded_close w)
close_bytes (Some w) = tt
close_bytes None = break_bytes

mutual
  pub item_bytes : (level : ℕ) (i : Item) → WellFormed level i → AllBytes (encoded i)
  item_bytes level (atom a) well = atom_bytes a well.1
  item_bytes level (array is w) well =
      all_bytes-append (encoded_open 4 (item_count is) w) (encoded_items is ++ encoded_close w)
      (open_bytes 4 (item_count is) w (omega arith) well.1)
      (all_bytes-append (encoded_items is) (encoded_close w) (items_bytes (level + 1) is well.2) (close_bytes w))
  item_bytes level (spec.map ps w) well =
      all_bytes-append (encoded_open 5 (pair_count ps) w) (encoded_pairs ps ++ encoded_close w)
      (open_bytes 5 (pair_count ps) w (omega arith) well.1)
      (all_bytes-append (encoded_pairs ps) (encoded_close w) (pairs_bytes (level + 1) ps well.2) (close_bytes w))
  item_bytes level (tagged t w i) well =
      all_bytes-append (encoded_head 6 t w) (encoded i) (written_bytes 6 t w (omega arith) well.1)
      (item_bytes (level + 1) i well.2)

  pub items_bytes : (level : ℕ) (is : Items) → WellFormedItems level is → AllBytes (encoded_items is)
  items_bytes level no_items well = tt
  items_bytes level (item i is) well = all_bytes-append (encoded i) (encoded_items is) (item_bytes level i well.0)
      (items_bytes level is well.1)

  pairs_bytes : (level : ℕ) (ps : Pairs) → WellFormedPairs level ps → AllBytes (encoded_pairs ps)
  pairs_bytes level no_pairs well = tt
  pairs_bytes level (pair k v ps) well =
      all_bytes-append (encoded k) (encoded v ++ encoded_pairs ps) (item_bytes level k well.0)
      (all_bytes-append (encoded v) (encoded_pairs ps) (item_bytes level v well.1) (pairs_bytes level ps well.2))
