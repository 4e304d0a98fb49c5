-- Which bytes are cut, so that they end before their item does, and which have a fault, so that no item begins with
-- them (RFC 7049 section 2). The first incomplete part from the left decides both.
use Rattle.std.specs.Prelude.{◌≡◌, ◌≢◌, ℕ, suc, zero, ◌+◌, ◌*◌, ◌/◌, ◌%◌, ◌^◌, ◌<◌, ◌≤◌, List, [], ◌∷◌, ◌++◌, length}
use Rattle.std.specs.Prelude.{IsUtf8, ◌⊎◌}
use Rattle.cbor_grammar.specs.declared.width.IntegerWidth.{IntegerWidth}
use Rattle.cbor_grammar.specs.declared.error.Error.{Error}
use Rattle.cbor_grammar.specs.declared.error.Error.TheVariants.{Head, Utf8, TooDeep}
use Rattle.cbor_grammar.specs.Item.{Chunk, Item}
use Rattle.cbor_grammar.specs.Head.{opening, break_byte, HeadThen}
use Rattle.cbor_grammar.specs.WellFormed.{deepest}
use Rattle.cbor_grammar.specs.Bytes.{any, Spells, SpellsChunks}
use Rattle.cbor_grammar.specs.declared.strings.StringKind.{StringKind}
use Rattle.cbor_grammar.specs.declared.strings.StringKind.TheVariants.{Text}
use Rattle.cbor_grammar.specs.StringKind.{major_of}

-- A head asks for more bytes than follow it: info 24, 25, 26 and 27 ask for 1, 2, 4 and 8.
pub data CutHead : List ℕ → Type 0 where
  cut_head : {first : ℕ} {rest : List ℕ} (k : ℕ)
      → k ≤ 3 → first % 32 ≡ 24 + k → length rest < 2 ^ k
      → CutHead (first ∷ rest)

-- a string's head, and fewer bytes than it claims
abbrev pub CutContent : StringKind → List ℕ → Type 0
CutContent kind b =
    (n : ℕ) × (w : IntegerWidth) × HeadThen (major_of kind) n w b (λ rest. length rest < n)

-- A head that no item has.
pub data BadHead : List ℕ → Type 0 where
  -- info 28 to 30, which means nothing
  no_info : {first : ℕ} {rest : List ℕ}
      → 28 ≤ first % 32 → first % 32 ≤ 30
      → BadHead (first ∷ rest)
  -- info 31 where there is no indefinite length: in the major types 0, 1 and 6, and in 7, where it is
  -- the break
  no_length : {first : ℕ} {rest : List ℕ}
      → first % 32 ≡ 31 → (first / 32 ≤ 1) ⊎ (6 ≤ first / 32)
      → BadHead (first ∷ rest)

-- a text's head and all its bytes, which are not UTF-8
abbrev pub BadText : List ℕ → Type 0
BadText b = (n : ℕ) × (w : IntegerWidth) × HeadThen 3 n w b (λ rest.
    (text after : List ℕ) × (rest ≡ text ++ after) × (length text ≡ n) × ¬ (IsUtf8 text))

-- a number of whole items in sequence
abbrev pub SpelledParts : ℕ → ℕ → List ℕ → Type 0
SpelledParts level zero b = b ≡ []
SpelledParts level (suc k) b =
    (x rest : List ℕ) × (i : Item) × (b ≡ x ++ rest) × Spells any level x i × SpelledParts level k rest

-- what may come next in an incomplete container
pub data Next : Type 0 where
  part : Next
  part_or_break : Next

-- A container at this level: its head, the whole parts in it, and the rest, which is in
-- the place of its next part. A map's parts are its keys and values in turn.
pub data Inside (level : ℕ) (b rest : List ℕ) : Next → Type 0 where
  -- a tag, and then its item
  in_tag : (t : ℕ) (w : IntegerWidth)
      → HeadThen 6 t w b (λ r. r ≡ rest)
      → Inside level b rest part
  -- an array of n items, k of them whole
  in_array : (n k : ℕ) (w : IntegerWidth) (whole : List ℕ)
      → HeadThen 4 n w b (λ r. r ≡ whole ++ rest) → SpelledParts (level + 1) k whole → k < n
      → Inside level b rest part
  -- a map of n pairs, k of its keys and values whole
  in_map : (n k : ℕ) (w : IntegerWidth) (whole : List ℕ)
      → HeadThen 5 n w b (λ r. r ≡ whole ++ rest) → SpelledParts (level + 1) k whole → k < 2 * n
      → Inside level b rest part
  -- an indefinite array, which an item may follow, or the break
  in_open_array : (k : ℕ) (whole : List ℕ)
      → b ≡ opening 4 ∷ (whole ++ rest) → SpelledParts (level + 1) k whole
      → Inside level b rest part_or_break
  -- an indefinite map before a key, where the break may be too
  at_open_key : (k : ℕ) (whole : List ℕ)
      → b ≡ opening 5 ∷ (whole ++ rest) → SpelledParts (level + 1) (2 * k) whole
      → Inside level b rest part_or_break
  -- an indefinite map before a value, where no break may be
  at_open_value : (k : ℕ) (whole : List ℕ)
      → b ≡ opening 5 ∷ (whole ++ rest) → SpelledParts (level + 1) (2 * k + 1) whole
      → Inside level b rest part

-- an indefinite string's opening byte, whole chunks, and the rest
abbrev pub InsideString : StringKind → List ℕ → List ℕ → Type 0
InsideString kind b rest =
    (cs : List Chunk) × (r : List ℕ) × (b ≡ opening (major_of kind) ∷ r) × SpellsChunks kind r cs rest

-- a rest without a whole chunk: it is empty, or its head or its content is cut
abbrev pub CutChunk : StringKind → List ℕ → Type 0
CutChunk kind [] = Unit {0}
CutChunk kind (first ∷ rest) =
    ((first / 32 ≡ major_of kind) × CutHead (first ∷ rest)) ⊎ CutContent kind (first ∷ rest)

-- The bytes end before the item at this level does.
pub data Cut : ℕ → List ℕ → Type 0 where
  -- an item has to follow, also below the deepest level, and there are no bytes
  nothing : {level : ℕ} → level ≤ deepest + 1 → Cut level []
  -- the head is cut
  in_head : {level : ℕ} {b : List ℕ} → level ≤ deepest → CutHead b → Cut level b
  -- a string's content is cut
  in_content : {level : ℕ} {b : List ℕ} (kind : StringKind)
      → level ≤ deepest → CutContent kind b
      → Cut level b
  -- after whole chunks of an indefinite string the next chunk, or the break, is cut
  in_chunk : {level : ℕ} {b : List ℕ} (kind : StringKind) (rest : List ℕ)
      → level ≤ deepest → InsideString kind b rest → CutChunk kind rest
      → Cut level b
  -- after whole parts of a container the next part is cut
  in_part : {level : ℕ} {b : List ℕ} (next : Next) (rest : List ℕ)
      → level ≤ deepest → Inside level b rest next → Cut (level + 1) rest
      → Cut level b

-- neither a break nor a head of a definite string of that kind
pub data NoChunk (kind : StringKind) : List ℕ → Type 0 where
  no_chunk : {first : ℕ} {rest : List ℕ}
      → first ≢ break_byte → ¬ ((first / 32 ≡ major_of kind) × (first % 32 ≤ 27))
      → NoChunk kind (first ∷ rest)

-- a break, which ends the container where it may be
abbrev pub BeginsWithBreak : List ℕ → Type 0
BeginsWithBreak b = (rest : List ℕ) × (b ≡ break_byte ∷ rest)

abbrev pub NoBreakAt : Next → List ℕ → Type 0
NoBreakAt part rest = Unit {0}
NoBreakAt part_or_break rest = ¬ (BeginsWithBreak rest)

-- No item at this level begins with these bytes, and why.
pub data Fault : ℕ → List ℕ → Error → Type 0 where
  -- an item below the deepest level, whatever its first byte is
  too_deep : {level first : ℕ} {rest : List ℕ}
      → level ≡ deepest + 1
      → Fault level (first ∷ rest) TooDeep
  -- a head that no item has
  bad_head : {level : ℕ} {b : List ℕ} → level ≤ deepest → BadHead b → Fault level b Head
  -- a text that is not UTF-8
  bad_text : {level : ℕ} {b : List ℕ} → level ≤ deepest → BadText b → Fault level b Utf8
  -- after whole chunks of an indefinite string something that is neither a chunk nor the break
  bad_chunk_head : {level : ℕ} {b : List ℕ} (kind : StringKind) (rest : List ℕ)
      → level ≤ deepest → InsideString kind b rest → NoChunk kind rest
      → Fault level b Head
  -- after whole chunks of an indefinite text a chunk that is not UTF-8 by itself
  bad_chunk_text : {level : ℕ} {b : List ℕ} (rest : List ℕ) → level ≤ deepest → InsideString Text b rest → BadText rest
      → Fault level b Utf8
  -- after whole parts of a container a next part, and no break, that has a fault
  bad_part : {level : ℕ} {b : List ℕ} {error : Error} (next : Next) (rest : List ℕ)
      → level ≤ deepest → Inside level b rest next → NoBreakAt next rest → Fault (level + 1) rest error
      → Fault level b error
