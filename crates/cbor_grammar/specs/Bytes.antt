-- Which bytes encode an item (RFC 7049 section 2).
use Rattle.std.specs.Prelude.{◌≡◌, ℕ, ◌+◌, ◌<◌, ◌≤◌, List, [], ◌∷◌, ◌++◌, length, Option, Some, None, ◌⊎◌}
use Rattle.std.specs.Int.{w16, w32, w64, to_be_bytes}
use Rattle.cbor_grammar.specs.declared.width.IntegerWidth.{IntegerWidth}
use Rattle.cbor_grammar.specs.declared.width.FloatWidth.{FloatWidth}
use Rattle.cbor_grammar.specs.declared.width.FloatWidth.TheVariants as float_width
use Rattle.cbor_grammar.specs.Item as spec
use Rattle.cbor_grammar.specs.Item.{Chunk, Atom, integer, negative, string, chunked_string, float, simple, Item, atom}
use Rattle.cbor_grammar.specs.Item.{array, tagged, Items, no_items, item, Pairs, no_pairs, pair, item_count, pair_count}
use Rattle.cbor_grammar.specs.Head.{opening, break_byte, HeadThen}
use Rattle.cbor_grammar.specs.declared.strings.StringKind.{StringKind}
use Rattle.cbor_grammar.specs.StringKind.{major_of, IsContent}
use Rattle.cbor_grammar.specs.WellFormed.{deepest, FitsFloat}

-- An item whose widths are stated has one spelling, but for simple values below 24 (RFC 7049 section
-- 2.3): `any` allows their byte and also `f8` and the value, `strict` the byte alone.
pub data Rule : Type 0 where
  any : Rule
  strict : Rule

abbrev pub SpellsSimple : Rule → List ℕ → ℕ → Type 0
SpellsSimple any b n = ((n < 24) × (b ≡ (0xe0 + n) ∷ [])) ⊎ ((n < 256) × (b ≡ 0xf8 ∷ n ∷ []))
SpellsSimple strict b n =
    ((n < 24) × (b ≡ (0xe0 + n) ∷ [])) ⊎ ((24 ≤ n) × (n < 256) × (b ≡ 0xf8 ∷ n ∷ []))

-- the float's bits in 2, 4 or 8 bytes, big endian (RFC 7049 section 2.3)
abbrev pub SpellsFloat : List ℕ → ℕ → FloatWidth → Type 0
SpellsFloat b bits float_width.Unknown = ⊥
SpellsFloat b bits float_width.Sixteen = FitsFloat float_width.Sixteen bits × (b ≡ 0xf9 ∷ to_be_bytes w16 bits)
SpellsFloat b bits float_width.ThirtyTwo = FitsFloat float_width.ThirtyTwo bits × (b ≡ 0xfa ∷ to_be_bytes w32 bits)
SpellsFloat b bits float_width.SixtyFour = FitsFloat float_width.SixtyFour bits × (b ≡ 0xfb ∷ to_be_bytes w64 bits)

-- a head with the length, then the content, then such a rest
abbrev pub ChunkThen : StringKind → Chunk → List ℕ → (List ℕ → Type 0) → Type 0
ChunkThen kind c b Rest =
    IsContent kind c.bytes
    × HeadThen (major_of kind) (length c.bytes) c.width b (λ r.
    (rest : List ℕ) × (r ≡ c.bytes ++ rest) × Rest rest)

-- the chunks of an indefinite string (RFC 7049 section 2.2.2): strings of definite length one after the
-- other, and then the end
abbrev pub SpellsChunks : StringKind → List ℕ → List Chunk → List ℕ → Type 0
SpellsChunks kind b [] end = b ≡ end
SpellsChunks kind b (c ∷ cs) end = ChunkThen kind c b (λ rest. SpellsChunks kind rest cs end)

-- the opening byte, then such a rest
abbrev pub OpenThen : ℕ → List ℕ → (List ℕ → Type 0) → Type 0
OpenThen major b Rest = (rest : List ℕ) × (b ≡ opening major ∷ rest) × Rest rest

-- the bytes of an item that holds no item (RFC 7049 sections 2.1 to 2.3)
abbrev pub SpellsAtom : Rule → List ℕ → Atom → Type 0
SpellsAtom rule b (integer n w) = HeadThen 0 n w b (λ rest. rest ≡ [])
SpellsAtom rule b (negative n w) = HeadThen 1 n w b (λ rest. rest ≡ [])
SpellsAtom rule b (string kind c) = ChunkThen kind c b (λ rest. rest ≡ [])
SpellsAtom rule b (chunked_string kind cs) =
    OpenThen (major_of kind) b (λ rest. SpellsChunks kind rest cs (break_byte ∷ []))
SpellsAtom rule b (float bits w) = SpellsFloat b bits w
SpellsAtom rule b (simple n) = SpellsSimple rule b n

-- a head with the count, then members and nothing else; or the opening byte, then members and the break
-- (RFC 7049 sections 2.1 and 2.2.1)
abbrev pub MembersThen
    : ℕ → ℕ → Option IntegerWidth → List ℕ → (List ℕ → List ℕ → Type 0) → Type 0
MembersThen major n (Some w) b Members = HeadThen major n w b (λ rest. Members rest [])
MembersThen major n None b Members = OpenThen major b (λ rest. Members rest (break_byte ∷ []))

-- All of the bytes encode this item, which is at this level. No bytes encode an item with an unstated width, or one
-- deeper than the deepest level.
abbrev mutual
  pub Spells : Rule → ℕ → List ℕ → Item → Type 0
  Spells rule level b (atom a) = (level ≤ deepest) × SpellsAtom rule b a
  Spells rule level b (array is w) = (level ≤ deepest)
      × MembersThen 4 (item_count is) w b (λ rest end. SpellsItems rule (level + 1) rest is end)
  Spells rule level b (spec.map ps w) = (level ≤ deepest)
      × MembersThen 5 (pair_count ps) w b (λ rest end. SpellsPairs rule (level + 1) rest ps end)
  Spells rule level b (tagged t w i) = (level ≤ deepest) × HeadThen 6 t w b (λ rest. Spells rule (level + 1) rest i)

  -- the items in sequence, and then the end
  pub SpellsItems : Rule → ℕ → List ℕ → Items → List ℕ → Type 0
  SpellsItems rule level b no_items end = b ≡ end
  SpellsItems rule level b (item i is) end =
      (x rest : List ℕ) × (b ≡ x ++ rest) × Spells rule level x i × SpellsItems rule level rest is end

  -- each key and then its value, and then the end
  pub SpellsPairs : Rule → ℕ → List ℕ → Pairs → List ℕ → Type 0
  SpellsPairs rule level b no_pairs end = b ≡ end
  SpellsPairs rule level b (pair k v ps) end =
      (x y rest : List ℕ) × (b ≡ x ++ (y ++ rest))
      × Spells rule level x k × Spells rule level y v × SpellsPairs rule level rest ps end
