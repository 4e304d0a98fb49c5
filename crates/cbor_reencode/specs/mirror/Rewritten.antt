-- For `items.rt`, `pairs.rt` and `scalars.rt`: an item was read at the front of bytes, and an encoding of the same item
-- was appended to the output (`Rewritten`). `RewrittenChunks`, `RewrittenItems` and `Sequence` say this of chunks,
-- members and sequences. `RewrittenPairs`: pairs were read, and their encodings were collected.
use Rattle.std.specs.Prelude.{◌≡◌, ℕ, List, [], ◌∷◌, ◌++◌, length}
use Rattle.std.specs.List.{flat_map}
use Rattle.cbor_grammar.specs.declared.width.IntegerWidth.{IntegerWidth}
use Rattle.cbor_grammar.specs.declared.argument.Argument.{Argument}
use Rattle.cbor_grammar.specs.declared.argument.Argument.TheVariants.{Number, Indefinite}
use Rattle.cbor_grammar.specs.declared.strings.StringKind.{StringKind}
use Rattle.cbor_grammar.specs.StringKind.{IsContent}
use Rattle.cbor_grammar.specs.Item.{Chunk, Atom, Item, Items, Pairs, no_pairs, pair, item_count, pair_count}
use Rattle.cbor_grammar.specs.Head.{break_byte}
use Rattle.cbor_grammar.specs.Bytes.{strict, ChunkThen, SpellsChunks, SpellsAtom, Spells, SpellsItems, SpellsPairs}
use Rattle.cbor_rules.specs.declared.rules.Rules.{Rules}
use Rattle.cbor_rules.specs.Same.{said}
use Rattle.cbor_reencode.specs.Reduction.{reduced_atom, IsSameNumbered, SameNumbered}
use Rattle.cbor_reencode.specs.declared.pairs.Pair.{Pair}

-- ---- strings

-- a content of this many bytes at the front of the bytes
pub record ContentAt (kind : StringKind) (n : ℕ) (b content rest : List ℕ) : Type 0 where
  pub parts : b ≡ content ++ rest
  pub size : length content ≡ n
  pub holds : IsContent kind content

-- a chunk of this content at the front of the bytes
abbrev pub ChunkAt : StringKind → List ℕ → List ℕ → IntegerWidth → List ℕ → Type 0
ChunkAt kind b content w rest = ChunkThen kind (record { bytes = content; width = w }) b (λ r. r ≡ rest)

abbrev pub contents : List Chunk → List ℕ
contents cs = flat_map (λ c. c.bytes) cs

-- the chunks up to the break, whose contents were appended
pub record Joined (kind : StringKind) (b rest old new : List ℕ) : Type 0 where
  pub chunks : List Chunk
  pub spells : SpellsChunks kind b chunks (break_byte ∷ rest)
  pub added : new ≡ old ++ contents chunks

-- the chunks up to the break, for which chunks were written
pub record RewrittenChunks (rules : Rules) (kind : StringKind) (b rest old new : List ℕ) : Type 0 where
  pub chunks : List Chunk
  pub spells : SpellsChunks kind b chunks (break_byte ∷ rest)
  pub bytes : List ℕ
  pub added : new ≡ old ++ bytes
  pub written : List Chunk
  pub written_spells : (end : List ℕ) → SpellsChunks kind (bytes ++ end) written end
  pub same : contents chunks ≡ contents written

-- ---- items

-- These bytes are an item at this level, and it is the same as this one.
pub record Written (rules : Rules) (level : ℕ) (i : Item) (bytes : List ℕ) : Type 0 where
  pub item : Item
  pub spells : Spells strict level bytes item
  pub same : IsSameNumbered rules i item

-- an item at the front of b, for which bytes were appended
pub record Rewritten (rules : Rules) (level : ℕ) (b rest old new : List ℕ) : Type 0 where
  pub item : Item
  pub front : List ℕ
  pub parts : b ≡ front ++ rest
  pub spells : Spells strict level front item
  pub bytes : List ℕ
  pub added : new ≡ old ++ bytes
  pub again : Written rules level item bytes

-- the same of an item that holds no item, at any level
pub record RewrittenAtom (rules : Rules) (b rest old new : List ℕ) : Type 0 where
  pub atom : Atom
  pub front : List ℕ
  pub parts : b ≡ front ++ rest
  pub spells : SpellsAtom strict front atom
  pub bytes : List ℕ
  pub added : new ≡ old ++ bytes
  pub written : Atom
  pub written_spells : SpellsAtom strict bytes written
  pub same : said rules.shortest_floats (reduced_atom rules atom)
      ≡ said rules.shortest_floats (reduced_atom rules written)

-- ---- containers

-- this many are to come, or any number
abbrev pub CountIs : Argument → ℕ → Type 0
CountIs (Number n w) k = n ≡ k
CountIs Indefinite k = Unit {0}

-- what comes after the last one: nothing, or the break
abbrev pub close : Argument → List ℕ
close (Number n w) = []
close Indefinite = break_byte ∷ []

-- n members, for which members were appended
pub record RewrittenItems (rules : Rules) (level : ℕ) (a : Argument) (b rest old new : List ℕ) (n : ℕ) : Type 0 where
  pub items : Items
  pub front : List ℕ
  pub parts : b ≡ front ++ rest
  pub number : item_count items ≡ n
  pub count : CountIs a n
  pub spells : SpellsItems strict level front items (close a)
  pub bytes : List ℕ
  pub added : new ≡ old ++ bytes
  pub written : Items
  pub written_number : item_count written ≡ n
  pub written_spells : (end : List ℕ) → SpellsItems strict level (bytes ++ end) written end
  pub same : SameNumbered rules items written

-- what was written for a pair
pub record PairIs (rules : Rules) (level : ℕ) (k v : Item) (p : Pair) : Type 0 where
  pub key : Written rules level k p.key.items
  pub value : Written rules level v p.value.items

abbrev pub PairsAre : Rules → ℕ → Pairs → List Pair → Type 0
PairsAre rules level no_pairs [] = Unit {0}
PairsAre rules level (pair k v ps) (x ∷ xs) = PairIs rules level k v x × PairsAre rules level ps xs
PairsAre rules level ps xs = ⊥

-- pairs, for which pairs were kept
pub record RewrittenPairs (rules : Rules) (level : ℕ) (a : Argument) (b rest : List ℕ) (old new : List Pair) : Type 0
  where
    pub pairs : Pairs
    pub front : List ℕ
    pub parts : b ≡ front ++ rest
    pub count : CountIs a (pair_count pairs)
    pub spells : SpellsPairs strict level front pairs (close a)
    pub kept : List Pair
    pub added : new ≡ old ++ kept
    pub are : PairsAre rules level pairs kept

-- the concatenated encodings of the pairs
abbrev pub pair_bytes : List Pair → List ℕ
pair_bytes xs = flat_map (λ p. p.key.items ++ p.value.items) xs

-- items to the end, for which items were appended
pub record Sequence (rules : Rules) (b old new : List ℕ) : Type 0 where
  pub items : Items
  pub spells : SpellsItems strict 1 b items []
  pub bytes : List ℕ
  pub added : new ≡ old ++ bytes
  pub written : Items
  pub written_spells : SpellsItems strict 1 bytes written []
  pub same : SameNumbered rules items written
