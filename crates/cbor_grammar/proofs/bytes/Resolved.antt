-- An item that bytes spell is well formed and has all its widths stated (`resolve` does not change it), and bytes that
-- equal its encoding spell it strictly. `read_item` reads the encoding of a well-formed item as `resolve` of the item.
-- Two well-formed items have the same encoding if and only if `resolve` makes the same item of both.
use Rattle.std.proofs.Common.{◌≡◌, ℕ, suc, ◌+◌, ◌<◌, List, [], ◌∷◌, ◌++◌, length, map, Option, Some, None, Ok, inl, inr}
use Rattle.std.proofs.Common.{refl, sym, ap, subst, ◌∙◌, arith}
use Rattle.std.specs.List.{AllByRecursion}
use Rattle.std.proofs.lemmas.List.{take_at, drop_at}
use Rattle.cbor_grammar.specs.declared.width.IntegerWidth.{IntegerWidth}
use Rattle.cbor_grammar.specs.declared.width.FloatWidth.{FloatWidth}
use Rattle.cbor_grammar.specs.declared.width.FloatWidth.TheVariants as float_width
use Rattle.cbor_grammar.specs.Item as spec
use Rattle.cbor_grammar.specs.Item.{Chunk, Atom, integer, negative, string, chunked_string, float, simple, Item, atom}
use Rattle.cbor_grammar.specs.Item.{array, tagged, Items, no_items, item, Pairs, no_pairs, pair, item_count, pair_count}
use Rattle.cbor_grammar.specs.Head.{stated, head, opening, break_byte}
use Rattle.cbor_grammar.specs.WellFormed.{IsChunk, FitsFloat, WellFormedAtom, FitsCount, WellFormed, WellFormedItems}
use Rattle.cbor_grammar.specs.WellFormed.{WellFormedPairs}
use Rattle.cbor_grammar.specs.Bytes.{any, strict, SpellsFloat, ChunkThen, SpellsChunks, SpellsAtom, MembersThen, Spells}
use Rattle.cbor_grammar.specs.Bytes.{SpellsItems, SpellsPairs}
use Rattle.cbor_grammar.specs.declared.strings.StringKind.{StringKind}
use Rattle.cbor_grammar.specs.StringKind.{major_of}
use Rattle.cbor_grammar.specs.Written.{encoded, resolve_chunk, resolve_float, resolve_atom, resolve_count, resolve}
use Rattle.cbor_grammar.specs.Written.{resolve_items, resolve_pairs}
use Rattle.cbor_grammar.specs.Reading.{read_item}
use Rattle.cbor_grammar.proofs.bytes.Heads.{IsBytes, IsBytes-take, IsBytes-drop, ok_is}
use Rattle.cbor_grammar.proofs.bytes.Chunks.{chunk_parts}
use Rattle.cbor_grammar.proofs.bytes.FoundAgain.{item_again}
use Rattle.cbor_grammar.proofs.bytes.Strict.{fits_stated, stated_is, strict_any, strict_encoded, encoded-resolve}

-- ---- parts of bytes

IsBytes-front : (x y : List ℕ) → IsBytes (x ++ y) → IsBytes x
IsBytes-front x y h = subst IsBytes (take_at x y (length x) refl) (IsBytes-take (length x) (x ++ y) h)

IsBytes-behind : (x y : List ℕ) → IsBytes (x ++ y) → IsBytes y
IsBytes-behind x y h = subst IsBytes (drop_at x y (length x) refl) (IsBytes-drop (length x) (x ++ y) h)

-- each element of a list of bytes
all_bytes : (b : List ℕ) → IsBytes b → AllByRecursion (λ x. x < 256) b
all_bytes [] h = tt
all_bytes (x ∷ b) h = (h 0, all_bytes b (λ j. h (suc j)))

-- what comes before members in a container, what ends them, and what holds of them
record Inner (n : ℕ) (w : Option IntegerWidth) (b : List ℕ) (Members : List ℕ → List ℕ → Type 0) : Type 0 where
  pub front : List ℕ
  pub rest : List ℕ
  pub end : List ℕ
  pub parts : b ≡ front ++ rest
  pub count : FitsCount w n
  pub unchanged : resolve_count w n ≡ w
  pub holds : Members rest end

inner : (major n : ℕ) (w : Option IntegerWidth) (b : List ℕ) (Members : List ℕ → List ℕ → Type 0)
    → MembersThen major n w b Members → Inner n w b Members
inner major n (Some w) b Members h = record {
  front = head major n w;
  rest = h.1;
  end = [];
  parts = h.2;
  count = fits_stated w n h.0;
  unchanged = ap (λ (v : IntegerWidth). Some v) (stated_is w n h.0);
  holds = h.3;
}
inner major n None b Members h = record {
  front = opening major ∷ [];
  rest = h.0;
  end = break_byte ∷ [];
  parts =
      h.1;
  count = tt;
  unchanged = refl;
  holds = h.2;
}

-- ---- a spelled item has no unstated width

chunk_resolved : (kind : StringKind) (c : Chunk) (b : List ℕ) (Rest : List ℕ → Type 0) → ChunkThen kind c b Rest
    → resolve_chunk c ≡ c
chunk_resolved kind c b Rest h = ap {B = Chunk} (λ (w : IntegerWidth). record { bytes = c.bytes; width = w })
    (stated_is c.width (length c.bytes) h.1.0)

chunks_resolved : (kind : StringKind) (cs : List Chunk) (b end : List ℕ) → SpellsChunks kind b cs end
    → map resolve_chunk cs ≡ cs
chunks_resolved kind [] b end h = refl
chunks_resolved kind (c ∷ cs) b end h =
    let p = chunk_parts kind b c (λ rest. SpellsChunks kind rest cs end) h in
    let one : resolve_chunk c ≡ c = chunk_resolved kind c b _ h in
    let others : map resolve_chunk cs ≡ cs = chunks_resolved kind cs p.rest end p.holds in
    cc

float_resolved : (b : List ℕ) (bits : ℕ) (w : FloatWidth) → SpellsFloat b bits w → resolve_float w ≡ w
float_resolved b bits float_width.Unknown h = absurd h
float_resolved b bits w h = refl

atom_resolved : (b : List ℕ) (a : Atom) → SpellsAtom any b a → resolve_atom a ≡ a
atom_resolved b (integer n w) h = ap (integer n) (stated_is w n h.0)
atom_resolved b (negative n w) h = ap (negative n) (stated_is w n h.0)
atom_resolved b (string kind c) h = ap (string kind) (chunk_resolved kind c b _ h)
atom_resolved b (chunked_string kind cs) h =
    ap (chunked_string kind) (chunks_resolved kind cs h.0 (break_byte ∷ []) h.2)
atom_resolved b (float bits w) h = ap (float bits) (float_resolved b bits w h)
atom_resolved b (simple n) h = refl

mutual
  pub resolved : (level : ℕ) (b : List ℕ) (i : Item) → Spells any level b i → resolve i ≡ i
  resolved level b (atom a) h = ap atom (atom_resolved b a h.1)
  resolved level b (array is w) h =
      let m = inner 4 (item_count is) w b (λ rest end. SpellsItems any (level + 1) rest is end) h.1 in
      let members : resolve_items is ≡ is = items_resolved (level + 1) m.rest is m.end m.holds in
      let count : resolve_count w (item_count is) ≡ w = m.unchanged in
      cc
  resolved level b (spec.map ps w) h =
      let m = inner 5 (pair_count ps) w b (λ rest end. SpellsPairs any (level + 1) rest ps end) h.1 in
      let members : resolve_pairs ps ≡ ps = pairs_resolved (level + 1) m.rest ps m.end m.holds in
      let count : resolve_count w (pair_count ps) ≡ w = m.unchanged in
      cc
  resolved level b (tagged t w i) h =
      let inside : resolve i ≡ i = resolved (level + 1) h.1.1 i h.1.3 in
      let width : stated w t ≡ w = stated_is w t h.1.0 in
      cc

  items_resolved : (level : ℕ) (b : List ℕ) (is : Items) (end : List ℕ) → SpellsItems any level b is end
      → resolve_items is ≡ is
  items_resolved level b no_items end h = refl
  items_resolved level b (item i is) end h =
      let one : resolve i ≡ i = resolved level h.0 i h.3 in
      let others : resolve_items is ≡ is = items_resolved level h.1 is end h.4 in
      cc

  pairs_resolved : (level : ℕ) (b : List ℕ) (ps : Pairs) (end : List ℕ) → SpellsPairs any level b ps end
      → resolve_pairs ps ≡ ps
  pairs_resolved level b no_pairs end h = refl
  pairs_resolved level b (pair k v ps) end h =
      let key : resolve k ≡ k = resolved level h.0 k h.4 in
      let value : resolve v ≡ v = resolved level h.1 v h.5 in
      let others : resolve_pairs ps ≡ ps = pairs_resolved level h.2 ps end h.6 in
      cc

-- ---- a spelled item is well formed

chunk_well : (kind : StringKind) (c : Chunk) (b rest : List ℕ) → IsBytes b → ChunkThen kind c b (λ r. r ≡ rest)
    → IsChunk kind c × IsBytes rest
chunk_well kind c b rest bytes h =
    let front : List ℕ = head (major_of kind) (length c.bytes) c.width in
    let s = h.1.3 in
    let is : b ≡ front ++ (c.bytes ++ rest) = h.1.2
    ∙ ap (λ (x : List ℕ). front ++ x) (s.1 ∙ ap (λ (x : List ℕ). c.bytes ++ x) s.2) in
    let inside : IsBytes (c.bytes ++ rest) = IsBytes-behind front (c.bytes ++ rest) (subst IsBytes is bytes) in (
      record {
        fits = fits_stated c.width (length c.bytes) h.1.0;
        bytes = all_bytes c.bytes (IsBytes-front c.bytes rest inside);
        content = h.0;
      },
      IsBytes-behind c.bytes rest inside,
    )

chunks_well : (kind : StringKind) (cs : List Chunk) (b end : List ℕ) → IsBytes b → SpellsChunks kind b cs end
    → AllByRecursion (IsChunk kind) cs
chunks_well kind [] b end bytes h = tt
chunks_well kind (c ∷ cs) b end bytes h =
    let p = chunk_parts kind b c (λ rest. SpellsChunks kind rest cs end) h in
    let one = chunk_well kind c b p.rest bytes p.is in
    (one.0, chunks_well kind cs p.rest end one.1 p.holds)

float_well : (b : List ℕ) (bits : ℕ) (w : FloatWidth) → SpellsFloat b bits w → FitsFloat w bits
float_well b bits float_width.Unknown h = absurd h
float_well b bits w h = h.0

atom_well : (b : List ℕ) (a : Atom) → IsBytes b → SpellsAtom any b a → WellFormedAtom a
atom_well b (integer n w) bytes h = fits_stated w n h.0
atom_well b (negative n w) bytes h = fits_stated w n h.0
atom_well b (string kind c) bytes h = (chunk_well kind c b [] bytes h).0
atom_well b (chunked_string kind cs) bytes h = chunks_well kind cs h.0 (break_byte ∷ [])
    (IsBytes-behind (opening (major_of kind) ∷ []) h.0 (subst IsBytes h.1 bytes)) h.2
atom_well b (float bits w) bytes h = float_well b bits w h
atom_well b (simple n) bytes (inl h) = omega (arith, h.0)
atom_well b (simple n) bytes (inr h) = h.0

mutual
  pub spells_well : (level : ℕ) (b : List ℕ) (i : Item) → IsBytes b → Spells any level b i → WellFormed level i
  spells_well level b (atom a) bytes h = (h.0, atom_well b a bytes h.1)
  spells_well level b (array is w) bytes h =
      let m = inner 4 (item_count is) w b (λ rest end. SpellsItems any (level + 1) rest is end) h.1 in (
        h.0,
        m.count,
        items_well_formed (level + 1) m.rest is m.end
            (IsBytes-behind m.front m.rest (subst IsBytes m.parts bytes)) m.holds,
      )
  spells_well level b (spec.map ps w) bytes h =
      let m = inner 5 (pair_count ps) w b (λ rest end. SpellsPairs any (level + 1) rest ps end) h.1 in (
        h.0,
        m.count,
        pairs_well_formed (level + 1) m.rest ps m.end
            (IsBytes-behind m.front m.rest (subst IsBytes m.parts bytes)) m.holds,
      )
  spells_well level b (tagged t w i) bytes h = (
    h.0,
    fits_stated w t h.1.0,
    spells_well (level + 1) h.1.1 i
        (IsBytes-behind (head 6 t w) h.1.1 (subst IsBytes h.1.2 bytes)) h.1.3,
  )

  items_well_formed : (level : ℕ) (b : List ℕ) (is : Items) (end : List ℕ) → IsBytes b → SpellsItems any level b is end
      → WellFormedItems level is
  items_well_formed level b no_items end bytes h = tt
  items_well_formed level b (item i is) end bytes h =
      let both : IsBytes (h.0 ++ h.1) = subst IsBytes h.2 bytes in (
        spells_well level h.0 i (IsBytes-front h.0 h.1 both) h.3,
        items_well_formed level h.1 is end (IsBytes-behind h.0 h.1 both) h.4,
      )

  pairs_well_formed : (level : ℕ) (b : List ℕ) (ps : Pairs) (end : List ℕ) → IsBytes b → SpellsPairs any level b ps end
      → WellFormedPairs level ps
  pairs_well_formed level b no_pairs end bytes h = tt
  pairs_well_formed level b (pair k v ps) end bytes h =
      let whole : IsBytes (h.0 ++ (h.1 ++ h.2)) = subst IsBytes h.3 bytes in
      let both : IsBytes (h.1 ++ h.2) = IsBytes-behind h.0 (h.1 ++ h.2) whole in (
        spells_well level h.0 k (IsBytes-front h.0 (h.1 ++ h.2) whole) h.4,
        spells_well level h.1 v (IsBytes-front h.1 h.2 both) h.5,
        pairs_well_formed level h.2 ps end (IsBytes-behind h.1 h.2 both) h.6,
      )

-- ---- bytes that are the encoding of what they spell, and items with the same encoding

pub encoded_strict : (level : ℕ) (b : List ℕ) (i : Item) → IsBytes b → Spells any level b i → encoded i ≡ b
    → Spells strict level b i
encoded_strict level b i bytes h is =
    let written : Spells strict level (encoded i) (resolve i) =
    strict_encoded level i (spells_well level b i bytes h) in
    subst (λ (x : List ℕ). Spells strict level x i) is
    (subst (λ (j : Item). Spells strict level (encoded i) j) (resolved level b i h) written)

-- what is written is read as that item
pub written_again : (i : Item) (rest : List ℕ) → WellFormed 1 i
    → read_item 128 (encoded i ++ rest) ≡ Ok (resolve i, rest)
written_again i rest h = item_again 1 128 (encoded i) (resolve i) rest refl
    (strict_any 1 (encoded i) (resolve i) (strict_encoded 1 i h))

-- items with the same encoding are read as one item
pub written_alike : (i j : Item) → WellFormed 1 i → WellFormed 1 j → encoded i ≡ encoded j → resolve i ≡ resolve j
written_alike i j i-well j-well same =
    let read = sym (written_again i [] i-well) ∙ ap (λ (x : List ℕ). read_item 128 (x ++ [])) same
    ∙ written_again j [] j-well in
    ap (λ (p : Item × List ℕ). p.0) (ok_is (resolve i, []) (resolve j, []) read)

-- and items that are read as one item have the same encoding
pub resolved_alike : (i j : Item) → resolve i ≡ resolve j → encoded i ≡ encoded j
resolved_alike i j same = sym (encoded-resolve i) ∙ ap encoded same ∙ encoded-resolve j
