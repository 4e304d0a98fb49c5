-- The normal form of a well-formed item is well formed, and its encoding has no more bytes than that of the item
-- (`normal_serves`). The encoding of an item has no more bytes than any bytes that spell the item (`spelled_len`).
use Rattle.std.proofs.Common.{◌≡◌, ℕ, zero, suc, ◌+◌, ◌≤◌, List, [], ◌∷◌, ◌++◌, length, map, Option, Some, None, ◌⊎◌}
use Rattle.std.proofs.Common.{inl, inr, eqb, false, refl, ap, arith, nat_lt}
use Rattle.std.specs.List.{AllByRecursion, flat_map}
use Rattle.std.proofs.lemmas.Bool.{cond_both, lt-ltb, cases_eq, ne_eqb}
use Rattle.std.proofs.lemmas.List.{length-append}
use Rattle.cbor_grammar.specs.declared.width.IntegerWidth.{IntegerWidth}
use Rattle.cbor_grammar.specs.declared.width.IntegerWidth.TheVariants.{Unknown}
use Rattle.cbor_grammar.specs.declared.width.FloatWidth.{FloatWidth}
use Rattle.cbor_grammar.specs.declared.width.FloatWidth.TheVariants as float_width
use Rattle.cbor_grammar.specs.Item as spec
use Rattle.cbor_grammar.specs.Item.{Chunk, Atom, integer, negative, string, chunked_string, float, simple, Item, atom}
use Rattle.cbor_grammar.specs.Item.{array, tagged, Items, no_items, item, Pairs, no_pairs, pair, item_count, pair_count}
use Rattle.cbor_grammar.specs.Head.{FitsWidth, head, break_byte, HeadThen}
use Rattle.cbor_grammar.specs.WellFormed.{IsChunk, WellFormedAtom, FitsCount, WellFormed, WellFormedItems}
use Rattle.cbor_grammar.specs.WellFormed.{WellFormedPairs}
use Rattle.cbor_grammar.specs.Bytes.{any, ChunkThen, SpellsChunks, SpellsAtom}
use Rattle.cbor_grammar.specs.declared.strings.StringKind.{StringKind}
use Rattle.cbor_grammar.specs.declared.strings.StringKind.TheVariants.{Bytes, Text}
use Rattle.cbor_grammar.specs.StringKind.{major_of}
use Rattle.cbor_grammar.specs.Bytes.{SpellsFloat, SpellsSimple, MembersThen, Spells, SpellsItems, SpellsPairs}
use Rattle.cbor_grammar.specs.Written.{encoded_head, encoded_chunk, encoded_float, encoded_simple, encoded_atom}
use Rattle.cbor_grammar.specs.Written.{encoded_open, encoded_close, encoded, encoded_items, encoded_pairs}
use Rattle.cbor_grammar.specs.Embedded.{embedded_at, sequence_at}
use Rattle.cbor_grammar.specs.Normal.{normal_width, normal_chunk, normal_count, normal_items, normal_pairs}
use Rattle.cbor_grammar.specs.Normal.{normal_embedded, normal_sequence, normal_content, normal_atom, normal_with}
use Rattle.cbor_grammar.specs.Normal.{normal_at}
use Rattle.cbor_grammar.proofs.bytes.Strict.{float-resolve, stated_is}
use Rattle.cbor_grammar.proofs.bytes.Resolved.{spells_well}
use Rattle.cbor_grammar.proofs.shared.EmbeddedItems.{embedded_spells, sequence_spells}
use Rattle.cbor_grammar.proofs.bytes.Laws.{AllBytes, all_bytes-append, bytes_at}
use Rattle.cbor_grammar.proofs.bytes.Laws.{item_bytes, items_bytes}
use Rattle.cbor_notation_writer.proofs.normal.Form.{open_fits, head_no_longer, normal_fits, normal_head, float_fits}
use Rattle.cbor_bytes.proofs.bytes.WellFormed.{items_well}

-- ---- the encoding of a spelled item is no longer than its spelling

head_spelled : (major n : ℕ) (w : IntegerWidth) (b : List ℕ) (Rest : List ℕ → Type 0) (h : HeadThen major n w b Rest)
    → length (encoded_head major n w) + length h.1 ≡ length b
head_spelled major n w b Rest h = omega (
  arith,
  ap (λ v. length (head major n v)) (stated_is w n h.0),
  ap length h.2,
  length-append (head major n w) h.1,
)

chunk_spelled : (kind : StringKind) (c : Chunk) (b : List ℕ) (Rest : List ℕ → Type 0) (h : ChunkThen kind c b Rest)
    → length (encoded_chunk (major_of kind) c) + length h.1.3.0 ≡ length b
chunk_spelled kind c b Rest h =
    let s = head_spelled (major_of kind) (length c.bytes) c.width b _ h.1 in
    omega (
      arith,
      s,
      ap length h.1.3.1,
      length-append c.bytes h.1.3.0,
      length-append (encoded_head (major_of kind) (length c.bytes) c.width) c.bytes,
    )

chunks_spelled : (kind : StringKind) (cs : List Chunk) (b end : List ℕ) → SpellsChunks kind b cs end
    → length (flat_map (encoded_chunk (major_of kind)) cs) + length end ≡ length b
chunks_spelled kind [] b end h = omega (arith, ap length h)
chunks_spelled kind (c ∷ cs) b end h =
    omega (
      arith,
      chunk_spelled kind c b _ h,
      chunks_spelled kind cs h.1.3.0 end h.1.3.2,
      length-append (encoded_chunk (major_of kind) c) (flat_map (encoded_chunk (major_of kind)) cs),
    )

float_spelled : (b : List ℕ) (bits : ℕ) (w : FloatWidth) → SpellsFloat b bits w
    → length (encoded_float bits w) ≤ length b
float_spelled b bits float_width.Unknown h = absurd h
float_spelled b bits _ h = omega (arith, ap length h.1)

simple_len : (n : ℕ) → length (encoded_simple n) ≤ 2
simple_len n = cond_both (nat_lt n 24) _ _ (λ (b : List ℕ). length b ≤ 2) (λ _. omega arith) (λ _. omega arith)

simple_spelled : (b : List ℕ) (n : ℕ) → SpellsSimple any b n → length (encoded_simple n) ≤ length b
simple_spelled b n (inl h) = rw (lt-ltb n 24 h.0) (omega (arith, ap length h.1))
simple_spelled b n (inr h) = omega (arith, simple_len n, ap length h.1)

atom_spelled : (b : List ℕ) (a : Atom) → SpellsAtom any b a → length (encoded_atom a) ≤ length b
atom_spelled b (integer n w) h = omega (arith, head_spelled 0 n w b _ h)
atom_spelled b (negative n w) h = omega (arith, head_spelled 1 n w b _ h)
atom_spelled b (string kind c) h = omega (arith, chunk_spelled kind c b _ h)
atom_spelled b (chunked_string kind cs) h = omega (
  arith,
  chunks_spelled kind cs h.0 (break_byte ∷ []) h.2,
  ap length h.1,
  length-append (flat_map (encoded_chunk (major_of kind)) cs) (break_byte ∷ []),
)
atom_spelled b (float bits w) h = float_spelled b bits w h
atom_spelled b (simple n) h = simple_spelled b n h

-- a container, by what its members take
members_spelled : (major n : ℕ) (w : Option IntegerWidth) (b written : List ℕ) (Members : List ℕ → List ℕ → Type 0)
    → MembersThen major n w b Members → ((r end : List ℕ) → Members r end → length written + length end ≤ length r)
    → length (encoded_open major n w ++ (written ++ encoded_close w)) ≤ length b
members_spelled major n (Some w) b written Members h each =
    omega (
      arith,
      head_spelled major n w b _ h,
      each h.1 [] h.3,
      length-append (encoded_head major n w) (written ++ []),
      length-append written [],
    )
members_spelled major n None b written Members h each =
    omega (arith, each h.0 (break_byte ∷ []) h.2, ap length h.1, length-append written (break_byte ∷ []))

mutual
  pub spelled_len : (level : ℕ) (b : List ℕ) (i : Item) → Spells any level b i → length (encoded i) ≤ length b
  spelled_len level b (atom a) h = atom_spelled b a h.1
  spelled_len level b (array is w) h = members_spelled 4 (item_count is) w b (encoded_items is) _ h.1
      (λ r end s. items_len (level + 1) is r end s)
  spelled_len level b (spec.map ps w) h = members_spelled 5 (pair_count ps) w b (encoded_pairs ps) _ h.1
      (λ r end s. pairs_len (level + 1) ps r end s)
  spelled_len level b (tagged t w i) h =
      omega (
        arith,
        head_spelled 6 t w b _ h.1,
        spelled_len (level + 1) h.1.1 i h.1.3,
        length-append (encoded_head 6 t w) (encoded i),
      )

  pub items_len : (level : ℕ) (is : Items) (b end : List ℕ) → SpellsItems any level b is end
      → length (encoded_items is) + length end ≤ length b
  items_len level no_items b end h = omega (arith, ap length h)
  items_len level (item i is) b end h =
      omega (
        arith,
        spelled_len level h.0 i h.3,
        items_len level is h.1 end h.4,
        ap length h.2,
        length-append h.0 h.1,
        length-append (encoded i) (encoded_items is),
      )

  pairs_len : (level : ℕ) (ps : Pairs) (b end : List ℕ) → SpellsPairs any level b ps end
      → length (encoded_pairs ps) + length end ≤ length b
  pairs_len level no_pairs b end h = omega (arith, ap length h)
  pairs_len level (pair k v ps) b end h =
      omega (
        arith,
        spelled_len level h.0 k h.4,
        spelled_len level h.1 v h.5,
        pairs_len level ps h.2 end h.6,
        ap length h.3,
        length-append h.0 (h.1 ++ h.2),
        length-append h.1 h.2,
        length-append (encoded k) (encoded v ++ encoded_pairs ps),
        length-append (encoded v) (encoded_pairs ps),
      )

-- ---- the normal form

-- an item in place of another: well formed at this level, and no longer
pub record Serves (level : ℕ) (i j : Item) : Type 0 where
  pub well : WellFormed level j
  pub no_longer : length (encoded j) ≤ length (encoded i)

-- bytes in place of others
pub record ServesBytes (b x : List ℕ) : Type 0 where
  pub bytes : AllBytes x
  pub no_longer : length x ≤ length b

-- the bytes of items that are spelled are replaced by those of items that serve in their place
module _ (level left : ℕ) (levels : level + left ≡ 129) (into : Item → Item) (serves : (i : Item) → WellFormed level i
    → Serves level i (into i)) where
  pub items_serve : (is : Items) → WellFormedItems level is → WellFormedItems level (normal_items into is)
      × (length (encoded_items (normal_items into is)) ≤ length (encoded_items is))
  items_serve no_items h = (tt, omega arith)
  items_serve (item i is) h =
      let s = serves i h.0 in
      let others = items_serve is h.1 in (
        (s.well, others.0),
        omega (
          arith,
          s.no_longer,
          others.1,
          length-append (encoded i) (encoded_items is),
          length-append (encoded (into i)) (encoded_items (normal_items into is)),
        ),
      )

  pub pairs_serve : (ps : Pairs) → WellFormedPairs level ps → WellFormedPairs level (normal_pairs into ps)
      × (length (encoded_pairs (normal_pairs into ps)) ≤ length (encoded_pairs ps))
  pairs_serve no_pairs h = (tt, omega arith)
  pairs_serve (pair k v ps) h =
      let s = serves k h.0 in
      let t = serves v h.1 in
      let others = pairs_serve ps h.2 in (
        (s.well, t.well, others.0),
        omega (
          arith,
          s.no_longer,
          t.no_longer,
          others.1,
          length-append (encoded k) (encoded v ++ encoded_pairs ps),
          length-append (encoded v) (encoded_pairs ps),
          length-append (encoded (into k)) (encoded (into v) ++ encoded_pairs (normal_pairs into ps)),
          length-append (encoded (into v)) (encoded_pairs (normal_pairs into ps)),
        ),
      )

  embedded_serves : (b : List ℕ) (o : Option Item) → AllBytes b → embedded_at left b ≡ o
      → ServesBytes b (normal_embedded into b o)
  embedded_serves b (Some e) all h =
      let s = embedded_spells level left b e levels (bytes_at b all) h in
      let t = serves e (spells_well level b e (bytes_at b all) s) in
      record {
        bytes = item_bytes level (into e) t.well;
        no_longer =
            omega (arith, t.no_longer, spelled_len level b e s);
      }
  embedded_serves b None all h = record { bytes = all; no_longer = omega arith }

  sequence_serves : (b : List ℕ) → AllBytes b → ServesBytes b (normal_sequence into (sequence_at left b))
  sequence_serves b all =
      let s = sequence_at left b in
      let so = sequence_spells level left levels (length b) b (omega arith) (bytes_at b all) in
      let w = items_well level s.0 b s.1 all so.spelled_so in
      let t = items_serve s.0 w.0 in
      record {
        bytes = all_bytes-append (encoded_items (normal_items into s.0)) s.1
            (items_bytes level (normal_items into s.0) t.0) w.1;
        no_longer =
            omega (
              arith,
              t.1,
              items_len level s.0 b s.1 so.spelled_so,
              length-append (encoded_items (normal_items into s.0)) s.1,
            );
      }

-- ---- one level

-- a tag below which bytes are one item, or a sequence of items, or stay bytes
pub tag_kind : (t : ℕ) → (t ≡ 24) ⊎ ((t ≡ 63) ⊎ ((eqb t 24 ≡ false) × (eqb t 63 ≡ false)))
tag_kind t =
    elim (cases_eq t 24) [
      | inl is ↦ inl is
      | inr differs ↦ elim (cases_eq t 63) [
        | inl is ↦ inr (inl is)
        | inr none ↦ inr (inr (ne_eqb t 24 differs, ne_eqb t 63 none))
      ]
    ]

content_serves : (level left : ℕ) → level + left ≡ 129 → (into : Item → Item)
    → ((i : Item) → WellFormed level i → Serves level i (into i))
    → (tag : Option ℕ) (b : List ℕ) → AllBytes b → ServesBytes b (normal_content left into tag b)
content_serves level left levels into serves None b all = record { bytes = all; no_longer = omega arith }
content_serves level left levels into serves (Some t) b all =
    elim (tag_kind t) [
      | inl is ↦ rw is (embedded_serves level left levels into serves b (embedded_at left b) all refl)
      | inr rest ↦ elim rest [
        | inl is ↦ rw is (sequence_serves level left levels into serves b all)
        | inr other ↦ rw (other.0, other.1) (record { bytes = all; no_longer = omega arith })
      ]
    ]

-- a string whose content is replaced so
string_no_longer : (major : ℕ) (c : Chunk) (x : List ℕ) → FitsWidth c.width (length c.bytes) → length x ≤ length c.bytes
    → length (encoded_chunk major (record { bytes = x; width = Unknown })) ≤ length (encoded_chunk major c)
string_no_longer major c x fits le =
    omega (
      arith,
      head_no_longer major (length x) (length c.bytes) c.width le fits,
      length-append (encoded_head major (length x) Unknown) x,
      length-append (encoded_head major (length c.bytes) c.width) c.bytes,
    )

chunk_serves : (kind : StringKind) (c : Chunk) → IsChunk kind c → IsChunk kind (normal_chunk c)
chunk_serves kind c h = record {
  fits = open_fits (length c.bytes) (length c.bytes) c.width (omega arith) h.fits;
  bytes = h.bytes;
  content = h.content;
}

chunks_serve : (kind : StringKind) (cs : List Chunk) → AllByRecursion (IsChunk kind) cs
    → AllByRecursion (IsChunk kind) (map normal_chunk cs)
    × (length (flat_map (encoded_chunk (major_of kind)) (map normal_chunk cs) ++ break_byte ∷ [])
    ≤ length (flat_map (encoded_chunk (major_of kind)) cs ++ break_byte ∷ []))
chunks_serve kind [] h = (tt, omega arith)
chunks_serve kind (c ∷ cs) h =
    let major = major_of kind in
    let others = chunks_serve kind cs h.1 in
    let rest = flat_map (encoded_chunk major) cs in
    let normal_rest = flat_map (encoded_chunk major) (map normal_chunk cs) in (
      (chunk_serves kind c h.0, others.0),
      omega (
        arith,
        string_no_longer major c c.bytes h.0.fits (omega arith),
        others.1,
        length-append (encoded_chunk major c) rest,
        length-append (encoded_chunk major (normal_chunk c)) normal_rest,
        length-append rest (break_byte ∷ []),
        length-append normal_rest (break_byte ∷ []),
        length-append (encoded_chunk major c ++ rest) (break_byte ∷ []),
        length-append (encoded_chunk major (normal_chunk c) ++ normal_rest) (break_byte ∷ []),
      ),
    )

normal_items_count : (into : Item → Item) (is : Items) → item_count (normal_items into is) ≡ item_count is
normal_items_count into no_items = refl
normal_items_count into (item i is) = ap suc (normal_items_count into is)

normal_pairs_count : (into : Item → Item) (ps : Pairs) → pair_count (normal_pairs into ps) ≡ pair_count ps
normal_pairs_count into no_pairs = refl
normal_pairs_count into (pair k v ps) = ap suc (normal_pairs_count into ps)

count_fits : (w : Option IntegerWidth) (m n : ℕ) → m ≡ n → FitsCount w n → FitsCount (normal_count w) m
count_fits None m n same h = tt
count_fits (Some w) m n same h = open_fits m n w (omega arith) h

-- a container in whose members others serve
container_no_longer : (major m n : ℕ) (w : Option IntegerWidth) (x y : List ℕ) → m ≡ n → FitsCount w n
    → length x ≤ length y → length (encoded_open major m (normal_count w) ++ (x ++ encoded_close (normal_count w)))
    ≤ length (encoded_open major n w ++ (y ++ encoded_close w))
container_no_longer major m n None x y same fits le =
    omega (arith, length-append x (break_byte ∷ []), length-append y (break_byte ∷ []))
container_no_longer major m n (Some w) x y same fits le =
    omega (
      arith,
      head_no_longer major m n w (omega arith) fits,
      length-append (encoded_head major m Unknown) (x ++ []),
      length-append (encoded_head major n w) (y ++ []),
      length-append x [],
      length-append y [],
    )

module _ (level left : ℕ) (levels : (level + 1) + left ≡ 129) (into : Option ℕ → Item → Item)
    (serves : (tag : Option ℕ) (i : Item) → WellFormed (level + 1) i → Serves (level + 1) i (into tag i)) where
  atom_serves : (tag : Option ℕ) (a : Atom) → WellFormedAtom a
      → WellFormedAtom
      (normal_atom left into tag a) × (length (encoded_atom (normal_atom left into tag a)) ≤ length (encoded_atom a))
  atom_serves tag (integer n w) h = (normal_fits n w h, omega (arith, ap length (normal_head 0 n w)))
  atom_serves tag (negative n w) h = (normal_fits n w h, omega (arith, ap length (normal_head 1 n w)))
  atom_serves tag (string Bytes c) h =
      let x = normal_content left (into None) tag c.bytes in
      let s = content_serves (level + 1) left levels (into None) (serves None) tag c.bytes h.bytes in (
        record {
          fits = open_fits (length x) (length c.bytes) c.width s.no_longer h.fits;
          bytes = s.bytes;
          content = tt;
        },
        string_no_longer 2 c x h.fits s.no_longer,
      )
  atom_serves tag (string Text c) h =
      (chunk_serves Text c h, string_no_longer 3 c c.bytes h.fits (omega arith))
  atom_serves tag (chunked_string kind cs) h = let s = chunks_serve kind cs h in (s.0, omega (arith, s.1))
  atom_serves tag (float bits w) h = (float_fits bits w h, omega (arith, ap length (float-resolve bits w)))
  atom_serves tag (simple n) h = (h, omega arith)

  with_serves : (tag : Option ℕ) (i : Item) → WellFormed level i → Serves level i (normal_with left into tag i)
  with_serves tag (atom a) h = let s = atom_serves tag a h.1 in record { well = (h.0, s.0); no_longer = s.1 }
  with_serves tag (array is w) h =
      let s = items_serve (level + 1) left levels (into None) (serves None) is h.2 in
      let same = normal_items_count (into None) is in
      record { well = (h.0, count_fits w _ _ same h.1, s.0); no_longer = container_no_longer 4 _ _ w _ _ same h.1 s.1 }
  with_serves tag (spec.map ps w) h =
      let s = pairs_serve (level + 1) left levels (into None) (serves None) ps h.2 in
      let same = normal_pairs_count (into None) ps in
      record { well = (h.0, count_fits w _ _ same h.1, s.0); no_longer = container_no_longer 5 _ _ w _ _ same h.1 s.1 }
  with_serves tag (tagged t w i) h =
      let s = serves (Some t) i h.2 in
      record {
        well = (h.0, normal_fits t w h.1, s.well);
        no_longer =
            omega (
              arith,
              s.no_longer,
              ap length (normal_head 6 t w),
              length-append (encoded_head 6 t w)
                  (encoded i),
              length-append (encoded_head 6 t (normal_width w t)) (encoded (into (Some t) i)),
            );
      }

-- The normal form of a well-formed item serves in its place.
pub normal_serves : (level left : ℕ) → level + left ≡ 129 → (tag : Option ℕ) (i : Item) → WellFormed level i
    → Serves level i (normal_at left tag i)
unfolding normal_at
normal_serves level zero levels tag i h = record { well = h; no_longer = omega arith }
normal_serves level (suc left) levels tag i h =
    with_serves level left (omega arith) (normal_at left) (normal_serves (level + 1) left (omega arith)) tag i h
