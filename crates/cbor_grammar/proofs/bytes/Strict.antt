-- The only bytes that spell an item strictly (`Spells strict`) are its encoding (`encoded`), and they also spell the
-- item under the rule `any`. The encoding of a well-formed item strictly spells `resolve` of the item, and `resolve`
-- does not change the encoding.
use Rattle.std.proofs.Common.{◌≡◌, ℕ, suc, ◌+◌, ◌^◌, ◌<◌, List, [], ◌∷◌, ◌++◌, length, map, Option, Some, None, inl}
use Rattle.std.proofs.Common.{inr, refl, sym, ap, ◌∙◌, append_assoc, ◌≤◌, nat_lt}
use Rattle.std.specs.List.{AllByRecursion, flat_map}
use Rattle.std.proofs.lemmas.Bool.{cond_both, ltb-false, ltb-true, cases_lt, lt-ltb, le-ltb}
use Rattle.std.proofs.lemmas.List.{append-nil}
use Rattle.cbor_grammar.specs.declared.width.IntegerWidth.{IntegerWidth}
use Rattle.cbor_grammar.specs.declared.width.IntegerWidth.TheVariants.{Unknown, Zero, Eight, Sixteen, ThirtyTwo}
use Rattle.cbor_grammar.specs.declared.width.IntegerWidth.TheVariants.{SixtyFour}
use Rattle.cbor_grammar.specs.declared.width.FloatWidth.{FloatWidth}
use Rattle.cbor_grammar.specs.declared.width.FloatWidth.TheVariants as float_width
use Rattle.cbor_grammar.specs.Item as spec
use Rattle.cbor_grammar.specs.Item.{Chunk, Atom, integer, negative, string, chunked_string, float, simple, Item, atom}
use Rattle.cbor_grammar.specs.Item.{array, tagged, Items, no_items, item, Pairs, no_pairs, pair, item_count, pair_count}
use Rattle.cbor_grammar.specs.Head.{FitsWidth, FitsStated, shortest, stated, head, opening, break_byte, HeadThen}
use Rattle.cbor_grammar.specs.WellFormed.{IsChunk, FitsFloat, WellFormedAtom, FitsCount, WellFormed}
use Rattle.cbor_grammar.specs.WellFormed.{WellFormedItems, WellFormedPairs}
use Rattle.cbor_grammar.specs.Bytes.{any, strict, SpellsSimple, SpellsFloat, ChunkThen, SpellsChunks, SpellsAtom}
use Rattle.cbor_grammar.specs.Bytes.{MembersThen, Spells, SpellsItems, SpellsPairs}
use Rattle.cbor_grammar.specs.declared.strings.StringKind.{StringKind}
use Rattle.cbor_grammar.specs.StringKind.{major_of}
use Rattle.cbor_grammar.specs.Written.{encoded_head, encoded_chunk, encoded_float, encoded_simple, encoded_atom}
use Rattle.cbor_grammar.specs.Written.{encoded_open, encoded_close, encoded, encoded_items, encoded_pairs}
use Rattle.cbor_grammar.specs.Written.{resolve_chunk}
use Rattle.cbor_grammar.specs.Written.{resolve_float, resolve_atom, resolve_count, resolve, resolve_items}
use Rattle.cbor_grammar.specs.Written.{resolve_pairs}
use Rattle.cbor_grammar.proofs.bytes.Chunks.{chunk_parts}

-- ---- widths

-- what holds of a width where it is the shortest holds of the shortest
pub shortest_has : (P : IntegerWidth → Type 0) (n : ℕ) → (n < 24 → P Zero) → (24 ≤ n → n < 2 ^ 8 → P Eight)
    → (2 ^ 8 ≤ n → n < 2 ^ 16 → P Sixteen) → (2 ^ 16 ≤ n → n < 2 ^ 32 → P ThirtyTwo) → (2 ^ 32 ≤ n → P SixtyFour)
    → P (shortest n)
shortest_has P n at0 at8 at16 at32 at64 =
    cond_both (nat_lt n 24) Zero _ P (λ e. at0 (ltb-true n 24 e)) (λ d.
    let no0 : 24 ≤ n = ltb-false n 24 d in
    cond_both (nat_lt n (2 ^ 8)) Eight _ P (λ e. at8 no0 (ltb-true n (2 ^ 8) e)) (λ d.
    let no8 : 2 ^ 8 ≤ n = ltb-false n (2 ^ 8) d in
    cond_both (nat_lt n (2 ^ 16)) Sixteen _ P (λ e. at16 no8 (ltb-true n (2 ^ 16) e)) (λ d.
    let no16 : 2 ^ 16 ≤ n = ltb-false n (2 ^ 16) d in
    cond_both (nat_lt n (2 ^ 32)) ThirtyTwo _ P (λ e. at32 no16 (ltb-true n (2 ^ 32) e))
    (λ d. at64 (ltb-false n (2 ^ 32) d)))))

-- the width that a number is written in is stated, and the number fits it
pub stated_fits : (w : IntegerWidth) (n : ℕ) → FitsWidth w n → FitsStated (stated w n) n
stated_fits Unknown n fits = shortest_has (λ w. FitsStated w n) n (λ h. h) (λ l h. h) (λ l h. h) (λ l h. h)
    (λ l. fits)
stated_fits w n fits = fits

-- a number that fits a stated width fits that width
pub fits_stated : (w : IntegerWidth) (n : ℕ) → FitsStated w n → FitsWidth w n
fits_stated Unknown n fits = absurd fits
fits_stated w n fits = fits

-- a width that is stated is the one that is written
pub stated_is : (w : IntegerWidth) (n : ℕ) → FitsStated w n → stated w n ≡ w
stated_is Unknown n fits = absurd fits
stated_is w n fits = refl

pub stated-stated : (w : IntegerWidth) (n : ℕ) → stated (stated w n) n ≡ stated w n
stated-stated Unknown n = shortest_has (λ w. stated w n ≡ w) n (λ h. refl) (λ l h. refl) (λ l h. refl) (λ l h. refl)
    (λ l. refl)
stated-stated w n = refl

head_written : (major n : ℕ) (w : IntegerWidth) → FitsStated w n → head major n w ≡ encoded_head major n w
head_written major n w fits = ap (head major n) (sym (stated_is w n fits))

pub encoded_head-resolve : (major n : ℕ) (w : IntegerWidth) → encoded_head major n (stated w n) ≡ encoded_head major n w
encoded_head-resolve major n w = ap (head major n) (stated-stated w n)

-- ---- members of an array or a map

-- members that hold something else
pub members_map : (major n : ℕ) (w : Option IntegerWidth) (b : List ℕ) (Members Others : List ℕ → List ℕ → Type 0)
    → MembersThen major n w b Members
    → ((rest end : List ℕ) → Members rest end → Others rest end) → MembersThen major n w b Others
members_map major n (Some w) b Members Others h then = (h.0, h.1, h.2, then h.1 [] h.3)
members_map major n None b Members Others h then = (h.0, h.1, then h.0 (break_byte ∷ []) h.2)

-- members written between what comes before and after them
members_enc : (major n : ℕ) (w : Option IntegerWidth) (written : List ℕ) (Members : List ℕ → List ℕ → Type 0)
    → FitsCount w n
    → ((end : List ℕ) → Members (written ++ end) end)
    → MembersThen major n (resolve_count w n) (encoded_open major n w ++ (written ++ encoded_close w)) Members
members_enc major n (Some w) written Members fits then = (stated_fits w n fits, written ++ [], refl, then [])
members_enc major n None written Members fits then = (written ++ break_byte ∷ [], refl, then (break_byte ∷ []))

-- members that are what is written, between what comes before and after them
members_only : (major n : ℕ) (w : Option IntegerWidth) (b written : List ℕ) (Members : List ℕ → List ℕ → Type 0)
    → MembersThen major n w b Members
    → ((rest end : List ℕ) → Members rest end → rest ≡ written ++ end)
    → b ≡ encoded_open major n w ++ (written ++ encoded_close w)
members_only major n (Some w) b written Members h then =
    h.2 ∙ ap (λ (x : List ℕ). x ++ h.1) (head_written major n w h.0)
    ∙ ap (λ (x : List ℕ). encoded_head major n w ++ x) (then h.1 [] h.3)
members_only major n None b written Members h then = h.1
    ∙ ap (λ (x : List ℕ). opening major ∷ x) (then h.0 (break_byte ∷ []) h.2)

encoded_open-resolve : (major n : ℕ) (w : Option IntegerWidth)
    → encoded_open major n (resolve_count w n) ≡ encoded_open major n w
encoded_open-resolve major n (Some w) = encoded_head-resolve major n w
encoded_open-resolve major n None = refl

encoded_close-resolve : (n : ℕ) (w : Option IntegerWidth) → encoded_close (resolve_count w n) ≡ encoded_close w
encoded_close-resolve n (Some w) = refl
encoded_close-resolve n None = refl

pub item_count-resolve : (is : Items) → item_count (resolve_items is) ≡ item_count is
item_count-resolve no_items = refl
item_count-resolve (item i is) = ap suc (item_count-resolve is)

pub pair_count-resolve : (ps : Pairs) → pair_count (resolve_pairs ps) ≡ pair_count ps
pair_count-resolve no_pairs = refl
pair_count-resolve (pair k v ps) = ap suc (pair_count-resolve ps)

-- ---- a preferred encoding is an encoding

atom_any : (b : List ℕ) (a : Atom) → SpellsAtom strict b a → SpellsAtom any b a
atom_any b (simple n) (inl h) = inl h
atom_any b (simple n) (inr h) = inr (h.1, h.2)
atom_any b a h = h

mutual
  pub strict_any : (level : ℕ) (b : List ℕ) (i : Item) → Spells strict level b i → Spells any level b i
  strict_any level b (atom a) h = (h.0, atom_any b a h.1)
  strict_any level b (array is w) h = (
    h.0,
    members_map 4 (item_count is) w b _ _ h.1 (λ rest end s. items_any (level + 1) rest is end s),
  )
  strict_any level b (spec.map ps w) h = (
    h.0,
    members_map 5 (pair_count ps) w b _ _ h.1 (λ rest end s. pairs_any (level + 1) rest ps end s),
  )
  strict_any level b (tagged t w i) h = (h.0, (h.1.0, h.1.1, h.1.2, strict_any (level + 1) h.1.1 i h.1.3))

  pub items_any : (level : ℕ) (b : List ℕ) (is : Items) (end : List ℕ) → SpellsItems strict level b is end
      → SpellsItems any level b is end
  items_any level b no_items end h = h
  items_any level b (item i is) end h = (h.0, h.1, h.2, strict_any level h.0 i h.3, items_any level h.1 is end h.4)

  pairs_any : (level : ℕ) (b : List ℕ) (ps : Pairs) (end : List ℕ) → SpellsPairs strict level b ps end
      → SpellsPairs any level b ps end
  pairs_any level b no_pairs end h = h
  pairs_any level b (pair k v ps) end h = (
    h.0,
    h.1,
    h.2,
    h.3,
    strict_any level h.0 k h.4,
    strict_any level h.1 v h.5,
    pairs_any level h.2 ps end h.6,
  )

-- ---- the encoding of a well-formed item spells what it reads as

chunk_enc : (kind : StringKind) (c : Chunk) (b end : List ℕ) (Rest : List ℕ → Type 0) → IsChunk kind c
    → b ≡ encoded_chunk (major_of kind) c ++ end → Rest end → ChunkThen kind (resolve_chunk c) b Rest
chunk_enc kind c b end Rest h is holds = (
  h.content,
  (
    stated_fits c.width (length c.bytes) h.fits,
    c.bytes ++ end,
    is
        ∙ append_assoc (encoded_head (major_of kind) (length c.bytes) c.width) c.bytes end,
    (end, refl, holds),
  ),
)

chunks_enc : (kind : StringKind) (cs : List Chunk) (end : List ℕ) → AllByRecursion (IsChunk kind) cs
    → SpellsChunks kind (flat_map (encoded_chunk (major_of kind)) cs ++ end) (map resolve_chunk cs) end
chunks_enc kind [] end h = refl
chunks_enc kind (c ∷ cs) end h =
    let others : List ℕ = flat_map (encoded_chunk (major_of kind)) cs in
    chunk_enc kind c ((encoded_chunk (major_of kind) c ++ others) ++ end) (others ++ end)
    (λ rest. SpellsChunks kind rest (map resolve_chunk cs) end) h.0
    (append_assoc (encoded_chunk (major_of kind) c) others end) (chunks_enc kind cs end h.1)

float_enc : (bits : ℕ) (w : FloatWidth) → FitsFloat w bits → SpellsFloat (encoded_float bits w) bits (resolve_float w)
float_enc bits float_width.Unknown fits = (fits, refl)
float_enc bits w fits = (fits, refl)

simple_enc : (n : ℕ) → n < 256 → SpellsSimple strict (encoded_simple n) n
simple_enc n lt =
    elim (cases_lt n 24) [
      | inl low ↦ inl (low, rw (lt-ltb n 24 low) refl)
      | inr high ↦ inr (high, lt, rw (le-ltb n 24 high) refl)
    ]

head_enc : (major n : ℕ) (w : IntegerWidth) → FitsWidth w n
    → HeadThen major n (stated w n) (encoded_head major n w) (λ rest. rest ≡ [])
head_enc major n w fits = (stated_fits w n fits, [], sym (append-nil (encoded_head major n w)), refl)

atom_enc : (a : Atom) → WellFormedAtom a → SpellsAtom strict (encoded_atom a) (resolve_atom a)
atom_enc (integer n w) h = head_enc 0 n w h
atom_enc (negative n w) h = head_enc 1 n w h
atom_enc (string kind c) h =
    chunk_enc kind c _ [] (λ rest. rest ≡ []) h (sym (append-nil (encoded_chunk (major_of kind) c))) refl
atom_enc (chunked_string kind cs) h = (
  flat_map (encoded_chunk (major_of kind)) cs ++ break_byte ∷ [],
  refl,
  chunks_enc kind cs (break_byte ∷ []) h,
)
atom_enc (float bits w) h = float_enc bits w h
atom_enc (simple n) h = simple_enc n h

mutual
  pub strict_encoded : (level : ℕ) (i : Item) → WellFormed level i → Spells strict level (encoded i) (resolve i)
  strict_encoded level (atom a) h = (h.0, atom_enc a h.1)
  strict_encoded level (array is w) h = (
    h.0,
    rw (item_count-resolve is) (members_enc 4 (item_count is) w (encoded_items is)
        (λ rest end. SpellsItems strict (level + 1) rest (resolve_items is) end) h.1
        (λ end. items_enc (level + 1) is end h.2)),
  )
  strict_encoded level (spec.map ps w) h = (
    h.0,
    rw (pair_count-resolve ps) (members_enc 5 (pair_count ps) w (encoded_pairs ps)
        (λ rest end. SpellsPairs strict (level + 1) rest (resolve_pairs ps) end) h.1
        (λ end. pairs_enc (level + 1) ps end h.2)),
  )
  strict_encoded level (tagged t w i) h = (
    h.0,
    (stated_fits w t h.1, encoded i, refl, strict_encoded (level + 1) i h.2),
  )

  pub items_enc : (level : ℕ) (is : Items) (end : List ℕ) → WellFormedItems level is
      → SpellsItems strict level (encoded_items is ++ end) (resolve_items is) end
  items_enc level no_items end h = refl
  items_enc level (item i is) end h = (
    encoded i,
    encoded_items is ++ end,
    append_assoc (encoded i) (encoded_items is) end,
    strict_encoded level i h.0,
    items_enc level is end h.1,
  )

  pairs_enc : (level : ℕ) (ps : Pairs) (end : List ℕ) → WellFormedPairs level ps
      → SpellsPairs strict level (encoded_pairs ps ++ end) (resolve_pairs ps) end
  pairs_enc level no_pairs end h = refl
  pairs_enc level (pair k v ps) end h = (
    encoded k,
    encoded v,
    encoded_pairs ps ++ end,
    simp append_assoc,
    strict_encoded level k h.0,
    strict_encoded level v h.1,
    pairs_enc level ps end h.2,
  )

-- ---- a preferred encoding is the one that a writer gives

joined : (b x x2 y y2 : List ℕ) → b ≡ x ++ y → x ≡ x2 → y ≡ y2 → b ≡ x2 ++ y2
joined b x x2 y y2 e f g = e ∙ ap (λ (z : List ℕ). z ++ y) f ∙ ap (λ (z : List ℕ). x2 ++ z) g

head_only : (major n : ℕ) (w : IntegerWidth) (b end : List ℕ) → HeadThen major n w b (λ rest. rest ≡ end)
    → b ≡ encoded_head major n w ++ end
head_only major n w b end h = joined b (head major n w) (encoded_head major n w) h.1 end h.2
    (head_written major n w h.0) h.3

chunk_only : (kind : StringKind) (c : Chunk) (b end : List ℕ) → ChunkThen kind c b (λ rest. rest ≡ end)
    → b ≡ encoded_chunk (major_of kind) c ++ end
chunk_only kind c b end h =
    let s = h.1.3 in
    head_only (major_of kind) (length c.bytes) c.width b (c.bytes ++ end)
    (h.1.0, h.1.1, h.1.2, s.1 ∙ ap (λ (x : List ℕ). c.bytes ++ x) s.2)
    ∙ sym (append_assoc (encoded_head (major_of kind) (length c.bytes) c.width) c.bytes end)

chunks_only : (kind : StringKind) (cs : List Chunk) (b end : List ℕ) → SpellsChunks kind b cs end
    → b ≡ flat_map (encoded_chunk (major_of kind)) cs ++ end
chunks_only kind [] b end h = h
chunks_only kind (c ∷ cs) b end h =
    let p = chunk_parts kind b c (λ rest. SpellsChunks kind rest cs end) h in
    chunk_only kind c b p.rest p.is ∙ ap (λ (x : List ℕ). encoded_chunk (major_of kind) c ++ x)
    (chunks_only kind cs p.rest end p.holds)
    ∙ sym (append_assoc (encoded_chunk (major_of kind) c) (flat_map (encoded_chunk (major_of kind)) cs) end)

float_only : (b : List ℕ) (bits : ℕ) (w : FloatWidth) → SpellsFloat b bits w → b ≡ encoded_float bits w
float_only b bits float_width.Unknown h = absurd h
float_only b bits w h = h.1

simple_only : (b : List ℕ) (n : ℕ) → SpellsSimple strict b n → b ≡ encoded_simple n
simple_only b n (inl h) = rw (lt-ltb n 24 h.0) h.1
simple_only b n (inr h) = rw (le-ltb n 24 h.0) h.2

atom_only : (b : List ℕ) (a : Atom) → SpellsAtom strict b a → b ≡ encoded_atom a
atom_only b (integer n w) h = head_only 0 n w b [] h ∙ append-nil (encoded_head 0 n w)
atom_only b (negative n w) h = head_only 1 n w b [] h ∙ append-nil (encoded_head 1 n w)
atom_only b (string kind c) h = chunk_only kind c b [] h ∙ append-nil (encoded_chunk (major_of kind) c)
atom_only b (chunked_string kind cs) h = h.1 ∙ ap (λ (x : List ℕ). opening (major_of kind) ∷ x)
    (chunks_only kind cs h.0 (break_byte ∷ []) h.2)
atom_only b (float bits w) h = float_only b bits w h
atom_only b (simple n) h = simple_only b n h

mutual
  pub strict_only : (level : ℕ) (b : List ℕ) (i : Item) → Spells strict level b i → b ≡ encoded i
  strict_only level b (atom a) h = atom_only b a h.1
  strict_only level b (array is w) h = members_only 4 (item_count is) w b (encoded_items is) _ h.1
      (λ rest end s. items_only (level + 1) rest is end s)
  strict_only level b (spec.map ps w) h = members_only 5 (pair_count ps) w b (encoded_pairs ps) _ h.1
      (λ rest end s. pairs_only (level + 1) rest ps end s)
  strict_only level b (tagged t w i) h = head_only 6 t w b (encoded i)
      (h.1.0, h.1.1, h.1.2, strict_only (level + 1) h.1.1 i h.1.3)

  items_only : (level : ℕ) (b : List ℕ) (is : Items) (end : List ℕ) → SpellsItems strict level b is end
      → b ≡ encoded_items is ++ end
  items_only level b no_items end h = h
  items_only level b (item i is) end h =
      joined b h.0 (encoded i) h.1 (encoded_items is ++ end) h.2 (strict_only level h.0 i h.3)
      (items_only level h.1 is end h.4) ∙ sym (append_assoc (encoded i) (encoded_items is) end)

  pairs_only : (level : ℕ) (b : List ℕ) (ps : Pairs) (end : List ℕ) → SpellsPairs strict level b ps end
      → b ≡ encoded_pairs ps ++ end
  pairs_only level b no_pairs end h = h
  pairs_only level b (pair k v ps) end h =
      let behind = joined (h.1 ++ h.2) h.1 (encoded v) h.2 (encoded_pairs ps ++ end) refl (strict_only level h.1 v h.5)
      (pairs_only level h.2 ps end h.6) in
      joined b h.0 (encoded k) (h.1 ++ h.2) (encoded v ++ (encoded_pairs ps ++ end)) h.3 (strict_only level h.0 k h.4)
      behind ∙ simp append_assoc

-- ---- what an item reads as is written as the item is

chunk-resolve : (major : ℕ) (c : Chunk) → encoded_chunk major (resolve_chunk c) ≡ encoded_chunk major c
chunk-resolve major c = ap (λ (x : List ℕ). x ++ c.bytes) (encoded_head-resolve major (length c.bytes) c.width)

chunks-resolve : (major : ℕ) (cs : List Chunk)
    → flat_map (encoded_chunk major) (map resolve_chunk cs) ≡ flat_map (encoded_chunk major) cs
chunks-resolve major [] = refl
chunks-resolve major (c ∷ cs) = rw (chunk-resolve major c, chunks-resolve major cs) refl

pub float-resolve : (bits : ℕ) (w : FloatWidth) → encoded_float bits (resolve_float w) ≡ encoded_float bits w
float-resolve bits float_width.Unknown = refl
float-resolve bits w = refl

atom-resolve : (a : Atom) → encoded_atom (resolve_atom a) ≡ encoded_atom a
atom-resolve (integer n w) = encoded_head-resolve 0 n w
atom-resolve (negative n w) = encoded_head-resolve 1 n w
atom-resolve (string kind c) = chunk-resolve (major_of kind) c
atom-resolve (chunked_string kind cs) = ap (λ (x : List ℕ). opening (major_of kind) ∷ (x ++ break_byte ∷ []))
    (chunks-resolve (major_of kind) cs)
atom-resolve (float bits w) = float-resolve bits w
atom-resolve (simple n) = refl

mutual
  pub encoded-resolve : (i : Item) → encoded (resolve i) ≡ encoded i
  encoded-resolve (atom a) = atom-resolve a
  encoded-resolve (array is w) = rw (
    item_count-resolve is,
    encoded_open-resolve 4 (item_count is) w,
    encoded_items-resolve is,
    encoded_close-resolve (item_count is) w,
  ) refl
  encoded-resolve (spec.map ps w) = rw (
    pair_count-resolve ps,
    encoded_open-resolve 5 (pair_count ps) w,
    encoded_pairs-resolve ps,
    encoded_close-resolve (pair_count ps) w,
  ) refl
  encoded-resolve (tagged t w i) = rw (encoded_head-resolve 6 t w, encoded-resolve i) refl

  encoded_items-resolve : (is : Items) → encoded_items (resolve_items is) ≡ encoded_items is
  encoded_items-resolve no_items = refl
  encoded_items-resolve (item i is) = rw (encoded-resolve i, encoded_items-resolve is) refl

  encoded_pairs-resolve : (ps : Pairs) → encoded_pairs (resolve_pairs ps) ≡ encoded_pairs ps
  encoded_pairs-resolve no_pairs = refl
  encoded_pairs-resolve (pair k v ps) = rw (encoded-resolve k, encoded-resolve v, encoded_pairs-resolve ps) refl
