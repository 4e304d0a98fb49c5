-- `Leaves`: a dialect of notation. It has the texts of numbers, strings and tags, and what is written before, between
-- and after members. `TextsAt`: the texts that an item has in a dialect. `located`: the same dialect, where a place
-- also has the bytes there. `Writes`: one of some texts was appended.
use Rattle.std.specs.Prelude.{◌≡◌, ℕ, zero, suc, List, [], ◌∷◌, ◌++◌, length, take, Bool, true, false, Option, Some}
use Rattle.std.specs.Prelude.{None, Result, Ok, Err, MatchResult, nat_lt, if◌then◌else◌}
use Rattle.std.specs.Io.{StartsWith}
use Rattle.std.specs.List.{flat_map}
use Rattle.std.specs.String.{string_bytes}
use Rattle.std.specs.declared.string.String.{String}
use Rattle.cbor_grammar.specs.declared.argument.Argument.{Argument}
use Rattle.cbor_grammar.specs.declared.argument.Argument.TheVariants.{Number, Indefinite}
use Rattle.cbor_grammar.specs.declared.layout.Content.{Content}
use Rattle.cbor_grammar.specs.declared.layout.Content.TheVariants as shown
use Rattle.cbor_grammar.specs.declared.layout.ContainerStyle.{ContainerStyle}
use Rattle.cbor_grammar.specs.declared.layout.ContainerStyle.TheVariants.{Compact, OneLine, MultiLine}
use Rattle.cbor_grammar.specs.declared.layout.Layout.{Layout}
use Rattle.cbor_grammar.specs.declared.layout.Layout.TheVariants as layout
use Rattle.cbor_grammar.specs.declared.strings.StringKind.{StringKind}
use Rattle.cbor_grammar.specs.declared.strings.StringKind.TheVariants as kind
use Rattle.cbor_grammar.specs.declared.width.IntegerWidth.{IntegerWidth}
use Rattle.cbor_grammar.specs.declared.width.IntegerWidth.TheVariants.{Unknown}
use Rattle.cbor_grammar.specs.Embedded.{embedded_at, sequence_at}
use Rattle.cbor_grammar.specs.Estimate.{estimated_length}
use Rattle.cbor_grammar.specs.Item as spec
use Rattle.cbor_grammar.specs.Item.{Chunk, Atom, string, chunked_string, Item, atom, array, tagged, Items, no_items}
use Rattle.cbor_grammar.specs.Item.{item, Pairs, no_pairs, pair, item_count, pair_count}
use Rattle.cbor_grammar.specs.NotationText.{members_layout, sequence_size}
use Rattle.cbor_grammar.specs.Reading.{Read, read_head, read_item}
use Rattle.cbor_grammar.specs.WellFormed.{levels_left}
use Rattle.cbor_notation_writer.specs.declared.parts.Container.{Container}
use Rattle.cbor_notation_writer.specs.declared.parts.Container.TheVariants.{Array, Map, Chunks, Embedded}

-- the texts that something may be written as
abbrev pub Texts : Type 1
Texts = List ℕ → Type 0

-- ---- what a dialect says

-- A place is what decides how an item there is written, beside the item itself. A text that is written for a leaf, an
-- opening or a closing is one of several, as a dialect may add notes; what is between members is one text.
pub record Leaves (Place : Type 0) : Type 1 where
  -- what the place of an item may become, once its head is read
  pub At : Place → Place → Type 0
  -- the level there, the outermost being 1; how containers are laid out; the style of one that is estimated as this
  -- long; what a byte string of these bytes is shown as
  pub level : Place → ℕ
  pub layout : Place → Layout
  pub style : Place → ℕ → ContainerStyle
  pub content : Place → List ℕ → Content
  -- whether the chunks of a string of this kind are joined there, and written as one string
  pub joins : Place → StringKind → Bool
  -- the place of the first member of a container whose members are laid out so; of the member after this one; of the
  -- value of this key; of what is below this tag
  pub inside : Container → Layout → Place → Place
  pub next : Place → Place
  pub value : Item → Place → Place
  pub below : ℕ → Place → Place
  -- a number, a float or a simple value; a string of definite length; a chunk; an indefinite string without chunks
  pub leaf : Place → Atom → Texts
  pub string : Place → StringKind → Chunk → Texts
  pub part : Place → StringKind → Chunk → Texts
  pub no_parts : Place → StringKind → Texts
  -- before and after the members of a container
  pub opening : Place → Container → ContainerStyle → Texts
  pub closing : Place → Container → ContainerStyle → Texts
  -- after the items of a byte string: the bytes that begin with no item
  pub rest : Place → Container → List ℕ → Texts
  -- before and after the item below a tag
  pub tag : Place → ℕ → IntegerWidth → Texts
  pub tag_end : Place → ℕ → Texts
  -- before a member, which is the first or not; after it; between a key and its value
  pub start : Container → ContainerStyle → Bool → List ℕ
  pub end : Container → ContainerStyle → List ℕ
  pub colon : ContainerStyle → List ℕ

-- After `Ok` one of these texts was appended to the old one; after an error the text begins with the old one.
abbrev pub Wrote : {T E : Type 0} → Result T E → List ℕ → List ℕ → Texts → Type 0
Wrote result old new texts =
    MatchResult result (λ _. (t : List ℕ) × texts t × (new ≡ old ++ t)) (λ _. StartsWith new old)

abbrev pub Writes : {T E Z : Type 0} → Result T E → String Z → String Z → Texts → Type 0
Writes result old new texts = Wrote result (string_bytes old) (string_bytes new) texts

-- ---- members

-- the members of a container, as they are written
abbrev pub listed : (Bool → List ℕ) → List ℕ → List (List ℕ) → List ℕ
listed start end [] = []
listed start end (m ∷ ms) = (start true ++ (m ++ end)) ++ flat_map (λ x. start false ++ (x ++ end)) ms

-- what items are written as, each at its place
abbrev pub Writer : Type 0 → Type 1
Writer Place = Place → Item → Texts

abbrev pub ItemTexts : {Place : Type 0} → Leaves Place → Writer Place → Place → Items → List (List ℕ) → Type 0
ItemTexts d write p no_items [] = Unit {0}
ItemTexts d write p no_items (m ∷ ms) = ⊥
ItemTexts d write p (item i is) [] = ⊥
ItemTexts d write p (item i is) (m ∷ ms) = write p i m × ItemTexts d write (d.next p) is ms

-- a key and its value
abbrev pub PairText : {Place : Type 0} → Leaves Place → Writer Place → ContainerStyle → Place → Item → Item → Texts
PairText d write l p k v m =
    (a b : List ℕ) × write p k a × write (d.value k p) v b × (m ≡ a ++ (d.colon l ++ b))

abbrev pub PairTexts : {Place : Type 0} → Leaves Place → Writer Place → ContainerStyle → Place → Pairs
    → List (List ℕ) → Type 0
PairTexts d write l p no_pairs [] = Unit {0}
PairTexts d write l p no_pairs (m ∷ ms) = ⊥
PairTexts d write l p (pair k v ps) [] = ⊥
PairTexts d write l p (pair k v ps) (m ∷ ms) =
    PairText d write l p k v m × PairTexts d write l (d.next (d.value k p)) ps ms

abbrev pub ChunkTexts : {Place : Type 0} → Leaves Place → Place → StringKind → List Chunk → List (List ℕ) → Type 0
ChunkTexts d p kind [] [] = Unit {0}
ChunkTexts d p kind [] (m ∷ ms) = ⊥
ChunkTexts d p kind (c ∷ cs) [] = ⊥
ChunkTexts d p kind (c ∷ cs) (m ∷ ms) = d.part p kind c m × ChunkTexts d p kind cs ms

-- what is written of the members, between an opening and a closing
abbrev pub Between : {Place : Type 0} → Leaves Place → Place → Container → ContainerStyle → List ℕ → Texts
Between d p c l inner t =
    (o e : List ℕ) × d.opening p c l o × d.closing p c l e × (t ≡ o ++ (inner ++ e))

abbrev pub Listed : {Place : Type 0} → Leaves Place → Place → Container → ContainerStyle → List (List ℕ) → Texts
Listed d p c l ms = Between d p c l (listed (d.start c l) (d.end c l) ms)

-- ---- items, the items in them written by `write`

-- the length of a container of this many members whose count has this width
abbrev pub count_of : Option IntegerWidth → ℕ → Argument
count_of (Some w) n = Number n w
count_of None n = Indefinite

-- the style of a container that is estimated as this long: one that is as long as the limit or longer takes a line for
-- each member
abbrev pub style_within : ℕ → Layout → ℕ → ContainerStyle
style_within limit layout.Compact size = Compact
style_within limit (layout.Pretty indent) size = if nat_lt size limit then OneLine indent else MultiLine indent

-- the style of this container there
abbrev pub style_at : {Place : Type 0} → Leaves Place → Place → Item → ContainerStyle
style_at d p i = d.style p (estimated_length i)

abbrev pub ItemsText : {Place : Type 0} → Leaves Place → Writer Place → Place → Container → ContainerStyle → Items
    → Texts
ItemsText d write p c l is t =
    (ms : List (List ℕ)) × ItemTexts d write (d.inside c (members_layout l) p) is ms × Listed d p c l ms t

abbrev pub PairsText : {Place : Type 0} → Leaves Place → Writer Place → Place → Container → ContainerStyle → Pairs
    → Texts
PairsText d write p c l ps t =
    (ms : List (List ℕ)) × PairTexts d write l (d.inside c (members_layout l) p) ps ms × Listed d p c l ms t

-- a byte string that is shown as the items in it
abbrev pub embedding : Chunk → Container
embedding b = Embedded (Number (length b.bytes) b.width)

-- the one item that the bytes encode, or the bytes
abbrev pub OneText : {Place : Type 0} → Leaves Place → Writer Place → Place → Chunk → Option Item → Texts
OneText d write p b (Some i) t =
    (m : List ℕ) × write (d.inside (embedding b) (d.layout p) p) i m × Between d p (embedding b) Compact m t
OneText d write p b None t = d.string p kind.Bytes b t

abbrev pub EmbeddedText : {Place : Type 0} → Leaves Place → Writer Place → Place → Chunk → List ℕ → Option Item
    → Texts
EmbeddedText d write p b [] e t = Between d p (embedding b) Compact [] t
EmbeddedText d write p b (x ∷ xs) e t = OneText d write p b e t

-- items in order, laid out as an array, and the rest of the bytes, which begins with no item
abbrev pub SequenceText : {Place : Type 0} → Leaves Place → Writer Place → Place → Chunk → Items × List ℕ → Texts
SequenceText d write p b s t =
    (u r : List ℕ) × ItemsText d write p (embedding b) (d.style p (sequence_size s)) s.0 u
    × d.rest p (embedding b) s.1 r × (t ≡ u ++ r)

-- a byte string of definite length, with this many levels left below it
abbrev pub ContentText : {Place : Type 0} → Leaves Place → ℕ → Writer Place → Content → Place → Chunk → Texts
ContentText d left write shown.Bytes p b t = d.string p kind.Bytes b t
ContentText d left write shown.Item p b t = EmbeddedText d write p b b.bytes (embedded_at left b.bytes) t
ContentText d left write shown.Sequence p b t = SequenceText d write p b (sequence_at left b.bytes) t

abbrev pub ChunksText : {Place : Type 0} → Leaves Place → Place → StringKind → ContainerStyle → List Chunk → Texts
ChunksText d p kind l [] t = d.no_parts p kind t
ChunksText d p kind l (c ∷ cs) t =
    (ms : List (List ℕ)) × ChunkTexts d p kind (c ∷ cs) ms × Listed d p (Chunks kind) l ms t

-- the chunks as one string
abbrev pub joined : List Chunk → Chunk
joined cs = record { bytes = flat_map (λ (c : Chunk). c.bytes) cs; width = Unknown }

abbrev pub ChunkedText : {Place : Type 0} → Leaves Place → Place → StringKind → ContainerStyle → Bool → List Chunk
    → Texts
ChunkedText d p kind l false cs t = ChunksText d p kind l cs t
ChunkedText d p kind l true cs t = d.string p kind (joined cs) t

abbrev pub AtomText : {Place : Type 0} → Leaves Place → ℕ → Writer Place → Place → Atom → Texts
AtomText d left write p (string kind.Bytes b) t = ContentText d left write (d.content p b.bytes) p b t
AtomText d left write p (string kind.Text s) t = d.string p kind.Text s t
AtomText d left write p (chunked_string kind cs) t =
    ChunkedText d p kind (style_at d p (atom (chunked_string kind cs))) (d.joins p kind) cs t
AtomText d left write p a t = d.leaf p a t

abbrev pub TagText : {Place : Type 0} → Leaves Place → Writer Place → Place → ℕ → IntegerWidth → Item → Texts
TagText d write p n w i t = (o m e : List ℕ) × d.tag p n w o × write (d.below n p) i m × d.tag_end p n e
    × (t ≡ o ++ (m ++ e))

abbrev pub TextWith : {Place : Type 0} → Leaves Place → ℕ → Writer Place → Place → Item → Texts
TextWith d left write p (atom a) t = AtomText d left write p a t
TextWith d left write p (array is w) t =
    ItemsText d write p (Array (count_of w (item_count is))) (style_at d p (array is w)) is t
TextWith d left write p (spec.map ps w) t =
    PairsText d write p (Map (count_of w (pair_count ps))) (style_at d p (spec.map ps w)) ps t
TextWith d left write p (tagged n w i) t = TagText d write p n w i t

-- The texts of an item with this many levels left for it and what is nested in it, embedded items included, at one of
-- the places that its place may become. Where no level is left there is no item.
unfoldable pub TextsOf : {Place : Type 0} → Leaves Place → ℕ → Writer Place
TextsOf d zero p i t = ⊥
TextsOf {Place} d (suc left) p i t = (q : Place) × d.At p q × TextWith d left (TextsOf d left) q i t

-- the texts of an item there
abbrev pub TextsAt : {Place : Type 0} → Leaves Place → Writer Place
TextsAt d p = TextsOf d (levels_left (d.level p)) p

-- ---- items at their places in the bytes

-- what the place of an item becomes, once its head is read, where this many bytes are left from the item on
abbrev pub Becomes : Type 0 → Type 1
Becomes Place = Place → ℕ → Place → Type 0

-- the same wherever the item begins
abbrev pub anywhere : {Place : Type 0} → Leaves Place → Becomes Place
anywhere d p left q = d.At p q

-- the bytes after what was read
abbrev pub after_read : {X : Type 0} → Read X → List ℕ
after_read (Ok x) = x.1
after_read (Err e) = []

-- the bytes that the members of a container are read from, of those after its head
abbrev pub bytes_in : Container → List ℕ → List ℕ
bytes_in (Embedded (Number n w)) b = take n b
bytes_in c b = b

-- a place with the bytes there
abbrev pub with_bytes : {Place : Type 0} → Place → List ℕ → Place × List ℕ
with_bytes p b = (p, b)

-- The same dialect, where a place also has the bytes from the item on, and those after its head once that is read. So
-- what the place of an item becomes depends on where the item begins.
abbrev pub located : {Place : Type 0} → Leaves Place → Becomes Place → Leaves (Place × List ℕ)
located {Place} d becomes = record {
  At = λ (p : Place × List ℕ) (q : Place × List ℕ).
      becomes p.0 (length p.1) q.0 × (q.1 ≡ after_read (read_head p.1));
  level = λ (p : Place × List ℕ). d.level p.0;
  layout = λ (p : Place × List ℕ). d.layout p.0;
  style = λ (p : Place × List ℕ). d.style p.0;
  content = λ (p : Place × List ℕ). d.content p.0;
  joins = λ (p : Place × List ℕ). d.joins p.0;
  inside = λ c l (p : Place × List ℕ). (d.inside c l p.0, bytes_in c p.1);
  next = λ (p : Place × List ℕ). (d.next p.0, after_read (read_item (levels_left (d.level p.0)) p.1));
  value = λ k (p : Place × List ℕ). (d.value k p.0, after_read (read_item (levels_left (d.level p.0)) p.1));
  below = λ n (p : Place × List ℕ). (d.below n p.0, p.1);
  leaf = λ (p : Place × List ℕ). d.leaf p.0;
  string = λ (p : Place × List ℕ). d.string p.0;
  part = λ (p : Place × List ℕ). d.part p.0;
  no_parts = λ (p : Place × List ℕ). d.no_parts p.0;
  opening = λ (p : Place × List ℕ). d.opening p.0;
  closing = λ (p : Place × List ℕ). d.closing p.0;
  rest = λ (p : Place × List ℕ). d.rest p.0;
  tag = λ (p : Place × List ℕ). d.tag p.0;
  tag_end = λ (p : Place × List ℕ). d.tag_end p.0;
  start = d.start;
  end = d.end;
  colon = d.colon;
}
