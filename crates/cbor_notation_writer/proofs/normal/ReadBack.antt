-- The text of a well-formed item (`text_at`), in each layout and with each encoding of bytes, is notation of its normal
-- form (`normal_at`) by the grammar (`Reads`). The context has to show bytes as the tag right above the item asks
-- (`content_of`).
use Rattle.std.proofs.Common.{◌≡◌, ℕ, zero, suc, ◌+◌, List, [], ◌∷◌, ◌++◌, length, map, codes, Option, Some, None, inl}
use Rattle.std.proofs.Common.{inr, refl, sym, ap, subst, ◌∙◌, append_assoc, arith}
use Rattle.std.specs.List.{AllByRecursion}
use Rattle.std.proofs.lemmas.List.{append-nil}
use Rattle.cbor_tokens.specs.Token.{nothing}
use Rattle.cbor_grammar.specs.declared.width.IntegerWidth.TheVariants.{Unknown}
use Rattle.cbor_grammar.specs.declared.encoding.Encoding.{Encoding}
use Rattle.cbor_grammar.specs.Context.{Context}
use Rattle.cbor_grammar.specs.declared.layout.Content.{Content}
use Rattle.cbor_grammar.specs.declared.layout.Layout.{Layout}
use Rattle.cbor_grammar.specs.declared.layout.Layout.TheVariants.{Compact, Pretty}
use Rattle.cbor_grammar.specs.declared.layout.ContainerStyle.{ContainerStyle}
use Rattle.cbor_grammar.specs.declared.layout.ContainerStyle.TheVariants as style
use Rattle.cbor_grammar.specs.Item as spec
use Rattle.cbor_grammar.specs.Item.{Chunk, Atom, integer, negative, string, chunked_string}
use Rattle.cbor_grammar.specs.Item.{float, simple, Item, atom, array, tagged, Items, no_items, item, Pairs, no_pairs}
use Rattle.cbor_grammar.specs.Item.{pair}
use Rattle.cbor_grammar.specs.WellFormed.{IsChunk, WellFormedAtom, WellFormed, WellFormedItems, WellFormedPairs}
use Rattle.cbor_grammar.specs.declared.strings.StringKind.{StringKind}
use Rattle.cbor_grammar.specs.declared.strings.StringKind.TheVariants.{Bytes, Text}
use Rattle.cbor_grammar.specs.Written.{encoded, encoded_items}
use Rattle.cbor_grammar.specs.Reading.{read_item}
use Rattle.cbor_grammar.specs.Embedded.{if_whole, embedded_at, sequence_at}
use Rattle.cbor_grammar.specs.Estimate.{estimated_length}
use Rattle.cbor_grammar.specs.Notation.{IsBlank, Blanked, list_of, pairs_list, PairOf, Notation, as_items, Joined, one}
use Rattle.cbor_grammar.specs.Notation.{more, StringOf, ChunksOf, AtomCore, Core, Reads}
use Rattle.cbor_grammar.specs.NotationText.{number, quoted, container_style, members_layout, colon, rest_gap, below}
use Rattle.cbor_grammar.specs.NotationText.{inside, item_texts, pair_texts, embedded_text, rest_text, items_text}
use Rattle.cbor_grammar.specs.NotationText.{item_style, sequence_text, content_text, string_text, chunks_text}
use Rattle.cbor_grammar.specs.NotationText.{atom_text, text_with, text_at}
use Rattle.cbor_grammar.specs.Normal.{normal_chunk, normal_items, normal_pairs, normal_embedded, normal_sequence}
use Rattle.cbor_grammar.specs.Normal.{normal_content, normal_atom, normal_with, normal_at}
use Rattle.cbor_grammar.proofs.bytes.Refusals.{item_nothing}
use Rattle.cbor_grammar.proofs.bytes.Resolved.{spells_well}
use Rattle.cbor_grammar.proofs.text.Parts.{content_of, well_level}
use Rattle.cbor_grammar.proofs.shared.EmbeddedItems.{embedded_spells, sequence_spells}
use Rattle.cbor_grammar.proofs.bytes.Laws.{AllBytes, bytes_at}
use Rattle.cbor_notation_writer.proofs.normal.WellFormed.{tag_kind}
use Rattle.cbor_bytes.proofs.bytes.WellFormed.{items_well}
use Rattle.cbor_notation_writer.proofs.normal.ReadTokens.{one_space, number_read, negative_read, quoted_read}
use Rattle.cbor_notation_writer.proofs.normal.ReadTokens.{string_read, float_read, simple_read}
use Rattle.cbor_notation_writer.proofs.normal.ReadLists.{Each, opening_of, opens, listed}

-- ---- a blank before a core

after_gap : (Is : List ℕ → Type 0) (gap core : List ℕ) → IsBlank gap → Is core → Blanked Is (gap ++ core)
after_gap Is gap core b h = (gap, core, [], ap (λ t. gap ++ t) (sym (append-nil core)), b, h, nothing)

-- ---- chunks

chunks_each : (kind : StringKind) (Read : List ℕ → Item → Type 0) (e : Encoding) (cs : List Chunk)
    → AllByRecursion (IsChunk kind) cs
    → Each (λ m x. Blanked (λ core. StringOf kind Read core x) m) (map (λ s. string_text kind e s.bytes) cs)
    (map normal_chunk cs)
chunks_each kind Read e [] h = tt
chunks_each kind Read e (s ∷ cs) h =
    let Is : List ℕ → Type 0 = λ core. StringOf kind Read core (normal_chunk s) in
    let one = string_text kind e s.bytes in (
      λ gap b. after_gap Is gap one b (string_read kind Read e s h.0),
      chunks_each kind Read e cs h.1,
    )

chunks_read : (kind : StringKind) (Read : List ℕ → Item → Type 0) (e : Encoding) (l : ContainerStyle) (c : Chunk)
    (cs : List Chunk) → AllByRecursion (IsChunk kind) (c ∷ cs)
    → ChunksOf kind Read (chunks_text kind e l (c ∷ cs)) (map normal_chunk (c ∷ cs))
chunks_read kind Read e l c cs h =
    listed {X = Chunk} (λ m x. Blanked (λ core. StringOf kind Read core x) m) l (codes "(") (codes ")") None _
    (map normal_chunk (c ∷ cs)) (chunks_each kind Read e (c ∷ cs) h)

gap_blank : (l : Layout) → IsBlank (rest_gap l)
gap_blank Compact = nothing
gap_blank (Pretty indent) = one_space

abbrev colon_gap : ContainerStyle → List ℕ
colon_gap style.Compact = []
colon_gap _ = codes " "

colon_blank : (l : ContainerStyle) → IsBlank (colon_gap l)
colon_blank style.Compact = nothing
colon_blank _ = one_space

-- no bytes are no item
nothing_embedded : (left : ℕ) (e : Item) → embedded_at left [] ≡ Some e → ⊥
nothing_embedded left e h = let none : if_whole (read_item left []) ≡ None =
    ap if_whole (item_nothing left) in absurd cc

-- what of a sequence is no item follows it
rest_read : {Read : List ℕ → Item → Type 0} (c : Context) (shown bytes rest : List ℕ) → Notation Read shown bytes
    → AllBytes rest → Joined (Notation Read) (shown ++ rest_text c rest) (bytes ++ rest)
rest_read {Read} c shown bytes [] first all =
    subst (λ t. Joined (Notation Read) t (bytes ++ [])) (sym (append-nil shown))
    (subst (λ x. Joined (Notation Read) shown x) (sym (append-nil bytes)) (one first))
rest_read {Read} c shown bytes (x ∷ rest) first all =
    more shown (rest_gap c.layout) (quoted c.encoding (x ∷ rest)) bytes (x ∷ rest) refl refl first (gap_blank c.layout)
    (one (quoted_read Read c.encoding (x ∷ rest) all))

colon_after : (l : ContainerStyle) (value : List ℕ) → colon l ++ value ≡ codes ":" ++ (colon_gap l ++ value)
colon_after style.Compact value = refl
colon_after _ value = refl

-- ---- one level: members are read by what reads the level below

-- the text of an item, with any blank before it, is read as its normal form, at this level
abbrev IsRead : ℕ → ℕ → Type 0
IsRead level left = (gap : List ℕ) → IsBlank gap → (c : Context) (tag : Option ℕ) (i : Item)
    → c.content ≡ content_of tag → WellFormed level i → Reads left (gap ++ text_at left c i) (normal_at left tag i)

module _ (level left : ℕ) (levels : level + left ≡ 129) (reads : IsRead level left) where
  items_each : (c : Context) (is : Items) → WellFormedItems level is
      → Each (Reads left) (item_texts (text_at left (inside c.layout c)) is)
      (list_of (normal_items (normal_at left None) is))
  items_each c no_items h = tt
  items_each c (item i is) h = (
    λ gap b. reads gap b (inside c.layout c) None i refl h.0,
    items_each c is h.1,
  )

  pairs_each : (c : Context) (l : ContainerStyle) (ps : Pairs) → WellFormedPairs level ps
      → Each (PairOf (Reads left)) (pair_texts (text_at left (inside c.layout c)) (colon l) ps)
      (pairs_list (normal_pairs (normal_at left None) ps))
  pairs_each c l no_pairs h = tt
  pairs_each c l (pair k v ps) h =
      let key = text_at left (inside c.layout c) k in
      let value = text_at left (inside c.layout c) v in (
        λ gap b. (
          gap ++ key,
          colon_gap l ++ value,
          sym (append_assoc gap key (colon l ++ value))
              ∙ ap (λ t. (gap ++ key) ++ t) (colon_after l value),
          reads gap b (inside c.layout c) None k refl h.0,
          reads (colon_gap l) (colon_blank l) (inside c.layout c) None v refl h.1,
        ),
        pairs_each c l ps h.2,
      )

  -- the bytes of a byte string
  embedded_read : (c : Context) (b : List ℕ) (o : Option Item) → AllBytes b → embedded_at left b ≡ o
      → Joined (Notation (Reads left)) (embedded_text (text_at left) c b o) (normal_embedded (normal_at left None) b o)
  embedded_read c [] None all h = one (as_items no_items (codes ">>", refl, ([], codes ">>", refl, nothing, inl refl))
      refl)
  embedded_read c [] (Some e) all h = absurd (nothing_embedded left e h)
  embedded_read c (x ∷ b) None all h = one (quoted_read (Reads left) c.encoding (x ∷ b) all)
  embedded_read c (x ∷ b) (Some e) all h =
      let well = spells_well level (x ∷ b) e (bytes_at (x ∷ b) all)
      (embedded_spells level left (x ∷ b) e levels (bytes_at (x ∷ b) all) h) in
      let t = text_at left (inside c.layout c) e in
      one
      (as_items (item (normal_at left None e) no_items)
      (t ++ codes ">>", refl, (t, codes ">>", refl, reads [] nothing (inside c.layout c) None e refl well, inl refl))
      (sym (append-nil (encoded (normal_at left None e)))))

  sequence_read : (c : Context) (b : List ℕ) → AllBytes b
      → Joined (Notation (Reads left)) (sequence_text (text_at left) c (sequence_at left b))
      (normal_sequence (normal_at left None) (sequence_at left b))
  sequence_read c b all =
      let s = sequence_at left b in
      let l = container_style c.layout (estimated_length (array s.0 None)) in
      let so = sequence_spells level left levels (length b) b (omega arith) (bytes_at b all) in
      let w = items_well level s.0 b s.1 all so.spelled_so in
      let js = normal_items (normal_at left None) s.0 in
      let shown = items_text (text_at left) c l (codes "<<") s.0 (codes ">>") in
      let first = as_items {text = shown} js (listed (Reads left) l (codes "<<") (codes ">>") (Some Unknown) _ _
      (items_each (inside (members_layout l) c) s.0 w.0)) refl in
      rest_read c shown (encoded_items js) s.1 first w.1

  content_read : (tag : Option ℕ) (c : Context) (b : List ℕ) → AllBytes b
      → Joined (Notation (Reads left)) (content_text left (text_at left) (content_of tag) c b)
      (normal_content left (normal_at left None) tag b)
  content_read None c b all = one (quoted_read (Reads left) c.encoding b all)
  content_read (Some t) c b all =
      elim (tag_kind t) [
        | inl is ↦ rw is (embedded_read c b (embedded_at left b) all refl)
        | inr rest ↦ elim rest [
          | inl is ↦ rw is (sequence_read c b all)
          | inr other ↦ rw (other.0, other.1) (one (quoted_read (Reads left) c.encoding b all))
        ]
      ]

  atom_read : (c : Context) (tag : Option ℕ) (a : Atom) → c.content ≡ content_of tag → WellFormedAtom a
      → AtomCore (Reads left) (atom_text left (text_at left) c a) (normal_atom left (normal_at left) tag a)
  atom_read c tag (integer n w) is h = number_read n w h
  atom_read c tag (negative n w) is h = negative_read n w h
  atom_read c tag (string Bytes s) is h =
      let bytes = normal_content left (normal_at left None) tag s.bytes in
      let Shows = λ (x : Content). Joined (Notation (Reads left)) (content_text left (text_at left) x c s.bytes)
      bytes in
      (refl, tt, subst Shows (sym is) (content_read tag c s.bytes h.bytes), tt)
  atom_read c tag (string Text s) is h = string_read Text (Reads left) c.encoding s h
  atom_read c tag (chunked_string kind []) is h = inl (refl, refl)
  atom_read c tag (chunked_string kind (s ∷ cs)) is h =
      inr (tt, chunks_read kind (Reads left) c.encoding (item_style c (atom (chunked_string kind (s ∷ cs)))) s cs h)
  atom_read c tag (float n w) is h = float_read n w h
  atom_read c tag (simple n) is h = simple_read n h

core_read : (level left : ℕ) → (level + 1) + left ≡ 129 → (reads : IsRead (level + 1) left)
    → (c : Context) (tag : Option ℕ) (i : Item) → c.content ≡ content_of tag → WellFormed level i
    → Core (Reads left) (text_with left (text_at left) c i) (normal_with left (normal_at left) tag i)
core_read level left levels reads c tag (atom a) is h = atom_read (level + 1) left levels reads c tag a is h.1
core_read level left levels reads c tag (array is w) same h =
    let l = container_style c.layout (estimated_length (array is w)) in (
      opening_of (codes "[") w,
      opens (codes "[") w,
      listed (Reads left) l (codes "[") (codes "]") w _ _
          (items_each (level + 1) left levels reads (inside (members_layout l) c) is h.2),
    )
core_read level left levels reads c tag (spec.map ps w) same h =
    let l = container_style c.layout (estimated_length (spec.map ps w)) in (
      opening_of (codes "{") w,
      opens (codes "{") w,
      listed (PairOf (Reads left)) l (codes "{") (codes "}") w _ _
          (pairs_each (level + 1) left levels reads (inside (members_layout l) c) l ps h.2),
    )
core_read level left levels reads c tag (tagged t w i) same h =
    let inner = reads [] nothing (below t c) (Some t) i refl h.2 in
    (number t w, text_at left (below t c) i, refl, number_read t w h.1, inner)

read_after : (level left : ℕ) → level + left ≡ 129 → IsRead level left
unfolding text_at normal_at Reads
read_after level zero levels gap b c tag i is h = absurd (omega (arith, well_level level i h))
read_after level (suc left) levels gap b c tag i is h =
    let core = core_read level left (omega arith) (read_after (level + 1) left (omega arith)) c tag i is h in
    after_gap (λ t. Core (Reads left) t (normal_with left (normal_at left) tag i)) gap
    (text_with left (text_at left) c i) b core

pub reads_back : (level left : ℕ) → level + left ≡ 129 → (c : Context) (tag : Option ℕ) (i : Item)
    → c.content ≡ content_of tag → WellFormed level i → Reads left (text_at left c i) (normal_at left tag i)
reads_back level left levels = read_after level left levels [] nothing
