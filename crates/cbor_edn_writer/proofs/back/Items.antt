-- The law of EDN (`edn_back`): a text that is written for a well-formed item is read back as the encoding of that item,
-- if no simple value from 24 to 31 is in the item.
use Rattle.std.proofs.Common.{◌≡◌, inl, inr, ℕ, zero, suc, ◌+◌, List, [], ◌∷◌, ◌++◌, length, codes, Option, Some, None}
use Rattle.std.proofs.Common.{Bool, true, false, ◌==◌, ◌&&◌, ◌||◌, if◌then◌else◌, not, refl, sym, ap, subst, ◌∙◌}
use Rattle.std.proofs.Common.{append-nil}
use Rattle.std.proofs.Common.{append_assoc, arith}
use Rattle.std.proofs.lemmas.Bool.{and_parts}
use Rattle.std.specs.List.{AllByRecursion}
use Rattle.cbor_grammar.specs.declared.layout.Content.{Content}
use Rattle.cbor_grammar.specs.declared.layout.Content.TheVariants as shown
use Rattle.cbor_grammar.specs.declared.layout.ContainerStyle.{ContainerStyle}
use Rattle.cbor_grammar.specs.declared.layout.ContainerStyle.TheVariants as style
use Rattle.cbor_grammar.specs.declared.strings.StringKind.{StringKind}
use Rattle.cbor_grammar.specs.declared.strings.StringKind.TheVariants as kind
use Rattle.cbor_grammar.specs.declared.width.IntegerWidth.{IntegerWidth}
use Rattle.cbor_grammar.specs.Embedded.{embedded_at, sequence_at}
use Rattle.cbor_grammar.specs.Head.{FitsWidth}
use Rattle.cbor_grammar.specs.Item as spec
use Rattle.cbor_grammar.specs.Item.{Chunk, Atom, integer, negative, string, chunked_string, float, simple, Item, atom}
use Rattle.cbor_grammar.specs.Item.{array, tagged, Items, no_items, item, Pairs, no_pairs, pair, item_count, pair_count}
use Rattle.cbor_grammar.specs.Item.{items_of}
use Rattle.cbor_grammar.specs.NotationText.{number, sequence_size}
use Rattle.cbor_grammar.specs.StringKind.{no_chunks}
use Rattle.cbor_grammar.specs.WellFormed.{IsChunk, WellFormedAtom, WellFormed, WellFormedItems, WellFormedPairs}
use Rattle.cbor_grammar.specs.WellFormed.{levels_left}
use Rattle.cbor_grammar.specs.Written.{encoded, encoded_items, encoded_head}
use Rattle.cbor_grammar.proofs.bytes.Laws.{bytes_at}
use Rattle.cbor_grammar.proofs.bytes.Resolved.{spells_well}
use Rattle.cbor_grammar.proofs.shared.EmbeddedItems.{embedded_spells, sequence_spells}
use Rattle.cbor_bytes.proofs.bytes.WellFormed.{items_well}
use Rattle.cbor_notation_writer.specs.Dialect.{ItemTexts, PairTexts, ChunksText, OneText, EmbeddedText}
use Rattle.cbor_notation_writer.specs.Dialect.{SequenceText, ContentText, AtomText, TagText, TextWith, TextsOf, TextsAt}
use Rattle.cbor_notation_writer.specs.Dialect.{Writer, count_of, embedding, listed, style_at}
use Rattle.cbor_notation_writer.specs.declared.parts.Container.TheVariants.{Array, Map, Chunks}
use Rattle.cbor_notation_writer.specs.mirror.LayoutView.{before_member, after_member}
use Rattle.cbor_edn_grammar.specs.declared.close.Close.{Close}
use Rattle.cbor_edn_grammar.specs.declared.close.Close.TheVariants.{Bracket, Angles, End}
use Rattle.cbor_edn_writer.specs.declared.print.place.EdnPlace.{EdnPlace}
use Rattle.cbor_edn_grammar.specs.Blank.{skip_blank}
use Rattle.cbor_edn_grammar.specs.Edn.{bytes_of_edn}
use Rattle.cbor_inside.specs.Rule.{is_empty, is_sequence, says_what_bytes_are, begins_container, item_if}
use Rattle.cbor_inside.specs.Rule.{content_below, content_under}
use Rattle.cbor_inside.specs.Strict.{is_strict}
use Rattle.cbor_edn_writer.specs.EdnLeaves.{edn_leaves, marked}
use Rattle.cbor_edn_writer.specs.EdnLeaves.{is_encoded, note_before, After, EdnLeaf, Noted, says_string}
use Rattle.cbor_edn_writer.specs.EdnLeaves.{quoted_string, spaced}
use Rattle.cbor_edn_grammar.specs.Items.{item_turn, read_item}
use Rattle.cbor_edn_grammar.specs.Reserved.{NotReserved, NoneReserved, NoneReservedItems, NoneReservedPairs}
use Rattle.cbor_edn_grammar.specs.Reading.{◌>>=◌, after_byte}
use Rattle.cbor_edn_writer.proofs.Places.{same_level}
use Rattle.cbor_edn_writer.proofs.back.Reads.{IsBegun, ReadsAs, ReadsNoted}
use Rattle.cbor_edn_grammar.proofs.Words.{skip_none}
use Rattle.cbor_edn_writer.proofs.back.Blanks.{skip_notes, stop_follows, beside_reads, after_reads}
use Rattle.cbor_edn_writer.proofs.back.Lists.{end_closes, members_read}
use Rattle.cbor_edn_writer.proofs.back.Containers.{text_read, ItemsRead, no_items_read, more_items_read, PairsRead}
use Rattle.cbor_edn_writer.proofs.back.Containers.{no_pairs_read, more_pairs_read, array_reads, map_reads, chunks_read}
use Rattle.cbor_edn_writer.proofs.back.Containers.{enclosed_reads}
use Rattle.cbor_edn_writer.proofs.back.Embedded.{embedded_reads, one_embedded, none_embedded}
use Rattle.cbor_edn_writer.proofs.back.Floats.{float_reads}
use Rattle.cbor_edn_writer.proofs.back.Numbers.{leaf_reads, tag_reads, tag_begun}
use Rattle.cbor_edn_writer.proofs.back.Same.{SameItems, item_same, sequence_same}
use Rattle.cbor_edn_writer.proofs.back.Strings.{string_reads, no_parts_reads}
use Rattle.cbor_edn_writer.proofs.back.Widths.{read_width, read_encoded}

-- ---- what byte strings are shown as

-- the test of bytes that are shown as an item, or as items
abbrev Strict : ℕ → List ℕ → Content → Type 0
Strict level b shown.Bytes = Unit {0}
Strict level b shown.Item = is_strict b ≡ true
Strict level b shown.Sequence = (is_sequence level b ≡ true) × (is_strict b ≡ true)

strict_item : (level : ℕ) (b : List ℕ) (test : Bool) → (test ≡ true → is_strict b ≡ true)
    → Strict level b (item_if test)
strict_item level b true h = h refl
strict_item level b false h = tt

strict_sequence : (level : ℕ) (b : List ℕ) (test : Bool)
    → (test ≡ true → (is_sequence level b ≡ true) × (is_strict b ≡ true))
    → Strict level b (if test then shown.Sequence else shown.Bytes)
strict_sequence level b true h = h refl
strict_sequence level b false h = tt

strict_if : (level : ℕ) (b : List ℕ) (test : Bool) (x y : Content) → Strict level b x → Strict level b y
    → Strict level b (if test then x else y)
strict_if level b true x y h k = h
strict_if level b false x y h k = k

strict_below : (embedded : Bool) (level tag : ℕ) (b : List ℕ) → Strict level b (content_below embedded level tag b)
strict_below embedded level tag b =
    strict_if level b (tag == 24) _ _
    (strict_item level b (not (is_empty b) && is_strict b) (λ h. (and_parts (not (is_empty b)) (is_strict b) h).1))
    (strict_if level b (tag == 63) _ _
    (strict_sequence level b (is_sequence level b && is_strict b) (and_parts (is_sequence level b) (is_strict b)))
    (strict_item level b (embedded && (not (says_what_bytes_are tag) && (begins_container b && is_strict b)))
    (λ h. let rest = and_parts (not (says_what_bytes_are tag)) _ (and_parts embedded _ h).1 in
    (and_parts (begins_container b) (is_strict b) rest.1).1)))

strict_content : (embedded : Bool) (level : ℕ) (tag : Option ℕ) (b : List ℕ)
    → Strict level b (content_under embedded level tag b)
strict_content embedded level None b =
    strict_item level b (embedded && (begins_container b && is_strict b))
    (λ h. (and_parts (begins_container b) (is_strict b) (and_parts embedded _ h).1).1)
strict_content embedded level (Some tag) b = strict_below embedded level tag b

-- ---- strings

string_text : (left : ℕ) (p : EdnPlace) (kind : StringKind) (c : Chunk) (t : List ℕ) → IsChunk kind c
    → edn_leaves.string p kind c t → ReadsNoted (suc left) (atom (string kind c)) t
string_text left p kind c t well h =
    beside_reads (suc left) p (atom (string kind c)) (Noted p (says_string p kind c.bytes) (quoted_string kind c)) t
    (λ core is. string_reads left p (says_string p kind c.bytes) kind c core well is) h

-- the members of a list, without what is round them
abbrev edn_list : ContainerStyle → List (List ℕ) → List ℕ
edn_list l ms = listed (λ first. before_member (spaced l) first) (after_member l) ms

-- ---- tags

tag_text : (left n : ℕ) (w : IntegerWidth) (all : Bool) (i : Item) (m t : List ℕ) → FitsWidth w n
    → ReadsNoted left i m → t ≡ (number n (marked all n w) ++ codes "(") ++ (m ++ codes ")")
    → ReadsAs (suc left) (tagged n w i) t
tag_text left n w all i m t fits r e =
    let front = number n (marked all n w) ++ codes "(" in
    let width = read_width (marked all n w) in
    record {
      item = tagged n width r.item;
      core = t;
      note = [];
      parts = sym (append-nil t);
      is_note = inl refl;
      begun = subst IsBegun (sym e)
          (tag_begun n w (marked all n w) (m ++ codes ")") fits);
      read = λ rest follows.
          let text = m ++ (codes ")" ++ rest) in
          ap (λ t. read_item (suc left) (t ++ rest)) e
          ∙ ap (read_item (suc left)) (append_assoc front (m ++ codes ")") rest
          ∙ ap (λ x. front ++ x) (append_assoc m (codes ")") rest))
          ∙ tag_reads left n w all text fits
          ∙ ap (λ t. read_item left t >>= λ i. after_byte 41 (skip_blank i.1)
          >>= λ rest. Some (tagged n width i.0, rest))
          (r.skips (codes ")" ++ rest))
          ∙ ap (λ x. x >>= λ i. after_byte 41 (skip_blank i.1) >>= λ rest. Some (tagged n width i.0, rest))
          (text_read left i m (codes ")" ++ rest) r (stop_follows 41 rest refl refl refl))
          ∙ ap (λ t. after_byte 41 t >>= λ rest. Some (tagged n width r.item, rest))
          (skip_notes r.notes (41 ∷ rest) r.are_notes ∙ skip_none (41 ∷ rest) refl);
      same = ap (λ h. h ++ encoded r.item) (read_encoded 6 n w all fits) ∙ ap (λ e. encoded_head 6 n w ++ e) r.same;
    }

-- ---- items

module _ (level left : ℕ) (levels : level + left ≡ 129) (write : Writer EdnPlace)
    (below : (p : EdnPlace) (i : Item) (t : List ℕ) → p.level ≡ level → WellFormed level i → NoneReserved i
    → write p i t → ReadsNoted left i t) where
  item_texts : (close : Close) (p : EdnPlace) (is : Items) (ms : List (List ℕ)) → p.level ≡ level
      → WellFormedItems level is → NoneReservedItems is → ItemTexts edn_leaves write p is ms
      → ItemsRead left close is ms
  item_texts close p no_items [] at well free h = no_items_read left close
  item_texts close p no_items (m ∷ ms) at well free h = absurd h
  item_texts close p (item i is) [] at well free h = absurd h
  item_texts close p (item i is) (m ∷ ms) at well free h =
      more_items_read left close i is m ms (below p i m at well.0 free.0 h.0)
      (item_texts close p is ms at well.1 free.1 h.1)

  pair_texts : (p : EdnPlace) (l : ContainerStyle) (ps : Pairs) (ms : List (List ℕ)) → p.level ≡ level
      → WellFormedPairs level ps → NoneReservedPairs ps → PairTexts edn_leaves write l p ps ms → PairsRead left ps ms
  pair_texts p l no_pairs [] at well free h = no_pairs_read left
  pair_texts p l no_pairs (m ∷ ms) at well free h = absurd h
  pair_texts p l (pair k v ps) [] at well free h = absurd h
  pair_texts p l (pair k v ps) (m ∷ ms) at well free ((a, b, key, value, is), more) =
      more_pairs_read left k v ps a b m ms (below p k a at well.0 free.0 key) (below p v b at well.1 free.1 value) is
      (pair_texts p l ps ms at well.2 free.2 more)

  one_text : (p : EdnPlace) (b : Chunk) (found : Option Item) (t : List ℕ) → p.level + 1 ≡ level → IsChunk kind.Bytes b
      → is_strict b.bytes ≡ true → embedded_at left b.bytes ≡ found → OneText edn_leaves write p b found t
      → ReadsNoted (suc left) (atom (string kind.Bytes b)) t
  one_text p b (Some i) t at well strict is (m, text, between) =
      let item_well = spells_well level b.bytes i (bytes_at b.bytes well.bytes)
      (embedded_spells level left b.bytes i levels (bytes_at b.bytes well.bytes) is) in
      let same = item_same level left b.bytes i levels well.bytes is strict in
      let inner = below (edn_leaves.inside (embedding b) p.layout p) i m at item_well same.1 text in
      enclosed_reads (suc left) p (atom (string kind.Bytes b)) (embedding b) style.Compact m t
      (λ u. one_embedded left b i m u well same.0 inner) between
  one_text p b None t at well strict is h = string_text left p kind.Bytes b t well h

  embedded_text : (p : EdnPlace) (b : Chunk) (bs : List ℕ) (t : List ℕ) → b.bytes ≡ bs → p.level + 1 ≡ level
      → IsChunk kind.Bytes b → is_strict b.bytes ≡ true
      → EmbeddedText edn_leaves write p b bs (embedded_at left b.bytes) t
      → ReadsNoted (suc left) (atom (string kind.Bytes b)) t
  embedded_text p b [] t e at well strict h =
      enclosed_reads (suc left) p (atom (string kind.Bytes b)) (embedding b) style.Compact [] t
      (λ u. none_embedded left b u well e) h
  embedded_text p b (x ∷ bs) t e at well strict h = one_text p b (embedded_at left b.bytes) t at well strict refl h

  sequence_text : (p : EdnPlace) (b : Chunk) (t : List ℕ) → p.level + 1 ≡ level → IsChunk kind.Bytes b
      → is_sequence p.level b.bytes ≡ true → is_strict b.bytes ≡ true
      → SequenceText edn_leaves write p b (sequence_at left b.bytes) t
      → ReadsNoted (suc left) (atom (string kind.Bytes b)) t
  sequence_text p b t at well is strict (u, r, (ms, texts, between), rest, e) =
      let found = sequence_at left b.bytes in
      let s = sequence_spells level left levels (length b.bytes) b.bytes (omega arith) (bytes_at b.bytes well.bytes) in
      let items_are = items_well level found.0 b.bytes found.1 well.bytes s.spelled_so in
      let here : left ≡ levels_left (p.level + 1) = omega (arith, at, levels) in
      let same : SameItems left b.bytes =
      subst (λ n. SameItems n b.bytes) (sym here) (sequence_same p.level b.bytes well.bytes is strict) in
      let l = edn_leaves.style p (sequence_size found) in
      let rs = item_texts Angles _ found.0 ms at items_are.0 same.none texts in
      subst (ReadsNoted (suc left) (atom (string kind.Bytes b))) (sym (e ∙ ap (λ r. u ++ r) rest ∙ append-nil u))
      (enclosed_reads (suc left) p (atom (string kind.Bytes b)) (embedding b) l (edn_list l ms) u
      (λ v. embedded_reads left b l found.0 ms v well same.same rs) between)

  content_text : (p : EdnPlace) (content : Content) (b : Chunk) (t : List ℕ) → p.level + 1 ≡ level
      → IsChunk kind.Bytes b → Strict p.level b.bytes content → ContentText edn_leaves left write content p b t
      → ReadsNoted (suc left) (atom (string kind.Bytes b)) t
  content_text p shown.Bytes b t at well strict h = string_text left p kind.Bytes b t well h
  content_text p shown.Item b t at well strict h = embedded_text p b b.bytes t refl at well strict h
  content_text p shown.Sequence b t at well strict h = sequence_text p b t at well strict.0 strict.1 h

  chunks_text : (p : EdnPlace) (kind : StringKind) (l : ContainerStyle) (cs : List Chunk) (t : List ℕ)
      → AllByRecursion (IsChunk kind) cs → ChunksText edn_leaves p kind l cs t
      → ReadsNoted (suc left) (atom (chunked_string kind cs)) t
  chunks_text p kind l [] t well h =
      after_reads (suc left) p (atom (chunked_string kind [])) (λ t. t ≡ no_chunks kind) t
      (λ core e. subst (ReadsAs (suc left) (atom (chunked_string kind []))) (sym e) (no_parts_reads left kind)) h
  chunks_text p kind l (c ∷ cs) t well (ms, texts, between) =
      enclosed_reads (suc left) p (atom (chunked_string kind (c ∷ cs))) (Chunks kind) l (edn_list l ms) t
      (λ u. chunks_read left p kind l c cs ms u well texts) between

  leaf_text : (p : EdnPlace) (a : Atom) (t : List ℕ) → WellFormedAtom a → NotReserved a → edn_leaves.leaf p a t
      → ReadsNoted (suc left) (atom a) t
  leaf_text p a t well free h =
      beside_reads (suc left) p (atom a) (EdnLeaf p a) t
      (λ core is. leaf_reads float_reads left p a core well free is) h

  atom_text : (p : EdnPlace) (a : Atom) (t : List ℕ) → p.level + 1 ≡ level → WellFormedAtom a → NotReserved a
      → AtomText edn_leaves left write p a t → ReadsNoted (suc left) (atom a) t
  atom_text p (string kind.Bytes b) t at well free h =
      let embedded = p.style.embedded || is_encoded p.found in
      content_text p (content_under embedded p.level p.tag b.bytes) b t at well
      (strict_content embedded p.level p.tag b.bytes) h
  atom_text p (string kind.Text s) t at well free h = string_text left p kind.Text s t well h
  atom_text p (chunked_string kind cs) t at well free h =
      chunks_text p kind (style_at edn_leaves p (atom (chunked_string kind cs))) cs t well h
  atom_text p (integer n w) t at well free h = leaf_text p (integer n w) t well free h
  atom_text p (negative n w) t at well free h = leaf_text p (negative n w) t well free h
  atom_text p (float bits w) t at well free h = leaf_text p (float bits w) t well free h
  atom_text p (simple n) t at well free h = leaf_text p (simple n) t well free h

  tag_reads_back : (p : EdnPlace) (n : ℕ) (w : IntegerWidth) (i : Item) (t : List ℕ) → p.level + 1 ≡ level
      → FitsWidth w n → WellFormed level i → NoneReserved i → TagText edn_leaves write p n w i t
      → ReadsNoted (suc left) (tagged n w i) t
  tag_reads_back p n w i t at fits well free (o, m, e, opens, text, is_e, is) =
      let inner = below (edn_leaves.below n p) i m at well free text in
      after_reads (suc left) p (tagged n w i) (λ u. u ≡ front ++ (m ++ codes ")")) t
      (λ core. tag_text left n w p.style.widths i m core fits inner) (opened opens)
    where
      front : List ℕ
      front = number n (marked p.style.widths n w) ++ codes "("

      opened : After p (λ u. u ≡ front) o → After p (λ u. u ≡ front ++ (m ++ codes ")")) t
      opened (inl is_o) = inl (is ∙ ap (λ o. o ++ (m ++ e)) is_o ∙ ap (λ e. front ++ (m ++ e)) is_e)
      opened (inr (u, is_u, is_o)) = inr (
        u ++ (m ++ e),
        ap (λ u. u ++ (m ++ e)) is_u ∙ ap (λ e. front ++ (m ++ e)) is_e,
        is ∙ ap (λ o. o ++ (m ++ e)) is_o ∙ append_assoc (note_before p) u (m ++ e),
      )

  with_text : (p : EdnPlace) (i : Item) (t : List ℕ) (here : ℕ) → level ≡ here + 1 → p.level ≡ here → WellFormed here i
      → NoneReserved i → TextWith edn_leaves left write p i t → ReadsNoted (suc left) i t
  with_text p (atom a) t here e at well free h = atom_text p a t (omega (arith, e, at)) well.1 free h
  with_text p (array is w) t here e at well free (ms, texts, between) =
      let l = style_at edn_leaves p (array is w) in
      let rs = item_texts Bracket _ is ms (omega (arith, e, at)) (subst (λ l. WellFormedItems l is) (sym e) well.2)
      free texts in
      enclosed_reads (suc left) p (array is w) (Array (count_of w (item_count is))) l (edn_list l ms) t
      (λ u. array_reads left l is w ms u well.1 rs) between
  with_text p (spec.map ps w) t here e at well free (ms, texts, between) =
      let l = style_at edn_leaves p (spec.map ps w) in
      let rs = pair_texts _ l ps ms (omega (arith, e, at)) (subst (λ l. WellFormedPairs l ps) (sym e) well.2)
      free texts in
      enclosed_reads (suc left) p (spec.map ps w) (Map (count_of w (pair_count ps))) l (edn_list l ms) t
      (λ u. map_reads left l ps w ms u well.1 rs) between
  with_text p (tagged n w i) t here e at well free h =
      tag_reads_back p n w i t (omega (arith, e, at)) well.1 (subst (λ l. WellFormed l i) (sym e) well.2) free h

-- each text of an item is read back, whatever follows it
pub reads_back : (level left : ℕ) → level + left ≡ 129 → (p : EdnPlace) → p.level ≡ level → (i : Item) (t : List ℕ)
    → WellFormed level i → NoneReserved i → TextsOf edn_leaves left p i t → ReadsNoted left i t
unfolding TextsOf
reads_back level zero levels p at i t well free h = absurd h
reads_back level (suc left) levels p at i t well free h =
    with_text (level + 1) left (omega (arith, levels)) (TextsOf edn_leaves left)
    (λ p i t at. reads_back (level + 1) left (omega (arith, levels)) p at i t) h.0 i t level refl
    (same_level p h.0 h.1 ∙ at) well free h.2

-- a whole text is read back as the encoding of the item that it was written for
pub edn_back : (p : EdnPlace) (i : Item) (t : List ℕ) → p.level ≡ 1 → WellFormed 1 i → NoneReserved i
    → TextsAt edn_leaves p i t → bytes_of_edn t ≡ Some (encoded i)
edn_back p i t at well free h =
    let text : TextsOf edn_leaves 128 p i t = subst (λ n. TextsOf edn_leaves (levels_left n) p i t) at h in
    let r = reads_back 1 128 refl p at i t well free text in
    let rs = more_items_read 128 End i no_items t [] r (no_items_read 128 End) in
    ap (λ x. (x >>= λ is. Some is.0) >>= λ items. Some (encoded_items (items_of items)))
    (members_read (item_turn (read_item 128) End) end_closes style.Compact t (t ∷ []) rs.items rs.taken
    (ap skip_blank (sym (append-nil _ ∙ append-nil (t ++ []) ∙ append-nil t))))
    ∙ ap (λ e. Some e) (rs.same ∙ append-nil (encoded i))
