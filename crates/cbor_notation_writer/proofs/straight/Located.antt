-- What is written of an item at its place in the bytes (`located`) is a text of the dialect (`written_plain`,
-- `content_plain`). Also the places of the members of a container, by the bytes that were read before them.
use Rattle.std.proofs.Common.{◌≡◌, ℕ, zero, suc, ◌+◌, Bool, true, false, List, [], ◌∷◌, length, take, Option, Some}
use Rattle.std.proofs.Common.{None, Result, Ok, Err, IfOk, refl, sym, ap, subst, ◌∙◌}
use Rattle.std.proofs.Math.Seq.{take-length}
use Rattle.std.proofs.lemmas.List.{take_at}
use Rattle.cbor_grammar.specs.declared.layout.Content.{Content}
use Rattle.cbor_grammar.specs.declared.layout.Content.TheVariants as shown
use Rattle.cbor_grammar.specs.declared.layout.ContainerStyle.{ContainerStyle}
use Rattle.cbor_grammar.specs.declared.layout.Layout.{Layout}
use Rattle.cbor_grammar.specs.declared.head.ItemHead.{ItemHead}
use Rattle.cbor_grammar.specs.declared.strings.StringContent.{StringContent}
use Rattle.cbor_grammar.specs.declared.strings.StringContent.TheVariants as content
use Rattle.cbor_grammar.specs.declared.strings.StringKind.{StringKind}
use Rattle.cbor_grammar.specs.declared.strings.StringKind.TheVariants as kind
use Rattle.cbor_grammar.specs.declared.width.IntegerWidth.{IntegerWidth}
use Rattle.cbor_grammar.specs.Embedded.{embedded_at, sequence_at}
use Rattle.cbor_grammar.specs.Item as spec
use Rattle.cbor_grammar.specs.Item.{Chunk, Atom, integer, negative, string, chunked_string, float, simple, Item, atom}
use Rattle.cbor_grammar.specs.Item.{array, tagged, Items, no_items, item, Pairs, no_pairs, pair, item_count, pair_count}
use Rattle.cbor_grammar.specs.NotationText.{members_layout, sequence_size}
use Rattle.cbor_grammar.specs.Reading.{Read, read_content, read_head, read_item}
use Rattle.cbor_grammar.specs.WellFormed.{levels_left}
use Rattle.cbor_grammar.specs.mirror.StringView.{borrowed_chunk}
use Rattle.cbor_grammar.proofs.bytes.Chunks.{content_takes}
use Rattle.cbor_grammar.proofs.bytes.Heads.{IsBytes}
use Rattle.cbor_notation_writer.specs.declared.parts.Container.{Container}
use Rattle.cbor_notation_writer.specs.declared.parts.Container.TheVariants.{Array, Map}
use Rattle.cbor_notation_writer.specs.Dialect.{Leaves, Becomes, Writer, located, after_read, embedding, count_of}
use Rattle.cbor_notation_writer.specs.Dialect.{style_at, ItemTexts, PairTexts, ChunkTexts, ItemsText, PairsText, OneText}
use Rattle.cbor_notation_writer.specs.Dialect.{EmbeddedText, ContentText, ChunksText, ChunkedText, AtomText}
use Rattle.cbor_notation_writer.specs.Dialect.{TextWith, TextsOf, TextsAt, Wrote}
use Rattle.cbor_notation_writer.specs.mirror.Straight.{Written, TextsBelow, ContentThere, StringThere, chunk}

-- ---- places

-- the content of a string is at the front of the bytes after its head
content_taken : (k : StringKind) (n : ℕ) (w : IntegerWidth) (c : Chunk) (b rest : List ℕ) → IsBytes b
    → read_content k n w b ≡ Ok (c, rest) → take (length c.bytes) b ≡ c.bytes
content_taken k n w c b rest bytes read =
    let whole = (content_takes k n w b rest c bytes read).3 in
    ap (take (length c.bytes)) whole ∙ take_at c.bytes rest (length c.bytes) refl

module _ {P : Type 0} (d : Leaves P) (becomes : Becomes P) where
  abbrev there : Leaves (P × List ℕ)
  there = located d becomes

  -- a place once the head there is read
  pub known_there : (p q : P) (b rest : List ℕ) (h : ItemHead) → becomes p (length b) q → read_head b ≡ Ok (h, rest)
      → (there).At (p, b) (q, rest)
  known_there p q b rest h known read = (known, ap after_read (sym read))

  -- the next member, after one that is read, and the value of a key
  pub next_there : (now next : P) (b rest : List ℕ) (i : Item) → next ≡ d.next now
      → read_item (levels_left (d.level now)) b ≡ Ok (i, rest) → (next, rest) ≡ (there).next (now, b)
  next_there now next b rest i is read =
      ap (λ x. (x, rest)) is ∙ ap (λ r. (d.next now, after_read r)) (sym read)

  pub value_there : (now value : P) (b rest : List ℕ) (k : Item) → value ≡ d.value k now
      → read_item (levels_left (d.level now)) b ≡ Ok (k, rest) → (value, rest) ≡ (there).value k (now, b)
  value_there now value b rest k is read =
      ap (λ x. (x, rest)) is ∙ ap (λ r. (d.value k now, after_read r)) (sym read)

  -- the first member of a byte string, which is in its content
  pub embedded_there : (p inner : P) (w : IntegerWidth) (b : List ℕ) (l : Layout)
      → inner ≡ d.inside (embedding (chunk w b)) l p → (inner, b) ≡ (there).inside (embedding (chunk w b)) l (p, b)
  embedded_there p inner w b l is =
      ap (λ x. (x, b)) is ∙ ap (λ x. (d.inside (embedding (chunk w b)) l p, x)) (sym (take-length b))

  -- ---- the content of a string, with all bytes after its head

  module _ (left : ℕ) (write : Writer (P × List ℕ)) (p : P) (c : Chunk) (a b : List ℕ)
      (same : take (length c.bytes) a ≡ take (length c.bytes) b) where
    one_moved : (e : Option Item) (t : List ℕ) → OneText there write (p, a) c e t → OneText there write (p, b) c e t
    one_moved (Some i) t h =
        (h.0, subst (λ x. write (d.inside (embedding c) (d.layout p) p, x) i h.0) same h.1, h.2)
    one_moved None t h = h

    embedded_moved : (s : List ℕ) (e : Option Item) (t : List ℕ) → EmbeddedText there write (p, a) c s e t
        → EmbeddedText there write (p, b) c s e t
    embedded_moved [] e t h = h
    embedded_moved (x ∷ s) e t h = one_moved e t h

    content_moved : (s : Content) (t : List ℕ) → ContentText there left write s (p, a) c t
        → ContentText there left write s (p, b) c t
    content_moved shown.Bytes t h = h
    content_moved shown.Item t h = embedded_moved c.bytes (embedded_at left c.bytes) t h
    content_moved shown.Sequence t h =
        let s = sequence_at left c.bytes in
        let l = d.style p (sequence_size s) in
        let items = h.2 in
        let each = subst (λ x. ItemTexts there write (d.inside (embedding c) (members_layout l) p, x) s.0 items.0) same
        items.1 in
        (h.0, h.1, (items.0, each, items.2), h.3, h.4)

  pub string_moved : (p : P) (k : StringKind) (n : ℕ) (w : IntegerWidth) (s : StringContent) (b rest t : List ℕ)
      → IsBytes b → read_content k n w b ≡ Ok (borrowed_chunk w s, rest)
      → StringThere there (p, (borrowed_chunk w s).bytes) w s t → StringThere there (p, b) w s t
  string_moved p k n w (content.Text s) b rest t bytes read h = h
  string_moved p k n w (content.Bytes s) b rest t bytes read h =
      let c = borrowed_chunk w (content.Bytes s) in
      content_moved (levels_left (d.level p + 1)) (TextsBelow there (p, b)) p c c.bytes b
      (take-length c.bytes ∙ sym (content_taken k n w c b rest bytes read)) (d.content p c.bytes) t h

  -- ---- texts, wherever an item begins

  module _ (may : (p : P) (left : ℕ) (q : P) → becomes p left q → d.At p q) where
    abbrev Plain : Writer (P × List ℕ) → Writer P → Type 0
    Plain write so = (p : P × List ℕ) (i : Item) (t : List ℕ) → write p i t → so p.0 i t

    chunks_plain : (p : P × List ℕ) (k : StringKind) (cs : List Chunk) (ms : List (List ℕ))
        → ChunkTexts there p k cs ms → ChunkTexts d p.0 k cs ms
    chunks_plain p k [] [] h = tt
    chunks_plain p k [] (m ∷ ms) h = absurd h
    chunks_plain p k (c ∷ cs) [] h = absurd h
    chunks_plain p k (c ∷ cs) (m ∷ ms) h = (h.0, chunks_plain p k cs ms h.1)

    parts_plain : (p : P × List ℕ) (k : StringKind) (l : ContainerStyle) (cs : List Chunk) (t : List ℕ)
        → ChunksText there p k l cs t → ChunksText d p.0 k l cs t
    parts_plain p k l [] t h = h
    parts_plain p k l (c ∷ cs) t h = (h.0, chunks_plain p k (c ∷ cs) h.0 h.1, h.2)

    chunked_plain : (p : P × List ℕ) (k : StringKind) (l : ContainerStyle) (joins : Bool) (cs : List Chunk)
        (t : List ℕ) → ChunkedText there p k l joins cs t → ChunkedText d p.0 k l joins cs t
    chunked_plain p k l false cs t h = parts_plain p k l cs t h
    chunked_plain p k l true cs t h = h

    module _ (left : ℕ) (write : Writer (P × List ℕ)) (so : Writer P) (plain : Plain write so) where
      items_plain : (p : P × List ℕ) (is : Items) (ms : List (List ℕ)) → ItemTexts there write p is ms
          → ItemTexts d so p.0 is ms
      items_plain p no_items [] h = tt
      items_plain p no_items (m ∷ ms) h = absurd h
      items_plain p (item i is) [] h = absurd h
      items_plain p (item i is) (m ∷ ms) h = (plain p i m h.0, items_plain ((there).next p) is ms h.1)

      pairs_plain : (l : ContainerStyle) (p : P × List ℕ) (ps : Pairs) (ms : List (List ℕ))
          → PairTexts there write l p ps ms → PairTexts d so l p.0 ps ms
      pairs_plain l p no_pairs [] h = tt
      pairs_plain l p no_pairs (m ∷ ms) h = absurd h
      pairs_plain l p (pair k v ps) [] h = absurd h
      pairs_plain l p (pair k v ps) (m ∷ ms) h =
          let one = h.0 in
          let value = (there).value k p in (
            (one.0, one.1, plain p k one.0 one.2, plain value v one.1 one.3, one.4),
            pairs_plain l ((there).next value) ps ms h.1,
          )

      array_plain : (p : P × List ℕ) (c : Container) (l : ContainerStyle) (is : Items) (t : List ℕ)
          → ItemsText there write p c l is t → ItemsText d so p.0 c l is t
      array_plain p c l is t h =
          (h.0, items_plain ((there).inside c (members_layout l) p) is h.0 h.1, h.2)

      map_plain : (p : P × List ℕ) (c : Container) (l : ContainerStyle) (ps : Pairs) (t : List ℕ)
          → PairsText there write p c l ps t → PairsText d so p.0 c l ps t
      map_plain p c l ps t h =
          (h.0, pairs_plain l ((there).inside c (members_layout l) p) ps h.0 h.1, h.2)

      one_plain : (p : P × List ℕ) (c : Chunk) (e : Option Item) (t : List ℕ) → OneText there write p c e t
          → OneText d so p.0 c e t
      one_plain p c (Some i) t h =
          (h.0, plain ((there).inside (embedding c) (d.layout p.0) p) i h.0 h.1, h.2)
      one_plain p c None t h = h

      embedded_plain : (p : P × List ℕ) (c : Chunk) (s : List ℕ) (e : Option Item) (t : List ℕ)
          → EmbeddedText there write p c s e t → EmbeddedText d so p.0 c s e t
      embedded_plain p c [] e t h = h
      embedded_plain p c (x ∷ s) e t h = one_plain p c e t h

      content_as : (s : Content) (p : P × List ℕ) (c : Chunk) (t : List ℕ)
          → ContentText there left write s p c t → ContentText d left so s p.0 c t
      content_as shown.Bytes p c t h = h
      content_as shown.Item p c t h = embedded_plain p c c.bytes (embedded_at left c.bytes) t h
      content_as shown.Sequence p c t h =
          let s = sequence_at left c.bytes in
          (h.0, h.1, array_plain p (embedding c) (d.style p.0 (sequence_size s)) s.0 h.0 h.2, h.3, h.4)

      atom_plain : (p : P × List ℕ) (a : Atom) (t : List ℕ) → AtomText there left write p a t
          → AtomText d left so p.0 a t
      atom_plain p (integer n w) t h = h
      atom_plain p (negative n w) t h = h
      atom_plain p (string kind.Bytes c) t h = content_as (d.content p.0 c.bytes) p c t h
      atom_plain p (string kind.Text c) t h = h
      atom_plain p (chunked_string k cs) t h =
          chunked_plain p k (style_at d p.0 (atom (chunked_string k cs))) (d.joins p.0 k) cs t h
      atom_plain p (float bits w) t h = h
      atom_plain p (simple n) t h = h

      with_plain : (p : P × List ℕ) (i : Item) (t : List ℕ) → TextWith there left write p i t
          → TextWith d left so p.0 i t
      with_plain p (atom a) t h = atom_plain p a t h
      with_plain p (array is w) t h =
          array_plain p (Array (count_of w (item_count is))) (style_at d p.0 (array is w)) is t h
      with_plain p (spec.map ps w) t h =
          map_plain p (Map (count_of w (pair_count ps))) (style_at d p.0 (spec.map ps w)) ps t h
      with_plain p (tagged n w i) t h =
          (h.0, h.1, h.2, h.3, plain ((there).below n p) i h.1 h.4, h.5, h.6)

    pub texts_plain : (left : ℕ) → Plain (TextsOf there left) (TextsOf d left)
    unfolding TextsOf
    texts_plain zero p i t h = absurd h
    texts_plain (suc left) p i t h = (
      h.0.0,
      may p.0 (length p.1) h.0.0 h.1.0,
      with_plain left (TextsOf there left) (TextsOf d left) (texts_plain left) h.0 i t h.2,
    )

    pub written_plain : {A E : Type 0} (r : Result A E) (f : A → List ℕ) (p : P) (b : List ℕ) (read : Read Item)
        (old new : List ℕ) → IfOk r (λ x. Written (TextsAt there (p, b)) read (f x) old new)
        → IfOk r (λ x. Written (TextsAt d p) read (f x) old new)
    written_plain (Ok x) f p b read old new w =
        (w.0, w.1, w.2, texts_plain (levels_left (d.level p)) (p, b) w.0 w.2 w.3, w.4)
    written_plain (Err e) f p b read old new w = tt

    pub content_plain : {A E : Type 0} (r : Result A E) (s : Content) (p : P) (b : List ℕ) (c : Chunk)
        (old new : List ℕ) → Wrote r old new (ContentThere there s (p, b) c) → Wrote r old new (ContentThere d s p c)
    content_plain (Ok x) s p b c old new w =
        let left = levels_left (d.level p + 1) in (
          w.0,
          content_as left (TextsOf there left) (TextsOf d left) (texts_plain left) s (p, b) c w.0 w.1,
          w.2,
        )
    content_plain (Err e) s p b c old new w = w
