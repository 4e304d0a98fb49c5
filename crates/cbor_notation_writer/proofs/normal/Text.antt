-- The normal form of a well-formed item has the same compact text as the item (`normal_text`), and is its own normal
-- form (`normal_twice`).
use Rattle.std.proofs.Common.{◌≡◌, ℕ, zero, suc, ◌+◌, ◌≤◌, List, [], ◌∷◌, ◌++◌, length, codes, Option, Some, None, ◌⊎◌}
use Rattle.std.proofs.Common.{inl, inr, refl, sym, ap, ◌∙◌, arith, nat_lt}
use Rattle.std.proofs.lemmas.Bool.{cond_both, cases_lt, lt-ltb, le-ltb}
use Rattle.std.specs.Fmt.{decimal}
use Rattle.cbor_grammar.specs.declared.width.IntegerWidth.{IntegerWidth}
use Rattle.cbor_grammar.specs.declared.width.IntegerWidth.TheVariants.{Unknown, Zero}
use Rattle.cbor_grammar.specs.declared.width.FloatWidth.{FloatWidth}
use Rattle.cbor_grammar.specs.declared.width.FloatWidth.TheVariants as float_width
use Rattle.cbor_grammar.specs.declared.encoding.Encoding.{Encoding}
use Rattle.cbor_grammar.specs.declared.layout.Content.TheVariants as content
use Rattle.cbor_grammar.specs.Context.{Context}
use Rattle.cbor_grammar.specs.declared.layout.ContainerStyle.TheVariants as style
use Rattle.cbor_grammar.specs.Item as spec
use Rattle.cbor_grammar.specs.Item.{Chunk, Atom, integer, negative, string, chunked_string}
use Rattle.cbor_grammar.specs.Item.{float, simple, Item, atom, array, tagged, Items, no_items, item, Pairs, no_pairs}
use Rattle.cbor_grammar.specs.Item.{pair}
use Rattle.cbor_grammar.specs.WellFormed.{WellFormedAtom, WellFormed, WellFormedItems, WellFormedPairs}
use Rattle.cbor_grammar.specs.Written.{encoded, encoded_items, resolve_float, resolve, resolve_items}
use Rattle.cbor_grammar.specs.Embedded.{embedded_at, sequence_at}
use Rattle.cbor_grammar.specs.declared.strings.StringKind.TheVariants.{Bytes, Text}
use Rattle.cbor_grammar.specs.StringKind.{no_chunks}
use Rattle.cbor_grammar.specs.NotationText.{indicator, bracketed, inside, float_text, encoding_below}
use Rattle.cbor_grammar.specs.NotationText.{item_texts, pair_texts, embedded_text, rest_text, sequence_text}
use Rattle.cbor_grammar.specs.NotationText.{content_text}
use Rattle.cbor_grammar.specs.NotationText.{string_text, chunks_listed, atom_text, text_with, text_at}
use Rattle.cbor_grammar.specs.Normal.{normal_width, normal_chunk, normal_items, normal_pairs, normal_embedded}
use Rattle.cbor_grammar.specs.Normal.{normal_sequence, normal_content, normal_atom, normal_with, normal_at}
use Rattle.cbor_grammar.proofs.bytes.Strict.{strict_any, strict_encoded, items_enc, items_any}
use Rattle.cbor_grammar.proofs.bytes.Resolved.{spells_well}
use Rattle.cbor_grammar.proofs.bytes.Sizes.{one_byte}
use Rattle.cbor_grammar.proofs.text.Parts.{content_of}
use Rattle.cbor_grammar.proofs.shared.EmbeddedItems.{embedded_spells, spells_embedded, sequence_spells, sequence_again}
use Rattle.cbor_grammar.proofs.bytes.Laws.{AllBytes, bytes_at}
use Rattle.cbor_notation_writer.proofs.normal.WellFormed.{tag_kind, items_serve, normal_serves}
use Rattle.cbor_bytes.proofs.bytes.WellFormed.{items_well}
use Rattle.cbor_grammar.proofs.normal.Stated.{map_kept, Stated, StatedItems, spelled_stated, items_stated}
use Rattle.cbor_grammar.proofs.normal.Stated.{normal_items_stated, normal_stated, at, Writer, text_resolved}
use Rattle.cbor_grammar.proofs.normal.Stated.{normal_items_resolved, normal_resolved, items_resolved}

-- ---- embedded items, read again from the bytes of their normal forms

abbrev into_normal : ℕ → Item → Item
into_normal left = normal_at left None

-- bytes right below tag 24, and right below tag 63
abbrev embedded_normal : ℕ → List ℕ → List ℕ
embedded_normal left b = normal_embedded (into_normal left) b (embedded_at left b)

abbrev sequence_normal : ℕ → List ℕ → List ℕ
sequence_normal left b = normal_sequence (into_normal left) (sequence_at left b)

record Embeds (level left : ℕ) (b : List ℕ) (e : Item) : Type 0 where
  pub is : embedded_at left b ≡ Some e
  pub well : WellFormed level e
  pub states : Stated (into_normal left e)
  pub normal_well : WellFormed level (into_normal left e)
  pub again : embedded_at left (encoded (into_normal left e)) ≡ Some (resolve (into_normal left e))
  pub some : 1 ≤ length b
  pub some_again : 1 ≤ length (encoded (into_normal left e))

embeds : (level left : ℕ) → level + left ≡ 129 → (b : List ℕ) → AllBytes b → (o : Option Item) → embedded_at left b ≡ o
    → (embedded_at left b ≡ None) ⊎ ((e : Item) × Embeds level left b e)
embeds level left levels b all None is = inl is
embeds level left levels b all (Some e) is =
    let s = embedded_spells level left b e levels (bytes_at b all) is in
    let well = spells_well level b e (bytes_at b all) s in
    let n = (normal_serves level left levels None e well).well in
    let t = strict_any level (encoded (into_normal left e)) (resolve (into_normal left e))
    (strict_encoded level (into_normal left e) n) in
    inr (
      e,
      record {
        is = is;
        well = well;
        states = normal_stated left None e (spelled_stated level b e s);
        normal_well = n;
        again = spells_embedded level left (encoded (into_normal left e)) (resolve (into_normal left e)) levels t;
        some = one_byte level b e s;
        some_again = one_byte level (encoded (into_normal left e)) (resolve (into_normal left e)) t;
      },
    )

record Sequences (level left : ℕ) (b : List ℕ) : Type 0 where
  pub well : WellFormedItems level (sequence_at left b).0
  pub states : StatedItems (normal_items (into_normal left) (sequence_at left b).0)
  pub normal_well : WellFormedItems level (normal_items (into_normal left) (sequence_at left b).0)
  pub again : sequence_at left (normal_sequence (into_normal left) (sequence_at left b))
      ≡ (resolve_items (normal_items (into_normal left) (sequence_at left b).0), (sequence_at left b).1)

sequences : (level left : ℕ) → level + left ≡ 129 → (b : List ℕ) → AllBytes b → Sequences level left b
sequences level left levels b all =
    let s = sequence_at left b in
    let js = normal_items (into_normal left) s.0 in
    let so = sequence_spells level left levels (length b) b (omega arith) (bytes_at b all) in
    let w = (items_well level s.0 b s.1 all so.spelled_so).0 in
    let n = (items_serve level left levels (into_normal left) (normal_serves level left levels None) s.0 w).0 in
    let t = items_any level (encoded_items js ++ s.1) (resolve_items js) s.1 (items_enc level js s.1 n) in
    record {
      well = w;
      states = normal_items_stated left (normal_at left) (normal_stated left) s.0
          (items_stated level b s.0 s.1 so.spelled_so);
      normal_well = n;
      again = sequence_again level left levels (length (encoded_items js ++ s.1)) (resolve_items js)
          (encoded_items js ++ s.1) s.1 so.error (omega arith) t so.ends;
    }

-- ---- the compact text of the normal form

indicator_kept : (n : ℕ) (w : IntegerWidth) → indicator (normal_width w n) ≡ indicator w
indicator_kept n Unknown = elim (cases_lt n 24)
    [ inl low ↦ rw (lt-ltb n 24 low) refl | inr high ↦ rw (le-ltb n 24 high) refl ]
indicator_kept n _ = refl

float_normal_text : (bits : ℕ) (w : FloatWidth) → float_text bits (resolve_float w) ≡ float_text bits w
float_normal_text bits float_width.Unknown = refl
float_normal_text bits _ = refl

embedded_text-some : (write : Writer) (c : Context) (b : List ℕ) (e : Item) → 1 ≤ length b
    → embedded_text write c b (Some e) ≡ codes "<<" ++ (write (inside c.layout c) e ++ codes ">>")
embedded_text-some write c [] e some = absurd (omega arith)
embedded_text-some write c (x ∷ b) e some = refl

module _ (level left : ℕ) (levels : level + left ≡ 129)
    (same : (e : Encoding) (tag : Option ℕ) (i : Item) → WellFormed level i
    → text_at left (at e tag) (normal_at left tag i) ≡ text_at left (at e tag) i) where
  items_normal_text : (e : Encoding) (is : Items) → WellFormedItems level is
      → item_texts (text_at left (at e None)) (normal_items (into_normal left) is)
      ≡ item_texts (text_at left (at e None)) is
  items_normal_text e no_items h = refl
  items_normal_text e (item i is) h = rw (same e None i h.0, items_normal_text e is h.1) refl

  pairs_normal_text : (e : Encoding) (between : List ℕ) (ps : Pairs) → WellFormedPairs level ps
      → pair_texts (text_at left (at e None)) between (normal_pairs (into_normal left) ps)
      ≡ pair_texts (text_at left (at e None)) between ps
  pairs_normal_text e between no_pairs h = refl
  pairs_normal_text e between (pair k v ps) h =
      rw (same e None k h.0, same e None v h.1, pairs_normal_text e between ps h.2) refl

  embedded_normal_text : (e : Encoding) (tag : Option ℕ) (b : List ℕ) → AllBytes b
      → content_text left (text_at left) content.Item (at e tag) (embedded_normal left b)
      ≡ content_text left (text_at left) content.Item (at e tag) b
  embedded_normal_text e tag b all =
      let c = at e tag in
      let write = text_at left in
      elim (embeds level left levels b all (embedded_at left b) refl) [
        | inl none ↦ rw (none, none) refl
        | inr found ↦
            let i = found.0 in
            let f = found.1 in
            let n = into_normal left i in
            let into : embedded_normal left b ≡ encoded n = ap (normal_embedded (into_normal left) b) f.is in
            let shown : write (at e None) (resolve n) ≡ write (at e None) i =
            text_resolved left e None n f.states ∙ same e None i f.well in
            let first : content_text left write content.Item c (encoded n)
            ≡ codes "<<" ++ (write (at e None) (resolve n) ++ codes ">>") =
            ap (embedded_text write c (encoded n)) f.again
            ∙ embedded_text-some write c (encoded n) (resolve n) f.some_again in
            let second : content_text left write content.Item c b ≡ codes "<<" ++ (write (at e None) i ++ codes ">>") =
            ap (embedded_text write c b) f.is ∙ embedded_text-some write c b i f.some in
            ap (content_text left write content.Item c) into ∙ first
            ∙ ap (λ t. codes "<<" ++ (t ++ codes ">>")) shown ∙ sym second
      ]

  sequence_normal_text : (e : Encoding) (tag : Option ℕ) (b : List ℕ) → AllBytes b
      → content_text left (text_at left) content.Sequence (at e tag) (sequence_normal left b)
      ≡ content_text left (text_at left) content.Sequence (at e tag) b
  sequence_normal_text e tag b all =
      let c = at e tag in
      let s = sequence_at left b in
      let js = normal_items (into_normal left) s.0 in
      let f = sequences level left levels b all in
      let texts = items_resolved left (text_at left) (text_resolved left) e js f.states
      ∙ items_normal_text e s.0 f.well in
      ap (sequence_text (text_at left) c) f.again
      ∙ ap (λ ms. bracketed style.Compact (codes "<<") ms (codes ">>") ++ rest_text c s.1) texts

  content_normal_text : (e : Encoding) (tag : Option ℕ) (b : List ℕ) → AllBytes b
      → content_text left (text_at left) (content_of tag) (at e tag) (normal_content left (into_normal left) tag b)
      ≡ content_text left (text_at left) (content_of tag) (at e tag) b
  content_normal_text e None b all = refl
  content_normal_text e (Some t) b all =
      elim (tag_kind t) [
        | inl is ↦ rw is (embedded_normal_text e (Some 24) b all)
        | inr rest ↦ elim rest [
          | inl is ↦ rw is (sequence_normal_text e (Some 63) b all)
          | inr other ↦ rw (other.0, other.1) refl
        ]
      ]

  atom_normal_text : (e : Encoding) (tag : Option ℕ) (a : Atom) → WellFormedAtom a
      → atom_text left (text_at left) (at e tag) (normal_atom left (normal_at left) tag a)
      ≡ atom_text left (text_at left) (at e tag) a
  atom_normal_text e tag (integer n w) h = ap (λ t. decimal n ++ t) (indicator_kept n w)
  atom_normal_text e tag (negative n w) h = ap (λ t. codes "-" ++ (decimal (n + 1) ++ t)) (indicator_kept n w)
  atom_normal_text e tag (string Bytes c) h = content_normal_text e tag c.bytes h.bytes
  atom_normal_text e tag (string Text c) h = refl
  atom_normal_text e tag (chunked_string kind cs) h = ap (chunks_listed style.Compact (no_chunks kind))
      (map_kept (λ s. string_text kind e s.bytes) normal_chunk (λ c. refl) cs)
  atom_normal_text e tag (float bits w) h = float_normal_text bits w
  atom_normal_text e tag (simple n) h = refl

with_normal_text : (level left : ℕ) → (level + 1) + left ≡ 129
    → (same : (e : Encoding) (tag : Option ℕ) (i : Item) → WellFormed (level + 1) i
    → text_at left (at e tag) (normal_at left tag i) ≡ text_at left (at e tag) i)
    → (e : Encoding) (tag : Option ℕ) (i : Item) → WellFormed level i
    → text_with left (text_at left) (at e tag) (normal_with left (normal_at left) tag i)
    ≡ text_with left (text_at left) (at e tag) i
with_normal_text level left levels same e tag (atom a) h = atom_normal_text (level + 1) left levels same e tag a h.1
with_normal_text level left levels same e tag (array is (Some w)) h =
    ap (λ ms. bracketed style.Compact (codes "[") ms (codes "]"))
    (items_normal_text (level + 1) left levels same e is h.2)
with_normal_text level left levels same e tag (array is None) h =
    ap (λ ms. bracketed style.Compact (codes "[_") ms (codes "]"))
    (items_normal_text (level + 1) left levels same e is h.2)
with_normal_text level left levels same e tag (spec.map ps (Some w)) h =
    ap (λ ms. bracketed style.Compact (codes "{") ms (codes "}"))
    (pairs_normal_text (level + 1) left levels same e (codes ":") ps h.2)
with_normal_text level left levels same e tag (spec.map ps None) h =
    ap (λ ms. bracketed style.Compact (codes "{_") ms (codes "}"))
    (pairs_normal_text (level + 1) left levels same e (codes ":") ps h.2)
with_normal_text level left levels same e tag (tagged t w i) h =
    rw (indicator_kept t w, same (encoding_below t e) (Some t) i h.2) refl

pub normal_text : (level left : ℕ) → level + left ≡ 129 → (e : Encoding) (tag : Option ℕ) (i : Item)
    → WellFormed level i → text_at left (at e tag) (normal_at left tag i) ≡ text_at left (at e tag) i
unfolding text_at normal_at
normal_text level zero levels e tag i h = refl
normal_text level (suc left) levels e tag i h =
    with_normal_text level left (omega arith) (normal_text (level + 1) left (omega arith)) e tag i h

-- ---- the normal form of the normal form

normal_width_twice : (n : ℕ) (w : IntegerWidth) → normal_width (normal_width w n) n ≡ normal_width w n
normal_width_twice n Unknown =
    cond_both (nat_lt n 24) Zero Unknown (λ w. normal_width w n ≡ w) (λ low. refl) (λ high. rw high refl)
normal_width_twice n _ = refl

resolve_float_twice : (w : FloatWidth) → resolve_float (resolve_float w) ≡ resolve_float w
resolve_float_twice float_width.Unknown = refl
resolve_float_twice _ = refl

module _ (level left : ℕ) (levels : level + left ≡ 129)
    (same : (tag : Option ℕ) (i : Item) → WellFormed level i → normal_at left tag (normal_at left tag i)
    ≡ normal_at left tag i) where
  items_twice : (is : Items) → WellFormedItems level is
      → normal_items (into_normal left) (normal_items (into_normal left) is) ≡ normal_items (into_normal left) is
  items_twice no_items h = refl
  items_twice (item i is) h = rw (same None i h.0, items_twice is h.1) refl

  pairs_twice : (ps : Pairs) → WellFormedPairs level ps
      → normal_pairs (into_normal left) (normal_pairs (into_normal left) ps) ≡ normal_pairs (into_normal left) ps
  pairs_twice no_pairs h = refl
  pairs_twice (pair k v ps) h = rw (same None k h.0, same None v h.1, pairs_twice ps h.2) refl

  embedded_twice : (b : List ℕ) → AllBytes b → embedded_normal left (embedded_normal left b) ≡ embedded_normal left b
  embedded_twice b all =
      elim (embeds level left levels b all (embedded_at left b) refl) [
        | inl none ↦ rw (none, none) refl
        | inr found ↦
            let i = found.0 in
            let f = found.1 in
            let x = encoded (into_normal left i) in
            let into : embedded_normal left b ≡ x = ap (normal_embedded (into_normal left) b) f.is in
            let kept = normal_resolved level left levels None (into_normal left i) f.normal_well f.states in
            let again : embedded_normal left x ≡ x =
            ap (normal_embedded (into_normal left) x) f.again ∙ ap encoded (kept ∙ same None i f.well) in
            ap (embedded_normal left) into ∙ again ∙ sym into
      ]

  sequence_twice : (b : List ℕ) → AllBytes b → sequence_normal left (sequence_normal left b) ≡ sequence_normal left b
  sequence_twice b all =
      let s = sequence_at left b in
      let js = normal_items (into_normal left) s.0 in
      let f = sequences level left levels b all in
      let kept = normal_items_resolved level left (normal_at left) (normal_resolved level left levels) js in
      let again = kept f.normal_well f.states ∙ items_twice s.0 f.well in
      ap (normal_sequence (into_normal left)) f.again ∙ ap (λ ks. encoded_items ks ++ s.1) again

  content_twice : (tag : Option ℕ) (b : List ℕ) → AllBytes b
      → normal_content left (into_normal left) tag (normal_content left (into_normal left) tag b)
      ≡ normal_content left (into_normal left) tag b
  content_twice None b all = refl
  content_twice (Some t) b all =
      elim (tag_kind t) [
        | inl is ↦ rw is (embedded_twice b all)
        | inr rest ↦ elim rest [
          | inl is ↦ rw is (sequence_twice b all)
          | inr other ↦ rw (other.0, other.1) refl
        ]
      ]

  atom_twice : (tag : Option ℕ) (a : Atom) → WellFormedAtom a
      → normal_atom left (normal_at left) tag (normal_atom left (normal_at left) tag a)
      ≡ normal_atom left (normal_at left) tag a
  atom_twice tag (integer n w) h = ap (integer n) (normal_width_twice n w)
  atom_twice tag (negative n w) h = ap (negative n) (normal_width_twice n w)
  atom_twice tag (string Bytes c) h =
      ap (λ x. string Bytes (record { bytes = x; width = Unknown })) (content_twice tag c.bytes h.bytes)
  atom_twice tag (string Text c) h = refl
  atom_twice tag (chunked_string kind cs) h =
      ap (chunked_string kind) (map_kept normal_chunk normal_chunk (λ c. refl) cs)
  atom_twice tag (float bits w) h = ap (float bits) (resolve_float_twice w)
  atom_twice tag (simple n) h = refl

with_twice : (level left : ℕ) → (level + 1) + left ≡ 129
    → (same : (tag : Option ℕ) (i : Item) → WellFormed (level + 1) i → normal_at left tag (normal_at left tag i)
    ≡ normal_at left tag i)
    → (tag : Option ℕ) (i : Item) → WellFormed level i
    → normal_with left (normal_at left) tag (normal_with left (normal_at left) tag i)
    ≡ normal_with left (normal_at left) tag i
with_twice level left levels same tag (atom a) h = ap atom (atom_twice (level + 1) left levels same tag a h.1)
with_twice level left levels same tag (array is (Some w)) h =
    ap (λ js. array js (Some Unknown)) (items_twice (level + 1) left levels same is h.2)
with_twice level left levels same tag (array is None) h =
    ap (λ js. array js None) (items_twice (level + 1) left levels same is h.2)
with_twice level left levels same tag (spec.map ps (Some w)) h =
    ap (λ qs. spec.map qs (Some Unknown)) (pairs_twice (level + 1) left levels same ps h.2)
with_twice level left levels same tag (spec.map ps None) h =
    ap (λ qs. spec.map qs None) (pairs_twice (level + 1) left levels same ps h.2)
with_twice level left levels same tag (tagged t w i) h = rw (normal_width_twice t w, same (Some t) i h.2) refl

pub normal_twice : (level left : ℕ) → level + left ≡ 129 → (tag : Option ℕ) (i : Item) → WellFormed level i
    → normal_at left tag (normal_at left tag i) ≡ normal_at left tag i
unfolding normal_at
normal_twice level zero levels tag i h = refl
normal_twice level (suc left) levels tag i h =
    with_twice level left (omega arith) (normal_twice (level + 1) left (omega arith)) tag i h
