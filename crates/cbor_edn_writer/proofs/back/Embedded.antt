-- In EDN, a byte string that is shown as items between `<<` and `>>` is read back with the same encoding, if the items
-- are read back and their encodings are the bytes of the string. There may be several items, one or none.
use Rattle.std.proofs.Common.{◌≡◌, inl, ℕ, suc, List, [], ◌∷◌, ◌++◌, length, codes, Some}
use Rattle.std.proofs.Common.{refl, sym, ap, subst, ◌∙◌, append-nil}
use Rattle.cbor_grammar.specs.declared.layout.ContainerStyle.{ContainerStyle}
use Rattle.cbor_grammar.specs.declared.layout.ContainerStyle.TheVariants as style
use Rattle.cbor_grammar.specs.declared.strings.StringKind.TheVariants as kind
use Rattle.cbor_grammar.specs.Item.{Chunk, string, Item, atom, Items, no_items, item, items_of}
use Rattle.cbor_grammar.specs.StringKind.{major_of}
use Rattle.cbor_grammar.specs.WellFormed.{IsChunk}
use Rattle.cbor_grammar.specs.Written.{encoded, encoded_items}
use Rattle.cbor_notation_writer.specs.Dialect.{embedding}
use Rattle.cbor_edn_grammar.specs.declared.close.Close.TheVariants.{Angles}
use Rattle.cbor_edn_grammar.specs.declared.opening.Opening.TheVariants as opening
use Rattle.cbor_edn_writer.specs.EdnLeaves.{longer, length_mark}
use Rattle.cbor_edn_grammar.specs.Items.{item_turn, read_embedded, read_core, read_item}
use Rattle.cbor_edn_grammar.specs.Reading.{◌>>=◌}
use Rattle.cbor_edn_grammar.specs.Strings.{opening_of}
use Rattle.cbor_edn_grammar.specs.Strings.{string_item, read_string}
use Rattle.cbor_edn_writer.proofs.back.Reads.{ReadsAs, ReadsNoted}
use Rattle.cbor_edn_writer.proofs.back.Lists.{angles_close, list_text, members_read}
use Rattle.cbor_edn_writer.proofs.back.Containers.{ItemsRead, no_items_read, more_items_read, Enclosed, EnclosedList}
use Rattle.cbor_edn_writer.proofs.back.Containers.{container_text, container_begun}
use Rattle.cbor_edn_writer.proofs.back.Strings.{indicator_alone, one_piece, as_read, part_chunk, part_same, mark_reads}

angles_step : (left : ℕ) (text : List ℕ)
    → read_item (suc left) (60 ∷ (60 ∷ text)) ≡ read_string (read_embedded (read_item left)) (60 ∷ (60 ∷ text))
unfolding read_item read_core opening_of
angles_step left text = refl

angles_open : (text : List ℕ) → opening_of (60 ∷ (60 ∷ text)) ≡ Some (opening.Angles, text)
unfolding opening_of
angles_open text = refl

pub embedded_reads : (left : ℕ) (b : Chunk) (l : ContainerStyle) (is : Items) (ms : List (List ℕ)) (t : List ℕ)
    → IsChunk kind.Bytes b → encoded_items is ≡ b.bytes → ItemsRead left Angles is ms
    → EnclosedList (embedding b) l ms t → ReadsAs (suc left) (atom (string kind.Bytes b)) t
embedded_reads left b l is ms t well bytes rs between =
    let n = length b.bytes in
    record {
      item = atom (string kind.Bytes (as_read b));
      core = t;
      note = [];
      parts = sym (append-nil t);
      is_note = inl refl;
      begun = container_begun (embedding b) l ms t between refl;
      read = λ rest follows.
          let after = length_mark n b.width ++ rest in
          let text = list_text l ms (codes ">>" ++ after) in
          let inside : read_embedded (read_item left) text ≡ Some (b.bytes, after) =
          ap (λ x. x >>= λ is. Some (encoded_items (items_of is.0), is.1))
          (members_read (item_turn (read_item left) Angles) (angles_close after) l text ms rs.items rs.taken refl)
          ∙ ap (λ e. Some (e, after)) (rs.same ∙ bytes) in
          ap (read_item (suc left))
          (container_text (embedding b) l ms t (codes "<<") [] (codes ">>" ++ length_mark n b.width) rest between refl
          refl)
          ∙ angles_step left text
          ∙ ap (λ x. x >>= λ c. string_item c.0.0 c.0.1 c.0.2 >>= λ i. Some (i, c.1))
          (one_piece (read_embedded (read_item left)) (60 ∷ (60 ∷ text)) text after b.bytes opening.Angles
          (angles_open text) inside (indicator_alone (longer n b.width) rest follows) (Some (longer n b.width)) rest
          (mark_reads n b.width rest follows))
          ∙ ap (λ x. (x >>= λ chunk. Some (atom (string kind.Bytes chunk))) >>= λ i. Some (i, rest))
          (part_chunk kind.Bytes b well);
      same = part_same (major_of kind.Bytes) kind.Bytes b well;
    }

-- one item, and nothing beside it
pub one_embedded : (left : ℕ) (b : Chunk) (i : Item) (m t : List ℕ) → IsChunk kind.Bytes b → encoded i ≡ b.bytes
    → ReadsNoted left i m → Enclosed (embedding b) style.Compact m t
    → ReadsAs (suc left) (atom (string kind.Bytes b)) t
one_embedded left b i m t well bytes r between =
    embedded_reads left b style.Compact (item i no_items) (m ∷ []) t well (append-nil (encoded i) ∙ bytes)
    (more_items_read left Angles i no_items m [] r (no_items_read left Angles))
    (subst (λ inner. Enclosed (embedding b) style.Compact inner t)
    (sym (append-nil (m ++ []) ∙ append-nil m)) between)

pub none_embedded : (left : ℕ) (b : Chunk) (t : List ℕ) → IsChunk kind.Bytes b → b.bytes ≡ []
    → Enclosed (embedding b) style.Compact [] t → ReadsAs (suc left) (atom (string kind.Bytes b)) t
none_embedded left b t well none between =
    embedded_reads left b style.Compact no_items [] t well (sym none) (no_items_read left Angles) between
