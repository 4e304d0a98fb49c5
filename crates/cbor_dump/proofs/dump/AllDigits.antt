-- The digits of the lines of a dump (`lines_at`), without blanks, are the encoding of the item in hex, if the item is
-- well formed at its level.
use Rattle.std.proofs.Common.{◌≡◌, ℕ, zero, suc, ◌+◌, ◌%◌, ◌==◌, ◌≤◌, unwrap_or, not, List, []}
use Rattle.std.proofs.Common.{◌∷◌, ◌++◌, map, length, take, drop, codes, Option, Some, None, inl, inr, refl, sym, ap}
use Rattle.std.proofs.Common.{subst, ◌∙◌, append-nil, arith}
use Rattle.std.specs.List.{filter, flat_map}
use Rattle.std.proofs.lemmas.Bool.{cond_both, cases_lt, ne_eqb}
use Rattle.std.proofs.lemmas.List.{take-append-drop}
use Rattle.std.proofs.lemmas.List.Elements.{filter-append}
use Rattle.std.proofs.lemmas.Grind.{flat_map-append}
use Rattle.hex.specs.Hex.{encode_lower, encode_with, lower_digits}
use Rattle.cbor_notes.specs.Element.{element_size, element_text}
use Rattle.cbor_notes.specs.Layout.{DumpLine}
use Rattle.cbor_notes.specs.Columns.{digits_of}
use Rattle.cbor_tokens.proofs.texts.HexLemmas.{encode_with-append}
use Rattle.cbor_notes.proofs.columns.OneLine.{Free, free_hex, from_test}
use Rattle.cbor_grammar.specs.declared.width.IntegerWidth.{IntegerWidth}
use Rattle.cbor_grammar.specs.declared.encoding.Encoding.{Encoding}
use Rattle.cbor_grammar.specs.Item as spec
use Rattle.cbor_grammar.specs.Item.{Chunk, Atom, integer, negative, string, chunked_string, float, simple, Item, atom}
use Rattle.cbor_grammar.specs.Item.{array, tagged, Items, no_items, item, Pairs, no_pairs, pair, item_count, pair_count}
use Rattle.cbor_grammar.specs.Head.{opening, break_byte}
use Rattle.cbor_grammar.specs.declared.strings.StringKind.{StringKind}
use Rattle.cbor_grammar.specs.declared.strings.StringKind.TheVariants.{Bytes, Text}
use Rattle.cbor_grammar.specs.StringKind.{major_of}
use Rattle.cbor_grammar.specs.Written.{encoded_head, encoded_chunk, encoded_chunks, encoded_float, encoded_simple}
use Rattle.cbor_grammar.specs.Written.{encoded_atom, encoded_open, encoded_close, encoded, encoded_items, encoded_pairs}
use Rattle.cbor_dump.specs.Comments.{unsigned_comment, negative_comment, float_comment, simple_comment, tag_comment}
use Rattle.cbor_dump.specs.Comments.{bytes_comment, text_comment, counted_comment}
use Rattle.cbor_dump.specs.Pieces.{pieces_of, byte_pieces, text_pieces, text_cut}
use Rattle.cbor_dump.specs.Dump.{Context, head_hex, head_line, piece_line, content_lines, string_lines, string_word}
use Rattle.cbor_dump.specs.Dump.{string_content_lines, chunks_lines, bytes_lines, element_lines, sized_lines}
use Rattle.cbor_dump.specs.Dump.{tagged_lines, note_line, note_lines, notes, notes_lines, count_if_definite}
use Rattle.cbor_dump.specs.Dump.{break_line}
use Rattle.cbor_dump.specs.Dump.{atom_lines, close_lines, inside, below, shared_in, shared_from, items_lines}
use Rattle.cbor_dump.specs.Dump.{pairs_lines, parts_lines, lines_at, top}
use Rattle.cbor_dump.specs.Notes.{Note}
use Rattle.cbor_grammar.specs.WellFormed.{WellFormed, WellFormedItems, WellFormedPairs}
use Rattle.cbor_dump.proofs.dump.Digits.{head_short, head_long}
use Rattle.cbor_dump.proofs.dump.Elements.{Small, element_small, element_cut, element_cuts}
use Rattle.cbor_grammar.proofs.text.Parts.{well_level}
use Rattle.cbor_dump.proofs.dump.Pieces.{Cuts, shorter, byte_cut, byte_cuts, text_cuts, text_short, text_long}

-- what is left of digits without blanks
abbrev shown : List ℕ → List ℕ
shown hex = filter (λ b. not (b == 32)) hex

keep_all : (xs : List ℕ) → Free 32 xs → shown xs ≡ xs
keep_all [] free = refl
keep_all (x ∷ xs) free = rw (ne_eqb x 32 free.0) (ap (λ rest. x ∷ rest) (keep_all xs free.1))

shown_hex : (bytes : List ℕ) → shown (encode_lower bytes) ≡ encode_lower bytes
shown_hex bytes = keep_all (encode_lower bytes) (free_hex 32 (λ e. cc e) (from_test 32 lower_digits refl) bytes)

hex_both : (xs ys : List ℕ) → encode_lower (xs ++ ys) ≡ encode_lower xs ++ encode_lower ys
hex_both xs ys = encode_with-append lower_digits xs ys

-- a head
shown_head : (bytes : List ℕ) → shown (head_hex bytes) ≡ encode_lower bytes
shown_head bytes =
    elim (cases_lt 1 (length bytes)) [
      | inl long ↦
          ap shown (head_long bytes long) ∙ filter-append (λ b. not (b == 32))
          (encode_lower (take 1 bytes) ++ codes " ") (encode_lower (drop 1 bytes))
          ∙ ap (λ x. x ++ shown (encode_lower (drop 1 bytes)))
          (filter-append (λ b. not (b == 32)) (encode_lower (take 1 bytes)) (codes " ")
          ∙ append-nil (shown (encode_lower (take 1 bytes))) ∙ shown_hex (take 1 bytes))
          ∙ ap (λ x. encode_lower (take 1 bytes) ++ x) (shown_hex (drop 1 bytes))
          ∙ sym (hex_both (take 1 bytes) (drop 1 bytes)) ∙ ap encode_lower (take-append-drop 1 bytes)
      | inr short ↦ ap shown (head_short bytes short) ∙ shown_hex bytes
    ]

-- lines that are the digits of some bytes
abbrev pub Are : List DumpLine → List ℕ → Type 0
Are lines bytes = digits_of lines ≡ encode_lower bytes

both : (xs ys : List DumpLine) (a b : List ℕ) → Are xs a → Are ys b → Are (xs ++ ys) (a ++ b)
both xs ys a b h k =
    flat_map-append (λ line. shown line.hex) xs ys ∙ ap (λ x. x ++ digits_of ys) h ∙ ap (λ x. encode_lower a ++ x) k
    ∙ sym (hex_both a b)

headed : (depth : ℕ) (bytes comment : List ℕ) (lines : List DumpLine) (rest : List ℕ) → Are lines rest
    → Are (head_line depth bytes comment ∷ lines) (bytes ++ rest)
headed depth bytes comment lines rest h =
    ap (λ x. x ++ digits_of lines) (shown_head bytes) ∙ ap (λ x. encode_lower bytes ++ x) h ∙ sym (hex_both bytes rest)

none : Are [] []
unfolding encode_with
none = refl

alone : (depth : ℕ) (bytes comment : List ℕ) → Are (head_line depth bytes comment ∷ []) bytes
alone depth bytes comment = subst (Are (head_line depth bytes comment ∷ [])) (append-nil bytes)
    (headed depth bytes comment [] [] none)

-- the pieces of a string
abbrev joined : List (List ℕ) → List ℕ
joined pieces = flat_map (λ (p : List ℕ). p) pieces

pieces_joined : (cut : List ℕ → ℕ) → Cuts cut → (n : ℕ) (bytes : List ℕ) → length bytes ≤ n
    → joined (pieces_of cut n bytes) ≡ bytes
pieces_joined cut cuts zero [] fits = refl
pieces_joined cut cuts (suc n) [] fits = refl
pieces_joined cut cuts zero (x ∷ xs) fits = absurd (omega arith)
pieces_joined cut cuts (suc n) (x ∷ xs) fits =
    ap (λ rest. take (cut (x ∷ xs)) (x ∷ xs) ++ rest)
    (pieces_joined cut cuts n (drop (cut (x ∷ xs)) (x ∷ xs))
    (shorter x xs (cut (x ∷ xs)) n (cuts (x ∷ xs) (omega arith)) fits))
    ∙ take-append-drop (cut (x ∷ xs)) (x ∷ xs)

text_joined : (text : List ℕ) → joined (text_pieces text) ≡ text
text_joined [] = refl
text_joined (x ∷ xs) =
    elim (cases_lt 24 (length (x ∷ xs))) [
      | inl long ↦ ap joined (text_long (x ∷ xs) long)
          ∙ pieces_joined text_cut text_cuts (length (x ∷ xs)) (x ∷ xs) (omega arith)
      | inr short ↦ ap joined (text_short (x ∷ xs) (omega arith) short) ∙ append-nil (x ∷ xs)
    ]

pieces_are : (depth : ℕ) (comment : List ℕ → List ℕ) (pieces : List (List ℕ))
    → Are (map (λ p. piece_line depth p (comment p)) pieces) (joined pieces)
pieces_are depth comment [] = none
pieces_are depth comment (p ∷ ps) =
    ap (λ x. x ++ digits_of (map (λ q. piece_line depth q (comment q)) ps)) (shown_hex p)
    ∙ ap (λ x. encode_lower p ++ x) (pieces_are depth comment ps) ∙ sym (hex_both p (joined ps))

nothing_shown : (depth : ℕ) (comment : List ℕ) → Are (piece_line depth [] comment ∷ []) []
unfolding encode_with
nothing_shown depth comment = refl

content_are : (depth : ℕ) (comment : List ℕ → List ℕ) (pieces : List (List ℕ))
    → Are (content_lines depth comment pieces) (joined pieces)
content_are depth comment [] = nothing_shown depth (codes "\"\"")
content_are depth comment (p ∷ ps) = pieces_are depth comment (p ∷ ps)

-- the content of a byte string, in pieces or elements
plain_are : (depth : ℕ) (encoding : Option Encoding) (bytes : List ℕ) → Are (bytes_lines depth encoding bytes) bytes
plain_are depth encoding bytes =
    subst (Are (bytes_lines depth encoding bytes)) (pieces_joined byte_cut byte_cuts (length bytes) bytes (omega arith))
    (content_are depth (bytes_comment encoding bytes) (byte_pieces bytes))

elements_are : (depth t size : ℕ) (bytes : List ℕ) → 1 ≤ size → Are (element_lines depth t size bytes) bytes
elements_are depth t size bytes some =
    subst (Are (element_lines depth t size bytes))
    (pieces_joined (element_cut size) (element_cuts size some) (length bytes) bytes (omega arith))
    (pieces_are depth (λ e. unwrap_or (element_text t e) []) (pieces_of (element_cut size) (length bytes) bytes))

sized_are : (depth : ℕ) (encoding : Option Encoding) (t : ℕ) (size : Option ℕ) (bytes : List ℕ) → Small size
    → Are (sized_lines depth encoding t size bytes) bytes
sized_are depth encoding t None bytes small = plain_are depth encoding bytes
sized_are depth encoding t (Some size) bytes small =
    cond_both (length bytes % size == 0) _ _ (λ lines. Are lines bytes) (λ _. elements_are depth t size bytes small.0)
    (λ _. plain_are depth encoding bytes)

tagged_are : (depth : ℕ) (encoding : Option Encoding) (tag : Option ℕ) (bytes : List ℕ)
    → Are (tagged_lines depth encoding tag bytes) bytes
tagged_are depth encoding None bytes = plain_are depth encoding bytes
tagged_are depth encoding (Some t) bytes = sized_are depth encoding t (element_size t) bytes (element_small t)

string_content_are : (kind : StringKind) (p : Context) (bytes : List ℕ) → Are (string_content_lines kind p bytes) bytes
string_content_are Bytes p bytes = tagged_are (p.depth + 1) p.encoding p.tag bytes
string_content_are Text p bytes =
    subst (Are (content_lines (p.depth + 1) text_comment (text_pieces bytes))) (text_joined bytes)
    (content_are (p.depth + 1) text_comment (text_pieces bytes))

string_are : (kind : StringKind) (p : Context) (c : Chunk) → Are (string_lines kind p c)
    (encoded_chunk (major_of kind) c)
string_are kind p c =
    headed p.depth (encoded_head (major_of kind) (length c.bytes) c.width)
    (counted_comment (string_word kind) (Some (length c.bytes)))
    (string_content_lines kind p c.bytes) c.bytes (string_content_are kind p c.bytes)

chunks_are : (kind : StringKind) (p : Context) (cs : List Chunk)
    → Are (flat_map (string_lines kind p) cs) (flat_map (encoded_chunk (major_of kind)) cs)
chunks_are kind p [] = none
chunks_are kind p (c ∷ cs) =
    both (string_lines kind p c) (flat_map (string_lines kind p) cs) (encoded_chunk (major_of kind) c)
    (flat_map (encoded_chunk (major_of kind)) cs) (string_are kind p c) (chunks_are kind p cs)

all_chunks_are : (kind : StringKind) (p : Context) (cs : List Chunk)
    → Are (chunks_lines kind p cs) (encoded_chunks (major_of kind) cs)
all_chunks_are kind p cs =
    headed p.depth (opening (major_of kind) ∷ []) (counted_comment (string_word kind) None)
    (flat_map (string_lines kind (inside p)) cs ++ break_line (p.depth + 1) ∷ [])
    (flat_map (encoded_chunk (major_of kind)) cs ++ break_byte ∷ [])
    (both (flat_map (string_lines kind (inside p)) cs) (break_line (p.depth + 1) ∷ [])
    (flat_map (encoded_chunk (major_of kind)) cs) (break_byte ∷ []) (chunks_are kind (inside p) cs)
    (alone (p.depth + 1) (break_byte ∷ []) (codes "break")))

close_are : (depth : ℕ) (w : Option IntegerWidth) → Are (close_lines depth w) (encoded_close w)
close_are depth (Some w) = none
close_are depth None = alone depth (break_byte ∷ []) (codes "break")

atom_are : (p : Context) (a : Atom) → Are (atom_lines p a) (encoded_atom a)
atom_are p (integer n w) = alone p.depth (encoded_head 0 n w) (unsigned_comment n)
atom_are p (negative n w) = alone p.depth (encoded_head 1 n w) (negative_comment n)
atom_are p (string kind c) = string_are kind p c
atom_are p (chunked_string kind cs) = all_chunks_are kind p cs
atom_are p (float bits w) = alone p.depth (encoded_float bits w) (float_comment (encoded_float bits w))
atom_are p (simple n) = alone p.depth (encoded_simple n) (simple_comment n)

-- notes have no digits
texts_are : (depth : ℕ) (texts : List (List ℕ)) → Are (map (note_line depth) texts) []
texts_are depth [] = none
texts_are depth (text ∷ texts) = texts_are depth texts

note_are : (depth : ℕ) (note : Note) → Are (note_lines depth note) []
note_are depth note = texts_are (depth + 1) note.below

all_notes_are : (depth : ℕ) (all : List Note) → Are (flat_map (note_lines depth) all) []
all_notes_are depth [] = none
all_notes_are depth (n ∷ ns) = both (note_lines depth n) (flat_map (note_lines depth) ns) [] [] (note_are depth n)
    (all_notes_are depth ns)

notes_are : (depth left : ℕ) (dump : Item → List DumpLine) (known : ℕ) (tag : Option ℕ) (i : Item)
    → Are (notes_lines depth left dump known tag i) []
notes_are depth left dump known None i = none
notes_are depth left dump known (Some t) i = all_notes_are depth (notes left dump known t i)

-- items at a level, each of which is written as its bytes
module _ (write : ℕ → Item → List DumpLine) (level : ℕ) (each : (known : ℕ) (i : Item) → WellFormed level i
    → Are (write known i) (encoded i)) where
  items_are : (known : ℕ) (is : Items) → WellFormedItems level is → Are (items_lines write known is) (encoded_items is)
  items_are known no_items well = none
  items_are known (item i is) well =
      both (write known i) (items_lines write (known + shared_in i) is) (encoded i) (encoded_items is)
      (each known i well.0) (items_are (known + shared_in i) is well.1)

  pairs_are : (known : ℕ) (ps : Pairs) → WellFormedPairs level ps → Are (pairs_lines write known ps) (encoded_pairs ps)
  pairs_are known no_pairs well = none
  pairs_are known (pair k v ps) well =
      let after = known + shared_in k in
      both (write known k) (write after v ++ pairs_lines write (after + shared_in v) ps) (encoded k)
      (encoded v ++ encoded_pairs ps) (each known k well.0)
      (both (write after v) (pairs_lines write (after + shared_in v) ps) (encoded v) (encoded_pairs ps)
      (each after v well.1) (pairs_are (after + shared_in v) ps well.2))

module _ (write : Context → ℕ → Item → List DumpLine) (level : ℕ) (each : (p : Context) (known : ℕ) (i : Item)
    → WellFormed (level + 1) i → Are (write p known i) (encoded i)) where
  parts_are : (p : Context) (known : ℕ) (i : Item) → WellFormed level i → Are (parts_lines write p known i) (encoded i)
  parts_are p known (atom a) well = atom_are p a
  parts_are p known (array is w) well =
      headed p.depth (encoded_open 4 (item_count is) w)
      (counted_comment (codes "array") (count_if_definite (item_count is) w))
      (items_lines (write (inside p)) known is ++ close_lines (p.depth + 1) w) (encoded_items is ++ encoded_close w)
      (both (items_lines (write (inside p)) known is) (close_lines (p.depth + 1) w) (encoded_items is) (encoded_close w)
      (items_are (write (inside p)) (level + 1) (each (inside p)) known is well.2) (close_are (p.depth + 1) w))
  parts_are p known (spec.map ps w) well =
      headed p.depth (encoded_open 5 (pair_count ps) w)
      (counted_comment (codes "map") (count_if_definite (pair_count ps) w))
      (pairs_lines (write (inside p)) known ps ++ close_lines (p.depth + 1) w) (encoded_pairs ps ++ encoded_close w)
      (both (pairs_lines (write (inside p)) known ps) (close_lines (p.depth + 1) w) (encoded_pairs ps) (encoded_close w)
      (pairs_are (write (inside p)) (level + 1) (each (inside p)) known ps well.2) (close_are (p.depth + 1) w))
  parts_are p known (tagged t w i) well =
      headed p.depth (encoded_head 6 t w) (tag_comment t) (write (below t known p) (shared_from t known) i) (encoded i)
      (each (below t known p) (shared_from t known) i well.2)

pub item_are : (left level : ℕ) (p : Context) (known : ℕ) (i : Item) → level + left ≡ 129 → WellFormed level i
    → Are (lines_at left p known i) (encoded i)
unfolding lines_at
item_are zero level p known i levels well = absurd (omega (arith, well_level level i well))
item_are (suc left) level p known i levels well =
    let parts = parts_lines (lines_at left) p known i in
    let said = notes_lines p.depth left (lines_at left top 0) p.shared p.tag i in
    subst (Are (parts ++ said)) (append-nil (encoded i))
    (both parts said (encoded i) [] (parts_are (lines_at left) level
    (λ q n j w. item_are left (level + 1) q n j (omega arith) w) p known i well)
    (notes_are p.depth left (lines_at left top 0) p.shared p.tag i))
