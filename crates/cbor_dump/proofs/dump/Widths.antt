-- The width of the lines of an item in a dump (`lines_at`) is `width_at`, which counts only the lengths of heads and
-- pieces, as notes have no digits. The longest piece of a long text is its first or one of those left, and none has
-- more than 16 bytes.
use Rattle.std.proofs.Common.{◌≡◌, ℕ, zero, suc, ◌+◌, ◌-◌, ◌%◌, ◌==◌, ◌<◌, ◌≤◌, true, false, cond, max, min, unwrap_or}
use Rattle.std.proofs.Common.{List, [], ◌∷◌, ◌++◌, map, length, take, drop, codes, Option, Some, None, inl, inr, refl}
use Rattle.std.proofs.Common.{ap, ◌∙◌, arith, length-drop, length-take-le}
use Rattle.std.specs.List.{flat_map}
use Rattle.std.proofs.lemmas.List.{length-take}
use Rattle.std.proofs.lemmas.Bool.Decides.{nat_tests}
use Rattle.std.proofs.lemmas.Bool.{cases_lt}
use Rattle.cbor_notes.specs.Element.{element_size, element_text}
use Rattle.cbor_notes.specs.Layout.{DumpLine, reach, width_of}
use Rattle.cbor_notes.proofs.columns.Trees.{width_of-append}
use Rattle.cbor_grammar.specs.declared.width.IntegerWidth.{IntegerWidth}
use Rattle.cbor_grammar.specs.declared.encoding.Encoding.{Encoding}
use Rattle.cbor_grammar.specs.Item as spec
use Rattle.cbor_grammar.specs.Item.{Chunk, Atom, integer, negative, string, chunked_string, float, simple, Item, atom}
use Rattle.cbor_grammar.specs.Item.{array, tagged, Items, no_items, item, Pairs, no_pairs, pair, item_count, pair_count}
use Rattle.cbor_dump.specs.Comments.{bytes_comment, text_comment}
use Rattle.cbor_grammar.specs.Head.{opening, break_byte}
use Rattle.cbor_dump.specs.Notes.{Note}
use Rattle.cbor_dump.specs.Pieces.{pieces_of, byte_pieces, text_cut, text_pieces, piece_size}
use Rattle.cbor_grammar.specs.declared.strings.StringKind.{StringKind}
use Rattle.cbor_grammar.specs.declared.strings.StringKind.TheVariants.{Bytes, Text}
use Rattle.cbor_grammar.specs.StringKind.{major_of}
use Rattle.cbor_grammar.specs.Written.{encoded_head, encoded_open, encoded_float, encoded_simple}
use Rattle.cbor_dump.specs.Dump.{Context, head_hex, head_line, piece_line, content_lines, string_lines}
use Rattle.cbor_dump.specs.Dump.{string_content_lines, bytes_lines, element_lines, sized_lines, tagged_lines}
use Rattle.cbor_dump.specs.Dump.{atom_lines}
use Rattle.cbor_dump.specs.Dump.{break_line, close_lines, inside, below, shared_in, shared_from, note_line}
use Rattle.cbor_dump.specs.Dump.{note_lines}
use Rattle.cbor_dump.specs.Dump.{notes, notes_lines, items_lines, pairs_lines, parts_lines, lines_at, top}
use Rattle.cbor_dump.specs.mirror.Widths.{reached, head_digits, head_reach, piece_reach, longest, sized_piece}
use Rattle.cbor_dump.specs.mirror.Widths.{tagged_piece, content_width, string_width, chunks_width}
use Rattle.cbor_dump.specs.mirror.Widths.{head_length, close_width, items_width, pairs_width, atom_inner, inner_width}
use Rattle.cbor_dump.specs.mirror.Widths.{width_at}
use Rattle.cbor_dump.proofs.dump.Digits.{length-hex, length-head_short, length-head_long}
use Rattle.cbor_dump.proofs.dump.Elements.{Small, element_small, element_cut}
use Rattle.cbor_dump.proofs.dump.Fits.{text_cut_low}
use Rattle.cbor_dump.proofs.dump.Pieces.{pieces_more, text_cuts}

-- ---- lines

digits_of_head : (bytes : List ℕ) → length (head_hex bytes) ≡ head_digits (length bytes)
digits_of_head bytes =
    elim (cases_lt 1 (length bytes)) [
      | inl long ↦ let digits = length-head_long bytes long in grind (arith, nat_tests)
      | inr short ↦ let digits = length-head_short bytes short in grind (arith, nat_tests)
    ]

head_reaches : (depth : ℕ) (bytes comment : List ℕ)
    → reach (head_line depth bytes comment) ≡ head_reach depth (length bytes)
head_reaches depth bytes comment = ap (reached depth) (digits_of_head bytes)

piece_reaches : (depth : ℕ) (bytes comment : List ℕ)
    → reach (piece_line depth bytes comment) ≡ piece_reach depth (length bytes)
piece_reaches depth bytes comment = ap (reached depth) (length-hex bytes)

-- a head, and what follows it
headed : (depth : ℕ) (bytes comment : List ℕ) (lines : List DumpLine) (n : ℕ) → width_of lines ≡ n
    → width_of (head_line depth bytes comment ∷ lines) ≡ max (head_reach depth (length bytes)) n
headed depth bytes comment lines n is =
    ap (λ k. max k (width_of lines)) (head_reaches depth bytes comment)
    ∙ ap (λ k. max (head_reach depth (length bytes)) k) is

alone : (depth : ℕ) (bytes comment : List ℕ)
    → width_of (head_line depth bytes comment ∷ []) ≡ head_reach depth (length bytes)
alone depth bytes comment =
    let none : max (head_reach depth (length bytes)) 0 ≡ head_reach depth (length bytes) = omega arith in
    headed depth bytes comment [] 0 refl ∙ none

both : (xs ys : List DumpLine) (n m : ℕ) → width_of xs ≡ n → width_of ys ≡ m → width_of (xs ++ ys) ≡ max n m
both xs ys n m p q = width_of-append xs ys ∙ ap (λ k. max k (width_of ys)) p ∙ ap (λ k. max n k) q

-- ---- pieces

-- of two pieces the longer one reaches farther
farther : (depth a b : ℕ) → max (piece_reach depth a) (piece_reach depth b) ≡ piece_reach depth (max a b)
farther depth a b = grind (arith, nat_tests)

pieces_reach : (depth : ℕ) (comment : List ℕ → List ℕ) (pieces : List (List ℕ))
    → width_of (map (λ p. piece_line depth p (comment p)) pieces) ≡ piece_reach depth (longest pieces)
pieces_reach depth comment [] = refl
pieces_reach depth comment (p ∷ ps) =
    ap (λ k. max k (width_of (map (λ q. piece_line depth q (comment q)) ps))) (piece_reaches depth p (comment p))
    ∙ ap (λ k. max (piece_reach depth (length p)) k) (pieces_reach depth comment ps)
    ∙ farther depth (length p) (longest ps)

content_reach : (depth : ℕ) (comment : List ℕ → List ℕ) (pieces : List (List ℕ))
    → width_of (content_lines depth comment pieces) ≡ piece_reach depth (longest pieces)
content_reach depth comment [] =
    let none : max (piece_reach depth 0) 0 ≡ piece_reach depth 0 = omega arith in
    ap (λ k. max k 0) (piece_reaches depth [] (codes "\"\"")) ∙ none
content_reach depth comment (p ∷ ps) = pieces_reach depth comment (p ∷ ps)

-- pieces of one length, but for the last
longest_of : (k : ℕ) → 1 ≤ k → (n : ℕ) (bytes : List ℕ) → length bytes ≤ n
    → longest (pieces_of (element_cut k) n bytes) ≡ min (length bytes) k
longest_of k some zero [] fits = omega arith
longest_of k some (suc n) [] fits = omega arith
longest_of k some zero (x ∷ xs) fits = absurd (omega arith)
longest_of k some (suc n) (x ∷ xs) fits =
    let all : List ℕ = x ∷ xs in
    let cut : ℕ = min (length all) k in
    let first : length (take cut all) ≡ cut = length-take-le cut all (omega arith) in
    let left : length (drop cut all) ≡ length all - cut = length-drop cut all in
    let others = longest_of k some n (drop cut all) (omega arith) in
    omega arith

-- the longest piece of a text is its first one, or one of those that are left
pub text_step : (rest piece after : List ℕ) → 0 < length rest → piece ≡ take (text_cut rest) rest
    → after ≡ drop (text_cut rest) rest
    → longest (pieces_of text_cut (length rest) rest)
    ≡ max (length piece) (longest (pieces_of text_cut (length after) after))
text_step rest piece after some front back =
    rw (front, back) (ap longest (pieces_more text_cut text_cuts rest some))

pub text_low : (n : ℕ) (bytes : List ℕ) → longest (pieces_of text_cut n bytes) ≤ piece_size
text_low zero [] = omega arith
text_low (suc n) [] = omega arith
text_low zero (x ∷ xs) = omega arith
text_low (suc n) (x ∷ xs) =
    let low = text_cut_low (x ∷ xs) in
    let first = length-take (text_cut (x ∷ xs)) (x ∷ xs) in
    let others = text_low n (drop (text_cut (x ∷ xs)) (x ∷ xs)) in
    omega arith

plain_reach : (depth : ℕ) (encoding : Option Encoding) (bytes : List ℕ)
    → width_of (bytes_lines depth encoding bytes) ≡ piece_reach depth (min (length bytes) piece_size)
plain_reach depth encoding bytes =
    content_reach depth (bytes_comment encoding bytes) (byte_pieces bytes)
    ∙ ap (piece_reach depth) (longest_of piece_size (omega arith) (length bytes) bytes (omega arith))

elements_reach : (depth t size : ℕ) (bytes : List ℕ) → 1 ≤ size
    → width_of (element_lines depth t size bytes) ≡ piece_reach depth (min (length bytes) size)
elements_reach depth t size bytes some =
    pieces_reach depth (λ e. unwrap_or (element_text t e) []) (pieces_of (element_cut size) (length bytes) bytes)
    ∙ ap (piece_reach depth) (longest_of size some (length bytes) bytes (omega arith))

sized_reach : (depth : ℕ) (encoding : Option Encoding) (t : ℕ) (size : Option ℕ) (bytes : List ℕ) → Small size
    → width_of (sized_lines depth encoding t size bytes) ≡ piece_reach depth (sized_piece size (length bytes))
sized_reach depth encoding t None bytes small = plain_reach depth encoding bytes
sized_reach depth encoding t (Some size) bytes small =
    elim (length bytes % size == 0) as (λ v. width_of (cond v (element_lines depth t size bytes)
    (bytes_lines depth encoding bytes))
    ≡ piece_reach depth (cond v (min (length bytes) size) (min (length bytes) piece_size))) [
      | true ↦ elements_reach depth t size bytes small.0
      | false ↦ plain_reach depth encoding bytes
    ]

tagged_reach : (depth : ℕ) (encoding : Option Encoding) (tag : Option ℕ) (bytes : List ℕ)
    → width_of (tagged_lines depth encoding tag bytes) ≡ piece_reach depth (tagged_piece tag (length bytes))
tagged_reach depth encoding None bytes = plain_reach depth encoding bytes
tagged_reach depth encoding (Some t) bytes = sized_reach depth encoding t (element_size t) bytes (element_small t)

-- ---- strings

string_content_reach : (kind : StringKind) (p : Context) (bytes : List ℕ)
    → width_of (string_content_lines kind p bytes) ≡ content_width kind p.depth p.tag bytes
string_content_reach Bytes p bytes = tagged_reach (p.depth + 1) p.encoding p.tag bytes
string_content_reach Text p bytes = content_reach (p.depth + 1) text_comment (text_pieces bytes)

string_reach : (kind : StringKind) (p : Context) (c : Chunk)
    → width_of (string_lines kind p c) ≡ string_width kind p.depth p.tag c
string_reach kind p c =
    headed p.depth (encoded_head (major_of kind) (length c.bytes) c.width) [] (string_content_lines kind p c.bytes)
    (content_width kind p.depth p.tag c.bytes) (string_content_reach kind p c.bytes)

chunks_reach : (kind : StringKind) (p : Context) (cs : List Chunk)
    → width_of (flat_map (string_lines kind (inside p)) cs) ≡ chunks_width kind (p.depth + 1) cs
chunks_reach kind p [] = refl
chunks_reach kind p (c ∷ cs) =
    both (string_lines kind (inside p) c) (flat_map (string_lines kind (inside p)) cs)
    (string_width kind (p.depth + 1) None c) (chunks_width kind (p.depth + 1) cs) (string_reach kind (inside p) c)
    (chunks_reach kind p cs)

close_reach : (depth : ℕ) (w : Option IntegerWidth) → width_of (close_lines depth w) ≡ close_width depth w
close_reach depth (Some w) = refl
close_reach depth None = alone depth (break_byte ∷ []) (codes "break")

atom_reach : (p : Context) (a : Atom)
    → width_of (atom_lines p a) ≡ max (head_reach p.depth (head_length (atom a))) (atom_inner p.depth p.tag a)
atom_reach p (integer n w) = headed p.depth (encoded_head 0 n w) [] [] 0 refl
atom_reach p (negative n w) = headed p.depth (encoded_head 1 n w) [] [] 0 refl
atom_reach p (string kind c) = string_reach kind p c
atom_reach p (chunked_string kind cs) =
    headed p.depth (opening (major_of kind) ∷ []) []
    (flat_map (string_lines kind (inside p)) cs ++ break_line (p.depth + 1) ∷ [])
    (max (chunks_width kind (p.depth + 1) cs) (close_width (p.depth + 1) None))
    (both (flat_map (string_lines kind (inside p)) cs) (break_line (p.depth + 1) ∷ [])
    (chunks_width kind (p.depth + 1) cs) (close_width (p.depth + 1) None) (chunks_reach kind p cs)
    (close_reach (p.depth + 1) None))
atom_reach p (float bits w) = headed p.depth (encoded_float bits w) [] [] 0 refl
atom_reach p (simple n) = headed p.depth (encoded_simple n) [] [] 0 refl

-- ---- notes have no digits

texts_reach : (depth : ℕ) (texts : List (List ℕ)) → width_of (map (note_line depth) texts) ≡ 0
texts_reach depth [] = refl
texts_reach depth (text ∷ texts) = ap (λ k. max 0 k) (texts_reach depth texts)

all_notes_reach : (depth : ℕ) (all : List Note) → width_of (flat_map (note_lines depth) all) ≡ 0
all_notes_reach depth [] = refl
all_notes_reach depth (n ∷ ns) =
    both (note_lines depth n) (flat_map (note_lines depth) ns) 0 0
    (ap (λ k. max 0 k) (texts_reach (depth + 1) n.below)) (all_notes_reach depth ns)

notes_reach : (depth left : ℕ) (dump : Item → List DumpLine) (known : ℕ) (tag : Option ℕ) (i : Item)
    → width_of (notes_lines depth left dump known tag i) ≡ 0
notes_reach depth left dump known None i = refl
notes_reach depth left dump known (Some t) i = all_notes_reach depth (notes left dump known t i)

-- ---- items

module _ (write : ℕ → Item → List DumpLine) (each : Item → ℕ)
    (same : (known : ℕ) (i : Item) → width_of (write known i) ≡ each i) where
  items_reach : (known : ℕ) (is : Items) → width_of (items_lines write known is) ≡ items_width each is
  items_reach known no_items = refl
  items_reach known (item i is) =
      both (write known i) (items_lines write (known + shared_in i) is) (each i) (items_width each is) (same known i)
      (items_reach (known + shared_in i) is)

  pairs_reach : (known : ℕ) (ps : Pairs) → width_of (pairs_lines write known ps) ≡ pairs_width each ps
  pairs_reach known no_pairs = refl
  pairs_reach known (pair k v ps) =
      let after = known + shared_in k in
      both (write known k) (write after v ++ pairs_lines write (after + shared_in v) ps) (each k)
      (max (each v) (pairs_width each ps)) (same known k)
      (both (write after v) (pairs_lines write (after + shared_in v) ps) (each v) (pairs_width each ps) (same after v)
      (pairs_reach (after + shared_in v) ps))

module _ (write : Context → ℕ → Item → List DumpLine) (each : ℕ → Option ℕ → Item → ℕ)
    (same : (p : Context) (known : ℕ) (i : Item) → width_of (write p known i) ≡ each p.depth p.tag i) where
  parts_reach : (p : Context) (known : ℕ) (i : Item)
      → width_of (parts_lines write p known i)
      ≡ max (head_reach p.depth (head_length i)) (inner_width each p.depth p.tag i)
  parts_reach p known (atom a) = atom_reach p a
  parts_reach p known (array is w) =
      headed p.depth (encoded_open 4 (item_count is) w) []
      (items_lines (write (inside p)) known is ++ close_lines (p.depth + 1) w)
      (inner_width each p.depth p.tag (array is w))
      (both (items_lines (write (inside p)) known is) (close_lines (p.depth + 1) w)
      (items_width (each (p.depth + 1) None) is) (close_width (p.depth + 1) w)
      (items_reach (write (inside p)) (each (p.depth + 1) None) (same (inside p)) known is)
      (close_reach (p.depth + 1) w))
  parts_reach p known (spec.map ps w) =
      headed p.depth (encoded_open 5 (pair_count ps) w) []
      (pairs_lines (write (inside p)) known ps ++ close_lines (p.depth + 1) w)
      (inner_width each p.depth p.tag (spec.map ps w))
      (both (pairs_lines (write (inside p)) known ps) (close_lines (p.depth + 1) w)
      (pairs_width (each (p.depth + 1) None) ps) (close_width (p.depth + 1) w)
      (pairs_reach (write (inside p)) (each (p.depth + 1) None) (same (inside p)) known ps)
      (close_reach (p.depth + 1) w))
  parts_reach p known (tagged t w i) =
      headed p.depth (encoded_head 6 t w) [] (write (below t known p) (shared_from t known) i)
      (each (p.depth + 1) (Some t) i) (same (below t known p) (shared_from t known) i)

-- the lines of an item reach as far as is found from its lengths
pub item_reach : (left : ℕ) (p : Context) (known : ℕ) (i : Item)
    → width_of (lines_at left p known i) ≡ width_at left p.depth p.tag i
unfolding lines_at width_at
item_reach zero p known i = refl
item_reach (suc left) p known i =
    let parts = parts_lines (lines_at left) p known i in
    let said = notes_lines p.depth left (lines_at left top 0) p.shared p.tag i in
    let found : ℕ = max (head_reach p.depth (head_length i)) (inner_width (width_at left) p.depth p.tag i) in
    let no_more : max found 0 ≡ found = omega arith in
    both parts said found 0 (parts_reach (lines_at left) (width_at left) (item_reach left) p known i)
    (notes_reach p.depth left (lines_at left top 0) p.shared p.tag i)
    ∙ no_more
