-- The texts of items that hold no other item (numbers, simple values, strings and strings in chunks) are what their
-- role asks for (`Part`): JSON for a value, a JSON string for a key, and a piece of a string for an item in a key. A
-- list in a key is such a string or piece, if its members are pieces.
use Rattle.std.proofs.Common.{◌≡◌, ℕ, ◌+◌, ◌^◌, ◌<◌, ◌≤◌, List, [], ◌∷◌, ◌++◌, Bool, true, false, codes}
use Rattle.std.proofs.Common.{refl, inl, inr, sym, ap, subst, ◌∙◌, arith, append_assoc, ◌==◌, ◌&&◌, nat_le, length}
use Rattle.std.specs.Float.{float_is_finite}
use Rattle.std.specs.Float.Ieee.{Float}
use Rattle.std.specs.Fmt.{decimal, sign_text}
use Rattle.std.specs.List.{AllByRecursion, flat_map}
use Rattle.hex.specs.Hex.{encode_lower}
use Rattle.cbor_floats.specs.declared.float.EncodedFloat.{EncodedFloat}
use Rattle.cbor_floats.specs.Value.{value_of}
use Rattle.cbor_tokens.specs.Escapes.{escaped_text}
use Rattle.cbor_grammar.specs.declared.encoding.Encoding.TheVariants.{Base16}
use Rattle.cbor_grammar.specs.declared.layout.ContainerStyle.{ContainerStyle}
use Rattle.cbor_grammar.specs.declared.strings.StringKind.{StringKind}
use Rattle.cbor_grammar.specs.declared.strings.StringKind.TheVariants as kind
use Rattle.cbor_grammar.specs.declared.width.FloatWidth.{FloatWidth}
use Rattle.cbor_grammar.specs.declared.width.IntegerWidth.{IntegerWidth}
use Rattle.cbor_grammar.specs.declared.width.IntegerWidth.TheVariants.{Unknown, Zero, Eight, Sixteen, ThirtyTwo}
use Rattle.cbor_grammar.specs.declared.width.IntegerWidth.TheVariants.{SixtyFour}
use Rattle.cbor_grammar.specs.Head.{FitsWidth}
use Rattle.cbor_grammar.specs.Item.{Chunk, Atom, integer, negative, string, chunked_string, float, simple}
use Rattle.cbor_grammar.specs.NotationText.{float_text, float_bits, simple_text, quoted}
use Rattle.cbor_grammar.specs.WellFormed.{IsChunk, WellFormedAtom}
use Rattle.cbor_notation_writer.specs.Dialect.{listed, ChunksText, ChunkTexts}
use Rattle.cbor_notation_writer.specs.declared.parts.Container.{Container}
use Rattle.cbor_notation_writer.specs.declared.parts.Container.TheVariants.{Array, Map, Chunks, Embedded}
use Rattle.cbor_json.specs.JsonLeaves.{json_leaves, LeafAt, ValueLeaf, EdnLeaf, EdnFloat, NumberIf, json_simple}
use Rattle.cbor_json.specs.Decimal.{IsDecimal}
use Rattle.cbor_json.specs.JsonLeaves.{integer_text, negative_text, string_at, is_value, is_bytes, is_big_tag, is_big}
use Rattle.cbor_json.specs.JsonLeaves.{is_negative_tag, BigText, StringIf, StringAt}
use Rattle.cbor_json.specs.JsonLeaves.{part_at, edn_opening, edn_closing, key_opening, key_closing, opening_at}
use Rattle.cbor_json.specs.JsonLeaves.{closing_at, empty_at, before_member, encoded_float}
use Rattle.cbor_json.specs.declared.print.place.JsonPlace.{JsonPlace}
use Rattle.cbor_json.specs.declared.print.place.Role.{Role}
use Rattle.cbor_json.specs.declared.print.place.Role.TheVariants as role
use Rattle.cbor_json.proofs.json.Digits.{hex_calm, digits_calm_in, value_calm, number_calm}
use Rattle.cbor_json.proofs.json.Digits.{decimal_calm, number_text_calm, float_bytes}
use Rattle.cbor_json.proofs.json.Digits.{big_calm}
use Rattle.cbor_json.proofs.json.Fills.{Fills, fills_nothing, fills_then, calm_fills, constant}
use Rattle.cbor_json.proofs.json.Numbers.{integer_number, negative_number, float_number, big_number}
use Rattle.cbor_json.proofs.json.Strings.{IsString, is_string, string_in_quotes, escaped_fills, quote_escaped, chosen}
use Rattle.cbor_json.proofs.json.Tokens.{Reads, string_reads, number_reads, true_reads, false_reads, null_reads}

-- a key is a string, what is in a key a piece of one, and all else JSON
abbrev pub Part : Bool → Role → ℕ → List ℕ → Type 0
Part strict role.Key left t = IsString t
Part strict role.InKey left t = Fills t
Part strict role.Value left t = Reads strict left t
Part strict role.Named left t = Reads strict left t

-- ---- what holds no item

-- numbers of an item are below 2 ^ 64
pub below_limit : (n : ℕ) (w : IntegerWidth) → FitsWidth w n → n < 2 ^ 64
below_limit n Unknown fits = fits
below_limit n Zero fits = let lt : n < 24 = fits in omega arith
below_limit n Eight fits = let lt : n < 2 ^ 8 = fits in omega arith
below_limit n Sixteen fits = let lt : n < 2 ^ 16 = fits in omega arith
below_limit n ThirtyTwo fits = let lt : n < 2 ^ 32 = fits in omega arith
below_limit n SixtyFour fits = fits

pub integer_fills : (n : ℕ) → n ≤ 2 ^ 64 → Fills (integer_text n)
integer_fills n le = calm_fills (integer_text n) (number_calm n le)

negative_fills : (n : ℕ) → n < 2 ^ 64 → Fills (negative_text n)
negative_fills n lt = fills_then {a = codes "-"} (constant (codes "-") refl) (integer_fills (n + 1) (omega (arith, lt)))

simple_fills : (n : ℕ) → n < 256 → Fills (simple_text n)
simple_fills n lt =
    chosen Fills (n == 20) _ _ (λ e. constant (codes "false") refl) (λ e.
    chosen Fills (n == 21) _ _ (λ e. constant (codes "true") refl) (λ e.
    chosen Fills (n == 22) _ _ (λ e. constant (codes "null") refl) (λ e.
    chosen Fills (n == 23) _ _ (λ e. constant (codes "undefined") refl) (λ e.
    fills_then {a = codes "simple("} (constant (codes "simple(") refl)
    (fills_then (calm_fills (decimal n) (decimal_calm n (omega (arith, lt)))) (constant (codes ")") refl))))))

bits_fill : (bits : ℕ) (w : FloatWidth) → Fills (float_text bits w)
bits_fill bits w =
    fills_then {a = codes "float'"} (constant (codes "float'") refl)
    (fills_then (calm_fills (encode_lower (float_bits bits w)) (hex_calm (float_bits bits w) (float_bytes bits w)))
    (constant (codes "'") refl))

float_fills : (f : EncodedFloat) (bits : ℕ) (w : FloatWidth) (t : List ℕ) → EdnFloat f (float_text bits w) t → Fills t
float_fills f bits w t h = elim h [
  | inl n ↦ calm_fills t (number_text_calm t n.1)
  | inr b ↦ subst Fills (sym b.1) (bits_fill bits w)
]

edn_leaf_fills : (a : Atom) (t : List ℕ) → WellFormedAtom a → EdnLeaf a t → Fills t
edn_leaf_fills (integer n w) t well h =
    subst Fills (sym h) (integer_fills n (omega (arith, below_limit n w well)))
edn_leaf_fills (negative n w) t well h = subst Fills (sym h) (negative_fills n (below_limit n w well))
edn_leaf_fills (float bits w) t well h = float_fills (encoded_float bits w) bits w t h
edn_leaf_fills (simple n) t well h = subst Fills (sym h) (simple_fills n well)
edn_leaf_fills (string k c) t well h = absurd h
edn_leaf_fills (chunked_string k cs) t well h = absurd h

float_reads : (strict : Bool) (left : ℕ) (finite : Bool) (x : Float) (t : List ℕ) → float_is_finite x ≡ finite
    → NumberIf finite x t → Reads strict left t
float_reads strict left true x t is h = number_reads t (float_number t (h.layout is))
    (calm_fills t (number_text_calm t h)).shows
float_reads strict left false x t is h =
    subst (λ y. Reads strict left y) (sym h) (null_reads (constant (codes "null") refl).shows)

value_simple : (strict : Bool) (left n : ℕ) → Reads strict left (json_simple n)
value_simple strict left n =
    chosen (λ t. Reads strict left t) (n == 20) _ _ (λ e. false_reads (constant (codes "false") refl).shows) (λ e.
    chosen (λ t. Reads strict left t) (n == 21) _ _ (λ e. true_reads (constant (codes "true") refl).shows)
    (λ e. null_reads (constant (codes "null") refl).shows))

value_leaf : (strict : Bool) (left : ℕ) (a : Atom) (t : List ℕ) → WellFormedAtom a → ValueLeaf a t → Reads strict left t
value_leaf strict left (integer n w) t well h =
    let lt = below_limit n w well in
    subst (λ y. Reads strict left y) (sym h)
    (number_reads (integer_text n) (integer_number n lt) (integer_fills n (omega (arith, lt))).shows)
value_leaf strict left (negative n w) t well h =
    let lt = below_limit n w well in
    subst (λ y. Reads strict left y) (sym h)
    (number_reads (negative_text n) (negative_number n lt) (negative_fills n lt).shows)
value_leaf strict left (float bits w) t well h = float_reads strict left _ (value_of (encoded_float bits w)) t refl h
value_leaf strict left (simple n) t well h = subst (λ y. Reads strict left y) (sym h) (value_simple strict left n)
value_leaf strict left (string k c) t well h = absurd h
value_leaf strict left (chunked_string k cs) t well h = absurd h

pub leaf_part : (strict : Bool) (s : Role) (left : ℕ) (a : Atom) (t : List ℕ) → WellFormedAtom a → LeafAt s a t
    → Part strict s left t
leaf_part strict role.Key left a t well h =
    subst IsString (sym h.2) (string_in_quotes h.0 (edn_leaf_fills a h.0 well h.1))
leaf_part strict role.InKey left a t well h = edn_leaf_fills a t well h
leaf_part strict role.Value left a t well h = value_leaf strict left a t well h
leaf_part strict role.Named left a t well h = value_leaf strict left a t well h

-- ---- strings

quoted_fills : (b : List ℕ) → AllByRecursion (λ x. x < 256) b → Fills (quoted Base16 b)
quoted_fills b h =
    fills_then {a = codes "h'"} (constant (codes "h'") refl)
    (fills_then (calm_fills (encode_lower b) (hex_calm b h)) (constant (codes "'") refl))

string_at_part : (strict : Bool) (p : JsonPlace) (s : Role) (left : ℕ) (k : StringKind) (c : Chunk)
    → AllByRecursion (λ x. x < 256) c.bytes → Part strict s left (string_at p s k c)
string_at_part strict p role.InKey left kind.Bytes c h = quoted_fills c.bytes h
string_at_part strict p role.InKey left kind.Text c h =
    fills_then {a = codes "\\\""} quote_escaped (fills_then (escaped_fills (escaped_text c.bytes)) quote_escaped)
string_at_part strict p role.Key left kind.Bytes c h = string_in_quotes (quoted Base16 c.bytes) (quoted_fills c.bytes h)
string_at_part strict p role.Key left kind.Text c h = string_in_quotes (escaped_text c.bytes) (escaped_fills c.bytes)
string_at_part strict p role.Value left kind.Bytes c h =
    string_reads (string_in_quotes _ (calm_fills _ (value_calm p.tag p.encoding c.bytes h)))
string_at_part strict p role.Value left kind.Text c h = string_reads (string_in_quotes _ (escaped_fills c.bytes))
string_at_part strict p role.Named left kind.Bytes c h =
    string_reads (string_in_quotes _ (calm_fills _ (value_calm p.tag p.encoding c.bytes h)))
string_at_part strict p role.Named left kind.Text c h = string_reads (string_in_quotes _ (escaped_fills c.bytes))

-- a big number by its digits
big_reads : (strict : Bool) (left : ℕ) (minus : Bool) (n : ℕ) (t digits : List ℕ) → IsDecimal n digits
    → t ≡ sign_text minus ++ digits → Reads strict left t
big_reads strict left minus n t digits is e =
    subst (λ y. Reads strict left y) (sym e)
    (number_reads (sign_text minus ++ digits) (big_number minus n digits is)
    (calm_fills (sign_text minus ++ digits) (big_calm minus digits is.digits.1)).shows)

big_part : (strict : Bool) (p : JsonPlace) (s : Role) (left : ℕ) (c : Chunk) (t : List ℕ) → is_value s ≡ true
    → BigText (is_negative_tag p.tag) c.bytes t → Part strict s left t
big_part strict p role.Key left c t v h = absurd cc
big_part strict p role.InKey left c t v h = absurd cc
big_part strict p role.Value left c t v h = big_reads strict left _ _ t h.0 h.1 h.2
big_part strict p role.Named left c t v h = big_reads strict left _ _ t h.0 h.1 h.2

string_if : (strict : Bool) (test : Bool) (p : JsonPlace) (left : ℕ) (k : StringKind) (c : Chunk) (t : List ℕ)
    → (test ≡ true → is_value p.role ≡ true) → AllByRecursion (λ x. x < 256) c.bytes → StringIf test p k c t
    → Part strict p.role left t
string_if strict true p left k c t value h is = big_part strict p p.role left c t (value refl) is
string_if strict false p left k c t value h is =
    subst (λ x. Part strict p.role left x) (sym is) (string_at_part strict p p.role left k c h)

middle_true : (a b c : Bool) → (a && (b && c)) ≡ true → b ≡ true
middle_true true true c e = refl
middle_true true false c e = absurd cc
middle_true false b c e = absurd cc

pub string_part : (strict : Bool) (p : JsonPlace) (left : ℕ) (k : StringKind) (c : Chunk) (t : List ℕ)
    → AllByRecursion (λ x. x < 256) c.bytes → StringAt p k c t → Part strict p.role left t
string_part strict p left k c t h is =
    string_if strict (is_big p k c.bytes) p left k c t
    (middle_true (is_bytes k) (is_value p.role) (is_big_tag p.tag && nat_le (length c.bytes) 1024)) h is

part_fills : (p : JsonPlace) (s : Role) (k : StringKind) (c : Chunk) → IsChunk k c → Fills (part_at p s k c)
part_fills p role.InKey kind.Text c h = escaped_fills (escaped_text c.bytes)
part_fills p role.Key kind.Text c h = escaped_fills c.bytes
part_fills p role.Value kind.Text c h = escaped_fills c.bytes
part_fills p role.Named kind.Text c h = escaped_fills c.bytes
part_fills p role.Key kind.Bytes c h = calm_fills _ (hex_calm c.bytes h.bytes)
part_fills p role.InKey kind.Bytes c h = calm_fills _ (hex_calm c.bytes h.bytes)
part_fills p role.Value kind.Bytes c h = calm_fills _ (digits_calm_in p.encoding c.bytes h.bytes)
part_fills p role.Named kind.Bytes c h = calm_fills _ (digits_calm_in p.encoding c.bytes h.bytes)

-- ---- lists in a key

abbrev pub AllFill : List (List ℕ) → Type 0
AllFill [] = Unit {0}
AllFill (m ∷ ms) = Fills m × AllFill ms

start_fills : (c : Container) (first : Bool) → Fills (before_member c first)
start_fills (Chunks k) first = fills_nothing
start_fills (Array count) true = fills_nothing
start_fills (Array count) false = constant (codes ", ") refl
start_fills (Map count) true = fills_nothing
start_fills (Map count) false = constant (codes ", ") refl
start_fills (Embedded len) true = fills_nothing
start_fills (Embedded len) false = constant (codes ", ") refl

pub listed_fills : (c : Container) (ms : List (List ℕ)) → AllFill ms
    → Fills (listed (λ first. before_member c first) [] ms)
listed_fills c [] h = fills_nothing
listed_fills c (m ∷ ms) h =
    fills_then (fills_then (start_fills c true) (fills_then h.0 fills_nothing)) (others ms h.1)
  where
    others : (ms : List (List ℕ)) → AllFill ms → Fills (flat_map (λ x. before_member c false ++ (x ++ [])) ms)
    others [] h = fills_nothing
    others (m ∷ ms) h =
        fills_then (fills_then (start_fills c false) (fills_then h.0 fills_nothing)) (others ms h.1)

opening_fills : (c : Container) → Fills (edn_opening c)
opening_fills (Array count) = constant (codes "[") refl
opening_fills (Map count) = constant (codes "{") refl
opening_fills (Chunks kind.Bytes) = constant (codes "h'") refl
opening_fills (Chunks kind.Text) = quote_escaped
opening_fills (Embedded len) = constant (codes "<<") refl

closing_fills : (c : Container) → Fills (edn_closing c)
closing_fills (Array count) = constant (codes "]") refl
closing_fills (Map count) = constant (codes "}") refl
closing_fills (Chunks kind.Bytes) = constant (codes "'") refl
closing_fills (Chunks kind.Text) = quote_escaped
closing_fills (Embedded len) = constant (codes ">>") refl

-- what is within the quotes of a key
abbrev key_front : Container → List ℕ
key_front (Chunks kind.Text) = []
key_front (Array count) = codes "["
key_front (Map count) = codes "{"
key_front (Chunks kind.Bytes) = codes "h'"
key_front (Embedded len) = codes "<<"

abbrev key_back : Container → List ℕ
key_back (Chunks kind.Text) = []
key_back (Array count) = codes "]"
key_back (Map count) = codes "}"
key_back (Chunks kind.Bytes) = codes "'"
key_back (Embedded len) = codes ">>"

front_fills : (c : Container) → Fills (key_front c)
front_fills (Chunks kind.Text) = fills_nothing
front_fills (Array count) = constant (codes "[") refl
front_fills (Map count) = constant (codes "{") refl
front_fills (Chunks kind.Bytes) = constant (codes "h'") refl
front_fills (Embedded len) = constant (codes "<<") refl

back_fills : (c : Container) → Fills (key_back c)
back_fills (Chunks kind.Text) = fills_nothing
back_fills (Array count) = constant (codes "]") refl
back_fills (Map count) = constant (codes "}") refl
back_fills (Chunks kind.Bytes) = constant (codes "'") refl
back_fills (Embedded len) = constant (codes ">>") refl

key_front_is : (c : Container) → key_opening c ≡ 34 ∷ key_front c
key_front_is (Chunks kind.Text) = refl
key_front_is (Array count) = refl
key_front_is (Map count) = refl
key_front_is (Chunks kind.Bytes) = refl
key_front_is (Embedded len) = refl

key_back_is : (c : Container) → key_closing c ≡ key_back c ++ 34 ∷ []
key_back_is (Chunks kind.Text) = refl
key_back_is (Array count) = refl
key_back_is (Map count) = refl
key_back_is (Chunks kind.Bytes) = refl
key_back_is (Embedded len) = refl

-- a text between quotes, in three pieces
pub three : (a b c : List ℕ) → 34 ∷ (a ++ (b ++ (c ++ 34 ∷ []))) ≡ 34 ∷ ((a ++ (b ++ c)) ++ 34 ∷ [])
three a b c =
    ap (λ x. 34 ∷ x) (ap (λ x. a ++ x) (sym (append_assoc b c (34 ∷ []))) ∙ sym (append_assoc a (b ++ c) (34 ∷ [])))

pub key_list : (c : Container) (inner t o e : List ℕ) → Fills inner → o ≡ key_opening c → e ≡ key_closing c
    → t ≡ o ++ (inner ++ e) → IsString t
key_list c inner t o e f is_o is_e is =
    is_string (key_front c ++ (inner ++ key_back c)) t (fills_then (front_fills c) (fills_then f (back_fills c)))
    (is ∙ ap (λ x. x ++ (inner ++ e)) (is_o ∙ key_front_is c)
    ∙ ap (λ x. 34 ∷ (key_front c ++ (inner ++ x))) (is_e ∙ key_back_is c) ∙ three (key_front c) inner (key_back c))

pub edn_list : (c : Container) (inner t o e : List ℕ) → Fills inner → o ≡ edn_opening c → e ≡ edn_closing c
    → t ≡ o ++ (inner ++ e) → Fills t
edn_list c inner t o e f is_o is_e is =
    subst Fills (sym is) (fills_then (subst Fills (sym is_o) (opening_fills c))
    (fills_then f (subst Fills (sym is_e) (closing_fills c))))

-- ---- strings of chunks

chunk_texts_fill : (p : JsonPlace) (k : StringKind) (cs : List Chunk) (ms : List (List ℕ))
    → AllByRecursion (IsChunk k) cs → ChunkTexts json_leaves p k cs ms → AllFill ms
chunk_texts_fill p k [] [] well h = tt
chunk_texts_fill p k [] (m ∷ ms) well h = absurd h
chunk_texts_fill p k (c ∷ cs) [] well h = absurd h
chunk_texts_fill p k (c ∷ cs) (m ∷ ms) well h =
    (subst Fills (sym h.0) (part_fills p p.role k c well.0), chunk_texts_fill p k cs ms well.1 h.1)

empty_part : (strict : Bool) (s : Role) (left : ℕ) (k : StringKind) → Part strict s left (empty_at s k)
empty_part strict role.Key left kind.Bytes = string_in_quotes (codes "h''") (constant (codes "h''") refl)
empty_part strict role.Key left kind.Text = string_in_quotes [] fills_nothing
empty_part strict role.InKey left kind.Bytes = constant (codes "h''") refl
empty_part strict role.InKey left kind.Text = fills_then {a = codes "\\\""} quote_escaped quote_escaped
empty_part strict role.Value left k = string_reads (string_in_quotes [] fills_nothing)
empty_part strict role.Named left k = string_reads (string_in_quotes [] fills_nothing)

joined_part : (strict : Bool) (s : Role) (left : ℕ) (k : StringKind) (inner t o e : List ℕ) → Fills inner
    → o ≡ opening_at s (Chunks k) → e ≡ closing_at s (Chunks k) → t ≡ o ++ (inner ++ e) → Part strict s left t
joined_part strict role.Key left k inner t o e f is_o is_e is = key_list (Chunks k) inner t o e f is_o is_e is
joined_part strict role.InKey left k inner t o e f is_o is_e is = edn_list (Chunks k) inner t o e f is_o is_e is
joined_part strict role.Value left k inner t o e f is_o is_e is =
    string_reads (is_string inner t f (is ∙ ap (λ x. x ++ (inner ++ e)) is_o ∙ ap (λ x. 34 ∷ (inner ++ x)) is_e))
joined_part strict role.Named left k inner t o e f is_o is_e is =
    string_reads (is_string inner t f (is ∙ ap (λ x. x ++ (inner ++ e)) is_o ∙ ap (λ x. 34 ∷ (inner ++ x)) is_e))

pub chunks_part : (strict : Bool) (p : JsonPlace) (left : ℕ) (k : StringKind) (l : ContainerStyle) (cs : List Chunk)
    (t : List ℕ) → AllByRecursion (IsChunk k) cs → ChunksText json_leaves p k l cs t → Part strict p.role left t
chunks_part strict p left k l [] t well h =
    subst (λ x. Part strict p.role left x) (sym h) (empty_part strict p.role left k)
chunks_part strict p left k l (c ∷ cs) t well (ms, texts, (o, e, is_o, is_e, is)) =
    joined_part strict p.role left k (listed (λ first. before_member (Chunks k) first) [] ms) t o e
    (listed_fills (Chunks k) ms (chunk_texts_fill p k (c ∷ cs) ms well texts)) is_o is_e is
