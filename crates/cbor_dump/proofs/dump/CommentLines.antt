-- In a dump, the comments on heads (such as `tag_comment`) and on pieces of strings (`bytes_comment`, `text_comment`)
-- have no line feed. The digits of a head (`head_hex`) lack each character above 0 that is neither a hex digit nor a
-- blank, such as `#`.
use Rattle.std.proofs.Common.{◌≢◌, ℕ, ◌+◌, ◌==◌, ◌&&◌, true, false, nat_le, List, ◌++◌, length, take, drop, codes}
use Rattle.std.proofs.Common.{decimal, Option, Some, None, refl}
use Rattle.hex.specs.Hex.{encode_lower, lower_digits}
use Rattle.cbor_notes.specs.TagNames.{tag_name}
use Rattle.cbor_notes.specs.Text.{grouped, escaped_text}
use Rattle.cbor_notes.proofs.columns.OneLine.{Free, FreeName, named, unnamed, from_test, free_both, free_cond, free_hex}
use Rattle.cbor_notes.proofs.columns.OneLine.{hex_line, standard_line, url_safe_line, decimal_line, grouped_line}
use Rattle.cbor_notes.proofs.columns.OneLine.{quoted_line, escaped_line, tag_name_free}
use Rattle.cbor_grammar.specs.declared.encoding.Encoding.{Encoding}
use Rattle.cbor_grammar.specs.declared.encoding.Encoding.TheVariants.{Base16, Base64, Base64Url}
use Rattle.cbor_dump.specs.Comments.{in_brackets, unsigned_comment, negative_comment, float_comment, simple_kind}
use Rattle.cbor_dump.specs.Comments.{simple_comment, count_text, counted_comment}
use Rattle.cbor_dump.specs.Comments.{name_before, tag_comment, bytes_comment, text_comment}
use Rattle.cbor_dump.specs.Dump.{head_hex}
use Rattle.cbor_grammar.specs.NotationText.{encoded_bytes, prefix, quoted}

pub brackets_line : (name inner : List ℕ) → Free 10 name → Free 10 inner → Free 10 (in_brackets name inner)
brackets_line name inner h k =
    free_both 10 ((name ++ codes "(") ++ inner) (codes ")")
    (free_both 10 (name ++ codes "(") inner (free_both 10 name (codes "(") h (from_test 10 (codes "(") refl)) k)
    (from_test 10 (codes ")") refl)

pub unsigned_line : (n : ℕ) → Free 10 (unsigned_comment n)
unsigned_line n = brackets_line (codes "unsigned") (grouped n false) (from_test 10 (codes "unsigned") refl)
    (grouped_line n false)

pub negative_line : (n : ℕ) → Free 10 (negative_comment n)
negative_line n = brackets_line (codes "negative") (grouped (n + 1) true) (from_test 10 (codes "negative") refl)
    (grouped_line (n + 1) true)

pub float_line : (bytes : List ℕ) → Free 10 (float_comment bytes)
float_line bytes = brackets_line (codes "float") (encode_lower (drop 1 bytes)) (from_test 10 (codes "float") refl)
    (hex_line (drop 1 bytes))

kind_line : (n : ℕ) → Free 10 (simple_kind n)
kind_line n =
    free_cond 10 (n == 20) (codes "false, ") _ (from_test 10 (codes "false, ") refl)
    (free_cond 10 (n == 21) (codes "true, ") _ (from_test 10 (codes "true, ") refl)
    (free_cond 10 (n == 22) (codes "null, ") _ (from_test 10 (codes "null, ") refl)
    (free_cond 10 (n == 23) (codes "undefined, ") _ (from_test 10 (codes "undefined, ") refl)
    (free_cond 10 (nat_le 24 n && nat_le n 32) (codes "reserved, ") (codes "unassigned, ")
    (from_test 10 (codes "reserved, ") refl) (from_test 10 (codes "unassigned, ") refl)))))

pub simple_line : (n : ℕ) → Free 10 (simple_comment n)
simple_line n =
    free_both 10 (simple_kind n) (in_brackets (codes "simple") (decimal n)) (kind_line n)
    (brackets_line (codes "simple") (decimal n) (from_test 10 (codes "simple") refl) (decimal_line n))

count_line : (count : Option ℕ) → Free 10 (count_text count)
count_line (Some n) = decimal_line n
count_line None = from_test 10 (codes "*") refl

pub counted_line : (name : List ℕ) (count : Option ℕ) → Free 10 name → Free 10 (counted_comment name count)
counted_line name count h = brackets_line name (count_text count) h (count_line count)

before_line : (name : Option (List ℕ)) → FreeName name → Free 10 (name_before name)
before_line (Some x) (named h) = free_both 10 x (codes ", ") h (from_test 10 (codes ", ") refl)
before_line None unnamed = tt

pub tag_line : (t : ℕ) → Free 10 (tag_comment t)
tag_line t =
    free_both 10 (name_before (tag_name t)) (in_brackets (codes "tag") (decimal t))
    (before_line (tag_name t) (tag_name_free t))
    (brackets_line (codes "tag") (decimal t) (from_test 10 (codes "tag") refl) (decimal_line t))

between : (front inner close : List ℕ) → Free 10 front → Free 10 inner → Free 10 close
    → Free 10 (front ++ inner ++ close)
between front inner close h k l = free_both 10 (front ++ inner) close (free_both 10 front inner h k) l

quoted_bytes_line : (e : Encoding) (bytes : List ℕ) → Free 10 (prefix e) → Free 10 (encoded_bytes e bytes)
    → Free 10 (quoted e bytes)
quoted_bytes_line e bytes h k =
    let quote : Free 10 (codes "'") = from_test 10 (codes "'") refl in
    free_both 10 (prefix e) (codes "'" ++ (encoded_bytes e bytes ++ codes "'")) h
    (free_both 10 (codes "'") (encoded_bytes e bytes ++ codes "'") quote
    (free_both 10 (encoded_bytes e bytes) (codes "'") k quote))

pub bytes_line : (encoding : Option Encoding) (whole piece : List ℕ) → Free 10 (bytes_comment encoding whole piece)
bytes_line None whole piece = quoted_line piece
bytes_line (Some Base16) whole piece = quoted_bytes_line Base16 piece (from_test 10 (codes "h") refl) (hex_line piece)
bytes_line (Some Base64) whole piece = quoted_bytes_line Base64 whole (from_test 10 (codes "b64") refl)
    (standard_line whole)
bytes_line (Some Base64Url) whole piece = quoted_bytes_line Base64Url whole (from_test 10 (codes "b64") refl)
    (url_safe_line whole)

pub text_line : (piece : List ℕ) → Free 10 (text_comment piece)
text_line piece = between (codes "\"") (escaped_text piece) (codes "\"") (from_test 10 (codes "\"") refl)
    (escaped_line piece) (from_test 10 (codes "\"") refl)

-- the digits of a head
pub free_head : (c : ℕ) → ◌≢◌ {A = ℕ} 0 c → ◌≢◌ {A = ℕ} 32 c → Free c lower_digits → (bytes : List ℕ)
    → Free c (head_hex bytes)
free_head c other blank free bytes =
    free_cond c (nat_le (length bytes) 1) (encode_lower bytes)
    ((encode_lower (take 1 bytes) ++ codes " ") ++ encode_lower (drop 1 bytes)) (free_hex c other free bytes)
    (free_both c (encode_lower (take 1 bytes) ++ codes " ") (encode_lower (drop 1 bytes))
    (free_both c (encode_lower (take 1 bytes)) (codes " ") (free_hex c other free (take 1 bytes)) (blank, tt))
    (free_hex c other free (drop 1 bytes)))
