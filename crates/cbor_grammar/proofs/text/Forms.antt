-- In pretty text (`pretty`), the members of a container are on one line if its `estimated_length` is below 60, and
-- otherwise each is on a line of its own. The same holds for the items of a sequence under tag 63, by its
-- `sequence_size`. The container is at most at level 128, and the tag at most at level 127.
use Rattle.std.proofs.Common.{◌≡◌, ℕ, ◌+◌, ◌<◌, ◌≤◌, ◌++◌, codes, refl, ap, ◌∙◌, arith}
use Rattle.std.proofs.lemmas.Bool.{lt-ltb, le-ltb}
use Rattle.cbor_grammar.specs.declared.width.IntegerWidth.{IntegerWidth}
use Rattle.cbor_grammar.specs.declared.encoding.Encoding.{Encoding}
use Rattle.cbor_grammar.specs.declared.layout.Layout.TheVariants.{Pretty}
use Rattle.cbor_grammar.specs.declared.layout.ContainerStyle.TheVariants.{OneLine, MultiLine}
use Rattle.cbor_grammar.specs.Item as spec
use Rattle.cbor_grammar.specs.Item.{Chunk, integer, negative, string, chunked_string, float}
use Rattle.cbor_grammar.specs.Item.{simple, Item, atom, array, tagged}
use Rattle.cbor_grammar.specs.declared.strings.StringKind.TheVariants.{Bytes}
use Rattle.cbor_grammar.specs.Estimate.{estimated_length, one_line_limit}
use Rattle.cbor_grammar.specs.Embedded.{sequence, sequence_at}
use Rattle.cbor_grammar.specs.WellFormed.{levels_left}
use Rattle.cbor_grammar.specs.NotationText.{number, in_encoding, below, container_style, item_style, sequence_size}
use Rattle.cbor_grammar.specs.NotationText.{sequence_text, text_at_level}
use Rattle.cbor_grammar.specs.Pretty.{pretty, laid_out, in_one_line, in_lines, sequence_laid_out, sequence_in_one_line}
use Rattle.cbor_grammar.specs.Pretty.{sequence_in_lines}
use Rattle.cbor_grammar.proofs.text.Parts.{text_opens}

short : (indent size : ℕ) → size < one_line_limit → container_style (Pretty indent) size ≡ OneLine indent
short indent size lt = rw (lt-ltb size one_line_limit lt) refl

tall : (indent size : ℕ) → one_line_limit ≤ size → container_style (Pretty indent) size ≡ MultiLine indent
tall indent size le = rw (le-ltb size one_line_limit le) refl

pretty_is : (level indent : ℕ) (e : Encoding) (i : Item) → level ≤ 128
    → pretty e level indent i ≡ laid_out (item_style (in_encoding (Pretty indent) e) i) e level indent i
pretty_is level indent e (array is w) le = text_opens level (in_encoding (Pretty indent) e) (array is w) le
pretty_is level indent e (spec.map ps w) le = text_opens level (in_encoding (Pretty indent) e) (spec.map ps w) le
pretty_is level indent e (atom (chunked_string kind cs)) le =
    text_opens level (in_encoding (Pretty indent) e) (atom (chunked_string kind cs)) le
pretty_is level indent e (atom (string Bytes c)) le = refl
pretty_is level indent e i le = refl

pub short_is : (level indent : ℕ) (e : Encoding) (i : Item) → level ≤ 128 → estimated_length i < one_line_limit
    → pretty e level indent i ≡ in_one_line e level indent i
short_is level indent e i le lt =
    pretty_is level indent e i le ∙ ap (λ l. laid_out l e level indent i) (short indent (estimated_length i) lt)

pub long_is : (level indent : ℕ) (e : Encoding) (i : Item) → level ≤ 128 → one_line_limit ≤ estimated_length i
    → pretty e level indent i ≡ in_lines e level indent i
long_is level indent e i le large =
    pretty_is level indent e i le ∙ ap (λ l. laid_out l e level indent i) (tall indent (estimated_length i) large)

sequence_is : (level indent : ℕ) (e : Encoding) (w : IntegerWidth) (b : Chunk) → level < 128
    → pretty e level indent (tagged 63 w (atom (string Bytes b)))
    ≡ sequence_laid_out (container_style (Pretty indent) (sequence_size (sequence (level + 2) b.bytes))) e level indent
    w b.bytes
sequence_is level indent e w b lt =
    let c = in_encoding (Pretty indent) e in
    let two : level + 1 + 1 ≡ level + 2 = omega arith in
    let opened = text_opens (level + 1) (below 63 c) (atom (string Bytes b)) (omega (arith, lt)) in
    text_opens level c (tagged 63 w (atom (string Bytes b))) (omega (arith, lt))
    ∙ ap (λ x. number 63 w ++ (codes "(" ++ (x ++ codes ")")))
    (opened ∙ ap (λ n. sequence_text (text_at_level n) (below 63 c) (sequence_at (levels_left n) b.bytes)) two)

pub short_sequence : (level indent : ℕ) (e : Encoding) (w : IntegerWidth) (b : Chunk) → level < 128
    → sequence_size (sequence (level + 2) b.bytes) < one_line_limit
    → pretty e level indent (tagged 63 w (atom (string Bytes b))) ≡ sequence_in_one_line e level indent w b.bytes
short_sequence level indent e w b lt few =
    sequence_is level indent e w b lt ∙ ap (λ l. sequence_laid_out l e level indent w b.bytes)
    (short indent (sequence_size (sequence (level + 2) b.bytes)) few)

pub long_sequence : (level indent : ℕ) (e : Encoding) (w : IntegerWidth) (b : Chunk) → level < 128
    → one_line_limit ≤ sequence_size (sequence (level + 2) b.bytes)
    → pretty e level indent (tagged 63 w (atom (string Bytes b))) ≡ sequence_in_lines e level indent w b.bytes
long_sequence level indent e w b lt many =
    sequence_is level indent e w b lt ∙ ap (λ l. sequence_laid_out l e level indent w b.bytes)
    (tall indent (sequence_size (sequence (level + 2) b.bytes)) many)

-- what a pretty text is by its estimate
pub ruleset pretty_laws = (short_is, long_is, short_sequence, long_sequence)
