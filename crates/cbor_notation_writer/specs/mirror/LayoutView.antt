-- For `context.rt`, `members.rt` and `diag.rt`, and for `encode/notation.rt` of `cbor_diag`: the `Context` of the
-- definitions that a `NotationContext` of the code stands for (`context_view`), and the texts of an item and of its
-- parts in this context, such as `item_text`, `before_member` and `chunks_there`.
use Rattle.std.specs.Prelude.{ℕ, ◌+◌, ◌*◌, ◌≤◌, List, [], codes, Bool, if◌then◌else◌}
use Rattle.cbor_notation_writer.specs.declared.context.NotationContext.{NotationContext}
use Rattle.cbor_grammar.specs.declared.layout.Content.{Content}
use Rattle.cbor_grammar.specs.declared.layout.ContainerStyle.{ContainerStyle}
use Rattle.cbor_grammar.specs.declared.layout.ContainerStyle.TheVariants as style
use Rattle.cbor_grammar.specs.Context.{Context}
use Rattle.cbor_grammar.specs.declared.strings.StringKind.{StringKind}
use Rattle.cbor_grammar.specs.Item as spec
use Rattle.cbor_grammar.specs.Estimate.{estimated_chunks}
use Rattle.cbor_grammar.specs.WellFormed.{levels_left}
use Rattle.cbor_grammar.specs.NotationText.{indent_of, line, members, members_layout, inside, colon, item_texts}
use Rattle.cbor_grammar.specs.NotationText.{pair_texts, container_style, chunks_text, content_text, text_at_level}

abbrev pub context_view : NotationContext → Context
context_view c = record { layout = c.layout; encoding = c.encoding; content = c.content }

-- each level is indented by four blanks at most
abbrev pub IsIndented : NotationContext → Type 0
IsIndented c = indent_of c.layout ≤ 4 * c.level

-- the text of an item there
abbrev pub item_text : NotationContext → spec.Item → List ℕ
item_text c i = text_at_level c.level (context_view c) i

-- what is written before a member and after it
abbrev pub before_member : ContainerStyle → Bool → List ℕ
before_member style.Compact first = if first then [] else codes ","
before_member (style.OneLine indent) first = if first then [] else codes ", "
before_member (style.MultiLine indent) first = line (indent + 4)

abbrev pub after_member : ContainerStyle → List ℕ
after_member (style.MultiLine indent) = codes ","
after_member _ = []

-- the style of an indefinite string of these chunks there
abbrev chunks_style : NotationContext → StringKind → List spec.Chunk → ContainerStyle
chunks_style c kind cs = container_style c.layout (4 + estimated_chunks kind cs)

-- the text of an indefinite string of these chunks there
abbrev pub chunks_there : NotationContext → StringKind → List spec.Chunk → List ℕ
chunks_there c kind cs = chunks_text kind c.encoding (chunks_style c kind cs) cs

-- the texts of the members of a container there, in this style
abbrev pub items_there : NotationContext → ContainerStyle → spec.Items → List ℕ
items_there c l is =
    members l (item_texts (text_at_level (c.level + 1) (inside (members_layout l) (context_view c))) is)

abbrev pub pairs_there : NotationContext → ContainerStyle → spec.Pairs → List ℕ
pairs_there c l ps =
    members l (pair_texts (text_at_level (c.level + 1) (inside (members_layout l) (context_view c))) (colon l) ps)

-- the text of the bytes of a byte string there
abbrev pub content_there : NotationContext → Content → List ℕ → List ℕ
content_there c shown b = content_text (levels_left (c.level + 1)) (text_at_level (c.level + 1)) shown (context_view c)
    b
