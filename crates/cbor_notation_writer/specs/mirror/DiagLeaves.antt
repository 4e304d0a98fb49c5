-- For `diag.rt`: the notation that `cbor_view` writes, as a dialect of `specs/Dialect.antt` (`diag_leaves`).
use Rattle.std.specs.Prelude.{◌≡◌, ◌+◌, ◌++◌, List, [], ℕ, codes, None, false}
use Rattle.cbor_grammar.specs.declared.layout.Content.TheVariants as shown
use Rattle.cbor_grammar.specs.declared.layout.ContainerStyle.{ContainerStyle}
use Rattle.cbor_grammar.specs.Estimate.{one_line_limit}
use Rattle.cbor_grammar.specs.Item.{Atom, integer, negative, float, simple}
use Rattle.cbor_grammar.specs.NotationText.{opened, colon, last_line, number, float_text, simple_text, string_text}
use Rattle.cbor_grammar.specs.NotationText.{rest_text, encoding_below, content_below}
use Rattle.cbor_grammar.specs.Reading.{count_width}
use Rattle.cbor_grammar.specs.StringKind.{no_chunks}
use Rattle.cbor_notation_writer.specs.declared.context.NotationContext.{NotationContext}
use Rattle.cbor_notation_writer.specs.declared.parts.Container.{Container}
use Rattle.cbor_notation_writer.specs.declared.parts.Container.TheVariants.{Array, Map, Chunks, Embedded}
use Rattle.cbor_notation_writer.specs.Dialect.{Leaves, style_within}
use Rattle.cbor_notation_writer.specs.mirror.LayoutView.{context_view, before_member, after_member}

abbrev pub leaf_text : Atom → List ℕ
leaf_text (integer n w) = number n w
leaf_text (negative n w) = codes "-" ++ number (n + 1) w
leaf_text (float n w) = float_text n w
leaf_text (simple n) = simple_text n
leaf_text other = []

abbrev pub opening : Container → ContainerStyle → List ℕ
opening (Array count) l = opened l (codes "[") (count_width count)
opening (Map count) l = opened l (codes "{") (count_width count)
opening (Chunks kind) l = opened l (codes "(") None
opening (Embedded len) l = codes "<<"

abbrev pub closing : Container → ContainerStyle → List ℕ
closing (Array count) l = last_line l ++ codes "]"
closing (Map count) l = last_line l ++ codes "}"
closing (Chunks kind) l = last_line l ++ codes ")"
closing (Embedded len) l = last_line l ++ codes ">>"

abbrev pub diag_leaves : Leaves NotationContext
diag_leaves = record {
  At = λ p q. q ≡ p;
  level = λ p. p.level;
  layout = λ p. p.layout;
  style = λ p size. style_within one_line_limit p.layout size;
  content = λ p b. p.content;
  joins = λ p kind. false;
  inside = λ c layout p. record {
    level = p.level + 1;
    layout = layout;
    encoding = p.encoding;
    content = shown.Bytes;
  };
  next = λ p. p;
  value = λ k p. p;
  below = λ n p. record {
    level = p.level + 1;
    layout = p.layout;
    encoding = encoding_below n p.encoding;
    content = content_below n;
  };
  leaf = λ p a t. t ≡ leaf_text a;
  string = λ p kind s t. t ≡ string_text kind p.encoding s.bytes;
  part = λ p kind s t. t ≡ string_text kind p.encoding s.bytes;
  no_parts = λ p kind t. t ≡ no_chunks kind;
  opening = λ p c l t. t ≡ opening c l;
  closing = λ p c l t. t ≡ closing c l;
  rest = λ p c b t. t ≡ rest_text (context_view p) b;
  tag = λ p n w t. t ≡ number n w ++ codes "(";
  tag_end = λ p n t. t ≡ codes ")";
  start = λ c l first. before_member l first;
  end = λ c l. after_member l;
  colon = colon;
}
