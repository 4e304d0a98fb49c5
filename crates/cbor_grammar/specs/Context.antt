-- `Context`: how an item is written at its place in diagnostic notation: in which layout, in which base its byte
-- strings are, and whether a byte string there is shown as bytes, as an item or as a sequence of items.
use Rattle.cbor_grammar.specs.declared.encoding.Encoding.{Encoding}
use Rattle.cbor_grammar.specs.declared.layout.Content.{Content}
use Rattle.cbor_grammar.specs.declared.layout.Layout.{Layout}

pub record Context : Type 0 where
  pub layout : Layout
  pub encoding : Encoding
  pub content : Content
