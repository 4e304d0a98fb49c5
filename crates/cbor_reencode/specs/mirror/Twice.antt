-- For `keys.rt`: `unordered`, the rules of core deterministic encoding without an order of keys. Its argument says
-- whether the keys of a map have to differ.
use Rattle.std.specs.Prelude.{Bool}
use Rattle.cbor_rules.specs.declared.rules.Rules.{Rules}
use Rattle.cbor_rules.specs.declared.rules.KeyOrder.TheVariants.{Any}
use Rattle.cbor_rules.specs.declared.rules.TheConstants.Rules.{CORE}

-- the rules of core deterministic encoding without an order of keys; the keys of a map have to differ if `distinct`
-- holds
abbrev pub unordered : Bool → Rules
unordered distinct = record {
  shortest_heads = CORE.shortest_heads;
  shortest_floats = CORE.shortest_floats;
  reduced_floats = CORE.reduced_floats;
  other_simple = CORE.other_simple;
  definite_lengths = CORE.definite_lengths;
  big_numbers = CORE.big_numbers;
  nfc = CORE.nfc;
  key_order = Any;
  distinct_keys = distinct;
  tags = CORE.tags;
  deepest = CORE.deepest;
}
