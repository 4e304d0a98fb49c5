-- The named sets of rules, such as `core` and `dcbor`, rule by rule. Each set is a column of the table in
-- docs/RULES.md. The laws of `laws.rt` say that the constants of `Rules` are these sets.
use Rattle.std.specs.Prelude.{true, false}
use Rattle.cbor_rules.specs.declared.rules.Rules.{Rules}
use Rattle.cbor_rules.specs.declared.rules.KeyOrder.TheVariants.{Any, Bytes, Length, MajorType}

-- well formed by RFC 8949
abbrev pub rfc_8949 : Rules
rfc_8949 = record {
  shortest_heads = false;
  shortest_floats = false;
  reduced_floats = false;
  other_simple = true;
  definite_lengths = false;
  big_numbers = false;
  nfc = false;
  key_order = Any;
  distinct_keys = false;
  tags = true;
  deepest = 128;
}

-- RFC 8949 section 5.3.1
abbrev pub valid : Rules
valid = record {
  shortest_heads = false;
  shortest_floats = false;
  reduced_floats = false;
  other_simple = true;
  definite_lengths = false;
  big_numbers = false;
  nfc = false;
  key_order = Any;
  distinct_keys = true;
  tags = true;
  deepest = 128;
}

-- RFC 8949 section 4.1
abbrev pub preferred : Rules
preferred = record {
  shortest_heads = true;
  shortest_floats = true;
  reduced_floats = false;
  other_simple = true;
  definite_lengths = false;
  big_numbers = true;
  nfc = false;
  key_order = Any;
  distinct_keys = false;
  tags = true;
  deepest = 128;
}

-- RFC 8949 section 4.2.1
abbrev pub core : Rules
core = record {
  shortest_heads = true;
  shortest_floats = true;
  reduced_floats = false;
  other_simple = true;
  definite_lengths = true;
  big_numbers = true;
  nfc = false;
  key_order = Bytes;
  distinct_keys = false;
  tags = true;
  deepest = 128;
}

-- RFC 8949 section 4.2.3
abbrev pub length_first : Rules
length_first = record {
  shortest_heads = true;
  shortest_floats = true;
  reduced_floats = false;
  other_simple = true;
  definite_lengths = true;
  big_numbers = true;
  nfc = false;
  key_order = Length;
  distinct_keys = false;
  tags = true;
  deepest = 128;
}

-- CTAP 2.1 section 8
abbrev pub ctap2 : Rules
ctap2 = record {
  shortest_heads = true;
  shortest_floats = false;
  reduced_floats = false;
  other_simple = true;
  definite_lengths = true;
  big_numbers = true;
  nfc = false;
  key_order = MajorType;
  distinct_keys = false;
  tags = false;
  deepest = 4;
}

-- dCBOR
abbrev pub dcbor : Rules
dcbor = record {
  shortest_heads = true;
  shortest_floats = true;
  reduced_floats = true;
  other_simple = false;
  definite_lengths = true;
  big_numbers = true;
  nfc = true;
  key_order = Bytes;
  distinct_keys = false;
  tags = true;
  deepest = 128;
}
