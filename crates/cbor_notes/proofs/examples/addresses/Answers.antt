use Rattle.std.proofs.Common.{refl}
use Rattle.std.specs.Fmt.{digits}
use Rattle.hex.specs.Hex.{encode_with}
use Rattle.cbor_notes.specs.Address.{hex_text, ipv6_text}
use Rattle.cbor_notes.proofs.examples.addresses.Goals as goal

pub returns-clause-ipv4 : goal.returns-clause-ipv4
unfolding digits encode_with ipv6_text hex_text
returns-clause-ipv4 c = refl

pub returns-clause-mac : goal.returns-clause-mac
unfolding digits encode_with ipv6_text hex_text
returns-clause-mac c = refl

pub returns-clause-longest : goal.returns-clause-longest
unfolding digits encode_with ipv6_text hex_text
returns-clause-longest c = refl

pub returns-clause-first : goal.returns-clause-first
unfolding digits encode_with ipv6_text hex_text
returns-clause-first c = refl

pub returns-clause-one_zero : goal.returns-clause-one_zero
unfolding digits encode_with ipv6_text hex_text
returns-clause-one_zero c = refl

pub returns-clause-zeros : goal.returns-clause-zeros
unfolding digits encode_with ipv6_text hex_text
returns-clause-zeros c = refl

pub returns-clause-mapped : goal.returns-clause-mapped
unfolding digits encode_with ipv6_text hex_text
returns-clause-mapped c = refl
