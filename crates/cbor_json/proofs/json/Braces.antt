-- A map in JSON that is neither a key nor in a key (`is_value`): its opening is `{`, its closing is `}`, and the first
-- item in it is a key.
use Rattle.std.proofs.Common.{◌≡◌, true, codes, refl}
use Rattle.cbor_grammar.specs.declared.argument.Argument.{Argument}
use Rattle.cbor_notation_writer.specs.declared.parts.Container.TheVariants.{Map}
use Rattle.cbor_json.specs.JsonLeaves.{is_value, opening_at, closing_at}
use Rattle.cbor_json.specs.Roles.{inside_role}
use Rattle.cbor_json.specs.declared.print.place.Role.{Role}
use Rattle.cbor_json.specs.declared.print.place.Role.TheVariants as role

pub key_in : (s : Role) (count : Argument) → is_value s ≡ true → inside_role (Map count) s ≡ role.Key
key_in role.Key count v = absurd cc
key_in role.InKey count v = absurd cc
key_in role.Value count v = refl
key_in role.Named count v = refl

pub opens_so : (s : Role) (count : Argument) → is_value s ≡ true → opening_at s (Map count) ≡ codes "{"
opens_so role.Key count v = absurd cc
opens_so role.InKey count v = absurd cc
opens_so role.Value count v = refl
opens_so role.Named count v = refl

pub closes_so : (s : Role) (count : Argument) → is_value s ≡ true → closing_at s (Map count) ≡ codes "}"
closes_so role.Key count v = absurd cc
closes_so role.InKey count v = absurd cc
closes_so role.Value count v = refl
closes_so role.Named count v = refl
