-- The `Role` of an item in JSON: a value, a key, the value of a key, or a part of a key. Each function takes the role
-- of an item, and gives the role of another: the first member in it, the next member, the value of the key, or the item
-- below the tag.
use Rattle.cbor_notation_writer.specs.declared.parts.Container.{Container}
use Rattle.cbor_notation_writer.specs.declared.parts.Container.TheVariants.{Map}
use Rattle.cbor_json.specs.declared.print.place.Role.{Role}
use Rattle.cbor_json.specs.declared.print.place.Role.TheVariants as role

-- of the first member of a container; in a key all is a part of its EDN
abbrev pub inside_role : Container → Role → Role
inside_role c role.Key = role.InKey
inside_role c role.InKey = role.InKey
inside_role (Map count) s = role.Key
inside_role c s = role.Value

-- of the member after this one: a key after a value
abbrev pub next_role : Role → Role
next_role role.Named = role.Key
next_role s = s

-- of the value of a key
abbrev pub value_role : Role → Role
value_role role.Key = role.Named
value_role s = s

-- of the item below a tag
abbrev pub below_role : Role → Role
below_role role.Key = role.InKey
below_role role.InKey = role.InKey
below_role s = role.Value
