-- `fits`: whether bytes encode an item that fits the schema of a `Checker`, as `Fits.antt` of `cbor_fits` defines it.
-- There is no answer (`None`) if rules and items are nested more than 700 deep.
use Rattle.std.specs.Prelude.{ℕ, List, Bool, Option}
use Rattle.cbor_fits.specs.Fits.{accepts}
use Rattle.cbor_fits.specs.Tables.{rules}
use Rattle.cbor_schema.specs.declared.checker.Checker.{Checker}

-- Whether the bytes encode an item that fits the root of the schema. It does not if a map in it has a key twice. `None`
-- if rules and items are nested more than 700 deep.
abbrev pub fits : Checker → List ℕ → Option Bool
fits c b = accepts (rules c.schema c.patterns.items) 700 c.schema.root b
