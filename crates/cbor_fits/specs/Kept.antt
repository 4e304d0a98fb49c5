-- The answers that a `Work` keeps (whether an item fits a type): `Holds` says that each of them is right by `matcher`,
-- and `IsRight` that one is.
use Rattle.std.specs.Prelude.{◌≡◌, Bool, Option, Some, None}
use Rattle.std.specs.List.{All}
use Rattle.cbor_fits.specs.View.{view}
use Rattle.cbor_fits.specs.Rules.{Rules}
use Rattle.cbor_fits.specs.Fits.{matcher}
use Rattle.cbor_fits.specs.declared.work.Question.{Question}
use Rattle.cbor_fits.specs.declared.work.Known.{Known}
use Rattle.cbor_fits.specs.declared.work.Work.{Work}

-- the answer is what the rules say
abbrev pub IsRight : Rules → Question → Bool → Type 0
IsRight r q b = (matcher r q.depth).fits q.index (view q.datum.now) ≡ Some b

-- the answer of a slot, if there is one, is right
abbrev pub IsRightIfAny : Rules → Option Known → Type 0
IsRightIfAny r None = Unit {0}
IsRightIfAny r (Some k) = IsRight r k.question k.fits

-- each answer that is kept is right
unfoldable pub Holds : Rules → Work → Type 0
Holds r w = All (IsRightIfAny r) w.known.items
