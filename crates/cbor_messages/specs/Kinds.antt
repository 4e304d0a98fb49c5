-- The number of each kind of violation (`kind_number`), and a short text for each number (`kind_text`).
use Rattle.std.specs.Prelude.{ℕ, List, codes, ◌==◌, if◌then◌else◌}
use Rattle.cbor_rules.specs.declared.kind.ViolationKind.{ViolationKind}
use Rattle.cbor_rules.specs.declared.kind.ViolationKind.TheVariants as kind

abbrev pub kind_number : ViolationKind → ℕ
kind_number (kind.NoItem e) = 1
kind_number kind.LongSimple = 2
kind_number (kind.LongHead n w) = 3
kind_number kind.NotNfc = 4
kind_number (kind.LongFloat float shortest) = 5
kind_number (kind.IntegerFloat float negative size) = 6
kind_number (kind.OtherNan float) = 7
kind_number (kind.OtherSimple n) = 8
kind_number kind.Indefinite = 9
kind_number kind.Tag = 10
kind_number kind.LeadingZero = 11
kind_number kind.SmallBigNumber = 12
kind_number kind.TooDeep = 13
kind_number (kind.KeyOrder previous) = 14
kind_number (kind.KeyTwice first) = 15

-- what is said of a kind, by its number
abbrev pub kind_text : ℕ → List ℕ
kind_text number =
    if number == 1 then codes "no item"
    else if number == 2 then codes "a simple value below 32 in two bytes"
    else if number == 3 then codes "a head that is not the shortest"
    else if number == 4 then codes "a text that is not in NFC"
    else if number == 5 then codes "a float that is not the shortest"
    else if number == 6 then codes "a float that is an integer"
    else if number == 7 then codes "a NaN other than f97e00"
    else if number == 8 then codes "a simple value other than false, true and null"
    else if number == 9 then codes "an indefinite length"
    else if number == 10 then codes "a tag"
    else if number == 11 then codes "a big number that begins with a zero byte"
    else if number == 12 then codes "a big number that fits an integer"
    else if number == 13 then codes "nested deeper than the rules allow"
    else if number == 14 then codes "a key that is out of order"
    else if number == 15 then codes "a key that stands twice"
    else codes "no such violation"
