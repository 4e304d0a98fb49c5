-- For `notes.rt` and the files in `notes`: what a `Note`, a `Zone` and a `Value` of the code stand for in the
-- definitions (`note_view`, `zone_view`, `value_view`). Notes look only at a part of an item: `seen` and `first_seen`
-- keep this part. `Sees` and `IsNextMember`: a value that the code reads is this part of an item or of a member.
use Rattle.std.specs.Prelude.{◌≡◌, ℕ, zero, suc, List, map, Option, Some, None, Ok, IsSome}
use Rattle.std.specs.String.{string_bytes}
use Rattle.cbor_dump.specs.declared.notes.Note as declared_note
use Rattle.cbor_dump.specs.declared.notes.addresses.Zone as declared_zone
use Rattle.cbor_dump.specs.declared.notes.addresses.Zone.TheVariants as code_zone
use Rattle.cbor_dump.specs.declared.notes.value.Atom as declared_atom
use Rattle.cbor_dump.specs.declared.notes.value.Atom.TheVariants as code_atom
use Rattle.cbor_dump.specs.declared.notes.value.Members as declared_members
use Rattle.cbor_dump.specs.declared.notes.value.Value as declared_value
use Rattle.cbor_dump.specs.declared.notes.value.Value.TheVariants as code_value
use Rattle.cbor_grammar.specs.declared.width.FloatWidth.TheVariants as float_width
use Rattle.cbor_grammar.specs.declared.width.IntegerWidth.TheVariants.{Unknown}
use Rattle.cbor_grammar.specs.declared.argument.Argument.{Argument}
use Rattle.cbor_grammar.specs.Item as spec
use Rattle.cbor_grammar.specs.Item.{Chunk, Atom, Item, atom, array, Items, no_items, item, no_pairs}
use Rattle.cbor_dump.specs.Notes.{Note, Zone, no_zone, zone_text, not_zone}
use Rattle.cbor_grammar.specs.Reading.{after_members, one_less, read_item}
use Rattle.cbor_grammar.specs.declared.strings.StringKind.TheVariants.{Bytes, Text}

abbrev pub note_view : declared_note.Note → Note
note_view n = record { text = string_bytes n.text; below = map string_bytes n.below.items }

abbrev pub zone_view : declared_zone.Zone → Zone
zone_view code_zone.Absent = no_zone
zone_view (code_zone.Text text) = zone_text (string_bytes text)
zone_view code_zone.Invalid = not_zone

-- ---- values

-- a value that notes do not look into: it has the notes of any other item that no note describes
abbrev pub other : Item
other = spec.map no_pairs None

-- no note depends on a width
abbrev pub unstated : List ℕ → Chunk
unstated bytes = record { bytes = bytes; width = Unknown }

abbrev pub atom_view : declared_atom.Atom → Item
atom_view (code_atom.Integer n) = atom (spec.integer n Unknown)
atom_view (code_atom.Negative n) = atom (spec.negative n Unknown)
atom_view (code_atom.Bytes bytes) = atom (spec.string Bytes (unstated bytes.now))
atom_view (code_atom.Text text) = atom (spec.string Text (unstated text.now))
atom_view code_atom.Float = atom (spec.float 0 float_width.Unknown)
atom_view (code_atom.Simple s) = atom (spec.simple s.0)
atom_view code_atom.Other = other

-- a member and those behind it; behind one that notes do not look into, they look at none
abbrev pub then_view : Option declared_atom.Atom → Items → Items
then_view None is = no_items
then_view (Some code_atom.Other) is = item other no_items
then_view (Some a) is = item (atom_view a) is

abbrev pub members_view : declared_members.Members → Items
members_view m = then_view m.first (then_view m.second (then_view m.third no_items))

abbrev pub value_view : declared_value.Value → Item
value_view (code_value.Atom a) = atom_view a
value_view (code_value.Array m) = array (members_view m) None

-- ---- the values that items are

abbrev pub seen_atom : Atom → Item
seen_atom (spec.integer n w) = atom (spec.integer n Unknown)
seen_atom (spec.negative n w) = atom (spec.negative n Unknown)
seen_atom (spec.string kind c) = atom (spec.string kind (unstated c.bytes))
seen_atom (spec.chunked_string kind cs) = other
seen_atom (spec.float bits w) = atom (spec.float 0 float_width.Unknown)
seen_atom (spec.simple n) = atom (spec.simple n)

-- of a container, that it is one
abbrev pub seen : Item → Item
seen (atom a) = seen_atom a
seen i = other

-- whether notes look behind it
abbrev pub IsLookedInto : Item → Type 0
IsLookedInto (atom (spec.chunked_string kind cs)) = ⊥
IsLookedInto (atom a) = Unit {0}
IsLookedInto i = ⊥

abbrev pub then_seen : Item → Items → Items
then_seen (atom (spec.chunked_string kind cs)) is = item other no_items
then_seen (atom a) is = item (seen_atom a) is
then_seen i is = item other no_items

-- the first members, up to one that notes do not look into
abbrev pub first_seen : ℕ → Items → Items
first_seen zero is = no_items
first_seen (suc n) no_items = no_items
first_seen (suc n) (item i is) = then_seen i (first_seen n is)

-- ---- what is read

-- This value is the item, and the item ends before these bytes if notes look behind it.
abbrev pub Sees : declared_atom.Atom → List ℕ → Item → List ℕ → Type 0
Sees a after i rest = (atom_view a ≡ seen i) × (IsLookedInto i → after ≡ rest)

-- These items are what reading gives of an array that this is left of.
abbrev pub AreMembers : ℕ → Argument → List ℕ → Items → Type 0
AreMembers levels left b no_items = IsSome (after_members left b)
AreMembers levels left b (item i is) = (after_members left b ≡ None)
    × ((rest : List ℕ) × (read_item levels b ≡ Ok (i, rest)) × AreMembers levels (one_less left) rest is)

-- This is the first of the items, if there is one, and the others follow if notes look at them.
abbrev pub IsNextMember : ℕ → Argument → Items → Option declared_atom.Atom → List ℕ → Type 0
IsNextMember levels left no_items found after = found ≡ None
IsNextMember levels left (item i is) None after = ⊥
IsNextMember levels left (item i is) (Some a) after =
    (atom_view a ≡ seen i) × (IsLookedInto i → AreMembers levels left after is)
