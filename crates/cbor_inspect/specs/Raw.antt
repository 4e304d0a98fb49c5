-- `raw_content`: the content of a byte or text string, with its chunks joined and the tags around it left out.
-- `IsNoRaw`: why bytes have no such content.
use Rattle.std.specs.Prelude.{◌≡◌, ℕ, List, Option, Some, None}
use Rattle.std.specs.List.{flat_map}
use Rattle.cbor_grammar.specs.Item.{Chunk, Item, atom, string, chunked_string, tagged}
use Rattle.cbor_grammar.specs.Facts.{IsItem, IsNoItem}
use Rattle.cbor_grammar.specs.declared.error.Error.TheVariants as refusal
use Rattle.cbor_inspect.specs.declared.raw.RawError.{RawError}
use Rattle.cbor_inspect.specs.declared.raw.RawError.TheVariants.{Cbor, NoString}

-- the item below all tags
abbrev pub untagged : Item → Item
untagged (tagged t w i) = untagged i
untagged i = i

-- of a byte or text string, its chunks joined
abbrev pub string_content : Item → Option (List ℕ)
string_content (atom (string kind c)) = Some c.bytes
string_content (atom (chunked_string kind cs)) = Some (flat_map (λ (c : Chunk). c.bytes) cs)
string_content i = None

-- tags above the string are left out
abbrev pub raw_content : Item → Option (List ℕ)
raw_content i = string_content (untagged i)

-- why bytes have no raw content, out of memory aside
abbrev pub IsNoRaw : List ℕ → RawError → Type 0
IsNoRaw b (Cbor refusal.Memory) = Unit {0}
IsNoRaw b (Cbor e) = IsNoItem b e
IsNoRaw b NoString = (i : Item) × IsItem b i × (raw_content i ≡ None)
