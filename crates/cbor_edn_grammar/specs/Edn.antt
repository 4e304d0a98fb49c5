-- EDN, the notation that people write (RFC 8949 section 8, RFC 8610 appendix G): which items a whole text denotes
-- (`items_of_edn`), and what a call that reads the text may return (`Answers`).
use Rattle.std.specs.Prelude.{◌≡◌, ℕ, ◌≤◌, List, [], ◌∷◌, length, Option, Some, None, Result, Ok, Err}
use Rattle.cbor_grammar.specs.Item.{Item, items_of}
use Rattle.cbor_grammar.specs.WellFormed.{deepest}
use Rattle.cbor_grammar.specs.Written.{encoded_items}
use Rattle.cbor_edn_grammar.specs.declared.error.EdnError.{EdnError}
use Rattle.cbor_edn_grammar.specs.declared.error.Expected.{Expected}
use Rattle.cbor_edn_grammar.specs.declared.error.EdnError.TheVariants as failure
use Rattle.cbor_edn_grammar.specs.declared.error.Stop.{Stop}
use Rattle.cbor_edn_grammar.specs.declared.error.Stop.TheVariants as stop
use Rattle.cbor_edn_grammar.specs.declared.close.Close.TheVariants.{End}
use Rattle.cbor_edn_grammar.specs.Reading.{◌>>=◌}
use Rattle.cbor_edn_grammar.specs.Lists.{read_members}
use Rattle.cbor_edn_grammar.specs.Items.{item_turn, read_item}

-- the items of a whole text, perhaps none
abbrev pub items_of_edn : List ℕ → Option (List Item)
items_of_edn text = read_members (item_turn (read_item deepest) End) End text >>= λ is. Some is.0

-- the only item of a list
abbrev pub only_item : List Item → Option Item
only_item (i ∷ []) = Some i
only_item items = None

-- the item that a whole text denotes
abbrev pub item_of_edn : List ℕ → Option Item
item_of_edn text = items_of_edn text >>= only_item

-- the concatenated encodings of the items of a text
abbrev pub bytes_of_edn : List ℕ → Option (List ℕ)
bytes_of_edn text = items_of_edn text >>= λ items. Some (encoded_items (items_of items))

-- The answer is what the text denotes. An error other than out of memory is returned only if the text denotes nothing,
-- with a place in the text.
abbrev pub Answers : {X Y : Type 0} → (X → Y) → List ℕ → Option Y → Result X EdnError → Type 0
Answers view text read (Ok x) = read ≡ Some (view x)
Answers view text read (Err failure.Memory) = Unit {0}
Answers view text read (Err (failure.Wrong place expected)) = (read ≡ None) × (place ≤ length text)

-- an error at this place, which may say more exactly what is expected there
abbrev pub IsErrorAt : Stop → ℕ → EdnError → Type 0
IsErrorAt stop.Memory place error = error ≡ failure.Memory
IsErrorAt (stop.At expected) place error = (reason : Expected) × (error ≡ failure.Wrong place reason)
