-- How much work an input is, in turns of its reader: `item_turns` for a whole item, `cut_spent` and `fault_spent` for
-- the complete part of truncated and of malformed bytes. One turn reads a head (and the content of a definite-length
-- string), reads a chunk or a break, or closes a full container.
use Rattle.std.specs.Prelude.{ℕ, zero, suc, ◌+◌, ◌*◌, List, length}
use Rattle.cbor_grammar.specs.declared.error.Error.{Error}
use Rattle.cbor_grammar.specs.Item as spec
use Rattle.cbor_grammar.specs.Item.{Atom, chunked_string, Item, atom, array, tagged, Items, no_items, item}
use Rattle.cbor_grammar.specs.Item.{Pairs, no_pairs, pair}
use Rattle.cbor_grammar.specs.Refused.{SpelledParts, Next, Inside, in_tag, in_array, in_map, in_open_array, at_open_key}
use Rattle.cbor_grammar.specs.Refused.{at_open_value, Cut, nothing, in_head, in_content, in_chunk, in_part}
use Rattle.cbor_grammar.specs.Refused.{Fault, too_deep, bad_head, bad_text, bad_chunk_head, bad_chunk_text, bad_part}

-- one for what has no parts; one for each chunk, and two for the opening byte and the break round them
abbrev pub atom_turns : Atom → ℕ
atom_turns (chunked_string kind cs) = 2 + length cs
atom_turns _ = 1

-- the turns of a whole item: two for a container or a tag, its head and its end, and those of all in it
abbrev mutual
  pub item_turns : Item → ℕ
  item_turns (atom a) = atom_turns a
  item_turns (array is w) = 2 + items_turns is
  item_turns (spec.map ps w) = 2 + pairs_turns ps
  item_turns (tagged t w i) = 2 + item_turns i

  pub items_turns : Items → ℕ
  items_turns no_items = 0
  items_turns (item i is) = item_turns i + items_turns is

  pub pairs_turns : Pairs → ℕ
  pairs_turns no_pairs = 0
  pairs_turns (pair k v ps) = item_turns k + (item_turns v + pairs_turns ps)

-- the turns of whole parts in sequence
abbrev pub parts_turns : (level k : ℕ) (b : List ℕ) → SpelledParts level k b → ℕ
parts_turns level zero b spelled = 0
parts_turns level (suc k) b spelled = item_turns spelled.2 + parts_turns level k spelled.1 spelled.5

-- one turn for the head of an incomplete container, and those of the whole parts in it
abbrev pub front_turns : {level : ℕ} {b rest : List ℕ} {next : Next} → Inside level b rest next → ℕ
front_turns (in_tag t w h) = 1
front_turns {level = level} (in_array n k w whole h parts few) = 1 + parts_turns (level + 1) k whole parts
front_turns {level = level} (in_map n k w whole h parts few) = 1 + parts_turns (level + 1) k whole parts
front_turns {level = level} (in_open_array k whole opens parts) = 1 + parts_turns (level + 1) k whole parts
front_turns {level = level} (at_open_key k whole opens parts) = 1 + parts_turns (level + 1) (2 * k) whole parts
front_turns {level = level} (at_open_value k whole opens parts) = 1 + parts_turns (level + 1) (2 * k + 1) whole parts

-- What is whole of an input that is cut, in turns: the heads of the containers that are not, the parts and
-- the chunks. What is cut itself is no turn.
abbrev pub cut_spent : {level : ℕ} {b : List ℕ} → Cut level b → ℕ
cut_spent (nothing le) = 0
cut_spent (in_head le h) = 0
cut_spent (in_content kind le h) = 0
cut_spent (in_chunk kind rest le inside h) = 1 + length inside.0
cut_spent (in_part next rest le inside c) = front_turns inside + cut_spent c

-- the same of an input that has a fault, up to it
abbrev pub fault_spent : {level : ℕ} {b : List ℕ} {e : Error} → Fault level b e → ℕ
fault_spent (too_deep deep) = 0
fault_spent (bad_head le h) = 0
fault_spent (bad_text le h) = 0
fault_spent (bad_chunk_head kind rest le inside h) = 1 + length inside.0
fault_spent (bad_chunk_text rest le inside h) = 1 + length inside.0
fault_spent (bad_part next rest le inside no_break f) = front_turns inside + fault_spent f
