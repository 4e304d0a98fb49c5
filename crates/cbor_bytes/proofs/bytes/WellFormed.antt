-- If bytes spell items one after the other (`SpellsItems`), each of these items is well formed.
use Rattle.std.proofs.Common.{ℕ, List, ◌++◌}
use Rattle.std.proofs.Common.{subst}
use Rattle.cbor_grammar.specs.Item.{Items, no_items, item}
use Rattle.cbor_grammar.specs.WellFormed.{WellFormedItems}
use Rattle.cbor_grammar.specs.Bytes.{any}
use Rattle.cbor_grammar.specs.Bytes.{SpellsItems}
use Rattle.cbor_grammar.proofs.bytes.Resolved.{spells_well}
use Rattle.cbor_grammar.proofs.bytes.Laws.{AllBytes, all_bytes-front, all_bytes-rest, bytes_at}

-- items that are spelled in sequence are well formed, and what follows them is bytes
pub items_well : (level : ℕ) (is : Items) (b end : List ℕ) → AllBytes b → SpellsItems any level b is end
    → WellFormedItems level is × AllBytes end
items_well level no_items b end all h = (tt, subst AllBytes h all)
items_well level (item i is) b end all h =
    let parts : AllBytes (h.0 ++ h.1) = subst AllBytes h.2 all in
    let others = items_well level is h.1 end (all_bytes-rest h.0 h.1 parts) h.4 in
    ((spells_well level h.0 i (bytes_at h.0 (all_bytes-front h.0 h.1 parts)) h.3, others.0), others.1)
