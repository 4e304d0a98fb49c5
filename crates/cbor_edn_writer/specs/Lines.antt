-- A sequence of items in EDN, as the programs write it: a line feed is after each item.
use Rattle.std.specs.Prelude.{◌≡◌, ℕ, List, [], ◌∷◌, ◌++◌}
use Rattle.cbor_grammar.specs.Item.{Item}
use Rattle.cbor_edn_writer.specs.declared.style.EdnStyle.{EdnStyle}
use Rattle.cbor_edn_writer.specs.Written.{IsEdnText}

-- the text is one that EDN has for each of these items in turn, with a line feed after each
abbrev pub AreEdnLines : EdnStyle → List Item → List ℕ → Type 0
AreEdnLines style [] text = text ≡ []
AreEdnLines style (i ∷ is) text =
    (first more : List ℕ) × (text ≡ first ++ (10 ∷ more)) × IsEdnText style i first × AreEdnLines style is more
