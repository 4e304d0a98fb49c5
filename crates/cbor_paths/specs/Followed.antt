-- `IsPart`: the bytes of a part that a path leads to (`Found`) are an item. It does not say to which part a path leads.
use Rattle.std.specs.Prelude.{◌≡◌, ℕ, ◌+◌, List, drop}
use Rattle.cbor_grammar.specs.Item.{Item}
use Rattle.cbor_grammar.specs.Facts.{BeginsWithItem}
use Rattle.cbor_trace.specs.declared.span.Span.{Span}
use Rattle.cbor_paths.specs.declared.followed.Found.{Found}

-- the bytes of this span are an item
abbrev pub IsItemSpan : List ℕ → Span → Type 0
IsItemSpan b s = (n : ℕ) × (s.end ≡ s.start + n) × (i : Item) × BeginsWithItem (drop s.start b) i n

-- so are those of this part
abbrev pub IsPart : List ℕ → Found → Type 0
IsPart b f = IsItemSpan b f.span
