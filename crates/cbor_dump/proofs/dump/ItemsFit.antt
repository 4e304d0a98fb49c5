-- All lines of an item in a dump, those of its members and notes included, are good (`IsGood`), if the item is well
-- formed and its depth is below its level.
use Rattle.std.proofs.Common.{◌≡◌, ℕ, zero, suc, ◌+◌, ◌<◌, List, ◌++◌, codes, refl, arith}
use Rattle.std.specs.List.{AllByRecursion}
use Rattle.cbor_notes.specs.Layout.{DumpLine}
use Rattle.cbor_notes.proofs.columns.OneLine.{from_test}
use Rattle.cbor_dump.proofs.dump.CommentLines.{tag_line}
use Rattle.cbor_notes.proofs.columns.Trees.{all_both}
use Rattle.cbor_grammar.specs.Item as spec
use Rattle.cbor_grammar.specs.Item.{Chunk, Atom, integer, negative, string, chunked_string, float, simple, Item, atom}
use Rattle.cbor_grammar.specs.Item.{array, tagged, Items, no_items, item, Pairs, no_pairs, pair, item_count, pair_count}
use Rattle.cbor_grammar.specs.Head.{stated}
use Rattle.cbor_grammar.specs.WellFormed.{WellFormed, WellFormedItems, WellFormedPairs}
use Rattle.cbor_grammar.specs.Written.{encoded_head}
use Rattle.cbor_dump.specs.Dump.{Context, notes_lines, close_lines, inside, below, shared_in, shared_from}
use Rattle.cbor_dump.specs.Dump.{items_lines}
use Rattle.cbor_dump.specs.Dump.{pairs_lines, parts_lines, lines_at, top}
use Rattle.cbor_grammar.proofs.text.Parts.{well_level}
use Rattle.cbor_dump.proofs.dump.Fits.{IsGood, fit_head, head_length, open_fits, close_fits, atom_fits, low_here}
use Rattle.cbor_dump.proofs.dump.Fits.{low_below, low_end, low_first}
use Rattle.cbor_dump.proofs.dump.NotesFit.{notes_fit}

module _ (write : ℕ → Item → List DumpLine) (level : ℕ) (each : (known : ℕ) (i : Item) → WellFormed level i
    → AllByRecursion IsGood (write known i)) where
  items_fit : (known : ℕ) (is : Items) → WellFormedItems level is → AllByRecursion IsGood (items_lines write known is)
  items_fit known no_items well = tt
  items_fit known (item i is) well =
      all_both IsGood (write known i) (items_lines write (known + shared_in i) is) (each known i well.0)
      (items_fit (known + shared_in i) is well.1)

  pairs_fit : (known : ℕ) (ps : Pairs) → WellFormedPairs level ps → AllByRecursion IsGood (pairs_lines write known ps)
  pairs_fit known no_pairs well = tt
  pairs_fit known (pair k v ps) well =
      let after = known + shared_in k in
      all_both IsGood (write known k) (write after v ++ pairs_lines write (after + shared_in v) ps)
      (each known k well.0)
      (all_both IsGood (write after v) (pairs_lines write (after + shared_in v) ps) (each after v well.1)
      (pairs_fit (after + shared_in v) ps well.2))

module _ (write : Context → ℕ → Item → List DumpLine) (level : ℕ) (each : (p : Context) (known : ℕ) (i : Item)
    → p.depth < level + 1 → WellFormed (level + 1) i → AllByRecursion IsGood (write p known i)) where
  parts_fit : (p : Context) (known : ℕ) (i : Item) → p.depth < level → WellFormed level i
      → AllByRecursion IsGood (parts_lines write p known i)
  parts_fit p known (atom a) deep well = atom_fits p a (low_here p.depth level deep well.0)
  parts_fit p known (array is w) deep well = (
    open_fits p.depth 4 (codes "array") (item_count is) w (low_first p.depth level deep well.0)
        (from_test 10 (codes "array") refl),
    all_both IsGood (items_lines (write (inside p)) known is) (close_lines (p.depth + 1) w)
        (items_fit (write (inside p)) (level + 1) (λ n i h. each (inside p) n i (low_below p.depth level deep) h) known
        is well.2) (close_fits (p.depth + 1) w (low_end p.depth level deep well.0)),
  )
  parts_fit p known (spec.map ps w) deep well = (
    open_fits p.depth 5 (codes "map") (pair_count ps) w (low_first p.depth level deep well.0)
        (from_test 10 (codes "map") refl),
    all_both IsGood (pairs_lines (write (inside p)) known ps) (close_lines (p.depth + 1) w)
        (pairs_fit (write (inside p)) (level + 1) (λ n i h. each (inside p) n i (low_below p.depth level deep) h) known
        ps well.2) (close_fits (p.depth + 1) w (low_end p.depth level deep well.0)),
  )
  parts_fit p known (tagged t w i) deep well = (
    fit_head p.depth (encoded_head 6 t w) _ (low_first p.depth level deep well.0) (head_length 6 t (stated w t))
        (tag_line t),
    each (below t known p) (shared_from t known) i (low_below p.depth level deep) well.2,
  )

pub item_fits : (left level : ℕ) (p : Context) (known : ℕ) (i : Item) → level + left ≡ 129 → p.depth < level
    → WellFormed level i → AllByRecursion IsGood (lines_at left p known i)
unfolding lines_at
item_fits zero level p known i levels deep well = absurd (omega (arith, well_level level i well))
item_fits (suc left) level p known i levels deep well =
    let embedded = λ (e : Item) (h : WellFormed (level + 1) e). item_fits left (level + 1) top 0 e (omega arith)
    (omega arith) h in
    all_both IsGood (parts_lines (lines_at left) p known i)
    (notes_lines p.depth left (lines_at left top 0) p.shared p.tag i)
    (parts_fit (lines_at left) level (λ q n j d h. item_fits left (level + 1) q n j (omega arith) d h) p known i deep
    well)
    (notes_fit (level + 1) left (omega arith) (lines_at left top 0) embedded p.depth level p.shared p.tag i
    (low_end p.depth level deep (well_level level i well)) well)
