-- For `Line` in `line.rt`: the lines of a tree (`tree_lines`) are its first line and the lines of its sublines, one
-- deeper. In a loop over trees (`forest_lines`), whether all lines fit, their width and their text are found from the
-- tree at hand and the others. Lines that fit (`IsFit`) have a width of at most 484.
use Rattle.std.proofs.Common.{◌≡◌, ℕ, ◌+◌, ◌≤◌, ◌<◌, List, [], ◌∷◌, ◌++◌, map, max, length, drop, get_or, refl, sym, ap}
use Rattle.std.proofs.Common.{◌∙◌, arith, subst, append_assoc, ◌↔◌}
use Rattle.std.proofs.lemmas.Bool.Decides.{nat_tests}
use Rattle.std.proofs.lemmas.Grind.{flat_map-append}
use Rattle.std.specs.List.{AllByRecursion, flat_map}
use Rattle.std.proofs.lemmas.List.{drop_more}
use Rattle.cbor_notes.specs.declared.line.Line.{Line, out-Line, fold_out-Line}
use Rattle.cbor_notes.specs.Layout.{DumpLine, reach, width_of}
use Rattle.cbor_notes.specs.LineTree.{IsFit, first_line, forest_lines, tree_lines, tree_step}

sublines_are : (trees : List Line) (depth : ℕ)
    → flat_map (λ (tree : ℕ → List DumpLine). tree depth) (map tree_lines trees) ≡ forest_lines trees depth
sublines_are [] depth = refl
sublines_are (tree ∷ trees) depth = ap (λ rest. tree_lines tree depth ++ rest) (sublines_are trees depth)

-- a tree is its first line and its sublines
pub tree_is : (line : Line) (depth : ℕ) → tree_lines line depth ≡ first_line line depth
    ∷ forest_lines (out-Line line).sublines.items (depth + 1)
tree_is line depth =
    ap (λ (lines : ℕ → List DumpLine). lines depth) (fold_out-Line (ℕ → List DumpLine) tree_step line)
    ∙ ap (λ rest. first_line line depth ∷ rest) (sublines_are (out-Line line).sublines.items (depth + 1))

pub all_both : (P : DumpLine → Type 0) (xs ys : List DumpLine) → AllByRecursion P xs → AllByRecursion P ys
    → AllByRecursion P (xs ++ ys)
all_both P [] ys h k = k
all_both P (x ∷ xs) ys h k = (h.0, all_both P xs ys h.1 k)

pub all_front : (P : DumpLine → Type 0) (xs ys : List DumpLine) → AllByRecursion P (xs ++ ys) → AllByRecursion P xs
all_front P [] ys h = tt
all_front P (x ∷ xs) ys h = (h.0, all_front P xs ys h.1)

pub all_back : (P : DumpLine → Type 0) (xs ys : List DumpLine) → AllByRecursion P (xs ++ ys) → AllByRecursion P ys
all_back P [] ys h = h
all_back P (x ∷ xs) ys h = all_back P xs ys h.1

pub width_of-append : (xs ys : List DumpLine) → width_of (xs ++ ys) ≡ max (width_of xs) (width_of ys)
width_of-append [] ys = omega arith
width_of-append (x ∷ xs) ys = let rest = width_of-append xs ys in omega arith

-- the digits of a line that fits
fit_reach : (line : DumpLine) → IsFit line → reach line ≤ 484
fit_reach line fit = grind (arith, nat_tests)

-- A loop over trees is at its i-th one.
module _ (trees : List Line) (i depth : ℕ) (tree : Line) (is : tree ≡ get_or trees i tree)
    (inside : i < length trees) where
  abbrev rest : List DumpLine
  rest = forest_lines (drop i trees) depth

  abbrev others : List DumpLine
  others = forest_lines (drop (i + 1) trees) depth

  pub forest_more : rest ≡ tree_lines tree depth ++ others
  forest_more =
      ap (λ lines. forest_lines lines depth) (drop_more trees i tree inside)
      ∙ ap (λ here. tree_lines here depth ++ others) (sym is)

  pub fit_here : AllByRecursion IsFit rest → AllByRecursion IsFit (tree_lines tree depth)
  fit_here fit = all_front IsFit (tree_lines tree depth) others (subst (AllByRecursion IsFit) forest_more fit)

  pub fit_others : AllByRecursion IsFit rest → AllByRecursion IsFit others
  fit_others fit = all_back IsFit (tree_lines tree depth) others (subst (AllByRecursion IsFit) forest_more fit)

  -- where the tree fits, all fit exactly where the others do
  pub fit_more : (all : Type 0) → (AllByRecursion IsFit rest ↔ all) → AllByRecursion IsFit (tree_lines tree depth)
      → AllByRecursion IsFit others ↔ all
  fit_more all so_far fit = (
    λ left. so_far.0 (subst (AllByRecursion IsFit) (sym forest_more)
        (all_both IsFit (tree_lines tree depth) others fit left)),
    λ whole. fit_others (so_far.1 whole),
  )

  pub width_more : width_of rest ≡ max (width_of (tree_lines tree depth)) (width_of others)
  width_more = ap width_of forest_more ∙ width_of-append (tree_lines tree depth) others

  -- once the tree is written, the others are left to write
  pub text_more : (write : DumpLine → List ℕ) (out new : List ℕ) → new ≡ out ++ flat_map write (tree_lines tree depth)
      → new ++ flat_map write others ≡ out ++ flat_map write rest
  text_more write out new written =
      ap (λ text. text ++ flat_map write others) written
      ∙ append_assoc out (flat_map write (tree_lines tree depth)) (flat_map write others)
      ∙ ap (λ text. out ++ text) (sym (flat_map-append write (tree_lines tree depth) others)
      ∙ sym (ap (flat_map write) forest_more))

-- the digits of lines that fit reach no farther than the deepest and longest
pub fit_width : (lines : List DumpLine) → AllByRecursion IsFit lines → width_of lines ≤ 484
fit_width [] fit = omega arith
fit_width (line ∷ lines) fit = let first = fit_reach line fit.0 in let others = fit_width lines fit.1 in omega arith
