-- For `item_lines`: if the input is one item, and a page shows it whole, as EDN over several lines with notes and
-- without names, what was written are lines of HTML of that item (`IsHtmlLines`).
use Rattle.std.proofs.Common.{◌≡◌, ℕ, ◌+◌, Bool, true, false, List, [], ◌∷◌, ◌++◌, length, Option, None, refl, sym, ap}
use Rattle.std.proofs.Common.{subst, ◌∙◌, arith, append-nil, length-append, drop, take}
use Rattle.std.proofs.lemmas.List.{drop_all, take_all}
use Rattle.cbor_grammar.specs.Item.{Item}
use Rattle.cbor_grammar.specs.Facts.{IsItem}
use Rattle.cbor_notes.specs.declared.note.Note.{Note}
use Rattle.cbor_edn_writer.specs.declared.style.EdnStyle.{EdnStyle}
use Rattle.cbor_edn_writer.specs.Written.{IsNotedText, pretty_style}
use Rattle.cbor_paths.specs.declared.step.Step.{Step}
use Rattle.cbor_paths.specs.Sequence.{ItemsThen, ShowsEach, IsShownOfFirst}
use Rattle.cbor_paths.proofs.Fronts.{not_empty, front_length, same_rest}
use Rattle.cbor_inspect.specs.declared.form.Form.{Form}
use Rattle.cbor_inspect.specs.declared.form.Form.TheVariants as form
use Rattle.cbor_inspect.specs.declared.form.Style.{Style}
use Rattle.cbor_inspect.specs.declared.items.Show.{Show}
use Rattle.cbor_inspect.specs.declared.naming.Naming.{Naming}
use Rattle.cbor_inspect.specs.Forms.{edn_style, IsFormOf}
use Rattle.cbor_inspect.specs.Shows.{Shows, ShowsPart, steps_of}
use Rattle.cbor_page.specs.Markup.{IsMarkup}
use Rattle.cbor_diag_c.specs.Forms.{IsEdnLine, IsHtmlLines}

-- of no bytes nothing is shown
none_more : (Each : Item → List ℕ → Type 0) (items : List Item) (text : List ℕ) → ItemsThen [] items []
    → ShowsEach Each items text → text ≡ []
none_more Each [] text all shown = shown
none_more Each (k ∷ ks) text all shown =
    let none : length all.0 + length all.1 ≡ 0 = sym (length-append all.0 all.1) ∙ ap length (sym all.2) in
    absurd (omega (arith, none, front_length all.0 k all.3))

-- of bytes that are one item only that is shown
pub only : (Each : Item → List ℕ → Type 0) (b : List ℕ) (i : Item) (items : List Item) (text : List ℕ) → IsItem b i
    → ItemsThen b items [] → ShowsEach Each items text → (j : Item) × IsItem b j × Each j text
only Each b i [] text is all shown = absurd (not_empty i (subst (λ (x : List ℕ). IsItem x i) all is))
only Each b i (j ∷ js) text is all shown =
    let none : [] ≡ all.1 = same_rest b all.0 [] all.1 i j is all.3 (append-nil b ∙ all.2) in
    let whole : b ≡ all.0 = all.2 ∙ ap (λ (x : List ℕ). all.0 ++ x) (sym none) ∙ append-nil all.0 in
    let last = none_more Each js shown.1 (subst (λ (x : List ℕ). ItemsThen x js []) (sym none) all.4) shown.4 in
    let same : text ≡ shown.0 = shown.2 ∙ ap (λ (x : List ℕ). shown.0 ++ x) last ∙ append-nil shown.0 in (
      j,
      subst (λ (x : List ℕ). IsItem x j) (sym whole) all.3,
      subst (λ (x : List ℕ). Each j x) (sym same) shown.3,
    )

-- the style of lines with notes
abbrev with_style : Form → Bool → Bool → Bool → ℕ → Style
with_style f embedded notes widths columns = record {
  form = f;
  embedded = embedded;
  notes = notes;
  widths = widths;
  columns = columns;
}

pretty : (style : Style) → style.form ≡ form.Pretty → style.embedded ≡ false → style.notes ≡ true
    → style.widths ≡ false → style.columns ≡ 80 → edn_style style ≡ pretty_style
pretty style f embedded notes widths columns =
    subst (λ (x : Form). edn_style (with_style x style.embedded style.notes style.widths style.columns) ≡ pretty_style)
    (sym f)
    (subst (λ (x : Bool). edn_style (with_style form.Pretty x style.notes style.widths style.columns) ≡ pretty_style)
    (sym embedded)
    (subst (λ (x : Bool). edn_style (with_style form.Pretty false x style.widths style.columns) ≡ pretty_style)
    (sym notes)
    (subst (λ (x : Bool). edn_style (with_style form.Pretty false true x style.columns) ≡ pretty_style) (sym widths)
    (subst (λ (x : ℕ). edn_style (with_style form.Pretty false true false x) ≡ pretty_style) (sym columns) refl))))

-- what is shown of an item in that style is its EDN
pub edn_line : (show : Show) (i : Item) (text : List ℕ) → steps_of show ≡ [] → show.style.form ≡ form.Pretty
    → show.names ≡ None → edn_style show.style ≡ pretty_style → Shows show i text → IsEdnLine true i text
edn_line show i text whole f none style h =
    let all = subst (λ (steps : List Step). ShowsPart show steps i text) whole h in
    let lines = subst (λ (x : Form). IsFormOf x show.names (edn_style show.style) i text) f all in
    let bare = subst (λ (x : Option Naming). IsFormOf form.Pretty x (edn_style show.style) i text) none lines in
    let line = subst (λ (x : EdnStyle). IsFormOf form.Pretty None x i text) style bare in
    (line.2, subst (λ (notes : List Note). IsNotedText pretty_style notes i line.2) line.1 line.4, line.3)

pub pretty_line : (show : Show) (i : Item) (text : List ℕ) → steps_of show ≡ [] → show.style.form ≡ form.Pretty
    → show.names ≡ None → show.style.embedded ≡ false → show.style.notes ≡ true → show.style.widths ≡ false
    → show.style.columns ≡ 80 → Shows show i text → IsEdnLine true i text
pretty_line show i text whole f none embedded notes widths columns h =
    edn_line show i text whole f none (pretty show.style f embedded notes widths columns) h

-- the lines of bytes that are one item, all of which were used
pub lines_of : (show : Show) (b : List ℕ) (i : Item) (used : ℕ) (new : List ℕ) → IsItem b i → used ≡ length b
    → steps_of show ≡ [] → show.style.form ≡ form.Pretty → show.names ≡ None → show.style.embedded ≡ false
    → show.style.notes ≡ true → show.style.widths ≡ false → show.style.columns ≡ 80
    → (text added : List ℕ) × (new ≡ added) × IsShownOfFirst (Shows show) b text (drop used b)
    × IsMarkup text (take used b) added
    → (j : Item) × IsItem b j × IsHtmlLines j new
lines_of show b i used new is whole steps f none embedded notes widths columns h =
    let rest : drop used b ≡ [] = drop_all used b (omega (arith, whole)) in
    let all : take used b ≡ b = take_all used b (omega (arith, whole)) in
    let items = subst (λ (x : List ℕ). ItemsThen b h.3.items x) rest h.3.input_is in
    let shown = only (Shows show) b i h.3.items h.0 is items h.3.output_is in
    let markup = subst (λ (x : List ℕ). IsMarkup h.0 x h.1) all h.4 in
    let line = pretty_line show shown.0 h.0 steps f none embedded notes widths columns shown.2 in
    (shown.0, shown.1, (b, h.0, shown.1, line, subst (λ (x : List ℕ). IsMarkup h.0 b x) (sym h.2) markup))
