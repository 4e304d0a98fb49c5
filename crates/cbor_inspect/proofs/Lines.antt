-- If whole items at the front of the input are shown in EDN, `bytes_of_edn` reads the output back as the encodings of
-- these items, if none has a reserved simple value (`NoneReserved`). These are the bytes of the input if no simple
-- value below 24 takes two bytes there (`IsStrictSequence`).
use Rattle.std.proofs.Common.{◌≡◌, ℕ, ◌≤◌, List, [], ◌∷◌, ◌++◌, length, Option, Some, refl, sym, ap, subst}
use Rattle.std.proofs.Common.{◌∙◌, append_assoc, append-nil, length-append, arith}
use Rattle.std.specs.List.{AllByRecursion}
use Rattle.cbor_grammar.specs.Bytes.{any, Spells}
use Rattle.cbor_grammar.specs.Item.{Item, items_of}
use Rattle.cbor_grammar.specs.Reading.{read_item}
use Rattle.cbor_grammar.specs.WellFormed.{WellFormed}
use Rattle.cbor_grammar.specs.Written.{encoded_items}
use Rattle.cbor_grammar.proofs.bytes.FoundAgain.{item_again}
use Rattle.cbor_grammar.proofs.bytes.Heads.{ok_is}
use Rattle.cbor_grammar.proofs.bytes.Laws.{AllBytes, all_bytes-front, all_bytes-rest, bytes_at}
use Rattle.cbor_grammar.proofs.bytes.Resolved.{spells_well}
use Rattle.cbor_grammar.proofs.bytes.Sizes.{one_byte}
use Rattle.cbor_grammar.proofs.bytes.Strict.{strict_any, strict_only}
use Rattle.cbor_edn_writer.specs.declared.style.EdnStyle.{EdnStyle}
use Rattle.cbor_edn_grammar.specs.Edn.{bytes_of_edn}
use Rattle.cbor_edn_grammar.specs.Reserved.{NoneReserved}
use Rattle.cbor_edn_writer.specs.Written.{IsNotedText}
use Rattle.cbor_edn_writer.proofs.back.Lines.{AreTextsOf, lines_of, lines_back}
use Rattle.cbor_edn_writer.proofs.back.Lines as edn
use Rattle.cbor_edn_writer.proofs.writing.Edn.{text_from}
use Rattle.cbor_inspect.specs.declared.form.Form.{Form}
use Rattle.cbor_inspect.specs.declared.form.Form.TheVariants as form
use Rattle.cbor_inspect.specs.declared.items.Show.{Show}
use Rattle.cbor_inspect.specs.declared.naming.Naming.{Naming}
use Rattle.cbor_paths.specs.declared.step.Step.{Step}
use Rattle.cbor_inspect.specs.Shows.{Shows, steps_of}
use Rattle.cbor_inspect.specs.Forms.{IsEdn, IsForm, IsFormOf, IsLineOf, edn_style}
use Rattle.cbor_inspect.specs.Shows.{ShowsPart}
use Rattle.cbor_paths.specs.Sequence.{ItemsThen, ShowsEach, IsShownOfFirst, AreStrictItems, IsStrictSequence}

-- ---- the items of bytes

-- the item at the front of bytes is one, and what follows it is too
record SameFront (i j : Item) (after later : List ℕ) : Type 0 where
  pub item : i ≡ j
  pub rest : after ≡ later

same_front : (b front after other later : List ℕ) (i j : Item) → b ≡ front ++ after → b ≡ other ++ later
    → Spells any 1 front i → Spells any 1 other j → SameFront i j after later
same_front b front after other later i j is also s t =
    let both = sym (item_again 1 128 front i after refl s) ∙ ap (read_item 128) (sym is ∙ also)
    ∙ item_again 1 128 other j later refl t in
    let same = ok_is (i, after) (j, later) both in
    record { item = ap (λ (x : Item × List ℕ). x.0) same; rest = ap (λ (x : Item × List ℕ). x.1) same }

then_shorter : (b : List ℕ) (is : List Item) (rest : List ℕ) → ItemsThen b is rest → length rest ≤ length b
then_shorter b [] rest is = omega (arith, ap length is)
then_shorter b (i ∷ is) rest (front, after, whole, s, later) =
    omega (arith, then_shorter after is rest later, ap length whole, length-append front after)

-- bytes before the rest are these items, and so no others
pub same_items : (is js : List Item) (b front rest : List ℕ) → b ≡ front ++ rest → ItemsThen b is rest
    → AreStrictItems front js → is ≡ js
same_items [] [] b front rest whole first strict = refl
same_items [] (j ∷ js) b front rest whole first (other, later, is, s, more) =
    absurd (omega (
      arith,
      one_byte 1 other j (strict_any 1 other j s),
      ap length is,
      length-append other later,
      ap length whole,
      ap length first,
      length-append front rest,
    ))
same_items (i ∷ is) [] b front rest whole (other, after, splits, s, later) strict =
    absurd (omega (
      arith,
      one_byte 1 other i s,
      ap length splits,
      length-append other after,
      then_shorter after is rest later,
      ap length whole,
      ap length strict,
      length-append front rest,
    ))
same_items (i ∷ is) (j ∷ js) b front rest whole (first, after, splits, s, later) (other, behind, is_front, t, more) =
    let same = same_front b first after other (behind ++ rest) i j splits
    (whole ∙ ap (λ x. x ++ rest) is_front ∙ append_assoc other behind rest) s (strict_any 1 other j t) in
    ap (λ x. x ∷ is) same.item
    ∙ ap (λ xs. j ∷ xs) (same_items is js after behind rest same.rest later more)

-- so they are encoded
strict_encoded : (b : List ℕ) (is : List Item) → AreStrictItems b is → encoded_items (items_of is) ≡ b
strict_encoded b [] is = sym is
strict_encoded b (i ∷ is) (front, after, whole, s, later) =
    ap (λ e. e ++ encoded_items (items_of is)) (sym (strict_only 1 front i s))
    ∙ ap (λ e. front ++ e) (strict_encoded after is later) ∙ sym whole

-- items that bytes are have an encoding
all_well : (b : List ℕ) (is : List Item) (rest : List ℕ) → AllBytes b → ItemsThen b is rest
    → AllByRecursion (WellFormed 1) is
all_well b [] rest bytes is = tt
all_well b (i ∷ is) rest bytes (front, after, whole, s, later) =
    let both : AllBytes (front ++ after) = subst AllBytes whole bytes in (
      spells_well 1 front i (bytes_at front (all_bytes-front front after both)) s,
      all_well after is rest (all_bytes-rest front after both) later,
    )

-- ---- what is written

edn_line : (f : Form) (named : Option Naming) (style : EdnStyle) (i : Item) (output : List ℕ) → IsEdn f
    → IsFormOf f named style i output → IsLineOf named style i output
edn_line form.Pretty named style i output is h = h
edn_line form.Diag named style i output is h = h
edn_line form.Hex named style i output is h = absurd is
edn_line form.Digits named style i output is h = absurd is
edn_line form.Bytes named style i output is h = absurd is

-- the texts of items, on lines, of which each is one that EDN has for its item with some notes
record TextLines (is : List Item) (written : List ℕ) : Type 0 where
  pub texts : List (List ℕ)
  pub whole : written ≡ lines_of texts
  pub each : AreTextsOf (items_of is) texts

-- of a whole item that item alone is written
whole_shown : (show : Show) (steps : List Step) (i : Item) (output : List ℕ) → steps ≡ []
    → ShowsPart show steps i output → IsForm show i output
whole_shown show steps i output none shown = subst (λ (s : List Step). ShowsPart show s i output) none shown

text_lines : (show : Show) → IsEdn show.style.form → steps_of show ≡ [] → (is : List Item) (b rest written : List ℕ)
    → ItemsThen b is rest → ShowsEach (Shows show) is written → TextLines is written
text_lines show is_edn whole [] b rest written is none = record { texts = []; whole = none; each = tt }
text_lines show is_edn whole (i ∷ is) b rest written (front, after, splits, s, later)
    (first, others, joined, part, more) =
    let one = whole_shown show (steps_of show) i first whole part in
    let line = edn_line show.style.form show.names (edn_style show.style) i first is_edn one in
    let text : List ℕ = line.2 in
    let noted = line.4 in
    let lines = text_lines show is_edn whole is after rest others later more in
    record {
      texts = text ∷ lines.texts;
      whole = joined ∙ ap (λ t. t ++ others) line.3 ∙ ap (λ t. (text ++ 10 ∷ []) ++ t) lines.whole;
      each = (
        (
          noted.place,
          noted.outermost.level,
          text_from line.0 noted.place noted.bytes i text noted.written,
        ),
        lines.each,
      );
    }

pub items_read_back : (show : Show) (input rest written : List ℕ)
    (shown : IsShownOfFirst (Shows show) input written rest) → IsEdn show.style.form → steps_of show ≡ []
    → AllBytes input → AllByRecursion NoneReserved shown.items
    → bytes_of_edn written ≡ Some (encoded_items (items_of shown.items))
items_read_back show input rest written shown is_edn whole bytes free =
    let lines = text_lines show is_edn whole shown.items input rest written shown.input_is shown.output_is in
    let well = all_well input shown.items rest bytes shown.input_is in
    ap bytes_of_edn lines.whole
    ∙ lines_back (items_of shown.items) lines.texts (edn.all_well shown.items well) (edn.all_free shown.items free)
    lines.each

pub bytes_read_back : (show : Show) (front rest written : List ℕ)
    (shown : IsShownOfFirst (Shows show) (front ++ rest) written rest) → IsEdn show.style.form → steps_of show ≡ []
    → AllBytes (front ++ rest) → AllByRecursion NoneReserved shown.items → IsStrictSequence front
    → bytes_of_edn written ≡ Some front
bytes_read_back show front rest written shown edn whole bytes free (js, strict) =
    items_read_back show (front ++ rest) rest written shown edn whole bytes free
    ∙ ap (λ (is : List Item). Some (encoded_items (items_of is)))
    (same_items shown.items js (front ++ rest) front rest refl shown.input_is strict)
    ∙ ap (λ b. Some b) (strict_encoded front js strict)
