-- In EDN, a float whose bits fit its width is read back with the same encoding (`float_reads`), in each form that it is
-- written in: a decimal number, a word such as `NaN` or `Infinity`, or bits between apostrophes.
use Rattle.std.proofs.Common.{◌≡◌, inl, inr, ℕ, suc, ◌<◌, ◌==◌, Bool, true, false, if◌then◌else◌}
use Rattle.std.proofs.Common.{List, [], ◌∷◌, ◌++◌, length, codes, Option, Some, None, is_some}
use Rattle.std.proofs.Common.{refl, sym, ap, ap₂, subst, ◌∙◌, arith, true≢false, append_assoc, length-append, bytes_eq}
use Rattle.std.proofs.lemmas.Bool.{agree_below_at, cases_Bool}
use Rattle.std.proofs.lemmas.Bool.Decides.{nat_tests}
use Rattle.std.proofs.lemmas.List.{append-nil}
use Rattle.std.proofs.lemmas.Nat.{from_be_bytes-to_be_bytes_2, from_be_bytes-to_be_bytes_4}
use Rattle.std.proofs.lemmas.Nat.{from_be_bytes-to_be_bytes_8}
use Rattle.std.proofs.lemmas.Slice.Eq.{bytes_eq-Decides}
use Rattle.std.specs.Float.Ieee.{Float}
use Rattle.std.specs.Float.Numeral.{scan_numeral}
use Rattle.std.specs.List.{AllByRecursion}
use Rattle.std.specs.Option.{option_or}
use Rattle.hex.specs.Hex.{encode_lower}
use Rattle.ryu.specs.Plain.{IsLaidOutNumber}
use Rattle.cbor_floats.specs.Decimal.{IsDecimal, IsNumber, IsTextOf}
use Rattle.cbor_floats.specs.Value.{value_of, IsEncodingOf, IsShortest}
use Rattle.cbor_floats.specs.declared.float.EncodedFloat.{EncodedFloat}
use Rattle.cbor_floats.specs.declared.float.EncodedFloat.TheVariants.{Half, Single, Double}
use Rattle.cbor_grammar.specs.Item.{Atom, float, simple, Item, atom}
use Rattle.cbor_grammar.specs.NotationText.{float_bits, float_text}
use Rattle.cbor_grammar.specs.WellFormed.{FitsFloat}
use Rattle.cbor_grammar.specs.Written.{encoded, resolve_float}
use Rattle.cbor_grammar.specs.declared.width.FloatWidth.{FloatWidth}
use Rattle.cbor_grammar.specs.declared.width.FloatWidth.TheVariants as width
use Rattle.cbor_grammar.proofs.bytes.Laws.{AllBytes, wide_bytes}
use Rattle.cbor_edn_grammar.specs.Reading.{Read, ◌>>=◌, after_byte}
use Rattle.cbor_edn_grammar.specs.Word.{begins_number, run_len, word_len}
use Rattle.cbor_edn_grammar.specs.Float.{is_decimal, float_width, float_atom, float_in, width_after}
use Rattle.cbor_edn_grammar.specs.Float.{special, name_and_width, digits_and_width, is_special, special_word}
use Rattle.cbor_edn_grammar.specs.Float.{decimal_word}
use Rattle.cbor_edn_grammar.specs.Float.{float_of_bytes, half_of, nearest_single, double_of, shortest_of}
use Rattle.cbor_edn_grammar.specs.Strings.{opening_of, begins_string}
use Rattle.cbor_edn_writer.specs.EdnLeaves.{encoded_float, float_indicator, NumberText, FloatText}
use Rattle.cbor_edn_grammar.specs.Items.{number_item, number_or_tag, read_number, name_item}
use Rattle.cbor_edn_grammar.specs.Items.{read_float, named, other_item, read_item}
use Rattle.cbor_edn_grammar.proofs.Floats.{number_found, number_fits, half_gives, single_gives, double_gives}
use Rattle.cbor_edn_grammar.proofs.Floats.{shortest_gives}
use Rattle.cbor_edn_grammar.proofs.Levels.{core_other}
use Rattle.cbor_edn_writer.proofs.back.Decimals.{IsDecimalRun, IsMark, begins_decimal, laid_out_run, laid_out_begins}
use Rattle.cbor_edn_writer.proofs.back.Decimals.{decimal_run_len, name_of_decimal, digits_of_decimal, cut_front}
use Rattle.cbor_edn_grammar.proofs.Hex.{hex_read}
use Rattle.cbor_edn_writer.proofs.back.Names.{name_alone}
use Rattle.cbor_edn_writer.proofs.back.Reads.{is_ended, Follows, begins_item, IsBegun, ReadsAs}
use Rattle.cbor_edn_grammar.proofs.Words.{ended_stops, no_byte, IsWord, word_front, word_rest}

-- ---- a number that is an item by itself

begins_low : (b : ℕ) → begins_decimal b ≡ true → b < 58
begins_low b e = grind (arith, nat_tests)

no_string : (b : ℕ) (text : List ℕ) → begins_decimal b ≡ true → begins_string (b ∷ text) ≡ false
unfolding opening_of
no_string b text e =
    sym (ap (λ t. if t then begins_string (b ∷ text) else false) e)
    ∙ agree_below_at (λ k. if begins_decimal k then begins_string (k ∷ text) else false) (λ k. false) 58 b refl
    (begins_low b e)

number_begins : (b : ℕ) (text : List ℕ) → begins_decimal b ≡ true → begins_number (b ∷ text) ≡ true
number_begins b text e = grind (arith, nat_tests)

other_number : (left : ℕ) (read : List ℕ → Read Item) (b : ℕ) (text : List ℕ) → begins_decimal b ≡ true
    → other_item left read (b ∷ text) ≡ read_number left read (b ∷ text)
other_number left read b text e =
    let low : b < 58 = begins_low b e in
    let bracket : (b == 91) ≡ false = grind (arith, nat_tests) in
    let brace : (b == 123) ≡ false = grind (arith, nat_tests) in
    let parenthesis : (b == 40) ≡ false = grind (arith, nat_tests) in
    rw (bracket, brace, parenthesis, number_begins b text e) refl

number_reads : (left b : ℕ) (later rest : List ℕ) (i : Item) → begins_decimal b ≡ true → IsWord (b ∷ later)
    → number_item left (b ∷ later) ≡ Some i → is_ended rest ≡ true
    → read_item (suc left) ((b ∷ later) ++ rest) ≡ Some (i, rest)
number_reads left b later rest i e is item end =
    let word : List ℕ = b ∷ later in
    let stop = ended_stops rest end in
    core_other (suc left) left (word ++ rest) (omega arith) (no_string b (later ++ rest) e)
    ∙ other_number left (read_item left) b (later ++ rest) e
    ∙ ap₂ (λ word after. number_or_tag left (read_item left) word after (after_byte 40 after))
    (word_front word rest is stop) (word_rest word rest is stop)
    ∙ ap (number_or_tag left (read_item left) word rest) (no_byte 40 rest refl end)
    ∙ ap (λ n. n >>= λ i. Some (i, rest)) item

-- ---- the mark of a width

abbrev mark_of : Option FloatWidth → List ℕ
mark_of None = []
mark_of (Some w) = float_indicator w

abbrev marked_width : Option FloatWidth → FloatWidth
marked_width None = width.Unknown
marked_width (Some w) = resolve_float w

mark_width : (m : Option FloatWidth) → width_after (mark_of m) ≡ Some (marked_width m)
mark_width None = refl
mark_width (Some width.Unknown) = refl
mark_width (Some width.Sixteen) = refl
mark_width (Some width.ThirtyTwo) = refl
mark_width (Some width.SixtyFour) = refl

mark_is : (m : Option FloatWidth) → IsMark (λ b. b == 95) (mark_of m)
mark_is None = tt
mark_is (Some width.Unknown) = refl
mark_is (Some width.Sixteen) = refl
mark_is (Some width.ThirtyTwo) = refl
mark_is (Some width.SixtyFour) = refl

mark_run : (m : Option FloatWidth) (number signed : Bool) → run_len number signed (mark_of m) ≡ length (mark_of m)
mark_run None number signed = refl
mark_run (Some width.Unknown) number signed = refl
mark_run (Some width.Sixteen) number signed = refl
mark_run (Some width.ThirtyTwo) number signed = refl
mark_run (Some width.SixtyFour) number signed = refl

-- ---- the words for what is no finite number

-- no `_` is in the text
abbrev IsPlain : List ℕ → Type 0
IsPlain text = AllByRecursion (λ b. (b == 95) ≡ false) text

module _ (m : Option FloatWidth) (text : List ℕ) (plain : IsPlain text) (is : special text ≡ Some text) where
  word_parts : name_and_width (text ++ mark_of m) ≡ (text, mark_of m)
  word_parts = cut_front (λ b. b == 95) text (mark_of m) plain (mark_is m)

  word_special : is_special (text ++ mark_of m) ≡ true
  word_special = ap (λ c. is_some (special c.0)) word_parts ∙ ap is_some is

  word_found : (a : Atom) → float_in (marked_width m) text ≡ Some a → special_word (text ++ mark_of m) ≡ Some a
  word_found a found =
      ap (λ c. special c.0 >>= λ x. width_after c.1 >>= λ width. float_in width x) word_parts
      ∙ ap (λ s. s >>= λ x. width_after (mark_of m) >>= λ width. float_in width x) is
      ∙ ap (λ w. w >>= λ width. float_in width text) (mark_width m) ∙ found

  word_number : (left : ℕ) (a : Atom) → float_in (marked_width m) text ≡ Some a
      → number_item left (text ++ mark_of m) ≡ Some (atom a)
  word_number left a found =
      rw word_special (ap (λ r. r >>= λ a. Some (atom a)) (word_found a found))

  word_name : (a : Atom) → named (text ++ mark_of m) ≡ None → float_in (marked_width m) text ≡ Some a
      → name_item (text ++ mark_of m) ≡ Some (atom a)
  word_name a none found =
      ap (λ n. option_or (n >>= λ n. Some (atom (simple n))) (special_word (text ++ mark_of m) >>= λ a. Some (atom a)))
      none ∙ ap (λ r. r >>= λ a. Some (atom a)) (word_found a found)

-- a text that is read as this item, whatever follows it
record TextReads (left : ℕ) (text : List ℕ) (i : Item) : Type 0 where
  begun : IsBegun text
  read : (rest : List ℕ) → Follows rest → read_item left (text ++ rest) ≡ Some (i, rest)

module _ (left : ℕ) (m : Option FloatWidth) (a : Atom) where
  nan_reads : float_in (marked_width m) (codes "NaN") ≡ Some a
      → TextReads (suc left) (codes "NaN" ++ mark_of m) (atom a)
  nan_reads found =
      let plain : IsPlain (codes "NaN") = (refl, (refl, (refl, tt))) in
      let is : IsWord (codes "NaN" ++ mark_of m) = record {
        some = omega arith;
        run = ap (λ n. suc (suc (suc n))) (mark_run m false false);
      } in
      record {
        begun = refl;
        read = λ rest f. name_alone left (codes "NaN" ++ mark_of m) rest (atom a) refl is refl f.ended
            (word_name m (codes "NaN") plain refl a refl found);
      }

  infinity_reads : float_in (marked_width m) (codes "Infinity") ≡ Some a
      → TextReads (suc left) (codes "Infinity" ++ mark_of m) (atom a)
  infinity_reads found =
      let plain : IsPlain (codes "Infinity") =
      (refl, (refl, (refl, (refl, (refl, (refl, (refl, (refl, tt)))))))) in
      let is : IsWord (codes "Infinity" ++ mark_of m) = record {
        some = omega arith;
        run = ap (λ n. suc (suc (suc (suc (suc (suc (suc (suc n)))))))) (mark_run m false false);
      } in
      record {
        begun = refl;
        read = λ rest f. name_alone left (codes "Infinity" ++ mark_of m) rest (atom a) refl is refl f.ended
            (word_name m (codes "Infinity") plain refl a refl found);
      }

  minus_infinity_reads : float_in (marked_width m) (codes "-Infinity") ≡ Some a
      → TextReads (suc left) (codes "-Infinity" ++ mark_of m) (atom a)
  minus_infinity_reads found =
      let plain : IsPlain (codes "-Infinity") =
      (refl, (refl, (refl, (refl, (refl, (refl, (refl, (refl, (refl, tt))))))))) in
      let is : IsWord (codes "-Infinity" ++ mark_of m) = record {
        some = omega arith;
        run = ap (λ n. suc (suc (suc (suc (suc (suc (suc (suc (suc n))))))))) (mark_run m true false);
      } in
      record {
        begun = refl;
        read = λ rest f. number_reads left 45 (codes "Infinity" ++ mark_of m) rest (atom a) refl is
            (word_number m (codes "-Infinity") plain refl left a found) f.ended;
      }

-- ---- decimal numbers

is_decimal_text : (text : List ℕ) → IsDecimal text → is_decimal text ≡ true
is_decimal_text text d = grind (arith, nat_tests, d.whole, d.digits, d.marked)

no_words : (is_decimal (codes "NaN") ≡ false) × (is_decimal (codes "nan") ≡ false)
    × (is_decimal (codes "Infinity") ≡ false) × (is_decimal (codes "inf") ≡ false)
    × (is_decimal (codes "-Infinity") ≡ false) × (is_decimal (codes "-inf") ≡ false)
unfolding scan_numeral
no_words = (refl, refl, refl, refl, refl, refl)

other_word : (text word : List ℕ) → is_decimal text ≡ true → is_decimal word ≡ false → bytes_eq text word ≡ false
other_word text word e none = elim (cases_Bool (bytes_eq text word)) [
  | inl same ↦ absurd (true≢false (sym e ∙ ap is_decimal ((bytes_eq-Decides text word).0 same) ∙ none))
  | inr other ↦ other
]

none_special : (text : List ℕ) → is_decimal text ≡ true → special text ≡ None
none_special text e =
    rw (
      other_word text (codes "NaN") e no_words.0,
      other_word text (codes "nan") e no_words.1,
      other_word text (codes "Infinity") e no_words.2,
      other_word text (codes "inf") e no_words.3,
      other_word text (codes "-Infinity") e no_words.4,
      other_word text (codes "-inf") e no_words.5,
    ) refl

module _ (left : ℕ) (m : Option FloatWidth) (text : List ℕ) (decimal : is_decimal text ≡ true)
    (run : IsDecimalRun true text) where
  decimal_none : is_special (text ++ mark_of m) ≡ false
  decimal_none =
      ap (λ c. is_some (special c.0)) (name_of_decimal text (mark_of m) run (mark_is m))
      ∙ ap is_some (none_special text decimal)

  decimal_is : is_decimal (digits_and_width (text ++ mark_of m)).0 ≡ true
  decimal_is = ap (λ c. is_decimal c.0) (digits_of_decimal text (mark_of m) run (mark_is m)) ∙ decimal

  decimal_found : (a : Atom) → float_in (marked_width m) text ≡ Some a → decimal_word (text ++ mark_of m) ≡ Some a
  decimal_found a found =
      ap (λ c. width_after c.1 >>= λ width. float_in width c.0) (digits_of_decimal text (mark_of m) run (mark_is m))
      ∙ ap (λ w. w >>= λ width. float_in width text) (mark_width m) ∙ found

  decimal_item : (a : Atom) → float_in (marked_width m) text ≡ Some a
      → number_item left (text ++ mark_of m) ≡ Some (atom a)
  decimal_item a found =
      rw (decimal_none, decimal_is, decimal_found a found) refl

  decimal_whole : run_len true true (text ++ mark_of m) ≡ length (text ++ mark_of m)
  decimal_whole =
      decimal_run_len true text (mark_of m) (length (mark_of m)) run (mark_run m true)
      ∙ sym (length-append text (mark_of m))

begun_by : (b : ℕ) → begins_decimal b ≡ true → begins_item b ≡ true
begun_by b e = grind (arith, nat_tests)

-- a number that begins with this byte
decimal_at : (left b : ℕ) (later : List ℕ) (i : Item) → begins_decimal b ≡ true
    → run_len true true (b ∷ later) ≡ length (b ∷ later) → number_item left (b ∷ later) ≡ Some i
    → TextReads (suc left) (b ∷ later) i
decimal_at left b later i e whole item =
    let is : IsWord (b ∷ later) = record {
      some = omega arith;
      run = ap (λ t. run_len t t (b ∷ later)) (number_begins b later e) ∙ whole;
    } in
    record { begun = begun_by b e; read = λ rest f. number_reads left b later rest i e is item f.ended }

decimal_reads : (left : ℕ) (m : Option FloatWidth) (a : Atom) (text : List ℕ) → is_decimal text ≡ true
    → IsLaidOutNumber 16 4 text → float_in (marked_width m) text ≡ Some a
    → TextReads (suc left) (text ++ mark_of m) (atom a)
decimal_reads left m a text decimal laid found =
    let b = laid_out_begins text laid in
    let run = laid_out_run text laid in
    let same : text ++ mark_of m ≡ b.0 ∷ (b.1 ++ mark_of m) = ap (λ t. t ++ mark_of m) b.2 in
    subst (λ t. TextReads (suc left) t (atom a)) (sym same) (decimal_at left b.0 (b.1 ++ mark_of m) (atom a) b.3
    (subst (λ t. run_len true true t ≡ length t) same (decimal_whole left m text decimal run))
    (subst (λ t. number_item left t ≡ Some (atom a)) same (decimal_item left m text decimal run a found)))

-- ---- the text of a number

text_reads : (left : ℕ) (m : Option FloatWidth) (a : Atom) (text : List ℕ) (x : Float) → IsTextOf text x
    → float_in (marked_width m) text ≡ Some a → TextReads (suc left) (text ++ mark_of m) (atom a)
text_reads left m a text x h found = elim h.number [
  | inl (inl e) ↦ rw e.0 (nan_reads left m a (rw e.0 at found))
  | inl (inr (inl e)) ↦ rw e.0 (infinity_reads left m a (rw e.0 at found))
  | inl (inr (inr e)) ↦ rw e.0 (minus_infinity_reads left m a (rw e.0 at found))
  | inr finite ↦ decimal_reads left m a text (is_decimal_text text finite.0) (h.layout finite.2) found
]

float_found : (text : List ℕ) (x : Float) (f : EncodedFloat) → IsNumber text x → IsEncodingOf f x
    → float_in (float_width f) text ≡ Some (float_atom f)
unfolding float_in nearest_single
float_found text x (Half bits) n h =
    ap (λ r. r >>= λ x. half_of x >>= λ f. Some (float_atom f)) (number_found text x n)
    ∙ ap (λ r. r >>= λ f. Some (float_atom f)) (half_gives x (Some bits) (number_fits text x n) h)
float_found text x (Single bits) n h =
    ap (λ r. r >>= λ x. nearest_single text x >>= λ f. Some (float_atom f)) (number_found text x n)
    ∙ rw (single_gives x (Some bits) (number_fits text x n) h) refl
float_found text x (Double bits) n h =
    ap (λ r. r >>= λ x. Some (float_atom (double_of x))) (number_found text x n)
    ∙ ap (λ f. Some (float_atom f)) (sym (double_gives x (Double bits) (number_fits text x n) h refl))

shortest_found : (text : List ℕ) (x : Float) (f : EncodedFloat) → IsNumber text x → IsShortest f x
    → float_in width.Unknown text ≡ Some (float_atom f)
unfolding float_in
shortest_found text x f n h =
    ap (λ r. r >>= λ x. Some (float_atom (shortest_of x))) (number_found text x n)
    ∙ ap (λ f. Some (float_atom f)) (sym (shortest_gives x f (number_fits text x n) h))

stated_width : (bits : ℕ) (w : FloatWidth) → float_width (encoded_float bits w) ≡ resolve_float w
stated_width bits width.Unknown = refl
stated_width bits width.Sixteen = refl
stated_width bits width.ThirtyTwo = refl
stated_width bits width.SixtyFour = refl

-- ---- bits

bits_found : (bits : ℕ) (w : FloatWidth) → FitsFloat w bits
    → float_of_bytes (float_bits bits w) ≡ Some (float_atom (encoded_float bits w))
bits_found bits width.Unknown fits = ap (λ n. Some (float n width.SixtyFour)) (from_be_bytes-to_be_bytes_8 bits fits)
bits_found bits width.Sixteen fits = ap (λ n. Some (float n width.Sixteen)) (from_be_bytes-to_be_bytes_2 bits fits)
bits_found bits width.ThirtyTwo fits = ap (λ n. Some (float n width.ThirtyTwo)) (from_be_bytes-to_be_bytes_4 bits fits)
bits_found bits width.SixtyFour fits = ap (λ n. Some (float n width.SixtyFour)) (from_be_bytes-to_be_bytes_8 bits fits)

bits_bytes : (bits : ℕ) (w : FloatWidth) → AllBytes (float_bits bits w)
bits_bytes bits width.Unknown = wide_bytes bits
bits_bytes bits width.Sixteen = (omega arith, (omega arith, tt))
bits_bytes bits width.ThirtyTwo = (omega arith, (omega arith, (omega arith, (omega arith, tt))))
bits_bytes bits width.SixtyFour = wide_bytes bits

-- after the prefix come the bits
prefix_reads : (left : ℕ) (text : List ℕ) → read_item (suc left) (codes "float'" ++ text) ≡ read_float text
unfolding opening_of word_len
prefix_reads left text = core_other (suc left) left (codes "float'" ++ text) (omega arith) refl

-- ---- floats

same_float : (bits : ℕ) (w : FloatWidth)
    → encoded (atom (float_atom (encoded_float bits w))) ≡ encoded (atom (float bits w))
same_float bits width.Unknown = refl
same_float bits width.Sixteen = refl
same_float bits width.ThirtyTwo = refl
same_float bits width.SixtyFour = refl

no_note : {left : ℕ} {i j : Item} {text : List ℕ} → TextReads left text j → encoded j ≡ encoded i → ReadsAs left i text
no_note {j = j} {text = text} h same = record {
  item = j;
  core = text;
  note = [];
  parts = sym (append-nil text);
  is_note = inl refl;
  begun = h.begun;
  read = h.read;
  same = same;
}

number_text : (left : ℕ) (all : Bool) (bits : ℕ) (w : FloatWidth) (t : List ℕ) → NumberText all bits w t
    → TextReads (suc left) t (atom (float_atom (encoded_float bits w)))
number_text left all bits w t h =
    let f : EncodedFloat = encoded_float bits w in
    elim h.is [
      | inl e ↦ rw e.0 (text_reads left (Some w) (float_atom f) h.text (value_of f) h.number
          (ap (λ v. float_in v h.text) (sym (stated_width bits w)) ∙ float_found h.text (value_of f) f h.number.number
          h.usual))
      | inr s ↦ rw (s.0, ← (append-nil h.text)) (text_reads left None (float_atom f) h.text (value_of f) h.number
          (shortest_found h.text (value_of f) f h.number.number s.1.1))
    ]

bits_text : (left bits : ℕ) (w : FloatWidth) → FitsFloat w bits
    → TextReads (suc left) (float_text bits w) (atom (float_atom (encoded_float bits w)))
bits_text left bits w fits = record {
  begun = refl;
  read = λ rest f. prefix_reads left ((encode_lower (float_bits bits w) ++ codes "'") ++ rest)
      ∙ ap read_float (append_assoc (encode_lower (float_bits bits w)) (codes "'") rest)
      ∙ ap (λ r. r >>= λ d. float_of_bytes d.0 >>= λ a. Some (atom a, d.1))
      (hex_read (float_bits bits w) rest (bits_bytes bits w))
      ∙ ap (λ r. r >>= λ a. Some (atom a, rest)) (bits_found bits w fits);
}

pub float_reads : (left : ℕ) (all : Bool) (bits : ℕ) (w : FloatWidth) (t : List ℕ) → FitsFloat w bits
    → FloatText all bits w t → ReadsAs (suc left) (atom (float bits w)) t
float_reads left all bits w t fits h = elim h [
  | inl number ↦ no_note (number_text left all bits w t number) (same_float bits w)
  | inr e ↦ rw e.1 (no_note (bits_text left bits w fits) (same_float bits w))
]
