-- Dates in EDN: `utf8_text` returns the content if it is UTF-8, and otherwise nothing. `tagged_date` returns nothing if
-- no level is left, and otherwise the item of the date (`date_item`), with one level less, in tag 1.
use Rattle.std.proofs.Common.{◌≡◌, ℕ, zero, suc, List, Some, None, inl, inr, refl, ap, arith, true, false}
use Rattle.std.specs.Str.{is_utf8, IsUtf8}
use Rattle.std.proofs.lemmas.Bool.{cases_Bool}
use Rattle.std.proofs.lemmas.Str.{IsUtf8-from_is_utf8, is_utf8-from_IsUtf8}
use Rattle.cbor_grammar.specs.declared.width.IntegerWidth.TheVariants.{Unknown}
use Rattle.cbor_grammar.specs.Item.{tagged}
use Rattle.cbor_edn_grammar.specs.Reading.{◌>>=◌}
use Rattle.cbor_edn_grammar.specs.Items.{utf8_text, date_item, tagged_date}

pub utf8_yes : (content : List ℕ) → IsUtf8 content → utf8_text content ≡ Some content
unfolding utf8_text
utf8_yes content h = rw (is_utf8-from_IsUtf8 content h) refl

pub utf8_no : (content : List ℕ) → ¬ (IsUtf8 content) → utf8_text content ≡ None
unfolding utf8_text
utf8_no content n = elim (cases_Bool (is_utf8 content)) [
  | inl e ↦ absurd (n (IsUtf8-from_is_utf8 content e))
  | inr e ↦ rw e refl
]

pub utf8_true : (content : List ℕ) → IsUtf8 content → is_utf8 content ≡ true
utf8_true content h = is_utf8-from_IsUtf8 content h

pub utf8_false : (content : List ℕ) → ¬ (IsUtf8 content) → is_utf8 content ≡ false
utf8_false content n = elim (cases_Bool (is_utf8 content)) [
  | inl e ↦ absurd (n (IsUtf8-from_is_utf8 content e))
  | inr e ↦ e
]

pub ruleset utf8_tests = (utf8_true, utf8_false)

pub ruleset utf8_laws = (utf8_yes, utf8_no)

pub tagged_none : (left : ℕ) (content : List ℕ) → left ≡ 0 → tagged_date left content ≡ None
unfolding tagged_date
tagged_none zero content e = refl
tagged_none (suc left) content e = absurd (omega arith)

pub tagged_left : (left inner : ℕ) (content : List ℕ) → left ≡ suc inner
    → tagged_date left content ≡ (date_item inner content >>= λ i. Some (tagged 1 Unknown i))
unfolding tagged_date
tagged_left zero inner content e = absurd (omega arith)
tagged_left (suc left) inner content e =
    let same : left ≡ inner = omega arith in
    ap (λ n. date_item n content >>= λ i. Some (tagged 1 Unknown i)) same
