-- For `parse_diag` and `diag_fault`: if a result is what `notation_of` gives, an item in the result is the only one
-- that the text denotes, with any limit of levels. With `deepest` levels, an error other than out of memory means that
-- the text is no notation; if an item is read with more levels, the error is `TooDeep`.
use Rattle.std.proofs.Common.{◌≡◌, ◌≢◌, ℕ, List, Result, Ok, Err, IfOk, ◌⊎◌, inl, inr, refl, sym, subst, ◌∙◌}
use Rattle.cbor_grammar.specs.declared.error.Error.{Error}
use Rattle.cbor_grammar.specs.declared.error.Error.TheVariants as refusal
use Rattle.cbor_diag.specs.declared.syntax.DataItem.{DataItem}
use Rattle.cbor_grammar.specs.Item.{Item}
use Rattle.cbor_diag.specs.View.{view}
use Rattle.cbor_grammar.specs.WellFormed.{deepest}
use Rattle.cbor_diag.specs.ItemAnswer.{GaveItem}
use Rattle.cbor_grammar.specs.Answer.{RefusedSo}
use Rattle.cbor_grammar.specs.Reading.{Fails, Gives}
use Rattle.cbor_grammar.specs.Notation.{Reads}
use Rattle.cbor_notation.specs.mirror.NotationReading.{notation_of}
use Rattle.cbor_grammar.specs.NotationRefused.{IsNoNotation, IsAnswered}
use Rattle.cbor_diag.specs.ItemAnswer.{GaveOrTooDeep}
use Rattle.cbor_notation.proofs.notation.ItemsFound.{notation_again}
use Rattle.cbor_notation.proofs.notation.OneReading.{one_reading, read_or_too_deep}
use Rattle.cbor_notation.proofs.notation.sound.Items.{notation_sound}
use Rattle.cbor_notation.proofs.notation.OneReading.{no_both}

-- a refusal that was given is out of memory, or what reading answers
failed : (e : Error) (read : Result Item Error) → Fails e read → (e ≡ refusal.Memory) ⊎ (read ≡ Err e)
failed refusal.Memory read h = inl refl
failed _ read h = inr h

item_of : (i j : Item) (read : Result Item Error) → read ≡ Ok i → read ≡ Ok j → i ≡ j
item_of i j read is other = let same : ◌≡◌ {A = Result Item Error} (Ok i) (Ok j) = sym is ∙ other in cc same

error_of : (e d : Error) (read : Result Item Error) → read ≡ Err e → read ≡ Err d → e ≡ d
error_of e d read is other = let same : ◌≡◌ {A = Result Item Error} (Err e) (Err d) = sym is ∙ other in cc same

module _ (limit : ℕ) (text : List ℕ) where
  pub text_is : (r : Result DataItem Error) → Gives view r (notation_of limit text)
      → IfOk r (λ x. Reads limit text (view x))
  text_is (Ok x) h = subst (IsAnswered limit text) h (notation_sound limit text)
  text_is (Err e) h = tt

  pub gave_text : (r : Result DataItem Error) (i : Item) → Gives view r (notation_of limit text) → Reads limit text i
      → GaveItem r i
  gave_text (Ok x) i h is = item_of (view x) i (notation_of limit text) h (notation_again limit text i is)
  gave_text (Err e) i h is =
      elim (failed e (notation_of limit text) h) [
        | inl memory ↦ memory
        | inr other ↦ absurd (no_both i e (notation_of limit text) (notation_again limit text i is) other)
      ]

  pub only_item : (r : Result DataItem Error) → Gives view r (notation_of limit text)
      → IfOk r (λ x. (other : ℕ) (j : Item) → Reads other text j → j ≡ view x)
  only_item (Ok x) h = λ other j is. one_reading other limit text j (view x) is
      (subst (IsAnswered limit text) h (notation_sound limit text))
  only_item (Err e) h = tt

  pub larger_limit : (r : Result DataItem Error) (larger : ℕ) (i : Item) → Gives view r (notation_of limit text)
      → Reads larger text i → GaveOrTooDeep limit text r i
  larger_limit (Ok x) larger i h is =
      elim (read_or_too_deep limit larger text i is) [
        | inl deep ↦ absurd (no_both (view x) refusal.TooDeep (notation_of limit text) h deep)
        | inr found ↦ item_of (view x) i (notation_of limit text) h found
      ]
  larger_limit (Err e) larger i h is =
      elim (failed e (notation_of limit text) h) [
        | inl memory ↦ inl memory
        | inr other ↦ elim (read_or_too_deep limit larger text i is) [
          | inl deep ↦ inr (
            error_of e refusal.TooDeep (notation_of limit text) other deep,
            λ read. no_both i refusal.TooDeep (notation_of limit text) (notation_again limit text i read) deep,
          )
          | inr found ↦ absurd (no_both i e (notation_of limit text) found other)
        ]
      ]

pub text_refused : (text : List ℕ) (r : Result DataItem Error) → Gives view r (notation_of deepest text)
    → RefusedSo r (IsNoNotation text)
text_refused text (Ok x) h = tt
text_refused text (Err e) h =
    elim (failed e (notation_of deepest text) h) [
      | inl memory ↦ λ ample. absurd (ample memory)
      | inr is ↦ λ ample. record {
        says = subst (IsAnswered deepest text) is (notation_sound deepest text);
        none = λ i read. no_both i e (notation_of deepest text) (notation_again deepest text i read) is;
        deeper = λ limit i read. elim (read_or_too_deep deepest limit text i read) [
          | inl deep ↦ error_of e refusal.TooDeep (notation_of deepest text) is deep
          | inr found ↦ absurd (no_both i e (notation_of deepest text) found is)
        ];
      }
    ]

-- what was read of a cursor that begins with a text
pub given : (text rest : List ℕ) (r : Result DataItem Error) → rest ≡ text → Gives view r (notation_of deepest rest)
    → Gives view r (notation_of deepest text)
given text rest r is h = subst (λ (t : List ℕ). Gives view r (notation_of deepest t)) is h

-- what an error says about a text that is not notation
pub no_notation : (text rest : List ℕ) (e : Error) → rest ≡ text → e ≢ refusal.Memory
    → Fails e (notation_of deepest rest) → IsNoNotation text e
no_notation text rest e is real fails =
    text_refused text (Err e) (given text rest (Err e) is fails) real
