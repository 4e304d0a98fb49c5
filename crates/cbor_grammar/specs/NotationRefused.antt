-- `IsNoNotation`: why a text is not an item in diagnostic notation. `MayRefuse`: what each error of a reader says of
-- the text, under a given limit on levels.
use Rattle.std.specs.Prelude.{◌≡◌, ℕ, ◌<◌, ◌≤◌, ◌==◌, ◌||◌, Bool, List, Result, Ok, Err}
use Rattle.std.specs.List.{count_by}
use Rattle.cbor_tokens.specs.Ascii.{quote, parenthesis, less_than, bracket, underscore, brace}
use Rattle.cbor_grammar.specs.declared.error.Error.{Error}
use Rattle.cbor_grammar.specs.declared.error.Error.TheVariants as refusal
use Rattle.cbor_grammar.specs.Item.{Item}
use Rattle.cbor_grammar.specs.WellFormed.{deepest}
use Rattle.cbor_grammar.specs.Notation.{Reads, ReadsUnder, IsNotation}

-- `[`, `{`, `(` and `<`, after which an item may be deeper
abbrev pub is_opening : ℕ → Bool
is_opening b = (b == bracket) || (b == brace) || (b == parenthesis) || (b == less_than)

-- how many of them a text holds
abbrev pub openings : List ℕ → ℕ
openings text = count_by is_opening text

-- the text has this byte
abbrev pub HoldsByte : ℕ → List ℕ → Type 0
HoldsByte byte text = 0 < count_by (λ b. b == byte) text

-- Nesting is too deep only in a text of that many openings, a number is past its width only where an
-- indicator states one, after `_`, and content is not UTF-8 only in a text string, after `"`. Any text
-- may be no notation.
abbrev pub MayRefuse : ℕ → List ℕ → Error → Type 0
MayRefuse levels text refusal.TooDeep = levels ≤ openings text
MayRefuse levels text refusal.PastWidth = HoldsByte underscore text
MayRefuse levels text refusal.Utf8 = HoldsByte quote text
MayRefuse levels text refusal.Notation = Unit {0}
MayRefuse levels text _ = ⊥

-- Why a text is no item that nests as deep as the deepest level: what the error says, that the text is
-- none, and that under any other limit of levels it is none either, or the error is TooDeep.
pub record IsNoNotation (text : List ℕ) (e : Error) : Type 0 where
  pub says : MayRefuse deepest text e
  pub none : (i : Item) → ¬ (IsNotation text i)
  pub deeper : (limit : ℕ) (i : Item) → ReadsUnder limit text i → e ≡ refusal.TooDeep

-- what a reader of a whole text answered holds of it, with `levels` levels
abbrev pub IsAnswered : ℕ → List ℕ → Result Item Error → Type 0
IsAnswered levels text (Ok i) = Reads levels text i
IsAnswered levels text (Err e) = MayRefuse levels text e
