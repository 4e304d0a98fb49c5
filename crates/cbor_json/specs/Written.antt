-- Which texts may be written as the JSON of an item (`IsJsonText`), why bytes are not written as JSON (`IsNoJson`), and
-- the results of a call that appends such a text (`GaveJson`).
use Rattle.std.specs.Prelude.{◌≡◌, ◌⊎◌, List, ℕ, ◌++◌, false, Option, Some, None, Result, Ok, Err, IsTrue}
use Rattle.std.specs.String.{string_bytes}
use Rattle.json.specs.Json.{Json, document}
use Rattle.json.specs.Strict.{HasUniqueKeys}
use Rattle.cbor_tokens.specs.Hidden.{IsShown}
use Rattle.cbor_grammar.specs.Facts.{IsItem, IsNoItem}
use Rattle.cbor_json.specs.declared.error.JsonError.{JsonError}
use Rattle.cbor_json.specs.declared.error.JsonError.TheVariants.{Cbor, NotKept, SameKeys}
use Rattle.cbor_json.specs.declared.judge.Judged.{Judged}
use Rattle.cbor_json.specs.declared.judge.Judged.TheVariants as judged
use Rattle.cbor_grammar.specs.declared.encoding.Encoding.TheVariants.{Base64Url}
use Rattle.cbor_grammar.specs.declared.error.Error.{Error}
use Rattle.cbor_grammar.specs.declared.error.Error.TheVariants as refusal
use Rattle.cbor_grammar.specs.declared.layout.Layout.TheVariants.{Compact}
use Rattle.cbor_grammar.specs.Answer.{Outcome, spelled, cut, fault}
use Rattle.cbor_grammar.specs.Item.{Item}
use Rattle.cbor_notation_writer.specs.Dialect.{TextsAt}
use Rattle.cbor_json.specs.JsonLeaves.{json_leaves}
use Rattle.cbor_json.specs.Kept.{IsKept, IsLoss}
use Rattle.cbor_json.specs.declared.print.place.JsonPlace.{JsonPlace}
use Rattle.cbor_json.specs.declared.print.place.Role.TheVariants.{Value}
use Rattle.cbor_json.specs.declared.style.JsonStyle.{JsonStyle}

-- the place of the outermost item of a text in this style
pub record IsOutermost (style : JsonStyle) (place : JsonPlace) : Type 0 where
  pub level : place.level ≡ 1
  pub layout : place.layout ≡ Compact
  pub style_is : place.style ≡ style
  pub role : place.role ≡ Value
  pub encoding : place.encoding ≡ Base64Url
  pub tag : place.tag ≡ None

-- The text is one that JSON has for the item: each part of it is what `json_leaves` says.
pub record IsJsonOf (style : JsonStyle) (i : Item) (text : List ℕ) : Type 0 where
  pub place : JsonPlace
  pub outermost : IsOutermost style place
  pub written : TextsAt json_leaves place i text

-- The text is one that JSON has for the item, it is JSON, no object of it has a key twice, and no character of it is
-- hidden. In a strict style JSON keeps all of the item.
pub record IsJsonText (style : JsonStyle) (i : Item) (text : List ℕ) : Type 0 where
  pub of : IsJsonOf style i text
  pub means : Json
  pub is : document text ≡ Some means
  pub unique : HasUniqueKeys means
  pub shown : IsShown false text
  pub kept : IsTrue style.strict → IsKept i

-- In a strict style JSON does not keep all of the item.
pub record IsNotKept (style : JsonStyle) (i : Item) : Type 0 where
  pub strict : IsTrue style.strict
  pub lost : ¬ (IsKept i)

-- Two keys of a map become the same in a text that JSON has for the item. In a strict style JSON keeps all of it: what
-- is not kept comes first.
pub record HasSameKeys (style : JsonStyle) (i : Item) : Type 0 where
  pub text : List ℕ
  pub of : IsJsonOf style i text
  pub means : Json
  pub is : document text ≡ Some means
  pub twice : ¬ (HasUniqueKeys means)
  pub kept : IsTrue style.strict → IsKept i

-- what became of an item
abbrev pub Judges : JsonStyle → Judged → Item → Type 0
Judges style (judged.Text s) i = IsJsonText style i (string_bytes s)
Judges style (judged.NotKept loss) i = IsNotKept style i
Judges style (judged.SameKeys clash) i = HasSameKeys style i

-- the loss of which it tells is the first of these bytes
abbrev pub Tells : List ℕ → Judged → Type 0
Tells b (judged.NotKept loss) = IsLoss b loss
Tells b other = Unit {0}

-- such a text was appended to the old one
abbrev pub AppendsJson : JsonStyle → Item → List ℕ → List ℕ → Type 0
AppendsJson style i old new = (text : List ℕ) × IsJsonText style i text × (new ≡ old ++ text)

-- why the bytes are not written as JSON, out of memory aside
abbrev pub IsNoJson : JsonStyle → List ℕ → JsonError → Type 0
IsNoJson style b (Cbor refusal.Memory) = Unit {0}
IsNoJson style b (Cbor e) = IsNoItem b e
IsNoJson style b (NotKept loss) = IsLoss b loss × (i : Item) × IsItem b i × IsNotKept style i
IsNoJson style b (SameKeys clash) = (i : Item) × IsItem b i × HasSameKeys style i

-- what is not kept is where the error says
abbrev pub IsPlaced : JsonStyle → List ℕ → JsonError → Type 0
IsPlaced style b (NotKept loss) = IsLoss b loss
IsPlaced style b e = Unit {0}

-- the only errors that an item has
abbrev pub IsErrorOf : JsonStyle → Item → JsonError → Type 0
IsErrorOf style i (Cbor e) = e ≡ refusal.Memory
IsErrorOf style i (NotKept loss) = IsNotKept style i
IsErrorOf style i (SameKeys clash) = HasSameKeys style i

-- that error is returned, or memory ran out
abbrev pub IsErrorOr : Error → JsonError → Type 0
IsErrorOr e (Cbor f) = (f ≡ e) ⊎ (f ≡ refusal.Memory)
IsErrorOr e (NotKept loss) = ⊥
IsErrorOr e (SameKeys clash) = ⊥

-- A call that appends the text of the item at the front gave this outcome, and of an item its text after the old one;
-- or JSON does not keep all of it, or two keys become the same, or memory ran out.
abbrev pub GaveJson : JsonStyle → Result (Option ℕ) JsonError → List ℕ → List ℕ → Outcome → Type 0
GaveJson style (Ok (Some n)) old new o = (i : Item) × (o ≡ spelled i n) × AppendsJson style i old new
GaveJson style (Ok None) old new o = o ≡ cut
GaveJson style (Err (Cbor refusal.Memory)) old new o = Unit {0}
GaveJson style (Err (Cbor e)) old new o = o ≡ fault e
GaveJson style (Err (NotKept loss)) old new o = (i : Item) × (n : ℕ) × (o ≡ spelled i n) × IsNotKept style i
GaveJson style (Err (SameKeys clash)) old new o = (i : Item) × (n : ℕ) × (o ≡ spelled i n) × HasSameKeys style i
