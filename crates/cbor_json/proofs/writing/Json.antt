-- A text that JSON has for an item that was read (`IsJsonOf`) is a JSON document without hidden characters. It is an
-- `IsJsonText` if no object in it has a key twice, and otherwise the item `HasSameKeys`; in a strict style, only if
-- JSON keeps all of the item. For `bytes_to_json`: what `judge` returned holds for every item or error that the bytes
-- have.
use Rattle.std.proofs.Common.{◌≡◌, ℕ, suc, List, [], ◌∷◌, ◌++◌, Bool, true, false, Some, Result, Ok, Err, IfOk, IsTrue}
use Rattle.std.proofs.Common.{◌≢◌, ◌⊎◌, ◌↔◌, ◌∙◌, ap, inl, refl, sym, subst}
use Rattle.std.specs.List.{AllByRecursion}
use Rattle.json.specs.Json.{Json, document}
use Rattle.json.specs.Strict.{HasUniqueKeys}
use Rattle.cbor_tokens.specs.Hidden.{IsShown}
use Rattle.cbor_tokens.proofs.escaping.Shown.{IsShownChar, is_shown}
use Rattle.cbor_grammar.proofs.bytes.Found.{item_takes}
use Rattle.cbor_grammar.proofs.bytes.Heads.{IsBytes}
use Rattle.cbor_grammar.proofs.bytes.Laws.{AllBytes, all_bytes-front, bytes_at}
use Rattle.cbor_grammar.proofs.bytes.Resolved.{spells_well}
use Rattle.cbor_grammar.proofs.bytes.Outcomes.{no_refused_item}
use Rattle.cbor_grammar.proofs.straight.PublicCalls.{one_item, every_shown, every_refusal}
use Rattle.cbor_grammar.specs.Answer.{OneOutcome}
use Rattle.cbor_grammar.specs.Facts.{IsItem, IsNoItem}
use Rattle.cbor_grammar.specs.declared.error.Error.{Error}
use Rattle.cbor_grammar.specs.declared.error.Error.TheVariants as refusal
use Rattle.cbor_grammar.specs.declared.error.Error.TheVariants.{Memory}
use Rattle.cbor_grammar.specs.Item.{Item}
use Rattle.cbor_grammar.specs.Reading.{read_item}
use Rattle.cbor_grammar.specs.WellFormed.{WellFormed, levels_left}
use Rattle.cbor_grammar.specs.mirror.AtLevel.{read_at}
use Rattle.cbor_notation_writer.specs.Dialect.{TextsAt, TextsOf}
use Rattle.cbor_notation_writer.specs.mirror.Straight.{Written}
use Rattle.cbor_json.specs.JsonLeaves.{json_leaves}
use Rattle.cbor_json.specs.Kept.{IsKept}
use Rattle.cbor_json.specs.Written.{IsOutermost, IsJsonOf, IsJsonText, HasSameKeys, Judges, IsNoJson}
use Rattle.cbor_json.specs.declared.error.JsonError.TheVariants.{Cbor}
use Rattle.cbor_json.specs.declared.judge.Judged.{Judged}
use Rattle.cbor_json.specs.declared.print.place.JsonPlace.{JsonPlace}
use Rattle.cbor_json.specs.declared.style.JsonStyle.{JsonStyle}
use Rattle.cbor_json.specs.mirror.Walking.{IsUnique, UniqueAs, UniqueTexts}
use Rattle.cbor_json.proofs.json.Fills.{NotHidden}
use Rattle.cbor_json.proofs.json.Parts.{Part}
use Rattle.cbor_json.proofs.json.Texts.{text_part}
use Rattle.cbor_json.proofs.json.Tokens.{Reads, reads_document}

pub json_so : {A E : Type 0} (r : Result A E) (style : JsonStyle) (p : JsonPlace) (f : A → List ℕ) (b old new : List ℕ)
    → IsOutermost style p
    → IfOk r (λ x. Written (TextsAt json_leaves p) (read_item 128 b) (f x) old new)
    → IfOk r (λ x. Written (IsJsonOf style) (read_item 128 b) (f x) old new)
json_so (Ok x) style p f b old new here (i, is, t, text, written) =
    (i, is, t, record { place = p; outermost = here; written = text }, written)
json_so (Err e) style p f b old new here h = tt

pub all_bytes : (b : List ℕ) → IsBytes b → AllBytes b
all_bytes [] h = tt
all_bytes (x ∷ b) h = (h 0, all_bytes b (λ i. h (suc i)))

-- an item that is read is well formed
read_well : (b : List ℕ) (i : Item) (rest : List ℕ) → IsBytes b → read_item 128 b ≡ Ok (i, rest) → WellFormed 1 i
read_well b i rest bytes is =
    let s = item_takes 1 128 b i rest refl bytes is in
    let both = all_bytes (s.front ++ rest) (subst IsBytes s.parts bytes) in
    spells_well 1 s.front i (bytes_at s.front (all_bytes-front s.front rest both)) s.spells

shown_chars : (cs : List ℕ) → AllByRecursion NotHidden cs → AllByRecursion (IsShownChar false) cs
shown_chars [] h = tt
shown_chars (c ∷ cs) h = (inl h.0, shown_chars cs h.1)

-- the text of an item is JSON, and no character of it is hidden
pub record IsDocument (t : List ℕ) : Type 0 where
  pub means : Json
  pub is : document t ≡ Some means
  pub shown : IsShown false t

of_reads : (t : List ℕ) → Reads false 128 t → IsDocument t
of_reads t h = record {
  means = h.means;
  is = reads_document t h;
  shown = is_shown false t h.shows.characters h.shows.spelled (shown_chars h.shows.characters h.shows.shown);
}

pub json_is : (style : JsonStyle) (b : List ℕ) (i : Item) (rest t : List ℕ) → IsBytes b
    → read_item 128 b ≡ Ok (i, rest) → IsJsonOf style i t → IsDocument t
json_is style b i rest t bytes is of =
    let here = of.outermost in
    let part = text_part 1 128 refl of.place i t (read_well b i rest bytes is)
    (subst (λ l. TextsOf json_leaves (levels_left l) of.place i t) here.level of.written) in
    of_reads t (subst (λ s. Part false s 128 t) here.role part)

-- the text of an item of which no object has a key twice
pub unique_json : (style : JsonStyle) (b : List ℕ) (i : Item) (rest t : List ℕ) → IsBytes b
    → read_item 128 b ≡ Ok (i, rest) → IsJsonOf style i t → IsUnique t → (IsTrue style.strict → IsKept i)
    → IsJsonText style i t
unique_json style b i rest t bytes is of unique kept =
    let d = json_is style b i rest t bytes is of in
    record { of = of; means = d.means; is = d.is; unique = unique d.means d.is; shown = d.shown; kept = kept }

pub unique_so : (style : JsonStyle) (p : JsonPlace) (b rest new : List ℕ) → IsOutermost style p
    → Written (UniqueTexts (levels_left p.level) p) (read_at p.level b) rest [] new
    → (i : Item) × (read_item 128 b ≡ Ok (i, rest)) × IsJsonOf style i new × IsUnique new
unique_so style p b rest new here (i, is, t, text, written) =
    let of : IsJsonOf style i t = record { place = p; outermost = here; written = text.0 } in
    let alone : IsUnique t = subst (λ s. UniqueAs s t) here.role text.1 in (
      i,
      subst (λ l. read_at l b ≡ Ok (i, rest)) here.level is,
      subst (IsJsonOf style i) (sym written) of,
      subst IsUnique (sym written) alone,
    )

-- ---- what became of an item

module _ (style : JsonStyle) (b : List ℕ) (i : Item) (rest t s : List ℕ) (bytes : IsBytes b)
    (read : read_item 128 b ≡ Ok (i, rest)) (of : IsJsonOf style i t) (same : s ≡ t) (unique : Bool)
    (x : List ℕ) (looked : x ≡ s) (decides : (j : Json) → document x ≡ Some j → (IsTrue unique ↔ HasUniqueKeys j)) where
  pub is_text : unique ≡ true → (IsTrue style.strict → IsKept i) → IsJsonText style i s
  is_text true_is kept =
      let d = json_is style b i rest t bytes read of in
      let is : document s ≡ Some d.means = ap document same ∙ d.is in
      record {
        of = subst (IsJsonOf style i) (sym same) of;
        means = d.means;
        is = is;
        unique = (decides d.means (ap document looked ∙ is)).0 true_is;
        shown = subst (IsShown false) (sym same) d.shown;
        kept = kept;
      }

  pub has_same_keys : unique ≡ false → (IsTrue style.strict → IsKept i) → HasSameKeys style i
  has_same_keys false_is kept =
      let d = json_is style b i rest t bytes read of in
      let is : document s ≡ Some d.means = ap document same ∙ d.is in
      record {
        text = s;
        of = subst (IsJsonOf style i) (sym same) of;
        means = d.means;
        is = is;
        twice = λ h.
            let true_is = (decides d.means (ap document looked ∙ is)).1 h in
            let wrong : false ≡ true = sym false_is ∙ true_is in absurd cc;
        kept = kept;
      }

module _ (style : JsonStyle) (b : List ℕ) (one : OneOutcome 1 b) where
  pub judged_every : (judged : Judged) → (i : Item) × IsItem b i × Judges style judged i → (j : Item) → IsItem b j
      → Judges style judged j
  judged_every judged ok j s = subst (λ k. Judges style judged k) (one_item b ok.0 j one ok.1 s) ok.2

  pub no_refusal : (judged : Judged) → (i : Item) × IsItem b i × Judges style judged i → (e : Error) → IsNoItem b e → ⊥
  no_refusal judged ok e h = no_refused_item 1 b ok.0 e one ok.1 h

  pub no_memory : (e : Error) → (e ≢ Memory → IsNoItem b e) → (i : Item) → IsItem b i → e ≡ Memory
  no_memory e refused i s =
      let r : Result Judged Error = Err e in every_shown b r (λ x j. Judges style x j) one tt refused i s

  pub this_refusal : (e : Error) → (e ≢ Memory → IsNoItem b e) → (f : Error) → IsNoItem b f → (e ≡ f) ⊎ (e ≡ Memory)
  this_refusal e refused f h =
      let r : Result Judged Error = Err e in every_refusal b r (λ x j. Judges style x j) one tt refused f h

pub no_json : (style : JsonStyle) (b : List ℕ) (e : Error) → (e ≢ Memory → IsNoItem b e) → IsNoJson style b (Cbor e)
no_json style b Memory h = tt
no_json style b refusal.Remaining h = h (λ e. absurd cc)
no_json style b e h = h (λ e. absurd cc)
