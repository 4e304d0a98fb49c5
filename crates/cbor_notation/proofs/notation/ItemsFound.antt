-- `read_item` reads each item that the grammar has (`Reads`) and leaves the rest of the text, if this rest may follow
-- an item (`Follows`). `notation_of` returns the item if the whole text is one.
use Rattle.std.proofs.Common.{◌≡◌, ℕ, zero, suc, List, [], ◌∷◌, ◌++◌, codes, Option, Some, None, Ok, refl, sym, ap, ◌∙◌}
use Rattle.std.proofs.Common.{subst, inl, inr}
use Rattle.std.proofs.lemmas.List.{append-nil}
use Rattle.cbor_tokens.specs.Token.{nothing}
use Rattle.cbor_grammar.specs.Item as spec
use Rattle.cbor_grammar.specs.Item.{Chunk, Atom, integer, negative, string, chunked_string}
use Rattle.cbor_grammar.specs.Item.{float, simple, Item, atom, array, tagged}
use Rattle.cbor_grammar.specs.declared.strings.StringKind.{StringKind}
use Rattle.cbor_grammar.specs.declared.strings.StringKind.TheVariants.{Bytes, Text}
use Rattle.cbor_grammar.specs.StringKind.{no_chunks}
use Rattle.cbor_grammar.specs.Reading.{Read}
use Rattle.cbor_grammar.specs.Notation.{IsBlank, Opens, StringOf, ChunksOf, ShowsKind, AtomCore, Core, Reads}
use Rattle.cbor_notation.specs.mirror.NotationReading.{skip_blank, string_of, read_string_item}
use Rattle.cbor_notation.specs.mirror.NotationReading.{start_of, read_core, core_of, read_item, notation_of}
use Rattle.cbor_notation.proofs.notation.Ends.{Begins, begins_append, begins_more, core_starts, digits, Follows}
use Rattle.cbor_notation.proofs.notation.Ends.{follows_passed, follows_blank, Starts, starts_passed}
use Rattle.cbor_notation.proofs.notation.Lists.{ReadsAgain, blanked_parts, blanked_stripped}
use Rattle.cbor_notation.proofs.notation.Strings.{string_starts, string_begins, string_starts_core, string_again}
use Rattle.cbor_notation.proofs.notation.Strings.{string_no_word}
use Rattle.cbor_notation.proofs.notation.Chunked.{chunks_again}
use Rattle.cbor_notation.proofs.notation.Numbers.{at_one_of, number_begins, integer_again, negative_again, tag_again}
use Rattle.cbor_notation.proofs.notation.Words.{simple_again, float_again}
use Rattle.cbor_notation.proofs.notation.Containers.{array_again, map_again}

-- ---- what a core begins with

no_chunks_start : (kind : StringKind) → Starts (no_chunks kind)
no_chunks_start Bytes = refl
no_chunks_start Text = refl

atom_starts : (Reads : List ℕ → Item → Type 0) (text : List ℕ) (a : Atom) → AtomCore Reads text a → Starts text
atom_starts Reads text (integer n w) is = begins_more digits core_starts text refl (number_begins text n is.0 is.1)
atom_starts Reads text (negative n w) is = subst Starts (sym is.2) refl
atom_starts Reads text (string kind c) is = string_starts_core Reads kind text c is
atom_starts Reads text (chunked_string kind cs) (inl is) = subst Starts (sym is.1) (no_chunks_start kind)
atom_starts Reads text (chunked_string kind cs) (inr is) = subst Starts (sym is.1.1) refl
atom_starts Reads text (float bits w) is = subst Starts (sym is.1) refl
atom_starts Reads text (simple n) (inl (inl is)) = subst Starts (sym is.0) refl
atom_starts Reads text (simple n) (inl (inr (inl is))) = subst Starts (sym is.0) refl
atom_starts Reads text (simple n) (inl (inr (inr (inl is)))) = subst Starts (sym is.0) refl
atom_starts Reads text (simple n) (inl (inr (inr (inr is)))) = subst Starts (sym is.0) refl
atom_starts Reads text (simple n) (inr is) = subst Starts (sym is.1) refl

opening_starts : (bracket : ℕ) (w : Option _) (opening rest text : List ℕ) → Starts (bracket ∷ [])
    → Opens (bracket ∷ []) w opening → text ≡ opening ++ rest → Starts text
opening_starts bracket (Some w) opening rest text starts opens is =
    subst Starts (sym (is ∙ ap (λ (t : List ℕ). t ++ rest) opens.1)) starts
opening_starts bracket None opening rest text starts opens is =
    subst Starts (sym (is ∙ ap (λ (t : List ℕ). t ++ rest) opens)) starts

core_begins : (Reads : List ℕ → Item → Type 0) (text : List ℕ) (i : Item) → Core Reads text i → Starts text
core_begins Reads text (atom a) is = atom_starts Reads text a is
core_begins Reads text (array is w) h = opening_starts 91 w h.0 h.2.0 text refl h.1 h.2.1
core_begins Reads text (spec.map ps w) h = opening_starts 123 w h.0 h.2.0 text refl h.1 h.2.1
core_begins Reads text (tagged t w i) h =
    subst Starts (sym h.2) (begins_append core_starts h.0 (codes "(" ++ (h.1 ++ codes ")"))
    (begins_more digits core_starts h.0 refl (number_begins h.0 t h.3.0 h.3.1)))

-- ---- a core is read again

-- this item, and a text with a blank before the rest
abbrev Answers : Read Item → Item → List ℕ → Type 0
Answers r i rest = (left : List ℕ) × (r ≡ Ok (i, left)) × (skip_blank left ≡ rest)

module _ (Reads : List ℕ → Item → Type 0) (read : List ℕ → Read Item) (it : ReadsAgain Reads read) where
  string_core : (kind : StringKind) (text : List ℕ) → Begins (string_starts kind) text
      → read_core read text ≡ read_string_item read kind text
  unfolding read_core start_of
  string_core kind [] begins = absurd begins
  string_core Bytes (b ∷ text) begins =
      at_one_of (λ c. core_of read (start_of c) (b ∷ text) text ≡ read_string_item read Bytes (b ∷ text))
      (codes "'<bh") b (refl, (refl, (refl, (refl, tt)))) begins
  string_core Text (b ∷ text) begins =
      at_one_of (λ c. core_of read (start_of c) (b ∷ text) text ≡ read_string_item read Text (b ∷ text))
      (codes "\"") b (refl, tt) begins

  no_chunks_again : (kind : StringKind) (rest : List ℕ)
      → read_core read (no_chunks kind ++ rest) ≡ Ok (atom (chunked_string kind []), rest)
  unfolding read_core start_of
  no_chunks_again Bytes rest = refl
  no_chunks_again Text rest = refl

  string_item_again : (kind : StringKind) (text after rest : List ℕ) (c : Chunk) → StringOf kind Reads text c
      → IsBlank after → Follows rest → read_core read (text ++ (after ++ rest)) ≡ Ok (atom (string kind c), rest)
  string_item_again kind text after rest c is is_blank follows =
      let tail : List ℕ = text ++ (after ++ rest) in
      string_core kind tail
      (begins_append (string_starts kind) text (after ++ rest) (string_begins Reads kind text c is))
      ∙ (ap (string_of read kind tail) (string_no_word Reads kind text after rest c is is_blank follows)
      ∙ rw (string_again Reads read it kind text after rest c is is_blank follows) refl)

  chunked_again : (kind : StringKind) (text rest : List ℕ) (cs : List Chunk) → ChunksOf kind Reads text cs
      → ShowsKind kind cs → read_core read (text ++ rest) ≡ Ok (atom (chunked_string kind cs), rest)
  unfolding read_core start_of
  chunked_again kind text rest cs is shows =
      let c = chunks_again Reads read it kind cs text rest is shows in
      ap (read_core read) c.1 ∙ c.2

  atom_again : (text after rest : List ℕ) (a : Atom) → AtomCore Reads text a → IsBlank after → Follows rest
      → Answers (read_core read (text ++ (after ++ rest))) (atom a) rest
  atom_again text after rest (integer n w) is is_blank follows = (
    after ++ rest,
    integer_again read text (after ++ rest) n w is (follows_blank after rest is_blank follows),
    follows_passed after rest is_blank follows,
  )
  atom_again text after rest (negative n w) is is_blank follows = (
    after ++ rest,
    negative_again read text (after ++ rest) n w is (follows_blank after rest is_blank follows),
    follows_passed after rest is_blank follows,
  )
  atom_again text after rest (string kind c) is is_blank follows =
      (rest, string_item_again kind text after rest c is is_blank follows, follows_passed [] rest nothing follows)
  atom_again text after rest (chunked_string kind cs) (inl is) is_blank follows =
      let again = no_chunks_again kind (after ++ rest) in
      (after ++ rest, rw (is.0, is.1) again, follows_passed after rest is_blank follows)
  atom_again text after rest (chunked_string kind cs) (inr is) is_blank follows = (
    after ++ rest,
    chunked_again kind text (after ++ rest) cs is.1 is.0,
    follows_passed after rest is_blank follows,
  )
  atom_again text after rest (float bits w) is is_blank follows =
      (after ++ rest, float_again read text (after ++ rest) bits w is, follows_passed after rest is_blank follows)
  atom_again text after rest (simple n) is is_blank follows =
      (after ++ rest, simple_again read text (after ++ rest) n is, follows_passed after rest is_blank follows)

  core_again : (text after rest : List ℕ) (i : Item) → Core Reads text i → IsBlank after → Follows rest
      → Answers (read_core read (text ++ (after ++ rest))) i rest
  core_again text after rest (atom a) is is_blank follows = atom_again text after rest a is is_blank follows
  core_again text after rest (array is w) h is_blank follows = (
    after ++ rest,
    array_again Reads read it is w h.0 text (after ++ rest) h.1 h.2,
    follows_passed after rest is_blank follows,
  )
  core_again text after rest (spec.map ps w) h is_blank follows = (
    after ++ rest,
    map_again Reads read it ps w h.0 text (after ++ rest) h.1 h.2,
    follows_passed after rest is_blank follows,
  )
  core_again text after rest (tagged t w i) h is_blank follows = (
    after ++ rest,
    ap (λ (x : List ℕ). read_core read (x ++ (after ++ rest))) h.2
        ∙ tag_again read Reads h.0 h.1 (after ++ rest) t w i it h.3 h.4,
    follows_passed after rest is_blank follows,
  )

-- ---- an item is read again

again_step : (left : ℕ) → ReadsAgain (Reads left) (read_item left) → (text rest : List ℕ) (i : Item)
    → Reads (suc left) text i → Follows rest → read_item (suc left) (text ++ rest) ≡ Ok (i, rest)
unfolding Reads read_item
again_step left it text rest i is follows =
    let starts = begins_append core_starts is.1 (is.2 ++ rest) (core_begins (Reads left) is.1 i is.5) in
    let passed : skip_blank (text ++ rest) ≡ is.1 ++ (is.2 ++ rest) =
    ap skip_blank (blanked_parts text is.0 is.1 is.2 rest is.3)
    ∙ starts_passed is.0 (is.1 ++ (is.2 ++ rest)) is.4 starts in
    let a = core_again (Reads left) (read_item left) it is.1 is.2 rest i is.5 is.6 follows in
    rw (passed, a.1, a.2) refl

nothing_reads : ReadsAgain (Reads zero) (read_item zero)
unfolding Reads
nothing_reads = record { again = λ text rest i is follows. absurd is; stripped = λ text i is. absurd is }

reads_step : (left : ℕ) → ReadsAgain (Reads left) (read_item left)
    → ReadsAgain (Reads (suc left)) (read_item (suc left))
unfolding Reads
reads_step left it = record {
  again = λ text rest i is follows. again_step left it text rest i is follows;
  stripped = λ text i is. blanked_stripped (Core (Reads left)) (core_begins (Reads left)) text i is;
}

pub reads_again : (left : ℕ) → ReadsAgain (Reads left) (read_item left)
reads_again zero = nothing_reads
reads_again (suc left) = reads_step left (reads_again left)

pub item_again : (left : ℕ) (text rest : List ℕ) (i : Item) → Reads left text i → Follows rest
    → read_item left (text ++ rest) ≡ Ok (i, rest)
item_again left text rest i is follows = let it = reads_again left in it.again text rest i is follows

-- a text that is an item is read whole
pub item_whole : (limit : ℕ) (text : List ℕ) (i : Item) → Reads limit text i → read_item limit text ≡ Ok (i, [])
item_whole limit text i is = ap (read_item limit) (sym (append-nil text)) ∙ item_again limit text [] i is tt

-- and answered
pub notation_again : (limit : ℕ) (text : List ℕ) (i : Item) → Reads limit text i → notation_of limit text ≡ Ok i
notation_again limit text i is = let read = item_whole limit text i is in rw read refl
