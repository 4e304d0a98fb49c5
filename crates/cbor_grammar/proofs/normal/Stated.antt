-- In an item that bytes spell, integers, tags and floats have stated widths (`Stated`), and in its normal form they
-- have, too. `resolve` does not change the compact text (`text_at`) of a `Stated` item, nor its normal form
-- (`normal_at`) if the item is also well formed: neither contains the widths of lengths.
use Rattle.std.proofs.Common.{◌≡◌, ℕ, zero, suc, ◌+◌, List, [], ◌∷◌, ◌++◌, map, codes, Option, Some, None}
use Rattle.std.proofs.Common.{refl, ap, arith}
use Rattle.cbor_grammar.specs.declared.width.IntegerWidth.{IntegerWidth}
use Rattle.cbor_grammar.specs.declared.width.IntegerWidth.TheVariants.{Unknown}
use Rattle.cbor_grammar.specs.declared.width.FloatWidth.{FloatWidth}
use Rattle.cbor_grammar.specs.declared.width.FloatWidth.TheVariants as float_width
use Rattle.cbor_grammar.specs.declared.encoding.Encoding.{Encoding}
use Rattle.cbor_grammar.specs.Context.{Context}
use Rattle.cbor_grammar.specs.declared.layout.Layout.TheVariants.{Compact}
use Rattle.cbor_grammar.specs.declared.layout.ContainerStyle.TheVariants as style
use Rattle.cbor_grammar.specs.Item as spec
use Rattle.cbor_grammar.specs.Item.{Chunk, Atom, integer, negative, string, chunked_string}
use Rattle.cbor_grammar.specs.Item.{float, simple, Item, atom, array, tagged, Items, no_items, item, Pairs, no_pairs}
use Rattle.cbor_grammar.specs.Item.{pair}
use Rattle.cbor_grammar.specs.Head.{FitsStated}
use Rattle.cbor_grammar.specs.WellFormed.{WellFormed, WellFormedItems, WellFormedPairs}
use Rattle.cbor_grammar.specs.Bytes.{any, SpellsAtom, SpellsFloat, Spells, SpellsItems, SpellsPairs}
use Rattle.cbor_grammar.specs.Written.{resolve_chunk, resolve_float, resolve_atom, resolve, resolve_items}
use Rattle.cbor_grammar.specs.Written.{resolve_pairs}
use Rattle.cbor_grammar.specs.declared.strings.StringKind.TheVariants.{Bytes, Text}
use Rattle.cbor_grammar.specs.StringKind.{no_chunks}
use Rattle.cbor_grammar.specs.NotationText.{number, bracketed, float_text, encoding_below, item_texts, pair_texts}
use Rattle.cbor_grammar.specs.NotationText.{string_text, chunks_listed, atom_text, text_with, text_at}
use Rattle.cbor_grammar.specs.Normal.{normal_width, normal_chunk, normal_items, normal_pairs}
use Rattle.cbor_grammar.specs.Normal.{normal_atom, normal_with, normal_at}
use Rattle.cbor_grammar.proofs.bytes.Strict.{stated_is}
use Rattle.cbor_grammar.proofs.text.Parts.{content_of, well_level}

-- ---- items whose numbers, tags and floats have stated widths, as those that are spelled have

abbrev pub StatedFloat : FloatWidth → Type 0
StatedFloat float_width.Unknown = ⊥
StatedFloat _ = Unit {0}

abbrev pub StatedAtom : Atom → Type 0
StatedAtom (integer n w) = FitsStated w n
StatedAtom (negative n w) = FitsStated w n
StatedAtom (float bits w) = StatedFloat w
StatedAtom _ = Unit {0}

abbrev mutual
  pub Stated : Item → Type 0
  Stated (atom a) = StatedAtom a
  Stated (array is w) = StatedItems is
  Stated (spec.map ps w) = StatedPairs ps
  Stated (tagged t w i) = FitsStated w t × Stated i

  pub StatedItems : Items → Type 0
  StatedItems no_items = Unit {0}
  StatedItems (item i is) = Stated i × StatedItems is

  pub StatedPairs : Pairs → Type 0
  StatedPairs no_pairs = Unit {0}
  StatedPairs (pair k v ps) = Stated k × Stated v × StatedPairs ps

float_stated : (b : List ℕ) (bits : ℕ) (w : FloatWidth) → SpellsFloat b bits w → StatedFloat w
float_stated b bits float_width.Unknown h = h
float_stated b bits _ h = tt

atom_stated : (b : List ℕ) (a : Atom) → SpellsAtom any b a → StatedAtom a
atom_stated b (integer n w) h = h.0
atom_stated b (negative n w) h = h.0
atom_stated b (float bits w) h = float_stated b bits w h
atom_stated b _ h = tt

mutual
  pub spelled_stated : (level : ℕ) (b : List ℕ) (i : Item) → Spells any level b i → Stated i
  spelled_stated level b (atom a) h = atom_stated b a h.1
  spelled_stated level b (array is (Some w)) h = items_stated (level + 1) h.1.1 is [] h.1.3
  spelled_stated level b (array is None) h = items_stated (level + 1) h.1.0 is _ h.1.2
  spelled_stated level b (spec.map ps (Some w)) h = pairs_stated (level + 1) h.1.1 ps [] h.1.3
  spelled_stated level b (spec.map ps None) h = pairs_stated (level + 1) h.1.0 ps _ h.1.2
  spelled_stated level b (tagged t w i) h = (h.1.0, spelled_stated (level + 1) h.1.1 i h.1.3)

  pub items_stated : (level : ℕ) (b : List ℕ) (is : Items) (end : List ℕ) → SpellsItems any level b is end
      → StatedItems is
  items_stated level b no_items end h = tt
  items_stated level b (item i is) end h = (spelled_stated level h.0 i h.3, items_stated level h.1 is end h.4)

  pairs_stated : (level : ℕ) (b : List ℕ) (ps : Pairs) (end : List ℕ) → SpellsPairs any level b ps end → StatedPairs ps
  pairs_stated level b no_pairs end h = tt
  pairs_stated level b (pair k v ps) end h =
      (spelled_stated level h.0 k h.4, spelled_stated level h.1 v h.5, pairs_stated level h.2 ps end h.6)

-- ---- the normal form keeps stated widths

width_kept : (n : ℕ) (w : IntegerWidth) → FitsStated w n → normal_width w n ≡ w
width_kept n Unknown h = absurd h
width_kept n _ h = refl

float_kept : (w : FloatWidth) → StatedFloat w → resolve_float w ≡ w
float_kept float_width.Unknown h = absurd h
float_kept _ h = refl

module _ (left : ℕ) (into : Option ℕ → Item → Item)
    (keeps : (tag : Option ℕ) (i : Item) → Stated i → Stated (into tag i)) where
  pub normal_items_stated : (is : Items) → StatedItems is → StatedItems (normal_items (into None) is)
  normal_items_stated no_items h = tt
  normal_items_stated (item i is) h = (keeps None i h.0, normal_items_stated is h.1)

  normal_pairs_stated : (ps : Pairs) → StatedPairs ps → StatedPairs (normal_pairs (into None) ps)
  normal_pairs_stated no_pairs h = tt
  normal_pairs_stated (pair k v ps) h = (keeps None k h.0, keeps None v h.1, normal_pairs_stated ps h.2)

  normal_atom_stated : (tag : Option ℕ) (a : Atom) → StatedAtom a → StatedAtom (normal_atom left into tag a)
  normal_atom_stated tag (integer n w) h = rw (width_kept n w h) h
  normal_atom_stated tag (negative n w) h = rw (width_kept n w h) h
  normal_atom_stated tag (float bits w) h = rw (float_kept w h) h
  normal_atom_stated tag (string Bytes c) h = tt
  normal_atom_stated tag a h = tt

  normal_with_stated : (tag : Option ℕ) (i : Item) → Stated i → Stated (normal_with left into tag i)
  normal_with_stated tag (atom a) h = normal_atom_stated tag a h
  normal_with_stated tag (array is w) h = normal_items_stated is h
  normal_with_stated tag (spec.map ps w) h = normal_pairs_stated ps h
  normal_with_stated tag (tagged t w i) h = (rw (width_kept t w h.0) h.0, keeps (Some t) i h.1)

pub normal_stated : (left : ℕ) (tag : Option ℕ) (i : Item) → Stated i → Stated (normal_at left tag i)
unfolding normal_at
normal_stated zero tag i h = h
normal_stated (suc left) tag i h = normal_with_stated left (normal_at left) (normal_stated left) tag i h

-- ---- the widths of lengths are in no compact text and in no normal form

abbrev pub at : Encoding → Option ℕ → Context
at e tag = record { layout = Compact; encoding = e; content = content_of tag }

-- what is written of an item
abbrev pub Writer : Type 0
Writer = Context → Item → List ℕ

-- what a change of the chunks keeps of them
pub map_kept : {Y : Type 0} (f : Chunk → Y) (g : Chunk → Chunk) → ((c : Chunk) → f (g c) ≡ f c) → (cs : List Chunk)
    → map f (map g cs) ≡ map f cs
map_kept f g same [] = refl
map_kept f g same (c ∷ cs) = rw (same c, map_kept f g same cs) refl

module _ (left : ℕ) (write : Writer)
    (same : (e : Encoding) (tag : Option ℕ) (i : Item) → Stated i → write (at e tag) (resolve i) ≡ write (at e tag) i)
  where
    pub items_resolved : (e : Encoding) (is : Items) → StatedItems is
        → item_texts (write (at e None)) (resolve_items is)
        ≡ item_texts (write (at e None)) is
    items_resolved e no_items h = refl
    items_resolved e (item i is) h = rw (same e None i h.0, items_resolved e is h.1) refl

    pairs_resolved : (e : Encoding) (between : List ℕ) (ps : Pairs) → StatedPairs ps
        → pair_texts (write (at e None)) between (resolve_pairs ps) ≡ pair_texts (write (at e None)) between ps
    pairs_resolved e between no_pairs h = refl
    pairs_resolved e between (pair k v ps) h =
        rw (same e None k h.0, same e None v h.1, pairs_resolved e between ps h.2) refl

    atom_resolved : (e : Encoding) (tag : Option ℕ) (a : Atom) → StatedAtom a
        → atom_text left write (at e tag) (resolve_atom a) ≡ atom_text left write (at e tag) a
    atom_resolved e tag (integer n w) h = ap (number n) (stated_is w n h)
    atom_resolved e tag (negative n w) h = ap (λ v. codes "-" ++ number (n + 1) v) (stated_is w n h)
    atom_resolved e tag (string Bytes c) h = refl
    atom_resolved e tag (string Text c) h = refl
    atom_resolved e tag (chunked_string kind cs) h = ap (chunks_listed style.Compact (no_chunks kind))
        (map_kept (λ s. string_text kind e s.bytes) resolve_chunk (λ c. refl) cs)
    atom_resolved e tag (float bits w) h = ap (float_text bits) (float_kept w h)
    atom_resolved e tag (simple n) h = refl

    with_resolved : (e : Encoding) (tag : Option ℕ) (i : Item) → Stated i → text_with left write (at e tag) (resolve i)
        ≡ text_with left write (at e tag) i
    with_resolved e tag (atom a) h = atom_resolved e tag a h
    with_resolved e tag (array is (Some w)) h =
        ap (λ ms. bracketed style.Compact (codes "[") ms (codes "]")) (items_resolved e is h)
    with_resolved e tag (array is None) h =
        ap (λ ms. bracketed style.Compact (codes "[_") ms (codes "]")) (items_resolved e is h)
    with_resolved e tag (spec.map ps (Some w)) h =
        ap (λ ms. bracketed style.Compact (codes "{") ms (codes "}")) (pairs_resolved e (codes ":") ps h)
    with_resolved e tag (spec.map ps None) h =
        ap (λ ms. bracketed style.Compact (codes "{_") ms (codes "}")) (pairs_resolved e (codes ":") ps h)
    with_resolved e tag (tagged t w i) h =
        rw (stated_is w t h.0, same (encoding_below t e) (Some t) i h.1) refl

pub text_resolved : (left : ℕ) (e : Encoding) (tag : Option ℕ) (i : Item) → Stated i
    → text_at left (at e tag) (resolve i)
    ≡ text_at left (at e tag) i
unfolding text_at
text_resolved zero e tag i h = refl
text_resolved (suc left) e tag i h = with_resolved left (text_at left) (text_resolved left) e tag i h

module _ (level left : ℕ) (into : Option ℕ → Item → Item)
    (same : (tag : Option ℕ) (i : Item) → WellFormed level i → Stated i → into tag (resolve i) ≡ into tag i) where
  pub normal_items_resolved : (is : Items) → WellFormedItems level is → StatedItems is
      → normal_items (into None) (resolve_items is) ≡ normal_items (into None) is
  normal_items_resolved no_items well h = refl
  normal_items_resolved (item i is) well h = rw (same None i well.0 h.0, normal_items_resolved is well.1 h.1) refl

  normal_pairs_resolved : (ps : Pairs) → WellFormedPairs level ps → StatedPairs ps
      → normal_pairs (into None) (resolve_pairs ps) ≡ normal_pairs (into None) ps
  normal_pairs_resolved no_pairs well h = refl
  normal_pairs_resolved (pair k v ps) well h =
      rw (same None k well.0 h.0, same None v well.1 h.1, normal_pairs_resolved ps well.2 h.2) refl

normal_atom_resolved : (left : ℕ) (into : Option ℕ → Item → Item) (tag : Option ℕ) (a : Atom) → StatedAtom a
    → normal_atom left into tag (resolve_atom a) ≡ normal_atom left into tag a
normal_atom_resolved left into tag (integer n w) h = ap (λ v. integer n (normal_width v n)) (stated_is w n h)
normal_atom_resolved left into tag (negative n w) h = ap (λ v. negative n (normal_width v n)) (stated_is w n h)
normal_atom_resolved left into tag (string Bytes c) h = refl
normal_atom_resolved left into tag (string Text c) h = refl
normal_atom_resolved left into tag (chunked_string kind cs) h =
    ap (chunked_string kind) (map_kept normal_chunk resolve_chunk (λ c. refl) cs)
normal_atom_resolved left into tag (float bits w) h = ap (λ v. float bits (resolve_float v)) (float_kept w h)
normal_atom_resolved left into tag (simple n) h = refl

normal_with_resolved : (level left : ℕ) (into : Option ℕ → Item → Item)
    (same : (tag : Option ℕ) (i : Item) → WellFormed (level + 1) i → Stated i → into tag (resolve i) ≡ into tag i)
    → (tag : Option ℕ) (i : Item) → WellFormed level i → Stated i → normal_with left into tag (resolve i)
    ≡ normal_with left into tag i
normal_with_resolved level left into same tag (atom a) well h = ap atom (normal_atom_resolved left into tag a h)
normal_with_resolved level left into same tag (array is (Some w)) well h =
    ap (λ js. array js (Some Unknown)) (normal_items_resolved (level + 1) left into same is well.2 h)
normal_with_resolved level left into same tag (array is None) well h =
    ap (λ js. array js None) (normal_items_resolved (level + 1) left into same is well.2 h)
normal_with_resolved level left into same tag (spec.map ps (Some w)) well h =
    ap (λ qs. spec.map qs (Some Unknown)) (normal_pairs_resolved (level + 1) left into same ps well.2 h)
normal_with_resolved level left into same tag (spec.map ps None) well h =
    ap (λ qs. spec.map qs None) (normal_pairs_resolved (level + 1) left into same ps well.2 h)
normal_with_resolved level left into same tag (tagged t w i) well h =
    rw (stated_is w t h.0, same (Some t) i well.2 h.1) refl

pub normal_resolved : (level left : ℕ) → level + left ≡ 129 → (tag : Option ℕ) (i : Item) → WellFormed level i
    → Stated i
    → normal_at left tag (resolve i) ≡ normal_at left tag i
unfolding normal_at
normal_resolved level zero levels tag i well h = absurd (omega (arith, well_level level i well))
normal_resolved level (suc left) levels tag i well h =
    normal_with_resolved level left (normal_at left) (normal_resolved (level + 1) left (omega arith)) tag i well h
