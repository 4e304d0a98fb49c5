-- Whole items in JSON: each text that `json_leaves` has for a well-formed item is what its role asks for (`Part`): JSON
-- for a value, a JSON string for a key, and a piece of a string for an item in a key. A value has no object with a key
-- twice if this holds for the items in it and, for a map, its names differ (`unique_part`).
use Rattle.std.proofs.Common.{◌≡◌, ℕ, zero, suc, ◌+◌, ◌<◌, ◌≤◌, ◌^◌, List, [], ◌∷◌, ◌++◌, Bool, true, false, Option}
use Rattle.std.proofs.Common.{Some, None, IsTrue, ◌≢◌, length}
use Rattle.std.proofs.Common.{if◌then◌else◌, codes, refl, sym, ap, subst, ◌∙◌, arith, append-nil}
use Rattle.std.specs.List.{All, AllByRecursion, flat_map}
use Rattle.std.proofs.lemmas.List.Kept.{AllPairs-cons}
use Rattle.json.specs.Json as json
use Rattle.json.specs.Token as tok
use Rattle.json.specs.Token.{Token}
use Rattle.json.specs.Strict.{keys, AreDistinct, ItemsHaveUniqueKeys, MembersHaveUniqueKeys}
use Rattle.json.specs.Tree.{json_tokens, items_tokens, members_tokens, items_depth, members_depth}
use Rattle.cbor_grammar.specs.declared.layout.Content.{Content}
use Rattle.cbor_grammar.specs.declared.layout.Content.TheVariants as shown
use Rattle.cbor_grammar.specs.declared.layout.ContainerStyle.{ContainerStyle}
use Rattle.cbor_grammar.specs.declared.strings.StringKind.{StringKind}
use Rattle.cbor_grammar.specs.declared.strings.StringKind.TheVariants as kind
use Rattle.cbor_grammar.specs.declared.width.IntegerWidth.{IntegerWidth}
use Rattle.cbor_grammar.specs.Embedded.{embedded_at}
use Rattle.cbor_grammar.specs.Head.{FitsWidth}
use Rattle.cbor_grammar.specs.Item as spec
use Rattle.cbor_grammar.specs.Item.{Chunk, Atom, integer, negative, string, chunked_string, float, simple, Item, atom}
use Rattle.cbor_grammar.specs.Item.{array, tagged, Items, no_items, item, Pairs, no_pairs, pair, item_count, pair_count}
use Rattle.cbor_grammar.specs.NotationText.{members_layout}
use Rattle.cbor_grammar.specs.WellFormed.{IsChunk, WellFormedAtom, WellFormed, WellFormedItems, WellFormedPairs}
use Rattle.cbor_grammar.proofs.bytes.Laws.{bytes_at}
use Rattle.cbor_grammar.proofs.bytes.Resolved.{spells_well}
use Rattle.cbor_grammar.proofs.shared.EmbeddedItems.{embedded_spells}
use Rattle.cbor_notation_writer.specs.Dialect.{Writer, listed, ItemTexts, PairTexts, ItemsText, PairsText, OneText}
use Rattle.cbor_notation_writer.specs.Dialect.{EmbeddedText, ContentText, AtomText, TagText, TextWith, TextsOf}
use Rattle.cbor_notation_writer.specs.Dialect.{embedding, count_of, style_at, joined, ChunkedText}
use Rattle.cbor_notation_writer.specs.declared.parts.Container.{Container}
use Rattle.cbor_notation_writer.specs.declared.parts.Container.TheVariants.{Array, Map}
use Rattle.cbor_json.specs.JsonLeaves.{json_leaves, integer_text, is_value}
use Rattle.cbor_json.specs.JsonLeaves.{opening_at, closing_at, StringAt, tag_at, tag_end_at, joins_at}
use Rattle.cbor_json.specs.mirror.Walking.{NamedPairs, UniqueWith}
use Rattle.cbor_json.specs.Roles.{inside_role, next_role, value_role, below_role}
use Rattle.cbor_json.specs.declared.print.place.JsonPlace.{JsonPlace}
use Rattle.cbor_json.specs.declared.print.place.Role.{Role}
use Rattle.cbor_json.specs.declared.print.place.Role.TheVariants as role
use Rattle.cbor_json.proofs.json.Fills.{Fills, fills_then, constant, Shows, shows_then, shows_nothing, all_append}
use Rattle.cbor_json.proofs.json.Braces.{key_in, opens_so, closes_so}
use Rattle.cbor_json.proofs.json.Parts.{Part, leaf_part, string_part, chunks_part, AllFill, listed_fills, key_list}
use Rattle.cbor_json.proofs.json.Parts.{edn_list, integer_fills, below_limit, three}
use Rattle.cbor_json.proofs.json.Opened.{opened, no_sequence}
use Rattle.cbor_json.proofs.json.Strings.{IsString, is_string, same_string}
use Rattle.cbor_json.proofs.json.Tokens.{Takes, Reads, deeper, AllTake, all_tokens, list_takes, pair_takes}

-- ---- arrays and objects

abbrev AllRead : Bool → ℕ → List (List ℕ) → Type 0
AllRead strict left [] = Unit {0}
AllRead strict left (m ∷ ms) = Reads strict left m × AllRead strict left ms

abbrev items_of : (strict : Bool) (left : ℕ) (ms : List (List ℕ)) → AllRead strict left ms → json.Items
items_of strict left [] h = json.no_items
items_of strict left (m ∷ ms) h = json.item h.0.means (items_of strict left ms h.1)

-- a key and its value
record ReadsPair (strict : Bool) (left : ℕ) (m : List ℕ) : Type 0 where
  key : List ℕ
  val : List ℕ
  is : m ≡ key ++ (codes ": " ++ val)
  name : IsString key
  means : Reads strict left val

abbrev AllPairsRead : Bool → ℕ → List (List ℕ) → Type 0
AllPairsRead strict left [] = Unit {0}
AllPairsRead strict left (m ∷ ms) = ReadsPair strict left m × AllPairsRead strict left ms

abbrev members_of : (strict : Bool) (left : ℕ) (ms : List (List ℕ)) → AllPairsRead strict left ms → json.Members
members_of strict left [] h = json.no_members
members_of strict left (m ∷ ms) h = json.member h.0.name.means h.0.means.means (members_of strict left ms h.1)

-- what is shown of members
abbrev AllShow : List (List ℕ) → Type 0
AllShow [] = Unit {0}
AllShow (m ∷ ms) = Shows m × AllShow ms

abbrev comma_unless : Bool → List ℕ
comma_unless first = if first then [] else codes ", "

listed_shows : (ms : List (List ℕ)) → AllShow ms → Shows (listed comma_unless [] ms)
listed_shows [] h = shows_nothing
listed_shows (m ∷ ms) h = shows_then (shows_then h.0 shows_nothing) (others ms h.1)
  where
    others : (ms : List (List ℕ)) → AllShow ms → Shows (flat_map (λ x. codes ", " ++ (x ++ [])) ms)
    others [] h = shows_nothing
    others (m ∷ ms) h =
        shows_then (shows_then {a = codes ", "} (constant (codes ", ") refl).shows (shows_then h.0 shows_nothing))
        (others ms h.1)

module _ (strict : Bool) (left : ℕ) where
  abbrev item_tokens : (ms : List (List ℕ)) → AllRead strict left ms → List (List Token)
  item_tokens [] h = []
  item_tokens (m ∷ ms) h = json_tokens h.0.means ∷ item_tokens ms h.1

  items_low : (ms : List (List ℕ)) (h : AllRead strict left ms) → items_depth (items_of strict left ms h) ≤ left
  items_low [] h = omega arith
  items_low (m ∷ ms) h = omega (arith, h.0.low, items_low ms h.1)

  items_take : (ms : List (List ℕ)) (h : AllRead strict left ms) → AllTake ms (item_tokens ms h)
  items_take [] h = tt
  items_take (m ∷ ms) h = (h.0.takes, items_take ms h.1)

  items_same : (ms : List (List ℕ)) (h : AllRead strict left ms)
      → all_tokens (item_tokens ms h) tok.end_array ≡ items_tokens (items_of strict left ms h)
  items_same [] h = refl
  items_same (m ∷ ms) h = ap (λ x. json_tokens h.0.means ++ x) (items_same ms h.1)

  items_unique : (ms : List (List ℕ)) (h : AllRead strict left ms) → IsTrue strict
      → ItemsHaveUniqueKeys (items_of strict left ms h)
  items_unique [] h asked = tt
  items_unique (m ∷ ms) h asked = (h.0.unique asked, items_unique ms h.1 asked)

  items_show : (ms : List (List ℕ)) → AllRead strict left ms → AllShow ms
  items_show [] h = tt
  items_show (m ∷ ms) h = (h.0.shows, items_show ms h.1)

  abbrev member_tokens : (ms : List (List ℕ)) → AllPairsRead strict left ms → List (List Token)
  member_tokens [] h = []
  member_tokens (m ∷ ms) h = (tok.key h.0.name.means ∷ json_tokens h.0.means.means) ∷ member_tokens ms h.1

  members_low : (ms : List (List ℕ)) (h : AllPairsRead strict left ms)
      → members_depth (members_of strict left ms h) ≤ left
  members_low [] h = omega arith
  members_low (m ∷ ms) h = omega (arith, h.0.means.low, members_low ms h.1)

  members_take : (ms : List (List ℕ)) (h : AllPairsRead strict left ms) → AllTake ms (member_tokens ms h)
  members_take [] h = tt
  members_take (m ∷ ms) h = (
    subst (λ x. Takes x (tok.key h.0.name.means ∷ json_tokens h.0.means.means)) (sym h.0.is)
        (pair_takes left h.0.key h.0.val h.0.name h.0.means),
    members_take ms h.1,
  )

  members_same : (ms : List (List ℕ)) (h : AllPairsRead strict left ms)
      → all_tokens (member_tokens ms h) tok.end_object ≡ members_tokens (members_of strict left ms h)
  members_same [] h = refl
  members_same (m ∷ ms) h =
      ap (λ x. tok.key h.0.name.means ∷ (json_tokens h.0.means.means ++ x)) (members_same ms h.1)

  members_unique : (ms : List (List ℕ)) (h : AllPairsRead strict left ms) → IsTrue strict
      → MembersHaveUniqueKeys (members_of strict left ms h)
  members_unique [] h asked = tt
  members_unique (m ∷ ms) h asked = (h.0.means.unique asked, members_unique ms h.1 asked)

  members_show : (ms : List (List ℕ)) → AllPairsRead strict left ms → AllShow ms
  members_show [] h = tt
  members_show (m ∷ ms) h = (
    subst Shows (sym h.0.is)
        (shows_then h.0.name.shows (shows_then (constant (codes ": ") refl).shows h.0.means.shows)),
    members_show ms h.1,
  )

  -- the names as they are written
  abbrev names_of : (ms : List (List ℕ)) → AllPairsRead strict left ms → List (List ℕ)
  names_of [] h = []
  names_of (m ∷ ms) h = h.0.key ∷ names_of ms h.1

  -- a name that is another's meaning is that name
  name_among : (n : List ℕ) (s : IsString n) (ms : List (List ℕ)) (h : AllPairsRead strict left ms)
      → All (λ x. n ≢ x) (names_of ms h) → All (λ x. s.means ≢ x) (keys (members_of strict left ms h))
  name_among n s [] h other k d less = absurd (omega (arith, less))
  name_among n s (m ∷ ms) h other zero d less = λ same.
      other 0 d (omega arith) (same_string n h.0.key s h.0.name same)
  name_among n s (m ∷ ms) h other (suc k) d less =
      name_among n s ms h.1 (λ j e lt. other (suc j) e (omega (arith, lt))) k d (omega (arith, less))

  -- names that differ mean keys that do
  names_distinct : (ms : List (List ℕ)) (h : AllPairsRead strict left ms) → AreDistinct (names_of ms h)
      → AreDistinct (keys (members_of strict left ms h))
  names_distinct [] h apart = apart
  names_distinct (m ∷ ms) h apart =
      AllPairs-cons (λ a b. a ≢ b) h.0.name.means (keys (members_of strict left ms h.1))
      (name_among h.0.key h.0.name ms h.1 (λ k d lt. apart 0 (suc k) d (omega arith) (omega (arith, lt))))
      (names_distinct ms h.1 (λ i j d lt within. apart (suc i) (suc j) d (omega (arith, lt)) (omega (arith, within))))

  array_reads : (ms : List (List ℕ)) → AllRead strict left ms
      → Reads strict (suc left) (91 ∷ (listed comma_unless [] ms ++ 93 ∷ []))
  array_reads ms h = record {
    means = json.array (items_of strict left ms h);
    unique = items_unique ms h;
    low = omega (arith, items_low ms h);
    takes = subst (λ x. Takes (91 ∷ (listed comma_unless [] ms ++ 93 ∷ [])) (tok.begin_array ∷ x)) (items_same ms h)
        (list_takes true ms (item_tokens ms h) (items_take ms h));
    shows = shows_then {a = 91 ∷ []} (constant (codes "[") refl).shows
        (shows_then (listed_shows ms (items_show ms h)) (constant (codes "]") refl).shows);
  }

  object_reads : (ms : List (List ℕ)) (h : AllPairsRead strict left ms) → (IsTrue strict → AreDistinct (names_of ms h))
      → Reads strict (suc left) (123 ∷ (listed comma_unless [] ms ++ 125 ∷ []))
  object_reads ms h apart = record {
    means = json.object (members_of strict left ms h);
    unique = λ asked. (names_distinct ms h (apart asked), members_unique ms h asked);
    low = omega (arith, members_low ms h);
    takes = subst (λ x. Takes (123 ∷ (listed comma_unless [] ms ++ 125 ∷ [])) (tok.begin_object ∷ x))
        (members_same ms h) (list_takes false ms (member_tokens ms h) (members_take ms h));
    shows = shows_then {a = 123 ∷ []} (constant (codes "{") refl).shows
        (shows_then (listed_shows ms (members_show ms h)) (constant (codes "}") refl).shows);
  }

-- a text between an opening and a closing
around : (o e inner t a b : List ℕ) → o ≡ a → e ≡ b → t ≡ o ++ (inner ++ e) → t ≡ a ++ (inner ++ b)
around o e inner t a b is_o is_e is = is ∙ ap (λ x. x ++ (inner ++ e)) is_o ∙ ap (λ x. a ++ (inner ++ x)) is_e

-- the bytes of all chunks
joined_bytes : (k : StringKind) (cs : List Chunk) → AllByRecursion (IsChunk k) cs
    → AllByRecursion (λ x. x < 256) (joined cs).bytes
joined_bytes k [] h = tt
joined_bytes k (c ∷ cs) h = all_append (λ x. x < 256) c.bytes (joined cs).bytes h.0.bytes (joined_bytes k cs h.1)

-- the names of pairs that are written
with_names : (write : Writer JsonPlace) (l : ContainerStyle) (p : JsonPlace) (ps : Pairs) (ms : List (List ℕ))
    → PairTexts json_leaves write l p ps ms → (ns : List (List ℕ)) × NamedPairs write p ps ns ms
with_names write l p no_pairs [] h = ([], tt)
with_names write l p no_pairs (m ∷ ms) h = absurd h
with_names write l p (pair k v ps) [] h = absurd h
with_names write l p (pair k v ps) (m ∷ ms) ((a, b, key, val, is), more) =
    let rest = with_names write l (json_leaves.next (json_leaves.value k p)) ps ms more in
    (a ∷ rest.0, ((b, key, val, is), rest.1))

-- ---- items

module _ (strict : Bool) (level left : ℕ) (levels : level + left ≡ 129) (write : Writer JsonPlace)
    (below : (p : JsonPlace) (i : Item) (t : List ℕ) → WellFormed level i → write p i t
    → Part strict p.role left t) where
  at_role : (p : JsonPlace) (s : Role) (i : Item) (t : List ℕ) → p.role ≡ s → WellFormed level i → write p i t
      → Part strict s left t
  at_role p s i t e well h = subst (λ x. Part strict x left t) e (below p i t well h)

  items_fill : (p : JsonPlace) (is : Items) (ms : List (List ℕ)) → p.role ≡ role.InKey → WellFormedItems level is
      → ItemTexts json_leaves write p is ms → AllFill ms
  items_fill p no_items [] e well h = tt
  items_fill p no_items (m ∷ ms) e well h = absurd h
  items_fill p (item i is) [] e well h = absurd h
  items_fill p (item i is) (m ∷ ms) e well h = (
    at_role p role.InKey i m e well.0 h.0,
    items_fill (json_leaves.next p) is ms (ap next_role e) well.1 h.1,
  )

  items_read : (p : JsonPlace) (is : Items) (ms : List (List ℕ)) → p.role ≡ role.Value → WellFormedItems level is
      → ItemTexts json_leaves write p is ms → AllRead strict left ms
  items_read p no_items [] e well h = tt
  items_read p no_items (m ∷ ms) e well h = absurd h
  items_read p (item i is) [] e well h = absurd h
  items_read p (item i is) (m ∷ ms) e well h = (
    at_role p role.Value i m e well.0 h.0,
    items_read (json_leaves.next p) is ms (ap next_role e) well.1 h.1,
  )

  pairs_fill : (p : JsonPlace) (l : ContainerStyle) (ps : Pairs) (ms : List (List ℕ)) → p.role ≡ role.InKey
      → WellFormedPairs level ps → PairTexts json_leaves write l p ps ms → AllFill ms
  pairs_fill p l no_pairs [] e well h = tt
  pairs_fill p l no_pairs (m ∷ ms) e well h = absurd h
  pairs_fill p l (pair k v ps) [] e well h = absurd h
  pairs_fill p l (pair k v ps) (m ∷ ms) e well ((a, b, key, val, is), more) = (
    subst Fills (sym is) (fills_then (at_role p role.InKey k a e well.0 key)
        (fills_then (constant (codes ": ") refl)
        (at_role (json_leaves.value k p) role.InKey v b (ap value_role e) well.1 val))),
    pairs_fill (json_leaves.next (json_leaves.value k p)) l ps ms (ap (λ s. next_role (value_role s)) e) well.2 more,
  )

  pairs_read : (p : JsonPlace) (ps : Pairs) (ns ms : List (List ℕ)) → p.role ≡ role.Key → WellFormedPairs level ps
      → NamedPairs write p ps ns ms → AllPairsRead strict left ms
  pairs_read p no_pairs [] [] e well h = tt
  pairs_read p no_pairs [] (m ∷ ms) e well h = absurd h
  pairs_read p no_pairs (n ∷ ns) ms e well h = absurd h
  pairs_read p (pair k v ps) [] ms e well h = absurd h
  pairs_read p (pair k v ps) (n ∷ ns) [] e well h = absurd h
  pairs_read p (pair k v ps) (n ∷ ns) (m ∷ ms) e well ((b, key, val, is), more) = (
    record {
      key = n;
      val = b;
      is = is;
      name = at_role p role.Key k n e well.0 key;
      means = at_role (json_leaves.value k p) role.Named v b (ap value_role e) well.1 val;
    },
    pairs_read (json_leaves.next (json_leaves.value k p)) ps ns ms (ap (λ s. next_role (value_role s)) e) well.2 more,
  )

  names_are : (p : JsonPlace) (ps : Pairs) (ns ms : List (List ℕ)) (e : p.role ≡ role.Key)
      (well : WellFormedPairs level ps) (h : NamedPairs write p ps ns ms)
      → ns ≡ names_of strict left ms (pairs_read p ps ns ms e well h)
  unfolding pairs_read
  names_are p no_pairs [] [] e well h = refl
  names_are p no_pairs [] (m ∷ ms) e well h = absurd h
  names_are p no_pairs (n ∷ ns) ms e well h = absurd h
  names_are p (pair k v ps) [] ms e well h = absurd h
  names_are p (pair k v ps) (n ∷ ns) [] e well h = absurd h
  names_are p (pair k v ps) (n ∷ ns) (m ∷ ms) e well ((b, key, val, is), more) =
      ap (λ x. n ∷ x) (names_are (json_leaves.next (json_leaves.value k p)) ps ns ms
      (ap (λ s. next_role (value_role s)) e) well.2 more)

  array_part : (p : JsonPlace) (s : Role) (w : Option IntegerWidth) (l : ContainerStyle) (is : Items) (t : List ℕ)
      → p.role ≡ s → WellFormedItems level is
      → ItemsText json_leaves write p (Array (count_of w (item_count is))) l is t → Part strict s (suc left) t
  array_part p role.Key w l is t same well (ms, texts, (o, e, is_o, is_e, eq)) =
      let c = Array (count_of w (item_count is)) in
      key_list c _ t o e (listed_fills c ms (items_fill (json_leaves.inside c (members_layout l) p) is ms
      (ap (inside_role c) same) well texts)) (is_o ∙ ap (λ x. opening_at x c) same)
      (is_e ∙ ap (λ x. closing_at x c) same) eq
  array_part p role.InKey w l is t same well (ms, texts, (o, e, is_o, is_e, eq)) =
      let c = Array (count_of w (item_count is)) in
      edn_list c _ t o e (listed_fills c ms (items_fill (json_leaves.inside c (members_layout l) p) is ms
      (ap (inside_role c) same) well texts)) (is_o ∙ ap (λ x. opening_at x c) same)
      (is_e ∙ ap (λ x. closing_at x c) same) eq
  array_part p role.Value w l is t same well (ms, texts, (o, e, is_o, is_e, eq)) =
      let c = Array (count_of w (item_count is)) in
      subst (λ x. Reads strict (suc left) x) (sym (around o e (listed comma_unless [] ms) t (codes "[") (codes "]")
      (is_o ∙ ap (λ x. opening_at x c) same) (is_e ∙ ap (λ x. closing_at x c) same) eq))
      (array_reads strict left ms (items_read (json_leaves.inside c (members_layout l) p) is ms
      (ap (inside_role c) same) well texts))
  array_part p role.Named w l is t same well (ms, texts, (o, e, is_o, is_e, eq)) =
      let c = Array (count_of w (item_count is)) in
      subst (λ x. Reads strict (suc left) x) (sym (around o e (listed comma_unless [] ms) t (codes "[") (codes "]")
      (is_o ∙ ap (λ x. opening_at x c) same) (is_e ∙ ap (λ x. closing_at x c) same) eq))
      (array_reads strict left ms (items_read (json_leaves.inside c (members_layout l) p) is ms
      (ap (inside_role c) same) well texts))

  -- the names of an object are given
  object_part : (p : JsonPlace) (s : Role) (c : Container) (l : ContainerStyle) (ps : Pairs) (ns ms : List (List ℕ))
      (t : List ℕ) → p.role ≡ s → is_value s ≡ true → inside_role c s ≡ role.Key → WellFormedPairs level ps
      → NamedPairs write (json_leaves.inside c (members_layout l) p) ps ns ms → (IsTrue strict → AreDistinct ns)
      → t ≡ 123 ∷ (listed comma_unless [] ms ++ 125 ∷ []) → Part strict s (suc left) t
  object_part p role.Key c l ps ns ms t same v key well texts apart eq = absurd cc
  object_part p role.InKey c l ps ns ms t same v key well texts apart eq = absurd cc
  object_part p role.Value c l ps ns ms t same v key well texts apart eq =
      let there = json_leaves.inside c (members_layout l) p in
      let e = ap (inside_role c) same ∙ key in
      subst (λ x. Reads strict (suc left) x) (sym eq)
      (object_reads strict left ms (pairs_read there ps ns ms e well texts)
      (λ asked. subst AreDistinct (names_are there ps ns ms e well texts) (apart asked)))
  object_part p role.Named c l ps ns ms t same v key well texts apart eq =
      let there = json_leaves.inside c (members_layout l) p in
      let e = ap (inside_role c) same ∙ key in
      subst (λ x. Reads strict (suc left) x) (sym eq)
      (object_reads strict left ms (pairs_read there ps ns ms e well texts)
      (λ asked. subst AreDistinct (names_are there ps ns ms e well texts) (apart asked)))

  map_part : (p : JsonPlace) (s : Role) (w : Option IntegerWidth) (l : ContainerStyle) (ps : Pairs) (t : List ℕ)
      → p.role ≡ s → WellFormedPairs level ps → ¬ (IsTrue strict)
      → PairsText json_leaves write p (Map (count_of w (pair_count ps))) l ps t → Part strict s (suc left) t
  map_part p role.Key w l ps t same well off (ms, texts, (o, e, is_o, is_e, eq)) =
      let c = Map (count_of w (pair_count ps)) in
      key_list c _ t o e (listed_fills c ms (pairs_fill (json_leaves.inside c (members_layout l) p) l ps ms
      (ap (inside_role c) same) well texts)) (is_o ∙ ap (λ x. opening_at x c) same)
      (is_e ∙ ap (λ x. closing_at x c) same) eq
  map_part p role.InKey w l ps t same well off (ms, texts, (o, e, is_o, is_e, eq)) =
      let c = Map (count_of w (pair_count ps)) in
      edn_list c _ t o e (listed_fills c ms (pairs_fill (json_leaves.inside c (members_layout l) p) l ps ms
      (ap (inside_role c) same) well texts)) (is_o ∙ ap (λ x. opening_at x c) same)
      (is_e ∙ ap (λ x. closing_at x c) same) eq
  map_part p role.Value w l ps t same well off (ms, texts, (o, e, is_o, is_e, eq)) =
      let c = Map (count_of w (pair_count ps)) in
      let named = with_names write l (json_leaves.inside c (members_layout l) p) ps ms texts in
      object_part p role.Value c l ps named.0 ms t same refl refl well named.1 (λ asked. absurd (off asked))
      (around o e (listed comma_unless [] ms) t (codes "{") (codes "}")
      (is_o ∙ ap (λ x. opening_at x c) same) (is_e ∙ ap (λ x. closing_at x c) same) eq)
  map_part p role.Named w l ps t same well off (ms, texts, (o, e, is_o, is_e, eq)) =
      let c = Map (count_of w (pair_count ps)) in
      let named = with_names write l (json_leaves.inside c (members_layout l) p) ps ms texts in
      object_part p role.Named c l ps named.0 ms t same refl refl well named.1 (λ asked. absurd (off asked))
      (around o e (listed comma_unless [] ms) t (codes "{") (codes "}")
      (is_o ∙ ap (λ x. opening_at x c) same) (is_e ∙ ap (λ x. closing_at x c) same) eq)

  -- ---- byte strings

  string_there : (p : JsonPlace) (c : Chunk) (t : List ℕ) → IsChunk kind.Bytes c → StringAt p kind.Bytes c t
      → Part strict p.role (suc left) t
  string_there p c t well h = string_part strict p (suc left) kind.Bytes c t well.bytes h

  -- an item in a byte string is as it is
  item_there : (p : JsonPlace) (s : Role) (b : Chunk) (i : Item) (t : List ℕ) → p.role ≡ s → is_value s ≡ true
      → WellFormed level i → OneText json_leaves write p b (Some i) t → Part strict s (suc left) t
  item_there p role.Key b i t same v well h = absurd cc
  item_there p role.InKey b i t same v well h = absurd cc
  item_there p role.Value b i t same v well (m, text, (o, e, is_o, is_e, eq)) =
      let c = embedding b in
      subst (λ x. Reads strict (suc left) x) (sym (around o e m t [] [] (is_o ∙ ap (λ x. opening_at x c) same)
      (is_e ∙ ap (λ x. closing_at x c) same) eq ∙ append-nil m))
      (deeper (at_role (json_leaves.inside c p.layout p) role.Value i m (ap (inside_role c) same) well text))
  item_there p role.Named b i t same v well (m, text, (o, e, is_o, is_e, eq)) =
      let c = embedding b in
      subst (λ x. Reads strict (suc left) x) (sym (around o e m t [] [] (is_o ∙ ap (λ x. opening_at x c) same)
      (is_e ∙ ap (λ x. closing_at x c) same) eq ∙ append-nil m))
      (deeper (at_role (json_leaves.inside c p.layout p) role.Value i m (ap (inside_role c) same) well text))

  one_part : (p : JsonPlace) (b : Chunk) (found : Option Item) (t : List ℕ) → is_value p.role ≡ true
      → IsChunk kind.Bytes b → embedded_at left b.bytes ≡ found → OneText json_leaves write p b found t
      → Part strict p.role (suc left) t
  one_part p b (Some i) t v well is h =
      item_there p p.role b i t refl v (spells_well level b.bytes i (bytes_at b.bytes well.bytes)
      (embedded_spells level left b.bytes i levels (bytes_at b.bytes well.bytes) is)) h
  one_part p b None t v well is h = string_there p b t well h

  embedded_part : (p : JsonPlace) (b : Chunk) (bs t : List ℕ) → 0 < length bs → is_value p.role ≡ true
      → IsChunk kind.Bytes b → EmbeddedText json_leaves write p b bs (embedded_at left b.bytes) t
      → Part strict p.role (suc left) t
  embedded_part p b [] t some v well h = absurd (omega (arith, some))
  embedded_part p b (x ∷ bs) t some v well h = one_part p b (embedded_at left b.bytes) t v well refl h

  content_part : (p : JsonPlace) (c : Content) (b : Chunk) (t : List ℕ) → json_leaves.content p b.bytes ≡ c
      → IsChunk kind.Bytes b → ContentText json_leaves left write c p b t → Part strict p.role (suc left) t
  content_part p shown.Item b t is well h =
      let both = opened p b.bytes is in embedded_part p b b.bytes t both.1 both.0 well h
  content_part p shown.Bytes b t is well h = string_there p b t well h
  content_part p shown.Sequence b t is well h = absurd (no_sequence p b.bytes is)

  chunked_part : (p : JsonPlace) (k : StringKind) (l : ContainerStyle) (joins : Bool) (cs : List Chunk) (t : List ℕ)
      → AllByRecursion (IsChunk k) cs → ChunkedText json_leaves p k l joins cs t → Part strict p.role (suc left) t
  chunked_part p k l false cs t well h = chunks_part strict p (suc left) k l cs t well h
  chunked_part p k l true cs t well h = string_part strict p (suc left) k (joined cs) t (joined_bytes k cs well) h

  atom_part : (p : JsonPlace) (a : Atom) (t : List ℕ) → WellFormedAtom a → AtomText json_leaves left write p a t
      → Part strict p.role (suc left) t
  atom_part p (string kind.Bytes b) t well h =
      content_part p (json_leaves.content p b.bytes) b t refl well h
  atom_part p (string kind.Text s) t well h = string_part strict p (suc left) kind.Text s t well.bytes h
  atom_part p (chunked_string k cs) t well h =
      chunked_part p k (style_at json_leaves p (atom (chunked_string k cs))) (joins_at p.role k) cs t well h
  atom_part p (integer n w) t well h = leaf_part strict p.role (suc left) (integer n w) t well h
  atom_part p (negative n w) t well h = leaf_part strict p.role (suc left) (negative n w) t well h
  atom_part p (float bits w) t well h = leaf_part strict p.role (suc left) (float bits w) t well h
  atom_part p (simple n) t well h = leaf_part strict p.role (suc left) (simple n) t well h

  -- ---- tags

  front_fills : (n : ℕ) → n < 2 ^ 64 → Fills (integer_text n ++ codes "(")
  front_fills n lt = fills_then (integer_fills n (omega (arith, lt))) (constant (codes "(") refl)

  tag_part : (p : JsonPlace) (s : Role) (n : ℕ) (w : IntegerWidth) (i : Item) (t : List ℕ) → p.role ≡ s
      → FitsWidth w n → WellFormed level i → TagText json_leaves write p n w i t → Part strict s (suc left) t
  tag_part p role.Key n w i t same fits well (o, m, e, is_o, text, is_e, eq) =
      let front = integer_text n ++ codes "(" in
      is_string (front ++ (m ++ codes ")")) t
      (fills_then (front_fills n (below_limit n w fits))
      (fills_then (at_role (json_leaves.below n p) role.InKey i m (ap below_role same) well text)
      (constant (codes ")") refl)))
      (around o e m t (34 ∷ front) (codes ")\"") (is_o ∙ ap (λ x. tag_at x n) same)
      (is_e ∙ ap (λ x. tag_end_at x) same) eq ∙ three front m (codes ")"))
  tag_part p role.InKey n w i t same fits well (o, m, e, is_o, text, is_e, eq) =
      let front = integer_text n ++ codes "(" in
      subst Fills (sym (around o e m t front (codes ")") (is_o ∙ ap (λ x. tag_at x n) same)
      (is_e ∙ ap (λ x. tag_end_at x) same) eq))
      (fills_then (front_fills n (below_limit n w fits))
      (fills_then (at_role (json_leaves.below n p) role.InKey i m (ap below_role same) well text)
      (constant (codes ")") refl)))
  tag_part p role.Value n w i t same fits well (o, m, e, is_o, text, is_e, eq) =
      subst (λ x. Reads strict (suc left) x) (sym (around o e m t [] [] (is_o ∙ ap (λ x. tag_at x n) same)
      (is_e ∙ ap (λ x. tag_end_at x) same) eq ∙ append-nil m))
      (deeper (at_role (json_leaves.below n p) role.Value i m (ap below_role same) well text))
  tag_part p role.Named n w i t same fits well (o, m, e, is_o, text, is_e, eq) =
      subst (λ x. Reads strict (suc left) x) (sym (around o e m t [] [] (is_o ∙ ap (λ x. tag_at x n) same)
      (is_e ∙ ap (λ x. tag_end_at x) same) eq ∙ append-nil m))
      (deeper (at_role (json_leaves.below n p) role.Value i m (ap below_role same) well text))

  with_part : (p : JsonPlace) (i : Item) (t : List ℕ) (here : ℕ) → level ≡ here + 1 → WellFormed here i
      → ¬ (IsTrue strict) → TextWith json_leaves left write p i t → Part strict p.role (suc left) t
  with_part p (atom a) t here e well off h = atom_part p a t well.1 h
  with_part p (array is w) t here e well off h =
      array_part p p.role w (style_at json_leaves p (array is w)) is t refl
      (subst (λ l. WellFormedItems l is) (sym e) well.2) h
  with_part p (spec.map ps w) t here e well off h =
      map_part p p.role w (style_at json_leaves p (spec.map ps w)) ps t refl
      (subst (λ l. WellFormedPairs l ps) (sym e) well.2) off h
  with_part p (tagged n w i) t here e well off h =
      tag_part p p.role n w i t refl well.1 (subst (λ l. WellFormed l i) (sym e) well.2) h

  -- the same where names that are given differ
  pub unique_part : (p : JsonPlace) (i : Item) (t : List ℕ) (here : ℕ) → level ≡ here + 1 → WellFormed here i
      → is_value p.role ≡ true → UniqueWith left write p i t → Part strict p.role (suc left) t
  unique_part p (atom a) t here e well v h = atom_part p a t well.1 h
  unique_part p (array is w) t here e well v h =
      array_part p p.role w (style_at json_leaves p (array is w)) is t refl
      (subst (λ l. WellFormedItems l is) (sym e) well.2) h
  unique_part p (spec.map ps w) t here e well v (ns, ms, texts, apart, (o, z, is_o, is_z, eq)) =
      let n = count_of w (pair_count ps) in
      object_part p p.role (Map n) (style_at json_leaves p (spec.map ps w)) ps ns ms t refl v (key_in p.role n v)
      (subst (λ l. WellFormedPairs l ps) (sym e) well.2) texts (λ asked. apart)
      (around o z (listed comma_unless [] ms) t (codes "{") (codes "}") (is_o ∙ opens_so p.role n v)
      (is_z ∙ closes_so p.role n v) eq)
  unique_part p (tagged n w i) t here e well v h =
      tag_part p p.role n w i t refl well.1 (subst (λ l. WellFormed l i) (sym e) well.2) h

pub text_part : (level left : ℕ) → level + left ≡ 129 → (p : JsonPlace) (i : Item) (t : List ℕ) → WellFormed level i
    → TextsOf json_leaves left p i t → Part false p.role left t
unfolding TextsOf
text_part level zero levels p i t well h = absurd h
text_part level (suc left) levels p i t well h =
    with_part false (level + 1) left (omega (arith, levels)) (TextsOf json_leaves left)
    (λ p i t. text_part (level + 1) left (omega (arith, levels)) p i t) p i t level refl well
    (λ asked. let wrong : false ≡ true = asked in absurd cc)
    (subst (λ x. TextWith json_leaves left (TextsOf json_leaves left) x i t) h.1 h.2)
