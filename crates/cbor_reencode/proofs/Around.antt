-- For `Encoder::push_array`, `push_map` and `push_tagged`: if a head was read and its members, pairs or item are
-- re-encoded, the bytes with a new head re-encode the whole container (`Rewritten`), at an allowed level and with fewer
-- than 2 ^ 64 members. The count fits the width that was read (`FitsHeld`). Other heads open no container.
use Rattle.std.proofs.Common.{◌≡◌, ◌≢◌, ℕ, ◌+◌, ◌^◌, ◌<◌, ◌≤◌, List, [], ◌++◌, length, Option, Some, None, Ok, refl}
use Rattle.std.proofs.Common.{sym, ap, subst, ◌∙◌}
use Rattle.std.specs.List.Sorted.{IsPermutation}
use Rattle.cbor_grammar.specs.declared.argument.Argument.{Argument}
use Rattle.cbor_grammar.specs.declared.head.ItemHead.{ItemHead}
use Rattle.cbor_grammar.specs.declared.head.ItemHead.TheVariants as item_head
use Rattle.cbor_grammar.specs.declared.width.IntegerWidth.{IntegerWidth}
use Rattle.cbor_grammar.specs.Reading.{after_members, read_head}
use Rattle.cbor_grammar.specs.WellFormed.{deepest}
use Rattle.cbor_grammar.specs.Written.{encoded_open, encoded_close}
use Rattle.cbor_grammar.specs.mirror.Lengths.{left_of}
use Rattle.cbor_grammar.proofs.bytes.Heads.{head_takes, IsBytes, ArgumentThen}
use Rattle.cbor_rules.specs.declared.rules.Rules.{Rules}
use Rattle.cbor_rules.specs.FirstViolation.{opened}
use Rattle.cbor_reencode.specs.declared.pairs.Pair.{Pair}
use Rattle.cbor_reencode.specs.mirror.Chosen.{chosen_count, FitsHeld}
use Rattle.cbor_reencode.specs.mirror.Numbers.{tagged_bytes}
use Rattle.cbor_reencode.specs.mirror.Rewritten.{Rewritten, pair_bytes}
use Rattle.cbor_reencode.proofs.Containers.{ItemsMore, PairsMore, items_whole, pairs_whole, pairs_count, held_fits}
use Rattle.cbor_reencode.proofs.Containers.{array_done, map_done, tag_done}

-- a head that opens no container
pub no_parts : (h : ItemHead) → ((a : Argument) → h ≢ item_head.Array a) → ((a : Argument) → h ≢ item_head.Map a)
    → ((t : ℕ) (w : IntegerWidth) → h ≢ item_head.Tag t w) → opened h ≡ None
no_parts (item_head.Array a) array map tag = absurd (array a refl)
no_parts (item_head.Map a) array map tag = absurd (map a refl)
no_parts (item_head.Tag t w) array map tag = absurd (tag t w refl)
no_parts h array map tag = refl

-- the head of an item, by what it is
pub head_read : (b : List ℕ) (h k : ItemHead) (r : List ℕ) → read_head b ≡ Ok (h, r) → h ≡ k → read_head b ≡ Ok (k, r)
head_read b h k r read is = read ∙ ap (λ (x : ItemHead). Ok (x, r)) is

-- after the head of a container with this major type and length
pub record ContainerAt (level major : ℕ) (a : Argument) (b r : List ℕ) : Type 0 where
  pub deep : level ≤ deepest
  pub head : ArgumentThen major a b r

-- ---- arrays

pub array_at : (level : ℕ) (a : Argument) (b r : List ℕ) → level ≤ deepest → IsBytes b
    → read_head b ≡ Ok (item_head.Array a, r) → ContainerAt level 4 a b r
array_at level a b r deep fits read = record { deep = deep; head = (head_takes b r (item_head.Array a) fits read).0 }

module _ (rules : Rules) {level : ℕ} {a : Argument} {b r : List ℕ} (at : ContainerAt level 4 a b r) (held : ℕ)
    (rest : List ℕ) where
  pub array_fits : (after written : List ℕ) → ItemsMore rules (level + 1) a held r rest written
      → Some after ≡ after_members (left_of a held) rest → FitsHeld a held
  array_fits after written more end =
      held_fits 4 a held b r at.head (items_whole rules (level + 1) a held r rest after written more (sym end)).count

  -- what is written for all members is `inner`, and that for the array is behind `mid`
  pub array_written : (after written inner old mid new : List ℕ) → held < 2 ^ 64
      → ItemsMore rules (level + 1) a held r rest written → Some after ≡ after_members (left_of a held) rest
      → inner ≡ written → mid ≡ old
      → new ≡ mid ++ (encoded_open 4 held (chosen_count rules a held)
      ++ (inner ++ encoded_close (chosen_count rules a held)))
      → Rewritten rules level b after old new
  array_written after written inner old mid new few more end is same e =
      let m = items_whole rules (level + 1) a held r rest after written more (sym end) in
      let v = chosen_count rules a held in
      array_done rules level a b r after written old new held at.deep few at.head m
      (e ∙ ap (λ (x : List ℕ). x ++ (encoded_open 4 held v ++ (inner ++ encoded_close v))) same
      ∙ ap (λ (x : List ℕ). old ++ (encoded_open 4 held v ++ (x ++ encoded_close v))) is)

-- ---- maps

-- what comes after the members, by how many were kept
pub counted : (a : Argument) (k : ℕ) (xs : List Pair) (b : List ℕ) (o : Option (List ℕ)) → k ≡ length xs
    → o ≡ after_members (left_of a k) b → after_members (left_of a (length xs)) b ≡ o
counted a k xs b o is e = subst (λ (j : ℕ). after_members (left_of a j) b ≡ o) is (sym e)

pub map_at : (level : ℕ) (a : Argument) (b r : List ℕ) → level ≤ deepest → IsBytes b
    → read_head b ≡ Ok (item_head.Map a, r) → ContainerAt level 5 a b r
map_at level a b r deep fits read = record { deep = deep; head = (head_takes b r (item_head.Map a) fits read).0 }

module _ (rules : Rules) {level : ℕ} {a : Argument} {b r : List ℕ} (at : ContainerAt level 5 a b r)
    (xs : List Pair) (rest : List ℕ) where
  pub map_fits : (after : List ℕ) → PairsMore rules (level + 1) a r rest xs
      → after_members (left_of a (length xs)) rest ≡ Some after → FitsHeld a (length xs)
  map_fits after more end =
      held_fits 5 a (length xs) b r at.head (pairs_count rules (level + 1) a r after xs
      (pairs_whole rules (level + 1) a r rest after xs more end))

  -- the pairs are written in the order of `ys`, and what is written for the map is behind `mid`
  pub map_written : (after old mid new : List ℕ) (ys : List Pair) → length ys < 2 ^ 64
      → PairsMore rules (level + 1) a r rest xs → after_members (left_of a (length xs)) rest ≡ Some after
      → IsPermutation xs ys → mid ≡ old
      → new ≡ mid ++ (encoded_open 5 (length ys) (chosen_count rules a (length ys))
      ++ (pair_bytes ys ++ encoded_close (chosen_count rules a (length ys))))
      → Rewritten rules level b after old new
  map_written after old mid new ys few more end moves same e =
      let m = pairs_whole rules (level + 1) a r rest after xs more end in
      let n = length ys in
      let v = chosen_count rules a n in
      map_done rules level a b r after old new xs ys at.deep few at.head m moves
      (e ∙ ap (λ (x : List ℕ). x ++ (encoded_open 5 n v ++ (pair_bytes ys ++ encoded_close v))) same)

-- ---- tags

-- the item of the tag is in `z` once it is written
pub tag_written : (rules : Rules) (level tag : ℕ) (w : IntegerWidth) (b r rest empty y z old new : List ℕ)
    → level ≤ deepest → IsBytes b → read_head b ≡ Ok (item_head.Tag tag w, r)
    → Rewritten rules (level + 1) r rest empty y → empty ≡ [] → z ≡ y → new ≡ old ++ tagged_bytes rules tag w z
    → Rewritten rules level b rest old new
tag_written rules level tag w b r rest empty y z old new deep fits read inner none is e =
    tag_done rules level tag w b r rest y old new deep (head_takes b r (item_head.Tag tag w) fits read).0
    (subst (λ (x : List ℕ). Rewritten rules (level + 1) r rest x y) none inner)
    (e ∙ ap (λ (x : List ℕ). old ++ tagged_bytes rules tag w x) is)
