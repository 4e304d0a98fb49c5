-- What is read and written after the head of an item (`read_behind`, `TextsHere`) is what is read and written of the
-- whole item (`read_at`, `TextsAt`), and an error there is an error of the item. An error in a part of a container is
-- one of the container, and an error that a `?` passes on stays the same.
use Rattle.std.proofs.Common.{◌≡◌, ℕ, suc, ◌+◌, ◌≤◌, List, ◌++◌, None, Result, Ok, Err, IfOk, IfErr, sym, ap, subst}
use Rattle.std.proofs.Common.{◌∙◌, arith}
use Rattle.std.specs.Prelude.{IsErrAnd}
use Rattle.cbor_grammar.specs.declared.argument.Argument.{Argument}
use Rattle.cbor_grammar.specs.declared.error.Error.{Error}
use Rattle.cbor_grammar.specs.declared.head.ItemHead.{ItemHead}
use Rattle.cbor_grammar.specs.Item.{Item, Pairs}
use Rattle.cbor_grammar.specs.Reading.{Fails, Frame, Read, after_end, after_members, pairs_in, read_head}
use Rattle.cbor_grammar.specs.WellFormed.{levels_left}
use Rattle.cbor_grammar.specs.mirror.AtLevel.{read_at, read_behind}
use Rattle.cbor_grammar.specs.mirror.Lengths.{left_of}
use Rattle.cbor_bytes.proofs.reading.Levels.{head_reads, same_read, same_fails}
use Rattle.cbor_bytes.proofs.reading.Readings.{parts_read, part_fails, value_fails}
use Rattle.cbor_notation_writer.specs.Dialect.{Leaves, TextWith, TextsOf, TextsAt}
use Rattle.cbor_notation_writer.specs.mirror.Straight.{Written, TextsBelow, TextsHere}

-- an item whose place is known, by its parts
texts_open : {P : Type 0} (d : Leaves P) (p q r : P) (i : Item) (t : List ℕ) → d.level p ≤ 128 → q ≡ r → d.At p r
    → d.level r ≡ d.level p → TextsHere d q i t → TextsAt d p i t
unfolding TextsOf
texts_open d p q r i t le is known same h =
    let levels : suc (levels_left (d.level p + 1)) ≡ levels_left (d.level p) = omega arith in
    let here : TextWith d (levels_left (d.level p + 1)) (TextsBelow d p) r i t =
    subst (λ n. TextWith d (levels_left (n + 1)) (TextsOf d (levels_left (n + 1))) r i t) same
    (subst (λ x. TextsHere d x i t) is h) in
    subst (λ n. TextsOf d n p i t) levels (r, known, here)

-- The head of the item is read there, and `q` is its place, as it is known by that.
module _ {P : Type 0} (d : Leaves P) (p : P) {q r : P} (b : List ℕ) {h : ItemHead} {rest : List ℕ} {level : ℕ}
    (here : level ≡ d.level p) (deep : level ≤ 128) (is : q ≡ r) (known : d.At p r) (same : d.level r ≡ d.level p)
    (read : read_head b ≡ Ok (h, rest)) where
  fits : d.level p ≤ 128
  fits = omega (arith, here, deep)

  behind : read_at (d.level p) b ≡ read_behind (d.level q) h rest
  behind = head_reads (d.level p) b h rest fits read ∙ ap (λ n. read_behind n h rest) (sym (ap d.level is ∙ same))

  opened : (i : Item) (t : List ℕ) → TextsHere d q i t → TextsAt d p i t
  opened i t w = texts_open d p q r i t fits is known same w

  -- an item that is its head
  pub leaf_written : (i : Item) (old new : List ℕ) → read_behind (d.level p) h rest ≡ Ok (i, rest)
      → (t : List ℕ) × TextsHere d q i t × (new ≡ old ++ t)
      → Written (TextsAt d p) (read_at (d.level p) b) rest old new
  leaf_written i old new found w =
      (i, head_reads (d.level p) b h rest fits read ∙ found, w.0, opened i w.0 w.1, w.2)

  -- what holds of what is read after a head holds of what is read there
  pub front_so : {A : Type 0} (gave : Result A Error) (f : A → List ℕ) (old new : List ℕ)
      → IfOk gave (λ x. Written (TextsHere d q) (read_behind (d.level q) h rest) (f x) old new)
      → IfErr gave (λ e. Fails e (read_behind (d.level q) h rest))
      → IfOk gave (λ x. Written (TextsAt d p) (read_at (d.level p) b) (f x) old new)
      × IfErr gave (λ e. Fails e (read_at (d.level p) b))
  front_so (Ok x) f old new w none = ((w.0, behind ∙ w.1, w.2, opened w.0 w.2 w.3, w.4), tt)
  front_so (Err e) f old new none fails = (tt, subst (Fails e) (sym behind) fails)

-- ---- errors

-- the error that a `?` passes on
pub passed : {X Y : Type 0} (r : Result X Error) (e : Error) (read : Result Y Error) → IsErrAnd r (λ x. x ≡ e)
    → Fails e read → IfErr r (λ x. Fails x read)
passed (Ok x) e read is h = absurd is
passed (Err x) e read is h = subst (λ (y : Error). Fails y read) (sym is) h

-- a part of a container at `p` that is not read
module _ {P : Type 0} (d : Leaves P) (p inner : P) (e : Error) {whole : Read Item}
    (level : d.level inner ≡ d.level p + 1) where
  pub part_refused : (f : Frame) (b : List ℕ) → parts_read (levels_left (d.level p + 1)) f b ≡ whole
      → None ≡ after_end f b → Fails e (read_at (d.level inner) b) → Fails e whole
  part_refused f b so_far none h =
      subst (Fails e) so_far (part_fails e (levels_left (d.level p + 1)) f b (sym none)
      (same_fails e (d.level inner) (d.level p + 1) b level h))

  -- and a value, whose key is
  pub value_refused : (there : P) (ps : Pairs) (count : Argument) (held : ℕ) (b mid : List ℕ) (k : Item)
      → parts_read (levels_left (d.level p + 1)) (pairs_in ps (left_of count held)) b ≡ whole
      → None ≡ after_members (left_of count held) b → read_at (d.level inner) b ≡ Ok (k, mid)
      → d.level there ≡ d.level inner → Fails e (read_at (d.level there) mid) → Fails e whole
  value_refused there ps count held b mid k so_far none key beside h =
      subst (Fails e) so_far (value_fails e (levels_left (d.level p + 1)) ps count held b mid k (sym none)
      (same_read (d.level inner) (d.level p + 1) b mid k level key)
      (same_fails e (d.level there) (d.level p + 1) mid (beside ∙ level) h))
