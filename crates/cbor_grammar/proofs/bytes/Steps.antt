-- Laws of counted steps: `later` and `>>-` add up turns, and steps may be grouped in any way. If each part takes at
-- least one byte, as an item does, `read_parts` reads the next part of an open container and goes on, or closes the
-- container in one turn. The bound of `parts_from` then makes no difference, if it is more than the number of bytes.
use Rattle.std.proofs.Common.{◌≡◌, ℕ, zero, suc, ◌+◌, ◌<◌, ◌≤◌, List, length, Option, Some, None, Ok, Err, refl, sym}
use Rattle.std.proofs.Common.{ap, ◌∙◌, arith}
use Rattle.cbor_grammar.specs.Item.{Item}
use Rattle.cbor_grammar.specs.Reading.{Read, Counted, later, go_on, ◌>>-◌, Frame, put, after_end, closed, close_or}
use Rattle.cbor_grammar.specs.Reading.{parts_from, read_parts, counted_item}
use Rattle.cbor_grammar.proofs.bytes.Shorter.{item_shorter}

-- ---- turns before

pub later_later : {X : Type 0} (j k : ℕ) (c : Counted X) → later j (later k c) ≡ later (j + k) c
later_later j k c = let e : j + (k + c.0) ≡ (j + k) + c.0 = omega arith in ap (λ n. (n, c.1)) e

pub later_none : {X : Type 0} (c : Counted X) → later 0 c ≡ c
later_none c = let e : 0 + c.0 ≡ c.0 = omega arith in ap (λ n. (n, c.1)) e

go_later : {A B : Type 0} (k n : ℕ) (r : Read A) (f : A × List ℕ → Counted B)
    → go_on (k + n) r f ≡ later k (go_on n r f)
go_later k n (Ok x) f = sym (later_later k n (f x))
go_later k n (Err e) f = refl

pub then_later : {A B : Type 0} (k : ℕ) (c : Counted A) (f : A × List ℕ → Counted B)
    → (later k c >>- f) ≡ later k (c >>- f)
then_later k c f = go_later k c.0 c.1 f

go_then : {A B C : Type 0} (n : ℕ) (r : Read A) (f : A × List ℕ → Counted B) (g : B × List ℕ → Counted C)
    → (go_on n r f >>- g) ≡ go_on n r (λ x. f x >>- g)
go_then n (Ok x) f g = then_later n (f x) g
go_then n (Err e) f g = refl

pub then_then : {A B C : Type 0} (c : Counted A) (f : A × List ℕ → Counted B) (g : B × List ℕ → Counted C)
    → ((c >>- f) >>- g) ≡ (c >>- λ x. f x >>- g)
then_then c f g = go_then c.0 c.1 f g

go_same : {A B : Type 0} (n : ℕ) (r : Read A) (f g : A × List ℕ → Counted B) → ((x : A × List ℕ) → r ≡ Ok x → f x ≡ g x)
    → go_on n r f ≡ go_on n r g
go_same n (Ok x) f g h = ap (later n) (h x refl)
go_same n (Err e) f g h = refl

pub then_same : {A B : Type 0} (c : Counted A) (f g : A × List ℕ → Counted B)
    → ((x : A × List ℕ) → c.1 ≡ Ok x → f x ≡ g x) → (c >>- f) ≡ (c >>- g)
then_same c f g h = go_same c.0 c.1 f g h

-- the turns of a step make no difference to what is read
pub then_first : {A B : Type 0} (c d : Counted A) (f : A × List ℕ → Counted B) → c.1 ≡ d.1 → (c >>- f).1 ≡ (d >>- f).1
then_first {A = A} {B = B} c d f same = free c.0 c.1 ∙ ap (λ r. (go_on 0 r f).1) same ∙ sym (free d.0 d.1)
  where
    free : (n : ℕ) (r : Read A) → (go_on n r f).1 ≡ (go_on 0 r f).1
    free n (Ok x) = refl
    free n (Err e) = refl

pub first_same : {A B : Type 0} (c : Counted A) (f g : A × List ℕ → Counted B)
    → ((x : A × List ℕ) → c.1 ≡ Ok x → (f x).1 ≡ (g x).1) → (c >>- f).1 ≡ (c >>- g).1
first_same {A = A} {B = B} c f g same = go c.0 c.1 same
  where
    go : (n : ℕ) (r : Read A) → ((x : A × List ℕ) → r ≡ Ok x → (f x).1 ≡ (g x).1) → (go_on n r f).1 ≡ (go_on n r g).1
    go n (Ok x) same = same x refl
    go n (Err e) same = refl

-- ---- what follows takes no turn back

go_grows : {A B : Type 0} (n : ℕ) (r : Read A) (f : A × List ℕ → Counted B) → n ≤ (go_on n r f).0
go_grows n (Ok x) f = omega arith
go_grows n (Err e) f = omega arith

pub then_grows : {A B : Type 0} (c : Counted A) (f : A × List ℕ → Counted B) → c.0 ≤ (c >>- f).0
then_grows c f = go_grows c.0 c.1 f

-- ---- the parts of one container

-- each part takes a byte
abbrev pub Shortens : (List ℕ → Counted Item) → Type 0
Shortens read = (b : List ℕ) (x : Item × List ℕ) → (read b).1 ≡ Ok x → length x.1 < length b

-- more than there are bytes are enough
pub enough : (read : List ℕ → Counted Item) → Shortens read → (n m : ℕ) (f : Frame) (b : List ℕ) → length b < n
    → length b < m → parts_from n read f b ≡ parts_from m read f b
unfolding parts_from
enough read short zero m f b lt gt = absurd (omega arith)
enough read short (suc n) zero f b lt gt = absurd (omega arith)
enough read short (suc n) (suc m) f b lt gt =
    ap (close_or (closed f) (after_end f b))
    (then_same (read b) _ _ (λ x e. let s =
    short b x e in enough read short n m (put f x.0) x.1 (omega arith) (omega arith)))

pub parts_step : (read : List ℕ → Counted Item) → Shortens read → (f : Frame) (b : List ℕ)
    → read_parts read f b ≡ close_or (closed f) (after_end f b) (read b >>- λ i. read_parts read (put f i.0) i.1)
unfolding parts_from
parts_step read short f b =
    ap (close_or (closed f) (after_end f b))
    (then_same (read b) _ _ (λ x e. let s =
    short b x e in enough read short (length b) (suc (length x.1)) (put f x.0) x.1 (omega arith) (omega arith)))

pub parts_end : (read : List ℕ → Counted Item) → Shortens read → (f : Frame) (b after : List ℕ) (i : Item)
    → closed f ≡ Some i → after_end f b ≡ Some after → read_parts read f b ≡ (1, Ok (i, after))
parts_end read short f b after i is ends = parts_step read short f b ∙ rw (is, ends) refl

pub open_or : (o : Option Item) (e : Option (List ℕ)) (more : Counted Item) → e ≡ None → close_or o e more ≡ more
open_or (Some i) e more none = rw none refl
open_or None e more none = refl

pub parts_more : (read : List ℕ → Counted Item) → Shortens read → (f : Frame) (b : List ℕ) → after_end f b ≡ None
    → read_parts read f b ≡ (read b >>- λ i. read_parts read (put f i.0) i.1)
parts_more read short f b none = parts_step read short f b ∙ open_or (closed f) (after_end f b) _ none

pub item_shortens : (left : ℕ) → Shortens (counted_item left)
item_shortens left b x e = item_shorter left b x.0 x.1 e
