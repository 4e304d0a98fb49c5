-- Which values fit loaded CDDL (RFC 8610). `step` says when a value fits a type and what a group takes, given the
-- answers for the types and groups one level further in (a `Matcher`). `matcher` applies `step` once for each level.
use Rattle.std.specs.Prelude.{◌≡◌, ℕ, zero, suc, ◌+◌, ◌-◌, ◌/◌, ◌%◌, List, [], ◌∷◌, ◌++◌, length, Bool, true}
use Rattle.std.specs.Prelude.{false}
use Rattle.std.specs.Prelude.{Option, Some, None, not, ◌==◌, if◌then◌else◌, pos, ◌&&◌, ◌^◌, nat_lt}
use Rattle.cbor_cddl.specs.declared.schema.Node.{Node}
use Rattle.cbor_cddl.specs.declared.schema.Node.TheVariants as node
use Rattle.cbor_cddl.specs.declared.schema.Occurrence.{Occurrence}
use Rattle.cbor_fits.specs.Value.{Value, integer, simple, bytes, text, array, map, tagged, list_of, list_of_pairs}
use Rattle.cbor_fits.specs.Rules.{Rules}
use Rattle.cbor_fits.specs.Leaf.{fits_leaf, compares_with}

-- An answer; `None` where the levels run out before there is one.
infixl 10 ◌>>=◌
abbrev pub ◌>>=◌ : {A B : Type 0} → Option A → (A → Option B) → Option B
(Some x) >>= f = f x
None >>= f = None

-- both hold; the second one is asked only if the first one holds
abbrev pub both : Option Bool → Option Bool → Option Bool
both (Some true) b = b
both (Some false) b = Some false
both None b = None

-- one of them holds; those after it are not asked
abbrev pub any_of : {A : Type 0} → (A → Option Bool) → List A → Option Bool
any_of f [] = Some false
any_of f (x ∷ xs) = f x >>= λ b. if b then Some true else any_of f xs

-- ---- groups (RFC 8610, sections 2.1 and 3.2; PEG semantics: appendix A)

-- what is left for a group to take: members of an array, or pairs of a map
pub data Rest : Type 0 where
  members : List Value → Rest
  pairs : List (Value × Value) → Rest

abbrev pub size : Rest → ℕ
size (members xs) = length xs
size (pairs ps) = length ps

-- A group takes some of what is left, or none, and fits. Or it does not fit. If it cuts, no occurrence around it goes
-- on without it.
pub data Outcome : Type 0 where
  takes : Rest → Outcome
  refuses : Outcome
  cuts : Outcome

-- nothing is left
abbrev pub is_whole : Outcome → Bool
is_whole (takes rest) = size rest == 0
is_whole refuses = false
is_whole cuts = false

-- what follows takes of what is left, unless the group refused or cut
abbrev pub then_takes : Outcome → (Rest → Option Outcome) → Option Outcome
then_takes (takes rest) f = f rest
then_takes refuses f = Some refuses
then_takes cuts f = Some cuts

-- the parts of a group, one after the other
abbrev pub in_turn : (ℕ → Rest → Option Outcome) → List ℕ → Rest → Option Outcome
in_turn f [] rest = Some (takes rest)
in_turn f (g ∷ gs) rest = f g rest >>= λ o. then_takes o (in_turn f gs)

-- the outcome if it takes, or what the next alternatives do; one of those that failed may have cut
abbrev pub or_else : Outcome → Outcome → (Outcome → Option Outcome) → Option Outcome
or_else (takes rest) failed f = Some (takes rest)
or_else refuses failed f = f failed
or_else cuts failed f = f cuts

-- The first alternative of `//` that takes. If all fail, and one of them cuts, all of it cuts.
abbrev pub first_of : (ℕ → Option Outcome) → List ℕ → Outcome → Option Outcome
first_of f [] failed = Some failed
first_of f (g ∷ gs) failed = f g >>= λ o. or_else o failed (first_of f gs)

-- A turn of an occurrence, before which `rest` was left. A turn that takes nothing is the last one.
abbrev pub after_turn : Outcome → Rest → ℕ → (Rest → Option Outcome) → Option Outcome
after_turn (takes next) rest least f = if size next == size rest then Some (takes rest) else f next
after_turn refuses rest least f = if least == 0 then Some (takes rest) else Some refuses
after_turn cuts rest least f = Some cuts

-- An occurrence takes as often as it can, at least and at most so often, and gives nothing back. Each turn but the last
-- takes something, so there are no more turns than things, and one.
abbrev pub repeated : (Rest → Option Outcome) → ℕ → ℕ → ℕ → Rest → Option Outcome
repeated f zero least most rest = None
repeated f (suc turns) least most rest =
    if most == 0 then Some (takes rest)
    else f rest >>= λ o. after_turn o rest least (repeated f turns (least - 1) (most - 1))

abbrev pub occurs : (Rest → Option Outcome) → Occurrence → Rest → Option Outcome
occurs f o rest = repeated f (size rest + 1) o.least o.most rest

-- a type takes the next member of an array if that fits; it takes no pair, since it has no key
abbrev pub one_member : (Value → Option Bool) → Rest → Option Outcome
one_member f (members []) = Some refuses
one_member f (members (x ∷ xs)) = f x >>= λ b. Some (if b then takes (members xs) else refuses)
one_member f (pairs ps) = Some refuses

-- ---- entries of a map (RFC 8610, sections 3.5.1 to 3.5.4)

-- which pairs an entry leaves, how many more it may take, how many it has to take, and whether it takes each pair whose
-- key fits
pub record Split : Type 0 where
  pub left : List (Value × Value)
  pub least : ℕ
  pub most : ℕ
  pub all_taken : Bool

-- leaves a pair, whose key fits or not
abbrev pub leave : Value × Value → Bool → Split → Split
leave p fits_key s =
    record { left = s.left ++ p ∷ []; least = s.least; most = s.most; all_taken = s.all_taken && not fits_key }

-- takes a pair, unless it has all that it may take
abbrev pub take_pair : Value × Value → Split → Split
take_pair p s =
    if s.most == 0 then leave p true s
    else record { left = s.left; least = s.least - 1; most = s.most - 1; all_taken = s.all_taken }

-- takes or leaves a pair, whose key and value fit or not
abbrev pub with_pair : Value × Value → Bool → Bool → Split → Split
with_pair p false fits_value s = leave p false s
with_pair p true false s = leave p true s
with_pair p true true s = take_pair p s

-- goes over the pairs in their order; a value is asked only if its key fits
abbrev pub split : (Value → Option Bool) → (Value → Option Bool) → List (Value × Value) → Split → Option Split
split key fits [] s = Some s
split key fits (p ∷ ps) s =
    key p.0 >>= λ k. (if k then fits p.1 else Some false) >>= λ v. split key fits ps (with_pair p k v s)

-- no pair is gone over yet
abbrev pub no_split : Occurrence → Split
no_split o = record { left = []; least = o.least; most = o.most; all_taken = true }

-- A cut says that no later entry takes a pair whose key fits: this one takes it, or cuts, also if it has its count.
abbrev pub entry_outcome : Bool → Split → Outcome
entry_outcome cut s =
    if cut && not s.all_taken then cuts
    else if s.least == 0 then takes (pairs s.left) else refuses

abbrev pub entry : (Value → Option Bool) → (Value → Option Bool) → Bool → Occurrence → List (Value × Value)
    → Option Outcome
entry key fits cut o ps =
    split key fits ps (no_split o) >>= λ s. Some (entry_outcome cut s)

-- In an array the key of an entry is a name, and decides nothing.
abbrev pub occurs_under : (Value → Option Bool) → (Value → Option Bool) → (Rest → Option Outcome) → Bool → Occurrence
    → Rest → Option Outcome
occurs_under key fits f cut o (members xs) = occurs f o (members xs)
occurs_under key fits f cut o (pairs ps) = entry key fits cut o ps

-- ---- one level

-- what fits, and what is taken, by the index of a node
pub record Matcher : Type 0 where
  pub fits : ℕ → Value → Option Bool
  pub takes : ℕ → Rest → Option Outcome

-- the group takes all members
abbrev pub in_array : (Rest → Option Outcome) → Value → Option Bool
in_array f (array xs) = f (members (list_of xs)) >>= λ o. Some (is_whole o)
in_array f x = Some false

-- the group takes all pairs
abbrev pub in_map : (Rest → Option Outcome) → Value → Option Bool
in_map f (map ps) = f (pairs (list_of_pairs ps)) >>= λ o. Some (is_whole o)
in_map f x = Some false

-- the number of the tag fits, and so does what is below it
abbrev pub in_tag : (ℕ → Option Bool) → (Value → Option Bool) → Value → Option Bool
in_tag number f (tagged n x) = both (number n) (f x)
in_tag number f x = Some false

-- the number of a simple value fits
abbrev pub in_simple : (ℕ → Option Bool) → Value → Option Bool
in_simple f (simple n) = f n
in_simple f x = Some false

-- the number that a tag may have, if it is given
abbrev pub number_fits : (ℕ → Value → Option Bool) → Option ℕ → ℕ → Option Bool
number_fits f None n = Some true
number_fits f (Some t) n = f t (integer (pos n))

-- ---- controls (RFC 8610, section 3.8; RFC 9165, section 4)

-- one of so many numbers from `first` on
unfoldable pub any_from : (ℕ → Option Bool) → ℕ → ℕ → Option Bool
any_from f zero first = Some false
any_from f (suc count) first = f first >>= λ b. if b then Some true else any_from f count (first + 1)

-- how many sizes there are: the numbers of a schema have 128 bits with their sign
abbrev pub size_count : ℕ
size_count = 2 ^ 127

-- `.size` (RFC 8610, section 3.8.1): the bytes of a string; a number is below 256 ^ k for one of the sizes k
abbrev pub has_size : (ℕ → Option Bool) → Value → Option Bool
has_size f (bytes b) = f (length b)
has_size f (text t) = f (length t)
has_size f (integer (pos n)) = any_from (λ k. if nat_lt n (256 ^ k) then f k else Some false) size_count 0
has_size f x = Some false

-- each of the lowest bits of a number that is set; the lowest one has the number `first`
abbrev pub all_bits : (ℕ → Option Bool) → ℕ → ℕ → ℕ → Option Bool
all_bits f zero first n = Some true
all_bits f (suc count) first n =
    if n % 2 == 1 then both (f first) (all_bits f count (first + 1) (n / 2)) else all_bits f count (first + 1) (n / 2)

abbrev pub all_bits_of : (ℕ → Option Bool) → ℕ → List ℕ → Option Bool
all_bits_of f first [] = Some true
all_bits_of f first (b ∷ bs) = both (all_bits f 8 first b) (all_bits_of f (first + 8) bs)

-- `.bits`: each bit that is set
abbrev pub has_bits : (ℕ → Option Bool) → Value → Option Bool
has_bits f (bytes b) = all_bits_of f 0 b
has_bits f (integer (pos n)) = all_bits f 64 0 n
has_bits f x = Some false

-- an item is there, and fits
abbrev pub is_fit : (Value → Option Bool) → Option Value → Option Bool
is_fit f None = Some false
is_fit f (Some x) = f x

-- `.cbor`, `.cborseq`: the bytes encode a value that fits
abbrev pub has_inside : (List ℕ → Option Value) → (Value → Option Bool) → Value → Option Bool
has_inside decode f (bytes b) = is_fit f (decode b)
has_inside decode f x = Some false

-- `.regexp`, `.pcre`
abbrev pub has_match : (List ℕ → Bool) → Value → Bool
has_match f (text t) = f t
has_match f x = false

-- `.ne`
abbrev pub fails : Option Bool → Option Bool
fails (Some b) = Some (not b)
fails None = None

-- the type that a control is about, which has to fit as well
abbrev pub target : Node → Option ℕ
target (node.Size t s) = Some t
target (node.Bits t s) = Some t
target (node.Encoded t u) = Some t
target (node.EncodedSequence t u) = Some t
target (node.Pattern t p anchored operand) = Some t
target (node.Compared t c limit) = Some t
target (node.Both t u) = Some t
target (node.Unequal t u) = Some t
target other = None

abbrev pub fits_target : (ℕ → Value → Option Bool) → Option ℕ → Value → Option Bool
fits_target f None x = Some true
fits_target f (Some t) x = f t x

-- Whether a value fits the type at index n, which is this node; of a control, whether it has what the control asks for.
abbrev pub fits_itself : Rules → Matcher → ℕ → Node → Value → Option Bool
fits_itself r m n (node.Rule i) x = m.fits (r.body i) x
fits_itself r m n (node.Choice l) x = any_of (λ t. m.fits t x) (r.list l)
fits_itself r m n (node.Array g) x = in_array (m.takes g) x
fits_itself r m n (node.Map g) x = in_map (m.takes g) x
fits_itself r m n (node.Tag number t) x = in_tag (λ k. Some (number == k)) (m.fits t) x
fits_itself r m n (node.AnyTag numbers t) x = in_tag (number_fits m.fits numbers) (m.fits t) x
fits_itself r m n (node.Simples t) x = in_simple (λ k. m.fits t (integer (pos k))) x
fits_itself r m n (node.Both t u) x = m.fits u x
fits_itself r m n (node.Unequal t u) x = fails (m.fits u x)
fits_itself r m n (node.Size t s) x = has_size (λ k. m.fits s (integer (pos k))) x
fits_itself r m n (node.Bits t s) x = has_bits (λ k. m.fits s (integer (pos k))) x
fits_itself r m n (node.Encoded t u) x = has_inside r.decoded (m.fits u) x
fits_itself r m n (node.EncodedSequence t u) x = has_inside r.decoded_sequence (m.fits u) x
fits_itself r m n (node.Pattern t p anchored operand) x = Some (has_match (r.is_match n) x)
fits_itself r m n (node.Compared t c limit) x = Some (compares_with c limit x)
fits_itself r m n leaf x = Some (fits_leaf r leaf x)

abbrev pub fits_node : Rules → Matcher → ℕ → Node → Value → Option Bool
fits_node r m n t x = both (fits_target m.fits (target t) x) (fits_itself r m n t x)

-- What the group at index n, which is this node, takes. A type takes one member.
abbrev pub takes_node : Rules → Matcher → ℕ → Node → Rest → Option Outcome
takes_node r m n (node.Sequence l) rest = in_turn m.takes (r.list l) rest
takes_node r m n (node.GroupChoice l) rest = first_of (λ g. m.takes g rest) (r.list l) refuses
takes_node r m n (node.Repeated g o) rest = occurs (m.takes g) o rest
takes_node r m n (node.Entry k cut t o) rest = occurs_under (m.fits k) (m.fits t) (m.takes t) cut o rest
takes_node r m n (node.Rule i) rest =
    if r.is_group (node.Rule i) then m.takes (r.body i) rest else one_member (m.fits n) rest
takes_node r m n other rest = one_member (m.fits n) rest

abbrev pub step : Rules → Matcher → Matcher
step r m = record {
  fits = λ n x. fits_node r m n (r.node n) x;
  takes = λ n rest. takes_node r m n (r.node n) rest;
}

-- what fits and what is taken, if types and groups are nested at most `levels` deep
unfoldable pub matcher : Rules → ℕ → Matcher
matcher r zero = record { fits = λ n x. None; takes = λ n rest. None }
matcher r (suc levels) = step r (matcher r levels)

-- the value fits the type at index n
abbrev pub Fits : Rules → ℕ → Value → Type 0
Fits r n x = (levels : ℕ) × ((matcher r levels).fits n x ≡ Some true)

-- whether bytes encode an item that fits the type at index n, by such levels; `None` if that takes more of them
abbrev pub accepts : Rules → ℕ → ℕ → List ℕ → Option Bool
accepts r levels n b = is_fit ((matcher r levels).fits n) (r.decoded b)
