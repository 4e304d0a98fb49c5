-- `Stays p q`: if `p` has an answer, `q` has the same. Each part of the definition of fitting (`in_turn`, `occurs`,
-- `in_map`, `has_size` and the others) keeps this: if the answers that it asks for stay, its own answer stays.
-- `MoreLevels` needs this for one level.
use Rattle.std.proofs.Common.{◌≡◌, ℕ, zero, suc, ◌+◌, ◌-◌, ◌/◌, ◌%◌, ◌==◌, List, [], ◌∷◌, Bool, true, false}
use Rattle.std.proofs.Common.{Option, Some, None, if◌then◌else◌, pos, refl, ap, ◌∙◌, ◌^◌, nat_lt}
use Rattle.cbor_cddl.specs.declared.schema.Occurrence.{Occurrence}
use Rattle.cbor_fits.specs.Value.{Value, integer, simple, bytes, text, array, map, tagged, list_of, list_of_pairs}
use Rattle.cbor_fits.specs.Fits.{◌>>=◌, both, any_of, Rest, members, pairs, size, Outcome, takes, refuses, cuts}
use Rattle.cbor_fits.specs.Fits.{then_takes, in_turn, or_else, first_of, after_turn, repeated, occurs, one_member}
use Rattle.cbor_fits.specs.Fits.{Split, with_pair, split, no_split, occurs_under}
use Rattle.cbor_fits.specs.Fits.{in_array, in_map, in_tag, in_simple, number_fits, any_from, size_count, has_size}
use Rattle.cbor_fits.specs.Fits.{all_bits, all_bits_of, has_bits, is_fit, has_inside, fails, fits_target}

-- if the first one is an answer, the second one is the same
pub record Stays {A : Type 0} (p q : Option A) : Type 0 where
  pub stays : (a : A) → p ≡ Some a → q ≡ Some a

pub same : {A : Type 0} (p : Option A) → Stays p p
same p = record { stays = λ a e. e }

pub none_stays : {A : Type 0} (q : Option A) → Stays None q
none_stays q = record { stays = λ a e. absurd (cc) }

pub then_stays : {A B : Type 0} {p q : Option A} {f g : A → Option B} → Stays p q → ((a : A) → Stays (f a) (g a))
    → Stays (p >>= f) (q >>= g)
then_stays {p = None} h k = none_stays _
then_stays {p = Some a} {q = q} {f = f} {g = g} h k =
    record { stays = λ b e. ap (λ o. o >>= g) (h.stays a refl) ∙ (k a).stays b e }

pub if_stays : {A : Type 0} (b : Bool) {p q s t : Option A} → Stays p q → Stays s t
    → Stays (if b then p else s) (if b then q else t)
if_stays true h k = h
if_stays false h k = k

pub both_stays : {p q b c : Option Bool} → Stays p q → Stays b c → Stays (both p b) (both q c)
both_stays {p = Some true} {c = c} h k = record { stays = λ a e. ap (λ o. both o c) (h.stays true refl) ∙ k.stays a e }
both_stays {p = Some false} {c = c} h k = record { stays = λ a e. ap (λ o. both o c) (h.stays false refl) ∙ e }
both_stays {p = None} h k = none_stays _

pub any_of_stays : {A : Type 0} {f g : A → Option Bool} → ((x : A) → Stays (f x) (g x)) → (xs : List A)
    → Stays (any_of f xs) (any_of g xs)
any_of_stays h [] = same _
any_of_stays h (x ∷ xs) = then_stays (h x) (λ b. if_stays b (same _) (any_of_stays h xs))

-- ---- groups

then_takes_stays : (o : Outcome) {f g : Rest → Option Outcome} → ((rest : Rest) → Stays (f rest) (g rest))
    → Stays (then_takes o f) (then_takes o g)
then_takes_stays (takes rest) h = h rest
then_takes_stays refuses h = same _
then_takes_stays cuts h = same _

pub in_turn_stays : {f g : ℕ → Rest → Option Outcome} → ((n : ℕ) (rest : Rest) → Stays (f n rest) (g n rest))
    → (l : List ℕ) (rest : Rest) → Stays (in_turn f l rest) (in_turn g l rest)
in_turn_stays h [] rest = same _
in_turn_stays h (n ∷ l) rest = then_stays (h n rest) (λ o. then_takes_stays o (in_turn_stays h l))

or_else_stays : (o failed : Outcome) {f g : Outcome → Option Outcome} → ((last : Outcome) → Stays (f last) (g last))
    → Stays (or_else o failed f) (or_else o failed g)
or_else_stays (takes rest) failed h = same _
or_else_stays refuses failed h = h failed
or_else_stays cuts failed h = h cuts

pub first_of_stays : {f g : ℕ → Option Outcome} → ((n : ℕ) → Stays (f n) (g n)) → (l : List ℕ) (failed : Outcome)
    → Stays (first_of f l failed) (first_of g l failed)
first_of_stays h [] failed = same _
first_of_stays h (n ∷ l) failed = then_stays (h n) (λ o. or_else_stays o failed (first_of_stays h l))

after_turn_stays : (o : Outcome) (rest : Rest) (least : ℕ) {f g : Rest → Option Outcome}
    → ((next : Rest) → Stays (f next) (g next)) → Stays (after_turn o rest least f) (after_turn o rest least g)
after_turn_stays (takes next) rest least h = if_stays (size next == size rest) (same _) (h next)
after_turn_stays refuses rest least h = same _
after_turn_stays cuts rest least h = same _

repeated_stays : {f g : Rest → Option Outcome} → ((rest : Rest) → Stays (f rest) (g rest)) → (turns least most : ℕ)
    (rest : Rest) → Stays (repeated f turns least most rest) (repeated g turns least most rest)
repeated_stays h zero least most rest = same _
repeated_stays h (suc turns) least most rest =
    if_stays (most == 0) (same _)
    (then_stays (h rest) (λ o. after_turn_stays o rest least (repeated_stays h turns (least - 1) (most - 1))))

pub occurs_stays : {f g : Rest → Option Outcome} → ((rest : Rest) → Stays (f rest) (g rest)) → (o : Occurrence)
    (rest : Rest) → Stays (occurs f o rest) (occurs g o rest)
occurs_stays h o rest = repeated_stays h (size rest + 1) o.least o.most rest

pub one_member_stays : {f g : Value → Option Bool} → ((x : Value) → Stays (f x) (g x)) → (rest : Rest)
    → Stays (one_member f rest) (one_member g rest)
one_member_stays h (members []) = same _
one_member_stays h (members (x ∷ xs)) = then_stays (h x) (λ b. same _)
one_member_stays h (pairs ps) = same _

-- ---- entries of a map

split_stays : {key more_key fits more_fits : Value → Option Bool} → ((x : Value) → Stays (key x) (more_key x))
    → ((x : Value) → Stays (fits x) (more_fits x)) → (ps : List (Value × Value)) (s : Split)
    → Stays (split key fits ps s) (split more_key more_fits ps s)
split_stays h k [] s = same _
split_stays h k (p ∷ ps) s =
    then_stays (h p.0)
    (λ b. then_stays (if_stays b (k p.1) (same _)) (λ v. split_stays h k ps (with_pair p b v s)))

pub occurs_under_stays : {key more_key fits more_fits : Value → Option Bool} {f g : Rest → Option Outcome}
    → ((x : Value) → Stays (key x) (more_key x)) → ((x : Value) → Stays (fits x) (more_fits x))
    → ((rest : Rest) → Stays (f rest) (g rest)) → (cut : Bool) (o : Occurrence) (rest : Rest)
    → Stays (occurs_under key fits f cut o rest) (occurs_under more_key more_fits g cut o rest)
occurs_under_stays h k l cut o (members xs) = occurs_stays l o (members xs)
occurs_under_stays h k l cut o (pairs ps) = then_stays (split_stays h k ps (no_split o)) (λ s. same _)

-- ---- types

pub in_array_stays : {f g : Rest → Option Outcome} → ((rest : Rest) → Stays (f rest) (g rest)) → (x : Value)
    → Stays (in_array f x) (in_array g x)
in_array_stays h (array xs) = then_stays (h (members (list_of xs))) (λ o. same _)
in_array_stays h x = same _

pub in_map_stays : {f g : Rest → Option Outcome} → ((rest : Rest) → Stays (f rest) (g rest)) → (x : Value)
    → Stays (in_map f x) (in_map g x)
in_map_stays h (map ps) = then_stays (h (pairs (list_of_pairs ps))) (λ o. same _)
in_map_stays h x = same _

pub in_tag_stays : {number more : ℕ → Option Bool} {f g : Value → Option Bool}
    → ((n : ℕ) → Stays (number n) (more n)) → ((x : Value) → Stays (f x) (g x)) → (x : Value)
    → Stays (in_tag number f x) (in_tag more g x)
in_tag_stays h k (tagged n x) = both_stays (h n) (k x)
in_tag_stays h k x = same _

pub in_simple_stays : {f g : ℕ → Option Bool} → ((n : ℕ) → Stays (f n) (g n)) → (x : Value)
    → Stays (in_simple f x) (in_simple g x)
in_simple_stays h (simple n) = h n
in_simple_stays h x = same _

pub number_fits_stays : {f g : ℕ → Value → Option Bool} → ((n : ℕ) (x : Value) → Stays (f n x) (g n x)) → (t : Option ℕ)
    (n : ℕ) → Stays (number_fits f t n) (number_fits g t n)
number_fits_stays h None n = same _
number_fits_stays h (Some t) n = h t (integer (pos n))

pub fits_target_stays : {f g : ℕ → Value → Option Bool} → ((n : ℕ) (x : Value) → Stays (f n x) (g n x)) → (t : Option ℕ)
    (x : Value) → Stays (fits_target f t x) (fits_target g t x)
fits_target_stays h None x = same _
fits_target_stays h (Some t) x = h t x

-- ---- controls

any_from_stays : {f g : ℕ → Option Bool} → ((n : ℕ) → Stays (f n) (g n)) → (count first : ℕ)
    → Stays (any_from f count first) (any_from g count first)
unfolding any_from
any_from_stays h zero first = same _
any_from_stays h (suc count) first =
    then_stays (h first) (λ b. if_stays b (same _) (any_from_stays h count (first + 1)))

pub has_size_stays : {f g : ℕ → Option Bool} → ((n : ℕ) → Stays (f n) (g n)) → (x : Value)
    → Stays (has_size f x) (has_size g x)
has_size_stays h (bytes b) = h _
has_size_stays h (text t) = h _
has_size_stays h (integer (pos n)) = any_from_stays (λ k. if_stays (nat_lt n (256 ^ k)) (h k) (same _)) size_count 0
has_size_stays h x = same _

all_bits_stays : {f g : ℕ → Option Bool} → ((n : ℕ) → Stays (f n) (g n)) → (count first n : ℕ)
    → Stays (all_bits f count first n) (all_bits g count first n)
all_bits_stays h zero first n = same _
all_bits_stays h (suc count) first n =
    let rest = all_bits_stays h count (first + 1) (n / 2) in
    if_stays (n % 2 == 1) (both_stays (h first) rest) rest

all_bits_of_stays : {f g : ℕ → Option Bool} → ((n : ℕ) → Stays (f n) (g n)) → (first : ℕ) (bs : List ℕ)
    → Stays (all_bits_of f first bs) (all_bits_of g first bs)
all_bits_of_stays h first [] = same _
all_bits_of_stays h first (b ∷ bs) = both_stays (all_bits_stays h 8 first b) (all_bits_of_stays h (first + 8) bs)

pub has_bits_stays : {f g : ℕ → Option Bool} → ((n : ℕ) → Stays (f n) (g n)) → (x : Value)
    → Stays (has_bits f x) (has_bits g x)
has_bits_stays h (bytes b) = all_bits_of_stays h 0 b
has_bits_stays h (integer (pos n)) = all_bits_stays h 64 0 n
has_bits_stays h x = same _

is_fit_stays : {f g : Value → Option Bool} → ((x : Value) → Stays (f x) (g x)) → (o : Option Value)
    → Stays (is_fit f o) (is_fit g o)
is_fit_stays h None = same _
is_fit_stays h (Some x) = h x

pub has_inside_stays : (decode : List ℕ → Option Value) {f g : Value → Option Bool} → ((x : Value) → Stays (f x) (g x))
    → (x : Value) → Stays (has_inside decode f x) (has_inside decode g x)
has_inside_stays decode h (bytes b) = is_fit_stays h (decode b)
has_inside_stays decode h x = same _

pub fails_stays : {p q : Option Bool} → Stays p q → Stays (fails p) (fails q)
fails_stays {p = None} h = none_stays _
fails_stays {p = Some b} h = record { stays = λ a e. ap fails (h.stays b refl) ∙ e }
