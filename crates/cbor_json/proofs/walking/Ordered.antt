-- For `names.rt`: the names of an open object stay where they are in its text (`AreAt`) if a pair is added. No two of
-- the names are equal if each comes after all names before it by `name_order` or differs from each of them (`Known`).
-- The list that `are_distinct_sorted` sorts holds the names so far.
use Rattle.std.proofs.Common.{◌≡◌, ◌≢◌, ℕ, zero, suc, ◌+◌, ◌<◌, ◌≤◌, List, [], ◌∷◌, ◌++◌, length, Bool, true, false}
use Rattle.std.proofs.Common.{Ordering, Less, Equal, Greater, nat_cmp, is_lt, refl, sym, ap, subst, ◌∙◌, arith}
use Rattle.std.proofs.Common.{get_or, take, drop, below_more, length-append, Some}
use Rattle.std.proofs.Common.{length-take-le, get_or-take}
use Rattle.std.proofs.lemmas.Cmp.{on_total, then_total, nat_cmp_total, nat_list_cmp_total, tied_itself}
use Rattle.std.proofs.lemmas.Cmp.{same_from_slice_cmp_tested}
use Rattle.std.proofs.Common.{Bor, map, take-suc, Result, Ok, Err, is_ok, is_err, if◌then◌else◌}
use Rattle.std.proofs.lemmas.List.{map-append, take-append-le, get_or_default}
use Rattle.std.proofs.lemmas.Slice.{between_is, between_to_end}
use Rattle.std.proofs.Math.Seq.{drop-append_seam}
use Rattle.std.specs.Cmp.{IsTotalOrder}
use Rattle.std.specs.List.{All, between}
use Rattle.std.specs.Cmp.Lexicographic.{slice_cmp, slice_partial_cmp}
use Rattle.std.specs.Ordering.{MatchOrdering, ordering_reverse, ordering_then, is_some_and}
use Rattle.json.specs.Strict.{AreDistinct}
use Rattle.cbor_json.specs.declared.names.Name.{Name}
use Rattle.cbor_json.specs.mirror.Walking.{IsAt, AreAt, name_between, name_order}

-- ---- where names are

pub at_more : (text more : List ℕ) (name : Name) (n : List ℕ) → IsAt text name n → IsAt (text ++ more) name n
at_more text more name n h = (
  between_is (text ++ more) name.start name.end
      ∙ ap (drop name.start) (take-append-le name.end text more h.1) ∙ sym (between_is text name.start name.end) ∙ h.0,
  omega (arith, h.1, length-append text more),
)

pub are_more : (text more : List ℕ) (names : List Name) (ns : List (List ℕ)) → AreAt text names ns
    → AreAt (text ++ more) names ns
are_more text more [] [] h = tt
are_more text more [] (n ∷ ns) h = absurd h
are_more text more (name ∷ names) [] h = absurd h
are_more text more (name ∷ names) (n ∷ ns) h = (at_more text more name n h.0, are_more text more names ns h.1)

pub at_end : (before n : List ℕ) (name : Name) → name.start ≡ length before → name.end ≡ length (before ++ n)
    → IsAt (before ++ n) name n
at_end before n name starts ends = (
  between_to_end (before ++ n) name.start name.end (omega (arith, ends))
      ∙ ap (λ k. drop k (before ++ n)) starts ∙ drop-append_seam before n,
  omega (arith, ends),
)

pub are_one_more : (text : List ℕ) (names : List Name) (ns : List (List ℕ)) (name : Name) (n : List ℕ)
    → AreAt text names ns → IsAt text name n → AreAt text (names ++ name ∷ []) (ns ++ n ∷ [])
are_one_more text [] [] name n h one = (one, tt)
are_one_more text [] (m ∷ ns) name n h one = absurd h
are_one_more text (x ∷ names) [] name n h one = absurd h
are_one_more text (x ∷ names) (m ∷ ns) name n h one = (h.0, are_one_more text names ns name n h.1 one)

-- the names after a further pair: what is before its key, the key, what is between, the value
pub are_after : (out s n c b started key between written : List ℕ) (left : ℕ) (names : List Name)
    (ns : List (List ℕ)) → AreAt out names ns → started ≡ out ++ s → key ≡ started ++ n → between ≡ key ++ c
    → written ≡ between ++ b → AreAt written (names ++ name_between started key left ∷ []) (ns ++ n ∷ [])
are_after out s n c b started key between written left names ns h begins keyed colon ends =
    let own = name_between started key left ∷ [] in
    let before : AreAt started names ns = subst (λ x. AreAt x names ns) (sym begins) (are_more out s names ns h) in
    let all : AreAt (started ++ n) (names ++ own) (ns ++ n ∷ []) =
    are_one_more (started ++ n) names ns (name_between started key left) n (are_more started n names ns before)
    (at_end started n (name_between started key left) refl (ap (λ (x : List ℕ). length x) keyed)) in
    let at_key : AreAt key (names ++ own) (ns ++ n ∷ []) =
    subst (λ x. AreAt x (names ++ own) (ns ++ n ∷ [])) (sym keyed) all in
    let at_colon : AreAt between (names ++ own) (ns ++ n ∷ []) =
    subst (λ x. AreAt x (names ++ own) (ns ++ n ∷ [])) (sym colon)
    (are_more key c (names ++ own) (ns ++ n ∷ []) at_key) in
    subst (λ x. AreAt x (names ++ own) (ns ++ n ∷ [])) (sym ends)
    (are_more between b (names ++ own) (ns ++ n ∷ []) at_colon)

pub at_place : (text : List ℕ) (names : List Name) (ns : List (List ℕ)) (k : ℕ) (d : Name) (e : List ℕ)
    → AreAt text names ns → k < length names → IsAt text (get_or names k d) (get_or ns k e)
at_place text [] [] k d e h lt = absurd (omega (arith, lt))
at_place text [] (n ∷ ns) k d e h lt = absurd h
at_place text (x ∷ names) [] k d e h lt = absurd h
at_place text (x ∷ names) (n ∷ ns) zero d e h lt = h.0
at_place text (x ∷ names) (n ∷ ns) (suc k) d e h lt = at_place text names ns k d e h.1 (omega (arith, lt))

pub as_many : (text : List ℕ) (names : List Name) (ns : List (List ℕ)) → AreAt text names ns
    → length names ≡ length ns
as_many text [] [] h = refl
as_many text [] (n ∷ ns) h = absurd h
as_many text (x ∷ names) [] h = absurd h
as_many text (x ∷ names) (n ∷ ns) h = ap suc (as_many text names ns h.1)

-- the first of them
are_first : (text : List ℕ) (names : List Name) (ns : List (List ℕ)) (k : ℕ) → AreAt text names ns
    → AreAt text (take k names) (take k ns)
are_first text [] [] zero h = tt
are_first text [] [] (suc k) h = tt
are_first text [] (n ∷ ns) k h = absurd h
are_first text (x ∷ names) [] k h = absurd h
are_first text (x ∷ names) (n ∷ ns) zero h = tt
are_first text (x ∷ names) (n ∷ ns) (suc k) h = (h.0, are_first text names ns k h.1)

-- what is none of the first differs from each of them
pub new_among : (text : List ℕ) (names : List Name) (ns : List (List ℕ)) (k : ℕ) (this : List ℕ) → AreAt text names ns
    → k ≤ length names → ((ms : List (List ℕ)) → AreAt text (take k names) ms → All (λ n. n ≢ this) ms)
    → (j : ℕ) → j < k → get_or ns j [] ≢ this
new_among text names ns k this h within new j lt same =
    let many = as_many text names ns h in
    new (take k ns) (are_first text names ns k h) j []
    (omega (arith, lt, within, many, length-take-le k ns (omega (arith, within, many))))
    (get_or-take k ns j [] lt ∙ same)

-- ---- their order

pub total : IsTotalOrder name_order
total = then_total (on_total (λ (xs : List ℕ). length xs) nat_cmp_total) nat_list_cmp_total

less_of : (o : Ordering) → is_lt o ≡ true → o ≡ Less
less_of Less e = refl
less_of Equal e = absurd cc
less_of Greater e = absurd cc

-- the first does not come after the second
abbrev pub IsUpTo : List ℕ → List ℕ → Type 0
IsUpTo a b = is_lt (name_order b a) ≡ false

pub not_before_itself : (a b : List ℕ) → is_lt (name_order a b) ≡ true → a ≢ b
not_before_itself a b before same =
    let here : is_lt (name_order a a) ≡ true = subst (λ x. is_lt (name_order a x) ≡ true) (sym same) before in
    let tied = tied_itself total a in
    let wrong : true ≡ false = sym here ∙ ap is_lt tied in
    absurd cc

reversed : (o p : Ordering) → o ≡ ordering_reverse p → is_lt o ≡ true → is_lt p ≡ false
reversed o Less e lt = absurd (let w : is_lt o ≡ false = ap is_lt e in let wrong : true ≡ false = sym lt ∙ w in cc)
reversed o Equal e lt = refl
reversed o Greater e lt = refl

-- what is before the second is up to it
pub up_to : (a b : List ℕ) → is_lt (name_order a b) ≡ true → IsUpTo a b
up_to a b before = reversed (name_order a b) (name_order b a) (total.antisymm a b) before

pub up_to_itself : (a : List ℕ) → IsUpTo a a
up_to_itself a = ap is_lt (tied_itself total a)

cases : (o p : Ordering) → p ≡ ordering_reverse o → is_lt o ≡ false → (P : Type 0) → (p ≡ Less → P)
    → (p ≡ Equal → P) → P
cases Less p e not_less P f g = absurd cc
cases Equal p e not_less P f g = g e
cases Greater p e not_less P f g = f e

-- `<` of names of one length
tested : (xs ys : List ℕ) (r : Bool) → r ≡ is_some_and is_lt (slice_partial_cmp (λ x y. Some (nat_cmp x y)) xs ys)
    → r ≡ is_lt (slice_cmp nat_cmp xs ys)
tested = same_from_slice_cmp_tested nat_cmp is_lt (λ xs ys. is_lt (slice_cmp nat_cmp xs ys)) refl (λ y ys. refl)
    (λ x xs. refl) more
  where
    more : (x y : ℕ) (xs ys : List ℕ) (o : Ordering) → o ≡ nat_cmp x y
        → MatchOrdering o (is_lt (slice_cmp nat_cmp (x ∷ xs) (y ∷ ys)) ≡ true)
        (is_lt (slice_cmp nat_cmp (x ∷ xs) (y ∷ ys)) ≡ is_lt (slice_cmp nat_cmp xs ys))
        (is_lt (slice_cmp nat_cmp (x ∷ xs) (y ∷ ys)) ≡ false)
    more x y xs ys Less e = ap (λ o. is_lt (ordering_then o (slice_cmp nat_cmp xs ys))) (sym e)
    more x y xs ys Equal e = ap (λ o. is_lt (ordering_then o (slice_cmp nat_cmp xs ys))) (sym e)
    more x y xs ys Greater e = ap (λ o. is_lt (ordering_then o (slice_cmp nat_cmp xs ys))) (sym e)

pub before_by_bytes : (a b : List ℕ) (r : Bool) → length a ≡ length b
    → r ≡ is_some_and is_lt (slice_partial_cmp (λ x y. Some (nat_cmp x y)) a b) → r ≡ is_lt (name_order a b)
before_by_bytes a b r same e =
    let tied : nat_cmp (length a) (length b) ≡ Equal =
    ap (λ n. nat_cmp (length a) n) (sym same) ∙ tied_itself nat_cmp_total (length a) in
    tested a b r e ∙ ap (λ o. is_lt (ordering_then o (slice_cmp nat_cmp a b))) (sym tied)

-- what is up to a name that is before another is before that
pub before_all : (a b c : List ℕ) → IsUpTo a b → is_lt (name_order b c) ≡ true → is_lt (name_order a c) ≡ true
before_all a b c upto before =
    cases (name_order b a) (name_order a b) (total.antisymm a b) upto (is_lt (name_order a c) ≡ true)
    (λ less. ap is_lt (total.trans a b c less (less_of (name_order b c) before)))
    (λ tied. ap is_lt (total.congr a b c tied) ∙ before)

-- ---- what is known of the first names

-- none of them comes after the greatest, and no two are equal
pub record Known (ns : List (List ℕ)) (count : ℕ) (greatest : List ℕ) : Type 0 where
  pub upto : (j : ℕ) → j < count → IsUpTo (get_or ns j []) greatest
  pub apart : (j k : ℕ) → j < k → k < count → get_or ns j [] ≢ get_or ns k []

pub known_none : (ns : List (List ℕ)) (greatest : List ℕ) → Known ns 0 greatest
known_none ns greatest = record {
  upto = λ j lt. absurd (omega (arith, lt));
  apart = λ j k lt within. absurd (omega (arith, within));
}

module _ (ns : List (List ℕ)) (count : ℕ) (greatest this : List ℕ) (known : Known ns count greatest)
    (is : get_or ns count [] ≡ this) where
  apart_more : ((j : ℕ) → j < count → get_or ns j [] ≢ this) → (j k : ℕ) → j < k → k < count + 1
      → get_or ns j [] ≢ get_or ns k []
  apart_more new j k lt within = below_more (λ k. j < k → get_or ns j [] ≢ get_or ns k []) count
      (λ k below less. known.apart j k less below) (λ less e. new j less (e ∙ is)) k within lt

  -- one that comes after all
  pub known_after : is_lt (name_order greatest this) ≡ true → Known ns (count + 1) this
  known_after before = record {
    upto = below_more (λ j. IsUpTo (get_or ns j []) this) count
        (λ j lt. up_to (get_or ns j []) this (before_all (get_or ns j []) greatest this (known.upto j lt) before))
        (subst (λ x. IsUpTo x this) (sym is) (up_to_itself this));
    apart = apart_more (λ j lt. not_before_itself (get_or ns j []) this
        (before_all (get_or ns j []) greatest this (known.upto j lt) before));
  }

  -- one that differs from all
  pub known_new : is_lt (name_order greatest this) ≡ false → ((j : ℕ) → j < count → get_or ns j [] ≢ this)
      → Known ns (count + 1) greatest
  known_new not_after new = record {
    upto = below_more (λ j. IsUpTo (get_or ns j []) greatest) count known.upto
        (subst (λ x. IsUpTo x greatest) (sym is) not_after);
    apart = apart_more new;
  }

pub distinct : (ns : List (List ℕ)) (greatest : List ℕ) → Known ns (length ns) greatest → AreDistinct ns
distinct ns greatest known i j d less within e =
    known.apart i j less within (default i (omega (arith, less, within)) ∙ e ∙ sym (default j within))
  where
    default : (k : ℕ) → k < length ns → get_or ns k [] ≡ get_or ns k d
    default k lt = get_or_default ns k [] d lt

-- ---- names that are sorted

abbrev Key : Type 0
Key = Bor (List ℕ)

abbrev pub texts_of : List Key → List (List ℕ)
texts_of ks = map (λ (k : Key). k.now) ks

pub one_more_text : (ks : List Key) (k : Key) (ns : List (List ℕ)) (i : ℕ) → texts_of ks ≡ take i ns → i < length ns
    → get_or ns i [] ≡ k.now → texts_of (ks ++ k ∷ []) ≡ take (i + 1) ns
one_more_text ks k ns i so_far lt is =
    let next : suc i ≡ i + 1 = omega arith in
    map-append (λ (k : Key). k.now) ks (k ∷ []) ∙ ap (λ x. x ++ k.now ∷ []) so_far
    ∙ ap (λ x. take i ns ++ x ∷ []) (sym is) ∙ sym (take-suc ns i [] lt) ∙ ap (λ m. take m ns) next

-- what a `push` that is no error leaves
pub pushed_one : {T E : Type 0} (r : Result T E) (a b new : List Key) → is_err r ≡ false
    → new ≡ (if is_ok r then a else b) → new ≡ a
pushed_one (Ok x) a b new ok e = e
pushed_one (Err x) a b new ok e = absurd cc
