-- `uncommented` cuts a text at its first `#` or line feed: it keeps the bytes before that without spaces, and without a
-- carriage return right before the line feed, and then what it keeps of the lines that follow. Within a line,
-- `unspaced` drops one space or eight, and keeps a front that has none.
use Rattle.std.proofs.Common.{◌≡◌, ◌≢◌, ℕ, suc, ◌+◌, ◌-◌, ◌<◌, ◌≤◌, List, [], ◌∷◌, ◌++◌, length, take, drop, get_or}
use Rattle.std.proofs.Common.{false, refl, sym, ap, ◌∙◌, ◌==◌, arith, append-nil, inl, inr, take-take, drop-drop}
use Rattle.std.proofs.Common.{get_or-take, length-drop, get_or-drop, nat_eq, not, true, codes}
use Rattle.std.specs.List.{All, flat_map, position_or_len, before_first, after_first, slice_split}
use Rattle.std.specs.Cmp.Lexicographic.{pointwise, same_text}
use Rattle.std.specs.Str.Lines.{lines_of_parts, strip_carriage_return}
use Rattle.std.proofs.lemmas.Bool.{ne_eqb, eq-eqb, eqb-true, cases_eq, cases_lt}
use Rattle.std.proofs.lemmas.List.{take-append-drop, drop_more, drop_all, take_all, length-take-le}
use Rattle.std.proofs.lemmas.List.Elements.{All-from_get_or, filter-append}
use Rattle.std.proofs.lemmas.List.Splits.{length-slice_split, slice_split_first, slice_split_none}
use Rattle.std.proofs.lemmas.List.Sums.{position_or_len_is, fails_before_first, passes_at_first}
use Rattle.cbor_tokens.specs.Uncommented.{unspaced, kept, uncommented}

-- ---- spaces

-- a space is dropped
pub space_here : (line : List ℕ) (i : ℕ) → i < length line → get_or line i 0 ≡ 32
    → unspaced (drop i line) ≡ unspaced (drop (i + 1) line)
space_here line i inside e = rw (drop_more line i 0 inside, e) refl

-- and so are eight of them
pub eight_spaces : (line : List ℕ) → pointwise nat_eq (take 8 line) (codes "        ") ≡ true
    → unspaced (drop 8 line) ≡ unspaced line
eight_spaces line spaces =
    let same = same_text (take 8 line) (codes "        ") (sym spaces) in
    let parts = filter-append (λ (b : ℕ). not (b == 32)) (take 8 line) (drop 8 line) in
    sym (ap unspaced (sym (take-append-drop 8 line)) ∙ parts
    ∙ ap (λ (front : List ℕ). unspaced front ++ unspaced (drop 8 line)) same)

-- a line without spaces is kept
no_spaces : (line : List ℕ) → ((k : ℕ) → k < length line → get_or line k 0 ≢ 32) → unspaced line ≡ line
no_spaces [] none = refl
no_spaces (x ∷ rest) none = rw (ne_eqb x 32 (none 0 (omega arith)))
    (ap (λ (kept : List ℕ). x ∷ kept) (no_spaces rest (λ k lt. none (suc k) (omega arith))))

-- and so is the front of one
pub front_kept : (line : List ℕ) (n : ℕ) → n ≤ length line → ((k : ℕ) → k < n → get_or line k 0 ≢ 32)
    → unspaced line ≡ take n line ++ unspaced (drop n line)
front_kept line n le none =
    let len = length-take-le n line le in
    let front = no_spaces (take n line) (λ k below.
    let inside : k < n = omega (arith, len, below) in
    rw (get_or-take n line k 0 inside) (none k inside)) in
    ap unspaced (sym (take-append-drop n line)) ∙ filter-append (λ (b : ℕ). not (b == 32)) (take n line) (drop n line)
    ∙ ap (λ (kept : List ℕ). kept ++ unspaced (drop n line)) front

-- ---- comments

-- a line up to its first `#`, or to its end
uncommented_to : (line : List ℕ) (n : ℕ) → n ≤ length line → ((k : ℕ) → k < n → get_or line k 0 ≢ 35)
    → (n < length line → get_or line n 0 ≡ 35) → kept line ≡ unspaced (take n line)
uncommented_to line n le before here =
    let at : position_or_len (λ (b : ℕ). b == 35) line ≡ n =
    position_or_len_is (λ (b : ℕ). b == 35) line n 0 le (λ k lt. ne_eqb _ 35 (before k lt))
    (λ lt. eq-eqb _ 35 (here lt)) in
    ap (λ (k : ℕ). unspaced (take k line)) at

-- the carriage return before a line feed is after a `#`
uncommented_return : (line : List ℕ) (n : ℕ) → n < length line → ((k : ℕ) → k < n → get_or line k 0 ≢ 35)
    → get_or line n 0 ≡ 35 → kept (strip_carriage_return line) ≡ unspaced (take n line)
uncommented_return line n lt before here =
    elim (cases_eq (get_or line (length line - 1) 0) 13) [
      | inl is ↦
          let last : n ≢ length line - 1 = λ e. let h = ap (λ (k : ℕ). get_or line k 0) e in cc (here, h, is) in
          let len = length-take-le (length line - 1) line (omega arith) in
          let inside : n < length line - 1 = omega arith in
          rw (eq-eqb (get_or line (length line - 1) 0) 13 is)
          (uncommented_to (take (length line - 1) line) n (omega (arith, len))
          (λ k below. rw (get_or-take (length line - 1) line k 0 (omega arith)) (before k below))
          (λ _. get_or-take (length line - 1) line n 0 inside ∙ here)
          ∙ ap unspaced (take-take n (length line - 1) line (omega arith)))
      | inr other ↦
          rw (ne_eqb (get_or line (length line - 1) 0) 13 other)
          (uncommented_to line n (omega arith) before (λ _. here))
    ]

-- a line without `#`
uncommented_whole : (line : List ℕ) → ((k : ℕ) → k < length line → get_or line k 0 ≢ 35)
    → kept line ≡ unspaced line
uncommented_whole line none = uncommented_to line (length line) (omega arith) none (λ lt. absurd (omega arith))
    ∙ ap unspaced (take_all (length line) line (omega arith))

-- the same without the carriage return before its line feed
return_whole : (line : List ℕ) → ((k : ℕ) → k < length line → get_or line k 0 ≢ 35)
    → kept (strip_carriage_return line) ≡ unspaced (strip_carriage_return line)
return_whole line none =
    elim (cases_eq (get_or line (length line - 1) 0) 13) [
      | inl is ↦
          let len = length-take-le (length line - 1) line (omega arith) in
          rw (eq-eqb (get_or line (length line - 1) 0) 13 is)
          (uncommented_whole (take (length line - 1) line) (λ k below.
          let inside : k < length line - 1 = omega (arith, len, below) in
          rw (get_or-take (length line - 1) line k 0 inside) (none k (omega arith))))
      | inr other ↦ rw (ne_eqb (get_or line (length line - 1) 0) 13 other) (uncommented_whole line none)
    ]

-- ---- lines

-- what is kept of some lines
abbrev uncommented_lines : List (List ℕ) → List ℕ
uncommented_lines = flat_map kept

-- the lines of some parts, one in front of others
parts_cons : (x : List ℕ) (parts : List (List ℕ)) → 0 < length parts
    → lines_of_parts (x ∷ parts) ≡ strip_carriage_return x ∷ lines_of_parts parts
parts_cons x [] some = absurd (omega arith)
parts_cons x (y ∷ more) some = refl

parts_one : (x : List ℕ) → 0 < length x → lines_of_parts (x ∷ []) ≡ x ∷ []
parts_one x some = rw (ne_eqb (length x) 0 (λ none. absurd (omega arith))) refl

-- what is kept of the first line, which ends at a line feed, and of those after it
strip_line : (text : List ℕ) (n : ℕ) → n < length text → ((k : ℕ) → k < n → get_or text k 0 ≢ 10) → get_or text n 0 ≡ 10
    → uncommented text ≡ kept (strip_carriage_return (take n text)) ++ uncommented (drop (n + 1) text)
strip_line text n lt before here =
    let feed = λ (b : ℕ). b == 10 in
    let at : position_or_len feed text ≡ n =
    position_or_len_is feed text n 0 (omega arith) (λ k below. ne_eqb _ 10 (before k below)) (λ _. eq-eqb _ 10 here) in
    let split = slice_split_first feed text 0 (omega (arith, at)) in
    let some : 0 < length (slice_split feed (after_first feed text)) =
    omega (arith, length-slice_split feed (after_first feed text)) in
    ap (λ (parts : List (List ℕ)). uncommented_lines (lines_of_parts parts)) split
    ∙ ap uncommented_lines (parts_cons (before_first feed text) (slice_split feed (after_first feed text)) some)
    ∙ ap (λ (k : ℕ). kept (strip_carriage_return (take k text)) ++ uncommented (drop (k + 1) text)) at

-- a text that is one line
uncommented_last : (text : List ℕ) → ((k : ℕ) → k < length text → get_or text k 0 ≢ 10) → uncommented text ≡ kept text
uncommented_last [] before = refl
uncommented_last (x ∷ rest) before =
    let feed = λ (b : ℕ). b == 10 in
    let none : All (λ (b : ℕ). (b == 10) ≡ false) (x ∷ rest) =
    All-from_get_or (λ (b : ℕ). (b == 10) ≡ false) (x ∷ rest) 0 (λ k lt. ne_eqb _ 10 (before k lt)) in
    let split = slice_split_none feed (x ∷ rest) none in
    ap (λ (parts : List (List ℕ)). uncommented_lines (lines_of_parts parts)) split
    ∙ ap uncommented_lines (parts_one (x ∷ rest) (omega arith)) ∙ append-nil (kept (x ∷ rest))

-- ---- the first line, as it is cut off

-- there is neither `#` nor a line feed
pub cut_whole : (text : List ℕ) → ((k : ℕ) → k < length text → (get_or text k 0 ≢ 35) × (get_or text k 0 ≢ 10))
    → uncommented text ≡ unspaced text
cut_whole text none = uncommented_last text (λ k lt. (none k lt).1) ∙ uncommented_whole text (λ k lt. (none k lt).0)

-- a line feed comes first
pub cut_feed : (text : List ℕ) (n : ℕ) → n < length text
    → ((k : ℕ) → k < n → (get_or text k 0 ≢ 35) × (get_or text k 0 ≢ 10))
    → get_or text n 0 ≡ 10 → uncommented text
    ≡ unspaced (strip_carriage_return (take n text)) ++ uncommented (drop (n + 1) text)
cut_feed text n lt none here =
    let len = length-take-le n text (omega arith) in
    let whole = return_whole (take n text) (λ k below.
    let inside : k < n = omega (arith, len, below) in
    rw (get_or-take n text k 0 inside) ((none k inside).0)) in
    strip_line text n lt (λ k below. (none k below).1) here
    ∙ ap (λ (line : List ℕ). line ++ uncommented (drop (n + 1) text)) whole

-- a `#` comes first, and a line feed is m places after it
comment_then_feed : (text : List ℕ) (n m : ℕ) → n + m < length text
    → ((k : ℕ) → k < n → (get_or text k 0 ≢ 35) × (get_or text k 0 ≢ 10))
    → get_or text n 0 ≡ 35 → ((k : ℕ) → k < m → get_or text (n + k) 0 ≢ 10) → get_or text (n + m) 0 ≡ 10
    → uncommented text ≡ unspaced (take n text) ++ uncommented (drop (n + m + 1) text)
comment_then_feed text n m lt none here later feed =
    let apart : n ≢ n + m = λ e. let h = ap (λ (k : ℕ). get_or text k 0) e in cc (here, h, feed) in
    let inside : n < n + m = omega arith in
    let len = length-take-le (n + m) text (omega arith) in
    let line = uncommented_return (take (n + m) text) n (omega (arith, len))
    (λ k below. let near : k < n + m = omega arith in rw (get_or-take (n + m) text k 0 near) ((none k below).0))
    (get_or-take (n + m) text n 0 inside ∙ here) in
    let no_feed : (k : ℕ) → k < n + m → get_or text k 0 ≢ 10 = λ k below.
    elim (cases_lt k n) [
      | inl before ↦ (none k before).1
      | inr behind ↦
          let same : n + (k - n) ≡ k = omega arith in
          rw same at (later (k - n) (omega arith))
    ] in
    strip_line text (n + m) lt no_feed feed
    ∙ ap (λ (kept : List ℕ). kept ++ uncommented (drop (n + m + 1) text))
    (line ∙ ap unspaced (take-take n (n + m) text (omega arith)))

-- a `#` comes first
pub cut_comment : (text : List ℕ) (n : ℕ) → n < length text
    → ((k : ℕ) → k < n → (get_or text k 0 ≢ 35) × (get_or text k 0 ≢ 10))
    → get_or text n 0 ≡ 35 → uncommented text
    ≡ unspaced (take n text) ++ uncommented (after_first (λ b. b == 10) (drop n text))
cut_comment text n lt none here =
    let feed = λ (b : ℕ). b == 10 in
    let rest = drop n text in
    let m = position_or_len feed rest in
    let len = length-drop n text in
    let apart : (k : ℕ) → k < m → get_or text (n + k) 0 ≢ 10 = λ k below e.
    let no = fails_before_first feed rest k 0 below in
    cc (no, get_or-drop n text k 0, eq-eqb (get_or text (n + k) 0) 10 e) in
    elim (cases_lt m (length rest)) [
      | inl inside ↦
          let passes = passes_at_first feed rest 0 inside in
          let is : get_or text (n + m) 0 ≡ 10 = sym (get_or-drop n text m 0) ∙ eqb-true _ 10 passes in
          comment_then_feed text n m (omega (arith, len)) none here apart is
          ∙ ap (λ (behind : List ℕ). unspaced (take n text) ++ uncommented behind)
          (sym (drop-drop (m + 1) n text ∙ ap (λ (k : ℕ). drop k text) (omega arith)))
      | inr all ↦
          let no_feed : (k : ℕ) → k < length text → get_or text k 0 ≢ 10 = λ k below.
          elim (cases_lt k n) [
            | inl before ↦ (none k before).1
            | inr behind ↦
                let same : n + (k - n) ≡ k = omega arith in
                rw same at (apart (k - n) (omega (arith, len)))
          ] in
          let nothing : drop (m + 1) rest ≡ [] = drop_all (m + 1) rest (omega arith) in
          uncommented_last text no_feed ∙ uncommented_to text n (omega arith) (λ k below. (none k below).0) (λ _. here)
          ∙ sym (ap (λ (behind : List ℕ). unspaced (take n text) ++ uncommented behind) nothing
          ∙ append-nil (unspaced (take n text)))
    ]
