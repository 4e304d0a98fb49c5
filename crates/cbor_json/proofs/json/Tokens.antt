-- The definition `Reads`: a text without hidden characters is a JSON value, which is read as its tokens wherever a
-- value may begin (`Takes`). JSON strings, numbers, `true`, `false` and `null` are such texts; members in brackets, and
-- a key with its value, are read as their tokens. A text that `Reads` with up to 128 levels is a JSON `document`.
use Rattle.std.proofs.Common.{◌≡◌, ◌≢◌, ℕ, suc, ◌≤◌, List, [], ◌∷◌, ◌++◌, Bool, true, false, Some, IsTrue}
use Rattle.std.proofs.Common.{if◌then◌else◌, cond, codes, refl, sym, ap, ap₂, ◌∙◌, arith, append_assoc, append-nil}
use Rattle.std.specs.List.{flat_map}
use Rattle.json.specs.Json.{Json, null, boolean, number, string}
use Rattle.json.specs.Json.{document, value, if_last, max_depth}
use Rattle.std.specs.Prelude.{option_and_then}
use Rattle.json.specs.Lex.{Lexeme, token, colon, lex, between, Place, fresh, after_value, after_comma, after_key}
use Rattle.json.specs.Lex.{begins_colon, may_begin, punctuate}
use Rattle.json.specs.Print.{IsNumber}
use Rattle.json.specs.Strict.{HasUniqueKeys}
use Rattle.json.specs.Token as tok
use Rattle.json.specs.Token.{Token}
use Rattle.json.specs.Tree.{json_tokens, depth}
use Rattle.json.specs.Word.{ends_word, word}
use Rattle.json.proofs.Printed.Numbers.{lex-number, in_word-ended}
use Rattle.json.proofs.Printed.Trees.{value-json_tokens}
use Rattle.cbor_notation_writer.specs.Dialect.{listed}
use Rattle.cbor_json.proofs.json.Fills.{Shows}
use Rattle.cbor_json.proofs.json.Strings.{IsString}

-- Where a value may begin, and before what may follow one, the text is read as these tokens.
abbrev pub Takes : List ℕ → List Token → Type 0
Takes t ts =
    (p : Place) (r : List ℕ) → may_begin p ≡ true → ends_word r ≡ true → begins_colon (lex between r) ≡ false
    → punctuate p (lex between (t ++ r)) ≡ ts ++ punctuate after_value (lex between r)

-- the text is that of a value with this many levels; where it is asked for, no object of it has a key twice
pub record Reads (strict : Bool) (left : ℕ) (t : List ℕ) : Type 0 where
  pub means : Json
  pub unique : IsTrue strict → HasUniqueKeys means
  pub low : depth means ≤ left
  pub takes : Takes t (json_tokens means)
  pub shows : Shows t

-- more levels are no harm
abbrev pub lower : {strict : Bool} {left n : ℕ} {t : List ℕ} → left ≤ n → Reads strict left t → Reads strict n t
lower le h = record {
  means = h.means;
  unique = h.unique;
  low = omega (arith, le, h.low);
  takes = h.takes;
  shows = h.shows;
}

abbrev pub deeper : {strict : Bool} {left : ℕ} {t : List ℕ} → Reads strict left t → Reads strict (suc left) t
deeper h = lower (omega arith) h

-- ---- what holds no value

begin_string : (p : Place) (s : List ℕ) (ls : List Lexeme) → may_begin p ≡ true → begins_colon ls ≡ false
    → punctuate p (token (tok.string s) ∷ ls) ≡ tok.string s ∷ punctuate after_value ls
unfolding punctuate
begin_string fresh s ls may no_colon = rw no_colon refl
begin_string after_value s ls may no_colon = absurd cc
begin_string after_comma s ls may no_colon = rw no_colon refl
begin_string after_key s ls may no_colon = absurd cc

begin_key : (p : Place) (s : List ℕ) (ls : List Lexeme) → may_begin p ≡ true
    → punctuate p (token (tok.string s) ∷ colon ∷ ls) ≡ tok.key s ∷ punctuate fresh ls
unfolding punctuate
begin_key fresh s ls may = refl
begin_key after_value s ls may = absurd cc
begin_key after_comma s ls may = refl
begin_key after_key s ls may = absurd cc

begin_number : (p : Place) (s : List ℕ) (ls : List Lexeme) → may_begin p ≡ true
    → punctuate p (token (tok.number s) ∷ ls) ≡ tok.number s ∷ punctuate after_value ls
unfolding punctuate
begin_number fresh s ls may = refl
begin_number after_value s ls may = absurd cc
begin_number after_comma s ls may = refl
begin_number after_key s ls may = absurd cc

begin_boolean : (p : Place) (b : Bool) (ls : List Lexeme) → may_begin p ≡ true
    → punctuate p (token (tok.boolean b) ∷ ls) ≡ tok.boolean b ∷ punctuate after_value ls
unfolding punctuate
begin_boolean fresh b ls may = refl
begin_boolean after_value b ls may = absurd cc
begin_boolean after_comma b ls may = refl
begin_boolean after_key b ls may = absurd cc

begin_null : (p : Place) (ls : List Lexeme) → may_begin p ≡ true
    → punctuate p (token tok.null ∷ ls) ≡ tok.null ∷ punctuate after_value ls
unfolding punctuate
begin_null fresh ls may = refl
begin_null after_value ls may = absurd cc
begin_null after_comma ls may = refl
begin_null after_key ls may = absurd cc

pub string_reads : {strict : Bool} {left : ℕ} {t : List ℕ} → IsString t → Reads strict left t
string_reads h = record {
  means = string h.means;
  unique = λ _. tt;
  low = omega arith;
  takes = λ p r may ends no_colon. ap (punctuate p) (h.lexed r) ∙ begin_string p h.means (lex between r) may no_colon;
  shows = h.shows;
}

pub number_reads : {strict : Bool} {left : ℕ} (t : List ℕ) → IsNumber t → Shows t → Reads strict left t
number_reads t h shows = record {
  means = number t;
  unique = λ _. tt;
  low = omega arith;
  takes = λ p r may ends no_colon. ap (punctuate p) (lex-number t r h ends) ∙ begin_number p t (lex between r) may;
  shows = shows;
}

lex_true : (r : List ℕ) → ends_word r ≡ true → lex between (codes "true" ++ r)
    ≡ token (tok.boolean true) ∷ lex between r
unfolding lex word
lex_true r ends = ap₂ (λ b l. token (cond b (tok.boolean true) tok.bad) ∷ l) ends (in_word-ended r ends)

lex_false : (r : List ℕ) → ends_word r ≡ true
    → lex between (codes "false" ++ r) ≡ token (tok.boolean false) ∷ lex between r
unfolding lex word
lex_false r ends = ap₂ (λ b l. token (cond b (tok.boolean false) tok.bad) ∷ l) ends (in_word-ended r ends)

lex_null : (r : List ℕ) → ends_word r ≡ true → lex between (codes "null" ++ r) ≡ token tok.null ∷ lex between r
unfolding lex word
lex_null r ends = ap₂ (λ b l. token (cond b tok.null tok.bad) ∷ l) ends (in_word-ended r ends)

pub true_reads : {strict : Bool} {left : ℕ} → Shows (codes "true") → Reads strict left (codes "true")
true_reads shows = record {
  means = boolean true;
  unique = λ _. tt;
  low = omega arith;
  takes = λ p r may ends no_colon. ap (punctuate p) (lex_true r ends) ∙ begin_boolean p true (lex between r) may;
  shows = shows;
}

pub false_reads : {strict : Bool} {left : ℕ} → Shows (codes "false") → Reads strict left (codes "false")
false_reads shows = record {
  means = boolean false;
  unique = λ _. tt;
  low = omega arith;
  takes = λ p r may ends no_colon. ap (punctuate p) (lex_false r ends) ∙ begin_boolean p false (lex between r) may;
  shows = shows;
}

pub null_reads : {strict : Bool} {left : ℕ} → Shows (codes "null") → Reads strict left (codes "null")
null_reads shows = record {
  means = null;
  unique = λ _. tt;
  low = omega arith;
  takes = λ p r may ends no_colon. ap (punctuate p) (lex_null r ends) ∙ begin_null p (lex between r) may;
  shows = shows;
}

-- ---- members

abbrev pub AllTake : List (List ℕ) → List (List Token) → Type 0
AllTake [] [] = Unit {0}
AllTake [] (ts ∷ tss) = ⊥
AllTake (m ∷ ms) [] = ⊥
AllTake (m ∷ ms) (ts ∷ tss) = Takes m ts × AllTake ms tss

abbrev pub all_tokens : List (List Token) → Token → List Token
all_tokens [] e = e ∷ []
all_tokens (ts ∷ tss) e = ts ++ all_tokens tss e

-- an array, or else an object
abbrev pub opening : Bool → ℕ
opening is_array = if is_array then 91 else 123

abbrev pub closing : Bool → ℕ
closing is_array = if is_array then 93 else 125

abbrev pub open_token : Bool → Token
open_token is_array = if is_array then tok.begin_array else tok.begin_object

abbrev pub close_token : Bool → Token
close_token is_array = if is_array then tok.end_array else tok.end_object

-- before a member
abbrev pub comma_unless : Bool → List ℕ
comma_unless first = if first then [] else codes ", "

abbrev separated : List (List ℕ) → List ℕ
separated ms = flat_map (λ x. codes ", " ++ (x ++ [])) ms

-- what is after a member begins neither a word nor a colon
after_ends : (is_array : Bool) (ms : List (List ℕ)) (r : List ℕ)
    → ends_word (separated ms ++ (closing is_array ∷ r)) ≡ true
after_ends true [] r = refl
after_ends false [] r = refl
after_ends is_array (m ∷ ms) r = refl

after_no_colon : (is_array : Bool) (ms : List (List ℕ)) (r : List ℕ)
    → begins_colon (lex between (separated ms ++ (closing is_array ∷ r))) ≡ false
unfolding lex
after_no_colon true [] r = refl
after_no_colon false [] r = refl
after_no_colon is_array (m ∷ ms) r = refl

closed : (is_array : Bool) (p : Place) (r : List ℕ) → p ≢ after_comma → p ≢ after_key
    → punctuate p (lex between (closing is_array ∷ r)) ≡ close_token is_array ∷ punctuate after_value (lex between r)
unfolding lex punctuate
closed true fresh r c k = refl
closed true after_value r c k = refl
closed true after_comma r c k = absurd (c refl)
closed true after_key r c k = absurd (k refl)
closed false fresh r c k = refl
closed false after_value r c k = refl
closed false after_comma r c k = absurd (c refl)
closed false after_key r c k = absurd (k refl)

comma_lexed : (x : List ℕ) → punctuate after_value (lex between (44 ∷ 32 ∷ x)) ≡ punctuate after_comma (lex between x)
unfolding lex punctuate
comma_lexed x = refl

member_then : (m rest : List ℕ) → (m ++ []) ++ rest ≡ m ++ rest
member_then m rest = ap (λ x. x ++ rest) (append-nil m)

tail_parts : (m : List ℕ) (ms : List (List ℕ)) (x : List ℕ)
    → separated (m ∷ ms) ++ x ≡ 44 ∷ 32 ∷ (m ++ (separated ms ++ x))
tail_parts m ms x = ap (λ y. 44 ∷ 32 ∷ y) (append_assoc (m ++ []) (separated ms) x ∙ member_then m (separated ms ++ x))

tail_taken : (is_array : Bool) (ms : List (List ℕ)) (tss : List (List Token)) (r : List ℕ) → AllTake ms tss
    → punctuate after_value (lex between (separated ms ++ (closing is_array ∷ r)))
    ≡ all_tokens tss (close_token is_array) ++ punctuate after_value (lex between r)
tail_taken is_array [] [] r h = closed is_array after_value r (λ e. absurd cc) (λ e. absurd cc)
tail_taken is_array [] (ts ∷ tss) r h = absurd h
tail_taken is_array (m ∷ ms) [] r h = absurd h
tail_taken is_array (m ∷ ms) (ts ∷ tss) r h =
    let x = separated ms ++ (closing is_array ∷ r) in
    ap (λ y. punctuate after_value (lex between y)) (tail_parts m ms (closing is_array ∷ r))
    ∙ comma_lexed (m ++ x)
    ∙ h.0 after_comma x refl (after_ends is_array ms r) (after_no_colon is_array ms r)
    ∙ ap (λ y. ts ++ y) (tail_taken is_array ms tss r h.1)
    ∙ sym (append_assoc ts (all_tokens tss (close_token is_array)) (punctuate after_value (lex between r)))

list_taken : (is_array : Bool) (ms : List (List ℕ)) (tss : List (List Token)) (r : List ℕ) → AllTake ms tss
    → punctuate fresh (lex between (listed comma_unless [] ms ++ (closing is_array ∷ r)))
    ≡ all_tokens tss (close_token is_array) ++ punctuate after_value (lex between r)
list_taken is_array [] [] r h = closed is_array fresh r (λ e. absurd cc) (λ e. absurd cc)
list_taken is_array [] (ts ∷ tss) r h = absurd h
list_taken is_array (m ∷ ms) [] r h = absurd h
list_taken is_array (m ∷ ms) (ts ∷ tss) r h =
    let x = separated ms ++ (closing is_array ∷ r) in
    ap (λ y. punctuate fresh (lex between y))
    (append_assoc (m ++ []) (separated ms) (closing is_array ∷ r) ∙ member_then m x)
    ∙ h.0 fresh x refl (after_ends is_array ms r) (after_no_colon is_array ms r)
    ∙ ap (λ y. ts ++ y) (tail_taken is_array ms tss r h.1)
    ∙ sym (append_assoc ts (all_tokens tss (close_token is_array)) (punctuate after_value (lex between r)))

opened : (is_array : Bool) (p : Place) (x : List ℕ) → may_begin p ≡ true
    → punctuate p (lex between (opening is_array ∷ x)) ≡ open_token is_array ∷ punctuate fresh (lex between x)
unfolding lex punctuate
opened true fresh x may = refl
opened true after_comma x may = refl
opened true after_value x may = absurd cc
opened true after_key x may = absurd cc
opened false fresh x may = refl
opened false after_comma x may = refl
opened false after_value x may = absurd cc
opened false after_key x may = absurd cc

pub list_takes : (is_array : Bool) (ms : List (List ℕ)) (tss : List (List Token)) → AllTake ms tss
    → Takes (opening is_array ∷ (listed comma_unless [] ms ++ (closing is_array ∷ [])))
    (open_token is_array ∷ all_tokens tss (close_token is_array))
list_takes is_array ms tss h = λ p r may ends no_colon.
    let inner = listed comma_unless [] ms in
    opened is_array p ((inner ++ (closing is_array ∷ [])) ++ r) may
    ∙ ap (λ y. open_token is_array ∷ punctuate fresh (lex between y)) (append_assoc inner (closing is_array ∷ []) r)
    ∙ ap (λ y. open_token is_array ∷ y) (list_taken is_array ms tss r h)

-- a key and its value
colon_lexed : (s : List ℕ) (x : List ℕ) → token (tok.string s) ∷ lex between (58 ∷ 32 ∷ x)
    ≡ token (tok.string s) ∷ colon ∷ lex between x
unfolding lex
colon_lexed s x = refl

pub pair_takes : {strict : Bool} (left : ℕ) (a b : List ℕ) (key : IsString a) (val : Reads strict left b)
    → Takes (a ++ (codes ": " ++ b)) (tok.key key.means ∷ json_tokens val.means)
pair_takes left a b key val = λ p r may ends no_colon.
    ap (λ y. punctuate p (lex between y)) (append_assoc a (58 ∷ 32 ∷ b) r)
    ∙ ap (punctuate p) (key.lexed (58 ∷ 32 ∷ (b ++ r)) ∙ colon_lexed key.means (b ++ r))
    ∙ begin_key p key.means (lex between (b ++ r)) may
    ∙ ap (λ y. tok.key key.means ∷ y) (val.takes fresh r refl ends no_colon)

-- ---- texts

-- the whole text is that value
pub reads_document : {strict : Bool} (t : List ℕ) (h : Reads strict 128 t) → document t ≡ Some h.means
unfolding lex punctuate
reads_document t h =
    let whole = ap (λ y. punctuate fresh (lex between y)) (sym (append-nil t)) ∙ h.takes fresh [] refl refl refl in
    ap (option_and_then (λ p. if_last p.0 p.1))
    (ap (value max_depth) whole ∙ value-json_tokens h.means max_depth [] h.low)
