-- In EDN, `read_item` reads a text that begins with a letter other than `b` and `h` as a name (`read_word`). If the
-- text after the name ends an item, and the name is not `simple`, the item is the one that `name_item` finds.
use Rattle.std.proofs.Common.{◌≡◌, ℕ, suc, ◌<◌, ◌==◌, ◌&&◌, ◌||◌, not, Bool, true, false, List, [], ◌∷◌, ◌++◌, codes}
use Rattle.std.proofs.Common.{Some, refl, sym, ap, ap₂, ◌∙◌, arith, bytes_eq}
use Rattle.std.proofs.lemmas.Bool.{cond-false, agree_below, agree_below_at, not-true}
use Rattle.std.proofs.lemmas.Bool.Decides.{nat_tests}
use Rattle.cbor_grammar.specs.Item.{Item}
use Rattle.cbor_edn_grammar.specs.Reading.{Read, ◌>>=◌}
use Rattle.cbor_edn_grammar.specs.Items.{other_item, read_item, read_name, read_word, word_or_prefix, name_item}
use Rattle.cbor_edn_grammar.specs.Strings.{opening_of, begins_string}
use Rattle.cbor_edn_grammar.specs.Word.{is_letter, begins_number}
use Rattle.cbor_edn_grammar.proofs.Levels.{core_other}
use Rattle.cbor_edn_writer.proofs.back.Reads.{is_ended, begins_item, IsBegun}
use Rattle.cbor_edn_grammar.proofs.Words.{stops, ended_stops, no_byte, IsWord, word_front, word_rest}

-- a letter that no prefix of a string begins with
abbrev pub begins_name : ℕ → Bool
begins_name b = is_letter b && not ((b == 98) || (b == 104))

abbrev pub StartsName : List ℕ → Type 0
StartsName [] = ⊥
StartsName (b ∷ word) = begins_name b ≡ true

-- a test that passes for each such letter
name_passes : (test : ℕ → Bool) (b : ℕ) → agree_below (λ b. not (begins_name b) || test b) (λ b. true) 123 ≡ true
    → begins_name b ≡ true → test b ≡ true
name_passes test b passes h =
    let low : b < 123 = grind (arith, nat_tests, h) in
    ap (λ l. not l || test b) (sym h)
    ∙ agree_below_at (λ b. not (begins_name b) || test b) (λ b. true) 123 b passes low

name_fails : (test : ℕ → Bool) (b : ℕ) → agree_below (λ b. not (begins_name b) || not (test b)) (λ b. true) 123 ≡ true
    → begins_name b ≡ true → test b ≡ false
name_fails test b passes h = not-true (test b) (name_passes (λ b. not (test b)) b passes h)

no_string : (b : ℕ) (text : List ℕ) → begins_name b ≡ true → begins_string (b ∷ text) ≡ false
unfolding opening_of
no_string b text h = name_fails (λ b. begins_string (b ∷ text)) b refl h

other_name : (left : ℕ) (read : List ℕ → Read Item) (b : ℕ) (text : List ℕ) → begins_name b ≡ true
    → other_item left read (b ∷ text) ≡ read_name left (b ∷ text)
other_name left read b text h =
    cond-false (b == 91) _ _ (name_fails (λ b. b == 91) b refl h)
    ∙ cond-false (b == 123) _ _ (name_fails (λ b. b == 123) b refl h)
    ∙ cond-false (b == 40) _ _ (name_fails (λ b. b == 40) b refl h)
    ∙ cond-false (begins_number (b ∷ text)) _ _ (name_fails (λ b. begins_number (b ∷ text)) b refl h)

pub name_begun : (word rest : List ℕ) → StartsName word → IsBegun (word ++ rest)
name_begun [] rest h = absurd h
name_begun (b ∷ word) rest h = name_passes begins_item b refl h

pub name_front : (left : ℕ) (word rest : List ℕ) → StartsName word → IsWord word → stops rest ≡ true
    → read_item (suc left) (word ++ rest) ≡ read_word left word rest
name_front left [] rest h is stop = absurd h
name_front left (b ∷ word) rest h is stop =
    core_other (suc left) left ((b ∷ word) ++ rest) (omega arith) (no_string b (word ++ rest) h)
    ∙ other_name left (read_item left) b (word ++ rest) h
    ∙ ap₂ (read_word left) (word_front (b ∷ word) rest is stop) (word_rest (b ∷ word) rest is stop)

pub name_alone : (left : ℕ) (word rest : List ℕ) (i : Item) → StartsName word → IsWord word
    → bytes_eq word (codes "simple") ≡ false → is_ended rest ≡ true → name_item word ≡ Some i
    → read_item (suc left) (word ++ rest) ≡ Some (i, rest)
name_alone left word rest i h is other ended found =
    name_front left word rest h is (ended_stops rest ended)
    ∙ cond-false (bytes_eq word (codes "simple")) _ (word_or_prefix left word rest _) other
    ∙ ap (word_or_prefix left word rest) (no_byte 39 rest refl ended)
    ∙ ap (λ r. r >>= λ i. Some (i, rest)) found
