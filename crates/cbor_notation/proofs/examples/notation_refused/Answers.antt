-- Reading shows that a few texts are no item.
use Rattle.std.proofs.Common.{◌≡◌, ℕ, true, List, [], ◌∷◌, Result, Ok, Err, refl}
use Rattle.std.specs.List.{AllByRecursion, list_all}
use Rattle.std.specs.Result.{is_err}
use Rattle.std.proofs.lemmas.Bool.{and_parts}
use Rattle.hex.specs.Hex.{decode_pairs}
use Rattle.base64.specs.Rfc4648.{encode_symbols}
use Rattle.cbor_tokens.specs.Base32.{encode}
use Rattle.cbor_notation.specs.mirror.NotationReading.{read_item, read_core, start_of, read_members, members_from}
use Rattle.cbor_notation.specs.mirror.NotationReading.{read_piece, read_pieces, read_string, from_fives, from_sixes}
use Rattle.cbor_grammar.specs.declared.error.Error.{Error}
use Rattle.cbor_grammar.specs.Item.{Item}
use Rattle.cbor_grammar.specs.Notation.{ReadsUnder}
use Rattle.cbor_grammar.specs.Examples.{no_items_in_notation}
use Rattle.cbor_notation.specs.mirror.NotationReading.{base32_of, base64_of, notation_of}
use Rattle.cbor_notation.proofs.notation.OneReading.{not_read}
use Rattle.cbor_notation.proofs.examples.notation_refused.Goals as goal

refused : (text : List ℕ) (r : Result Item Error) → notation_of 128 text ≡ r → is_err r ≡ true
    → (i : Item) → ¬ (ReadsUnder 128 text i)
refused text (Err e) is err = not_read 128 text e is
refused text (Ok i) is err = cc err

all_refused : (texts : List (List ℕ)) → list_all (λ t. is_err (notation_of 128 t)) texts ≡ true
    → AllByRecursion (λ text. (i : Item) → ¬ (ReadsUnder 128 text i)) texts
all_refused [] all = tt
all_refused (t ∷ ts) all =
    let parts = and_parts (is_err (notation_of 128 t)) (list_all (λ u. is_err (notation_of 128 u)) ts) all in
    (refused t (notation_of 128 t) refl parts.0, all_refused ts parts.1)

pub returns : goal.returns
unfolding read_item read_core start_of read_members members_from read_piece read_pieces read_string from_fives
    from_sixes base32_of base64_of encode encode_symbols decode_pairs
returns c = all_refused no_items_in_notation refl
