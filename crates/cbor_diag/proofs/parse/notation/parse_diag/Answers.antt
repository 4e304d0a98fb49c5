-- What is read is what the grammar has: each item, each error, and one item alone.
use Rattle.std.proofs.Common.{◌≡◌, rules}
use Rattle.cbor_diag.proofs.notation.PublicReader.{text_is, gave_text, text_refused, only_item, larger_limit, given}
use Rattle.cbor_diag.proofs.parse.notation.parse_diag.Goals as goal

pub returns-clause-ok : goal.returns-clause-ok
returns-clause-ok c =
    let is : c.new.result ≡ c.args.text.now = first_of (cc, search rules) in
    text_is 128 c.args.text.now c.whole_text.result (given c.args.text.now _ _ is c.whole_text.ensures.gives)

pub returns-clause-every_item : goal.returns-clause-every_item
returns-clause-every_item c i is_item =
    let is : c.new.result ≡ c.args.text.now = first_of (cc, search rules) in
    gave_text 128 c.args.text.now c.whole_text.result i (given c.args.text.now _ _ is c.whole_text.ensures.gives)
    is_item

pub returns-clause-larger_limit : goal.returns-clause-larger_limit
returns-clause-larger_limit c limit i le is_item =
    let is : c.new.result ≡ c.args.text.now = first_of (cc, search rules) in
    larger_limit 128 c.args.text.now c.whole_text.result limit i
    (given c.args.text.now _ _ is c.whole_text.ensures.gives) is_item

pub returns-clause-one_item : goal.returns-clause-one_item
returns-clause-one_item c =
    let is : c.new.result ≡ c.args.text.now = first_of (cc, search rules) in
    only_item 128 c.args.text.now c.whole_text.result (given c.args.text.now _ _ is c.whole_text.ensures.gives)

pub returns-clause-refused : goal.returns-clause-refused
returns-clause-refused c =
    let is : c.new.result ≡ c.args.text.now = first_of (cc, search rules) in
    text_refused c.args.text.now c.whole_text.result (given c.args.text.now _ _ is c.whole_text.ensures.gives)
