-- `rules`: the functions of `Rules.antt` for a loaded schema. They look up nodes, lists, rules, literals and patterns
-- in its tables. An index that is not in a table leads to a default, such as the node `Any`.
use Rattle.std.specs.Prelude.{ℕ, zero, suc, List, [], ◌∷◌, length, get_or, slice_range, Bool, true, false, nat_le}
use Rattle.std.specs.Prelude.{is_some}
use Rattle.std.specs.Prelude.{◌+◌, ◌&&◌, ◌==◌, if◌then◌else◌}
use Rattle.regex.specs.Patterns.{find_str}
use Rattle.regex.specs.Strings.{regex_pattern}
use Rattle.cbor_cddl.specs.declared.schema.Node.{Node}
use Rattle.cbor_cddl.specs.declared.schema.Node.TheVariants as node
use Rattle.cbor_cddl.specs.declared.schema.Rule.{Rule}
use Rattle.cbor_cddl.specs.declared.schema.Schema.{Schema}
use Rattle.cbor_fits.specs.Rules.{Rules}
use Rattle.cbor_fits.specs.Decoded.{decoded, decoded_sequence}
use Rattle.cbor_cddl.specs.declared.compiled.Pattern.{Pattern}
use Rattle.cbor_fits.specs.declared.tables.Tables.{Tables}

-- a part of a list; none of it, if not all of the part is there
abbrev pub part : {A : Type 0} → List A → ℕ → ℕ → List A
part xs start end = if nat_le start end && nat_le end (length xs) then slice_range xs start end else []

abbrev pub node_at : Schema → ℕ → Node
node_at s n = get_or s.nodes.items n node.Any

-- a rule that is not there leads to the first node
abbrev pub no_rule : Rule
no_rule = record { name = record { start = 0; end = 0 }; node = 0; rank = 0 }

-- the index of the type or the group of a rule
abbrev pub body_of : List Rule → ℕ → ℕ
body_of rules n = (get_or rules n no_rule).node

-- whether a node is a group; a chain of rules is no longer than all rules
abbrev pub is_group_within : ℕ → Schema → Node → Bool
is_group_within zero s n = false
is_group_within (suc more) s (node.Rule r) = is_group_within more s (node_at s (body_of s.rules.items r))
is_group_within (suc more) s (node.Sequence l) = true
is_group_within (suc more) s (node.GroupChoice l) = true
is_group_within (suc more) s (node.Entry k cut t o) = true
is_group_within (suc more) s (node.Repeated g o) = true
is_group_within (suc more) s other = false

-- whether a text matches the pattern of this node, as the library for regular expressions defines it
abbrev pub is_match_of : ℕ → List Pattern → List ℕ → Bool
is_match_of n [] t = false
is_match_of n (p ∷ ps) t =
    if p.node == n then is_some (find_str (regex_pattern p.regex) t 0) else is_match_of n ps t

-- the rules of a schema with the patterns of its nodes
abbrev pub rules : Schema → List Pattern → Rules
rules s patterns = record {
  node = node_at s;
  list = λ l. part s.lists.items l.start l.end;
  body = body_of s.rules.items;
  is_group = is_group_within (length s.rules.items + 1) s;
  literal = λ l. part s.pool.items l.start l.end;
  is_match = λ n text. is_match_of n patterns text;
  decoded = decoded;
  decoded_sequence = decoded_sequence;
}

abbrev pub rules_of : Tables → Rules
rules_of t = rules t.schema.now t.patterns.now
