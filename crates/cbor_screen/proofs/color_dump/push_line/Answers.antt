use Rattle.std.proofs.Common.{[], ◌++◌, take, drop, vec_items, arith, sym}
use Rattle.std.proofs.lemmas.List.{append-nil, length-drop, take_rest}
use Rattle.cbor_screen.specs.Colored.{in_color_of}
use Rattle.cbor_screen.proofs.Pieces.{colored_none, colored_one, colored_more, colored_whole, lacks_part, any_kind}
use Rattle.cbor_screen.proofs.Pieces.{joined}
use Rattle.cbor_screen.proofs.color_dump.push_line.Goals as goal

pub tokens-init : goal.tokens-init
tokens-init c = record {
  within = omega arith;
  colored = ([], sym (append-nil (vec_items c.args.out.now)), colored_none);
}

pub tokens-preserved : goal.tokens-preserved
tokens-preserved c =
    let line = c.args.line.now in
    let at = c.tokens.at in
    let kind = c.dump_token-token.result.kind in
    let n = c.dump_token-token.result.end in
    let before = c.tokens.invariant.colored in
    let shown = in_color_of kind (take n (drop at line)) in
    let push = rw (take_rest line at) at c.in_ok-push_piece.ensures in
    let next = colored_one kind (take n (drop at line)) (any_kind kind _ (lacks_part line at n c.requires)) in
    record {
      within = omega (arith, length-drop at line);
      colored = (
        before.0 ++ shown,
        joined _ _ _ before.0 shown before.1 push,
        colored_more line at n before.0 shown before.2 next,
      );
    }

pub returns : goal.returns
returns c =
    let before = c.tokens.invariant.colored in
    (before.0, before.1, colored_whole c.args.line.now c.tokens.at before.0 (omega arith) before.2)
