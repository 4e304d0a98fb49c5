use Rattle.std.proofs.Common.{[], ◌++◌, vec_items, arith, sym}
use Rattle.std.proofs.lemmas.List.{append-nil, length-drop, take_rest}
use Rattle.cbor_screen.proofs.Pieces.{colored_none, colored_more, colored_whole, colored_same, joined}
use Rattle.cbor_screen.proofs.color_dump.push_colored_dump.Goals as goal

pub lines-init : goal.lines-init
lines-init c = record {
  within = omega arith;
  colored = ([], sym (append-nil (vec_items c.args.out.now)), colored_none);
}

pub lines-preserved : goal.lines-preserved
lines-preserved c =
    let text = c.args.text.now in
    let at = c.lines.at in
    let before = c.lines.invariant.colored in
    let n = c.in_ok-len.len in
    let next = rw (take_rest text at) at c.in_ok-len.ensures.colored in
    let fits = rw (take_rest text at) at c.in_ok-len.ensures.within in
    record {
      within = omega (arith, length-drop at text, fits);
      colored = (
        before.0 ++ next.0,
        joined _ _ _ before.0 next.0 before.1 next.1,
        colored_more text at n before.0 next.0 before.2 next.2,
      );
    }

pub returns-clause-colored : goal.returns-clause-colored
returns-clause-colored c =
    let before = c.lines.invariant.colored in
    (before.0, before.1, colored_whole c.args.text.now c.lines.at before.0 (omega arith) before.2)

pub returns-clause-same : goal.returns-clause-same
returns-clause-same c =
    let before = c.lines.invariant.colored in
    let whole = colored_whole c.args.text.now c.lines.at before.0 (omega arith) before.2 in
    (before.0, before.1, colored_same c.args.text.now before.0 whole)
