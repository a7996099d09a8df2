use Rattle.std.proofs.Common.{◌≡◌, ◌+◌, ◌-◌, suc, ◌∙◌, arith}
use Rattle.listing.proofs.LineLaws.{is_count, is_node, is_output, is-order, is_past}
use Rattle.listing.proofs.lines.listing_line.Goals as goal

pub returns-then-k-eq0-clause-written : goal.returns-then-k-eq0-clause-written
returns-then-k-eq0-clause-written g c = rw (← c.of-nodes.ensures.1, ← c.of-nodes.ensures.0, ← c.of-outputs.ensures.1, ← c.of-outputs.ensures.0, c.if-k-eq0.true, c.put_count.ensures.written, c.clear.ensures.written) (is_count c.args.text.now c.of-nodes.result.words.now c.of-outputs.result.words.now c.args.order.now c.of-nodes.result.count c.of-outputs.result.count)

pub returns-then-k-nodes-clause-written : goal.returns-then-k-nodes-clause-written
returns-then-k-nodes-clause-written g c =
    let e : c.args.k ≡ suc (c.args.k - 1) = omega arith in
    rw (← c.of-nodes.ensures.1, ← c.of-nodes.ensures.0, ← c.of-outputs.ensures.1, ← c.of-outputs.ensures.0, c.put_node.ensures.written, c.clear.ensures.written) (is_node c.args.text.now c.of-nodes.result.words.now c.of-outputs.result.words.now c.args.order.now c.of-nodes.result.count c.of-outputs.result.count (c.args.k - 1) (omega arith) ∙ rw (← e))

pub returns-then-k-nodes-2-clause-written : goal.returns-then-k-nodes-2-clause-written
returns-then-k-nodes-2-clause-written g c =
    let m = c.of-nodes.result.count in
    let e : c.args.k ≡ suc (m + (c.args.k - 1 - m)) = omega arith in
    rw (← c.of-nodes.ensures.1, ← c.of-nodes.ensures.0, ← c.of-outputs.ensures.1, ← c.of-outputs.ensures.0, c.put_output.ensures.written, c.clear.ensures.written) (is_output c.args.text.now c.of-nodes.result.words.now c.of-outputs.result.words.now c.args.order.now c.of-nodes.result.count c.of-outputs.result.count (c.args.k - 1 - m) (omega arith) ∙ rw (← e))

pub returns-then-k-nodes-3-clause-written : goal.returns-then-k-nodes-3-clause-written
returns-then-k-nodes-3-clause-written g c =
    let e : c.args.k ≡ suc (c.of-nodes.result.count + (c.of-outputs.result.count + 0)) = omega arith in
    rw (← c.of-nodes.ensures.1, ← c.of-nodes.ensures.0, ← c.of-outputs.ensures.1, ← c.of-outputs.ensures.0, c.put_order.ensures.written, c.clear.ensures.written) (is-order c.args.text.now c.of-nodes.result.words.now c.of-outputs.result.words.now c.args.order.now c.of-nodes.result.count c.of-outputs.result.count ∙ rw (← e))

pub returns-else-k-nodes-3-clause-written : goal.returns-else-k-nodes-3-clause-written
returns-else-k-nodes-3-clause-written g c =
    let m = c.of-nodes.result.count in
    let n = c.of-outputs.result.count in
    let e : c.args.k ≡ suc (m + (n + suc (c.args.k - 1 - m - n - 1))) = omega arith in
    rw (← c.of-nodes.ensures.1, ← c.of-nodes.ensures.0, ← c.of-outputs.ensures.1, ← c.of-outputs.ensures.0, c.clear.ensures.written) (is_past c.args.text.now c.of-nodes.result.words.now c.of-outputs.result.words.now c.args.order.now c.of-nodes.result.count c.of-outputs.result.count (c.args.k - 1 - m - n - 1) ∙ rw (← e))
