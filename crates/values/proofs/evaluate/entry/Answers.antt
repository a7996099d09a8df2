use Rattle.std.proofs.Common.{ℕ, ◌≡◌, length, sym, ap, ◌∙◌, arith}
use Rattle.std.proofs.lemmas.Result.{err_from_is_err_and}
use Rattle.cells.specs.Cells.{entry}
use Rattle.circuit.specs.declared.records.BoolNode.{BoolNode}
use Rattle.circuit.specs.Records.{node_at, wires_of}
use Rattle.circuit.specs.Check.{not_below}
use Rattle.values.proofs.Entries.{read_start, read_fault, read_next, read_small, read_all, wire_earlier}
use Rattle.values.proofs.evaluate.entry.Goals as goal

pub loop-k-init : goal.loop-k-init
loop-k-init c = read_start _ _ _ _ c.requires.known

pub returns-in_err-check_wire : goal.returns-in_err-check_wire
returns-in_err-check_wire c =
    let count : c.wire_count-k-end.result ≡ length (wires_of (node_at c.args.nodes.words.now c.args.i)) = c.wire_count-k-end.ensures.0 ∙ ap (λ (x : BoolNode). length (wires_of x)) c.at-n.ensures in
    let p = err_from_is_err_and c.from_residual.result c.from_residual.ensures.1 in
    rw (p.1, p.2) (read_fault _ _ _ _ _ _ c.loop-k.invariant (omega (arith, count)) _ c.wire-wire.ensures _ (sym c.in_err-check_wire.ensures))

pub wire_value-requires : goal.wire_value-requires
wire_value-requires c = ap (λ (k : ℕ). not_below k c.wire-wire.result) c.requires.inside.1 ∙ wire_earlier c.args.nodes.count c.args.i c.wire-wire.result (sym c.in_ok-check_wire.ensures)

pub loop-k-preserved : goal.loop-k-preserved
loop-k-preserved c =
    let count : c.wire_count-k-end.result ≡ length (wires_of (node_at c.args.nodes.words.now c.args.i)) = c.wire_count-k-end.ensures.0 ∙ ap (λ (x : BoolNode). length (wires_of x)) c.at-n.ensures in
    read_next _ _ _ _ _ _ c.loop-k.invariant (omega (arith, count)) _ c.wire-wire.ensures (sym c.in_ok-check_wire.ensures) _ (c.from.ensures ∙ c.wire_value.ensures)

pub table_entry-requires : goal.table_entry-requires
table_entry-requires c =
    let count : c.wire_count-k-end.result ≡ length (wires_of (node_at c.args.nodes.words.now c.args.i)) = c.wire_count-k-end.ensures.0 ∙ ap (λ (x : BoolNode). length (wires_of x)) c.at-n.ensures in
    read_small _ _ _ _ _ _ c.loop-k.invariant (omega (arith, count)) (omega (arith, count))

pub returns : goal.returns
returns c =
    let count : c.wire_count-k-end.result ≡ length (wires_of (node_at c.args.nodes.words.now c.args.i)) = c.wire_count-k-end.ensures.0 ∙ ap (λ (x : BoolNode). length (wires_of x)) c.at-n.ensures in
    read_all _ _ _ _ _ _ c.loop-k.invariant (omega (arith, count)) (omega (arith, count)) _ (c.table_entry.ensures ∙ ap (λ (x : BoolNode). entry x.table c.loop-k.index) c.at-n.ensures)
