use Rattle.std.proofs.Common.{sym, ◌∙◌}
use Rattle.std.proofs.lemmas.Result.{err_from_is_err_and}
use Rattle.node_slices.proofs.Slices.{slice_partial, slice_whole}
use Rattle.node_slices.proofs.check_circuit_slice.Goals as goal

pub returns-then-outputs-ne0 : goal.returns-then-outputs-ne0
returns-then-outputs-ne0 c = sym (slice_partial c.args.nodes.now c.args.outputs.now c.if-outputs-ne0.true)

pub returns-in_err-check_node_slice : goal.returns-in_err-check_node_slice
returns-in_err-check_node_slice c =
    let p = err_from_is_err_and c.from_residual.result c.from_residual.ensures.1 in
    rw (p.1, p.2) (sym (slice_whole c.args.nodes.now c.args.outputs.now c.if-outputs-ne0.false ∙ rw (sym c.in_err-check_node_slice.ensures)))

pub returns-then-output_outside : goal.returns-then-output_outside
returns-then-output_outside c = sym (slice_whole c.args.nodes.now c.args.outputs.now c.if-outputs-ne0.false ∙ rw (sym c.in_ok-check_node_slice.ensures, sym (rw (c.of.ensures.0, c.of.ensures.1) at c.if-output_outside.ensures)))

pub returns : goal.returns
returns c = sym (slice_whole c.args.nodes.now c.args.outputs.now c.if-outputs-ne0.false ∙ rw (sym c.in_ok-check_node_slice.ensures, sym (rw (c.of.ensures.0, c.of.ensures.1) at c.if-output_outside.ensures)))
