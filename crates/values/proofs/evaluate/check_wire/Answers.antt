use Rattle.std.proofs.Common.{sym, ◌∙◌, [], ◌∷◌, arith}
use Rattle.circuit.proofs.Checks.{wire_late, wire_passed, wires_passed}
use Rattle.values.proofs.evaluate.check_wire.Goals as goal

pub returns-then-not_below : goal.returns-then-not_below
returns-then-not_below c =
    rw c.wire_refusal.ensures (sym (wire_late c.args.m c.args.i c.requires (c.args.wire ∷ []) 0 (omega arith) (sym c.not_below.ensures ∙ c.if-not_below.true)))

pub returns : goal.returns
returns c =
    let ws = c.args.wire ∷ [] in
    sym (wire_passed c.args.m c.args.i c.requires ws 0 (omega arith) (sym c.not_below.ensures ∙ c.if-not_below.false) ∙ wires_passed c.args.m c.args.i ws 1 (omega arith))
