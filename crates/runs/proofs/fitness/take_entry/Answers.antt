use mathlib.Core.Path.{sym, ◌∙◌}
use mathlib.Core.Bool.{true, false, false≢true}
use Rattle.runs.proofs.Marking.{entry_ready, entry_other, entry_past}
use Rattle.runs.proofs.Entries.{accepted_at}
use Rattle.runs.proofs.fitness.take_entry.Goals.{then-nodes-x-via-then-nodes-x, then-nodes-x-via-else-nodes-x+then-not-is_cell, then-nodes-x-via-else-nodes-x+else-not-is_cell+then-some_waits}
use Rattle.runs.proofs.fitness.take_entry.Goals as goal

pub some_waits-requires : goal.some_waits-requires
some_waits-requires c =
    record { inside = c.if-nodes-x.false; wired = (accepted_at c.args.circuit.nodes.words.now c.args.circuit.nodes.count c.args.circuit.accepted c.args.x c.if-nodes-x.false).inside }

pub returns-then-nodes-x : goal.returns-then-nodes-x
returns-then-nodes-x c =
    let words = c.args.circuit.nodes.words.now in
    let count = c.args.circuit.nodes.count in
    λ taken m. (
      elim c.then-nodes-x.branch [
        | then-nodes-x-via-then-nodes-x v ↦ entry_past words count c.args.lo c.args.marks.now taken m c.args.x v.if-nodes-x.true
        | then-nodes-x-via-else-nodes-x+then-not-is_cell v ↦ entry_other words count c.args.lo c.args.marks.now taken m c.args.x v.if-nodes-x.false (sym v.if-not-is_cell.ensures)
        | then-nodes-x-via-else-nodes-x+else-not-is_cell+then-some_waits v ↦
            let inside = (accepted_at words count c.args.circuit.accepted c.args.x v.if-nodes-x.false).inside in
            sym (entry_ready words count c.args.lo c.args.marks.now taken m c.args.x true v.if-nodes-x.false (sym v.if-not-is_cell.ensures) inside v.if-some_waits.ensures)
      ],
      λ e. absurd (false≢true e),
    )

pub returns : goal.returns
returns c =
    let words = c.args.circuit.nodes.words.now in
    let count = c.args.circuit.nodes.count in
    let inside = (accepted_at words count c.args.circuit.accepted c.args.x c.if-nodes-x.false).inside in
    λ taken m. (
      (c.mark.ensures taken m).0 ∙ sym (entry_ready words count c.args.lo c.args.marks.now taken m c.args.x false c.if-nodes-x.false (sym c.if-not-is_cell.ensures) inside c.if-some_waits.ensures),
      (c.mark.ensures taken m).1,
    )
