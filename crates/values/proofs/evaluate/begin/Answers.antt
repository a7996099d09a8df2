use Rattle.std.proofs.Common.{sym, ◌∙◌, arith}
use Rattle.laws.proofs.Tests.{clash}
use Rattle.values.proofs.Evaluating.{evaluates_of}
use Rattle.values.proofs.evaluate.begin.Goals.{then-not-are_whole-via-then-not-are_whole, then-not-are_whole-via-else-not-are_whole+then-store-nodes, then-not-are_whole-via-else-not-are_whole+else-store-nodes+then-some_above}
use Rattle.values.proofs.evaluate.begin.Goals as goal

pub returns-then-not-are_whole : goal.returns-then-not-are_whole
returns-then-not-are_whole c =
    record {
      workable =
          λ q.
          let e = evaluates_of c.args.nodes.now c.args.outputs.now c.args.assignment.now c.args.store c.args.answers (sym c.evaluate_fault.ensures ∙ q) in
          elim c.then-not-are_whole.branch [
            | then-not-are_whole-via-then-not-are_whole w ↦ absurd (clash e.whole_records (sym w.if-not-are_whole.ensures))
            | then-not-are_whole-via-else-not-are_whole+then-store-nodes w ↦ absurd (omega (arith, e.room.store_room, w.if-store-nodes.true))
            | then-not-are_whole-via-else-not-are_whole+else-store-nodes+then-some_above w ↦ absurd (clash (sym w.if-some_above.ensures) e.bits)
          ];
      refused = λ e q. sym c.evaluate_fault.ensures ∙ q;
    }

pub returns : goal.returns
returns c = record { workable = λ q. record { whole_records = sym c.if-not-are_whole.ensures; stored = c.if-store-nodes.false; known = sym c.if-some_above.ensures }; refused = λ e q. absurd (cc) }
