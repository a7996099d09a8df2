use Rattle.std.proofs.Common.{◌≡◌, ◌≤◌, ℕ, length, take, sym, ap, ◌∙◌, arith, rules}
use mathlib.Core.List.{List}
use lib.Seq.{length-take-le}
use Rattle.std.specs.Prelude.{Some}
use Rattle.std.proofs.lemmas.Result.{err_from_is_err_and}
use Rattle.circuit.specs.declared.records.TheConstants.{WIRES}
use Rattle.cover.specs.Gates.{gate_of, seen_of, words_seen}
use Rattle.cover.proofs.FrontLaws.{cover_front}
use Rattle.blif.proofs.Plans.{plan_stop, plan_rows, plan_made}
use Rattle.blif.proofs.gates.plan_gate.Goals as goal

pub returns-in_err-wires : goal.returns-in_err-wires
returns-in_err-wires c =
    let p = err_from_is_err_and c.from_residual-in_err-wires.result c.from_residual-in_err-wires.ensures.1 in
    let gate : Some (words_seen c.in_ok-gate.gate) ≡ gate_of _ = sym (ap seen_of c.in_ok-gate.ensures.ok_part) ∙ c.gate_words.ensures.is ∙ ap gate_of c.line_words.ensures.all in
    rw (p.1, p.2)
    (record { is = plan_stop c.args.table.now.text.now _ _ _ c.in_ok-gate.gate gate c.in-Err.ensures.0 c.in_ok-count.count c.in_ok-count.ensures.ok_part _ c.in_err-wires.ensures; new = tt })

pub returns : goal.returns
returns c =
    let text : List ℕ = c.args.table.now.text.now in
    let gate : Some (words_seen c.in_ok-gate.gate) ≡ gate_of _ = sym (ap seen_of c.in_ok-gate.ensures.ok_part) ∙ c.gate_words.ensures.is ∙ ap gate_of c.line_words.ensures.all in
    let n : ℕ = c.in_ok-count.count in
    let all : length c.in_ok-gate.gate.inputs ≡ WIRES = search rules in
    let few : n ≤ WIRES = search rules in
    let size : length (take n c.in_ok-gate.gate.inputs) ≡ n = length-take-le n c.in_ok-gate.gate.inputs (omega (arith, all)) in
    let rows = c.parse_cover.ensures ∙ cover_front c.args.rows.lines.text.now text c.requires.rows_in_text n c.args.rows.lines.at in
    record {
      is = rw (c.in-Err.ensures.1) (plan_made text _ _ _ c.in_ok-gate.gate gate c.in-Err.ensures.0 n c.in_ok-count.ensures.ok_part all few _ (rw size at c.in_ok-wires.ensures) c.parse_cover.result rows c.in_ok-truth_table.truth_table c.in_ok-truth_table.ensures.ok_part);
      new = c.in-Err.ensures.2;
    }

pub returns-in_err-truth_table : goal.returns-in_err-truth_table
returns-in_err-truth_table c =
    let p = err_from_is_err_and c.from_residual-in_err-truth_table.result c.from_residual-in_err-truth_table.ensures.1 in
    let text : List ℕ = c.args.table.now.text.now in
    let gate : Some (words_seen c.in_ok-gate.gate) ≡ gate_of _ = sym (ap seen_of c.in_ok-gate.ensures.ok_part) ∙ c.gate_words.ensures.is ∙ ap gate_of c.line_words.ensures.all in
    let n : ℕ = c.in_ok-count.count in
    let all : length c.in_ok-gate.gate.inputs ≡ WIRES = search rules in
    let few : n ≤ WIRES = search rules in
    let size : length (take n c.in_ok-gate.gate.inputs) ≡ n = length-take-le n c.in_ok-gate.gate.inputs (omega (arith, all)) in
    let rows = c.parse_cover.ensures ∙ cover_front c.args.rows.lines.text.now text c.requires.rows_in_text n c.args.rows.lines.at in
    rw (p.1, p.2)
    (record { is = plan_rows text _ _ _ c.in_ok-gate.gate gate c.in-Err.ensures.0 n c.in_ok-count.ensures.ok_part all few _ (rw size at c.in_ok-wires.ensures) c.parse_cover.result rows _ c.in_err-truth_table.ensures.value c.in_err-truth_table.ensures.ok_part; new = tt })
