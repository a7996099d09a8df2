use Rattle.std.proofs.lemmas.Result.{err_from_is_err_and}
use Rattle.bristol_rows.proofs.HeaderLineLaws.{wires_first, counts_first, counts_invalid, counts_more, counts_two}
use Rattle.bristol_rows.proofs.NumberLaws.{first_value}
use Rattle.bristol_rows.proofs.header.read_counts.Goals as goal

pub returns-in_err-wires : goal.returns-in_err-wires
returns-in_err-wires c =
    let p = err_from_is_err_and c.from_residual-in_err-wires.result c.from_residual-in_err-wires.ensures.1 in
    let g = first_value _ _ c.in_ok-gates.gates c.in_ok-gates.ensures.value c.in_ok-gates.ensures.rest in
    rw (p.1, p.2, ← c.split_whitespace-words.ensures) (counts_first c.in_ok-gates.gates _ _ _ (wires_first c.in_ok-gates.gates _ _ c.in_err-wires.ensures.value) g)

pub returns-in_err-more : goal.returns-in_err-more
returns-in_err-more c =
    let p = err_from_is_err_and c.from_residual-in_err-more.result c.from_residual-in_err-more.ensures.1 in
    let g = first_value _ _ c.in_ok-gates.gates c.in_ok-gates.ensures.value c.in_ok-gates.ensures.rest in
    let w = first_value _ _ c.in_ok-wires.wires c.in_ok-wires.ensures.value c.in_ok-wires.ensures.rest in
    rw (p.1, p.2, ← c.split_whitespace-words.ensures) (counts_first c.in_ok-gates.gates _ _ _ (counts_invalid c.in_ok-gates.gates c.in_ok-wires.wires _ _ w _ c.in_err-more.ensures) g)

pub returns-then-more-ne0 : goal.returns-then-more-ne0
returns-then-more-ne0 c =
    let g = first_value _ _ c.in_ok-gates.gates c.in_ok-gates.ensures.value c.in_ok-gates.ensures.rest in
    let w = first_value _ _ c.in_ok-wires.wires c.in_ok-wires.ensures.value c.in_ok-wires.ensures.rest in
    rw (← c.split_whitespace-words.ensures) (counts_first c.in_ok-gates.gates _ _ _ (counts_more c.in_ok-gates.gates c.in_ok-wires.wires _ _ w c.in_ok-more.more c.in_ok-more.ensures c.if-more-ne0.true) g)

pub returns : goal.returns
returns c =
    let g = first_value _ _ c.in_ok-gates.gates c.in_ok-gates.ensures.value c.in_ok-gates.ensures.rest in
    let w = first_value _ _ c.in_ok-wires.wires c.in_ok-wires.ensures.value c.in_ok-wires.ensures.rest in
    rw (← c.split_whitespace-words.ensures) (counts_first c.in_ok-gates.gates _ _ _ (counts_two c.in_ok-gates.gates c.in_ok-wires.wires _ _ w c.in_ok-more.more c.in_ok-more.ensures c.if-more-ne0.false) g)
