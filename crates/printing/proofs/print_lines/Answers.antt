use Rattle.std.proofs.Common.{◌≡◌, ◌<◌, ◌∙◌, ◌/◌, length, take, get_or, [], arith}
use Rattle.std.specs.List.{concat}
use Rattle.std.proofs.KnownBytes.{Appends-trans}
use Rattle.listing.proofs.LineLaws.{listing_length}
use Rattle.circuit.specs.declared.records.TheConstants.{NODE_WORDS, OUTPUT_WORDS}
use Rattle.printing.proofs.Printing.{lines_of, lines_next, lines_all}
use Rattle.printing.proofs.print_lines.Goals as goal

pub loop-k-preserved : goal.loop-k-preserved
loop-k-preserved g c =
    let l = lines_of c.args.text.now c.args.nodes.now c.args.outputs.now c.args.order.now in
    let h : c.loop-k.k < length l = omega (arith, listing_length c.args.text.now c.args.nodes.now c.args.outputs.now c.args.order.now (length c.args.nodes.now / NODE_WORDS) (length c.args.outputs.now / OUTPUT_WORDS)) in
    let line : c.as_slice.result.now ≡ get_or l c.loop-k.k [] = rw c.listing_line.ensures.written at c.as_slice.ensures in
    (rw (← lines_next l c.loop-k.k h) (Appends-trans _ _ _ (concat (take c.loop-k.k l)) (get_or l c.loop-k.k []) c.loop-k.invariant.0 (rw (← line) c.in_ok-write_all.ensures.bytes)), c.listing_line.ensures.place ∙ c.loop-k.invariant.1, omega arith)

pub returns-clause-printed : goal.returns-clause-printed
returns-clause-printed g c = rw (← lines_all c.args.text.now c.args.nodes.now c.args.outputs.now c.args.order.now c.loop-k.k (omega arith)) c.loop-k.invariant.0
