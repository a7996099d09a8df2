use Prim.Native.Nat.{◌/◌}
use native.Mathlib.Omega.{arith}
use lib.ListN.{length}
use Rattle.circuit.specs.declared.records.TheConstants.{NODE_WORDS}
use Rattle.schedule.proofs.Records.{length_in}
use Rattle.schedule.proofs.Sources.{sourced}
use borrow.Author.Rules.{rules}
use Rattle.std.proofs.lemmas.Option.{MatchOption-at_some}
use Rattle.schedule.proofs.Call.{call_cells, call_circle}
use Rattle.schedule.proofs.checks.order_or_circle.Goals as goal

pub invariant_of-netlist : goal.invariant_of-netlist
invariant_of-netlist c = let w = c.requires.wired in rw (c.of.ensures.0, c.of.ensures.1) (record { wired = w; sourced = sourced _ _ w })

pub fresh_order-taken-requires : goal.fresh_order-taken-requires
fresh_order-taken-requires c =
    rw (c.of.ensures.0, c.of.ensures.1, length_in c.args.nodes.now (length c.args.nodes.now / NODE_WORDS))
    (c.requires.ready_room, c.requires.successor_room, omega (arith, c.requires.keys_are), c.requires.order_room)

pub returns-then-taken-count_cells : goal.returns-then-taken-count_cells
returns-then-taken-count_cells c =
    let all = c.of.ensures in
    let size = MatchOption-at_some _ _ _ c.unwrap-window.ensures c.new.ensures in
    call_circle _ _ _ _ _ _ _ (rw (all.0, all.1, size) at c.fresh_order-taken.ensures) (rw (all.0, all.1) at c.count_cells.ensures) _ _ (length c.args.ready.now) (length c.args.successors.now) (length c.args.order.now) (search rules) (search rules) (search rules) c.if-taken-count_cells.true _ (search rules)

pub returns : goal.returns
returns c =
    let all = c.of.ensures in
    let size = MatchOption-at_some _ _ _ c.unwrap-window.ensures c.new.ensures in
    call_cells _ _ _ _ _ _ _ (rw (all.0, all.1, size) at c.fresh_order-taken.ensures) (rw (all.0, all.1) at c.count_cells.ensures) _ _ (length c.args.ready.now) (length c.args.successors.now) (length c.args.order.now) (search rules) (search rules) (search rules) c.if-taken-count_cells.false
