use Prim.Native.Nat.{◌*◌, ◌-◌, ◌/◌, ◌%◌, ◌^◌}
use native.Mathlib.Omega.{arith}
use lib.Bits.{and_le_l}
use lib.ListN.{get_or}
use Rattle.std.proofs.lemmas.List.{take_rest}
use Rattle.readyset.proofs.Levels.{rest_room, rest_levels}
use Rattle.readyset.proofs.Ends.{leading_room, last_here, last_single, last_none, some_there, last_found}
use Rattle.readyset.proofs.+last.Goals as goal

pub returns-then-rest-ne0 : goal.returns-then-rest-ne0
returns-then-rest-ne0 t c = last_here c.args.area.now c.args.k (omega (arith, c.type_inv.area (c.args.k / 64), and_le_l (get_or c.args.area.now (c.args.k / 64) 0) (1 * 2 ^ (c.args.k % 64) % 18446744073709551616 - 1))) c.if-rest-ne0.true

pub returns-then-n-lt64 : goal.returns-then-n-lt64
returns-then-n-lt64 t c = last_single _ _ c.if-rest-ne0.false _ c.requires.1 c.if-n-lt64.true

pub last-requires : goal.last-requires
last-requires t c = (omega arith, (rest_room c.args.n c.args.area.now c.if-n-lt64.false c.requires.0, omega (arith, c.requires.1), rest_levels c.args.n c.args.area.now c.if-n-lt64.false c.requires.2))

pub returns-in_err-found : goal.returns-in_err-found
returns-in_err-found t c = rw c.from_residual.ensures (last_none c.args.area.now c.args.k c.if-rest-ne0.false c.args.n c.requires.1 c.if-n-lt64.false c.requires.2 (rw take_rest at c.in_err-found.ensures))

pub overflow_sub-result-2 : goal.overflow_sub-result-2
overflow_sub-result-2 t c = leading_room _ (omega (arith, c.type_inv.area c.in_ok-found.found)) (some_there c.args.area.now c.args.k c.if-rest-ne0.false c.args.n c.requires.1 c.if-n-lt64.false c.requires.2 c.in_ok-found.found (rw take_rest at c.in_ok-found.ensures) (omega (arith, c.type_inv.area c.in_ok-found.found)))

pub returns : goal.returns
returns t c = last_found c.args.area.now c.args.k c.if-rest-ne0.false c.args.n c.requires.1 c.if-n-lt64.false c.requires.2 c.in_ok-found.found (rw take_rest at c.in_ok-found.ensures) (omega (arith, c.type_inv.area c.in_ok-found.found))
