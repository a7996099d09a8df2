use Prim.Native.Nat.{◌/◌}
use native.Mathlib.Omega.{arith}
use Rattle.std.proofs.lemmas.List.{take_rest}
use Rattle.readyset.proofs.Levels.{first_or, first_here, first_single, first_past, first_found, rest_room, rest_levels}
use Rattle.readyset.proofs.+next.Goals as goal

pub returns-then-rest-ne0 : goal.returns-then-rest-ne0
returns-then-rest-ne0 t c = rw c.then_some.ensures (first_or _ _ _ _ c.requires.1 (first_here _ _ _ (omega (arith, c.type_inv.area (c.args.k / 64))) c.if-rest-ne0.true))

pub returns-then-n-lt64 : goal.returns-then-n-lt64
returns-then-n-lt64 t c = first_single _ _ _ c.if-rest-ne0.false c.requires.1 c.if-n-lt64.true

pub next-requires : goal.next-requires
next-requires t c = (omega arith, (rest_room c.args.n c.args.area.now c.if-n-lt64.false c.requires.0, omega arith, rest_levels c.args.n c.args.area.now c.if-n-lt64.false c.requires.2))

pub returns-in_err-found : goal.returns-in_err-found
returns-in_err-found t c = rw c.from_residual.ensures (first_past _ _ _ c.if-rest-ne0.false (omega arith) c.if-n-lt64.false c.requires.2 _ (rw take_rest at c.in_err-found.ensures) (omega arith))

pub returns : goal.returns
returns t c = rw c.then_some-2.ensures (first_or _ _ _ _ c.requires.1 (first_found _ _ _ c.if-rest-ne0.false (omega arith) c.if-n-lt64.false c.requires.2 _ (rw take_rest at c.in_ok-found.ensures.1) c.in_ok-found.ensures.0 (omega (arith, c.type_inv.area c.in_ok-found.found))))
