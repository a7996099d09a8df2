use Prim.Native.Nat.{◌+◌, ◌≤◌}
use mathlib.Core.Path.{refl, ap, ◌∙◌}
use mathlib.Core.Bool.{false}
use native.Mathlib.Omega.{arith}
use lib.ListN.{length}
use Rattle.text.specs.Iterators.{lines_left}
use Rattle.text.proofs.WriteLaws.{one_if, left, left_start, turn_room, turn_after, end_room, end_after}
use Rattle.text.proofs.joining.put_lines.Goals as goal

pub loop-line-init : goal.loop-line-init
loop-line-init c =
    let same = c.into_iter-line-iterator.ensures.into_iter_gives in (
      tt,
      tt,
      ap (λ l. l.text.now) same ∙ c.lines_of-line-items.ensures.places.0,
      refl,
      omega arith,
      ap (left false c.args.text.now) (ap lines_left same ∙ c.lines_of-line-items.ensures.all) ∙ left_start c.args.text.now,
      record { from = 0; before = omega arith; first = c.skip_to_far-comment.ensures.0 },
    )

pub put_raw-put-requires-clause-from_in_bounds : goal.put_raw-put-requires-clause-from_in_bounds
put_raw-put-requires-clause-from_in_bounds c =
    let t = c.args.text.now in
    let so_far = rw c.in-Some.ensures.steps.first at c.loop-line.invariant.5 in
    turn_room t c.loop-line.joined c.loop-line.put.out c.loop-line.put.gathered c.loop-line.invariant.4 c.in-Some.line (lines_left c.next.new.self) (length c.loop-line.joined) (omega (arith, c.requires, c.loop-line.invariant.3)) so_far

pub loop-line-preserved : goal.loop-line-preserved
loop-line-preserved c =
    let t = c.args.text.now in
    let so_far = rw c.in-Some.ensures.steps.first at c.loop-line.invariant.5 in
    let room : length t + 1 ≤ length c.loop-line.joined = omega (arith, c.requires, c.loop-line.invariant.3) in
    let fits = turn_room t c.loop-line.joined c.loop-line.put.out c.loop-line.put.gathered c.loop-line.invariant.4 c.in-Some.line (lines_left c.next.new.self) (length c.loop-line.joined) room so_far in (
      tt,
      tt,
      c.in-Some.ensures.steps.same_text ∙ c.loop-line.invariant.2,
      c.put_raw-put.auto.joined ∙ c.loop-line.invariant.3,
      omega (arith, fits, c.put_raw-put.auto.joined, c.put_raw-put.ensures.0.count),
      turn_after t c.loop-line.joined c.loop-line.put.out c.loop-line.put.gathered c.loop-line.invariant.4 c.in-Some.line (lines_left c.next.new.self) (length c.loop-line.joined) room so_far
          c.put_raw-put.new.joined c.put_raw-put.result.out c.put_raw-put.result.gathered c.put_raw-put.ensures.0 c.put_raw-put.ensures.1,
      record { from = c.in-Some.line.start; before = omega (arith, c.in-Some.ensures.steps.is_line); first = c.next_comment-comment.ensures },
    )

pub put_if-requires : goal.put_if-requires
put_if-requires c =
    let so_far = rw c.in-None.ensures.steps.first.0 at c.loop-line.invariant.5 in
    rw (one_if c.loop-line.put.gathered 10 c.then_some-line_end.result c.then_some-line_end.ensures)
    (omega (arith, c.requires, c.loop-line.invariant.3, end_room c.args.text.now c.loop-line.joined c.loop-line.put.out c.loop-line.put.gathered c.loop-line.invariant.4 so_far))

pub returns : goal.returns
returns c =
    let so_far = rw c.in-None.ensures.steps.first.0 at c.loop-line.invariant.5 in
    let ended = rw (one_if c.loop-line.put.gathered 10 c.then_some-line_end.result c.then_some-line_end.ensures) at c.put_if.ensures in (
      end_after c.args.text.now c.loop-line.joined c.loop-line.put.out c.loop-line.put.gathered c.loop-line.invariant.4 so_far c.put_if.new.joined c.put_if.result ended,
      omega (arith, ended.count, end_room c.args.text.now c.loop-line.joined c.loop-line.put.out c.loop-line.put.gathered c.loop-line.invariant.4 so_far),
    )
