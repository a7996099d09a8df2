use mathlib.Core.Bool.{not}
use native.Mathlib.Omega.{arith}
use lib.ListN.{length}
use Rattle.text.proofs.WriteLaws.{one_if, room_space, room-part, room_end, line_done, line_still}
use Rattle.text.proofs.joining.put_line.Goals as goal

pub put_if-a-requires : goal.put_if-a-requires
put_if-a-requires c = rw (one_if c.args.put.gathered 32 c.then_some-space.result c.then_some-space.ensures) (room_space c.args.put.gathered c.args.line.now c.args.put.out (length c.args.joined.now) c.requires)

pub put_bytes-b-requires : goal.put_bytes-b-requires
put_bytes-b-requires c =
    let a = rw (one_if c.args.put.gathered 32 c.then_some-space.result c.then_some-space.ensures) at c.put_if-a.ensures in
    let r = room-part c.args.put.gathered c.args.line.now c.args.put.out (length c.args.joined.now) c.requires c.put_if-a.result c.part-bytes.result.now a.count c.part-bytes.ensures in
    omega (arith, r, c.put_if-a.auto.joined)

pub put_if-c-requires : goal.put_if-c-requires
put_if-c-requires c =
    let a = rw (one_if c.args.put.gathered 32 c.then_some-space.result c.then_some-space.ensures) at c.put_if-a.ensures in
    let r =
    room_end c.args.put.gathered c.args.line.now c.args.put.out (length c.args.joined.now) c.requires c.put_if-a.result c.put_bytes-b.result c.part-bytes.result.now c.is_continued-more.result a.count c.put_bytes-b.ensures.count c.part-bytes.ensures c.is_continued-more.ensures in
    rw (one_if (not c.is_continued-more.result) 10 c.then_some-line_end.result c.then_some-line_end.ensures) (omega (arith, r, c.put_if-a.auto.joined, c.put_bytes-b.auto.joined))

pub returns : goal.returns
returns c =
    let a = rw (one_if c.args.put.gathered 32 c.then_some-space.result c.then_some-space.ensures) at c.put_if-a.ensures in
    let e = rw (one_if (not c.is_continued-more.result) 10 c.then_some-line_end.result c.then_some-line_end.ensures) at c.put_if-c.ensures in (
      line_done c.args.joined.now c.put_if-a.new.joined c.put_bytes-b.new.joined c.put_if-c.new.joined c.args.line.now c.part-bytes.result.now c.args.put.gathered c.is_continued-more.result c.args.put.out c.put_if-a.result c.put_bytes-b.result c.put_if-c.result
          a c.put_bytes-b.ensures e c.part-bytes.ensures c.is_continued-more.ensures,
      line_still c.args.line.now c.part-bytes.result.now c.args.put.gathered c.is_continued-more.result c.still_gathered-g.result c.still_gathered-g.ensures c.is_continued-more.ensures c.part-bytes.ensures,
    )
