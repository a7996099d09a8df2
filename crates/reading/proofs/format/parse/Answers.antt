use lib.ListN.{length}
use Rattle.text.specs.Joining.{joined_text}
use Rattle.reading.specs.Reading.{places_in}
use Rattle.reading.proofs.Outer.{read_refused, read_sound, leaves_refused}
use Rattle.reading.proofs.format.parse.Goals as goal

pub returns-in-Err : goal.returns-in-Err
returns-in-Err g c =
    let f = rw c.in-Err.is at c.prepare.ensures in
    leaves_refused c.args.text.now _ _ (length c.args.joined.now) (length c.args.nodes.now) (length c.args.names.now) (length c.args.outputs.now) _ _ _ _ _ (read_refused g.F.Format.lines c.args.text.now (length c.args.joined.now) (length c.args.nodes.now) (length c.args.names.now) (length c.args.outputs.now) _ f) (rw (c.prepare.auto.joined, c.prepare.auto.nodes, c.prepare.auto.outputs) at c.refuse.ensures)

pub returns-in-Ok : goal.returns-in-Ok
returns-in-Ok g c =
    let r = rw c.in-Ok.is at c.prepare.ensures in
    let ends = rw (r.joined_in.front, c.prepare.auto.nodes, c.prepare.auto.outputs) at c.read_joined-ended.ensures in
    let left = c.conclude.ensures c.args.text.now c.in-Ok.used (g.F.Format.lines (joined_text c.args.text.now) (places_in (length c.args.nodes.now) (length c.args.names.now) (length c.args.outputs.now))) r.joined_in ends in
    rw (read_sound g.F.Format.lines c.args.text.now (length c.args.joined.now) (length c.args.nodes.now) (length c.args.names.now) (length c.args.outputs.now) r.sound) (rw (c.read_joined-ended.auto.nodes, c.read_joined-ended.auto.names, c.read_joined-ended.auto.outputs, c.prepare.auto.joined, c.prepare.auto.nodes, c.prepare.auto.outputs) at left)
