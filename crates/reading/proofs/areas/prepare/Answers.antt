use mathlib.Core.Path.{sym}
use lib.ListN.{length}
use Rattle.std.proofs.lemmas.Result.{err_from_is_err_and}
use Rattle.reading.proofs.Outer.{sound-fits, joined_short, joined_in}
use Rattle.reading.proofs.areas.prepare.Goals as goal

pub returns-in_err-text_fault : goal.returns-in_err-text_fault
returns-in_err-text_fault c =
    let p = err_from_is_err_and c.from_residual.result c.from_residual.ensures.1 in
    rw (p.1, p.2) (sym c.in_err-text_fault.ensures)

pub logical_lines-requires : goal.logical_lines-requires
logical_lines-requires c = sound-fits c.args.text.now (length c.args.joined.now) (sym c.in_ok-text_fault.ensures)

pub returns : goal.returns
returns c =
    let sound = sym c.in_ok-text_fault.ensures in
    record {
      sound = sound;
      short = joined_short c.args.text.now (length c.args.joined.now) _ _ _ sound c.logical_lines.ensures;
      joined_in = joined_in c.args.text.now (length c.args.joined.now) _ _ c.logical_lines.auto.joined (sound-fits c.args.text.now (length c.args.joined.now) sound) c.logical_lines.ensures;
      nodes_is = c.fill.ensures.after (λ y q. q);
      outputs_is = c.fill-2.ensures.after (λ y q. q);
    }
