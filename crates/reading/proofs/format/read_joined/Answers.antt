use mathlib.Core.Path.{◌∙◌}
use Rattle.std.proofs.lemmas.Result.{err_from_is_err_and}
use Rattle.circuit.specs.Records.{nodes_of}
use Rattle.reading.specs.Holding.{places_of, state_of}
use Rattle.reading.proofs.Outer.{nothing_stands, ended_refused, ended_sound}
use Rattle.reading.proofs.format.read_joined.Goals as goal

pub read_lines-requires : goal.read_lines-requires
read_lines-requires g c = nothing_stands c.args.text.now c.args.nodes.now c.args.names.now c.args.outputs.now c.requires.text_short c.requires.nodes_zero c.requires.outputs_zero

pub returns-in_err-read : goal.returns-in_err-read
returns-in_err-read g c =
    let p = err_from_is_err_and c.from_residual.result c.from_residual.ensures.1 in
    let places = places_of c.args.nodes.now c.args.names.now c.args.outputs.now in
    rw (p.1, p.2) (record { is = ended_refused g.F.Names.constants c.args.text.now _ _ (g.met.F.Format.ends c.args.text.now places) _ c.in_err-read.ensures.step; nodes_kept = tt; outputs_kept = tt })

pub returns-in_err-resolve_outputs : goal.returns-in_err-resolve_outputs
returns-in_err-resolve_outputs g c =
    let p = err_from_is_err_and c.from_residual-in_err-resolve_outputs.result c.from_residual-in_err-resolve_outputs.ensures.1 in
    let places = places_of c.args.nodes.now c.args.names.now c.args.outputs.now in
    let read = c.in_ok-read.read in
    let state = state_of c.read_lines.new.nodes c.read_lines.new.names c.read_lines.new.outputs read in
    rw (p.1, p.2) (record { is = c.in_err-resolve_outputs.ensures.is (nodes_of c.read_lines.new.nodes read.counts.nodes) ∙ ended_sound g.F.Names.constants c.args.text.now _ _ (g.met.F.Format.ends c.args.text.now places) state c.in_ok-read.ensures.step; nodes_kept = tt; outputs_kept = tt })

pub returns : goal.returns
returns g c =
    let places = places_of c.args.nodes.now c.args.names.now c.args.outputs.now in
    let read = c.in_ok-read.read in
    let state = state_of c.read_lines.new.nodes c.read_lines.new.names c.read_lines.new.outputs read in
    record {
      is = c.in_ok-resolve_outputs.ensures.is (nodes_of c.read_lines.new.nodes read.counts.nodes) ∙ ended_sound g.F.Names.constants c.args.text.now _ _ (g.met.F.Format.ends c.args.text.now places) state c.in_ok-read.ensures.step;
      nodes_kept = c.in_ok-read.ensures.areas.named.nodes;
      outputs_kept = c.in_ok-resolve_outputs.ensures.kept;
    }
