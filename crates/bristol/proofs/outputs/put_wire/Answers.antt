use Rattle.std.proofs.Common.{◌*◌, ap}
use mathlib.Core.Path.{◌∙◌}
use Rattle.laws.specs.Areas.{stored}
use Rattle.circuit.specs.declared.records.TheConstants.{OUTPUT_WORDS}
use Rattle.circuit.specs.declared.records.BoolWire.{BoolWire}
use Rattle.circuit.specs.declared.records.Name.TheVariants.{Number}
use Rattle.circuit.specs.Records.{encode_output}
use Rattle.bristol.specs.Bristol.{output_of}
use Rattle.bristol.proofs.StoreLaws.{more_outputs, more_outputs_hold}
use Rattle.bristol.proofs.outputs.put_wire.Goals as goal

pub returns : goal.returns
returns c =
    let old = c.args.outputs.now in
    let put = c.put_output.ensures ∙ ap (λ (z : BoolWire). stored old (c.args.count * OUTPUT_WORDS) (encode_output (record { name = Number c.args.w; wire = z }))) c.driver_of_slot.ensures in
    record {
      area = more_outputs_hold old c.put_output.new.outputs c.args.count (output_of c.args.w c.args.slot) put c.put_output.auto.outputs c.requires.area c.requires.room;
      step = more_outputs old c.put_output.new.outputs c.args.count (output_of c.args.w c.args.slot) put c.put_output.auto.outputs c.requires.area;
    }
