-- A text's inputs, outputs and gate, and the outputs of its circuit, by computation.
-- Assumes nothing.
use Rattle.std.specs.Prelude.{Err, Ok}
use Prim.Native.Nat.{ℕ}
use mathlib.Core.Path.{◌≡◌, refl}
use mathlib.Core.List.{List, [], ◌∷◌, map}
use Rattle.laws.specs.Areas.{capacity}
use Rattle.laws.specs.Stretches.{stretch, run, same_bytes}
use Rattle.circuit.specs.Refusals.{Try}
use Rattle.circuit.specs.Records.{places as wire_places, input_node, cell_node, is_cell_node, wires_of}
use Rattle.circuit.specs.Circuits.{Circuit, wires_out}
use Rattle.text.specs.Bytes.{is_ascii, upper}
use Rattle.text.specs.Blanks.{is_blank, trim, trim_start, trim_end, trimmed}
use Rattle.text.specs.Lines.{raw_lines, uncommented, kept, kept_of, kept_lines, lines, places}
use Rattle.text.specs.Joining.{continued, all_but_last, part, gather, joined_from, logical_lines, ended, joined_text}
use Rattle.text.specs.declared.words.Word.{Word}
use Rattle.names.specs.Names.{lookup}
use Rattle.reading.specs.Reading.{bytes_fault, text_fault, find, add_name, add_node, add_named, add_input, add_output, each, resolve, closed, finish}
use Rattle.reading.specs.Areas.{read_text}
use Rattle.values.specs.Values.{answer_of, values_from, outputs_from, storage_values, storage_outputs}
use Rattle.bench_invocations.specs.Invocations.{arguments_of, none_empty, parts, up_to_last, invocation, parse_invocation}
use Rattle.bench_gates.specs.declared.operations.Operation.TheVariants.{Chain}
use Rattle.bench_gates.specs.declared.operations.Binary.TheVariants.{Nand}
use Rattle.bench_gates.specs.Operations.{binary_of, operation_of}
use Rattle.bench_gates.specs.Gates.{input_wires, chain, chained, lower_gate}
use Rattle.bench.specs.Bench.{gate_invoked, gate_of, gate_line, declaration_of, declared_in, declare, declaration_line, line_step, read_line, bench_lines, bench}
use Rattle.bench_meaning.specs.TextMeaning.{gates, input_named, output_named, declared}

-- INPUT(a) / INPUT(b c) / INPUT(d) / OUTPUT(y) / y = Nand(a, b c,d): its joined text is the same bytes
text : List ℕ
text = 73 ∷ 78 ∷ 80 ∷ 85 ∷ 84 ∷ 40 ∷ 97 ∷ 41 ∷ 10 ∷ 73 ∷ 78 ∷ 80 ∷ 85 ∷ 84 ∷ 40 ∷ 98 ∷ 32 ∷ 99 ∷ 41 ∷ 10 ∷ 73 ∷ 78 ∷ 80 ∷ 85 ∷ 84 ∷ 40 ∷ 100 ∷ 41 ∷ 10 ∷ 79 ∷ 85 ∷ 84 ∷ 80 ∷ 85 ∷ 84 ∷ 40 ∷ 121 ∷ 41 ∷ 10 ∷ 121 ∷ 32 ∷ 61 ∷ 32 ∷ 78 ∷ 97 ∷ 110 ∷ 100 ∷ 40 ∷ 97 ∷ 44 ∷ 32 ∷ 98 ∷ 32 ∷ 99 ∷ 44 ∷ 100 ∷ 41 ∷ 10 ∷ []

abbrev word : ℕ → ℕ → Word
word at size = record { start = at; len = size }

-- the names that it declares, at their places
names : declared input_named text (lines 0 text) ∷ declared output_named text (lines 0 text) ∷ [] ≡ (word 6 1 ∷ word 15 3 ∷ word 26 1 ∷ []) ∷ (word 36 1 ∷ []) ∷ []
unfolding declared text lines places raw_lines is_blank trim trim_start trim_end trimmed run stretch declared_in declaration_of parse_invocation invocation arguments_of none_empty parts up_to_last upper same_bytes
names = refl

-- its one gate
gate : gates text (lines 0 text) ≡ record { out = word 39 1; operation = Chain Nand; inputs = word 48 1 ∷ word 51 3 ∷ word 55 1 ∷ [] } ∷ []
unfolding gates text lines places raw_lines is_blank trim trim_start trim_end trimmed run stretch parse_invocation invocation arguments_of none_empty parts up_to_last operation_of binary_of upper same_bytes
gate = refl

-- the outputs of its circuit under every assignment of bits, and under some with unknowns
abbrev outputs_in : List ℕ → Try Circuit → List ℕ
outputs_in a (Err e) = []
outputs_in a (Ok c) = storage_outputs c.nodes (wires_out c) a

outputs : List ℕ → List ℕ
outputs a = outputs_in a (bench text 64 45 20 5)

values : map outputs ((0 ∷ 0 ∷ 0 ∷ []) ∷ (0 ∷ 0 ∷ 1 ∷ []) ∷ (0 ∷ 1 ∷ 0 ∷ []) ∷ (0 ∷ 1 ∷ 1 ∷ []) ∷ (1 ∷ 0 ∷ 0 ∷ []) ∷ (1 ∷ 0 ∷ 1 ∷ []) ∷ (1 ∷ 1 ∷ 0 ∷ []) ∷ (1 ∷ 1 ∷ 1 ∷ []) ∷ (2 ∷ 1 ∷ 1 ∷ []) ∷ (2 ∷ 0 ∷ 1 ∷ []) ∷ (2 ∷ 2 ∷ 0 ∷ []) ∷ [])
    ≡ (1 ∷ []) ∷ (1 ∷ []) ∷ (1 ∷ []) ∷ (1 ∷ []) ∷ (1 ∷ []) ∷ (1 ∷ []) ∷ (1 ∷ []) ∷ (0 ∷ []) ∷ (2 ∷ []) ∷ (1 ∷ []) ∷ (1 ∷ []) ∷ []
unfolding wire_places input_node cell_node outputs text read_text bytes_fault text_fault is_ascii capacity joined_text logical_lines joined_from gather part continued all_but_last kept_lines kept_of kept uncommented trim trim_start trim_end is_blank raw_lines ended bench_lines lines places each read_line line_step gate_line gate_of gate_invoked declaration_line declared_in declare declaration_of parse_invocation invocation arguments_of none_empty parts up_to_last trimmed run stretch operation_of binary_of upper input_wires lower_gate chained chain add_input add_output add_named add_node add_name find lookup same_bytes finish resolve closed storage_outputs storage_values outputs_from values_from answer_of wires_of is_cell_node
values = refl
