-- 01's examples, the refusals in their order, and areas that are one record short, computed from the definition.
-- Assumes nothing.
use Rattle.std.specs.Prelude.{Err}
use Prim.Native.Nat.{ℕ}
use mathlib.Core.Path.{◌≡◌, refl, subst}
use mathlib.Core.List.{List, [], ◌∷◌, map}
use Rattle.laws.specs.Areas.{capacity}
use Rattle.laws.specs.Stretches.{stretch, run, same_bytes}
use Rattle.circuit.specs.declared.refusals.Refusal.TheVariants.{NoRoom}
use Rattle.circuit.specs.declared.records.Sizes.{Sizes}
use Rattle.circuit.specs.Refusals.{Try}
use Rattle.circuit.specs.Circuits.{Circuit}
use Rattle.circuit.specs.Records.{encode_node, input_node, cell_node, places as wire_places}
use Rattle.text.specs.Bytes.{is_ascii, upper}
use Rattle.text.specs.Blanks.{is_blank, trim, trim_start, trim_end, trimmed}
use Rattle.text.specs.Lines.{raw_lines, uncommented, kept, kept_of, kept_lines, lines, places}
use Rattle.text.specs.Joining.{continued, all_but_last, part, gather, joined_from, logical_lines, ended, joined_text}
use Rattle.names.specs.Names.{lookup}
use Rattle.reading.specs.Reading.{bytes_fault, text_fault, find, add_name, add_node, add_alias, add_named, add_input, add_output, each, resolve, closed, finish}
use Rattle.reading.proofs.Cases.{Case, areas, read_by}
use Rattle.reading.specs.Areas.{read_text, Leaves, Zeroed}
use Rattle.bench_invocations.specs.Invocations.{arguments_of, none_empty, parts, up_to_last, invocation, parse_invocation}
use Rattle.bench_gates.specs.Operations.{binary_of, operation_of}
use Rattle.bench_gates.specs.Gates.{input_wires, chain, chained, lower_gate}
use Rattle.bench.specs.Bench.{gate_invoked, gate_of, gate_line, declaration_of, declared_in, declare, declaration_line, line_step, read_line, bench_lines, bench}

read : Case → List ℕ
read c = read_by bench c

-- NAND(a, b, c): table 8 at the step, which is named with its number and takes no name record, then table 7; one record less of any area is 3
nand : map read (areas (73 ∷ 78 ∷ 80 ∷ 85 ∷ 84 ∷ 40 ∷ 97 ∷ 41 ∷ 10 ∷ 73 ∷ 78 ∷ 80 ∷ 85 ∷ 84 ∷ 40 ∷ 98 ∷ 41 ∷ 10 ∷ 73 ∷ 78 ∷ 80 ∷ 85 ∷ 84 ∷ 40 ∷ 99 ∷ 41 ∷ 10 ∷ 79 ∷ 85 ∷ 84 ∷ 80 ∷ 85 ∷ 84 ∷ 40 ∷ 121 ∷ 41 ∷ 10 ∷ 121 ∷ 32 ∷ 61 ∷ 32 ∷ 78 ∷ 65 ∷ 78 ∷ 68 ∷ 40 ∷ 97 ∷ 44 ∷ 32 ∷ 98 ∷ 44 ∷ 32 ∷ 99 ∷ 41 ∷ 10 ∷ []) 45 20 5 ∷ areas (73 ∷ 78 ∷ 80 ∷ 85 ∷ 84 ∷ 40 ∷ 97 ∷ 41 ∷ 10 ∷ 73 ∷ 78 ∷ 80 ∷ 85 ∷ 84 ∷ 40 ∷ 98 ∷ 41 ∷ 10 ∷ 73 ∷ 78 ∷ 80 ∷ 85 ∷ 84 ∷ 40 ∷ 99 ∷ 41 ∷ 10 ∷ 79 ∷ 85 ∷ 84 ∷ 80 ∷ 85 ∷ 84 ∷ 40 ∷ 121 ∷ 41 ∷ 10 ∷ 121 ∷ 32 ∷ 61 ∷ 32 ∷ 78 ∷ 65 ∷ 78 ∷ 68 ∷ 40 ∷ 97 ∷ 44 ∷ 32 ∷ 98 ∷ 44 ∷ 32 ∷ 99 ∷ 41 ∷ 10 ∷ []) 44 20 5 ∷ areas (73 ∷ 78 ∷ 80 ∷ 85 ∷ 84 ∷ 40 ∷ 97 ∷ 41 ∷ 10 ∷ 73 ∷ 78 ∷ 80 ∷ 85 ∷ 84 ∷ 40 ∷ 98 ∷ 41 ∷ 10 ∷ 73 ∷ 78 ∷ 80 ∷ 85 ∷ 84 ∷ 40 ∷ 99 ∷ 41 ∷ 10 ∷ 79 ∷ 85 ∷ 84 ∷ 80 ∷ 85 ∷ 84 ∷ 40 ∷ 121 ∷ 41 ∷ 10 ∷ 121 ∷ 32 ∷ 61 ∷ 32 ∷ 78 ∷ 65 ∷ 78 ∷ 68 ∷ 40 ∷ 97 ∷ 44 ∷ 32 ∷ 98 ∷ 44 ∷ 32 ∷ 99 ∷ 41 ∷ 10 ∷ []) 45 19 5 ∷ areas (73 ∷ 78 ∷ 80 ∷ 85 ∷ 84 ∷ 40 ∷ 97 ∷ 41 ∷ 10 ∷ 73 ∷ 78 ∷ 80 ∷ 85 ∷ 84 ∷ 40 ∷ 98 ∷ 41 ∷ 10 ∷ 73 ∷ 78 ∷ 80 ∷ 85 ∷ 84 ∷ 40 ∷ 99 ∷ 41 ∷ 10 ∷ 79 ∷ 85 ∷ 84 ∷ 80 ∷ 85 ∷ 84 ∷ 40 ∷ 121 ∷ 41 ∷ 10 ∷ 121 ∷ 32 ∷ 61 ∷ 32 ∷ 78 ∷ 65 ∷ 78 ∷ 68 ∷ 40 ∷ 97 ∷ 44 ∷ 32 ∷ 98 ∷ 44 ∷ 32 ∷ 99 ∷ 41 ∷ 10 ∷ []) 45 20 4 ∷ []) ≡ (1 ∷ 0 ∷ 0 ∷ 1 ∷ 6 ∷ 1 ∷ 0 ∷ 0 ∷ 0 ∷ 1 ∷ 0 ∷ 0 ∷ 1 ∷ 15 ∷ 1 ∷ 0 ∷ 0 ∷ 0 ∷ 1 ∷ 0 ∷ 0 ∷ 1 ∷ 24 ∷ 1 ∷ 0 ∷ 0 ∷ 0 ∷ 2 ∷ 2 ∷ 8 ∷ 2 ∷ 37 ∷ 1 ∷ 1 ∷ 2 ∷ 3 ∷ 2 ∷ 2 ∷ 7 ∷ 1 ∷ 37 ∷ 1 ∷ 0 ∷ 5 ∷ 4 ∷ 1 ∷ 34 ∷ 1 ∷ 0 ∷ 6 ∷ []) ∷ (3 ∷ []) ∷ (3 ∷ []) ∷ (3 ∷ []) ∷ []
unfolding read read_text bytes_fault text_fault is_ascii capacity joined_text logical_lines joined_from gather part continued all_but_last kept_lines kept_of kept uncommented trim trim_start trim_end is_blank raw_lines ended bench_lines lines places each read_line line_step gate_line gate_of gate_invoked declaration_line declared_in declare declaration_of parse_invocation invocation arguments_of none_empty parts up_to_last trimmed run stretch operation_of binary_of upper input_wires lower_gate chained chain add_input add_output add_named add_node add_name add_alias find lookup same_bytes finish resolve closed encode_node input_node cell_node wire_places
nand = refl

-- a gate of six inputs: five nodes in a row, and 3 with one place too few for its steps
many : map read (areas (79 ∷ 85 ∷ 84 ∷ 80 ∷ 85 ∷ 84 ∷ 40 ∷ 121 ∷ 41 ∷ 10 ∷ 121 ∷ 61 ∷ 79 ∷ 82 ∷ 40 ∷ 84 ∷ 82 ∷ 85 ∷ 69 ∷ 44 ∷ 84 ∷ 82 ∷ 85 ∷ 69 ∷ 44 ∷ 84 ∷ 82 ∷ 85 ∷ 69 ∷ 44 ∷ 84 ∷ 82 ∷ 85 ∷ 69 ∷ 44 ∷ 84 ∷ 82 ∷ 85 ∷ 69 ∷ 44 ∷ 84 ∷ 82 ∷ 85 ∷ 69 ∷ 41 ∷ []) 45 5 5 ∷ areas (79 ∷ 85 ∷ 84 ∷ 80 ∷ 85 ∷ 84 ∷ 40 ∷ 121 ∷ 41 ∷ 10 ∷ 121 ∷ 61 ∷ 79 ∷ 82 ∷ 40 ∷ 84 ∷ 82 ∷ 85 ∷ 69 ∷ 44 ∷ 84 ∷ 82 ∷ 85 ∷ 69 ∷ 44 ∷ 84 ∷ 82 ∷ 85 ∷ 69 ∷ 44 ∷ 84 ∷ 82 ∷ 85 ∷ 69 ∷ 44 ∷ 84 ∷ 82 ∷ 85 ∷ 69 ∷ 44 ∷ 84 ∷ 82 ∷ 85 ∷ 69 ∷ 41 ∷ []) 36 5 5 ∷ []) ≡ (2 ∷ 2 ∷ 14 ∷ 2 ∷ 10 ∷ 1 ∷ 1 ∷ 1 ∷ 1 ∷ 2 ∷ 2 ∷ 14 ∷ 2 ∷ 10 ∷ 1 ∷ 2 ∷ 2 ∷ 1 ∷ 2 ∷ 2 ∷ 14 ∷ 2 ∷ 10 ∷ 1 ∷ 3 ∷ 3 ∷ 1 ∷ 2 ∷ 2 ∷ 14 ∷ 2 ∷ 10 ∷ 1 ∷ 4 ∷ 4 ∷ 1 ∷ 2 ∷ 2 ∷ 14 ∷ 1 ∷ 10 ∷ 1 ∷ 0 ∷ 5 ∷ 1 ∷ 1 ∷ 7 ∷ 1 ∷ 0 ∷ 6 ∷ []) ∷ (3 ∷ []) ∷ []
unfolding read read_text bytes_fault text_fault is_ascii capacity joined_text logical_lines joined_from gather part continued all_but_last kept_lines kept_of kept uncommented trim trim_start trim_end is_blank raw_lines ended bench_lines lines places each read_line line_step gate_line gate_of gate_invoked declaration_line declared_in declare declaration_of parse_invocation invocation arguments_of none_empty parts up_to_last trimmed run stretch operation_of binary_of upper input_wires lower_gate chained chain add_input add_output add_named add_node add_name add_alias find lookup same_bytes finish resolve closed encode_node input_node cell_node wire_places
many = refl

-- that gate with one place too few for its steps: whatever the areas held, zeros stand in all of them at the exit
short : List ℕ
short = 79 ∷ 85 ∷ 84 ∷ 80 ∷ 85 ∷ 84 ∷ 40 ∷ 121 ∷ 41 ∷ 10 ∷ 121 ∷ 61 ∷ 79 ∷ 82 ∷ 40 ∷ 84 ∷ 82 ∷ 85 ∷ 69 ∷ 44 ∷ 84 ∷ 82 ∷ 85 ∷ 69 ∷ 44 ∷ 84 ∷ 82 ∷ 85 ∷ 69 ∷ 44 ∷ 84 ∷ 82 ∷ 85 ∷ 69 ∷ 44 ∷ 84 ∷ 82 ∷ 85 ∷ 69 ∷ 44 ∷ 84 ∷ 82 ∷ 85 ∷ 69 ∷ 41 ∷ []

short_refused : bench short 128 36 5 5 ≡ Err NoRoom
unfolding short read_text bytes_fault text_fault is_ascii capacity joined_text logical_lines joined_from gather part continued all_but_last kept_lines kept_of kept uncommented trim trim_start trim_end is_blank raw_lines ended bench_lines lines places each read_line line_step gate_line gate_of gate_invoked declaration_line declared_in declare declaration_of parse_invocation invocation arguments_of none_empty parts up_to_last trimmed run stretch operation_of binary_of upper input_wires lower_gate chained chain add_input add_output add_named add_node add_name add_alias find lookup same_bytes finish resolve closed encode_node input_node cell_node wire_places
short_refused = refl

short_zeroed : (r : Try Sizes) (joined nodes names outputs : List ℕ) → Leaves short (bench short 128 36 5 5) 128 36 5 5 r joined nodes names outputs → Zeroed NoRoom 128 36 5 5 r joined nodes names outputs
short_zeroed r joined nodes names outputs l = zeroed (subst (λ (c : Try Circuit). Leaves short c 128 36 5 5 r joined nodes names outputs) short_refused l)
  where
    zeroed : Leaves short (Err NoRoom) 128 36 5 5 r joined nodes names outputs → Zeroed NoRoom 128 36 5 5 r joined nodes names outputs
    zeroed k = record { answer = k.answer; joined_is = k.joined_is; nodes_is = k.nodes_is; names_is = k.names_is; outputs_is = k.outputs_is }

-- the six tables, with the first input as the first wire: XOR(a, a), constants as inputs, letters in any case
operations : map read (areas (73 ∷ 78 ∷ 80 ∷ 85 ∷ 84 ∷ 40 ∷ 97 ∷ 41 ∷ 10 ∷ 79 ∷ 85 ∷ 84 ∷ 80 ∷ 85 ∷ 84 ∷ 40 ∷ 121 ∷ 41 ∷ 10 ∷ 121 ∷ 61 ∷ 120 ∷ 111 ∷ 114 ∷ 40 ∷ 97 ∷ 44 ∷ 97 ∷ 41 ∷ []) 45 25 10 ∷ areas (79 ∷ 85 ∷ 84 ∷ 80 ∷ 85 ∷ 84 ∷ 40 ∷ 121 ∷ 41 ∷ 10 ∷ 121 ∷ 61 ∷ 65 ∷ 110 ∷ 100 ∷ 40 ∷ 84 ∷ 82 ∷ 85 ∷ 69 ∷ 44 ∷ 70 ∷ 65 ∷ 76 ∷ 83 ∷ 69 ∷ 41 ∷ []) 45 25 10 ∷ areas (79 ∷ 85 ∷ 84 ∷ 80 ∷ 85 ∷ 84 ∷ 40 ∷ 121 ∷ 41 ∷ 10 ∷ 121 ∷ 61 ∷ 78 ∷ 97 ∷ 110 ∷ 100 ∷ 40 ∷ 84 ∷ 82 ∷ 85 ∷ 69 ∷ 44 ∷ 70 ∷ 65 ∷ 76 ∷ 83 ∷ 69 ∷ 41 ∷ []) 45 25 10 ∷ areas (79 ∷ 85 ∷ 84 ∷ 80 ∷ 85 ∷ 84 ∷ 40 ∷ 121 ∷ 41 ∷ 10 ∷ 121 ∷ 61 ∷ 79 ∷ 114 ∷ 40 ∷ 84 ∷ 82 ∷ 85 ∷ 69 ∷ 44 ∷ 70 ∷ 65 ∷ 76 ∷ 83 ∷ 69 ∷ 41 ∷ []) 45 25 10 ∷ areas (79 ∷ 85 ∷ 84 ∷ 80 ∷ 85 ∷ 84 ∷ 40 ∷ 121 ∷ 41 ∷ 10 ∷ 121 ∷ 61 ∷ 78 ∷ 111 ∷ 114 ∷ 40 ∷ 84 ∷ 82 ∷ 85 ∷ 69 ∷ 44 ∷ 70 ∷ 65 ∷ 76 ∷ 83 ∷ 69 ∷ 41 ∷ []) 45 25 10 ∷ areas (79 ∷ 85 ∷ 84 ∷ 80 ∷ 85 ∷ 84 ∷ 40 ∷ 121 ∷ 41 ∷ 10 ∷ 121 ∷ 61 ∷ 88 ∷ 111 ∷ 114 ∷ 40 ∷ 84 ∷ 82 ∷ 85 ∷ 69 ∷ 44 ∷ 70 ∷ 65 ∷ 76 ∷ 83 ∷ 69 ∷ 41 ∷ []) 45 25 10 ∷ areas (79 ∷ 85 ∷ 84 ∷ 80 ∷ 85 ∷ 84 ∷ 40 ∷ 121 ∷ 41 ∷ 10 ∷ 121 ∷ 61 ∷ 88 ∷ 110 ∷ 111 ∷ 114 ∷ 40 ∷ 84 ∷ 82 ∷ 85 ∷ 69 ∷ 44 ∷ 70 ∷ 65 ∷ 76 ∷ 83 ∷ 69 ∷ 41 ∷ []) 45 25 10 ∷ []) ≡ (1 ∷ 0 ∷ 0 ∷ 1 ∷ 6 ∷ 1 ∷ 0 ∷ 0 ∷ 0 ∷ 2 ∷ 2 ∷ 6 ∷ 1 ∷ 19 ∷ 1 ∷ 0 ∷ 2 ∷ 2 ∷ 1 ∷ 16 ∷ 1 ∷ 0 ∷ 3 ∷ []) ∷ (2 ∷ 2 ∷ 8 ∷ 1 ∷ 10 ∷ 1 ∷ 0 ∷ 1 ∷ 0 ∷ 1 ∷ 7 ∷ 1 ∷ 0 ∷ 2 ∷ []) ∷ (2 ∷ 2 ∷ 7 ∷ 1 ∷ 10 ∷ 1 ∷ 0 ∷ 1 ∷ 0 ∷ 1 ∷ 7 ∷ 1 ∷ 0 ∷ 2 ∷ []) ∷ (2 ∷ 2 ∷ 14 ∷ 1 ∷ 10 ∷ 1 ∷ 0 ∷ 1 ∷ 0 ∷ 1 ∷ 7 ∷ 1 ∷ 0 ∷ 2 ∷ []) ∷ (2 ∷ 2 ∷ 1 ∷ 1 ∷ 10 ∷ 1 ∷ 0 ∷ 1 ∷ 0 ∷ 1 ∷ 7 ∷ 1 ∷ 0 ∷ 2 ∷ []) ∷ (2 ∷ 2 ∷ 6 ∷ 1 ∷ 10 ∷ 1 ∷ 0 ∷ 1 ∷ 0 ∷ 1 ∷ 7 ∷ 1 ∷ 0 ∷ 2 ∷ []) ∷ (2 ∷ 2 ∷ 9 ∷ 1 ∷ 10 ∷ 1 ∷ 0 ∷ 1 ∷ 0 ∷ 1 ∷ 7 ∷ 1 ∷ 0 ∷ 2 ∷ []) ∷ []
unfolding read read_text bytes_fault text_fault is_ascii capacity joined_text logical_lines joined_from gather part continued all_but_last kept_lines kept_of kept uncommented trim trim_start trim_end is_blank raw_lines ended bench_lines lines places each read_line line_step gate_line gate_of gate_invoked declaration_line declared_in declare declaration_of parse_invocation invocation arguments_of none_empty parts up_to_last trimmed run stretch operation_of binary_of upper input_wires lower_gate chained chain add_input add_output add_named add_node add_name add_alias find lookup same_bytes finish resolve closed encode_node input_node cell_node wire_places
operations = refl

-- BUFF and BUF give a name to a wire, NOT and INV make a cell of table 1; an output is TRUE itself
ones : map read (areas (79 ∷ 85 ∷ 84 ∷ 80 ∷ 85 ∷ 84 ∷ 40 ∷ 121 ∷ 41 ∷ 10 ∷ 121 ∷ 61 ∷ 66 ∷ 85 ∷ 70 ∷ 70 ∷ 40 ∷ 84 ∷ 82 ∷ 85 ∷ 69 ∷ 41 ∷ []) 45 25 10 ∷ areas (73 ∷ 78 ∷ 80 ∷ 85 ∷ 84 ∷ 40 ∷ 97 ∷ 41 ∷ 10 ∷ 79 ∷ 85 ∷ 84 ∷ 80 ∷ 85 ∷ 84 ∷ 40 ∷ 121 ∷ 41 ∷ 10 ∷ 121 ∷ 61 ∷ 98 ∷ 117 ∷ 102 ∷ 40 ∷ 97 ∷ 41 ∷ []) 45 25 10 ∷ areas (79 ∷ 85 ∷ 84 ∷ 80 ∷ 85 ∷ 84 ∷ 40 ∷ 121 ∷ 41 ∷ 10 ∷ 121 ∷ 61 ∷ 78 ∷ 79 ∷ 84 ∷ 40 ∷ 70 ∷ 65 ∷ 76 ∷ 83 ∷ 69 ∷ 41 ∷ []) 45 25 10 ∷ areas (73 ∷ 78 ∷ 80 ∷ 85 ∷ 84 ∷ 40 ∷ 97 ∷ 41 ∷ 10 ∷ 79 ∷ 85 ∷ 84 ∷ 80 ∷ 85 ∷ 84 ∷ 40 ∷ 121 ∷ 41 ∷ 10 ∷ 121 ∷ 61 ∷ 73 ∷ 110 ∷ 118 ∷ 40 ∷ 32 ∷ 97 ∷ 32 ∷ 41 ∷ []) 45 25 10 ∷ areas (79 ∷ 85 ∷ 84 ∷ 80 ∷ 85 ∷ 84 ∷ 40 ∷ 84 ∷ 82 ∷ 85 ∷ 69 ∷ 41 ∷ 10 ∷ 79 ∷ 85 ∷ 84 ∷ 80 ∷ 85 ∷ 84 ∷ 40 ∷ 70 ∷ 65 ∷ 76 ∷ 83 ∷ 69 ∷ 41 ∷ []) 45 25 10 ∷ areas (79 ∷ 85 ∷ 84 ∷ 80 ∷ 85 ∷ 84 ∷ 40 ∷ 84 ∷ 82 ∷ 85 ∷ 69 ∷ 41 ∷ []) 0 0 5 ∷ []) ≡ (1 ∷ 7 ∷ 1 ∷ 0 ∷ 1 ∷ []) ∷ (1 ∷ 0 ∷ 0 ∷ 1 ∷ 6 ∷ 1 ∷ 0 ∷ 0 ∷ 0 ∷ 1 ∷ 16 ∷ 1 ∷ 0 ∷ 2 ∷ []) ∷ (2 ∷ 1 ∷ 1 ∷ 1 ∷ 10 ∷ 1 ∷ 0 ∷ 0 ∷ 0 ∷ 1 ∷ 7 ∷ 1 ∷ 0 ∷ 2 ∷ []) ∷ (1 ∷ 0 ∷ 0 ∷ 1 ∷ 6 ∷ 1 ∷ 0 ∷ 0 ∷ 0 ∷ 2 ∷ 1 ∷ 1 ∷ 1 ∷ 19 ∷ 1 ∷ 0 ∷ 2 ∷ 0 ∷ 1 ∷ 16 ∷ 1 ∷ 0 ∷ 3 ∷ []) ∷ (1 ∷ 7 ∷ 4 ∷ 0 ∷ 1 ∷ 1 ∷ 20 ∷ 5 ∷ 0 ∷ 0 ∷ []) ∷ (1 ∷ 7 ∷ 4 ∷ 0 ∷ 1 ∷ []) ∷ []
unfolding read read_text bytes_fault text_fault is_ascii capacity joined_text logical_lines joined_from gather part continued all_but_last kept_lines kept_of kept uncommented trim trim_start trim_end is_blank raw_lines ended bench_lines lines places each read_line line_step gate_line gate_of gate_invoked declaration_line declared_in declare declaration_of parse_invocation invocation arguments_of none_empty parts up_to_last trimmed run stretch operation_of binary_of upper input_wires lower_gate chained chain add_input add_output add_named add_node add_name add_alias find lookup same_bytes finish resolve closed encode_node input_node cell_node wire_places
ones = refl

-- names with inner blanks and parentheses: from the first parenthesis to the last
names : map read (areas (73 ∷ 78 ∷ 80 ∷ 85 ∷ 84 ∷ 40 ∷ 32 ∷ 97 ∷ 32 ∷ 32 ∷ 98 ∷ 32 ∷ 41 ∷ 10 ∷ 79 ∷ 85 ∷ 84 ∷ 80 ∷ 85 ∷ 84 ∷ 40 ∷ 97 ∷ 32 ∷ 32 ∷ 98 ∷ 41 ∷ []) 45 25 10 ∷ areas (73 ∷ 78 ∷ 80 ∷ 85 ∷ 84 ∷ 40 ∷ 97 ∷ 41 ∷ 41 ∷ 10 ∷ 79 ∷ 85 ∷ 84 ∷ 80 ∷ 85 ∷ 84 ∷ 40 ∷ 121 ∷ 41 ∷ 10 ∷ 121 ∷ 32 ∷ 61 ∷ 32 ∷ 78 ∷ 79 ∷ 84 ∷ 40 ∷ 97 ∷ 41 ∷ 41 ∷ []) 45 25 10 ∷ areas (73 ∷ 78 ∷ 80 ∷ 85 ∷ 84 ∷ 40 ∷ 40 ∷ 41 ∷ 10 ∷ 79 ∷ 85 ∷ 84 ∷ 80 ∷ 85 ∷ 84 ∷ 40 ∷ 121 ∷ 41 ∷ 10 ∷ 121 ∷ 61 ∷ 66 ∷ 85 ∷ 70 ∷ 40 ∷ 40 ∷ 41 ∷ []) 45 25 10 ∷ areas (73 ∷ 78 ∷ 80 ∷ 85 ∷ 84 ∷ 40 ∷ 97 ∷ 41 ∷ 10 ∷ 79 ∷ 85 ∷ 84 ∷ 80 ∷ 85 ∷ 84 ∷ 40 ∷ 120 ∷ 36 ∷ 98 ∷ 101 ∷ 110 ∷ 99 ∷ 104 ∷ 36 ∷ 49 ∷ 41 ∷ 10 ∷ 120 ∷ 32 ∷ 61 ∷ 32 ∷ 65 ∷ 78 ∷ 68 ∷ 40 ∷ 97 ∷ 44 ∷ 97 ∷ 44 ∷ 97 ∷ 41 ∷ []) 45 25 10 ∷ areas (73 ∷ 78 ∷ 80 ∷ 85 ∷ 84 ∷ 40 ∷ 116 ∷ 114 ∷ 117 ∷ 101 ∷ 41 ∷ 10 ∷ 79 ∷ 85 ∷ 84 ∷ 80 ∷ 85 ∷ 84 ∷ 40 ∷ 116 ∷ 114 ∷ 117 ∷ 101 ∷ 41 ∷ []) 45 25 10 ∷ areas (73 ∷ 78 ∷ 80 ∷ 85 ∷ 84 ∷ 40 ∷ 97 ∷ 41 ∷ 10 ∷ 79 ∷ 85 ∷ 84 ∷ 80 ∷ 85 ∷ 84 ∷ 40 ∷ 92 ∷ 10 ∷ 97 ∷ 41 ∷ []) 45 25 10 ∷ []) ≡ (1 ∷ 0 ∷ 0 ∷ 1 ∷ 7 ∷ 4 ∷ 0 ∷ 0 ∷ 0 ∷ 1 ∷ 21 ∷ 4 ∷ 0 ∷ 2 ∷ []) ∷ (1 ∷ 0 ∷ 0 ∷ 1 ∷ 6 ∷ 2 ∷ 0 ∷ 0 ∷ 0 ∷ 2 ∷ 1 ∷ 1 ∷ 1 ∷ 20 ∷ 1 ∷ 0 ∷ 2 ∷ 0 ∷ 1 ∷ 17 ∷ 1 ∷ 0 ∷ 3 ∷ []) ∷ (1 ∷ 0 ∷ 0 ∷ 1 ∷ 6 ∷ 1 ∷ 0 ∷ 0 ∷ 0 ∷ 1 ∷ 16 ∷ 1 ∷ 0 ∷ 2 ∷ []) ∷ (5 ∷ []) ∷ (1 ∷ 0 ∷ 0 ∷ 1 ∷ 6 ∷ 4 ∷ 0 ∷ 0 ∷ 0 ∷ 1 ∷ 19 ∷ 4 ∷ 0 ∷ 2 ∷ []) ∷ (1 ∷ 0 ∷ 0 ∷ 1 ∷ 6 ∷ 1 ∷ 0 ∷ 0 ∷ 0 ∷ 1 ∷ 17 ∷ 1 ∷ 0 ∷ 2 ∷ []) ∷ []
unfolding read read_text bytes_fault text_fault is_ascii capacity joined_text logical_lines joined_from gather part continued all_but_last kept_lines kept_of kept uncommented trim trim_start trim_end is_blank raw_lines ended bench_lines lines places each read_line line_step gate_line gate_of gate_invoked declaration_line declared_in declare declaration_of parse_invocation invocation arguments_of none_empty parts up_to_last trimmed run stretch operation_of binary_of upper input_wires lower_gate chained chain add_input add_output add_named add_node add_name add_alias find lookup same_bytes finish resolve closed encode_node input_node cell_node wire_places
names = refl

-- a gate: empty output 9, then 4, then the invocation 9, then 5, then count 6 and operation 8
gates : map read (areas (32 ∷ 61 ∷ 65 ∷ 78 ∷ 68 ∷ 40 ∷ 84 ∷ 82 ∷ 85 ∷ 69 ∷ []) 45 25 10 ∷ areas (84 ∷ 82 ∷ 85 ∷ 69 ∷ 61 ∷ 40 ∷ []) 45 25 10 ∷ areas (73 ∷ 78 ∷ 80 ∷ 85 ∷ 84 ∷ 40 ∷ 97 ∷ 41 ∷ 10 ∷ 97 ∷ 61 ∷ 40 ∷ []) 45 25 10 ∷ areas (121 ∷ 61 ∷ 65 ∷ 78 ∷ 68 ∷ []) 45 25 10 ∷ areas (121 ∷ 61 ∷ 65 ∷ 78 ∷ 68 ∷ 41 ∷ 84 ∷ 82 ∷ 85 ∷ 69 ∷ 40 ∷ []) 45 25 10 ∷ areas (121 ∷ 61 ∷ 65 ∷ 78 ∷ 68 ∷ 40 ∷ 84 ∷ 82 ∷ 85 ∷ 69 ∷ []) 45 25 10 ∷ areas (121 ∷ 61 ∷ 65 ∷ 78 ∷ 68 ∷ 84 ∷ 82 ∷ 85 ∷ 69 ∷ 41 ∷ []) 45 25 10 ∷ areas (121 ∷ 61 ∷ 65 ∷ 78 ∷ 68 ∷ 40 ∷ 84 ∷ 82 ∷ 85 ∷ 69 ∷ 41 ∷ 122 ∷ []) 45 25 10 ∷ areas (121 ∷ 61 ∷ 40 ∷ 84 ∷ 82 ∷ 85 ∷ 69 ∷ 41 ∷ []) 45 25 10 ∷ areas (121 ∷ 61 ∷ 32 ∷ 40 ∷ 32 ∷ 97 ∷ 32 ∷ 41 ∷ []) 45 25 10 ∷ areas (121 ∷ 61 ∷ 65 ∷ 78 ∷ 68 ∷ 40 ∷ 84 ∷ 82 ∷ 85 ∷ 69 ∷ 44 ∷ 41 ∷ []) 45 25 10 ∷ areas (121 ∷ 61 ∷ 65 ∷ 78 ∷ 68 ∷ 40 ∷ 44 ∷ 41 ∷ []) 45 25 10 ∷ areas (121 ∷ 61 ∷ 65 ∷ 78 ∷ 68 ∷ 40 ∷ 84 ∷ 82 ∷ 85 ∷ 69 ∷ 44 ∷ 32 ∷ 44 ∷ 84 ∷ 82 ∷ 85 ∷ 69 ∷ 41 ∷ []) 45 25 10 ∷ areas (121 ∷ 61 ∷ 65 ∷ 78 ∷ 68 ∷ 40 ∷ 97 ∷ 44 ∷ 41 ∷ []) 45 25 10 ∷ areas (121 ∷ 61 ∷ 70 ∷ 79 ∷ 79 ∷ 40 ∷ 97 ∷ 41 ∷ []) 45 25 10 ∷ areas (121 ∷ 61 ∷ 66 ∷ 85 ∷ 70 ∷ 40 ∷ 84 ∷ 82 ∷ 85 ∷ 69 ∷ 44 ∷ 97 ∷ 41 ∷ []) 45 25 10 ∷ areas (121 ∷ 61 ∷ 121 ∷ 61 ∷ 78 ∷ 79 ∷ 84 ∷ 40 ∷ 84 ∷ 82 ∷ 85 ∷ 69 ∷ 41 ∷ []) 45 25 10 ∷ areas (121 ∷ 61 ∷ 70 ∷ 79 ∷ 79 ∷ 40 ∷ 41 ∷ []) 45 25 10 ∷ areas (121 ∷ 61 ∷ 70 ∷ 79 ∷ 79 ∷ 40 ∷ 84 ∷ 82 ∷ 85 ∷ 69 ∷ 41 ∷ []) 45 25 10 ∷ areas (121 ∷ 61 ∷ 65 ∷ 78 ∷ 68 ∷ 40 ∷ 32 ∷ 41 ∷ []) 45 25 10 ∷ areas (121 ∷ 61 ∷ 65 ∷ 78 ∷ 68 ∷ 40 ∷ 84 ∷ 82 ∷ 85 ∷ 69 ∷ 41 ∷ []) 45 25 10 ∷ areas (121 ∷ 61 ∷ 66 ∷ 85 ∷ 70 ∷ 40 ∷ 41 ∷ []) 45 25 10 ∷ areas (121 ∷ 61 ∷ 78 ∷ 79 ∷ 84 ∷ 40 ∷ 84 ∷ 82 ∷ 85 ∷ 69 ∷ 44 ∷ 84 ∷ 82 ∷ 85 ∷ 69 ∷ 41 ∷ []) 45 25 10 ∷ []) ≡ (9 ∷ []) ∷ (4 ∷ []) ∷ (4 ∷ []) ∷ (9 ∷ []) ∷ (9 ∷ []) ∷ (9 ∷ []) ∷ (9 ∷ []) ∷ (9 ∷ []) ∷ (9 ∷ []) ∷ (9 ∷ []) ∷ (9 ∷ []) ∷ (9 ∷ []) ∷ (9 ∷ []) ∷ (9 ∷ []) ∷ (5 ∷ []) ∷ (5 ∷ []) ∷ (8 ∷ []) ∷ (8 ∷ []) ∷ (8 ∷ []) ∷ (6 ∷ []) ∷ (6 ∷ []) ∷ (6 ∷ []) ∷ (6 ∷ []) ∷ []
unfolding read read_text bytes_fault text_fault is_ascii capacity joined_text logical_lines joined_from gather part continued all_but_last kept_lines kept_of kept uncommented trim trim_start trim_end is_blank raw_lines ended bench_lines lines places each read_line line_step gate_line gate_of gate_invoked declaration_line declared_in declare declaration_of parse_invocation invocation arguments_of none_empty parts up_to_last trimmed run stretch operation_of binary_of upper input_wires lower_gate chained chain add_input add_output add_named add_node add_name add_alias find lookup same_bytes finish resolve closed encode_node input_node cell_node wire_places
gates = refl

-- a declaration: 9, not one name 6, then 4 or 8; at the end 5, then 10
declarations : map read (areas (73 ∷ 78 ∷ 80 ∷ 85 ∷ 84 ∷ []) 45 25 10 ∷ areas (73 ∷ 78 ∷ 80 ∷ 85 ∷ 84 ∷ 41 ∷ 97 ∷ 40 ∷ []) 45 25 10 ∷ areas (40 ∷ 97 ∷ 41 ∷ []) 45 25 10 ∷ areas (73 ∷ 78 ∷ 80 ∷ 85 ∷ 84 ∷ 40 ∷ 97 ∷ 41 ∷ 98 ∷ []) 45 25 10 ∷ areas (73 ∷ 78 ∷ 80 ∷ 85 ∷ 84 ∷ 40 ∷ 97 ∷ 44 ∷ 41 ∷ []) 45 25 10 ∷ areas (73 ∷ 78 ∷ 80 ∷ 85 ∷ 84 ∷ 40 ∷ 41 ∷ []) 45 25 10 ∷ areas (73 ∷ 78 ∷ 80 ∷ 85 ∷ 84 ∷ 40 ∷ 97 ∷ 44 ∷ 98 ∷ 41 ∷ []) 45 25 10 ∷ areas (70 ∷ 79 ∷ 79 ∷ 40 ∷ 97 ∷ 44 ∷ 98 ∷ 41 ∷ []) 45 25 10 ∷ areas (70 ∷ 79 ∷ 79 ∷ 40 ∷ 97 ∷ 41 ∷ []) 45 25 10 ∷ areas (73 ∷ 78 ∷ 80 ∷ 85 ∷ 84 ∷ 40 ∷ 97 ∷ 41 ∷ 10 ∷ 73 ∷ 78 ∷ 80 ∷ 85 ∷ 84 ∷ 40 ∷ 97 ∷ 41 ∷ []) 45 25 10 ∷ areas (73 ∷ 78 ∷ 80 ∷ 85 ∷ 84 ∷ 40 ∷ 84 ∷ 82 ∷ 85 ∷ 69 ∷ 41 ∷ []) 45 25 10 ∷ areas (70 ∷ 65 ∷ 76 ∷ 83 ∷ 69 ∷ 61 ∷ 78 ∷ 79 ∷ 84 ∷ 40 ∷ 84 ∷ 82 ∷ 85 ∷ 69 ∷ 41 ∷ []) 45 25 10 ∷ areas (79 ∷ 85 ∷ 84 ∷ 80 ∷ 85 ∷ 84 ∷ 40 ∷ 121 ∷ 41 ∷ []) 45 25 10 ∷ areas (73 ∷ 78 ∷ 80 ∷ 85 ∷ 84 ∷ 40 ∷ 97 ∷ 41 ∷ []) 45 25 10 ∷ areas ([]) 45 25 10 ∷ areas (79 ∷ 85 ∷ 84 ∷ 80 ∷ 85 ∷ 84 ∷ 40 ∷ 121 ∷ 41 ∷ 10 ∷ 70 ∷ 79 ∷ 79 ∷ 40 ∷ 121 ∷ 41 ∷ []) 45 25 10 ∷ []) ≡ (9 ∷ []) ∷ (9 ∷ []) ∷ (9 ∷ []) ∷ (9 ∷ []) ∷ (9 ∷ []) ∷ (6 ∷ []) ∷ (6 ∷ []) ∷ (6 ∷ []) ∷ (8 ∷ []) ∷ (4 ∷ []) ∷ (4 ∷ []) ∷ (4 ∷ []) ∷ (5 ∷ []) ∷ (10 ∷ []) ∷ (10 ∷ []) ∷ (8 ∷ []) ∷ []
unfolding read read_text bytes_fault text_fault is_ascii capacity joined_text logical_lines joined_from gather part continued all_but_last kept_lines kept_of kept uncommented trim trim_start trim_end is_blank raw_lines ended bench_lines lines places each read_line line_step gate_line gate_of gate_invoked declaration_line declared_in declare declaration_of parse_invocation invocation arguments_of none_empty parts up_to_last trimmed run stretch operation_of binary_of upper input_wires lower_gate chained chain add_input add_output add_named add_node add_name add_alias find lookup same_bytes finish resolve closed encode_node input_node cell_node wire_places
declarations = refl
