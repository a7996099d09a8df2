-- Every row of the table agrees, by computation.
-- Assumes nothing.
use mathlib.Core.Path.{◌≡◌, refl}
use mathlib.Core.Bool.{true}
use Rattle.laws.specs.Areas.{capacity}
use Rattle.laws.specs.Bits.{set_bit}
use Rattle.laws.specs.Lists.{numbers}
use Rattle.laws.specs.Stretches.{stretch, run, same_bytes}
use Rattle.laws.specs.Sums.{sum}
use Rattle.circuit.specs.Records.{places as wire_places, node_from, input_node, cell_node, encode_node, is_cell_node, wires_of, no_node}
use Rattle.circuit.specs.Check.{cell_broken, record_broken, check_wires, check_node, check_nodes, check_circuit, node_broken, circuit_broken, whole, topological_fault, records_fault}
use Rattle.circuit.specs.Graph.{nodes_read, vertex_of, graph_of}
use Rattle.graphs.specs.Graph.{outside, is_cell, reads_of, cells_of, waits, free, ready, ready_cells, fit, fit_list}
use Rattle.text.specs.Bytes.{is_ascii, upper}
use Rattle.text.specs.Blanks.{is_blank, trim, trim_start, trim_end, trimmed}
use Rattle.text.specs.Words.{words, split_whitespace}
use Rattle.text.specs.Numbers.{all_digits, value_from, digits_from, digits, parse_usize, parse_each}
use Rattle.text.specs.Lines.{raw_lines, uncommented, kept, kept_of, kept_lines, lines, places}
use Rattle.text.specs.Joining.{continued, all_but_last, part, gather, joined_from, logical_lines, ended, joined_text}
use Rattle.names.specs.Names.{lookup}
use Rattle.cover.specs.Cover.{bit_of, row_with, row_of, fits, matches, set_from, set_row, with_row, set_rows, start_table, last_of, input_names, constant, rows_table, cover}
use Rattle.cover.specs.Directives.{directive, directive_of, rows_of}
use Rattle.reading.specs.Reading.{bytes_fault, text_fault, find, add_name, add_node, add_alias, add_named, add_input, add_output, each, resolve, closed, finish}
use Rattle.reading.specs.Areas.{read_text}
use Rattle.blif.specs.Blif.{drivers, gate, covered, plan, names_line, directive_step, line_step, row_next, read_lines, blif_lines}
use Rattle.bench_invocations.specs.Invocations.{arguments_of, none_empty, parts, up_to_last, invocation, parse_invocation}
use Rattle.bench_gates.specs.Operations.{binary_of, operation_of}
use Rattle.bench_gates.specs.Gates.{input_wires, chain, chained, lower_gate}
use Rattle.bench.specs.Bench.{gate_invoked, gate_of, gate_line, declaration_of, declared_in, declare, declaration_line, line_step as benchLine, read_line, bench_lines}
use Rattle.bristol_rows.specs.Numbers.{number, each_number}
use Rattle.bristol_rows.specs.Header.{grouped_wire_count, groups, group_lines, two_numbers, header}
use Rattle.bristol_rows.specs.Operation.{is_alias, inverts, operation}
use Rattle.bristol_rows.specs.Row.{drivers as rowDrivers, gates_of, row_output, row_wires, operation_row, row}
use Rattle.bristol.specs.Bristol.{drive, store_cell, store_gate, row_step, outputs_from as lastWires, start, body, circuit, bristol_circuit}
use Rattle.ordering.specs.Schedule.{key_at, above, best, pick, next, schedule_from, schedule_of}
use Rattle.schedule.specs.Call.{graph_in, order_in, room, call_fault, circle_fault, schedule_fault, schedule_call}
use Rattle.ordering.specs.Promises.{leaves_out}
use Rattle.values.specs.Values.{answer_of, values_from, outputs_from, storage_values, storage_outputs}
use Rattle.values.specs.Assignments.{input_count, wrong_assignment}
use Rattle.values.specs.Calls.{assignment_fault, room_fault, after_call}
use Rattle.runs.specs.Runs.{put_in, step, steps, run_store, run_outputs}
use Rattle.runs.specs.Calls.{order_fault, run_fault, run_call}
use Rattle.listing.specs.Decimal.{digits_below, decimal}
use Rattle.listing.specs.Listing.{words as spaced, node_head, input_line, cell_line, node_line, node_lines, output_line, output_lines, count_line, order_line, listing, keys_from}
use Rattle.starred.specs.Starred.{agree, sample, starred}

pub starred-agree : agree starred ≡ true
unfolding starred sample wire_places node_from input_node cell_node encode_node
    read_text bytes_fault text_fault is_ascii capacity joined_text logical_lines joined_from gather part continued all_but_last kept_lines kept_of kept uncommented trim trim_start trim_end is_blank raw_lines ended
    blif_lines read_lines lines places line_step row_next directive_step directive_of directive rows_of words each add_input add_output add_named add_node add_name add_alias names_line plan input_names last_of drivers covered gate find lookup finish resolve closed
    cover constant rows_table set_rows with_row row_of row_with bit_of set_row set_from matches fits start_table set_bit same_bytes stretch
    bench_lines read_line benchLine gate_line gate_of gate_invoked declaration_line declared_in declare declaration_of parse_invocation invocation arguments_of none_empty parts up_to_last trimmed run operation_of binary_of upper input_wires lower_gate chained chain
    bristol_circuit circuit body start lastWires row_step store_gate store_cell drive row operation_row row_wires row_output gates_of rowDrivers operation inverts is_alias header two_numbers group_lines groups grouped_wire_count each_number number parse_each parse_usize digits digits_from value_from all_digits split_whitespace sum
    schedule_call schedule_fault call_fault circle_fault room leaves_out graph_in order_in schedule_of schedule_from next pick best above key_at graph_of vertex_of nodes_read outside is_cell reads_of waits free ready ready_cells cells_of numbers records_fault whole circuit_broken node_broken record_broken cell_broken wires_of is_cell_node
    run_call after_call run_fault assignment_fault order_fault room_fault wrong_assignment input_count topological_fault check_circuit check_nodes check_node check_wires fit fit_list run_outputs run_store steps step put_in answer_of outputs_from no_node storage_outputs storage_values values_from
    digits_below decimal spaced node_head input_line cell_line node_line node_lines output_line output_lines count_line order_line listing keys_from
starred-agree = refl
