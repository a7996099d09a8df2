-- 01's examples, the refusals in their order, and areas that are one record short, computed from the definition.
-- Assumes nothing.
use Prim.Native.Nat.{ℕ}
use mathlib.Core.Path.{◌≡◌, refl}
use mathlib.Core.List.{List, [], ◌∷◌, map}
use Rattle.laws.specs.Areas.{capacity}
use Rattle.laws.specs.Bits.{set_bit}
use Rattle.laws.specs.Stretches.{stretch, same_bytes}
use Rattle.circuit.specs.Records.{encode_node, input_node, cell_node, places as wire_places}
use Rattle.text.specs.Bytes.{is_ascii}
use Rattle.text.specs.Blanks.{is_blank, trim, trim_start, trim_end}
use Rattle.text.specs.Words.{words}
use Rattle.text.specs.Lines.{raw_lines, uncommented, kept, kept_of, kept_lines, lines, places}
use Rattle.text.specs.Joining.{continued, all_but_last, part, gather, joined_from, logical_lines, ended, joined_text}
use Rattle.names.specs.Names.{lookup}
use Rattle.cover.specs.Cover.{bit_of, row_with, row_of, fits, matches, set_from, set_row, with_row, set_rows, start_table, last_of, input_names, constant, rows_table, cover}
use Rattle.cover.specs.Directives.{directive, directive_of, rows_of}
use Rattle.reading.specs.Reading.{bytes_fault, text_fault, find, add_name, add_node, add_alias, add_named, add_input, add_output, each, resolve, closed, finish}
use Rattle.reading.proofs.Cases.{seen, Case, areas, read_by}
use Rattle.reading.specs.Areas.{read_text}
use Rattle.blif.specs.Blif.{drivers, gate, covered, plan, names_line, directive_step, line_step, row_next, read_lines, blif_lines, blif}

read : Case → List ℕ
read c = read_by blif c

-- .inputs a b / .outputs y / .names a b t / 10 1 / .names a u / 0 1 / .names t u y / 11 1
sample : List ℕ
sample = 46 ∷ 105 ∷ 110 ∷ 112 ∷ 117 ∷ 116 ∷ 115 ∷ 32 ∷ 97 ∷ 32 ∷ 98 ∷ 10 ∷ 46 ∷ 111 ∷ 117 ∷ 116 ∷ 112 ∷ 117 ∷ 116 ∷ 115 ∷ 32 ∷ 121 ∷ 10 ∷ 46 ∷ 110 ∷ 97 ∷ 109 ∷ 101 ∷ 115 ∷ 32 ∷ 97 ∷ 32 ∷ 98 ∷ 32 ∷ 116 ∷ 10 ∷ 49 ∷ 48 ∷ 32 ∷ 49 ∷ 10 ∷ 46 ∷ 110 ∷ 97 ∷ 109 ∷ 101 ∷ 115 ∷ 32 ∷ 97 ∷ 32 ∷ 117 ∷ 10 ∷ 48 ∷ 32 ∷ 49 ∷ 10 ∷ 46 ∷ 110 ∷ 97 ∷ 109 ∷ 101 ∷ 115 ∷ 32 ∷ 116 ∷ 32 ∷ 117 ∷ 32 ∷ 121 ∷ 10 ∷ 49 ∷ 49 ∷ 32 ∷ 49 ∷ 10 ∷ []

-- the five nodes, in areas that just suffice; one word less of any area is 3
five_nodes : map read (areas sample 45 25 5 ∷ areas sample 44 25 5 ∷ areas sample 45 24 5 ∷ areas sample 45 25 4 ∷ areas sample 0 25 5 ∷ areas sample 45 0 5 ∷ areas sample 45 25 0 ∷ []) ≡ (1 ∷ 0 ∷ 0 ∷ 1 ∷ 8 ∷ 1 ∷ 0 ∷ 0 ∷ 0 ∷ 1 ∷ 0 ∷ 0 ∷ 1 ∷ 10 ∷ 1 ∷ 0 ∷ 0 ∷ 0 ∷ 2 ∷ 2 ∷ 4 ∷ 1 ∷ 34 ∷ 1 ∷ 0 ∷ 2 ∷ 3 ∷ 2 ∷ 1 ∷ 1 ∷ 1 ∷ 50 ∷ 1 ∷ 0 ∷ 2 ∷ 0 ∷ 2 ∷ 2 ∷ 8 ∷ 1 ∷ 67 ∷ 1 ∷ 0 ∷ 4 ∷ 5 ∷ 1 ∷ 21 ∷ 1 ∷ 0 ∷ 6 ∷ []) ∷ (3 ∷ []) ∷ (3 ∷ []) ∷ (3 ∷ []) ∷ (3 ∷ []) ∷ (3 ∷ []) ∷ (3 ∷ []) ∷ []
unfolding read read_text bytes_fault text_fault is_ascii capacity joined_text logical_lines joined_from gather part continued all_but_last kept_lines kept_of kept uncommented trim trim_start trim_end is_blank raw_lines ended blif_lines read_lines lines places line_step row_next directive_step directive_of directive rows_of words each add_input add_output add_named add_node add_name add_alias names_line plan input_names last_of drivers covered gate find lookup finish resolve closed cover constant rows_table set_rows with_row row_of row_with bit_of set_row set_from matches fits start_table set_bit same_bytes stretch sample encode_node input_node cell_node wire_places
five_nodes = refl

-- so is one byte less of the joined area, whose text is 74 bytes long
joined_short : map (λ j. seen (blif sample j 45 25 5)) (74 ∷ 75 ∷ []) ≡ (3 ∷ []) ∷ (1 ∷ 0 ∷ 0 ∷ 1 ∷ 8 ∷ 1 ∷ 0 ∷ 0 ∷ 0 ∷ 1 ∷ 0 ∷ 0 ∷ 1 ∷ 10 ∷ 1 ∷ 0 ∷ 0 ∷ 0 ∷ 2 ∷ 2 ∷ 4 ∷ 1 ∷ 34 ∷ 1 ∷ 0 ∷ 2 ∷ 3 ∷ 2 ∷ 1 ∷ 1 ∷ 1 ∷ 50 ∷ 1 ∷ 0 ∷ 2 ∷ 0 ∷ 2 ∷ 2 ∷ 8 ∷ 1 ∷ 67 ∷ 1 ∷ 0 ∷ 4 ∷ 5 ∷ 1 ∷ 21 ∷ 1 ∷ 0 ∷ 6 ∷ []) ∷ []
unfolding read read_text bytes_fault text_fault is_ascii capacity joined_text logical_lines joined_from gather part continued all_but_last kept_lines kept_of kept uncommented trim trim_start trim_end is_blank raw_lines ended blif_lines read_lines lines places line_step row_next directive_step directive_of directive rows_of words each add_input add_output add_named add_node add_name add_alias names_line plan input_names last_of drivers covered gate find lookup finish resolve closed cover constant rows_table set_rows with_row row_of row_with bit_of set_row set_from matches fits start_table set_bit same_bytes stretch sample encode_node input_node cell_node wire_places
joined_short = refl

-- `1- 0` is 3, `2- 1` is 0, an absent value is 1, a later row sets anew, no rows are 0; `1 1` is an alias and a constant a wire, without a node
rows : map read (areas (46 ∷ 105 ∷ 110 ∷ 112 ∷ 117 ∷ 116 ∷ 115 ∷ 32 ∷ 97 ∷ 32 ∷ 98 ∷ 10 ∷ 46 ∷ 110 ∷ 97 ∷ 109 ∷ 101 ∷ 115 ∷ 32 ∷ 97 ∷ 32 ∷ 98 ∷ 32 ∷ 121 ∷ 10 ∷ 49 ∷ 45 ∷ 32 ∷ 48 ∷ 10 ∷ 46 ∷ 111 ∷ 117 ∷ 116 ∷ 112 ∷ 117 ∷ 116 ∷ 115 ∷ 32 ∷ 121 ∷ 10 ∷ []) 45 25 10 ∷ areas (46 ∷ 105 ∷ 110 ∷ 112 ∷ 117 ∷ 116 ∷ 115 ∷ 32 ∷ 97 ∷ 32 ∷ 98 ∷ 10 ∷ 46 ∷ 110 ∷ 97 ∷ 109 ∷ 101 ∷ 115 ∷ 32 ∷ 97 ∷ 32 ∷ 98 ∷ 32 ∷ 121 ∷ 10 ∷ 50 ∷ 45 ∷ 32 ∷ 49 ∷ 10 ∷ 46 ∷ 111 ∷ 117 ∷ 116 ∷ 112 ∷ 117 ∷ 116 ∷ 115 ∷ 32 ∷ 121 ∷ 10 ∷ []) 45 25 10 ∷ areas (46 ∷ 105 ∷ 110 ∷ 112 ∷ 117 ∷ 116 ∷ 115 ∷ 32 ∷ 97 ∷ 32 ∷ 98 ∷ 10 ∷ 46 ∷ 110 ∷ 97 ∷ 109 ∷ 101 ∷ 115 ∷ 32 ∷ 97 ∷ 32 ∷ 98 ∷ 32 ∷ 121 ∷ 10 ∷ 49 ∷ 49 ∷ 10 ∷ 46 ∷ 111 ∷ 117 ∷ 116 ∷ 112 ∷ 117 ∷ 116 ∷ 115 ∷ 32 ∷ 121 ∷ 10 ∷ []) 45 25 10 ∷ areas (46 ∷ 105 ∷ 110 ∷ 112 ∷ 117 ∷ 116 ∷ 115 ∷ 32 ∷ 97 ∷ 32 ∷ 98 ∷ 10 ∷ 46 ∷ 110 ∷ 97 ∷ 109 ∷ 101 ∷ 115 ∷ 32 ∷ 97 ∷ 32 ∷ 98 ∷ 32 ∷ 121 ∷ 10 ∷ 49 ∷ 45 ∷ 32 ∷ 49 ∷ 10 ∷ 49 ∷ 49 ∷ 32 ∷ 48 ∷ 10 ∷ 46 ∷ 111 ∷ 117 ∷ 116 ∷ 112 ∷ 117 ∷ 116 ∷ 115 ∷ 32 ∷ 121 ∷ 10 ∷ []) 45 25 10 ∷ areas (46 ∷ 105 ∷ 110 ∷ 112 ∷ 117 ∷ 116 ∷ 115 ∷ 32 ∷ 97 ∷ 32 ∷ 98 ∷ 10 ∷ 46 ∷ 110 ∷ 97 ∷ 109 ∷ 101 ∷ 115 ∷ 32 ∷ 97 ∷ 32 ∷ 98 ∷ 32 ∷ 121 ∷ 10 ∷ 46 ∷ 111 ∷ 117 ∷ 116 ∷ 112 ∷ 117 ∷ 116 ∷ 115 ∷ 32 ∷ 121 ∷ 10 ∷ []) 45 25 10 ∷ areas (46 ∷ 105 ∷ 110 ∷ 112 ∷ 117 ∷ 116 ∷ 115 ∷ 32 ∷ 97 ∷ 10 ∷ 46 ∷ 110 ∷ 97 ∷ 109 ∷ 101 ∷ 115 ∷ 32 ∷ 97 ∷ 32 ∷ 121 ∷ 10 ∷ 49 ∷ 32 ∷ 49 ∷ 10 ∷ 46 ∷ 111 ∷ 117 ∷ 116 ∷ 112 ∷ 117 ∷ 116 ∷ 115 ∷ 32 ∷ 121 ∷ 10 ∷ []) 9 10 5 ∷ areas (46 ∷ 110 ∷ 97 ∷ 109 ∷ 101 ∷ 115 ∷ 32 ∷ 121 ∷ 10 ∷ 46 ∷ 111 ∷ 117 ∷ 116 ∷ 112 ∷ 117 ∷ 116 ∷ 115 ∷ 32 ∷ 121 ∷ 10 ∷ []) 0 5 5 ∷ areas (46 ∷ 110 ∷ 97 ∷ 109 ∷ 101 ∷ 115 ∷ 32 ∷ 121 ∷ 10 ∷ 49 ∷ 10 ∷ 48 ∷ 10 ∷ 46 ∷ 111 ∷ 117 ∷ 116 ∷ 112 ∷ 117 ∷ 116 ∷ 115 ∷ 32 ∷ 121 ∷ 10 ∷ []) 0 5 5 ∷ areas (46 ∷ 110 ∷ 97 ∷ 109 ∷ 101 ∷ 115 ∷ 32 ∷ 121 ∷ 10 ∷ 120 ∷ 32 ∷ 49 ∷ 10 ∷ 46 ∷ 111 ∷ 117 ∷ 116 ∷ 112 ∷ 117 ∷ 116 ∷ 115 ∷ 32 ∷ 121 ∷ 10 ∷ []) 0 5 5 ∷ areas (46 ∷ 110 ∷ 97 ∷ 109 ∷ 101 ∷ 115 ∷ 32 ∷ 121 ∷ 10 ∷ 48 ∷ 10 ∷ 46 ∷ 111 ∷ 117 ∷ 116 ∷ 112 ∷ 117 ∷ 116 ∷ 115 ∷ 32 ∷ 121 ∷ 10 ∷ []) 0 5 5 ∷ []) ≡ (1 ∷ 0 ∷ 0 ∷ 1 ∷ 8 ∷ 1 ∷ 0 ∷ 0 ∷ 0 ∷ 1 ∷ 0 ∷ 0 ∷ 1 ∷ 10 ∷ 1 ∷ 0 ∷ 0 ∷ 0 ∷ 2 ∷ 2 ∷ 3 ∷ 1 ∷ 23 ∷ 1 ∷ 0 ∷ 2 ∷ 3 ∷ 1 ∷ 39 ∷ 1 ∷ 0 ∷ 4 ∷ []) ∷ (1 ∷ 0 ∷ 0 ∷ 1 ∷ 8 ∷ 1 ∷ 0 ∷ 0 ∷ 0 ∷ 1 ∷ 0 ∷ 0 ∷ 1 ∷ 10 ∷ 1 ∷ 0 ∷ 0 ∷ 0 ∷ 2 ∷ 2 ∷ 0 ∷ 1 ∷ 23 ∷ 1 ∷ 0 ∷ 2 ∷ 3 ∷ 1 ∷ 39 ∷ 1 ∷ 0 ∷ 4 ∷ []) ∷ (1 ∷ 0 ∷ 0 ∷ 1 ∷ 8 ∷ 1 ∷ 0 ∷ 0 ∷ 0 ∷ 1 ∷ 0 ∷ 0 ∷ 1 ∷ 10 ∷ 1 ∷ 0 ∷ 0 ∷ 0 ∷ 2 ∷ 2 ∷ 8 ∷ 1 ∷ 23 ∷ 1 ∷ 0 ∷ 2 ∷ 3 ∷ 1 ∷ 37 ∷ 1 ∷ 0 ∷ 4 ∷ []) ∷ (1 ∷ 0 ∷ 0 ∷ 1 ∷ 8 ∷ 1 ∷ 0 ∷ 0 ∷ 0 ∷ 1 ∷ 0 ∷ 0 ∷ 1 ∷ 10 ∷ 1 ∷ 0 ∷ 0 ∷ 0 ∷ 2 ∷ 2 ∷ 4 ∷ 1 ∷ 23 ∷ 1 ∷ 0 ∷ 2 ∷ 3 ∷ 1 ∷ 44 ∷ 1 ∷ 0 ∷ 4 ∷ []) ∷ (1 ∷ 0 ∷ 0 ∷ 1 ∷ 8 ∷ 1 ∷ 0 ∷ 0 ∷ 0 ∷ 1 ∷ 0 ∷ 0 ∷ 1 ∷ 10 ∷ 1 ∷ 0 ∷ 0 ∷ 0 ∷ 2 ∷ 2 ∷ 0 ∷ 1 ∷ 23 ∷ 1 ∷ 0 ∷ 2 ∷ 3 ∷ 1 ∷ 34 ∷ 1 ∷ 0 ∷ 4 ∷ []) ∷ (1 ∷ 0 ∷ 0 ∷ 1 ∷ 8 ∷ 1 ∷ 0 ∷ 0 ∷ 0 ∷ 1 ∷ 34 ∷ 1 ∷ 0 ∷ 2 ∷ []) ∷ (1 ∷ 18 ∷ 1 ∷ 0 ∷ 0 ∷ []) ∷ (1 ∷ 22 ∷ 1 ∷ 0 ∷ 1 ∷ []) ∷ (1 ∷ 22 ∷ 1 ∷ 0 ∷ 1 ∷ []) ∷ (1 ∷ 20 ∷ 1 ∷ 0 ∷ 0 ∷ []) ∷ []
unfolding read read_text bytes_fault text_fault is_ascii capacity joined_text logical_lines joined_from gather part continued all_but_last kept_lines kept_of kept uncommented trim trim_start trim_end is_blank raw_lines ended blif_lines read_lines lines places line_step row_next directive_step directive_of directive rows_of words each add_input add_output add_named add_node add_name add_alias names_line plan input_names last_of drivers covered gate find lookup finish resolve closed cover constant rows_table set_rows with_row row_of row_with bit_of set_row set_from matches fits start_table set_bit same_bytes stretch encode_node input_node cell_node wire_places
rows = refl

-- the refusals, each before those that 01 names after it
refusals : map read (areas [] 45 25 10 ∷ areas (46 ∷ 111 ∷ 117 ∷ 116 ∷ 112 ∷ 117 ∷ 116 ∷ 115 ∷ 32 ∷ 121 ∷ 10 ∷ []) 45 25 10 ∷ areas (46 ∷ 105 ∷ 110 ∷ 112 ∷ 117 ∷ 116 ∷ 115 ∷ 32 ∷ 97 ∷ 32 ∷ 97 ∷ 10 ∷ []) 45 25 10 ∷ areas (46 ∷ 105 ∷ 110 ∷ 112 ∷ 117 ∷ 116 ∷ 115 ∷ 32 ∷ 97 ∷ 10 ∷ 46 ∷ 110 ∷ 97 ∷ 109 ∷ 101 ∷ 115 ∷ 32 ∷ 98 ∷ 32 ∷ 99 ∷ 32 ∷ 100 ∷ 32 ∷ 97 ∷ 10 ∷ []) 45 25 10 ∷ areas (46 ∷ 110 ∷ 97 ∷ 109 ∷ 101 ∷ 115 ∷ 10 ∷ []) 45 25 10 ∷ areas (46 ∷ 110 ∷ 97 ∷ 109 ∷ 101 ∷ 115 ∷ 32 ∷ 112 ∷ 32 ∷ 113 ∷ 32 ∷ 114 ∷ 32 ∷ 121 ∷ 10 ∷ []) 45 25 10 ∷ areas (46 ∷ 110 ∷ 97 ∷ 109 ∷ 101 ∷ 115 ∷ 32 ∷ 113 ∷ 32 ∷ 121 ∷ 10 ∷ 50 ∷ 32 ∷ 50 ∷ 10 ∷ []) 45 25 10 ∷ areas (46 ∷ 105 ∷ 110 ∷ 112 ∷ 117 ∷ 116 ∷ 115 ∷ 32 ∷ 97 ∷ 10 ∷ 46 ∷ 110 ∷ 97 ∷ 109 ∷ 101 ∷ 115 ∷ 32 ∷ 97 ∷ 32 ∷ 121 ∷ 10 ∷ 49 ∷ 48 ∷ 32 ∷ 49 ∷ 10 ∷ []) 45 25 10 ∷ areas (46 ∷ 105 ∷ 110 ∷ 112 ∷ 117 ∷ 116 ∷ 115 ∷ 32 ∷ 97 ∷ 10 ∷ 46 ∷ 110 ∷ 97 ∷ 109 ∷ 101 ∷ 115 ∷ 32 ∷ 97 ∷ 32 ∷ 121 ∷ 10 ∷ 49 ∷ 32 ∷ 49 ∷ 32 ∷ 49 ∷ 10 ∷ []) 45 25 10 ∷ areas (46 ∷ 105 ∷ 110 ∷ 112 ∷ 117 ∷ 116 ∷ 115 ∷ 32 ∷ 97 ∷ 10 ∷ 46 ∷ 110 ∷ 97 ∷ 109 ∷ 101 ∷ 115 ∷ 32 ∷ 97 ∷ 32 ∷ 121 ∷ 10 ∷ 49 ∷ 32 ∷ 50 ∷ 10 ∷ []) 45 25 10 ∷ areas (46 ∷ 110 ∷ 97 ∷ 109 ∷ 101 ∷ 115 ∷ 32 ∷ 121 ∷ 10 ∷ 50 ∷ 10 ∷ []) 45 25 10 ∷ areas (46 ∷ 108 ∷ 97 ∷ 116 ∷ 99 ∷ 104 ∷ 32 ∷ 97 ∷ 32 ∷ 98 ∷ 10 ∷ []) 45 25 10 ∷ areas (49 ∷ 48 ∷ 32 ∷ 49 ∷ 10 ∷ []) 45 25 10 ∷ areas (46 ∷ 101 ∷ 110 ∷ 100 ∷ 10 ∷ 49 ∷ 48 ∷ 32 ∷ 49 ∷ 10 ∷ []) 45 25 10 ∷ areas (46 ∷ 105 ∷ 110 ∷ 112 ∷ 117 ∷ 116 ∷ 115 ∷ 32 ∷ 97 ∷ 10 ∷ 46 ∷ 111 ∷ 117 ∷ 116 ∷ 112 ∷ 117 ∷ 116 ∷ 115 ∷ 32 ∷ 97 ∷ 32 ∷ 113 ∷ 10 ∷ 46 ∷ 108 ∷ 97 ∷ 116 ∷ 99 ∷ 104 ∷ 10 ∷ []) 45 25 10 ∷ []) ≡ (10 ∷ []) ∷ (5 ∷ []) ∷ (4 ∷ []) ∷ (4 ∷ []) ∷ (9 ∷ []) ∷ (6 ∷ []) ∷ (5 ∷ []) ∷ (7 ∷ []) ∷ (7 ∷ []) ∷ (7 ∷ []) ∷ (7 ∷ []) ∷ (8 ∷ []) ∷ (9 ∷ []) ∷ (9 ∷ []) ∷ (8 ∷ []) ∷ []
unfolding read read_text bytes_fault text_fault is_ascii capacity joined_text logical_lines joined_from gather part continued all_but_last kept_lines kept_of kept uncommented trim trim_start trim_end is_blank raw_lines ended blif_lines read_lines lines places line_step row_next directive_step directive_of directive rows_of words each add_input add_output add_named add_node add_name add_alias names_line plan input_names last_of drivers covered gate find lookup finish resolve closed cover constant rows_table set_rows with_row row_of row_with bit_of set_row set_from matches fits start_table set_bit same_bytes stretch encode_node input_node cell_node wire_places
refusals = refl

-- a 3 comes only when the next record has no place, after the checks of its word or gate, and before what follows it
when_due : map read (areas (46 ∷ 105 ∷ 110 ∷ 112 ∷ 117 ∷ 116 ∷ 115 ∷ 32 ∷ 97 ∷ 32 ∷ 98 ∷ 32 ∷ 97 ∷ 10 ∷ []) 18 10 0 ∷ areas (46 ∷ 105 ∷ 110 ∷ 112 ∷ 117 ∷ 116 ∷ 115 ∷ 32 ∷ 97 ∷ 32 ∷ 98 ∷ 32 ∷ 97 ∷ 10 ∷ []) 9 10 0 ∷ areas (46 ∷ 105 ∷ 110 ∷ 112 ∷ 117 ∷ 116 ∷ 115 ∷ 32 ∷ 97 ∷ 32 ∷ 98 ∷ 32 ∷ 97 ∷ 10 ∷ []) 18 5 0 ∷ areas (46 ∷ 105 ∷ 110 ∷ 112 ∷ 117 ∷ 116 ∷ 115 ∷ 32 ∷ 97 ∷ 10 ∷ 46 ∷ 110 ∷ 97 ∷ 109 ∷ 101 ∷ 115 ∷ 32 ∷ 97 ∷ 32 ∷ 121 ∷ 10 ∷ 50 ∷ 32 ∷ 50 ∷ 10 ∷ []) 9 5 0 ∷ areas (46 ∷ 105 ∷ 110 ∷ 112 ∷ 117 ∷ 116 ∷ 115 ∷ 32 ∷ 97 ∷ 10 ∷ 46 ∷ 110 ∷ 97 ∷ 109 ∷ 101 ∷ 115 ∷ 32 ∷ 97 ∷ 32 ∷ 121 ∷ 10 ∷ 48 ∷ 32 ∷ 49 ∷ 10 ∷ []) 9 10 0 ∷ areas (46 ∷ 105 ∷ 110 ∷ 112 ∷ 117 ∷ 116 ∷ 115 ∷ 32 ∷ 97 ∷ 10 ∷ 46 ∷ 110 ∷ 97 ∷ 109 ∷ 101 ∷ 115 ∷ 32 ∷ 97 ∷ 32 ∷ 121 ∷ 10 ∷ 49 ∷ 32 ∷ 49 ∷ 10 ∷ []) 9 5 0 ∷ areas (46 ∷ 111 ∷ 117 ∷ 116 ∷ 112 ∷ 117 ∷ 116 ∷ 115 ∷ 32 ∷ 121 ∷ 32 ∷ 122 ∷ 10 ∷ 46 ∷ 108 ∷ 97 ∷ 116 ∷ 99 ∷ 104 ∷ 10 ∷ []) 0 0 5 ∷ areas (46 ∷ 111 ∷ 117 ∷ 116 ∷ 112 ∷ 117 ∷ 116 ∷ 115 ∷ 32 ∷ 121 ∷ 10 ∷ 46 ∷ 108 ∷ 97 ∷ 116 ∷ 99 ∷ 104 ∷ 10 ∷ []) 0 0 5 ∷ []) ≡ (4 ∷ []) ∷ (3 ∷ []) ∷ (3 ∷ []) ∷ (7 ∷ []) ∷ (3 ∷ []) ∷ (3 ∷ []) ∷ (3 ∷ []) ∷ (8 ∷ []) ∷ []
unfolding read read_text bytes_fault text_fault is_ascii capacity joined_text logical_lines joined_from gather part continued all_but_last kept_lines kept_of kept uncommented trim trim_start trim_end is_blank raw_lines ended blif_lines read_lines lines places line_step row_next directive_step directive_of directive rows_of words each add_input add_output add_named add_node add_name add_alias names_line plan input_names last_of drivers covered gate find lookup finish resolve closed cover constant rows_table set_rows with_row row_of row_with bit_of set_row set_from matches fits start_table set_bit same_bytes stretch encode_node input_node cell_node wire_places
when_due = refl
