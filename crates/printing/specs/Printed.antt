-- What a list program prints.
-- Assumes nothing.
use Rattle.std.specs.Prelude.{ℕ, ◌*◌, ◌/◌, ◌<◌, if◌then◌else◌, ltb, List, [], length, take, replicate, Option, Ok, Err}
use Rattle.std.specs.Io.KnownBytes.{Appends, Consumes, IsAtEnd}
use Rattle.std.specs.List.{concat}
use Rattle.circuit.specs.declared.refusals.Refusal.TheVariants.{TextTooLong}
use Rattle.circuit.specs.declared.records.Sizes.{Sizes}
use Rattle.circuit.specs.declared.records.TheConstants.{NODE_WORDS, OUTPUT_WORDS}
use Rattle.circuit.specs.Refusals.{Try, number_of}
use Rattle.circuit.specs.Records.{nodes_of, outputs_of}
use Rattle.circuit.specs.Circuits.{Circuit, filled, read_answer, node_words, output_words}
use Rattle.reading.specs.Reading.{Places}
use Rattle.reading.specs.Areas.{read_text, joined_bytes}
use Rattle.bristol.specs.Bristol.{Left, bristol}
use Rattle.schedule.specs.Call.{Left as Ordered, schedule_call}
use Rattle.listing.specs.declared.TheConstants.{LISTED, LISTED_TEXT}
use Rattle.listing.specs.Listing.{listing, refused_line, keys_from}
use Rattle.printing.specs.declared.TheConstants.{LISTING_WINDOW}
use Rattle.printing.specs.declared.rooms.TheConstants.{INPUT_AREA, JOINED_AREA, NODES_AREA, NAMES_AREA, OUTPUTS_AREA, READY_AREA, SUCCESSORS_AREA}

-- every line of the circuit whose records stand in two areas, one after the other
unfoldable pub printed_lines : List ℕ → List ℕ → List ℕ → List ℕ → List ℕ
printed_lines t nodes outputs order = concat (listing t (nodes_of nodes (length nodes / NODE_WORDS)) (outputs_of outputs (length outputs / OUTPUT_WORDS)) order)

-- what is printed by the schedule's answer: a refusal, or the circuit by the order in front of its area
abbrev pub printed_order : List ℕ → List ℕ → List ℕ → Try ℕ → List ℕ → List ℕ
printed_order t nodes outputs (Ok n) order = printed_lines t nodes outputs (take n order)
printed_order t nodes outputs (Err e) order = refused_line (number_of e)

-- the order of a listing, with places for LISTED nodes: the keys are (0, 0, node number)
unfoldable pub listing_order : List ℕ → List ℕ → Ordered
listing_order nodes outputs =
    schedule_call nodes outputs LISTING_WINDOW (keys_from 0 (length nodes / NODE_WORDS))
    (replicate READY_AREA 0) (replicate SUCCESSORS_AREA 0) (replicate LISTED 0)

abbrev pub printed_circuit : List ℕ → List ℕ → List ℕ → List ℕ
printed_circuit t nodes outputs = printed_order t nodes outputs (listing_order nodes outputs).answer (listing_order nodes outputs).order

-- what is printed by a reader's answer: a refusal, or the circuit in front of its areas
abbrev pub printed_read : List ℕ → List ℕ → List ℕ → Try Sizes → List ℕ
printed_read t nodes outputs (Ok s) = printed_circuit t (take (s.nodes * NODE_WORDS) nodes) (take (s.outputs * OUTPUT_WORDS) outputs)
printed_read t nodes outputs (Err e) = refused_line (number_of e)

-- what a reader of joined texts answers and leaves of a text, with places for LISTED nodes, names and outputs, is printed
abbrev pub printed_left : List ℕ → Try Circuit → List ℕ
printed_left t c =
    printed_read (filled (joined_bytes t c) JOINED_AREA) (filled (node_words c) NODES_AREA)
    (filled (output_words c) OUTPUTS_AREA) (read_answer c)

unfoldable pub printed_text : (List ℕ → Places → Try Circuit) → List ℕ → List ℕ
printed_text lines t = printed_left t (read_text lines t JOINED_AREA NODES_AREA NAMES_AREA OUTPUTS_AREA)

-- the same of a Bristol text, with places for LISTED nodes, outputs and wires
abbrev pub printed_left_by : Left → List ℕ
printed_left_by l = printed_read [] l.nodes l.outputs l.answer

unfoldable pub printed_bristol : List ℕ → List ℕ
printed_bristol t = printed_left_by (bristol t NODES_AREA OUTPUTS_AREA LISTED)

-- a longer text than is listed is refused
abbrev pub printed_input : (List ℕ → List ℕ) → List ℕ → List ℕ
printed_input printed t =
    if ltb LISTED_TEXT (length t) then refused_line (number_of TextTooLong) else printed t

-- a list program reads its input to the end, or as far as there is room for INPUT_AREA bytes, and prints what that is listed as
pub record Listed (printed : List ℕ → List ℕ) (input left written now : Option (List ℕ)) : Type 0 where
  pub text : List ℕ
  pub reads : Consumes input left text
  pub to_end : length text < INPUT_AREA → IsAtEnd left
  pub prints : Appends written now (printed_input printed text)
