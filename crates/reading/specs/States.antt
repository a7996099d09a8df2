-- A state of which one part is what a step gave: the circuit and the names, or the output words.
-- Assumes nothing.
use Rattle.std.specs.Prelude.{List, Err, Ok}
use Rattle.circuit.specs.Refusals.{Try}
use Rattle.text.specs.declared.words.Word.{Word}
use Rattle.reading.specs.Reading.{Held, State}

abbrev pub with_held : List Word → Try Held → Try State
with_held os (Err e) = Err e
with_held os (Ok h) = Ok (record { held = h; outputs = os })

abbrev pub with_outputs : Held → Try (List Word) → Try State
with_outputs h (Err e) = Err e
with_outputs h (Ok os) = Ok (record { held = h; outputs = os })
