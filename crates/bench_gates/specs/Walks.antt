-- What the code has at hand while it walks the inputs of a gate, one after the other.
-- Assumes nothing.
use Rattle.std.specs.Prelude.{ℕ, suc, ◌≤◌, ◌≡◌, true, cond, List, [], ◌∷◌, eqb, length, get_or, drop, Err, Ok}
use Rattle.circuit.specs.declared.refusals.Refusal.TheVariants.{WrongCount}
use Rattle.circuit.specs.Refusals.{Try, and_then}
use Rattle.circuit.specs.Records.{nodes_of}
use Rattle.text.specs.declared.words.Word.{Word}
use Rattle.names.specs.Names.{Entry}
use Rattle.reading.specs.Reading.{Places, places_in, Held, find, driver, next_wire, add_name, add_node, add_named}
use Rattle.reading.specs.Holding.{outcome, NodesHoldAfter}
use Rattle.bench_invocations.specs.Walks.{arguments_at}
use Rattle.bench_gates.specs.declared.operations.Binary.{Binary}
use Rattle.bench_gates.specs.declared.chains.Chained.{Chained}
use Rattle.bench_gates.specs.declared.plans.Plan.{Plan}
use Rattle.bench_gates.specs.Gates.{input_wires, inverter, step_cell, last_cell, with_nodes, lower_gate}

-- the first three of some wires, 0 where there is none
abbrev pub first_three : List ℕ → List ℕ
first_three xs = get_or xs 0 0 ∷ get_or xs 1 0 ∷ get_or xs 2 0 ∷ []

-- so many inputs, arguments at places of the text, each with a driver; and the wires of the first three
pub record Driven (t : List ℕ) (es : List Entry) (p : Plan) : Type 0 where
  pub wires : List ℕ
  pub are : input_wires t es (arguments_at t p.arguments) ≡ Ok wires
  pub count_is : p.inputs ≡ length (arguments_at t p.arguments)
  pub firsts : p.wires ≡ first_three wires
  pub arguments_in : p.arguments.end ≤ length t

-- what is tried if there is one input, else 6
abbrev pub if_one : {A : Type 0} → ℕ → Try A → Try A
if_one inputs r = cond (eqb inputs 1) r (Err WrongCount)

-- what a plan's gate adds if it is a buffer, by its one input's kept wire
abbrev pub buffer_planned : Plan → ℕ → List Entry → Try (List Entry)
buffer_planned q room es = if_one q.inputs (add_name room q.out.word (get_or q.wires 0 0) es)

-- the same of an inverter
abbrev pub inverter_planned : Plan → Places → Held → Try Held
inverter_planned q p h = if_one q.inputs (add_named p q.out.word (inverter q.out.word (get_or q.wires 0 0)) h)

-- `chain` from step k on, with two wires at hand and those of the inputs after them looked up as they come
unfoldable pub chain_words : List ℕ → Places → Word → Binary → ℕ → ℕ → ℕ → List Word → Held → Try Held
chain_words t p out o k x y [] h = add_named p out (last_cell out o x y) h
chain_words t p out o k x y (w ∷ ws) h =
    and_then (driver (find true t w h.names))
    (λ z. and_then (add_node p.nodes (step_cell out o k x y) h.nodes)
    (λ ns. chain_words t p out o (suc k) (next_wire h.nodes) z ws (with_nodes ns h.names)))

-- a plan's chain, whatever the number of its inputs
abbrev pub chain_planned : List ℕ → Plan → Binary → Places → Held → Try Held
chain_planned t q o p h = chain_words t p q.out.word o 1 (get_or q.wires 0 0) (get_or q.wires 1 0) (drop 2 (arguments_at t q.arguments)) h

-- a plan's gate, by the wires of all its inputs
abbrev pub gate_planned : List ℕ → Plan → Places → Held → Try Held
gate_planned t q p h = and_then (input_wires t h.names (arguments_at t q.arguments)) (λ xs. lower_gate p q.out.word q.operation xs h)

-- what a gate's chain gives that is made up to step k, with the inputs that are still to come
abbrev pub rest_of : List ℕ → List Entry → Plan → Binary → Places → ℕ → List ℕ → Chained → List Word → Try Held
rest_of t es q o p k ns c ws = chain_words t p q.out.word o k c.signal c.next ws (with_nodes (nodes_of ns c.nodes) es)

-- the steps of a gate but the last, an input after the second for each: the last cell then gives what the whole chain gives, for nodes of so many words and any other areas
pub record StepsAre (t : List ℕ) (es : List Entry) (q : Plan) (o : Binary) (words : ℕ) (old : List ℕ) (c : Chained) (new : List ℕ) (r : Try Chained) : Type 0 where
  pub are : (m l : ℕ) → and_then r (λ d. add_named (places_in words m l) q.out.word (last_cell q.out.word o d.signal d.next) (with_nodes (nodes_of new d.nodes) es)) ≡ rest_of t es q o (places_in words m l) 1 old c (drop 2 (arguments_at t q.arguments))
  pub area : NodesHoldAfter new (outcome (λ d. d.nodes) r)
