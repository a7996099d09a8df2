-- A chain as the code makes it, wire by wire, is the chain of the definition.
-- Assumes nothing.
use Rattle.std.specs.Prelude.{Err, None, Ok, Option, Some, IfOk}
use Prim.Native.Nat.{ℕ, zero, suc, ◌+◌, ◌≤◌}
use mathlib.Core.Path.{◌≡◌, refl, sym, ap, subst, ◌∙◌}
use mathlib.Core.Bool.{true}
use mathlib.Core.List.{List, [], ◌∷◌}
use native.Mathlib.Numerals.{add-one}
use native.Mathlib.Omega.{arith}
use lib.ListN.{length, get_or, drop}
use Rattle.std.specs.declared.iter.Skip.{Skip}
use Rattle.std.specs.Iterator.Adapters.{skip_source, skip_count, skip_steps}
use Rattle.std.proofs.lemmas.Iterator.{YieldsList}
use Rattle.std.proofs.lemmas.Iterator.Adapters.{YieldsList-from_skip}
use Rattle.laws.specs.Areas.{capacity}
use Rattle.laws.specs.Stretches.{All}
use Rattle.circuit.specs.declared.records.TheConstants.{NODE_WORDS}
use Rattle.circuit.specs.declared.refusals.Refusal.{Refusal}
use Rattle.circuit.specs.declared.records.BoolNode.{BoolNode}
use Rattle.circuit.specs.Refusals.{Try, and_then}
use Rattle.circuit.specs.declared.records.BoolWire.TheVariants.{Node}
use Rattle.circuit.specs.Records.{nodes_of, wire_word}
use Rattle.circuit.proofs.Codes.{length_nodes}
use Rattle.text.specs.declared.words.Word.{Word}
use Rattle.names.specs.Names.{Entry}
use Rattle.reading.specs.Reading.{Places, places_in, find, driver, next_wire, add_node}
use Rattle.reading.specs.Holding.{outcome, NodesHold}
use Rattle.bench_invocations.specs.declared.arguments.Arguments.{Arguments}
use Rattle.bench_invocations.specs.Walks.{arguments_at, arguments_left, GivesArgument}
use Rattle.bench_invocations.proofs.Inside.{Inside, arguments_given, arguments_inside_at}
use Rattle.bench_gates.specs.declared.plans.Plan.{Plan}
use Rattle.bench_gates.specs.declared.chains.Chained.{Chained}
use Rattle.bench_gates.specs.declared.operations.Binary.{Binary}
use Rattle.bench_gates.specs.Gates.{input_wires, step_cell, with_nodes, chain, chained}
use Rattle.bench_gates.specs.Walks.{Driven, chain_words, rest_of, StepsAre}
use Rattle.bench_gates.proofs.Drivers.{no_inputs, inputs_each, inputs-length, inputs_drop}

-- what goes on alike gives the same
each_then : {A B : Type 0} (r : Try A) (f g : A → Try B) → ((a : A) → f a ≡ g a) → and_then r f ≡ and_then r g
each_then (Err e) f g h = refl
each_then (Ok a) f g h = h a

-- ---- the steps of a gate

module _ (t : List ℕ) (es : List Entry) (q : Plan) (o : Binary) (p : Places) where
  module _ (k : ℕ) (ns : List ℕ) (c : Chained) (w : Word) (ws : List Word) where
    -- an input without a driver
    step_stops : (e : Refusal) → Err e ≡ driver (find true t w es) → Err e ≡ rest_of t es q o p k ns c (w ∷ ws)
    unfolding chain_words
    step_stops e f = rw (← f)

    -- an input with one, and the step before it
    step_made : (z : ℕ) → Ok z ≡ driver (find true t w es) → (new : List ℕ) (r : Try Chained)
        → outcome (λ d. nodes_of new d.nodes) r ≡ add_node p.nodes (step_cell q.out.word o k c.signal c.next) (nodes_of ns c.nodes)
        → IfOk r (λ d. (d.signal ≡ wire_word (Node (record { 0 = c.nodes }))) × (d.next ≡ z))
        → and_then r (λ d. rest_of t es q o p (k + 1) new d ws) ≡ rest_of t es q o p k ns c (w ∷ ws)
    unfolding chain_words
    step_made z f new (Err e) a b = rw (← f, ← a)
    step_made z f new (Ok d) a b = rw (← f, ← a, length_nodes ns c.nodes, b.0, b.1, add-one k)

  -- the chain of the wires, where each input has one
  words_made : (k x y : ℕ) (ws : List Word) (xs : List ℕ) (ns : List BoolNode) → input_wires t es ws ≡ Ok xs → chain_words t p q.out.word o k x y ws (with_nodes ns es) ≡ chain p q.out.word o k x (y ∷ xs) (with_nodes ns es)
  unfolding chain_words chain
  words_made k x y [] xs ns e = rw (no_inputs t es xs e)
  words_made k x y (w ∷ ws) xs ns e =
      let i = inputs_each t es w ws xs e in
      subst (λ (l : List ℕ). chain_words t p q.out.word o k x y (w ∷ ws) (with_nodes ns es) ≡ chain p q.out.word o k x (y ∷ l) (with_nodes ns es)) (sym i.all_are)
      (rw i.first_is (each_then (add_node p.nodes (step_cell q.out.word o k x y) ns) _ _ (λ ms. words_made (suc k) (next_wire ns) i.wire ws i.rest ms i.rest_are)))

  -- what the wires of a gate of two inputs or more give, from the first two on
  pub gate_made : Driven t es q → 2 ≤ q.inputs → (ns : List BoolNode) → chain_words t p q.out.word o 1 (get_or q.wires 0 0) (get_or q.wires 1 0) (drop 2 (arguments_at t q.arguments)) (with_nodes ns es)
      ≡ and_then (input_wires t es (arguments_at t q.arguments)) (λ xs. chained p q.out.word o xs (with_nodes ns es))
  unfolding chained
  gate_made d two ns = rw (d.are, d.firsts) (go d.wires d.are (omega (arith, two, d.count_is, inputs-length t es (arguments_at t q.arguments) d.wires d.are)))
    where
      go : (xs : List ℕ) → input_wires t es (arguments_at t q.arguments) ≡ Ok xs → 2 ≤ length xs
          → chain_words t p q.out.word o 1 (get_or xs 0 0) (get_or xs 1 0) (drop 2 (arguments_at t q.arguments)) (with_nodes ns es) ≡ chained p q.out.word o xs (with_nodes ns es)
      go [] e l = absurd (omega arith)
      go (x ∷ []) e l = absurd (omega arith)
      go (x ∷ y ∷ zs) e l = words_made 1 x y (drop 2 (arguments_at t q.arguments)) zs ns (inputs_drop t es 2 (arguments_at t q.arguments) (x ∷ y ∷ zs) e)

-- ---- a walk over the inputs after the second, which makes a step for each

abbrev steps : Skip Arguments → Option Word → Skip Arguments → Type 0
steps = skip_steps GivesArgument

abbrev Gives : Skip Arguments → List Word → Type 0
Gives = YieldsList steps (λ w. w)

-- an input that is given, and those after it
record Turn (s u : Skip Arguments) (ws : List Word) (w : Word) : Type 0 where
  pub rest : List Word
  pub first : ws ≡ w ∷ rest
  pub given : Gives u rest

turn : (s u : Skip Arguments) (ws : List Word) (w : Word) → Gives s ws → steps s (Some w) u → Turn s u ws w
turn s u [] w g p = absurd (g.runs w u p)
turn s u (v ∷ vs) w g p =
    let h = g.runs.1 w u p in
    record { rest = vs; first = ap (λ (x : Word). x ∷ vs) (sym h.0); given = record { runs = h.1 } }

turn_none : (s u : Skip Arguments) (ws : List Word) → Gives s ws → steps s None u → ws ≡ []
turn_none s u [] g p = refl
turn_none s u (v ∷ vs) g p = absurd (g.runs.0 u p)

-- after n inputs: those still to come, with which what is left of the chain gives what the whole gives
pub record Stepping (t : List ℕ) (es : List Entry) (q : Plan) (o : Binary) (words : ℕ) (old : List ℕ) (first : Chained) (s : Skip Arguments) (n : ℕ) (ns : List ℕ) (c : Chained) : Type 0 where
  pub coming : List Word
  pub given : Gives s coming
  pub stand : All (Inside t) coming
  pub kept : NodesHold ns c.nodes
  pub same : (m l : ℕ) → rest_of t es q o (places_in words m l) (n + 1) ns c coming ≡ rest_of t es q o (places_in words m l) 1 old first (drop 2 (arguments_at t q.arguments))

all_drop : (t : List ℕ) (n : ℕ) (ws : List Word) → All (Inside t) ws → All (Inside t) (drop n ws)
all_drop t zero ws a = a
all_drop t (suc n) [] a = tt
all_drop t (suc n) (w ∷ ws) a = all_drop t n ws a.1

module _ {t : List ℕ} {es : List Entry} {q : Plan} {o : Binary} {words : ℕ} {old : List ℕ} {first : Chained} where
  pub stepping_start : q.arguments.end ≤ length t → NodesHold old first.nodes → (a : Arguments) → arguments_left a ≡ arguments_at t q.arguments → (s : Skip Arguments) → skip_source s ≡ a → skip_count s ≡ 2
      → Stepping t es q o words old first s 0 old first
  stepping_start i k a e s f n = record {
    coming = drop 2 (arguments_at t q.arguments);
    given = subst (λ (ws : List Word). Gives s (drop 2 ws)) (ap arguments_left f ∙ e) (YieldsList-from_skip 2 (arguments_given (skip_source s)) n);
    stand = all_drop t 2 (arguments_at t q.arguments) (arguments_inside_at t q.arguments i);
    kept = k;
    same = λ m l. refl;
  }

  module _ {s : Skip Arguments} {n : ℕ} {ns : List ℕ} {c : Chained} (h : Stepping t es q o words old first s n ns c) where
    pub stepping_end : (u : Skip Arguments) → steps s None u → StepsAre t es q o words old first ns (Ok c)
    unfolding chain_words
    stepping_end u p = record {
      are = λ m l. rw (turn_none s u h.coming h.given p) at (h.same m l);
      area = h.kept;
    }

    module _ (w : Word) (u : Skip Arguments) (p : steps s (Some w) u) where
      pub stepping_stands : w.start + w.len ≤ length t
      stepping_stands =
          let g = turn s u h.coming w h.given p in
          (subst (All (Inside t)) g.first h.stand).0

      -- an input without a driver
      pub stepping_stops : (e : Refusal) → Err e ≡ driver (find true t w es) → StepsAre t es q o words old first ns (Err e)
      stepping_stops e f =
          let g = turn s u h.coming w h.given p in
          record {
            are = λ m l. step_stops t es q o (places_in words m l) (n + 1) ns c w g.rest e f ∙ rw g.first at (h.same m l);
            area = (c.nodes, h.kept);
          }

      -- an input with one, and the step before it
      module _ (z : ℕ) (f : Ok z ≡ driver (find true t w es)) (new : List ℕ) where
        pub stepping_refused : (e : Refusal) → Err e ≡ add_node (capacity NODE_WORDS words) (step_cell q.out.word o (n + 1) c.signal c.next) (nodes_of ns c.nodes) → NodesHold new c.nodes → StepsAre t es q o words old first new (Err e)
        stepping_refused e a k =
            let g = turn s u h.coming w h.given p in
            record {
              are = λ m l. step_made t es q o (places_in words m l) (n + 1) ns c w g.rest z f new (Err e) a tt ∙ rw g.first at (h.same m l);
              area = (c.nodes, k);
            }

        pub stepping_on : (d : Chained) → Ok (nodes_of new d.nodes) ≡ add_node (capacity NODE_WORDS words) (step_cell q.out.word o (n + 1) c.signal c.next) (nodes_of ns c.nodes)
            → (d.signal ≡ wire_word (Node (record { 0 = c.nodes }))) × (d.next ≡ z) → NodesHold new d.nodes → Stepping t es q o words old first u (n + 1) new d
        stepping_on d a b k =
            let g = turn s u h.coming w h.given p in
            record {
              coming = g.rest;
              given = g.given;
              stand = (subst (All (Inside t)) g.first h.stand).1;
              kept = k;
              same = λ m l. step_made t es q o (places_in words m l) (n + 1) ns c w g.rest z f new (Ok d) a b ∙ rw g.first at (h.same m l);
            }
