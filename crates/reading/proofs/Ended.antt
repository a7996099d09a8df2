-- What the end of an accepted text tells: its circuit, and the wires that the words of its outputs stand for.
-- Assumes nothing.
use Rattle.std.specs.Prelude.{Err, None, Ok, Option, Some}
use Prim.Native.Nat.{ℕ}
use mathlib.Core.Path.{◌≡◌, refl, sym, ap, ap₂, subst}
use mathlib.Core.Bool.{Bool, false}
use mathlib.Core.List.{List, [], ◌∷◌, map}
use Rattle.circuit.specs.declared.records.BoolWire.{BoolWire}
use Rattle.circuit.specs.declared.records.BoolWire.TheVariants.{Const}
use Rattle.circuit.specs.declared.records.Output.{Output}
use Rattle.circuit.specs.Refusals.{Try, and_then}
use Rattle.circuit.specs.Records.{wire_of}
use Rattle.circuit.specs.Circuits.{Circuit}
use Rattle.circuit.proofs.Tries.{no_yes, yes_same, then_yes}
use Rattle.text.specs.declared.words.Word.{Word}
use Rattle.names.specs.Names.{Entry}
use Rattle.reading.specs.Reading.{State, find, driver, Out, output_of, resolve, closed, finish}
use Rattle.reading.proofs.Made.{driver_found}

-- the wire of a name that was looked up
abbrev pub wire_at : Option ℕ → BoolWire
wire_at (Some x) = wire_of x
wire_at None = Const false

module _ (constants : Bool) (t : List ℕ) where
  pub resolved_wires : {A : Type 0} (f : BoolWire → A) (es : List Entry) (ws : List Word) (os : List Out) → resolve constants t es ws ≡ Ok os
      → map f (map (λ (o : Output). o.wire) (map output_of os)) ≡ map (λ (w : Word). f (wire_at (find constants t w es))) ws
  unfolding resolve
  resolved_wires f es [] os q = rw (← yes_same q)
  resolved_wires {A} f es (w ∷ ws) os q =
      let x = then_yes (driver (find constants t w es)) _ os q in
      let r = then_yes (resolve constants t es ws) _ os x.2 in
      subst (λ (l : List Out). map f (map (λ (o : Output). o.wire) (map output_of l)) ≡ map (λ (v : Word). f (wire_at (find constants t v es))) (w ∷ ws)) (yes_same r.2)
      (ap₂ (λ (b : A) (l : List A). b ∷ l) (ap (λ (g : Option ℕ). f (wire_at g)) (sym (driver_found (find constants t w es) x.0 x.1))) (resolved_wires f es ws r.0 r.1))

  pub finish_yes : (s : State) (c : Circuit) → finish constants t s ≡ Ok c
      → (os : List Out) × (resolve constants t s.held.names s.outputs ≡ Ok os) × (record { nodes = s.held.nodes; outputs = map output_of os } ≡ c)
  unfolding finish closed
  finish_yes s c q = go (resolve constants t s.held.names s.outputs) refl q
    where
      go : (r : Try (List Out)) → resolve constants t s.held.names s.outputs ≡ r → and_then r (closed s.held.nodes) ≡ Ok c
          → (os : List Out) × (resolve constants t s.held.names s.outputs ≡ Ok os) × (record { nodes = s.held.nodes; outputs = map output_of os } ≡ c)
      go (Err e) p z = absurd (no_yes z)
      go (Ok []) p z = absurd (no_yes z)
      go (Ok (o ∷ os)) p z = (o ∷ os, p, yes_same z)
