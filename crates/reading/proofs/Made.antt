-- What is held after a record more was accepted, and the wire of a name that has one.
-- Assumes nothing.
use Rattle.std.specs.Prelude.{None, Ok, Option, Some}
use Prim.Native.Nat.{ℕ}
use mathlib.Core.Path.{◌≡◌, sym, ap, subst}
use mathlib.Core.Bool.{Bool, true, false}
use mathlib.Core.List.{List, [], ◌∷◌, ◌++◌}
use lib.Dec.{ltb}
use lib.ListN.{length}
use Rattle.circuit.specs.declared.refusals.Refusal.TheVariants.{NoRoom}
use Rattle.circuit.specs.declared.records.BoolNode.{BoolNode}
use Rattle.circuit.specs.Refusals.{need}
use Rattle.circuit.proofs.Tries.{no_yes, yes_same, then_yes, need-yes}
use Rattle.text.specs.declared.words.Word.{Word}
use Rattle.names.specs.Names.{Entry}
use Rattle.reading.specs.Reading.{Places, Held, driver, add_name, with_names, next_wire, add_node, add_alias, add_named, add_output}

abbrev pub entry : Word → ℕ → Entry
entry w wire = record { start = w.start; len = w.len; wire = wire }

pub node_made : (room : ℕ) (n : BoolNode) (ns ns' : List BoolNode) → add_node room n ns ≡ Ok ns' → ns ++ n ∷ [] ≡ ns'
unfolding add_node
node_made room n ns ns' q = yes_same (need-yes (ltb (length ns) room) NoRoom _ ns' q).1

pub name_made : (room : ℕ) (w : Word) (wire : ℕ) (ns : List BoolNode) (es : List Entry) (h : Held) → with_names ns (add_name room w wire es) ≡ Ok h → record { nodes = ns; names = entry w wire ∷ es } ≡ h
unfolding add_name
name_made room w wire ns es h q = go (ltb (length es) room) q
  where
    go : (t : Bool) → with_names ns (need t NoRoom (Ok (entry w wire ∷ es))) ≡ Ok h → record { nodes = ns; names = entry w wire ∷ es } ≡ h
    go true r = yes_same r
    go false r = absurd (no_yes r)

pub alias_made : (p : Places) (w : Word) (wire : ℕ) (h h' : Held) → add_alias p w wire h ≡ Ok h' → record { nodes = h.nodes; names = entry w wire ∷ h.names } ≡ h'
unfolding add_alias
alias_made p w wire h h' q = name_made p.names w wire h.nodes h.names h' q

pub named_made : (p : Places) (w : Word) (n : BoolNode) (h h' : Held) → add_named p w n h ≡ Ok h' → record { nodes = h.nodes ++ n ∷ []; names = entry w (next_wire h.nodes) ∷ h.names } ≡ h'
unfolding add_named
named_made p w n h h' q =
    let r = then_yes (add_node p.nodes n h.nodes) _ h' q in
    subst (λ (ns : List BoolNode). record { nodes = ns; names = entry w (next_wire h.nodes) ∷ h.names } ≡ h') (sym (node_made p.nodes n h.nodes r.0 r.1))
    (name_made p.names w (next_wire h.nodes) r.0 h.names h' r.2)

pub output_made : (room : ℕ) (w : Word) (os os' : List Word) → add_output room w os ≡ Ok os' → os ++ w ∷ [] ≡ os'
unfolding add_output
output_made room w os os' q = yes_same (need-yes (ltb (length os) room) NoRoom _ os' q).1

pub driver_found : (f : Option ℕ) (x : ℕ) → driver f ≡ Ok x → f ≡ Some x
driver_found (Some y) x q = ap Some (yes_same q)
driver_found None x q = absurd (no_yes q)
