-- What has been read so far is sound: each node keeps the rules at its place, and each name's wire is there. At the end the circuit check accepts.
-- Assumes nothing.
use Rattle.std.specs.Prelude.{Ok, Some}
use Prim.Native.Nat.{ℕ, ◌+◌, ◌≤◌, ◌<◌}
use mathlib.Core.Path.{◌≡◌, sym, subst}
use mathlib.Core.Bool.{Bool, true, false, cond, ◌&&◌}
use mathlib.Core.List.{List, [], ◌∷◌, ◌++◌, map}
use native.Mathlib.Nat.{zero-add}
use native.Mathlib.Omega.{arith}
use lib.ListN.{length, length-append}
use Rattle.laws.specs.Stretches.{same_bytes, All}
use Rattle.laws.proofs.Stretches.{all_map}
use Rattle.circuit.specs.declared.records.BoolNode.{BoolNode}
use Rattle.circuit.specs.declared.records.Output.{Output}
use Rattle.circuit.specs.Refusals.{Try}
use Rattle.circuit.specs.Check.{some_not_below}
use Rattle.circuit.specs.Circuits.{Circuit, KeepsRules}
use Rattle.circuit.proofs.Tries.{yes_same, then_yes}
use Rattle.circuit.proofs.Sitting.{each_padded, Sits, AllSit, sit_more, circuit_checked, word_below, input_sits}
use Rattle.text.specs.Words.{bytes_of}
use Rattle.text.specs.declared.words.Word.{Word}
use Rattle.names.specs.Names.{Entry, name_of, lookup}
use Rattle.reading.specs.Reading.{Places, Held, State, find, stretch_name, driver, add_node, add_alias, add_named, declared_input, add_input, each, Out, output_of, resolve, finish}
use Rattle.reading.proofs.Made.{node_made, alias_made, named_made, driver_found}
use Rattle.reading.proofs.Ended.{finish_yes}
use Rattle.reading.proofs.States.{undefined_yes}

-- each entry's wire is a constant or a node below m
abbrev pub Wired : ℕ → List Entry → Type 0
Wired m es = All (λ (e : Entry). e.wire < m + 2) es

pub record HeldSound (h : Held) : Type 0 where
  pub nodes : AllSit 0 h.nodes
  pub names : Wired (length h.nodes) h.names

pub start-sound : HeldSound (record { nodes = []; names = [] })
start-sound = record { nodes = tt; names = tt }

pub wired_more : (m k : ℕ) → m ≤ k → (es : List Entry) → Wired m es → Wired k es
wired_more m k h es w = all_map es (λ e p. omega (arith, h, p)) w

-- ---- names

pub lookup_below : (m : ℕ) (t bytes : List ℕ) (es : List Entry) (x : ℕ) → Wired m es → lookup t bytes es ≡ Some x → x < m + 2
unfolding lookup
lookup_below m t bytes [] x w q = let z : ◌≡◌ {A = ℕ} 0 1 = cc in absurd (omega arith)
lookup_below m t bytes (e ∷ es) x w q = go (same_bytes (name_of t e) bytes) q (lookup_below m t bytes es x w.1)
  where
    go : (b : Bool) → cond b (Some e.wire) (lookup t bytes es) ≡ Some x → (lookup t bytes es ≡ Some x → x < m + 2) → x < m + 2
    go true r later = let s : e.wire ≡ x = cc in omega (arith, s, w.0)
    go false r later = later r

pub find_below : (m : ℕ) (b : Bool) (t : List ℕ) (w : Word) (es : List Entry) (x : ℕ) → Wired m es → find b t w es ≡ Some x → x < m + 2
unfolding find
find_below m b t w es x h q = go (b && same_bytes (bytes_of t w) _) (b && same_bytes (bytes_of t w) _) q
  where
    go : (u v : Bool) → cond u (Some 0) (cond v (Some 1) (lookup t (bytes_of t w) es)) ≡ Some x → x < m + 2
    go true v r = let s : 0 ≡ x = cc in omega arith
    go false true r = let s : 1 ≡ x = cc in omega arith
    go false false r = lookup_below m t (bytes_of t w) es x h r

pub driver_below : (m : ℕ) (b : Bool) (t : List ℕ) (w : Word) (es : List Entry) (x : ℕ) → Wired m es → driver (find b t w es) ≡ Ok x → x < m + 2
driver_below m b t w es x h q = find_below m b t w es x h (driver_found (find b t w es) x q)

-- ---- records

pub alias_sound : (p : Places) (w : Word) (wire : ℕ) (h h' : Held) → wire < length h.nodes + 2 → HeldSound h → add_alias p w wire h ≡ Ok h' → HeldSound h'
alias_sound p w wire h h' k s q = subst HeldSound (alias_made p w wire h h' q) (record { nodes = s.nodes; names = (k, s.names) })

-- a node at the end of the others
sits_last : (ns : List BoolNode) (n : BoolNode) → AllSit 0 ns → Sits (length ns) n → AllSit 0 (ns ++ n ∷ [])
sits_last ns n a s = sit_more 0 ns n a (subst (λ (k : ℕ). Sits k n) (sym (zero-add (length ns))) s)

pub node_sits : (room : ℕ) (n : BoolNode) (ns ns' : List BoolNode) → AllSit 0 ns → Sits (length ns) n → add_node room n ns ≡ Ok ns' → AllSit 0 ns' × (length ns' ≡ length ns + 1)
node_sits room n ns ns' a s q = rw (← node_made room n ns ns' q) (sits_last ns n a s, length-append ns (n ∷ []))

pub named-sound : (p : Places) (w : Word) (n : BoolNode) (h h' : Held) → Sits (length h.nodes) n → HeldSound h → add_named p w n h ≡ Ok h' → HeldSound h'
named-sound p w n h h' s k q =
    let l : length (h.nodes ++ n ∷ []) ≡ length h.nodes + 1 = length-append h.nodes (n ∷ []) in
    subst HeldSound (named_made p w n h h' q)
    (record {
      nodes = sits_last h.nodes n k.nodes s;
      names = (omega (arith, l), wired_more (length h.nodes) (length (h.nodes ++ n ∷ [])) (omega (arith, l)) h.names k.names);
    })

pub input_sound : (b : Bool) (t : List ℕ) (p : Places) (w : Word) (h h' : Held) → HeldSound h → add_input b t p w h ≡ Ok h' → HeldSound h'
unfolding add_input
input_sound b t p w h h' s q =
    named-sound p w (declared_input w) h h' (input_sits (length h.nodes) (stretch_name w)) s (undefined_yes (find b t w h.names) _ h' q).1

-- one word after the other keeps what each keeps
pub each_keeps : {A B : Type 0} (P : A → Type 0) (f : B → A → Try A) → ((w : B) (a b : A) → P a → f w a ≡ Ok b → P b) → (ws : List B) (a b : A) → P a → each f ws a ≡ Ok b → P b
unfolding each
each_keeps P f keep [] a b h q = subst P (yes_same q) h
each_keeps P f keep (w ∷ ws) a b h q =
    let s = then_yes (f w a) (each f ws) b q in
    each_keeps P f keep ws s.0 b (keep w a s.0 h s.1) s.2

-- ---- the end

resolve_below : (m : ℕ) (b : Bool) (t : List ℕ) (es : List Entry) (ws : List Word) (os : List Out) → Wired m es → resolve b t es ws ≡ Ok os
    → some_not_below m (map (λ (o : Output). o.wire) (map output_of os)) ≡ false
unfolding resolve
resolve_below m b t es [] os h q = rw (← yes_same q)
resolve_below m b t es (w ∷ ws) os h q =
    let x = then_yes (driver (find b t w es)) _ os q in
    let r = then_yes (resolve b t es ws) _ os x.2 in
    let below = word_below m x.0 (driver_below m b t w es x.0 h x.1) in
    rw (← yes_same r.2, below) (resolve_below m b t es ws r.0 h r.1)

pub finish-sound : (b : Bool) (t : List ℕ) (s : State) (c : Circuit) → HeldSound s.held → finish b t s ≡ Ok c → KeepsRules c
finish-sound b t s c h q =
    let e = finish_yes b t s c q in
    subst KeepsRules e.2
    (record {
      checked = circuit_checked s.held.nodes (map (λ (o : Output). o.wire) (map output_of e.0)) h.nodes (resolve_below (length s.held.nodes) b t s.held.names s.outputs e.0 h.names e.1);
      padded = each_padded 0 s.held.nodes h.nodes;
    })
