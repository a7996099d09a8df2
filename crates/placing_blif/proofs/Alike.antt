-- Accepted lines define no word twice and read only words defined before, so they are placed as they stand.
-- Assumes nothing.
use Rattle.std.specs.Prelude.{None, Ok, Option, Some, map}
use Prim.Native.Nat.{ℕ}
use mathlib.Core.Path.{◌≡◌, refl, sym, ap, ◌∙◌}
use mathlib.Core.Bool.{Bool, true, false, not, cond, ◌||◌}
use mathlib.Core.List.{List, [], ◌∷◌}
use native.Mathlib.Omega.{arith}
use lib.Dec.{eqb}
use lib.ListN.{length}
use Rattle.std.specs.List.{list_all, range_with_len}
use Rattle.std.proofs.lemmas.Bool.{and_from}
use Rattle.std.proofs.lemmas.List.{length-map}
use Rattle.laws.specs.Stretches.{same_bytes}
use Rattle.circuit.proofs.Tries.{then_yes}
use Rattle.reading.proofs.Made.{alias_made, named_made, driver_found}
use Rattle.text.specs.Words.{bytes_of}
use Rattle.text.specs.declared.words.Word.{Word}
use Rattle.names.specs.Names.{Entry, name_of, lookup}
use Rattle.cover.specs.Cover.{last_of, input_names}
use Rattle.reading.specs.Reading.{Places, Held, find, driver, add_alias, add_named, each}
use Rattle.blif.specs.Blif.{drivers, gate_cell, gate, names_line}
use Rattle.blif.proofs.Accepted.{names-yes}
use Rattle.placing.specs.Promises.{stands_among, accepts}
use Rattle.placing.proofs.Filed.{as-filed, from-number}
use Rattle.placing.proofs.Accepted.{forward}
use Rattle.placing_blif.specs.Lines.{NamesLine, line_at, definition_of, placed_lines, gates_of}

-- the words that are defined, the newest first
abbrev known : List ℕ → Held → List (List ℕ)
known t h = map (name_of t) h.names

-- ---- a look-up tells whether a word is among them

looked-none : (t bytes : List ℕ) (es : List Entry) → lookup t bytes es ≡ None → stands_among bytes (map (name_of t) es) ≡ false
unfolding lookup stands_among
looked-none t bytes [] q = refl
looked-none t bytes (e ∷ es) q = go (same_bytes (name_of t e) bytes) q (looked-none t bytes es)
  where
    go : (b : Bool) → ◌≡◌ {A = Option ℕ} (cond b (Some e.wire) (lookup t bytes es)) None → (lookup t bytes es ≡ None → stands_among bytes (map (name_of t) es) ≡ false) → b || stands_among bytes (map (name_of t) es) ≡ false
    go true q below = let z : ◌≡◌ {A = ℕ} 0 1 = cc in absurd (omega arith)
    go false q below = below q

looked-some : (t bytes : List ℕ) (es : List Entry) (x : ℕ) → lookup t bytes es ≡ Some x → stands_among bytes (map (name_of t) es) ≡ true
unfolding lookup stands_among
looked-some t bytes [] x q = let z : ◌≡◌ {A = ℕ} 0 1 = cc in absurd (omega arith)
looked-some t bytes (e ∷ es) x q = go (same_bytes (name_of t e) bytes) q (looked-some t bytes es x)
  where
    go : (b : Bool) → ◌≡◌ {A = Option ℕ} (cond b (Some e.wire) (lookup t bytes es)) (Some x) → (lookup t bytes es ≡ Some x → stands_among bytes (map (name_of t) es) ≡ true) → b || stands_among bytes (map (name_of t) es) ≡ true
    go true q below = refl
    go false q below = below q

-- ---- a line that is accepted

all-known : (t : List ℕ) (es : List Entry) (ws : List Word) (xs : List ℕ) → drivers t es ws ≡ Ok xs → list_all (λ w. stands_among w (map (name_of t) es)) (map (bytes_of t) ws) ≡ true
unfolding drivers find
all-known t es [] xs q = refl
all-known t es (w ∷ ws) xs q =
    let x = then_yes (driver (find false t w es)) _ xs q in
    let r = then_yes (drivers t es ws) _ xs x.2 in
    and_from _ _ (looked-some t (bytes_of t w) es x.0 (driver_found (find false t w es) x.0 x.1)) (all-known t es ws r.0 r.1)

-- its output word is defined after it
gate-names : (t : List ℕ) (p : Places) (out : Word) (xs : List ℕ) (table : ℕ) (h h' : Held) → gate p out xs table h ≡ Ok h' → known t h' ≡ bytes_of t out ∷ known t h
unfolding gate
gate-names t p out [] table h h' q = ap (known t) (sym (alias_made p out table h h' q))
gate-names t p out (x ∷ []) table h h' q = go (eqb table 2) q
  where
    go : (b : Bool) → cond b (add_alias p out x h) (add_named p out (gate_cell out (x ∷ []) table) h) ≡ Ok h' → known t h' ≡ bytes_of t out ∷ known t h
    go true r = ap (known t) (sym (alias_made p out x h h' r))
    go false r = ap (known t) (sym (named_made p out (gate_cell out (x ∷ []) table) h h' r))
gate-names t p out (x ∷ y ∷ ys) table h h' q = ap (known t) (sym (named_made p out (gate_cell out (x ∷ y ∷ ys) table) h h' q))

accepted-lines : (t : List ℕ) (p : Places) (ls : List NamesLine) (h h' : Held) → gates_of t p ls h ≡ Ok h' → accepts (known t h) (map (definition_of t) ls) ≡ true
unfolding gates_of each accepts definition_of find
accepted-lines t p [] h h' q = refl
accepted-lines t p (l ∷ ls) h h' q =
    let s = then_yes (names_line t p (l.first ∷ l.others) l.rows h) _ h' q in
    let y = names-yes t p l.first l.others l.rows h s.0 s.1 in
    let fresh = looked-none t (bytes_of t (last_of l.first l.others)) h.names y.new in
    let next = gate-names t p (last_of l.first l.others) y.wires y.table h s.0 y.made in
    and_from _ _ (ap not fresh)
    (and_from _ _ (all-known t h.names (input_names l.first l.others) y.wires y.driven)
    (ap (λ (ws : List (List ℕ)). accepts ws (map (definition_of t) ls)) (sym next) ∙ accepted-lines t p ls s.0 h' s.2))

-- ---- so the lines are placed as they stand

placed-same : (t : List ℕ) (p : Places) (ls : List NamesLine) (h h' : Held) → gates_of t p ls h ≡ Ok h' → placed_lines t ls ≡ ls
unfolding placed_lines
placed-same t p ls h h' q =
    ap (map (line_at ls)) (as-filed (map (definition_of t) ls) (forward (known t h) (map (definition_of t) ls) (accepted-lines t p ls h h' q)) ∙ ap (range_with_len 0) (length-map ls (definition_of t)))
    ∙ from-number (record { first = record { start = 0; len = 0 }; others = []; rows = [] }) ls 0 (length ls) (omega arith)

pub alike : (t : List ℕ) (p : Places) (ls : List NamesLine) (h h' : Held) → gates_of t p ls h ≡ Ok h' → gates_of t p (placed_lines t ls) h ≡ Ok h'
alike t p ls h h' q = ap (λ (l : List NamesLine). gates_of t p l h) (placed-same t p ls h h' q) ∙ q
