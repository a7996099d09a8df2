-- The values of a circuit's nodes as nodes are added at its end, and the values of names as names are added.
-- Assumes nothing.
use Rattle.std.specs.Prelude.{Some}
use Prim.Native.Nat.{ℕ, zero, suc, ◌+◌, ◌<◌}
use mathlib.Core.Path.{◌≡◌}
use mathlib.Core.List.{List, [], ◌∷◌, ◌++◌, map}
use native.Mathlib.Omega.{arith}
use lib.ListN.{length, get_or}
use Rattle.laws.specs.Stretches.{All}
use Rattle.laws.proofs.Stretches.{all_append}
use Rattle.laws.proofs.Filling.{cond_both}
use Rattle.circuit.specs.declared.records.BoolNode.{BoolNode}
use Rattle.circuit.specs.Records.{is_cell_node}
use Rattle.names.specs.Names.{lookup}
use Rattle.reading.specs.Reading.{Held}
use Rattle.reading.proofs.Ended.{wire_at}
use Rattle.reading.proofs.Sound.{Wired, lookup_below}
use Rattle.reading.proofs.Growing.{Known as KnownBy, Grows as GrowsBy, value_kept as kept_value, values_kept as kept_values}
use Rattle.values.specs.Values.{signal_value, values_from, entry_of}
use Rattle.values.proofs.Storage.{entry_small}
use Rattle.values.proofs.WireValues.{wire_value as value_by}
use Rattle.documents.proofs.BlifCover.{Bits}

pub bits_at : (vs : List ℕ) → Bits vs → (i : ℕ) → get_or vs i 0 < 2
bits_at [] h i = omega arith
bits_at (v ∷ vs) h zero = h.0
bits_at (v ∷ vs) h (suc i) = bits_at vs h.1 i

-- ---- one node more

module _ (a : List ℕ) where
  abbrev pub values : List BoolNode → List ℕ
  values ns = values_from entry_of a 0 [] ns

  bits_from : Bits a → (ns : List BoolNode) (p : ℕ) (vs : List ℕ) → Bits vs → Bits (values_from entry_of a p vs ns)
  unfolding values_from
  bits_from ha [] p vs h = h
  bits_from ha (x ∷ ns) p vs h =
      cond_both Bits (is_cell_node x) _ _
      (bits_from ha ns p (vs ++ entry_of vs x ∷ []) (all_append (λ v. v < 2) vs (entry_of vs x ∷ []) h (entry_small vs x, tt)))
      (bits_from ha ns (suc p) (vs ++ get_or a p 0 ∷ []) (all_append (λ v. v < 2) vs (get_or a p 0 ∷ []) h (bits_at a ha p, tt)))

  -- ---- the values of wires

  abbrev pub wire_value : List BoolNode → ℕ → ℕ
  wire_value = value_by entry_of a

  pub wire_bit : Bits a → (ns : List BoolNode) (x : ℕ) → wire_value ns x < 2
  wire_bit ha ns zero = omega arith
  wire_bit ha ns (suc zero) = omega arith
  wire_bit ha ns (suc (suc k)) = bits_at (values ns) (bits_from ha ns 0 [] tt) k

-- ---- what has been read, and more of it

module _ (t a : List ℕ) where
  -- the value of a name
  abbrev pub value : Held → List ℕ → ℕ
  value h name = signal_value (values a h.nodes) (wire_at (lookup t name h.names))

  abbrev pub Known : Held → List ℕ → Type 0
  Known = KnownBy (lookup t) (wire_value a)

  abbrev pub Grows : Held → Held → Type 0
  Grows = GrowsBy (lookup t) (wire_value a)

  pub value_at : (h : Held) (name : List ℕ) (x : ℕ) → lookup t name h.names ≡ Some x → value h name ≡ wire_value a h.nodes x
  value_at h name x q = rw q

  found_below : (h : Held) (name : List ℕ) (x : ℕ) → Wired (length h.nodes) h.names → lookup t name h.names ≡ Some x → x < length h.nodes + 2
  found_below h name x wd q = lookup_below (length h.nodes) t name h.names x wd q

  pub value_kept : (h h' : Held) (name : List ℕ) → Wired (length h.nodes) h.names → Grows h h' → Known h name → value h' name ≡ value h name
  value_kept h h' name wd g k = kept_value (lookup t) (wire_value a) h h' g value value_at found_below wd name k

  pub values_kept : (h h' : Held) (names : List (List ℕ)) → Wired (length h.nodes) h.names → Grows h h' → All (Known h) names → map (value h') names ≡ map (value h) names
  values_kept h h' names wd g k = kept_values (lookup t) (wire_value a) h h' g value value_at found_below wd names k
