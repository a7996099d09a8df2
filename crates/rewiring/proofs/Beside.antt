-- A circuit beside itself: what stands at each place, that the check accepts it, and its values.
-- Assumes nothing.
use Rattle.std.proofs.Common.{ℕ, ◌+◌, ◌-◌, ◌<◌, ◌≤◌, ◌≡◌, Bool, true, false, cond, List, [], ◌∷◌, ◌++◌, map, length, get_or, take, refl, sym, ap, ap₂, ◌∙◌, subst, arith, ltb, ltb-true, ltb-false, length-append, Ok}
use Rattle.std.proofs.Math.Seq.{take-length}
use Rattle.std.specs.List.{filter, count_by}
use Rattle.std.proofs.lemmas.List.{get_or-append-add, get_or-map, length-map, map-append}
use Rattle.std.proofs.Math.ListN.{get_or-append}
use Rattle.std.proofs.lemmas.List.Sums.{length-filter}
use Rattle.std.proofs.lemmas.Bool.{or_parts}
use borrow.Author.Tests.{lt-leb}
use Rattle.circuit.specs.declared.records.BoolWire.{BoolWire}
use Rattle.circuit.specs.declared.records.BoolNode.{BoolNode}
use Rattle.circuit.specs.Records.{is_cell_node, wires_of, no_node}
use Rattle.circuit.specs.Check.{not_below, some_not_below, check_circuit}
use Rattle.circuit.proofs.Checks.{Sounds, circuit-sound, all_below_more}
use Rattle.circuit.proofs.Circuits.{read_below}
use Rattle.values.specs.Values.{signal_value, answer_of, outputs_from, storage_values, storage_outputs}
use Rattle.values.specs.Assignments.{input_count}
use Rattle.values.proofs.NodeValues.{values-append, values_stay, length-values}
use Rattle.values.proofs.Storage.{wires_below}
use Rattle.rewiring.specs.Rewiring.{node_wire, nth_node, rewired, rewired_node, Stands}
use Rattle.rewiring.specs.Beside.{second_wire, doubled, IsDoubled}
use Rattle.rewiring.proofs.Wires.{rewired_below}
use Rattle.rewiring.proofs.NodeValues.{cell_inside, reads_earlier}
use Rattle.rewiring.proofs.Rewired.{stands_value, stands_wires}
use Rattle.rewiring.proofs.Accepted.{Fits, accepted}
use Rattle.rewiring.proofs.Cells.{rewired_sits, rewired_answer}
use Rattle.rewiring.proofs.Kept.{kept_at, kept_before, stands_at}

-- two lists of wires below m
both_below : (m : ℕ) (ws us : List BoolWire) → some_not_below m ws ≡ false → some_not_below m us ≡ false → some_not_below m (ws ++ us) ≡ false
both_below m [] us p q = q
both_below m (w ∷ ws) us p q = let a = or_parts (not_below m w) (some_not_below m ws) p in rw a.0 (both_below m ws us a.1 q)

module _ (ns : List BoolNode) (os : List BoolWire) (checks : check_circuit ns os ≡ Ok tt) where
  abbrev m : ℕ
  m = length ns

  abbrev σ : ℕ → BoolWire
  σ = second_wire ns

  -- how many cells stand before node k
  abbrev rank : ℕ → ℕ
  rank k = count_by is_cell_node (take k ns)

  abbrev copies : List BoolNode
  copies = map (rewired_node σ) (filter is_cell_node ns)

  sound : Sounds ns os
  sound = circuit-sound ns os checks

  -- ---- what stands where

  length_doubled : length (doubled ns) ≡ m + rank m
  unfolding doubled
  length_doubled =
      length-append ns copies
      ∙ ap (λ (l : ℕ). m + l)
      (length-map (filter is_cell_node ns) (rewired_node σ) ∙ length-filter is_cell_node ns ∙ ap (count_by is_cell_node) (sym (take-length ns)))

  first_node : (k : ℕ) → k < m → nth_node (doubled ns) k ≡ nth_node ns k
  unfolding doubled
  first_node k h = get_or-append ns copies no_node k h

  second_node : (k : ℕ) → is_cell_node (nth_node ns k) ≡ true → nth_node (doubled ns) (m + rank k) ≡ rewired_node σ (nth_node ns k)
  unfolding doubled
  second_node k c =
      let kept = kept_at is_cell_node no_node ns k (cell_inside ns k c) c in
      get_or-append-add ns copies (rank k) no_node
      ∙ get_or-map (rewired_node σ) (filter is_cell_node ns) (rank k) no_node no_node kept.inside
      ∙ ap (rewired_node σ) kept.at

  -- what stands for an earlier node comes before the copies of the cells from k on
  wire_below : (k : ℕ) → k ≤ m → (j : ℕ) → j < k → not_below (m + rank k) (σ j) ≡ false
  wire_below k l j h = go (is_cell_node (nth_node ns j)) refl
    where
      go : (t : Bool) → is_cell_node (nth_node ns j) ≡ t → not_below (m + rank k) (cond t (node_wire (m + rank j)) (node_wire j)) ≡ false
      go true c = lt-leb (m + rank k) (m + rank j) (omega (arith, kept_before is_cell_node no_node ns j k h l c))
      go false c = lt-leb (m + rank k) j (omega arith)

  second_below : (k : ℕ) → k < m → some_not_below (m + rank k) (rewired σ (wires_of (nth_node ns k))) ≡ false
  second_below k h = rewired_below (m + rank k) σ (wires_of (nth_node ns k)) (λ j r. wire_below k (let l : k ≤ m = omega arith in l) j (reads_earlier ns k os checks j r))

  -- ---- the check

  first_fits : (k : ℕ) → k < m → Fits k (nth_node (doubled ns) k)
  first_fits k h = let s = sound.nodes k h in rw (first_node k h) (record { rules = s.rules; earlier = s.earlier })

  second_fits : (k : ℕ) → k < m → is_cell_node (nth_node ns k) ≡ true → Fits (m + rank k) (nth_node (doubled ns) (m + rank k))
  second_fits k h c =
      let s = rewired_sits σ (nth_node ns k) (m + rank k) (sound.nodes k h).rules (second_below k h) in
      rw (second_node k c) (record { rules = s.rules; earlier = s.earlier })

  each_fits : (k : ℕ) → k < length (doubled ns) → Fits k (nth_node (doubled ns) k)
  each_fits k h = go (ltb k m) refl
    where
      go : (t : Bool) → ltb k m ≡ t → Fits k (nth_node (doubled ns) k)
      go true e = first_fits k (ltb-true k m e)
      go false e =
          let low : m ≤ k = ltb-false k m e in
          let s = stands_at is_cell_node no_node ns (k - m) (omega (arith, length_doubled, low)) in
          let is : m + rank s.place ≡ k = omega (arith, s.is, low) in
          subst (λ (i : ℕ). Fits i (nth_node (doubled ns) i)) is (second_fits s.place s.within s.passes)

  outputs_below : some_not_below (length (doubled ns)) (os ++ rewired σ os) ≡ false
  outputs_below =
      rw length_doubled
      (both_below (m + rank m) os (rewired σ os) (all_below_more m (m + rank m) (omega arith) os sound.outputs)
      (rewired_below (m + rank m) σ os (λ j r. wire_below m (omega arith) j (read_below m j os sound.outputs r))))

  -- ---- the values

  module _ (x : List ℕ) where
    abbrev A : List ℕ
    A = storage_values ns x

    abbrev B : List ℕ
    B = storage_values (doubled ns) x

    first_value : (k : ℕ) → k < m → get_or B k 0 ≡ get_or A k 0
    unfolding doubled storage_values
    first_value k h =
        ap (λ (V : List ℕ). get_or V k 0) (values-append answer_of x ns copies 0 [])
        ∙ values_stay answer_of x copies (0 + input_count ns) (storage_values ns x) k (omega (arith, length-values answer_of x ns, h))

    second_stands : Stands ns x B (λ k. k < m) σ
    second_stands = record {
      reads = λ k j d r. let h = reads_earlier ns k os checks j r in (omega arith, h);
      input = λ k d c. rw c (first_value k d);
      cell = λ k d c. rw c (rewired_answer σ (nth_node ns k) (doubled ns) x (m + rank k) (nth_node ns k).name (second_node k c ∙ rw c) (second_below k d));
    }

    second_value : (k : ℕ) → k < m → signal_value B (σ k) ≡ get_or A k 0
    second_value k h = stands_value ns x B (λ k. k < m) σ second_stands k h

    outputs_twice : storage_outputs (doubled ns) (os ++ rewired σ os) x ≡ storage_outputs ns os x ++ storage_outputs ns os x
    unfolding storage_outputs outputs_from
    outputs_twice =
        map-append (signal_value B) os (rewired σ os)
        ∙ ap₂ (λ (a b : List ℕ). a ++ b) (wires_below B A m first_value os sound.outputs)
        (stands_wires ns x B (λ k. k < m) σ second_stands os (λ j r. read_below m j os sound.outputs r))

  pub doubled_is : IsDoubled ns os
  doubled_is = record {
    accepted = accepted (doubled ns) (os ++ rewired σ os) each_fits outputs_below;
    first = first_value;
    second = second_value;
    outputs = outputs_twice;
  }
