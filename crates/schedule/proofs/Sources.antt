-- The sources of the reads agree with the graph of the same node records.
-- Assumes nothing.
use Rattle.std.proofs.Common.{ℕ, zero, suc, ◌+◌, ◌-◌, ◌*◌, ◌/◌, ◌%◌, ◌≤◌, ◌<◌, ◌≡◌, Bool, true, false, cond, List, [], ◌∷◌, length, get_or, refl, sym, ap, ◌∙◌, arith}
use borrow.Author.Tests.{leb-false}
use Rattle.std.proofs.lemmas.Bool.{or_parts, true_from_ne_false}
use Rattle.std.specs.List.{filter}
use Rattle.graphs.specs.Graph.{is_cell, reads_of}
use Rattle.graphs.specs.declared.TheConstants.{READS}
use Rattle.circuit.specs.declared.records.BoolWire.{BoolWire}
use Rattle.circuit.specs.declared.records.BoolWire.TheVariants.{Const, Node}
use Rattle.circuit.specs.Records.{node_at, is_cell_node, wires_of, no_wire}
use Rattle.circuit.specs.Check.{some_not_below, not_below}
use Rattle.circuit.specs.Graph.{nodes_read}
use Rattle.circuit.proofs.Places.{few_wires}
use Rattle.schedule.specs.Call.{graph_in}
use Rattle.schedule.specs.Records.{Wired, wire_at, cell_read, source_of}
use Rattle.schedule.proofs.Records.{length_in, cell-is, reads_is}
use Rattle.ordering.specs.Areas.{with_source, sources, Sourced}

module _ (nodes : List ℕ) (n : ℕ) where
  -- reads by number, m of them from number e on, that read what these wires read
  module _ (src : ℕ → ℕ) where
    abbrev ReadsFrom : List BoolWire → ℕ → ℕ → Type 0
    ReadsFrom ws m e = (j : ℕ) → j < m → src (e + j) ≡ cell_read nodes (get_or ws j no_wire)

    first : (ws : List BoolWire) (m e : ℕ) → ReadsFrom ws (suc m) e → src e ≡ cell_read nodes (get_or ws 0 no_wire)
    first ws m e reads = let here : e ≡ e + 0 = omega arith in ap src here ∙ reads 0 (omega arith)

    later : (w : BoolWire) (ws : List BoolWire) (m e : ℕ) → ReadsFrom (w ∷ ws) (suc m) e → ReadsFrom ws m (suc e)
    later w ws m e reads j h = let there : suc e + j ≡ e + suc j = omega arith in ap src there ∙ reads (suc j) (omega arith)

    past : (m e : ℕ) → ReadsFrom [] (suc m) e → ReadsFrom [] m (suc e)
    past m e reads j h = let there : suc e + j ≡ e + suc j = omega arith in ap src there ∙ reads (suc j) (omega arith)

    wires_sourced : (ws : List BoolWire) (m e : ℕ) → length ws ≤ m → some_not_below n ws ≡ false → ReadsFrom ws m e → sources src e m ≡ filter (is_cell (graph_in nodes n)) (nodes_read ws)
    unfolding sources nodes_read
    wires_sourced [] zero e h inside reads = refl
    wires_sourced [] (suc m) e h inside reads = rw (first [] m e reads) (wires_sourced [] m (suc e) (omega arith) inside (past m e reads))
    wires_sourced (w ∷ ws) zero e h inside reads = absurd (omega arith)
    wires_sourced (Const b ∷ ws) (suc m) e h inside reads =
        rw (first (Const b ∷ ws) m e reads) (wires_sourced ws m (suc e) (omega arith) inside (later (Const b) ws m e reads))
    wires_sourced (Node x ∷ ws) (suc m) e h inside reads =
        let parts = or_parts (not_below n (Node x)) (some_not_below n ws) inside in
        let below : x.0 < n = leb-false n x.0 parts.0 in
        rw (first (Node x ∷ ws) m e reads, cell-is nodes n x.0 below)
        (go (is_cell_node (node_at nodes x.0)) (wires_sourced ws m (suc e) (omega arith) parts.1 (later (Node x) ws m e reads)))
      where
        go : (t : Bool) → sources src (suc e) m ≡ filter (is_cell (graph_in nodes n)) (nodes_read ws)
            → with_source (cond t (suc x.0) 0) (sources src (suc e) m) ≡ cond t (x.0 ∷ filter (is_cell (graph_in nodes n)) (nodes_read ws)) (filter (is_cell (graph_in nodes n)) (nodes_read ws))
        go true q = ap (λ l. x.0 ∷ l) q
        go false q = q

  -- what is no cell reads nothing
  no_source : (k position : ℕ) → is_cell_node (node_at nodes k) ≡ false → cell_read nodes (wire_at nodes k position) ≡ 0
  unfolding wires_of
  no_source k position e = rw e

  source_reader : (e x : ℕ) → source_of nodes e ≡ suc x → is_cell_node (node_at nodes ((e - 1) / READS)) ≡ true
  unfolding source_of
  source_reader e x h =
      true_from_ne_false (is_cell_node (node_at nodes ((e - 1) / READS))) (λ z. omega (arith, h, no_source ((e - 1) / READS) ((e - 1) % READS) z))

  reads_by_number : (q j : ℕ) → j < READS → source_of nodes (READS * q + 1 + j) ≡ cell_read nodes (wire_at nodes q j)
  unfolding source_of
  reads_by_number q j h =
      let node : (READS * q + 1 + j - 1) / READS ≡ q = omega arith in
      let position : (READS * q + 1 + j - 1) % READS ≡ j = omega arith in
      rw (node, position)

  pub sourced : Wired nodes n → Sourced (source_of nodes) (graph_in nodes n)
  sourced wired = record {
    reader = λ e x a b h. cell-is nodes n ((e - 1) / READS) (omega (arith, length_in nodes n)) ∙ source_reader e x h;
    sources_are = λ q h. at q (omega (arith, length_in nodes n));
  }
    where
      at : (q : ℕ) → q < n → sources (source_of nodes) (READS * q + 1) READS ≡ filter (is_cell (graph_in nodes n)) (reads_of (graph_in nodes n) q)
      at q h =
          wires_sourced (source_of nodes) (wires_of (node_at nodes q)) READS (READS * q + 1) (few_wires (node_at nodes q)) (wired q h) (reads_by_number q)
          ∙ ap (filter (is_cell (graph_in nodes n))) (sym (reads_is nodes n q h))
